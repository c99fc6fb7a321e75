-- A number determines its status, up to the library.
use Rattle.std.proofs.Common.{ℕ, ◌≡◌, refl, sym, ap, ◌∙◌, ◌==◌, if◌then◌else◌}
use Rattle.c_status.specs.declared.status.Status.{Status}
use Rattle.c_status.specs.declared.status.Status.TheVariants as status
use Rattle.c_status.specs.Statuses.{number_of, as_of_end, NumbersDetermineStatuses}

-- A status from its number.
abbrev status_back : ℕ → Status
status_back n =
    if n == 0 then status.Done
    else if n == 1 then status.NoEnd
    else if n == 2 then status.HasEnd
    else if n == 3 then status.CallOpen
    else if n == 4 then status.NoCall
    else if n == 5 then status.NoMemory
    else if n == 6 then status.BadCall
    else if n == 7 then status.ShortFrame
    else if n == 8 then status.LongFrame
    else if n == 9 then status.ShortRoom
    else if n == 10 then status.BadPeer
    else if n == 11 then status.BadPeers
    else if n == 12 then status.BadTable
    else if n == 13 then status.BadCommon
    else if n == 14 then status.BadOut
    else if n == 15 then status.SmallTable
    else if n == 16 then status.LargeRegion
    else if n == 17 then status.BadMtu
    else if n == 18 then status.SmallOut
    else if n == 19 then status.NoSlot
    else if n == 20 then status.OtherDevice
    else if n == 21 then status.BadClass
    else if n == 22 then status.OutOfSpace
    else if n == 23 then status.Loop
    else if n == 24 then status.BadVendorLength
    else if n == 25 then status.NoVendor
    else if n == 26 then status.OtherAccess
    else if n == 27 then status.BadCount
    else if n == 28 then status.BadVersion
    else if n == 29 then status.BadVector
    else if n == 40 then status.BadVectors
    else if n == 41 then status.BadAccess
    else if n == 42 then status.BadWindow
    else status.BadBase

status_is_back : (s : Status) → status_back (number_of s) ≡ as_of_end s
status_is_back status.Done = refl
status_is_back status.NoEnd = refl
status_is_back status.NoDevice = refl
status_is_back status.HasEnd = refl
status_is_back status.HasDevice = refl
status_is_back status.CallOpen = refl
status_is_back status.NoCall = refl
status_is_back status.NoMemory = refl
status_is_back status.BadCall = refl
status_is_back status.ShortFrame = refl
status_is_back status.LongFrame = refl
status_is_back status.ShortRoom = refl
status_is_back status.BadPeer = refl
status_is_back status.BadPeers = refl
status_is_back status.BadTable = refl
status_is_back status.BadCommon = refl
status_is_back status.BadOut = refl
status_is_back status.SmallTable = refl
status_is_back status.LargeRegion = refl
status_is_back status.BadMtu = refl
status_is_back status.SmallOut = refl
status_is_back status.NoSlot = refl
status_is_back status.OtherDevice = refl
status_is_back status.BadClass = refl
status_is_back status.OutOfSpace = refl
status_is_back status.Loop = refl
status_is_back status.BadVendorLength = refl
status_is_back status.NoVendor = refl
status_is_back status.OtherAccess = refl
status_is_back status.BadCount = refl
status_is_back status.BadVersion = refl
status_is_back status.BadVector = refl
status_is_back status.BadVectors = refl
status_is_back status.BadAccess = refl
status_is_back status.BadWindow = refl
status_is_back status.BadBase = refl

pub numbers_determine : NumbersDetermineStatuses
numbers_determine a b e = sym (status_is_back a) ∙ ap status_back e ∙ status_is_back b
