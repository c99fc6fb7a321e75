-- The statuses of the C libraries, and their numbers.
use Rattle.std.specs.Prelude.{ℕ, ◌≡◌}
use Rattle.section_map.specs.declared.sizes.Part.TheVariants.{Table, Common, Out}
use Rattle.section_map.specs.declared.sizes.GeometryFault.{GeometryFault}
use Rattle.section_map.specs.declared.sizes.GeometryFault.TheVariants as geometry
use Rattle.c_status.specs.declared.status.Status.{Status}
use Rattle.c_status.specs.declared.status.Status.TheVariants as status

abbrev pub number_of : Status → ℕ
number_of status.Done = 0
number_of status.NoEnd = 1
number_of status.NoDevice = 1
number_of status.HasEnd = 2
number_of status.HasDevice = 2
number_of status.CallOpen = 3
number_of status.NoCall = 4
number_of status.NoMemory = 5
number_of status.BadCall = 6
number_of status.ShortFrame = 7
number_of status.LongFrame = 8
number_of status.ShortRoom = 9
number_of status.BadPeer = 10
number_of status.BadPeers = 11
number_of status.BadTable = 12
number_of status.BadCommon = 13
number_of status.BadOut = 14
number_of status.SmallTable = 15
number_of status.LargeRegion = 16
number_of status.BadMtu = 17
number_of status.SmallOut = 18
number_of status.NoSlot = 19
number_of status.OtherDevice = 20
number_of status.BadClass = 21
number_of status.OutOfSpace = 22
number_of status.Loop = 23
number_of status.BadVendorLength = 24
number_of status.NoVendor = 25
number_of status.OtherAccess = 26
number_of status.BadCount = 27
number_of status.BadVersion = 28
number_of status.BadVector = 29
number_of status.BadVectors = 40
number_of status.BadAccess = 41
number_of status.BadWindow = 42
number_of status.BadBase = 43

-- What both libraries say of a handle, by the word of the library of an end: it is empty, or isn't.
abbrev pub as_of_end : Status → Status
as_of_end status.NoDevice = status.NoEnd
as_of_end status.HasDevice = status.HasEnd
as_of_end other = other

-- Two statuses with one number are the same, up to the library whose handle they speak of.
abbrev pub NumbersDetermineStatuses : Type 0
NumbersDetermineStatuses = (a b : Status) → number_of a ≡ number_of b → as_of_end a ≡ as_of_end b

-- The status of sizes that no region has.
abbrev pub geometry_status : GeometryFault → Status
geometry_status (geometry.BadPeers peers) = status.BadPeers
geometry_status (geometry.BadPage Table size) = status.BadTable
geometry_status (geometry.BadPage Common size) = status.BadCommon
geometry_status (geometry.BadPage Out size) = status.BadOut
geometry_status (geometry.TableTooSmall need found) = status.SmallTable
geometry_status (geometry.TooLarge bytes) = status.LargeRegion
