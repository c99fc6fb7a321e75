-- The invariant of one honest end, for all that the other does. It is a property of the end and its
-- place in a call, over the words of the region.
use Rattle.std.specs.Prelude.{◌≡◌, ◌≢◌, ℕ, zero, suc, ◌+◌, ◌/◌, ◌%◌, ◌<◌, ◌≤◌, true, false, List, [], ◌∷◌, ◌++◌, length, get_or}
use Rattle.split_ring.specs.Layout.{size_of, limit_of}
use Rattle.split_ring.specs.Frames.{start_of, has_room}
use Rattle.split_ring.specs.Ranges.{IsDescAddress, IsDescLength}
use Rattle.link_handshake.specs.declared.Phase.{Phase}
use Rattle.link_handshake.specs.declared.Phase.TheVariants.{Reset, Init, Ready, Run}
use Rattle.link_handshake.specs.PhaseTable.{state_of}
use Rattle.call_grammar.specs.Ends.{End}
use Rattle.call_grammar.specs.Words.{words_for, lengths_of, frame_word}
use Rattle.call_grammar.specs.Offers.{PendingOffer}
use Rattle.call_grammar.specs.Places.{Place, Closed, ReadingOtherState, Clearing, WritingState, Refusing, NotInRun, ReadingUsedIndex, ReadingUsedId, WritingFrameWord, WritingDescAddressLow, WritingDescAddressHigh, WritingDescLength, WritingDescFlags, WritingAvailEntry, WritingAvailIndex, ReadingAvailEvent, ReadingAvailIndex, WritingAvailEvent, ReadingAvailEntry, ReadingDescAddressLow, ReadingDescAddressHigh, ReadingDescLength, ReadingDescFlags, ReadingFrameWord, WritingUsedId, WritingUsedLength, WritingUsedIndex}
use Rattle.link_invariant.specs.Fields.{Field, AvailIndex, UsedIndex, AvailEntry, AddressLow, AddressHigh, DescLength, DescFlags, DataWord, part_of}
use Rattle.link_invariant.specs.LinkConfig.{LinkConfig, section_of, fields, IsOffered}

-- Frames in flight

-- The frame with this number.
abbrev pub frame_at : List (List ℕ) → ℕ → List ℕ
frame_at frames k = get_or frames k []

-- The byte of the section at which this frame starts.
abbrev pub start_in : LinkConfig → List (List ℕ) → ℕ → ℕ
start_in link_config frames k = start_of link_config.sizes (lengths_of frames) k

-- The fields hold this frame at position k in the sender's own form. The available entry names
-- descriptor k mod the limit, whose address is `start`.
pub record Spelled (link_config : LinkConfig) (field : Field → ℕ) (k start : ℕ) (frame : List ℕ) : Type 0 where
  pub offered : IsOffered link_config frame
  pub entry : field (AvailEntry (k % size_of link_config.sizes)) ≡ k % limit_of link_config.sizes
  pub low : field (AddressLow (k % limit_of link_config.sizes)) ≡ start
  pub high : field (AddressHigh (k % limit_of link_config.sizes)) ≡ 0
  pub size : field (DescLength (k % limit_of link_config.sizes)) ≡ length frame
  pub flags : field (DescFlags (k % limit_of link_config.sizes)) ≡ 0
  pub words : (j : ℕ) → j < words_for (length frame) → field (DataWord (start / 4 + j)) ≡ frame_word frame j

-- The own section in a session: the indices are the counts, and the section holds each frame in
-- flight.
pub record OwnSection (link_config : LinkConfig) (field : Field → ℕ) (accepted : List (List ℕ)) (freed returned : ℕ) : Type 0 where
  pub available : field AvailIndex ≡ length accepted % 65536
  pub used : field UsedIndex ≡ returned % 65536
  pub spelled : (k : ℕ) → freed ≤ k → k < length accepted → Spelled link_config field k (start_in link_config accepted k) (frame_at accepted k)

-- The words that an open offer has written

-- The pending offer is of the next frame after those that were accepted, and has the neighbouring
-- entry of its entry's word.
pub record IsNext (link_config : LinkConfig) (field : Field → ℕ) (accepted : List (List ℕ)) (pending : PendingOffer) : Type 0 where
  pub frame : IsOffered link_config pending.frame
  pub number : pending.number ≡ length accepted
  pub lengths : pending.lengths ≡ lengths_of (accepted ++ pending.frame ∷ [])
  pub neighbour_word : (e : ℕ) → e ≢ pending.number % size_of link_config.sizes → e / 2 ≡ pending.number % size_of link_config.sizes / 2 →
      part_of (AvailEntry e) pending.neighbour_word ≡ field (AvailEntry e)

-- The byte at which its frame starts.
abbrev pub start_for : LinkConfig → PendingOffer → ℕ
start_for link_config pending = start_of link_config.sizes pending.lengths pending.number

-- Its frame fits after `freed` frames were freed.
abbrev pub HasRoom : LinkConfig → PendingOffer → ℕ → Type 0
HasRoom link_config pending freed = has_room link_config.sizes pending.lengths freed pending.number ≡ true

-- Its frame fits, and its first `count` words are written.
pub record Filled (link_config : LinkConfig) (field : Field → ℕ) (accepted : List (List ℕ)) (freed : ℕ) (pending : PendingOffer) (count : ℕ) : Type 0 where
  pub next : IsNext link_config field accepted pending
  pub room : HasRoom link_config pending freed
  pub words : (j : ℕ) → j < count → field (DataWord (start_for link_config pending / 4 + j)) ≡ frame_word pending.frame j

-- All words of its frame are written. The following definitions are for each part of the
-- descriptor.
abbrev pub HasWords : LinkConfig → (Field → ℕ) → End → PendingOffer → Type 0
HasWords link_config field end pending = Filled link_config field end.accepted end.freed pending (words_for (length pending.frame))

abbrev pub HasLow : LinkConfig → (Field → ℕ) → PendingOffer → Type 0
HasLow link_config field pending = field (AddressLow (pending.number % limit_of link_config.sizes)) ≡ start_for link_config pending

abbrev pub HasHigh : LinkConfig → (Field → ℕ) → PendingOffer → Type 0
HasHigh link_config field pending = field (AddressHigh (pending.number % limit_of link_config.sizes)) ≡ 0

abbrev pub HasLength : LinkConfig → (Field → ℕ) → PendingOffer → Type 0
HasLength link_config field pending = field (DescLength (pending.number % limit_of link_config.sizes)) ≡ length pending.frame

abbrev pub HasFlags : LinkConfig → (Field → ℕ) → PendingOffer → Type 0
HasFlags link_config field pending = field (DescFlags (pending.number % limit_of link_config.sizes)) ≡ 0

-- The invariant of each place

-- The first `count` words of the section are 0.
pub record IsClear (link_config : LinkConfig) (memory : ℕ → ℕ) (p count : ℕ) : Type 0 where
  pub none : (j : ℕ) → j < count → memory (section_of link_config p + j) ≡ 0

-- An end of this phase may set this State: READY only if its section is 0.
abbrev pub MaySet : LinkConfig → (ℕ → ℕ) → ℕ → Phase → ℕ → Type 0
MaySet link_config memory p phase zero = Unit {0}
MaySet link_config memory p phase (suc zero) = phase ≡ Reset
MaySet link_config memory p phase (suc (suc zero)) = (phase ≡ Init) × IsClear link_config memory p link_config.words
MaySet link_config memory p phase (suc (suc (suc zero))) = phase ≡ Ready
MaySet link_config memory p phase (suc (suc (suc (suc more)))) = ⊥

-- The words of the section before word `at` are clear, and `more` words follow it.
abbrev pub HasCleared : LinkConfig → (ℕ → ℕ) → ℕ → (at more : ℕ) → Type 0
HasCleared link_config memory p at more = (count : ℕ) × (at ≡ section_of link_config p + count) × (count + suc more ≡ link_config.words) × IsClear link_config memory p count

abbrev pub InRun : End → Type 0
InRun end = end.handshake.phase ≡ Run

-- The item with this number is the next one to be delivered. `IsGivenBack` says that it is the next
-- one to be returned.
abbrev pub IsTaken : End → ℕ → Type 0
IsTaken end number = number ≡ length end.delivered

abbrev pub IsGivenBack : End → ℕ → Type 0
IsGivenBack end number = number ≡ end.returned

-- With the current item, the number of items left is at most the queue size.
abbrev pub AreFew : LinkConfig → ℕ → Type 0
AreFew link_config more = more < size_of link_config.sizes

-- The invariant of a place. It is on the State that a tick may set, the words that an offer has
-- written, or the tested values of a poll.
abbrev pub PlaceInvariant : LinkConfig → (ℕ → ℕ) → ℕ → End → Place → Type 0
PlaceInvariant link_config memory p end Closed = Unit {0}
PlaceInvariant link_config memory p end (ReadingOtherState handshake) = handshake ≡ end.handshake
PlaceInvariant link_config memory p end (Clearing at more state) = (end.handshake.phase ≡ Init) × (state ≡ 2) × HasCleared link_config memory p at more
PlaceInvariant link_config memory p end (WritingState state) = MaySet link_config memory p end.handshake.phase state
PlaceInvariant link_config memory p end NotInRun = end.handshake.phase ≢ Run
PlaceInvariant link_config memory p end (ReadingUsedIndex pending freed) = InRun end × IsNext link_config (fields link_config memory p) end.accepted pending × (freed ≡ end.freed)
PlaceInvariant link_config memory p end (ReadingUsedId pending freed more) =
    InRun end × IsNext link_config (fields link_config memory p) end.accepted pending × (freed + suc more ≡ end.freed) ×
    (length end.accepted ≤ freed + limit_of link_config.sizes)
PlaceInvariant link_config memory p end (WritingFrameWord pending at more) =
    InRun end × Filled link_config (fields link_config memory p) end.accepted end.freed pending at × (at + suc more ≡ words_for (length pending.frame))
PlaceInvariant link_config memory p end (WritingDescAddressLow pending) = InRun end × HasWords link_config (fields link_config memory p) end pending
PlaceInvariant link_config memory p end (WritingDescAddressHigh pending) = InRun end × HasWords link_config (fields link_config memory p) end pending × HasLow link_config (fields link_config memory p) pending
PlaceInvariant link_config memory p end (WritingDescLength pending) =
    InRun end × HasWords link_config (fields link_config memory p) end pending × HasLow link_config (fields link_config memory p) pending × HasHigh link_config (fields link_config memory p) pending
PlaceInvariant link_config memory p end (WritingDescFlags pending) =
    InRun end × HasWords link_config (fields link_config memory p) end pending × HasLow link_config (fields link_config memory p) pending × HasHigh link_config (fields link_config memory p) pending ×
    HasLength link_config (fields link_config memory p) pending
PlaceInvariant link_config memory p end (WritingAvailEntry pending) =
    InRun end × HasWords link_config (fields link_config memory p) end pending × HasLow link_config (fields link_config memory p) pending × HasHigh link_config (fields link_config memory p) pending ×
    HasLength link_config (fields link_config memory p) pending × HasFlags link_config (fields link_config memory p) pending
PlaceInvariant link_config memory p end (WritingAvailIndex pending) =
    InRun end × (pending.number ≡ length end.accepted) × (pending.lengths ≡ lengths_of (end.accepted ++ pending.frame ∷ [])) × HasRoom link_config pending end.freed ×
    Spelled link_config (fields link_config memory p) pending.number (start_for link_config pending) pending.frame
PlaceInvariant link_config memory p end (ReadingAvailEvent number) = InRun end × (number + 1 ≡ length end.accepted)
PlaceInvariant link_config memory p end (ReadingAvailIndex taken last) = InRun end × IsTaken end taken
PlaceInvariant link_config memory p end (WritingAvailEvent taken) = InRun end × IsTaken end taken
PlaceInvariant link_config memory p end (ReadingAvailEntry number more) = InRun end × IsTaken end number × AreFew link_config more
PlaceInvariant link_config memory p end (ReadingDescAddressLow number more entry) = InRun end × IsTaken end number × (entry < size_of link_config.sizes) × AreFew link_config more
PlaceInvariant link_config memory p end (ReadingDescAddressHigh number more entry low) = InRun end × IsTaken end number × (entry < size_of link_config.sizes) × AreFew link_config more
PlaceInvariant link_config memory p end (ReadingDescLength number more entry address) =
    InRun end × IsTaken end number × (entry < size_of link_config.sizes) × IsDescAddress link_config.sizes address × AreFew link_config more
PlaceInvariant link_config memory p end (ReadingDescFlags number more entry address bytes) =
    InRun end × IsTaken end number × (entry < size_of link_config.sizes) × IsDescAddress link_config.sizes address ×
    IsDescLength link_config.sizes address bytes × AreFew link_config more
PlaceInvariant link_config memory p end (ReadingFrameWord number more entry address bytes read words) =
    InRun end × IsTaken end number × (entry < size_of link_config.sizes) × IsDescAddress link_config.sizes address ×
    IsDescLength link_config.sizes address bytes × (length read + suc words ≡ words_for bytes) × AreFew link_config more
PlaceInvariant link_config memory p end (WritingUsedId number more entry) = InRun end × IsGivenBack end number × (entry < size_of link_config.sizes) × AreFew link_config more
PlaceInvariant link_config memory p end (WritingUsedLength number more) = InRun end × IsGivenBack end number × AreFew link_config more
PlaceInvariant link_config memory p end (WritingUsedIndex number more) = InRun end × IsGivenBack end number × AreFew link_config more
PlaceInvariant link_config memory p end place = InRun end

-- The number of frames delivered and not yet returned; and a second count, which is 0 at each
-- place.
abbrev pub counts : Place → ℕ × ℕ
counts (WritingUsedId number more entry) = (1, 0)
counts (WritingUsedLength number more) = (1, 0)
counts (WritingUsedIndex number more) = (1, 0)
counts place = (0, 0)

-- An end that refused is at its refusal, or in RESET and sets nothing but 0.
abbrev pub RefusalIsFinal : End → Place → Type 0
RefusalIsFinal end Refusing = Unit {0}
RefusalIsFinal end Closed = end.handshake.mark ≡ true → end.handshake.phase ≡ Reset
RefusalIsFinal end (ReadingOtherState handshake) = end.handshake.mark ≡ true → end.handshake.phase ≡ Reset
RefusalIsFinal end (WritingState zero) = end.handshake.mark ≡ true → end.handshake.phase ≡ Reset
RefusalIsFinal end NotInRun = end.handshake.mark ≡ true → end.handshake.phase ≡ Reset
RefusalIsFinal end place = end.handshake.mark ≡ false

-- The end

-- A session is open.
abbrev pub Opened : Phase → Type 0
Opened Reset = ⊥
Opened Init = ⊥
Opened Ready = Unit {0}
Opened Run = Unit {0}

-- A session in READY: the section is 0, the lists are empty and the counts are 0.
pub record IsBlank (link_config : LinkConfig) (memory : ℕ → ℕ) (p : ℕ) (end : End) : Type 0 where
  pub section : IsClear link_config memory p link_config.words
  pub accepted : end.accepted ≡ []
  pub freed : end.freed ≡ 0
  pub delivered : end.delivered ≡ []
  pub returned : end.returned ≡ 0

-- The invariant of one honest end. Its State word is its phase, and its section is what it wrote
-- there last. Its place satisfies its invariant, and its counts are in order in every phase.
pub record EndInvariant (link_config : LinkConfig) (memory : ℕ → ℕ) (p : ℕ) (end : End) (place : Place) : Type 0 where
  pub state : memory p ≡ state_of end.handshake.phase
  pub written : (j : ℕ) → j < link_config.words → memory (section_of link_config p + j) ≡ end.written (section_of link_config p + j)
  pub holds : PlaceInvariant link_config memory p end place
  pub rests : RefusalIsFinal end place
  pub ready : end.handshake.phase ≡ Ready → IsBlank link_config memory p end
  pub level : Opened end.handshake.phase → length end.delivered ≡ end.returned + (counts place).0
  pub sent : Opened end.handshake.phase → OwnSection link_config (fields link_config memory p) end.accepted end.freed end.returned
  pub freed : end.freed ≤ length end.accepted
  pub room : length end.accepted ≤ end.freed + limit_of link_config.sizes
