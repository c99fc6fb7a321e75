-- The link machine: the effects that the steps of the two link peers may have on their States,
-- lists and counts. It has no rings, places or doorbells (profile).
use Rattle.std.specs.Prelude.{ℕ, ◌≡◌, ◌≢◌, ◌%◌, ◌+◌, ◌-◌, ◌<◌, ◌≤◌, ◌==◌, ◌⊎◌, Bool, true, false, if◌then◌else◌, Option, Some, None, List, [], ◌∷◌, ◌++◌, length, slice_get}
use Rattle.link_handshake.specs.PhaseTable.{phase_of_state}
use Rattle.split_ring.specs.declared.ranges.FieldName.{FieldName}
use Rattle.split_ring.specs.declared.ranges.FieldName.TheVariants as field_name
use Rattle.split_ring.specs.Layout.{Sizes, size_of, limit_of}
use Rattle.split_ring.specs.Frames.{has_room}
use Rattle.ivs_base.specs.Numbers.{distance}
use Rattle.split_ring.specs.declared.sizes.TheConstants.{FRAME_OVERHEAD, LONGEST_FRAME, SHORTEST_FRAME}
use Rattle.split_ring.specs.Spelling.{high_half, entry_half, desc_flags}
use Rattle.split_ring.specs.Ranges.{IsAvailIndex, IsAvailEntry, IsDescAddress, IsDescLength, IsDescFlags, IsUsedIndex, IsUsedId}
use Rattle.call_grammar.specs.Steps.{Mark, Saw, Reclaim, Full, Accept, Look, Deliver, Return, Done, Down, Refuse, Over}
use Rattle.call_grammar.specs.Words.{address_of, lengths_of}
use Rattle.call_grammar.specs.Rows.{MovesTo}

-- One side of the link:
-- - its State; the value that it saw since it last wrote its State; and whether it refused;
-- - the values that it read since its last mark or reset;
-- - of its present session, the frames accepted and delivered;
-- - of its present session, the numbers of frames published as far as it looked, of frames returned
--   and of frames freed;
-- - the number of frames freed by its last read of the used index.
pub record Side : Type 0 where
  pub state : ℕ
  pub seen : Option ℕ
  pub refused : Bool
  pub read : List ℕ
  pub accepted : List (List ℕ)
  pub delivered : List (List ℕ)
  pub looked : ℕ
  pub returned : ℕ
  pub freed : ℕ
  pub reclaimed : ℕ

abbrev pub initial_side : Side
initial_side = record { state = 0; seen = None; refused = false; read = []; accepted = []; delivered = []; looked = 0; returned = 0; freed = 0; reclaimed = 0 }

-- The effect of a step on a side: the value of a read, a write of the State, a mark, or a reset.
pub data SideEvent : Type 0 where
  Gave : (value : ℕ) → SideEvent
  Wrote : (state : ℕ) → SideEvent
  Marked : (mark : Mark) → SideEvent
  WasReset : SideEvent

-- An honest side writes 0, or the State of its move for the value that it saw since its last write.
-- After a refusal it writes only 0. A hostile side writes any value.
abbrev pub MayWriteState : Bool → Side → ℕ → Type 0
MayWriteState true side state = (state ≡ 0) ⊎ ((side.refused ≡ false) × ((value : ℕ) × (side.seen ≡ Some value) × MovesTo (phase_of_state side.state) value state))
MayWriteState false side state = Unit {0}

-- A write of 2 opens a session, whose lists and counts are empty.
abbrev pub side_with : Side → ℕ → Side
side_with side state = record {
  state = state;
  seen = None;
  refused = side.refused;
  read = side.read;
  accepted = if state == 2 then [] else side.accepted;
  delivered = if state == 2 then [] else side.delivered;
  looked = if state == 2 then 0 else side.looked;
  returned = if state == 2 then 0 else side.returned;
  freed = if state == 2 then 0 else side.freed;
  reclaimed = if state == 2 then 0 else side.reclaimed;
}

-- An index is read once for each use. The only value that the side read since its last mark is the
-- word of the index. `count` is the distance from the side's own count `own` to that index.
abbrev pub ReadsIndex : Side → (own count : ℕ) → Type 0
ReadsIndex side own count = (word : ℕ) × (side.read ≡ word ∷ []) × (count ≡ distance (own % 65536) (high_half word))

-- `count` frames are reclaimed: all that an honest other returned, or at most the frames in flight.
abbrev pub MayReclaim : Bool → Side → Side → ℕ → Type 0
MayReclaim true side other count = side.freed + count ≡ other.returned
MayReclaim false side other count = side.freed + count ≤ length side.accepted

-- A read of the available index finds all frames that an honest other accepted, or at most the
-- queue size.
abbrev pub MayLook : Sizes → Bool → Side → Side → ℕ → Type 0
MayLook sizes true side other count = length side.delivered + count ≡ length other.accepted
MayLook sizes false side other count = count ≤ size_of sizes

-- The next frame that an honest other accepted, or any Ethernet frame.
abbrev pub MayDeliver : Bool → Side → Side → List ℕ → Type 0
MayDeliver true side other frame = slice_get other.accepted (length side.delivered) ≡ Some frame
MayDeliver false side other frame = (SHORTEST_FRAME ≤ length frame) × (length frame ≤ LONGEST_FRAME)

-- The value is in the values that the side read last, and is outside the range of its field,
-- relative to the side's own counts. For a field of an item, the values read before are the item's,
-- and the length is tested with the address read. For an offer, the j-th id belongs to the j-th
-- frame that the offer freed.
abbrev pub IsBeyond : Sizes → Side → FieldName → ℕ → Type 0
IsBeyond sizes side field_name.AvailIndex value =
    (word : ℕ) × (side.read ≡ word ∷ []) × (value ≡ high_half word) × (¬ IsAvailIndex sizes (length side.delivered % 65536) value)
IsBeyond sizes side field_name.AvailEntry value =
    (word : ℕ) × (side.read ≡ word ∷ []) × (value ≡ entry_half (length side.delivered % size_of sizes) word) × (¬ IsAvailEntry sizes value)
IsBeyond sizes side field_name.DescAddress value =
    (word low high : ℕ) × (side.read ≡ word ∷ low ∷ high ∷ []) × (value ≡ address_of low high) × (¬ IsDescAddress sizes value)
IsBeyond sizes side field_name.DescLength value =
    (word low high : ℕ) × (side.read ≡ word ∷ low ∷ high ∷ value ∷ []) × IsDescAddress sizes (address_of low high) ×
    (¬ IsDescLength sizes (address_of low high) value)
IsBeyond sizes side field_name.DescFlags value =
    (word low high bytes flags : ℕ) × (side.read ≡ word ∷ low ∷ high ∷ bytes ∷ flags ∷ []) × (value ≡ desc_flags flags) × (¬ IsDescFlags value)
IsBeyond sizes side field_name.UsedIndex value =
    (word : ℕ) × (side.read ≡ word ∷ []) × (value ≡ high_half word) × (¬ IsUsedIndex (side.freed % 65536) value (length side.accepted - side.freed))
IsBeyond sizes side field_name.UsedId value =
    (ids : List ℕ) × (side.read ≡ ids ++ value ∷ []) × (length ids < side.reclaimed) ×
    (¬ IsUsedId ((side.freed - side.reclaimed + length ids) % limit_of sizes) value)

-- The frame fits after the frames that the side has accepted.
abbrev pub frame_fits : Sizes → Side → List ℕ → Bool
frame_fits sizes side frame = has_room sizes (lengths_of (side.accepted ++ frame ∷ [])) side.freed (length side.accepted)

-- A frame that may be offered doesn't fit, and the number of frames in flight is at most the limit.
-- With slots this number is the limit. The mark has no frame, so with a byte ring this says less
-- than that the offered frame doesn't fit. `full_marks` of call_grammar/specs/Offers says exactly
-- that of each offer, by `frame_fits`.
pub record IsFull (sizes : Sizes) (side : Side) : Type 0 where
  pub frame : List ℕ
  pub least : SHORTEST_FRAME ≤ length frame
  pub most : length frame ≤ sizes.mtu + FRAME_OVERHEAD
  pub none : frame_fits sizes side frame ≡ false
  pub in_flight : length side.accepted ≤ side.freed + limit_of sizes

-- The row of a mark: the side after it, and the condition under which a side may have it against an
-- honest or hostile other. The list of values read is empty after each mark. The marks of offers
-- and polls need RUN.
abbrev pub MarkRow : Sizes → Bool → Side → Side → Mark → Side → Type 0
MarkRow sizes honest side other (Saw value) new = (side.read ≡ value ∷ []) × (value ≡ other.state) × (new ≡ record side { seen = Some value; read = [] })
MarkRow sizes honest side other (Accept frame) new =
    (side.state ≡ 3) × (frame_fits sizes side frame ≡ true) × (new ≡ record side { accepted = side.accepted ++ frame ∷ []; read = [] })
MarkRow sizes honest side other (Reclaim count) new =
    (side.state ≡ 3) × ReadsIndex side side.freed count × MayReclaim honest side other count ×
    (new ≡ record side { freed = side.freed + count; reclaimed = count; read = [] })
MarkRow sizes honest side other Full new = (side.state ≡ 3) × IsFull sizes side × (new ≡ record side { read = [] })
MarkRow sizes honest side other (Look count) new =
    (side.state ≡ 3) × ReadsIndex side (length side.delivered) count × MayLook sizes honest side other count ×
    (new ≡ record side { looked = length side.delivered + count; read = [] })
MarkRow sizes honest side other (Deliver frame) new =
    (side.state ≡ 3) × (length side.delivered < side.looked) × MayDeliver honest side other frame ×
    (new ≡ record side { delivered = side.delivered ++ frame ∷ []; read = [] })
MarkRow sizes honest side other Return new =
    (side.state ≡ 3) × (side.returned + 1 ≡ length side.delivered) × (new ≡ record side { returned = side.returned + 1; read = [] })
MarkRow sizes honest side other Done new = (side.state ≡ 3) × (length side.delivered ≡ side.looked) × (new ≡ record side { read = [] })
MarkRow sizes honest side other Down new = (side.state ≢ 3) × (new ≡ record side { read = [] })
MarkRow sizes honest side other (Refuse refused) new =
    (honest ≡ false) × (side.state ≡ 3) × IsBeyond sizes side refused.field refused.value × (new ≡ record side { refused = true; read = [] })
MarkRow sizes honest side other Over new = new ≡ record side { read = [] }

-- The row of a step of a side: `own_honest` and `other_honest` are whether the side and the other
-- are honest. A hostile side has no marks. A reset clears a refusal; the lists stay until the next
-- session.
abbrev pub Row : Sizes → (own_honest other_honest : Bool) → Side → Side → SideEvent → Side → Type 0
Row sizes own_honest other_honest side other (Gave value) new = new ≡ record side { read = side.read ++ value ∷ [] }
Row sizes own_honest other_honest side other (Wrote state) new = MayWriteState own_honest side state × (new ≡ side_with side state)
Row sizes own_honest other_honest side other (Marked mark) new = (own_honest ≡ true) × MarkRow sizes other_honest side other mark new
Row sizes own_honest other_honest side other WasReset new = new ≡ record side { state = 0; seen = None; refused = false; read = [] }

-- The sessions of a side

-- A session in RUN that is over: the number of the other's session that it carried, and the frames
-- delivered in it.
pub record Ended : Type 0 where
  pub carried : ℕ
  pub delivered : List (List ℕ)

-- The sessions of a side: the number that it opened, and the other's session that its last session
-- in RUN carried, or 0. `earlier` has the frames accepted in each earlier session, and `ended` the
-- sessions in RUN that are over, newest first.
pub record Log : Type 0 where
  pub opened : ℕ
  pub carried : ℕ
  pub earlier : ℕ → List (List ℕ)
  pub ended : List Ended

abbrev pub no_sessions : Log
no_sessions = record { opened = 0; carried = 0; earlier = λ number. []; ended = [] }

-- The frames accepted in the session with this number.
abbrev pub accepted_in : Log → Side → ℕ → List (List ℕ)
accepted_in log side number = if number == log.opened then side.accepted else log.earlier number

-- A session in RUN ends with the next write of the State or with a reset.
abbrev pub ended_with : Log → Side → List Ended
ended_with log side = if side.state == 3 then record { carried = log.carried; delivered = side.delivered } ∷ log.ended else log.ended

-- The log after a step of its side. A write of 2 opens a session, and a write of 3 carries the
-- session that the other opened last.
abbrev pub log_after : Log → Log → Side → SideEvent → Log
log_after log others side (Wrote state) = record {
  opened = if state == 2 then log.opened + 1 else log.opened;
  carried = if state == 3 then others.opened else log.carried;
  earlier = λ number. (if state == 2 then accepted_in log side number else log.earlier number);
  ended = ended_with log side;
}
log_after log others side (Gave value) = log
log_after log others side (Marked mark) = log
log_after log others side WasReset = record log { ended = ended_with log side }

-- The states of the two sides and their sessions that steps can reach from the start.
pub data MachineRuns (sizes : Sizes) (honest : ℕ → Bool) : (ℕ → Side) → (ℕ → Log) → Type 0 where
  starts : (sides : ℕ → Side) (logs : ℕ → Log) → ((p : ℕ) → sides p ≡ initial_side) → ((p : ℕ) → logs p ≡ no_sessions) → MachineRuns sizes honest sides logs
  goes : (sides after : ℕ → Side) (logs new_logs : ℕ → Log) (p : ℕ) (side_event : SideEvent) → MachineRuns sizes honest sides logs → p < 2 →
      Row sizes (honest p) (honest (1 - p)) (sides p) (sides (1 - p)) side_event (after p) → after (1 - p) ≡ sides (1 - p) →
      new_logs p ≡ log_after (logs p) (logs (1 - p)) (sides p) side_event → new_logs (1 - p) ≡ logs (1 - p) → MachineRuns sizes honest after new_logs

-- Each of these sessions delivered a beginning of what the other accepted in the session that it
-- carried.
abbrev pub AreBeginnings : Log → Side → List Ended → Type 0
AreBeginnings others other [] = Unit {0}
AreBeginnings others other (session ∷ sessions) = (session.carried ≤ others.opened) ×
    ((rest : List (List ℕ)) × (accepted_in others other session.carried ≡ session.delivered ++ rest)) × AreBeginnings others other sessions

-- The numbers that these sessions carried descend from below `above`: no two sessions carried the
-- same.
abbrev pub CarriedFall : ℕ → List Ended → Type 0
CarriedFall above [] = Unit {0}
CarriedFall above (session ∷ sessions) = (session.carried < above) × CarriedFall session.carried sessions

-- A side delivers in order. In RUN it delivered a beginning of what the other accepted in its
-- present session, which is the one that the side carries. In each session that is over it
-- delivered a beginning of what was accepted in the session that it carried. No session was carried
-- twice.
pub record DeliversInOrder (side other : Side) (log others : Log) : Type 0 where
  pub present : side.state ≡ 3 → (log.carried ≡ others.opened) × ((rest : List (List ℕ)) × (other.accepted ≡ side.delivered ++ rest)) ×
      CarriedFall log.carried log.ended
  pub past : AreBeginnings others other log.ended
  pub once : CarriedFall (log.carried + 1) log.ended

-- In a run of two honest sides each delivers in order, through all sessions.
abbrev pub MachineDelivers : Type 0
MachineDelivers = (sizes : Sizes) (honest : ℕ → Bool) (sides : ℕ → Side) (logs : ℕ → Log) → honest 0 ≡ true → honest 1 ≡ true →
    MachineRuns sizes honest sides logs →
    (p : ℕ) → p < 2 → DeliversInOrder (sides p) (sides (1 - p)) (logs p) (logs (1 - p))
