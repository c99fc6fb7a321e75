-- The exact answer of each export, and its effect on the end of a handle.
use Rattle.std.specs.Prelude.{ℕ, ◌≡◌, ◌≢◌, ◌+◌, ◌/◌, ◌%◌, ◌==◌, ◌<◌, ◌≤◌, nat_lt, if◌then◌else◌, List, length, drop, ◌++◌, Option, Some, None, is_none, IfSome}
use Rattle.split_ring.specs.declared.sizes.TheConstants.{FRAME_OVERHEAD, SHORTEST_FRAME}
use Rattle.split_ring.specs.Layout.{IsVersion, IsQueue}
use Rattle.split_ring.specs.declared.steps.Access as steps
use Rattle.split_ring.specs.declared.steps.Note.{Note}
use Rattle.link_endpoint.specs.declared.order.Ordering.{Ordering}
use Rattle.link_endpoint.specs.Engine.{config_of, is_busy, delivered, reads_ahead, writes_ahead, bursts_of, offered}
use Rattle.ivshm_c.specs.declared.crossing.Access.{Access}
use Rattle.ivshm_c.specs.declared.crossing.Notes.{Notes}
use Rattle.ivshm_c.specs.declared.device.Found.{Found}
use Rattle.ivshm_c.specs.declared.end_state.EndState.{EndState}
use Rattle.ivshm_c.specs.declared.end_state.Outcome.TheVariants.{Never, Open}
use Rattle.c_status.specs.declared.status.Status.{Status}
use Rattle.c_status.specs.declared.status.Status.TheVariants.{Done, NoEnd, HasEnd, CallOpen, NoCall, NoMemory, BadCall, ShortFrame, LongFrame, ShortRoom, BadPeer, OtherAccess, BadCount, BadVersion, BadVector}
use Rattle.ivshm_c.specs.Counts.{no_counts, counts_after}
use Rattle.ivshm_c.specs.Crossing.{call_numbered, access_crossed, notes_crossed}
use Rattle.ivshm_c.specs.EndStates.{Begins, Offers, IsNext, IsAhead, AreWritten, ReadsAtOnce, ReadsWhole, WritesAtOnce, Steps, IsStarted, Restarts, outcome_after, outcome_cut}
use Rattle.ivshm_c.specs.Sizes.{shape_found, sizes_found, HasSizes, IsSizeFault}

-- A handle without an end has the answer NoEnd for every call.
abbrev pub answer_at : Option EndState → (EndState → Status) → Status
answer_at None answer = NoEnd
answer_at (Some port) answer = answer port

-- If the answer is Done, the end makes the step. If not, nothing changes.
abbrev pub Where : Status → Type 0 → Type 0 → Type 0
Where Done step rest = step
Where status step rest = rest

-- The answers of the calls

abbrev pub begin_answer : ℕ → EndState → Status
begin_answer call port =
    if is_none (call_numbered call) then BadCall
    else if is_busy port.endpoint then CallOpen
    else Done

abbrev pub offer_answer : List ℕ → EndState → Status
offer_answer frame port =
    if nat_lt (length frame) SHORTEST_FRAME then ShortFrame
    else if nat_lt (port.endpoint.config.sizes.mtu + FRAME_OVERHEAD) (length frame) then LongFrame
    else if is_busy port.endpoint then CallOpen
    else Done

-- The answer for another offer of the frame offered last.
abbrev pub again_answer : EndState → Status
again_answer port = offer_answer (offered port.endpoint) port

abbrev pub step_answer : EndState → Status
step_answer port = if is_busy port.endpoint then Done else NoCall

-- The answer for a burst: `ahead` steps are next, and `count` are to be completed.
abbrev pub count_answer : (ahead count : ℕ) → Status
count_answer ahead count =
    if ahead == 0 then OtherAccess
    else if count == 0 then BadCount
    else if nat_lt ahead count then BadCount
    else Done

-- The answer for a burst by the bytes of its words, four each.
abbrev pub bytes_answer : (ahead bytes : ℕ) → Status
bytes_answer ahead bytes =
    if ahead == 0 then OtherAccess
    else if bytes % 4 == 0 then count_answer ahead (bytes / 4)
    else BadCount

abbrev pub reads_answer : (bytes : ℕ) → EndState → Status
reads_answer bytes port = if is_busy port.endpoint then bytes_answer (reads_ahead port.endpoint) bytes else NoCall

abbrev pub words_answer : (bytes : ℕ) → EndState → Status
words_answer bytes port = if is_busy port.endpoint then bytes_answer (writes_ahead port.endpoint) bytes else NoCall

abbrev pub writes_answer : (count : ℕ) → EndState → Status
writes_answer count port = if is_busy port.endpoint then count_answer (writes_ahead port.endpoint) count else NoCall

-- The answer for the publication of a frame. It is OtherAccess if no word of a frame is next, and
-- ShortRoom if the words after the frame, which have 20 bytes, don't fit.
abbrev pub publish_answer : (room : ℕ) → EndState → Status
publish_answer room port =
    if is_busy port.endpoint then (if is_none (bursts_of port.endpoint) then OtherAccess else if nat_lt room 20 then ShortRoom else Done)
    else NoCall

abbrev pub frame_answer : ℕ → EndState → Status
frame_answer room port = if nat_lt room (length (delivered port.endpoint)) then ShortRoom else Done

abbrev pub done_answer : EndState → Status
done_answer port = Done

-- The steps of the calls

-- The outcome of the last offer and the counts stay.
abbrev pub Keeps : EndState → EndState → Type 0
Keeps old new = (new.outcome ≡ old.outcome) × (new.counts ≡ old.counts)

-- An offer is open, and the counts stay.
abbrev pub IsOffered : EndState → EndState → Type 0
IsOffered old new = (new.outcome ≡ Open) × (new.counts ≡ old.counts)

-- The outcome of the last offer and the counts follow these notes of a step.
abbrev pub Follows : List Note → EndState → EndState → Type 0
Follows notes old new =
    (new.outcome ≡ outcome_after notes old.outcome) × (new.counts ≡ counts_after old.endpoint.phase new.endpoint.phase notes old.counts)

-- A call begins.
abbrev pub BeginsAnswered : ℕ → EndState → EndState → Type 0
BeginsAnswered call old new = Where (begin_answer call old)
    (IfSome (call_numbered call) (λ named. Begins named old.endpoint new.endpoint) × Keeps old new)
    (new ≡ old)

-- An offer begins.
abbrev pub OffersAnswered : List ℕ → EndState → EndState → Type 0
OffersAnswered frame old new = Where (offer_answer frame old) (Offers frame old.endpoint new.endpoint × IsOffered old new) (new ≡ old)

-- Another offer of the frame offered last begins.
abbrev pub OffersAgain : EndState → EndState → Type 0
OffersAgain old new = OffersAnswered (offered old.endpoint) old new

-- The next access of the open call, by its numbers.
abbrev pub IsNextAccess : EndState → Access → Type 0
IsNextAccess port access =
    (next : steps.Access) × (order : Ordering) × IsNext port.endpoint next × IsAhead port.endpoint order ×
    (access ≡ access_crossed next (reads_ahead port.endpoint) (writes_ahead port.endpoint) order)

-- That access is written.
abbrev pub GivesNext : EndState → Access → Access → Type 0
GivesNext port before after = Where (step_answer port) (IsNextAccess port after) (after ≡ before)

-- A step of the open call is completed, with its notes.
abbrev pub TakesAnswered : ℕ → Notes → Notes → EndState → EndState → Type 0
TakesAnswered value before after old new = Where (step_answer old)
    ((notes : List Note) × Steps old.endpoint value notes new.endpoint × Follows notes old new × (after ≡ notes_crossed notes))
    ((new ≡ old) × (after ≡ before))

-- Reads of the open call are completed together, with the notes of the last. If they are all words
-- of a frame, they are the frame delivered.
abbrev pub TakesWords : List ℕ → Notes → Notes → EndState → EndState → Type 0
TakesWords words before after old new = Where (reads_answer (length words) old)
    ((notes : List Note) × ReadsAtOnce old.endpoint words notes new.endpoint × ReadsWhole old.endpoint words new.endpoint ×
    Follows notes old new × (after ≡ notes_crossed notes))
    ((new ≡ old) × (after ≡ before))

-- The values of the next writes are written.
abbrev pub GivesWords : EndState → List ℕ → List ℕ → Type 0
GivesWords port before after = Where (words_answer (length before) port) (AreWritten port.endpoint after) (after ≡ before)

-- Writes of the open call are completed together.
abbrev pub TakesWrites : ℕ → EndState → EndState → Type 0
TakesWrites count old new = Where (writes_answer count old) (WritesAtOnce old.endpoint count new.endpoint × Keeps old new) (new ≡ old)

-- The frame delivered last is copied to the front of the room. The room after it stays.
abbrev pub CopiesFrame : EndState → List ℕ → List ℕ → Type 0
CopiesFrame port before after = Where (frame_answer (length before) port)
    (after ≡ delivered port.endpoint ++ drop (length (delivered port.endpoint)) before)
    (after ≡ before)

-- The end is reset after a reset of the device. The counts stay.
abbrev pub Renews : EndState → EndState → Type 0
Renews old new = Restarts old.endpoint new.endpoint × (new.outcome ≡ outcome_cut old.outcome) × (new.counts ≡ old.counts)

-- A new end of a link of this version, in a region of these sizes.
abbrev pub IsNew : Found → (version peers me mtu vector : ℕ) → EndState → Type 0
IsNew found version peers me mtu vector port =
    IsStarted (config_of (shape_found found peers) (sizes_found found version mtu) me vector) port.endpoint × (port.outcome ≡ Never) × (port.counts ≡ no_counts)

-- The numbers of a new end other than its sizes are valid. The peer is 0 or 1, the version is
-- known, and the vector has 16 bits.
pub record AreNumbers (version me vector : ℕ) : Type 0 where
  pub one_of_two : me ≤ 1
  pub known : IsVersion version
  pub has_16_bits : vector < 65536

-- All arguments are valid: a region of these sizes exists, and a queue in its sections.
pub record MayMake (found : Found) (version peers me mtu vector : ℕ) : Type 0 where
  pub numbers : AreNumbers version me vector
  pub sizes : HasSizes found peers
  pub queue : IsQueue (sizes_found found version mtu)

-- The reason for which no end is made: the first of these tests that fails. It is NoMemory if all
-- arguments are valid and the allocation fails.
pub data RefusesNew (found : Found) (version peers me mtu vector : ℕ) : Status → Type 0 where
  bad_peer : 2 ≤ me → RefusesNew found version peers me mtu vector BadPeer
  bad_version : me ≤ 1 → ¬ IsVersion version → RefusesNew found version peers me mtu vector BadVersion
  bad_vector : me ≤ 1 → IsVersion version → 65536 ≤ vector → RefusesNew found version peers me mtu vector BadVector
  bad_sizes : (status : Status) → AreNumbers version me vector → IsSizeFault found version peers mtu status → RefusesNew found version peers me mtu vector status
  no_memory : MayMake found version peers me mtu vector → RefusesNew found version peers me mtu vector NoMemory

-- The answer for a new end, and the handle after it. A handle with an end keeps it, for all other
-- arguments.
pub data MakesAnswered (old : Option EndState) (found : Found) (version peers me mtu vector : ℕ) : Status → Option EndState → Type 0 where
  made : (port : EndState) → old ≡ None → MayMake found version peers me mtu vector → IsNew found version peers me mtu vector port →
      MakesAnswered old found version peers me mtu vector Done (Some port)
  has_end : old ≢ None → MakesAnswered old found version peers me mtu vector HasEnd old
  refused : (status : Status) → old ≡ None → RefusesNew found version peers me mtu vector status →
      MakesAnswered old found version peers me mtu vector status old
