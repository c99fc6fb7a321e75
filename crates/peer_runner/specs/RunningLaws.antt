-- The facts that the rule states between any two accesses. They are of all peers, of each honest
-- link peer for all stores of the other, and of two honest ones. A part is stated over the key, the
-- words, the lists of memory operations and one of the two link peers, p. The other one is 1 - p.
use Rattle.std.specs.Prelude.{ℕ, suc, ◌≡◌, ◌≢◌, ◌+◌, ◌-◌, ◌/◌, ◌%◌, ◌^◌, ◌<◌, ◌≤◌, ◌⊎◌, true, false, Option, Some, None, List, [], ◌∷◌, ◌++◌, length, slice_index, set, Contains}
use Rattle.atomic_table.specs.Table.{State}
use Rattle.section_map.specs.Geometry.{section_start, word_count}
use Rattle.section_map.specs.MayWrite.{InSection}
use Rattle.split_ring.specs.Layout.{Sizes, has_events, size_of, limit_of, word_offset, DescAddress, AvailEntry}
use Rattle.split_ring.specs.Frames.{start_of, footprint_of, AreApart}
use Rattle.split_ring.specs.Ranges.{IsAvailEntry, IsDescAddress, IsDescLength}
use Rattle.split_ring.specs.Spelling.{address_at, id_at, Spells}
use Rattle.link_handshake.specs.declared.Phase.TheVariants.{Reset, Init, Ready, Run}
use Rattle.link_handshake.specs.declared.Phase.{Phase}
use Rattle.call_grammar.specs.Words.{words_for, lengths_of}
use Rattle.call_grammar.specs.Ends.{End}
use Rattle.call_grammar.specs.Offers.{PendingOffer}
use Rattle.call_grammar.specs.Places.{Place, Clearing, WritingState, Refusing, ReadingUsedIndex, ReadingUsedId, WritingFrameWord, WritingDescAddressLow, WritingDescAddressHigh, WritingDescLength, WritingDescFlags, WritingAvailEntry, WritingAvailIndex, ReadingAvailEntry, ReadingDescAddressLow, ReadingDescAddressHigh, ReadingDescLength, ReadingDescFlags, ReadingFrameWord, WritingUsedId, WritingUsedLength, WritingUsedIndex}
use Rattle.link_invariant.specs.LinkConfig.{first_words}
use Rattle.link_invariant.specs.EndInvariant.{frame_at}
use Rattle.link_invariant.specs.Pair.{freed_at, IsAttached, OpensNone, EitherIsAttached}
use Rattle.pair_sessions.specs.Numbers.{Numbers, WordIs, IsPaired}
use Rattle.shared_words.specs.declared.run_setup.RunSetup.{RunSetup}
use Rattle.shared_words.specs.declared.view.View.{View}
use Rattle.shared_words.specs.RunSetups.{honest_of}
use Rattle.shared_words.specs.DerivedStates.{FrameNumber, At, CallAccess, MemoryOp, called, derived_state, IsNext}
use Rattle.shared_words.specs.SharedMemory.{IsOwned, OperationsMade}
use Rattle.shared_words.specs.ActionsMade.{ActionsMade}
use Rattle.shared_words.specs.Actions.{Action}
use Rattle.shared_words.specs.Interrupts.{Interrupts, Doorbells}
use Rattle.shared_words.specs.Rules.{region, session_words, accesses_by, Memory, TableInvariant}
use Rattle.peer_runner.specs.ListStates.{last_written, last_state, has_written, call_writes}

-- The end and the place in which its list leaves a peer, and the number of frames that it has
-- freed. Each id that it read adds one.

abbrev pub end_by : RunSetup → (ℕ → List (MemoryOp CallAccess)) → ℕ → End
end_by key acc p = (derived_state key p (acc p)).end

abbrev pub place_by : RunSetup → (ℕ → List (MemoryOp CallAccess)) → ℕ → Place
place_by key acc p = (derived_state key p (acc p)).place

abbrev pub freed_by : RunSetup → (ℕ → List (MemoryOp CallAccess)) → ℕ → ℕ
freed_by key acc p = freed_at (end_by key acc p).freed (place_by key acc p)

-- A session is open
abbrev pub InSession : Phase → Type 0
InSession phase = (phase ≡ Ready) ⊎ (phase ≡ Run)

-- The words of its section, counted from its first one.
abbrev pub section_words : RunSetup → (ℕ → ℕ) → ℕ → ℕ → ℕ
section_words key memory p w = memory (section_start key.geometry p + w)

-- A part holds in each state of the table that the rule keeps. It holds of each honest link peer
-- (`OfEachHonest`), or of each of the two if both are honest (`OfTwoHonest`). By
-- `WhereEitherAttends`, a part holds as soon as either attends to the other's session, in RUN or
-- about to set it.

abbrev pub OfEachHonest : (RunSetup → (ℕ → ℕ) → (ℕ → List (MemoryOp CallAccess)) → ℕ → Type 0) → Type 0
OfEachHonest Part = (key : RunSetup) (s : State ℕ View) (kept : TableInvariant key s) (p : ℕ) → honest_of key p ≡ true →
    Part key (region key s.words) (accesses_by kept.acc) p

abbrev pub OfTwoHonest : (RunSetup → (ℕ → ℕ) → (ℕ → List (MemoryOp CallAccess)) → ℕ → Type 0) → Type 0
OfTwoHonest Part = (key : RunSetup) (s : State ℕ View) (kept : TableInvariant key s) (p : ℕ) → honest_of key 0 ≡ true → honest_of key 1 ≡ true → p < 2 →
    Part key (region key s.words) (accesses_by kept.acc) p

abbrev pub WhereEitherAttends : (RunSetup → (ℕ → ℕ) → (ℕ → List (MemoryOp CallAccess)) → ℕ → Type 0) →
    RunSetup → (ℕ → ℕ) → (ℕ → List (MemoryOp CallAccess)) → ℕ → Type 0
WhereEitherAttends Part key memory acc p = EitherIsAttached (end_by key acc) (place_by key acc) p → Part key memory acc p

-- Of all peers

-- The memory operations of the lists, in some order, made the words of the region and of the
-- sessions.
abbrev pub WordsAreMade : Type 0
WordsAreMade = (key : RunSetup) (s : State ℕ View) (kept : TableInvariant key s) →
    OperationsMade key (region key s.words) (session_words key s.words) (accesses_by kept.acc)

-- The actions of the lists, in some order, made all words from those at the start, interrupt words
-- included.
abbrev pub AllWordsAreMade : Type 0
AllWordsAreMade = (key : RunSetup) (s : State ℕ View) (kept : TableInvariant key s) → ActionsMade key (λ w. slice_index s.words w) kept.acc

-- Each store of a list is to a word that its peer may write.
abbrev pub StoresAreOwned : Type 0
StoresAreOwned = (key : RunSetup) (s : State ℕ View) (kept : TableInvariant key s) (p : ℕ) (t : CallAccess) →
    Contains (accesses_by kept.acc p) (called t) → IsOwned key p t.access

-- For each peer and bit the looks that found the bit, plus one if it is set now, are at most its
-- rings. Of each peer's Interrupt Control: its bit, plus the number of clears that found it set,
-- equals the bit before any action. At a one-shot peer each ring comes after such a clear of the
-- same list.
abbrev pub InterruptsAreRung : Type 0
InterruptsAreRung = (key : RunSetup) (s : State ℕ View) (kept : TableInvariant key s) → Interrupts key (λ w. slice_index s.words w) kept.acc

-- A bit that was rung is set until its target finds it. Interrupt Control that was cleared stays
-- clear.
abbrev pub DoorbellsStaySet : Type 0
DoorbellsStaySet = (key : RunSetup) (s : State ℕ View) (kept : TableInvariant key s) → Doorbells key (λ w. slice_index s.words w) kept.acc

-- Of each honest link peer

-- Each access of its list is the next one of its calls, by the accesses before it.
pub record AccessesAreCalls (key : RunSetup) (memory : ℕ → ℕ) (acc : ℕ → List (MemoryOp CallAccess)) (p : ℕ) : Type 0 where
  pub next : (front back : List (MemoryOp CallAccess)) (t : CallAccess) → acc p ≡ front ++ called t ∷ back →
      IsNext key p (derived_state key p front) t.begins t.access

-- Each word of its section, and its State word, has the value that its list wrote last, or 0. A
-- reset writes State 0.
pub record WordsAreWritten (key : RunSetup) (memory : ℕ → ℕ) (acc : ℕ → List (MemoryOp CallAccess)) (p : ℕ) : Type 0 where
  pub section : (w : ℕ) → InSection key.geometry p w → memory w ≡ last_written (acc p) w
  pub state : memory p ≡ last_state (acc p)

-- In RESET it wrote no word after its last write of State, or its last reset. While a tick clears
-- its section it is in INIT, and the words that were cleared, from the first on, are 0. As the tick
-- is about to set READY, all of them are 0. In READY the section is 0, and nothing is listed or
-- counted.
pub record WordsFollowPhases (key : RunSetup) (memory : ℕ → ℕ) (acc : ℕ → List (MemoryOp CallAccess)) (p : ℕ) : Type 0 where
  pub reset : (end_by key acc p).handshake.phase ≡ Reset → has_written (acc p) ≡ false
  pub clears : (at more state : ℕ) → place_by key acc p ≡ Clearing at more state → ((end_by key acc p).handshake.phase ≡ Init) ×
      ((cleared : ℕ) × (at ≡ section_start key.geometry p + cleared) × ((j : ℕ) → j < cleared → section_words key memory p j ≡ 0))
  pub cleared : place_by key acc p ≡ WritingState 2 →
      ((end_by key acc p).handshake.phase ≡ Init) × ((j : ℕ) → j < key.geometry.out → section_words key memory p j ≡ 0)
  pub ready : (end_by key acc p).handshake.phase ≡ Ready → (j : ℕ) → j < key.geometry.out → section_words key memory p j ≡ 0
  pub empty : (end_by key acc p).handshake.phase ≡ Ready →
      ((end_by key acc p).accepted ≡ []) × ((end_by key acc p).freed ≡ 0) × ((end_by key acc p).delivered ≡ []) × ((end_by key acc p).returned ≡ 0)

-- At most the limit of frames is in flight. In a session each of them is spelled, in the descriptor
-- of its number and from its first byte on.
pub record FlightIsSpelled (key : RunSetup) (memory : ℕ → ℕ) (acc : ℕ → List (MemoryOp CallAccess)) (p : ℕ) : Type 0 where
  pub least : freed_by key acc p ≤ length (end_by key acc p).accepted
  pub most : length (end_by key acc p).accepted ≤ freed_by key acc p + limit_of key.queue
  pub spelled : (k : ℕ) → InSession (end_by key acc p).handshake.phase → freed_by key acc p ≤ k → k < length (end_by key acc p).accepted →
      Spells key.queue (section_words key memory p) k (k % limit_of key.queue) (frame_at (end_by key acc p).accepted k)
  pub own_place : (k : ℕ) → InSession (end_by key acc p).handshake.phase → freed_by key acc p ≤ k → k < length (end_by key acc p).accepted →
      address_at key.queue (section_words key memory p) (k % limit_of key.queue) ≡ start_of key.queue (lengths_of (end_by key acc p).accepted) k

-- An offer is open whose frame isn't accepted yet.
abbrev pub offered_at : Place → Option PendingOffer
offered_at (ReadingUsedIndex pending freed) = Some pending
offered_at (ReadingUsedId pending freed more) = Some pending
offered_at (WritingFrameWord pending at more) = Some pending
offered_at (WritingDescAddressLow pending) = Some pending
offered_at (WritingDescAddressHigh pending) = Some pending
offered_at (WritingDescLength pending) = Some pending
offered_at (WritingDescFlags pending) = Some pending
offered_at (WritingAvailEntry pending) = Some pending
offered_at (WritingAvailIndex pending) = Some pending
offered_at place = None

-- The word is one of the `count` words from word `first` on.
abbrev pub IsAmong : (first count : ℕ) → ℕ → Type 0
IsAmong first count w = (first ≤ w) × (w < first + count)

-- The word `w` is one of the words of the pending offer's frame, of the descriptor of its number or
-- of its available entry.
abbrev pub IsOfFrame : RunSetup → ℕ → PendingOffer → ℕ → Type 0
IsOfFrame key p pending w =
    IsAmong (section_start key.geometry p + start_of key.queue pending.lengths pending.number / 4) (footprint_of key.queue (length pending.frame) / 4) w ⊎
    (IsAmong (section_start key.geometry p + word_offset key.queue (DescAddress (pending.number % limit_of key.queue))) 4 w ⊎
    (w ≡ section_start key.geometry p + word_offset key.queue (AvailEntry (pending.number % size_of key.queue))))

-- An open offer is of the frame after those accepted. It has stored in the bytes that this frame
-- takes, in the descriptor and in the entry of its number alone. As soon as it has stored anything,
-- no frame in flight has that descriptor or any of those bytes.
pub record OfferStores (key : RunSetup) (acc : ℕ → List (MemoryOp CallAccess)) (p : ℕ) (pending : PendingOffer) : Type 0 where
  pub number : pending.number ≡ length (end_by key acc p).accepted
  pub lengths : pending.lengths ≡ lengths_of ((end_by key acc p).accepted ++ pending.frame ∷ [])
  pub stores : (w : ℕ) → Contains (call_writes (acc p)) w → IsOfFrame key p pending w
  pub free : (k : ℕ) → call_writes (acc p) ≢ [] → freed_by key acc p ≤ k → k < length (end_by key acc p).accepted →
      k % limit_of key.queue ≢ pending.number % limit_of key.queue
  pub apart : (k : ℕ) → call_writes (acc p) ≢ [] → freed_by key acc p ≤ k → k < length (end_by key acc p).accepted →
      AreApart (start_of key.queue pending.lengths k) (footprint_of key.queue (pending.lengths k))
      (start_of key.queue pending.lengths pending.number) (footprint_of key.queue (length pending.frame))

abbrev pub OpenOfferStores : RunSetup → (ℕ → ℕ) → (ℕ → List (MemoryOp CallAccess)) → ℕ → Type 0
OpenOfferStores key memory acc p = (pending : PendingOffer) → offered_at (place_by key acc p) ≡ Some pending → OfferStores key acc p pending

-- The index that an open poll has read represents `count` frames: at least those delivered, and at
-- most the queue size more.
abbrev pub IsPublished : Sizes → End → ℕ → Type 0
IsPublished q end count = (length end.delivered ≤ count) × (count ≤ length end.delivered + size_of q)

-- The values that an open call has read and holds are within their ranges. In an offer it is the
-- used index: the frames that are freed once the ids left are read are at most those accepted. In a
-- poll the values are the available index, the entry, the address, the length, and the words read
-- so far, fewer than the frame's.
abbrev pub IsInRange : Sizes → End → Place → Type 0
IsInRange q end (ReadingUsedId pending freed more) = freed + suc more ≤ length end.accepted
IsInRange q end (ReadingAvailEntry number more) = IsPublished q end (number + suc more)
IsInRange q end (ReadingDescAddressLow number more entry) = IsPublished q end (number + suc more) × IsAvailEntry q entry
IsInRange q end (ReadingDescAddressHigh number more entry low) = IsPublished q end (number + suc more) × IsAvailEntry q entry
IsInRange q end (ReadingDescLength number more entry address) = IsPublished q end (number + suc more) × IsAvailEntry q entry × IsDescAddress q address
IsInRange q end (ReadingDescFlags number more entry address bytes) =
    IsPublished q end (number + suc more) × IsAvailEntry q entry × IsDescAddress q address × IsDescLength q address bytes
IsInRange q end (ReadingFrameWord number more entry address bytes read words) =
    IsPublished q end (number + suc more) × IsAvailEntry q entry × IsDescAddress q address × IsDescLength q address bytes × (length read < words_for bytes)
IsInRange q end (WritingUsedId number more entry) = IsPublished q end (number + suc more) × IsAvailEntry q entry
IsInRange q end (WritingUsedLength number more) = IsPublished q end (number + suc more)
IsInRange q end (WritingUsedIndex number more) = IsPublished q end (number + suc more)
IsInRange q end place = Unit {0}

abbrev pub ReadValuesAreInRange : RunSetup → (ℕ → ℕ) → (ℕ → List (MemoryOp CallAccess)) → ℕ → Type 0
ReadValuesAreInRange key memory acc p = IsInRange key.queue (end_by key acc p) (place_by key acc p)

-- Its sessions by their numbers.
abbrev pub numbers_by : RunSetup → (ℕ → List (MemoryOp CallAccess)) → ℕ → Numbers
numbers_by key acc p = (derived_state key p (acc p)).numbers

-- Its session word is the number of sessions that it opened, or one more that it stored since. In
-- the latter case it is in RESET or INIT, so in READY and RUN the word is the number opened.
pub record SessionWordIs (key : RunSetup) (words : ℕ → ℕ) (acc : ℕ → List (MemoryOp CallAccess)) (p : ℕ) : Type 0 where
  pub word : WordIs (end_by key acc p) (numbers_by key acc p) (words p)
  pub opened : InSession (end_by key acc p).handshake.phase → words p ≡ (numbers_by key acc p).log.opened

abbrev pub SessionWordsAreNumbers : Type 0
SessionWordsAreNumbers = (key : RunSetup) (s : State ℕ View) (kept : TableInvariant key s) (p : ℕ) → honest_of key p ≡ true →
    SessionWordIs key (session_words key s.words) (accesses_by kept.acc) p

-- The session word of a hostile link peer stays 0.
abbrev pub HostileSessionsAreNone : Type 0
HostileSessionsAreNone = (key : RunSetup) (s : State ℕ View) (kept : TableInvariant key s) (p : ℕ) → p < 2 → honest_of key p ≡ false →
    session_words key s.words p ≡ 0

-- Of two honest link peers

-- The sessions of each that reached RUN carry numbers of the other's sessions, which rise. While a
-- peer is in RUN, the number is that of the session which the other opened last. Each peer
-- delivered a beginning of what was accepted in the session that it carries. Before it attends
-- again, the other has opened a later one.
abbrev pub SessionsArePaired : Type 0
SessionsArePaired = (key : RunSetup) (s : State ℕ View) (kept : TableInvariant key s) (p : ℕ) → honest_of key 0 ≡ true → honest_of key 1 ≡ true → p < 2 →
    IsPaired (end_by key (accesses_by kept.acc) p) (end_by key (accesses_by kept.acc) (1 - p)) (place_by key (accesses_by kept.acc) p)
    (place_by key (accesses_by kept.acc) (1 - p)) (numbers_by key (accesses_by kept.acc) p) (numbers_by key (accesses_by kept.acc) (1 - p))
    (session_words key s.words p)

-- Neither is refusing or has the mark of a refusal.
pub record NeverRefuses (key : RunSetup) (memory : ℕ → ℕ) (acc : ℕ → List (MemoryOp CallAccess)) (p : ℕ) : Type 0 where
  pub place : place_by key acc p ≢ Refusing
  pub mark : (end_by key acc p).handshake.mark ≡ false

-- While one is attached, in RUN or about to set it, the other isn't in INIT, nor about to set INIT.
abbrev pub OtherOpensNoSession : RunSetup → (ℕ → ℕ) → (ℕ → List (MemoryOp CallAccess)) → ℕ → Type 0
OtherOpensNoSession key memory acc p = IsAttached (end_by key acc p) (place_by key acc p) → OpensNone (end_by key acc (1 - p)) (place_by key acc (1 - p))

-- The frames freed are at most those returned, these at most those delivered, and these at most
-- those accepted. The frames in flight are at most the limit. The frames delivered are the first
-- ones accepted. Each frame from those freed on is spelled. The used elements from those freed to
-- those returned name the descriptors in order.
pub record PairInvariant (key : RunSetup) (memory : ℕ → ℕ) (acc : ℕ → List (MemoryOp CallAccess)) (p : ℕ) : Type 0 where
  pub returned : freed_by key acc p ≤ (end_by key acc (1 - p)).returned
  pub delivered : (end_by key acc (1 - p)).returned ≤ length (end_by key acc (1 - p)).delivered
  pub accepted : length (end_by key acc (1 - p)).delivered ≤ length (end_by key acc p).accepted
  pub limit : length (end_by key acc p).accepted ≤ freed_by key acc p + limit_of key.queue
  pub prefix : (rest : List (List ℕ)) × ((end_by key acc p).accepted ≡ (end_by key acc (1 - p)).delivered ++ rest)
  pub spelled : (k : ℕ) → freed_by key acc p ≤ k → k < length (end_by key acc p).accepted →
      Spells key.queue (section_words key memory p) k (k % limit_of key.queue) (frame_at (end_by key acc p).accepted k)
  pub named : (k : ℕ) → freed_by key acc p ≤ k → k < (end_by key acc (1 - p)).returned →
      id_at key.queue (section_words key memory (1 - p)) k ≡ k % limit_of key.queue

-- In a link with events the last store of one's event word requests a doorbell at a frame of the
-- session carried then. The other's offer of that frame, once it has read the event, continues to
-- the doorbell.
abbrev pub AskedIsRung : RunSetup → (ℕ → ℕ) → (ℕ → List (MemoryOp CallAccess)) → ℕ → Type 0
AskedIsRung key memory acc p = has_events key.queue ≡ true → (frame : FrameNumber) → (derived_state key p (acc p)).wake.asked ≡ At frame →
    ¬ Contains (derived_state key (1 - p) (acc (1 - p))).wake.missed frame

-- The values that an open call has read and holds are what the other has written. The used index
-- represents frames that were returned, and the available index represents frames that were
-- accepted. The entry, the address, the length and the words are those of the frame with this
-- number.
abbrev pub IsAsSent : Sizes → (accepted : List (List ℕ)) (returned : ℕ) → Place → Type 0
IsAsSent q accepted returned (ReadingUsedId pending freed more) = freed + suc more ≤ returned
IsAsSent q accepted returned (ReadingAvailEntry number more) = number + suc more ≤ length accepted
IsAsSent q accepted returned (ReadingDescAddressLow number more entry) = (number + suc more ≤ length accepted) × (entry ≡ number % limit_of q)
IsAsSent q accepted returned (ReadingDescAddressHigh number more entry low) =
    (number + suc more ≤ length accepted) × (entry ≡ number % limit_of q) × (low ≡ start_of q (lengths_of accepted) number)
IsAsSent q accepted returned (ReadingDescLength number more entry address) =
    (number + suc more ≤ length accepted) × (entry ≡ number % limit_of q) × (address ≡ start_of q (lengths_of accepted) number)
IsAsSent q accepted returned (ReadingDescFlags number more entry address bytes) =
    (number + suc more ≤ length accepted) × (entry ≡ number % limit_of q) × (address ≡ start_of q (lengths_of accepted) number) ×
    (bytes ≡ length (frame_at accepted number))
IsAsSent q accepted returned (ReadingFrameWord number more entry address bytes read words) =
    (number + suc more ≤ length accepted) × (entry ≡ number % limit_of q) × (address ≡ start_of q (lengths_of accepted) number) ×
    (bytes ≡ length (frame_at accepted number)) × (read ≡ first_words (frame_at accepted number) (length read))
IsAsSent q accepted returned (WritingUsedId number more entry) = (number + suc more ≤ length accepted) × (entry ≡ number % limit_of q)
IsAsSent q accepted returned (WritingUsedLength number more) = number + suc more ≤ length accepted
IsAsSent q accepted returned (WritingUsedIndex number more) = number + suc more ≤ length accepted
IsAsSent q accepted returned place = Unit {0}

abbrev pub ReadValuesAreAsSent : RunSetup → (ℕ → ℕ) → (ℕ → List (MemoryOp CallAccess)) → ℕ → Type 0
ReadValuesAreAsSent key memory acc p = IsAsSent key.queue (end_by key acc (1 - p)).accepted (end_by key acc (1 - p)).returned (place_by key acc p)

-- A hostile link peer.

-- Each word of the region is below 2^32. The rule holds with the same lists of the others if a
-- hostile peer stores a number below 2^32 in its section or State word.
pub record HostileWordsAreFree : Type 0 where
  pub below : (key : RunSetup) (s : State ℕ View) (kept : TableInvariant key s) (w : ℕ) → w < word_count key.geometry → slice_index s.words w < 2 ^ 32
  pub free : (key : RunSetup) (s : State ℕ View) (kept : TableInvariant key s) (p w n : ℕ) → p < key.geometry.peers → honest_of key p ≡ false →
      InSection key.geometry p w ⊎ (w ≡ p) → n < 2 ^ 32 →
      (acc : ℕ → List (Action (MemoryOp CallAccess))) × Memory key (set s.words w n) acc × ((q : ℕ) → q ≢ p → acc q ≡ kept.acc q)
