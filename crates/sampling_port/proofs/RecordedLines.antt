-- The words and the record after one more line.
use Rattle.std.proofs.Common.{mul-le-mul_right, ◌≡◌, ℕ, ◌+◌, ◌*◌, ◌<◌, ◌≤◌, Bool, true, false, List, [], ◌∷◌, ◌++◌, length, arith, refl, sym, ap, ◌∙◌, inl, inr}
use Rattle.std.specs.Prelude.{◌==◌, nat_lt, nat_le, ◌&&◌, ◌||◌, if◌then◌else◌, Some, None, Result, Ok, Err, OnOk, reverse, slice_get, slice_index, slice_set}
use Rattle.std.proofs.lemmas.Bool.Decides.{nat_tests}
use Rattle.std.proofs.lemmas.Grind.{common_steps}
use Rattle.std.proofs.lemmas.Option.{gets}
use Rattle.std.specs.Result.{is_err}
use Rattle.section_map.specs.Geometry.{Words, Shape, section_start}
use Rattle.section_map.specs.MayWrite.{MayWrite}
use Rattle.split_ring.specs.declared.steps.Access.{Access}
use Rattle.split_ring.specs.declared.steps.Access.TheVariants as access
use Rattle.call_grammar.specs.Steps.{value_given}
use Rattle.sampling_port.specs.declared.notes.PortField.TheVariants.{Sequence, Length}
use Rattle.sampling_port.specs.declared.notes.PortNote.{PortNote}
use Rattle.sampling_port.specs.declared.notes.PortNote.TheVariants as note
use Rattle.sampling_port.specs.declared.place.Place.{Place}
use Rattle.sampling_port.specs.declared.place.Place.TheVariants as place
use Rattle.sampling_port.specs.declared.world_state.Record.{Record}
use Rattle.sampling_port.specs.declared.world_state.WorldState.{WorldState}
use Rattle.sampling_port.specs.Marks.{PortMark, Got, mark_of}
use Rattle.sampling_port.specs.Views.{PortView, IsPort, from_at, note_at, port_after, closed, got}
use Rattle.sampling_port.specs.Laws.{IsPortAccess}
use Rattle.sampling_port.specs.EventRecords.{Line, Wrote, Marked, access_lines}
use Rattle.sampling_port.specs.Memory.{value_after, last_write}
use Rattle.sampling_port.specs.History.{may_write}
use Rattle.sampling_port.specs.Simulator.{Holds, RecordAfter, WorldStateAfter, CanPerform}

-- A line that stores nothing.
pub quiet_recorded : {T E : Type 0} (r : Result T E) (front : List ℕ) (past : List Line) (line : Line) (s : WorldState) (recorded : Record) → ((at before : ℕ) → value_after line at before ≡ before) → WorldStateAfter front past s →
    OnOk r (RecordAfter front (line ∷ past) recorded) → OnOk r (WorldStateAfter front (line ∷ past) (record { region = s.region; recorded = recorded }))
quiet_recorded (Ok v) front past line s recorded quiet after kept = record { words = λ word inside. after.words word inside ∙ sym (quiet word (last_write past word)); recorded = kept }
quiet_recorded (Err e) front past line s recorded quiet after kept = tt

-- A word after a write to a word.
pub written : (words : List ℕ) (past : List Line) (peer at value : ℕ) → Holds words past → Holds (slice_set words at value) (Wrote peer at value ∷ past)
written words past peer at value holds = λ word inside. one words past at value word inside holds
  where
    one : (words : List ℕ) (past : List Line) (at value word : ℕ) → word < length (slice_set words at value) → Holds words past → slice_index (slice_set words at value) word ≡ (if at == word then value else last_write past word)
    one words past at value word inside holds = grind (arith, common_steps, nat_tests, holds word)

pub known_at : (words : List ℕ) (value : ℕ) (past : List Line) (word : ℕ) → Holds words past → slice_get words word ≡ Some value → value ≡ last_write past word
known_at words value past word holds at = grind (arith, common_steps, gets, holds word)

pub may_true : (g : Shape) (peer word : ℕ) → MayWrite g peer word → may_write g peer word ≡ true
may_true g peer word (inl section) = let low = section.0 in let high = section.1 in grind (arith, nat_tests)
may_true g peer word (inr common) = let low = common.0 in let high = common.1 in grind (arith, nat_tests)

pub may_of : (g : Shape) (peer word : ℕ) → may_write g peer word ≡ true → MayWrite g peer word
may_of g peer word holds = either _ _ holds refl refl
  where
    low_high : (a b c : ℕ) → true ≡ (nat_le a b && nat_lt b c) → (a ≤ b) × (b < c)
    low_high a b c is = (grind (arith, nat_tests), grind (arith, nat_tests))

    either : (s c : Bool) → (s || c) ≡ true → s ≡ (nat_le (section_start g peer) word && nat_lt word (section_start g peer + g.out)) → c ≡ (nat_le g.table word && nat_lt word (g.table + g.common)) → MayWrite g peer word
    either true c is same other = inl (low_high _ _ _ same)
    either false true is same other = inr (low_high _ _ _ other)
    either false false is same other = absurd cc

pub may_false : (g : Shape) (peer word : ℕ) → ¬ MayWrite g peer word → may_write g peer word ≡ false
may_false g peer word denied = never (may_write g peer word) (λ holds. denied (may_of g peer word holds))
  where
    never : (b : Bool) → (b ≡ true → ⊥) → b ≡ false
    never true fails = absurd (fails refl)
    never false fails = refl

-- The lines of a step

pub recorded_alone : (me : ℕ) (a : Access) (value : ℕ) (past : List Line) → reverse (access_lines me a (value_given a value) ++ []) ++ past ≡ access_lines me a value ++ past
recorded_alone me (access.Read word) value past = refl
recorded_alone me _ value past = refl

pub recorded_marked : (me : ℕ) (a : Access) (value : ℕ) (mark : PortMark) (past : List Line) → reverse (access_lines me a (value_given a value) ++ Marked me mark ∷ []) ++ past ≡ Marked me mark ∷ (access_lines me a value ++ past)
recorded_marked me (access.Read word) value mark past = refl
recorded_marked me _ value mark past = refl

-- The message that was got is the one in hand.
second_got : (port : PortView) (from sequence value number : ℕ) (b : Bool) → (if b then Some (note.Got sequence) else Some (note.Again sequence value)) ≡ Some (note.Got number) →
    (if b then got port from sequence else closed port).message ≡ port.hand
second_got port from sequence value number true is = refl
second_got port from sequence value number false is = absurd cc

first_never : (b c : Bool) (value number : ℕ) → (if b then Some (note.Refuse Sequence value) else if c then Some note.Nothing else None) ≡ Some (note.Got number) → ⊥
first_never true c value number is = absurd cc
first_never false true value number is = absurd cc
first_never false false value number is = absurd cc

length_never : (b : Bool) (value number : ℕ) → (if b then None else Some (note.Refuse Length value)) ≡ Some (note.Got number) → ⊥
length_never true value number is = absurd cc
length_never false value number is = absurd cc

got_message : (port : PortView) (p : Place) (value number : ℕ) → note_at port p value ≡ Some (note.Got number) → (port_after port p value).message ≡ port.hand
got_message port (place.AtSequence from) value number is = absurd (first_never _ _ value number is)
got_message port (place.AtLength from sequence) value number is = absurd (length_never _ value number is)
got_message port (place.AtSecond from sequence) value number is = second_got port from sequence value number _ is
got_message port _ value number is = absurd cc

pub mark_is : (port : PortView) (p : Place) (value : ℕ) (n : PortNote) → note_at port p value ≡ Some n → mark_of (from_at p) (port_after port p value).message n ≡ mark_of (from_at p) port.hand n
mark_is port p value (note.Got number) is = ap (λ m. Got (from_at p) number m) (got_message port p value number is)
mark_is port p value _ is = refl

-- The requirements of a port's step on the region.
pub can : (port : PortView) (a : Access) → IsPort port → IsPortAccess port a → CanPerform port.shape port.me a
can port (access.Read word) is reach =
    let below = reach.1 in
    let inside = reach.2.1 in
    let rows : reach.0 * port.shape.out + port.shape.out ≤ port.shape.peers * port.shape.out = fits reach.0 port.shape.peers port.shape.out below in
    omega arith
  where
    fits : (p n out : ℕ) → p < n → p * out + out ≤ n * out
    fits p n out below = let all : (p + 1) * out ≤ n * out = mul-le-mul_right out (omega arith) in omega arith
can port (access.Write word value) is reach = inl reach
can port (access.State state) is reach = reach
can port (access.Ring target vector) is reach = reach
can port access.Nothing is reach = reach

-- A word was stored.
pub stored_recorded : {T E : Type 0} (r : Result T E) (front : List ℕ) (past : List Line) (peer word value : ℕ) (s : WorldState) (region : Words) (recorded : Record) → region ≡ record s.region { words = slice_set s.region.words word value } →
    WorldStateAfter front past s → OnOk r (RecordAfter front (Wrote peer word value ∷ past) recorded) → OnOk r (WorldStateAfter front (Wrote peer word value ∷ past) (record { region = region; recorded = recorded }))
stored_recorded (Ok v) front past peer word value s region recorded is after kept = record { words = rw is (written s.region.words past peer word value after.words); recorded = kept }
stored_recorded (Err e) front past peer word value s region recorded is after kept = tt

pub wrote_recorded : {T E S F : Type 0} (r : Result T E) (front : List ℕ) (past : List Line) (peer word value : ℕ) (s : WorldState) (region : Words) (recorded : Record) (w : Result S F) →
    OnOk w (region ≡ record s.region { words = slice_set s.region.words word value }) → is_err w ≡ false →
    WorldStateAfter front past s → OnOk r (RecordAfter front (Wrote peer word value ∷ past) recorded) → OnOk r (WorldStateAfter front (Wrote peer word value ∷ past) (record { region = region; recorded = recorded }))
wrote_recorded r front past peer word value s region recorded (Ok u) is fine after kept = stored_recorded r front past peer word value s region recorded is after kept
wrote_recorded r front past peer word value s region recorded (Err e) is fine after kept = absurd cc
