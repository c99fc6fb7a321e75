-- A port follows its call.
use Rattle.std.proofs.Common.{◌≡◌, ℕ, zero, suc, ◌+◌, Bool, true, false, List, [], ◌++◌, length, take, refl, sym, ap, ◌∙◌}
use Rattle.std.specs.Prelude.{◌==◌, nat_lt, if◌then◌else◌, Option, Some, None, slice_index}
use Rattle.call_grammar.specs.Words.{words_for, word_bytes}
use Rattle.split_ring.specs.declared.steps.Access.{Access}
use Rattle.sampling_port.specs.declared.notes.PortField.TheVariants as field
use Rattle.sampling_port.specs.declared.notes.PortNote.TheVariants as note
use Rattle.sampling_port.specs.declared.place.Place.{Place}
use Rattle.sampling_port.specs.declared.place.Place.TheVariants.{Closed, WritingLength, WritingWord, WritingSequence, AtSequence, AtLength, AtWord, AtSecond}
use Rattle.sampling_port.specs.Marks.{PortMark, Got, Nothing, Again, Refuse, marked}
use Rattle.sampling_port.specs.Trees.{PortTree, Ended, PortStep, port_step, Goes}
use Rattle.sampling_port.specs.Calls.{write_words, read_words, read_length, is_length}
use Rattle.sampling_port.specs.Views.{PortView, is_open, from_at, own, other_start, writing_place, reading_place, access_at, note_at, port_after, closed, got, left_at, left}
use Rattle.sampling_port.specs.Laws.{PortsFollowCalls}

-- The rest of the call at the places after a step.

writes_left : (port : PortView) (at count : ℕ) → left_at port (writing_place at count) ≡ write_words (own port) port.most (port.published + 1) port.hand at count
writes_left port at zero = refl
writes_left port at (suc more) = refl

reads_left : (port : PortView) (from sequence bytes at count : ℕ) → left_at port (reading_place from sequence bytes at count) ≡ read_words from (other_start port from) port.most sequence bytes port.hand at count
reads_left port from sequence bytes at zero = refl
reads_left port from sequence bytes at (suc more) = refl

-- A choice between two ports leaves a choice of two calls.
either : (b : Bool) (x y : PortView) (t u : PortTree) → left x ≡ t → left y ≡ u → left (if b then x else y) ≡ (if b then t else u)
either true x y t u e f = e
either false x y t u e f = f

-- The marks of the notes

sequence_marked : (from : ℕ) (hand : List ℕ) (b c : Bool) (value : ℕ) →
    marked from hand (if b then Some (note.Refuse field.Sequence value) else if c then Some note.Nothing else None) ≡ (if b then Some (Refuse from field.Sequence value) else if c then Some (Nothing from) else None)
sequence_marked from hand true c value = refl
sequence_marked from hand false true value = refl
sequence_marked from hand false false value = refl

length_marked : (from : ℕ) (hand : List ℕ) (b : Bool) (value : ℕ) → marked from hand (if b then None else Some (note.Refuse field.Length value)) ≡ (if b then None else Some (Refuse from field.Length value))
length_marked from hand true value = refl
length_marked from hand false value = refl

second_marked : (from : ℕ) (hand : List ℕ) (b : Bool) (number value : ℕ) →
    marked from hand (if b then Some (note.Got number) else Some (note.Again number value)) ≡ (if b then Some (Got from number hand) else Some (Again from number value))
second_marked from hand true number value = refl
second_marked from hand false number value = refl

-- The same step with an equal mark.
stepped : (a : Access) (value : ℕ) (mark mark' : Option PortMark) → mark ≡ mark' → port_step a value mark ≡ port_step a value mark'
stepped a value mark mark' e = ap (port_step a value) e

-- A step leads from what is left to what is left

abbrev step_at : PortView → Place → ℕ → PortStep
step_at port place value = port_step (access_at port place) value (marked (from_at place) port.hand (note_at port place value))

sequence_left : (port : PortView) (from value : ℕ) →
    left (port_after port (AtSequence from) value) ≡ (if nat_lt value (slice_index port.lasts from) then Ended else if value == 0 then Ended else read_length from (other_start port from) port.most value)
sequence_left port from value = either (nat_lt value (slice_index port.lasts from)) (closed port) _ Ended _ refl (either (value == 0) (closed port) _ Ended _ refl refl)

length_left : (port : PortView) (from sequence value : ℕ) →
    left (port_after port (AtLength from sequence) value) ≡ (if is_length port.most value then read_words from (other_start port from) port.most sequence value [] 0 (words_for value) else Ended)
length_left port from sequence value =
    either (is_length port.most value) _ (closed port) _ Ended (reads_left (record port { place = reading_place from sequence value 0 (words_for value); hand = [] }) from sequence value 0 (words_for value)) refl

second_left : (port : PortView) (from sequence value : ℕ) → left (port_after port (AtSecond from sequence) value) ≡ Ended
second_left port from sequence value = by_bool (value == sequence)
  where
    by_bool : (b : Bool) → left (if b then got port from sequence else closed port) ≡ Ended
    by_bool true = refl
    by_bool false = refl

comes_at : (port : PortView) (place : Place) (value : ℕ) → is_open place ≡ true → Goes (left_at port place) (step_at port place value) (left (port_after port place value))
comes_at port Closed value is = let f : false ≡ true = is in cc
comes_at port WritingLength value is = (refl, writes_left (record port { place = writing_place 0 (words_for (length port.hand)) }) 0 (words_for (length port.hand)))
comes_at port (WritingWord at more) value is = (refl, writes_left (record port { place = writing_place (at + 1) more }) (at + 1) more)
comes_at port WritingSequence value is = (refl, refl)
comes_at port (AtSequence from) value is =
    (value, stepped _ value _ _ (sequence_marked from port.hand (nat_lt value (slice_index port.lasts from)) (value == 0) value), sequence_left port from value)
comes_at port (AtLength from sequence) value is = (value, stepped _ value _ _ (length_marked from port.hand (is_length port.most value) value), length_left port from sequence value)
comes_at port (AtWord from sequence bytes at more) value is =
    (value, refl, reads_left (record port { place = reading_place from sequence bytes (at + 1) more; hand = take bytes (port.hand ++ word_bytes value) }) from sequence bytes (at + 1) more)
comes_at port (AtSecond from sequence) value is = (value, stepped _ value _ _ (second_marked from port.hand (value == sequence) sequence value), second_left port from sequence value)

goes_at : (port : PortView) (place : Place) (step : PortStep) (rest : PortTree) → Goes (left_at port place) step rest →
    (value : ℕ) × (step ≡ step_at port place value) × (rest ≡ left (port_after port place value))
goes_at port Closed step rest g = absurd g
goes_at port WritingLength step rest g = (0, g.0, g.1 ∙ sym (comes_at port WritingLength 0 refl).1)
goes_at port (WritingWord at more) step rest g = (0, g.0, g.1 ∙ sym (comes_at port (WritingWord at more) 0 refl).1)
goes_at port WritingSequence step rest g = (0, g.0, g.1)
goes_at port (AtSequence from) step rest g =
    (g.0, g.1 ∙ sym (stepped _ g.0 _ _ (sequence_marked from port.hand (nat_lt g.0 (slice_index port.lasts from)) (g.0 == 0) g.0)), g.2 ∙ sym (sequence_left port from g.0))
goes_at port (AtLength from sequence) step rest g = (g.0, g.1 ∙ sym (stepped _ g.0 _ _ (length_marked from port.hand (is_length port.most g.0) g.0)), g.2 ∙ sym (length_left port from sequence g.0))
goes_at port (AtWord from sequence bytes at more) step rest g =
    (g.0, g.1, g.2 ∙ sym (reads_left (record port { place = reading_place from sequence bytes (at + 1) more; hand = take bytes (port.hand ++ word_bytes g.0) }) from sequence bytes (at + 1) more))
goes_at port (AtSecond from sequence) step rest g = (g.0, g.1 ∙ sym (stepped _ g.0 _ _ (second_marked from port.hand (g.0 == sequence) sequence g.0)), g.2 ∙ sym (second_left port from sequence g.0))

ended_at : (port : PortView) (place : Place) → is_open place ≡ false → left_at port place ≡ Ended
ended_at port Closed is = refl
ended_at port place is = let f : true ≡ false = is in cc

pub following : PortsFollowCalls
following = record {
  publishes = λ port message. refl;
  samples = λ port from. refl;
  comes = λ port value is. comes_at port port.place value is;
  goes = λ port step rest g. goes_at port port.place step rest g;
  ended = λ port is. ended_at port port.place is;
}
