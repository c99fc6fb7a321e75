-- The facts at the marks of a lawful history.
use Rattle.std.proofs.Common.{◌∷◌, ◌++◌, ◌≡◌, [], List, sym, ap, subst, append_assoc}
use Rattle.lawful_history.specs.declared.line.Line.TheVariants.{Accept, Deliver, Refuse, Read, Write, Look, Reclaim}
use Rattle.history_laws.specs.Indexes.{IndexesAreReadOnce}
use Rattle.history_laws.specs.Quiet.{ResetsAreQuiet}
use Rattle.history_laws.specs.Reads.{DeliveredFramesAreRead, RefusedValuesAreRead, OutOfRangeIsRefused}
use Rattle.history_laws.specs.Spelled.{HistoriesSpellAccepted}
use Rattle.history_laws.proofs.LinkPlaces.{Fine, AnswersTo, Settled}
use Rattle.history_laws.proofs.Lines.{at_line, middle}
use Rattle.history_laws.proofs.PlacesAlong.{all_fine, all_settled}
use Rattle.history_laws.specs.Rows.{EachLine}
use Rattle.lawful_history.specs.declared.line.Line.{Line}
use Rattle.std.specs.Prelude.{reverse}

pub histories_spell_accepted : HistoriesSpellAccepted
histories_spell_accepted world before after p frame is lawful = (at_line (Fine world) before after (Accept p frame) (all_fine world (before ++ Accept p frame ∷ after) is lawful)).1

pub delivered_frames_are_read : DeliveredFramesAreRead
delivered_frames_are_read world before after p frame is lawful = (at_line (Fine world) before after (Deliver p frame) (all_fine world (before ++ Deliver p frame ∷ after) is lawful)).1

pub refused_values_are_read : RefusedValuesAreRead
refused_values_are_read world before after p refused is lawful = (at_line (Fine world) before after (Refuse p refused) (all_fine world (before ++ Refuse p refused ∷ after) is lawful)).1.0

pub out_of_range_is_refused : OutOfRangeIsRefused
out_of_range_is_refused world before [] p word value refused is honest lawful beyond =
    let read = Read p word value in
    let settled : Settled world (read ∷ reverse before) = subst (λ (ls : List Line). Settled world ls) (middle before [] read) (all_settled world (before ++ read ∷ []) is lawful) in
    absurd (settled refused honest beyond)
out_of_range_is_refused world before (next ∷ rest) p word value refused is honest lawful beyond =
    let read = Read p word value in
    let joined : before ++ read ∷ (next ∷ rest) ≡ (before ++ read ∷ []) ++ next ∷ rest = sym (append_assoc before (read ∷ []) (next ∷ rest)) in
    let all : EachLine (Fine world) (reverse ((before ++ read ∷ []) ++ next ∷ rest)) = subst (λ (ls : List Line). EachLine (Fine world) (reverse ls)) joined (all_fine world (before ++ read ∷ (next ∷ rest)) is lawful) in
    let here : AnswersTo world (reverse (before ++ read ∷ [])) next = (at_line (Fine world) (before ++ read ∷ []) rest next all).2 in
    let answered : AnswersTo world (read ∷ reverse before) next = subst (λ (ls : List Line). AnswersTo world ls next) (middle before [] read) here in
    (rest, ap (λ (l : Line). l ∷ rest) (answered refused honest beyond))

pub indexes_are_read_once : IndexesAreReadOnce
indexes_are_read_once = record {
  looks = λ world before after p count is lawful. (at_line (Fine world) before after (Look p count) (all_fine world (before ++ Look p count ∷ after) is lawful)).1;
  reclaims = λ world before after p count is lawful. (at_line (Fine world) before after (Reclaim p count) (all_fine world (before ++ Reclaim p count ∷ after) is lawful)).1;
  refusals = λ world before after p refused is lawful. (at_line (Fine world) before after (Refuse p refused) (all_fine world (before ++ Refuse p refused ∷ after) is lawful)).1.1;
}

pub resets_are_quiet : ResetsAreQuiet
resets_are_quiet world before after p word value is honest lawful = (at_line (Fine world) before after (Write p word value) (all_fine world (before ++ Write p word value ∷ after) is lawful)).3 honest
