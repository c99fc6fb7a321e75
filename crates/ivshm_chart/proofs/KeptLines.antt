-- The lines of a record that are kept while all are read.
use Rattle.std.proofs.Common.{◌≡◌, ℕ, ◌<◌, ◌≤◌, Bool, true, List, [], ◌∷◌, ◌++◌, length, Result, Ok, Err, refl, ap, sym, ◌∙◌, subst, arith, inl, inr, append_assoc}
use Rattle.std.specs.Prelude.{◌&&◌, IfErr}
use Rattle.std.specs.Result.{IsErrAnd}
use Rattle.std.proofs.lemmas.Bool.{cases_lt}
use Rattle.std.proofs.lemmas.List.{append-nil}
use Rattle.std.proofs.lemmas.List.Folds.{list_all-append}
use Rattle.scenario_text.specs.Scenario.{World}
use Rattle.lawful_history.specs.declared.line.Line.{Line}
use Rattle.lawful_history.specs.Frames.{has_frame, HaveFrames}
use Rattle.record_text.specs.declared.faults.RecordFault.{RecordFault}
use Rattle.record_text.specs.declared.reader.Reader.{Reader}
use Rattle.record_text.specs.Judge.{answer}
use Rattle.record_text.specs.Answers.{Refuses}
use Rattle.record_text.specs.Readers.{IsReading}

-- The lines kept and the others were read; there are no others until `most` lines are kept.
pub record Keeps (bytes : List ℕ) (version : ℕ) (world : World) (most : ℕ) (lines : List Line) (reader : Reader) : Type 0 where
  pub others : List Line
  pub reads : IsReading bytes version world (lines ++ others) reader
  pub frames : HaveFrames lines
  pub all : length lines < most → others ≡ []

both : (a b : Bool) → a ≡ true → b ≡ true → (a && b) ≡ true
both a b one two = rw (one, two) refl

one_frame : (line : Line) → has_frame line ≡ true → HaveFrames (line ∷ [])
one_frame line framed = both (has_frame line) true framed refl

-- One more line.
pub keeps_on : (bytes : List ℕ) (version : ℕ) (world : World) (most : ℕ) (lines lines' : List Line) (line : Line) (reader reader' : Reader) → (so_far : Keeps bytes version world most lines reader)
    → IsReading bytes version world ((lines ++ so_far.others) ++ line ∷ []) reader' × (has_frame line ≡ true) → (length lines < most → lines' ≡ lines ++ line ∷ []) → (most ≤ length lines → lines' ≡ lines)
    → Keeps bytes version world most lines' reader'
keeps_on bytes version world most lines lines' line reader reader' so_far next kept full =
    elim (cases_lt (length lines) most) [
      | inl few ↦
          let place : (lines ++ so_far.others) ++ line ∷ [] ≡ lines' ++ [] =
          ap (λ (ls : List Line). (lines ++ ls) ++ line ∷ []) (so_far.all few) ∙ ap (λ (ls : List Line). ls ++ line ∷ []) (append-nil lines) ∙ sym (kept few) ∙ sym (append-nil lines') in
          record {
            others = [];
            reads = subst (λ (ls : List Line). IsReading bytes version world ls reader') place next.0;
            frames = subst (λ (ls : List Line). HaveFrames ls) (sym (kept few)) (list_all-append has_frame lines (line ∷ []) ∙ both _ _ so_far.frames (one_frame line next.1));
            all = λ less. refl;
          }
      | inr many ↦
          let place : (lines ++ so_far.others) ++ line ∷ [] ≡ lines' ++ (so_far.others ++ line ∷ []) =
          append_assoc lines so_far.others (line ∷ []) ∙ ap (λ (ls : List Line). ls ++ (so_far.others ++ line ∷ [])) (sym (full many)) in
          record {
            others = so_far.others ++ line ∷ [];
            reads = subst (λ (ls : List Line). IsReading bytes version world ls reader') place next.0;
            frames = subst (λ (ls : List Line). HaveFrames ls) (sym (full many)) so_far.frames;
            all = λ less. absurd (omega (arith, less, many, ap length (full many)));
          }
    ]

-- A fault that is passed on is the text's.
pub passed_on : {T : Type 0} (bytes : List ℕ) (fault : RecordFault) (result : Result T RecordFault) → IsErrAnd result (λ e. e ≡ fault) → Refuses fault (answer bytes) → IfErr result (λ f. Refuses f (answer bytes))
passed_on bytes fault (Ok value) gives refuses = tt
passed_on bytes fault (Err e) gives refuses = subst (λ (f : RecordFault). Refuses f (answer bytes)) (sym gives) refuses
