-- A line of the log, with the marks before it.
use Rattle.std.proofs.Common.{◌≡◌, ℕ, ◌+◌, ◌≤◌, Bool, true, false, List, [], ◌∷◌, ◌++◌, refl, sym, ◌∙◌, ap, arith, append_assoc}
use Rattle.std.specs.Prelude.{◌==◌, if◌then◌else◌, reverse, slice_index_or}
use Rattle.std.proofs.lemmas.List.Folds.{list_all-append}
use Rattle.scenario_text.specs.Scenario.{World}
use Rattle.lawful_history.specs.declared.line.Line.{Line}
use Rattle.lawful_history.specs.Frames.{has_frame, HaveFrames}
use Rattle.lawful_history.specs.Sessions.{writes_state, opened_in, marks_before, recorded_line, recorded_in}
use Rattle.lawful_history.proofs.SessionMarks.{recorded_in-more}
use Rattle.simulator.specs.Log.{Output, AreFew, Counts, IsLogOf, marks_in}
use Rattle.simulator.specs.declared.log.Log.{Log}

frames_append : (xs ys : List Line) → HaveFrames xs → HaveFrames ys → HaveFrames (xs ++ ys)
frames_append xs ys have more = list_all-append has_frame xs ys ∙ rw (have, more) refl

one_frame : (line : Line) → has_frame line ≡ true → HaveFrames (line ∷ [])
one_frame line frame = rw frame refl

no_fewer : (b : Bool) (n : ℕ) → n ≤ (if b then n + 1 else n)
no_fewer true n = omega arith
no_fewer false n = omega arith

-- If sessions are few now, they were few before.
few_before : (line : Line) (past : List Line) → AreFew (line ∷ past) → AreFew past
few_before line past few = λ p. let now = few p in let more = no_fewer (writes_state p 2 line) (opened_in past p) in omega arith

-- The marks before a line, and then the line.
recorded_by_test : (world : World) (past : List Line) (line : Line) (b : Bool) →
    (if b then marks_before world past line ++ line ∷ [] else line ∷ []) ≡ (if b then marks_before world past line else []) ++ line ∷ []
recorded_by_test world past line true = refl
recorded_by_test world past line false = refl

recorded_line_is : (world : World) (version : ℕ) (past : List Line) (line : Line) → recorded_line world version past line ≡ marks_in world version past line ++ line ∷ []
recorded_line_is world version past line = recorded_by_test world past line (version == 2)

pub pushed : (world : World) (output : Output) (past : List Line) (line : Line) (old marked new : Log) → has_frame line ≡ true → (AreFew past → marked.lines ≡ old.lines ++ marks_in world output.version past line) →
    (HaveFrames old.lines → HaveFrames marked.lines) → new.version ≡ old.version → new.honest ≡ old.honest → Counts (line ∷ past) new → new.lines ≡ marked.lines ++ line ∷ [] → IsLogOf world output past old →
    IsLogOf world output (line ∷ past) new
pushed world output past line old marked new frame marks frames version honest counts put log = record {
  version = version ∙ log.version;
  honest = λ p two. ap (λ hs. slice_index_or hs p false) honest ∙ log.honest p two;
  counts = counts;
  lines = λ few.
      let before = few_before line past few in
      let due = marks_in world output.version past line in
      ap (λ ls. output.drained ++ ls) (put ∙ ap (λ ls. ls ++ line ∷ []) (marks before) ∙ append_assoc old.lines due (line ∷ []))
      ∙ sym (append_assoc output.drained old.lines (due ++ line ∷ [])) ∙ ap (λ ls. ls ++ (due ++ line ∷ [])) (log.lines before)
      ∙ ap (λ ls. recorded_in world output.version (reverse past) ++ ls) (sym (recorded_line_is world output.version past line)) ∙ sym (recorded_in-more world output.version past line);
  frames = rw put (frames_append marked.lines (line ∷ []) (frames log.frames) (one_frame line frame));
}
