-- The counts of a history.
use Rattle.std.proofs.Common.{◌≡◌, ℕ, ◌+◌, ◌<◌, List, [], ◌∷◌, ◌++◌, length, take, get_or, Bool, Option, Some, None, refl, sym, ap, subst, ◌∙◌, zero-add, arith}
use Rattle.std.specs.Prelude.{count_by, fold, unwrap_or, if◌then◌else◌}
use Rattle.std.specs.List.{filter_map, last_or, cons_option}
use Rattle.std.proofs.lemmas.List.{take_more}
use Rattle.std.proofs.lemmas.List.Sums.{sum_by-append, fold-append}
use Rattle.scenario_text.specs.Scenario.{World}
use Rattle.lawful_history.specs.declared.line.Line.{Line}
use Rattle.ivshm_cli.specs.declared.summary.Counts.{Counts}
use Rattle.ivshm_cli.specs.Load.{is_accept, is_deliver, is_refuse, written_to, last_written, index_word, summary_of}
use Rattle.ivshm_cli.specs.Counted.{none_of, with_line, last_from, HasCounted, lines_of_counts}

-- The fold that replaces the last value by each new one gives the last.
last_is_fold : (recorded : Line → Option ℕ) (lines : List Line) (o : Option ℕ) → unwrap_or (last_or o (filter_map recorded lines)) 0 ≡ fold (λ last line. unwrap_or (recorded line) last) (unwrap_or o 0) lines
last_is_fold recorded [] o = refl
last_is_fold recorded (line ∷ lines) o =
    elim (recorded line) as (λ (said : Option ℕ). unwrap_or (last_or o (cons_option said (filter_map recorded lines))) 0 ≡ fold (λ last line. unwrap_or (recorded line) last) (unwrap_or said (unwrap_or o 0)) lines) [
      | Some value ↦ last_is_fold recorded lines (Some value)
      | None ↦ last_is_fold recorded lines o
    ]

-- Counts of lines after other lines.
more_counted : (p : Line → Bool) (a b c : ℕ) (before lines : List Line) → b ≡ a + count_by p before → c ≡ b + count_by p lines → c ≡ a + count_by p (before ++ lines)
more_counted p a b c before lines first then_ = let both = sum_by-append (λ (x : Line). if p x then 1 else 0) before lines in omega (arith, first, then_, both)

pub followed : (began now later : Counts) (before lines : List Line) → HasCounted began now before → HasCounted now later lines → HasCounted began later (before ++ lines)
followed began now later before lines first then_ = record {
  word = then_.word ∙ first.word;
  accepted = more_counted is_accept began.accepted now.accepted later.accepted before lines first.accepted then_.accepted;
  delivered = more_counted is_deliver began.delivered now.delivered later.delivered before lines first.delivered then_.delivered;
  refused = more_counted is_refuse began.refused now.refused later.refused before lines first.refused then_.refused;
  last = then_.last
      ∙ ap (λ (w : ℕ). last_from w now.last lines) first.word
      ∙ ap (λ (l : ℕ). last_from began.word l lines) first.last
      ∙ sym (fold-append (λ last line. unwrap_or (written_to began.word line) last) began.last before lines);
}

plus_zero : (a b : ℕ) → a + b ≡ a + (0 + b)
plus_zero a b = omega arith

-- One line.
one : (began now : Counts) (line : Line) → now ≡ with_line began line → HasCounted began now (line ∷ [])
one began now line is = subst (λ (c : Counts). HasCounted began c (line ∷ [])) (sym is) (record { word = refl; accepted = plus_zero _ _; delivered = plus_zero _ _; refused = plus_zero _ _; last = refl })

pub line_more : (began now later : Counts) (lines : List Line) (i : ℕ) (line : Line) → i < length lines → line ≡ get_or lines i line → HasCounted began now (take i lines) → later ≡ with_line now line → HasCounted began later (take (i + 1) lines)
line_more began now later lines i line inside is so_far next =
    subst (λ (ls : List Line). HasCounted began later ls) (sym (take_more lines i line inside ∙ ap (λ (l : Line). take i lines ++ l ∷ []) (sym is)))
    (followed began now later (take i lines) (line ∷ []) so_far (one now later line next))

-- The counts of all lines are their summary.
pub counted : (count : ℕ) (world : World) (began counts : Counts) (lines : List Line) → began ≡ none_of world → HasCounted began counts lines → lines_of_counts count counts ≡ summary_of count world lines
counted count world began counts lines is received =
    let from = subst (λ (b : Counts). HasCounted b counts lines) is received in
    let accepted : counts.accepted ≡ count_by is_accept lines = from.accepted ∙ zero-add (count_by is_accept lines) in
    let delivered : counts.delivered ≡ count_by is_deliver lines = from.delivered ∙ zero-add (count_by is_deliver lines) in
    let refused : counts.refused ≡ count_by is_refuse lines = from.refused ∙ zero-add (count_by is_refuse lines) in
    let last : counts.last ≡ last_written (index_word world) lines = from.last ∙ sym (last_is_fold (written_to (index_word world)) lines None) in
    rw (accepted, delivered, refused, last) refl
