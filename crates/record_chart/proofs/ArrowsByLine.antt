-- Arrows line by line.
use Rattle.std.proofs.Common.{ℕ, ◌≡◌, ◌+◌, ◌-◌, ◌<◌, ◌≤◌, Bool, true, false, if◌then◌else◌, List, [], ◌∷◌, ◌++◌, length, take, drop, reverse, get_or, slice_get, ap, sym, ◌∙◌, arith, append_assoc}
use Rattle.std.proofs.lemmas.List.{drop_more, take_more, reverse-append, length-reverse, length-take-le, append-nil, drop_all}
use Rattle.lawful_history.specs.declared.line.Line.{Line}
use Rattle.record_chart.specs.declared.arrows.Arrow.{Arrow}
use Rattle.record_chart.specs.Arrows.{begins_session, delivers, accepted_after, acceptances, delivered_after, delivery_count, source_of, arrow_to, arrows_after}

-- The lines before index `at`, newest first.
abbrev pub past : ℕ → List Line → List Line
past at lines = reverse (take at lines)

pub past_more : (lines : List Line) (at : ℕ) (line : Line) → at < length lines → line ≡ get_or lines at line → past (at + 1) lines ≡ line ∷ past at lines
past_more lines at line below is =
    ap reverse (take_more lines at line below) ∙ reverse-append (take at lines) (get_or lines at line ∷ []) ∙ ap (λ (l : Line). l ∷ past at lines) (sym is)

pub length_past : (lines : List Line) (at : ℕ) → at ≤ length lines → length (past at lines) ≡ at
length_past lines at below = length-reverse (take at lines) ∙ length-take-le at lines below

pub acceptances_more : (peer : ℕ) (lines : List Line) (at : ℕ) (line : Line) (numbers : List ℕ) → at < length lines → line ≡ get_or lines at line →
    numbers ≡ acceptances peer (past at lines) → accepted_after peer (at + 1) line numbers ≡ acceptances peer (past (at + 1) lines)
acceptances_more peer lines at line numbers below is so_far =
    ap (accepted_after peer (at + 1) line) so_far
    ∙ ap (λ (n : ℕ). accepted_after peer (n + 1) line (acceptances peer (past at lines))) (sym (length_past lines at (omega arith)))
    ∙ ap (acceptances peer) (sym (past_more lines at line below is))

pub delivered_more : (peer : ℕ) (lines : List Line) (at : ℕ) (line : Line) (count : ℕ) → at < length lines → line ≡ get_or lines at line →
    count ≡ delivery_count peer (past at lines) → delivered_after peer line count ≡ delivery_count peer (past (at + 1) lines)
delivered_more peer lines at line count below is so_far = ap (delivered_after peer line) so_far
    ∙ ap (delivery_count peer) (sym (past_more lines at line below is))

at_most_one : (b d : Bool) (count at : ℕ) → count ≤ at → (if b then 0 else if d then count + 1 else count) ≤ at + 1
at_most_one true d count at le = omega arith
at_most_one false true count at le = omega arith
at_most_one false false count at le = omega arith

pub delivered_few : (peer : ℕ) (line : Line) (count at : ℕ) → count ≤ at → delivered_after peer line count ≤ at + 1
delivered_few peer line count at le = at_most_one (begins_session peer line) (delivers peer line) count at le

-- The arrows so far, with those of the rest of the lines.
abbrev pub all_arrows : (peer first at : ℕ) → List Arrow → List Line → List Arrow
all_arrows peer first at arrows lines = arrows ++ arrows_after peer first (past at lines) (drop at lines)

pub arrows_more : (peer first at : ℕ) (arrows : List Arrow) (lines : List Line) (line : Line) (numbers : List ℕ) (count : ℕ) → at < length lines →
    line ≡ get_or lines at line →
    numbers ≡ acceptances (1 - peer) (past at lines) → count ≡ delivery_count peer (past at lines) →
    all_arrows peer first (at + 1) (arrows ++ arrow_to peer first (at + 1) (slice_get numbers count) line) lines ≡ all_arrows peer first at arrows lines
arrows_more peer first at arrows lines line numbers count below is accepted delivered =
    let rest : List Arrow = arrows_after peer first (line ∷ past at lines) (drop (at + 1) lines) in
    let here : drop at lines ≡ line ∷ drop (at + 1) lines = drop_more lines at line below ∙ ap (λ (l : Line). l ∷ drop (at + 1) lines) (sym is) in
    let source : slice_get numbers count ≡ source_of peer (past at lines) =
    ap (λ (ns : List ℕ). slice_get ns count) accepted ∙ ap (slice_get (acceptances (1 - peer) (past at lines))) delivered in
    ap (λ (older : List Line). arrows ++ arrow_to peer first (at + 1) (slice_get numbers count) line ++ arrows_after peer first older (drop (at + 1) lines))
    (past_more lines at line below is)
    ∙ append_assoc arrows (arrow_to peer first (at + 1) (slice_get numbers count) line) rest
    ∙ ap (λ (n : ℕ). arrows ++ (arrow_to peer first (n + 1) (slice_get numbers count) line ++ rest)) (sym (length_past lines at (omega arith)))
    ∙ ap (λ s. arrows ++ (arrow_to peer first (length (past at lines) + 1) s line ++ rest)) source
    ∙ ap (λ (ls : List Line). arrows ++ arrows_after peer first (past at lines) ls) (sym here)

pub arrows_all : (peer first at : ℕ) (arrows : List Arrow) (lines : List Line) → length lines ≤ at → all_arrows peer first at arrows lines ≡ arrows
arrows_all peer first at arrows lines over = ap (λ (ls : List Line). arrows ++ arrows_after peer first (past at lines) ls) (drop_all at lines over)
    ∙ append-nil arrows
