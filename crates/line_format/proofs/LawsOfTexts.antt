-- The laws of all texts: each holds if the lines of a value lead to an end that has this value.
use Rattle.std.proofs.Common.{◌≡◌, ℕ, ◌+◌, ◌<◌, List, ◌++◌, length, take, Ok, Err, ap, subst, ◌∙◌}
use Rattle.line_format.specs.Forms.{cuts}
use Rattle.line_format.specs.Machine.{Machine, Leads, text_of_lines, read}
use Rattle.line_format.specs.Texts.{Sense, said, SpelledIsRead, CutIsNoEnd, BytesAfterEndAreALine, FaultIsFirst}
use Rattle.line_format.proofs.ReadingLines.{reads, reads_cut, reads_after, is_first_wrong}

-- The lines of a value w with these bytes.
pub record HasLines {S C W E : Type 0} (m : Machine S C) (s : Sense S C W E) (line_count : W → ℕ) (w : W) (bytes : List ℕ) : Type 0 where
  pub lines : List (List ℕ)
  pub at_end : S
  pub text : bytes ≡ text_of_lines lines
  pub leads : Leads m s.start lines at_end
  pub says : s.value at_end ≡ Ok w
  pub counted : 0 + length lines + 1 ≡ line_count w + 1

-- The fact that each text has to prove.
pub record IsForward {S C W E : Type 0} (m : Machine S C) (s : Sense S C W E) (Spells : W → List ℕ → Type 0) (line_count : W → ℕ) : Type 0 where
  pub has : (w : W) (bytes : List ℕ) → Spells w bytes → HasLines m s line_count w bytes

pub spelled_is_read : {S C W E : Type 0} {m : Machine S C} {s : Sense S C W E} {Spells : W → List ℕ → Type 0} {line_count : W → ℕ} → IsForward m s Spells line_count → SpelledIsRead m s Spells
spelled_is_read {S} {C} {W} {E} {m} {s} forward w bytes is =
    let h = forward.has w bytes is in
    ap (λ (t : List ℕ). said s (read m s.start t)) h.text ∙ ap (λ x. said s x) (reads m s.start 0 h.lines h.at_end h.leads) ∙ h.says

pub cut_is_no_end : {S C W E : Type 0} {m : Machine S C} {s : Sense S C W E} {Spells : W → List ℕ → Type 0} {line_count : W → ℕ} → IsForward m s Spells line_count → CutIsNoEnd m s Spells
cut_is_no_end {S} {C} {W} {E} {m} {s} forward w bytes j is lt =
    let h = forward.has w bytes is in
    let few : j < length (text_of_lines h.lines) = subst (λ (t : List ℕ). j < length t) h.text lt in
    ap (λ (t : List ℕ). said s (read m s.start (take j t))) h.text ∙ ap (λ x. said s x) (reads_cut m s.start 0 h.lines h.at_end j h.leads few)

pub bytes_after_end_are_a_line : {S C W E : Type 0} {m : Machine S C} {s : Sense S C W E} {Spells : W → List ℕ → Type 0} {line_count : W → ℕ} → IsForward m s Spells line_count → BytesAfterEndAreALine m s Spells line_count
bytes_after_end_are_a_line {S} {C} {W} {E} {m} {s} forward w bytes more is some =
    let h = forward.has w bytes is in
    ap (λ (t : List ℕ). said s (read m s.start (t ++ more))) h.text
    ∙ ap (λ x. said s x) (reads_after m s.start 0 h.lines h.at_end more h.leads some)
    ∙ ap (λ (k : ℕ). Err (s.after k)) h.counted

pub fault_is_first : {S C W E : Type 0} (m : Machine S C) (s : Sense S C W E) → FaultIsFirst m s
fault_is_first m s bytes cause line is = is_first_wrong m s.start (cuts 10 bytes) cause line is
