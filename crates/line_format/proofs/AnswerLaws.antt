-- A text is read exactly if it is the spelling of what is read, for every text.
use Rattle.std.proofs.Common.{◌≡◌, ℕ, Bool, true, false, List, Result, Ok, Err, ap, subst, ◌∙◌}
use Rattle.std.specs.Result.{IsErrAnd}
use Rattle.line_format.specs.declared.reading.TextFault.{TextFault}
use Rattle.line_format.specs.declared.reading.TextFault.TheVariants as texts
use Rattle.line_format.specs.Machine.{Machine, Wrong, read}
use Rattle.line_format.specs.Reading.{Reads}
use Rattle.line_format.specs.Texts.{Sense, said, answer}
use Rattle.line_format.specs.Answers.{Unless, Refuses, Answers, fault_of_text}
use Rattle.line_format.proofs.LawsOfTexts.{IsForward, spelled_is_read}

unless : (b : Bool) (Fact : Type 0) → Fact → Unless b Fact
unless true Fact is = tt
unless false Fact is = is

-- The fault of the lines is the fault that is returned.
pub refuses : {D S C W E : Type 0} (s : Sense S C W E) → s.is_no_memory s.no_memory ≡ true → (draft_view : D → S) (fault : TextFault C) (r : Result S (Wrong C)) → Reads draft_view (Err fault) r → Refuses s (fault_of_text s fault) (said s r)
refuses s free draft_view texts.NoMemory r is = rw free tt
refuses s free draft_view (texts.At cause n) r is = unless _ _ (ap (λ x. said s x) is)
refuses s free draft_view (texts.After n) r is = unless _ _ (ap (λ x. said s x) is)
refuses s free draft_view texts.NoEnd r is = unless _ _ (ap (λ x. said s x) is)

-- The answer for a text that was read from `start`, up to `d`.
pub exact_ok : {S C W E : Type 0} (m : Machine S C) (s : Sense S C W E) (bytes : List ℕ) {start d : S} {found : W} → start ≡ s.start → read m start bytes ≡ Ok d → s.value d ≡ Ok found → answer m s bytes ≡ Ok found
exact_ok m s bytes at is value = ap (λ x. said s x) (rw at at is) ∙ value

-- The fault of a text that was refused is that of the definition, unless an allocation failed.
pub exact_err : {D S C W E X : Type 0} (m : Machine S C) (s : Sense S C W E) → s.is_no_memory s.no_memory ≡ true
    → (view : X → W) (bytes : List ℕ) (draft_view : D → S) (fault : TextFault C) (r : Result X E) → IsErrAnd r (λ e. e ≡ fault_of_text s fault)
    → {start : S} → start ≡ s.start → Reads draft_view (Err fault) (read m start bytes) → Answers s view r (answer m s bytes)
exact_err m s free view bytes draft_view fault (Ok x) gives at is = absurd gives
exact_err m s free view bytes draft_view fault (Err e) gives at is = rw gives (refuses s free draft_view fault (read m s.start bytes) (rw at at is))

-- The exact answer for a spelling is the value that it spells.
pub only_answer : {S C W E X : Type 0} {m : Machine S C} {s : Sense S C W E} {Spells : W → List ℕ → Type 0} {line_count : W → ℕ} → IsForward m s Spells line_count
    → (view : X → W) (bytes : List ℕ) (r : Result X E) → Answers s view r (answer m s bytes) → (w : W) → Spells w bytes → Answers s view r (Ok w)
only_answer {S} {C} {W} {E} {X} {m} {s} forward view bytes r exact w spelled = subst (λ (x : Result W E). Answers s view r x) (spelled_is_read forward w bytes spelled) exact
