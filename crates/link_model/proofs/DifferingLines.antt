-- Lines that leave the lawful history: what more lines after them change, and what they rule out.
use Rattle.std.proofs.Common.{◌≡◌, ℕ, ◌+◌, ◌<◌, ◌≤◌, List, [], ◌∷◌, ◌++◌, length, arith, refl, sym, ◌∙◌, ap, append_assoc, length-append}
use Rattle.std.proofs.lemmas.List.{append_cancel_left}
use Rattle.scenario_text.specs.Scenario.{World}
use Rattle.lawful_history.specs.declared.line.Line.{Line}
use Rattle.lawful_history.specs.Lawful.{IsLawfulIn}
use Rattle.link_model.specs.declared.fault.Unlawful.{Unlawful}
use Rattle.link_model.specs.BrokenLaw.{law_between}
use Rattle.link_model.specs.Difference.{head_of, DiffersAt, BeginsNone, Differs, Leaves}

head_more : (given more : List Line) → 0 < length given → head_of (given ++ more) ≡ head_of given
head_more [] more some = absurd (omega arith)
head_more (line ∷ given) more some = refl

-- One of the lines found is the one that differs.
some_given : (before given found : List Line) (line : ℕ) → found ≡ before ++ given → line ≡ length before + 1 → line ≤ length found → 0 < length given
some_given before given found line is number within = omega (arith, ap length is, length-append before given)

-- Lines after the one that differs change nothing.
pub longer : (lawful found more : List Line) (fault : Unlawful) → DiffersAt lawful found fault → fault.line ≤ length found → DiffersAt lawful (found ++ more) fault
longer lawful found more fault differs within =
    let head = head_more differs.given more (some_given differs.before differs.given found fault.line differs.found_is differs.line within) in
    record {
      before = differs.before;
      due = differs.due;
      given = differs.given ++ more;
      lawful_is = differs.lawful_is;
      found_is = ap (λ ls. ls ++ more) differs.found_is ∙ append_assoc differs.before differs.given more;
      differ = λ same. differs.differ (same ∙ head);
      line = differs.line;
      law = differs.law ∙ ap (λ h. law_between (head_of differs.due) h) (sym head);
    }

pub leaves_longer : (world : World) (version : ℕ) (found more : List Line) (fault : Unlawful) → Leaves world version found fault → Leaves world version (found ++ more) fault
leaves_longer world version found more fault leaves =
    let within = leaves.within in
    record {
      none = λ lawful rest is same. leaves.none lawful (more ++ rest) is (same ∙ append_assoc found more rest);
      differs = λ lawful is. longer lawful found more fault (leaves.differs lawful is) leaves.within;
      within = omega (arith, length-append found more);
    }

-- No lawful history begins with lines that leave it.
pub none_begins : (world : World) (version : ℕ) (found : List Line) (fault : Unlawful) → Differs world version found fault → fault.line ≤ length found → BeginsNone world version found
none_begins world version found fault each within = λ lawful rest is same.
    let differs = each lawful is in
    let head = head_more differs.given rest (some_given differs.before differs.given found fault.line differs.found_is differs.line within) in
    let due : differs.due ≡ differs.given ++ rest =
    append_cancel_left differs.before differs.due (differs.given ++ rest)
    (sym differs.lawful_is ∙ same ∙ ap (λ ls. ls ++ rest) differs.found_is ∙ append_assoc differs.before differs.given rest) in
    differs.differ (ap head_of due ∙ head)

-- Lines that differ from the lawful history aren't it.
pub not_lawful : (world : World) (version : ℕ) (found : List Line) (fault : Unlawful) → Differs world version found fault → IsLawfulIn world version found → ⊥
not_lawful world version found fault differs is =
    let here = differs found is in
    here.differ (ap head_of (append_cancel_left here.before here.due here.given (sym here.lawful_is ∙ here.found_is)))
