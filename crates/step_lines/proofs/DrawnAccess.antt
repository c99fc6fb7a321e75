-- The access of three draws.
use Rattle.std.proofs.Common.{◌≡◌, ℕ, refl, ap, ◌∙◌, arith}
use Rattle.split_ring.specs.declared.steps.Access.{Access}
use Rattle.scenario_text.specs.Scenario.{World}
use Rattle.lawful_history.specs.Storm.{next_number, draw, drawn_access, storm_step}
use Rattle.lawful_history.proofs.Exists.{ring_words, storm_does}
use Rattle.step_lines.specs.declared.storm.Storm.{Storm}
use Rattle.step_lines.specs.Storms.{IsStormOf, IsDrawn, DrawsIn}

-- A drawn access is one of those of a storm.
drawn_is : (world : World) (p kind place value : ℕ) (storm : Storm) → IsStormOf world storm → IsDrawn world p (drawn_access world p kind place value)
drawn_is world p kind place value storm is =
    let ring = ring_words world.queue is.sizes in
    let least = ring.0 in
    let most = ring.1 in
    let out = is.out in
    let page = is.shape.out_page in
    storm_does world p kind place value _ _ _ refl refl refl (omega arith) (omega arith) (omega arith) (IsDrawn world p) (λ word low high. (low, high)) (λ state. tt) (λ target vector. tt)

pub draws : (world : World) (p x first second third kind place value : ℕ) (storm : Storm) (a : Access) → IsStormOf world storm → first ≡ next_number x → second ≡ next_number first → third ≡ next_number second →
    kind ≡ draw first → place ≡ draw second → value ≡ draw third → a ≡ drawn_access world p kind place value → DrawsIn world p (storm_step world p x) a
draws world p x first second third kind place value storm a is one two three k l v a_is =
    let two' = two ∙ ap next_number one in
    let three' = three ∙ ap next_number two' in
    let kind_is = k ∙ ap draw one in
    let place_is = l ∙ ap draw two' in
    let value_is = v ∙ ap draw three' in
    let same : a ≡ drawn_access world p (draw (next_number x)) (draw (next_number (next_number x))) (draw (next_number (next_number (next_number x)))) =
    a_is ∙ (λ i. drawn_access world p (kind_is i) (place_is i) (value_is i)) in
    let drawn = drawn_is world p (draw (next_number x)) (draw (next_number (next_number x))) (draw (next_number (next_number (next_number x)))) storm is in
    rw same (record { is = refl; drawn = drawn })
