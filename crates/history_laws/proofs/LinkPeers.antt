-- A link peer in the scenario and in the link's configuration.
use Rattle.std.proofs.Common.{◌≡◌, ℕ, zero, suc, ◌-◌, ◌<◌, refl, sym, ◌∙◌, ap, arith}
use Rattle.section_map.specs.Geometry.{section_start}
use Rattle.scenario_text.specs.Scenario.{World}
use Rattle.call_grammar.specs.Calls.{EndConfig}
use Rattle.link_invariant.specs.LinkConfig as pair
use Rattle.lawful_history.specs.Sides.{partner, traffic_vector, config_of}
use Rattle.history_laws.proofs.PermittedEvents.{link_config_of}
use Rattle.history_laws.proofs.OtherLines.{section_is}

pub partner_is : (q : ℕ) → q < 2 → partner q ≡ 1 - q
partner_is zero below = refl
partner_is (suc zero) below = refl
partner_is (suc (suc q)) below = absurd (omega arith)

pub config_is : (world : World) (q : ℕ) → q < 2 → config_of world q ≡ pair.config_of (link_config_of world) q
config_is world q below =
    let make : ℕ → ℕ → ℕ → EndConfig = λ other own other_start. record { me = q; other = other; own = own; other_start = other_start; words = world.geometry.out; sizes = world.queue; vector = traffic_vector world.wiring } in
    let g = world.geometry in
    let e = partner_is q below in
    ap (λ (o : ℕ). make o (section_start g q) (section_start g (partner q))) e ∙
    (ap (λ (s : ℕ). make (1 - q) s (section_start g (partner q))) (sym (section_is world q)) ∙
    ap (λ (t : ℕ). make (1 - q) (pair.section_of (link_config_of world) q) t) (ap (section_start g) e ∙ sym (section_is world (1 - q))))
