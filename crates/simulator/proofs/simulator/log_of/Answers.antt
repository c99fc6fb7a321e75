use Rattle.std.proofs.Common.{◌≡◌, ℕ, zero, suc, ◌<◌, Bool, false, [], ◌∷◌, arith}
use Rattle.std.specs.Prelude.{slice_index_or}
use Rattle.lawful_history.specs.Sides.{world_of}
use Rattle.scenario_text.specs.Scenario.{is_link}
use Rattle.simulator.proofs.simulator.log_of.Goals as goal

two_flags : (flag : ℕ → Bool) (a b : Bool) → a ≡ flag 0 → b ≡ flag 1 → (p : ℕ) → p < 2 → slice_index_or (a ∷ b ∷ []) p false ≡ flag p
two_flags flag a b first second zero two = first
two_flags flag a b first second (suc zero) two = second
two_flags flag a b first second (suc (suc p)) two = absurd (omega arith)

pub returns : goal.returns
returns c =
    let world = world_of c.args.scenario.now in
    c.new.ensures world (two_flags (is_link world) c.is_link.result c.is_link-2.result c.is_link.ensures c.is_link-2.ensures)
