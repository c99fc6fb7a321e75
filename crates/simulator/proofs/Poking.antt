-- A poke: the write is made if the peer may write the word, and denied otherwise.
use Rattle.std.proofs.Common.{◌≡◌, ℕ, Bool, true, false, List, [], ◌∷◌, ◌++◌, refl, sym, ap, ◌∙◌}
use Rattle.std.specs.Prelude.{reverse, slice_set, if◌then◌else◌}
use Rattle.section_map.specs.MayWrite.{MayWrite, may_write}
use Rattle.split_ring.specs.declared.steps.Access.TheVariants as access
use Rattle.scenario_text.specs.Scenario.{World}
use Rattle.lawful_history.specs.declared.line.Line.{Line}
use Rattle.lawful_history.specs.declared.line.Line.TheVariants as line
use Rattle.lawful_history.specs.EventRecords.{region_access_lines}
use Rattle.lawful_history.specs.History.{acted_step}
use Rattle.section_map.proofs.TestDecidesWrites.{may_test, may_fails}
use Rattle.simulator.specs.Log.{Output, Records}
use Rattle.simulator.specs.WorldState.{WorldStateAfter}
use Rattle.simulator.specs.declared.world_state.WorldState.{WorldState}
use Rattle.simulator.proofs.InterruptLines.{plain_after, written}

-- The lines of a poke.
poked_lines : (world : World) (past : List Line) (p word value : ℕ) (b : Bool) → may_write world.geometry p word ≡ b →
    reverse (region_access_lines p (access.Write word value) (acted_step world p (access.Write word value) past) []) ++ past ≡ (if b then line.Write p word value else line.Denied p word) ∷ past
poked_lines world past p word value true is = rw is refl
poked_lines world past p word value false is = rw is refl

pub poke_writes : (world : World) (output : Output) (past : List Line) (losses : ℕ → ℕ) (s s' : WorldState) (me word value : ℕ) → WorldStateAfter world output past losses s → MayWrite s.region.shape me word →
    s'.region ≡ record s.region { words = slice_set s.region.words word value } → s'.device ≡ s.device → s'.unspent ≡ s.unspent → Records (line.Write me word value) s.log s'.log →
    WorldStateAfter world output (reverse (region_access_lines me (access.Write word value) (acted_step world me (access.Write word value) past) []) ++ past) losses s'
poke_writes world output past losses s s' me word value after may region device unspent log_step =
    let is : may_write world.geometry me word ≡ true = ap (λ g. may_write g me word) (sym after.shape) ∙ may_test s.region.shape me word may in
    rw (poked_lines world past me word value true is)
    (plain_after world output past losses s s' (line.Write me word value) after refl refl (λ p. refl) (rw region (λ k inside. written s.region.words past word value k inside after.words)) (ap (λ r. r.shape) region) device unspent log_step)

pub poke_denied : (world : World) (output : Output) (past : List Line) (losses : ℕ → ℕ) (s s' : WorldState) (me word value : ℕ) → WorldStateAfter world output past losses s → ¬ MayWrite s.region.shape me word → s'.region ≡ s.region →
    s'.device ≡ s.device → s'.unspent ≡ s.unspent → Records (line.Denied me word) s.log s'.log →
    WorldStateAfter world output (reverse (region_access_lines me (access.Write word value) (acted_step world me (access.Write word value) past) []) ++ past) losses s'
poke_denied world output past losses s s' me word value after may_not region device unspent log_step =
    let is : may_write world.geometry me word ≡ false = ap (λ g. may_write g me word) (sym after.shape) ∙ may_fails s.region.shape me word may_not in
    rw (poked_lines world past me word value false is)
    (plain_after world output past losses s s' (line.Denied me word) after refl refl (λ p. refl) (rw region after.words) (ap (λ r. r.shape) region) device unspent log_step)
