-- The promise of `run`: the running record of peers in threads of their own, by the access lists of
-- the pass of their words.
use Rattle.std.specs.Prelude.{ℕ, ◌≡◌, List, Option, Some, None}
use Rattle.ivs_base.specs.SourceAndSink.{Input, Output, Gave, HasEnded, Took}
use Rattle.scenario_text.specs.Scenario.{World}
use Rattle.scenario_text.specs.Spelling.{IsSpelling}
use Rattle.scenario_text.specs.Running.{not_running}
use Rattle.record_text.specs.Parts.{Part}
use Rattle.record_text.specs.RunSpelling.{IsRunSpelling}
use Rattle.shared_words.specs.Passes.{IsWhole}
use Rattle.peer_runner.specs.RunningRecord.{IsRunOf}
use Rattle.ivshm_cli.specs.declared.runs.Ran.{Ran}

-- The bytes spell a scenario in running form.
pub record SpellsRunning (bytes : List ℕ) : Type 0 where
  pub world : World
  pub spelled : IsSpelling world bytes
  pub running : not_running world ≡ None

-- The bytes spell a scenario in running form, and the words were made for it. The pass is of these
-- words and has all peers. The text is the running record in which each peer's part has the lines
-- of that peer's list in the pass.
pub record IsRunBy (ran : Ran) (bytes text : List ℕ) : Type 0 where
  pub spells : SpellsRunning bytes
  pub parts : List Part
  pub whole : IsWhole spells.world ran.words.shared.table_id ran.words.shared.key ran.pass
  pub run : IsRunOf spells.world ran.pass parts
  pub printed : IsRunSpelling (record { world = spells.world; parts = parts }) text

-- The promise of `run` if it is done: the source was read to its end, its peers ran, and their
-- running record was written. `ran` holds their words and pass.
pub record RunsPeers (before now : Input) (before' now' : Output) (ran : Option Ran) : Type 0 where
  pub bytes : List ℕ
  pub text : List ℕ
  pub held : Ran
  pub read : Gave before bytes now
  pub ended : HasEnded now
  pub is : ran ≡ Some held
  pub run : IsRunBy held bytes text
  pub wrote : Took before' text now'
