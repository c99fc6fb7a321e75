-- The driver of a peer, and its actions.
use Rattle.std.specs.Prelude.{ℕ, suc, ◌≡◌, ◌<◌, ◌≤◌, ◌==◌, ◌^◌, Bool, true, false, if◌then◌else◌, Option, Some, None, All, List, [], ◌∷◌, ◌++◌, length, Result, Ok, IfOk}
use Rattle.std.specs.List.{list_any}
use Rattle.ivs_base.specs.declared.NoMemory.{NoMemory}
use Rattle.scenario_text.specs.declared.acts.Act.{Act}
use Rattle.scenario_text.specs.declared.acts.Act.TheVariants as act
use Rattle.scenario_text.specs.Scenario.{World}
use Rattle.scenario_text.specs.Acts.{has_auto, has_storm}
use Rattle.scenario_text.specs.Running.{has_turn}
use Rattle.call_grammar.specs.Steps.{Step}
use Rattle.call_grammar.specs.Ends.{fresh}
use Rattle.call_grammar.specs.Places.{Closed}
use Rattle.link_endpoint.specs.Engine.{Engine}
use Rattle.link_endpoint.specs.Refinement.{RefinesAt}
use Rattle.link_endpoint.specs.Plan.{Plan, fresh_plan}
use Rattle.lawful_history.specs.Storm.{storm_step, storm_after}
use Rattle.lawful_history.specs.Peers.{Chooses, Storms, Peer, at_start}
use Rattle.record_text.specs.declared.own_trace.OwnTrace.{OwnTrace}
use Rattle.record_text.specs.OwnParts.{part_of}
use Rattle.shared_words.specs.declared.run_setup.RunSetup.{RunSetup}
use Rattle.peer_runner.specs.declared.driving.PeerPlan.{PeerPlan}
use Rattle.peer_runner.specs.declared.driving.Driver.{Driver}
use Rattle.peer_runner.specs.declared.driving.Driver.TheVariants.{Auto, Storm}
use Rattle.shared_words.specs.RunSetups.{world_in, config_in, honest_of, IsMadeFor}
use Rattle.shared_words.specs.DerivedStates.{CallAccess, MemoryOp, event_word, derived_state, NeverMarked}
use Rattle.shared_words.specs.Actions.{Action, accesses_in}
use Rattle.shared_words.specs.PassView.{PassView}
use Rattle.atomic_table.specs.Seated.{TableId}
use Rattle.shared_words.specs.Passes.{shown, held}
use Rattle.doorbell_irq.specs.declared.route.Route.{Route}
use Rattle.peer_runner.specs.declared.doorbell_paths.Done.{Done}
use Rattle.shared_words.specs.PeerRoutes.{AreRoutesOf}
use Rattle.peer_runner.specs.Turns.{Turn, Running, comes_to, all_turns, TakesTurns, actions_in, lines_of_turns}
use Rattle.peer_runner.specs.RunningRecord.{refuses, reader_of_lines, ReaderMatches}
use Rattle.peer_runner.specs.OwnRecord.{IsTraceOf, after_acts, start_of, spans_of}
use Rattle.peer_runner.specs.Runners.{IsFrame, start_auto, awaits_ring}

-- The steps of a storm in a region of these sizes.
abbrev pub storm_in : RunSetup → ℕ → ℕ → Step
storm_in key p x = storm_step (world_in key) p x

-- The generator of the storm after a turn: it stays until the step is done.
abbrev pub storm_on : ℕ → Done → ℕ
storm_on x done = if awaits_ring done then x else storm_after x

-- The start of a peer: an automatic peer with a plan, or a storm whose generator is at x.
abbrev pub automatic : Plan → Peer
automatic plan = record at_start { driver = Chooses (start_auto plan.frames plan.expected) }

abbrev pub storming : ℕ → Peer
storming x = record at_start { driver = Storms x }

abbrev pub starting : Driver → Peer
starting (Auto plan end) = automatic plan
starting (Storm seed geometry queue) = storming seed

-- An automatic peer is driven at an honest end of the link. Both are at their start, and its frames
-- may be offered. A storm is driven at a hostile peer.
pub record MayBeAuto (key : RunSetup) (p : ℕ) (plan : Plan) (end : Engine) : Type 0 where
  pub link : p < 2
  pub honest : honest_of key p ≡ true
  pub refines : RefinesAt end (config_in key p) fresh Closed
  pub begins : plan ≡ record (fresh_plan plan.expected) { frames = plan.frames }
  pub frames : All (IsFrame key.queue.mtu) plan.frames

abbrev pub MayDrive : RunSetup → ℕ → Driver → Type 0
MayDrive key p (Auto plan end) = MayBeAuto key p plan end
MayDrive key p (Storm seed geometry queue) = (p < key.geometry.peers) × (honest_of key p ≡ false) × (geometry ≡ key.geometry) × (queue ≡ key.queue)

-- The list `list` leaves an honest peer in its state after the turns `taken`. A reader of the lines
-- of these turns agrees with the list. If the peer never bore the mark of a refusal, the lines have
-- no refusal.
pub record IsLeft (key : RunSetup) (p : ℕ) (list : List (Action (MemoryOp CallAccess))) (taken : List Turn) (after : Peer) : Type 0 where
  pub end : (derived_state key p (accesses_in list)).end ≡ after.end
  pub recorded : ReaderMatches (derived_state key p (accesses_in list)) (reader_of_lines (event_word (config_in key p)) (lines_of_turns p taken))
  pub refused : NeverMarked key p (accesses_in list) → list_any refuses (lines_of_turns p taken) ≡ false

-- In a scenario

-- The driver of a peer of the scenario, and its spans.
abbrev pub IsDriver : World → ℕ → Driver → Type 0
IsDriver world p driver = (starting driver ≡ start_of world.acts p) × ((key : RunSetup) → IsMadeFor world key → MayDrive key p driver)

pub record IsPlan (world : World) (p : ℕ) (plan : PeerPlan) : Type 0 where
  pub runs : has_turn world.acts p ≡ true
  pub peer : plan.peer ≡ p
  pub spans : plan.spans ≡ spans_of world.acts p
  pub few : all_turns plan.spans < 2 ^ 32
  pub driver : IsDriver world p plan.driver
  pub routed : AreRoutesOf world plan.routes.items

abbrev pub IsPlanFor : World → ℕ → Option PeerPlan → Type 0
IsPlanFor world p None = has_turn world.acts p ≡ false
IsPlanFor world p (Some plan) = IsPlan world p plan

-- The change that an act makes to the plan of peer p, and to the seed of its storm.
abbrev pub gathered : ℕ → Plan → Act → Plan
gathered p plan (act.Auto q expected) = if q == p then fresh_plan expected else plan
gathered p plan (act.Offer q frame) = if q == p then record plan { frames = plan.frames ++ frame ∷ [] } else plan
gathered p plan _ = plan

abbrev pub seeded : ℕ → ℕ → Act → ℕ
seeded p seed (act.Storm q x) = if q == p then x else seed
seeded p seed _ = seed

-- The plan of these acts, once they name an automatic peer.
pub record Gathers (mtu p : ℕ) (acts : List Act) (plan : Plan) : Type 0 where
  pub none : has_auto acts p ≡ false → after_acts p at_start acts ≡ at_start
  pub start : has_auto acts p ≡ true → after_acts p at_start acts ≡ automatic plan
  pub fresh : plan ≡ record (fresh_plan plan.expected) { frames = plan.frames }
  pub frames : All (IsFrame mtu) plan.frames

-- The seed of these acts, once they name a storm.
pub record Seeds (p : ℕ) (acts : List Act) (seed : ℕ) : Type 0 where
  pub none : has_storm acts p ≡ false → after_acts p at_start acts ≡ at_start
  pub start : has_storm acts p ≡ true → after_acts p at_start acts ≡ storming seed

-- The actions

-- The peer took these turns of its spans, and made these actions on the words.
pub record Did (key : RunSetup) (routes : List Route) (p : ℕ) (start : Peer) (spans : List ℕ) (list : List (Action (MemoryOp CallAccess))) : Type 0 where
  pub turns : List Turn
  pub after : Running
  pub takes : TakesTurns (config_in key p) (storm_in key p) routes (comes_to start spans) turns after
  pub made : shown list ≡ actions_in routes turns
  pub left : honest_of key p ≡ true → IsLeft key p list turns after.peer

-- It took at most all turns of its spans. Its trace records the turns if memory was enough.
abbrev pub Drove : RunSetup → List Route → (p : ℕ) → (spans : List ℕ) → Peer → List (Action (MemoryOp CallAccess)) → Result OwnTrace NoMemory → Type 0
Drove key routes p spans start list answer = (did : Did key routes p start spans list) × (length did.turns ≤ all_turns spans)
    × IfOk answer (λ (t : OwnTrace). IsTraceOf p (all_turns spans) did.turns did.after (part_of t))

-- It did so by a pass of this peer alone, with an empty list.
abbrev pub DroveBy : RunSetup → List Route → (p : ℕ) → (spans : List ℕ) → Peer → (old new : PassView) → Result OwnTrace NoMemory → Type 0
DroveBy key routes p spans start old new answer =
    (list : List (Action (MemoryOp CallAccess))) × (new ≡ held old.table_id p (list ∷ [])) × Drove key routes p spans start list answer

-- the peer of this plan did so
abbrev pub DrovePlan : RunSetup → PeerPlan → (old new : PassView) → Result OwnTrace NoMemory → Type 0
DrovePlan key plan old new answer = DroveBy key plan.routes.items plan.peer plan.spans (starting plan.driver) old new answer

-- A peer of a scenario did this to the words, and these are its traces: one, or none if it has no
-- turns.
abbrev pub HasRun : World → RunSetup → ℕ → List (Action (MemoryOp CallAccess)) → List OwnTrace → Type 0
HasRun world key p list traces =
    (t : OwnTrace) × (traces ≡ t ∷ []) × (routes : List Route) × AreRoutesOf world routes ×
    ((did : Did key routes p (start_of world.acts p) (spans_of world.acts p) list) ×
    IsTraceOf p (all_turns (spans_of world.acts p)) did.turns did.after (part_of t))

abbrev pub RanIf : Bool → World → RunSetup → ℕ → List (Action (MemoryOp CallAccess)) → List OwnTrace → Type 0
RanIf true world key p list traces = HasRun world key p list traces
RanIf false world key p list traces = (list ≡ []) × (traces ≡ [])

abbrev pub RanOne : World → RunSetup → ℕ → List (Action (MemoryOp CallAccess)) → List OwnTrace → Type 0
RanOne world key p list traces = RanIf (has_turn world.acts p) world key p list traces

-- The same of the peers from p on.
unfoldable pub RanAll : World → RunSetup → ℕ → List (List (Action (MemoryOp CallAccess))) → List OwnTrace → Type 0
RanAll world key p [] traces = traces ≡ []
RanAll world key p (list ∷ lists) traces =
    (mine rest : List OwnTrace) × (traces ≡ mine ++ rest) × RanOne world key p list mine × RanAll world key (suc p) lists rest

-- The pass has the lists of `count` peers from p on, and these are the peers' traces if memory was
-- enough
abbrev pub RanRange : {A : Type 0} → World → RunSetup → (p count : ℕ) → TableId → (pass : PassView) → (A → List OwnTrace) → Result A NoMemory → Type 0
RanRange world key p count id pass traces_of answer = (lists : List (List (Action (MemoryOp CallAccess)))) × (pass ≡ held id p lists) ×
    (length lists ≡ count) × IfOk answer (λ traces. RanAll world key p lists (traces_of traces))

-- both answers are Ok, with such values
abbrev pub BothOk : {A B E : Type 0} → Result A E → Result B E → (A → B → Type 0) → Type 0
BothOk (Ok one) (Ok two) P = P one two
BothOk one two P = ⊥
