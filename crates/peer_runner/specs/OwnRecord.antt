-- The own record of a running peer. Its turns are the steps of its calls, or the first steps of its
-- storm. Among them are its looks, its doorbells, the accesses to session words and its resets. Its
-- list has what it did to the words by these turns, and its trace records the turns.
use Rattle.std.specs.Prelude.{ℕ, ◌≡◌, ◌≤◌, ◌==◌, false, if◌then◌else◌, List, [], ◌∷◌, length}
use Rattle.std.specs.List.{flat_map}
use Rattle.scenario_text.specs.declared.acts.Act.{Act}
use Rattle.scenario_text.specs.declared.acts.Act.TheVariants as act
use Rattle.scenario_text.specs.Scenario.{World}
use Rattle.call_grammar.specs.Calls.{Offer}
use Rattle.lawful_history.specs.Sides.{config_of}
use Rattle.lawful_history.specs.Peers.{Peer, at_start, with_call, automated, stormed}
use Rattle.lawful_history.specs.Storm.{storm_step}
use Rattle.record_text.specs.Parts.{Part}
use Rattle.doorbell_irq.specs.declared.route.Route.{Route}
use Rattle.shared_words.specs.DerivedStates.{ObservedAccess, MemoryOp}
use Rattle.shared_words.specs.Actions.{Action}
use Rattle.shared_words.specs.PeerRoutes.{AreRoutesOf}
use Rattle.peer_runner.specs.Turns.{Turn, Running, comes_to, all_turns, TakesTurns, is_finished, actions_in, lines_of_turns}

-- The trace of these turns, after which the peer is there: it took all of its turns, or fewer and
-- is finished.
pub record IsTraceOf (p turns : ℕ) (taken : List Turn) (after : Running) (part : Part) : Type 0 where
  pub peer : part.peer ≡ p
  pub lines : part.lines ≡ lines_of_turns p taken
  pub count : part.turns ≡ length taken
  pub finished : part.finished ≡ is_finished after.peer
  pub most : part.turns ≤ turns
  pub spent : part.finished ≡ false → part.turns ≡ turns

-- In a scenario

-- The peer `p`, which was `peer`, after an act that precedes its turns.
abbrev pub after_act : ℕ → Peer → Act → Peer
after_act p peer (act.Auto q expected) = if q == p then automated peer expected else peer
after_act p peer (act.Offer q frame) = if q == p then with_call peer (Offer frame) else peer
after_act p peer (act.Storm q seed) = if q == p then stormed peer seed else peer
after_act p peer _ = peer

unfoldable pub after_acts : ℕ → Peer → List Act → Peer
after_acts p peer [] = peer
after_acts p peer (a ∷ acts) = after_acts p (after_act p peer a) acts

-- The peer before its turns, and its spans: the number of turns that each of its lines gives.
abbrev pub start_of : List Act → ℕ → Peer
start_of acts p = after_acts p at_start acts

abbrev pub span_in : ℕ → Act → List ℕ
span_in p (act.Turn q steps) = if q == p then steps ∷ [] else []
span_in p _ = []

unfoldable pub spans_of : List Act → ℕ → List ℕ
spans_of acts p = flat_map (span_in p) acts

-- The part of a running record that a peer of the scenario has with these actions, by the routes of
-- the peers.
pub record IsOwnRecord (world : World) (actions : List (Action (MemoryOp ObservedAccess))) (part : Part) : Type 0 where
  pub routes : List Route
  pub routed : AreRoutesOf world routes
  pub taken : List Turn
  pub after : Running
  pub takes : TakesTurns (config_of world part.peer) (storm_step world part.peer) routes
      (comes_to (start_of world.acts part.peer) (spans_of world.acts part.peer)) taken after
  pub made : actions ≡ actions_in routes taken
  pub recorded : IsTraceOf part.peer (all_turns (spans_of world.acts part.peer)) taken after part
