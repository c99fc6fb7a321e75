-- The context of an automatic peer, as its clauses state it: its pass, its next access, its
-- trajectory and its turns.
use Rattle.std.specs.Prelude.{ℕ, ◌≡◌, ◌<◌, ◌^◌, Bool, true, false, not, Option, List, ◌∷◌, length, Result, IfOk}
use Rattle.ivs_base.specs.declared.NoMemory.{NoMemory}
use Rattle.split_ring.specs.declared.steps.Access.{Access}
use Rattle.call_grammar.specs.Calls.{EndConfig, Call}
use Rattle.call_grammar.specs.Ends.{End}
use Rattle.call_grammar.specs.Places.{Place, access_at}
use Rattle.lawful_history.specs.declared.line.Line.{Line}
use Rattle.lawful_history.specs.Peers.{Auto}
use Rattle.link_endpoint.specs.Engine.{Engine}
use Rattle.link_endpoint.specs.Plan.{Plan}
use Rattle.link_endpoint.specs.Refinement.{RefinesAt}
use Rattle.link_endpoint.specs.declared.auto.Choice.{Choice}
use Rattle.step_lines.specs.Plans.{IsPlanOf}
use Rattle.shared_words.specs.declared.run_setup.RunSetup.{RunSetup}
use Rattle.peer_runner.specs.declared.context.PeerContext.{PeerContext}
use Rattle.peer_runner.specs.declared.turns.AutoPeer.{AutoPeer}
use Rattle.peer_runner.specs.declared.doorbell_paths.Done.{Done}
use Rattle.shared_words.specs.PassView.{PassView}
use Rattle.shared_words.specs.RunSetups.{config_in, honest_of}
use Rattle.shared_words.specs.DerivedStates.{DerivedState}
use Rattle.shared_words.specs.PeerRoutes.{AreRoutes}
use Rattle.peer_runner.specs.DoorbellPaths.{is_guarded, doorbell_path_in}
use Rattle.shared_words.specs.Passes.{IsFirstIn, state_in, IsNextIn}
use Rattle.peer_runner.specs.Turns.{all_turns, has_turn_left, spent, later, lines_of_turns}
use Rattle.peer_runner.specs.Runners.{Runner, has_finished, place_in, turned, Turns, made, done_of}
use Rattle.peer_runner.specs.Trajectories.{IsOnTrajectory, WentTo}

-- The run setup of the words that the peer shares.
abbrev pub setup_of : PeerContext → RunSetup
setup_of context = context.words.now.shared.key

-- The peer's end, as the call grammar sees it.
abbrev pub end_config : PeerContext → EndConfig
end_config context = config_in (setup_of context) context.me

-- The peer is an honest one of the link.
abbrev pub IsHonest : PeerContext → Type 0
IsHonest context = (context.me < 2) × (honest_of (setup_of context) context.me ≡ true)

-- The routes are those with which the words were made.
abbrev pub HasRoutes : PeerContext → Type 0
HasRoutes context = AreRoutes (setup_of context) context.routes.now

-- The pass is of the words, and the peer is its first one.
abbrev pub HasPeerFirst : PeerContext → PassView → Type 0
HasPeerFirst context pass = IsFirstIn context.words.now.shared.table_id (setup_of context) context.me pass

-- The state to which the pass's list of the peer leads.
abbrev pub state_of : PeerContext → PassView → DerivedState
state_of context pass = state_in (setup_of context) context.me pass

-- By that list the peer's next access is this one. It begins this call, or is a step of the open
-- one.
abbrev pub IsNextOf : PeerContext → PassView → Option Call → Access → Type 0
IsNextOf context pass begins a = IsNextIn (setup_of context) context.me pass begins a

-- the pass after this part of the access, which begins such a call, or is a step of the open one
abbrev pub after_access : PeerContext → Option Call → Access → Done → PassView → PassView
after_access context begins access done pass = made pass (done_of context.routes.now begins access done)

-- Of each configuration, end and place that an endpoint refines, this holds
abbrev pub AtEachPlace : Engine → (EndConfig → End → Place → Type 0) → Type 0
AtEachPlace end Holds = (config : EndConfig) (at : End) (place : Place) → RefinesAt end config at place → Holds config at place

-- Of a place at which the endpoint is, with what the automatic peer has to do there, this holds
abbrev pub AtItsPlace : Engine → Plan → (EndConfig → End → Place → Auto → Type 0) → Type 0
AtItsPlace end plan Holds = (config : EndConfig) (at : End) (place : Place) (auto : Auto) →
    RefinesAt end config at place → IsPlanOf plan auto → Holds config at place auto

-- The trajectory of the peer

-- With this plan and these spans, the peer and its pass refine a state of the runner.
abbrev pub IsOn : PeerContext → Plan → List ℕ → Runner → PassView → AutoPeer → Type 0
IsOn context plan spans r pass peer =
    IsOnTrajectory context.words.now.shared.table_id (setup_of context) context.me context.routes.now plan spans r pass peer

-- The lines are those of the turns that the runner took.
abbrev pub Records : PeerContext → Runner → List Line → Type 0
Records context r lines = lines ≡ lines_of_turns context.me r.turns

-- Before a turn: the peer is on its trajectory, and a turn of its span is left.
abbrev pub IsBeforeTurn : PeerContext → PassView → AutoPeer → Type 0
IsBeforeTurn context pass peer = (plan : Plan) × (spans : List ℕ) × (r : Runner) × (all_turns spans < 2 ^ 32) ×
    IsOn context plan spans r pass peer × (has_turn_left r.spans ≡ true)

-- After a turn from r: the peer took the turn and recorded it, or it is finished and unchanged.
abbrev pub TookTurn : PeerContext → Plan → List ℕ → Runner → PassView → AutoPeer → List Line → Result Bool NoMemory → Type 0
TookTurn context plan spans r pass peer lines result = (next : Runner) × IsOn context plan spans next pass peer ×
    IfOk result (λ went. Records context next lines × WentTo (spent r.spans) r next went)

-- After a reset at r. A finished peer isn't reset.
abbrev pub WasReset : PeerContext → Plan → List ℕ → Runner → PassView → AutoPeer → List Line → Result Bool NoMemory → Type 0
WasReset context plan spans r pass peer lines result = (next : Runner) × IsOn context plan spans next pass peer ×
    IfOk result (λ went. Records context next lines × WentTo (later r.spans) r next went × (has_finished r ≡ not went))

-- Before a span of `span` turns the peer is on its trajectory. `turns` is the number of turns that
-- it took, and `lines` are the lines of these turns.
abbrev pub IsBeforeSpan : PeerContext → ℕ → PassView → AutoPeer → ℕ → List Line → Type 0
IsBeforeSpan context span pass peer turns lines = (plan : Plan) × (spans : List ℕ) × (r : Runner) × (rest : List ℕ) ×
    (all_turns spans < 2 ^ 32) × IsOn context plan spans r pass peer × (r.spans ≡ span ∷ rest) ×
    (turns ≡ length r.turns) × Records context r lines

-- After a span: its turns are counted and recorded, and none is left of it, unless the peer is
-- finished.
abbrev pub TookSpan : {A : Type 0} → PeerContext → Plan → List ℕ → List ℕ → PassView → AutoPeer → ℕ → List Line → Result A NoMemory → Type 0
TookSpan context plan spans rest pass peer turns lines result = (next : Runner) × IsOn context plan spans next pass peer ×
    IfOk result (λ _. Records context next lines × (turns ≡ length next.turns) × (has_finished next ≡ false → next.spans ≡ 0 ∷ rest))

-- Turns without a look and without a session word.

-- Such a turn is next at r, and the call was chosen for it.
abbrev pub IsStepDue : PeerContext → Runner → Option Choice → PassView → AutoPeer → Type 0
IsStepDue context r choice pass peer = Turns (setup_of context) context.me context.routes.now r choice pass peer

-- The runner after such a turn.
abbrev pub after_step : PeerContext → Runner → Done → Runner
after_step context r done = turned context.routes.now (end_config context) r done

-- The doorbell of the step is to a peer in one-shot mode.
abbrev pub is_guarded_at : PeerContext → Runner → Bool
is_guarded_at context r = is_guarded (doorbell_path_in context.routes.now (access_at (end_config context) (place_in (end_config context) r)))
