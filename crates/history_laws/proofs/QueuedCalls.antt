-- The queued calls of a peer: permitted calls for an honest link peer, none for any other peer.
use Rattle.std.proofs.Common.{◌≡◌, ℕ, Bool, true, false, List, [], ◌∷◌, ◌++◌, refl, sym, ◌∙◌}
use Rattle.std.specs.List.{AllByRecursion}
use Rattle.scenario_text.specs.Scenario.{World, is_link}
use Rattle.call_grammar.specs.Steps.{Mark}
use Rattle.call_grammar.specs.Trees.{CallTree, Ended, Does, Reads}
use Rattle.call_grammar.specs.Calls.{EndConfig, Call, Offer}
use Rattle.call_grammar.specs.Automatic.{Choice, ChoosesTick, ChoosesOffer, ChoosesPoll, IsFinished, choice_of}
use Rattle.link_invariant.specs.LinkConfig.{IsOffered, IsGivenTo}
use Rattle.lawful_history.specs.declared.line.Line.{Line}
use Rattle.lawful_history.specs.Schedule.{Event, CallQueued, AutoStarted, StormStarted, TurnTaken, DeviceReset, event_peer}
use Rattle.lawful_history.specs.Memory.{last_write}
use Rattle.lawful_history.specs.Sides.{config_of}
use Rattle.lawful_history.specs.Peers.{Auto, Driver, Waits, Chooses, Storms, Peer, at_start, with_call_by, cut, with_choice, chosen, opened_by, opened, driver_after}
use Rattle.lawful_history.specs.History.{driven, moved_by, peer_in}
use Rattle.lawful_history.proofs.Left.{left_keeps}
use Rattle.history_laws.proofs.PermittedEvents.{link_config_of, IsProper}

-- An honest peer has no storm, and only an honest one is automatic. The frames of an automatic end
-- may be offered.
abbrev pub DriverSuits : World → Bool → Driver → Type 0
DriverSuits world honest Waits = Unit {0}
DriverSuits world honest (Chooses auto) = (honest ≡ true) × AllByRecursion (IsOffered (link_config_of world)) auto.frames
DriverSuits world honest (Storms x) = honest ≡ false

pub record Suits (world : World) (honest : Bool) (peer : Peer) : Type 0 where
  pub waiting : AllByRecursion (IsGivenTo (link_config_of world)) peer.waiting
  pub driver : DriverSuits world honest peer.driver
  pub idle : honest ≡ false → (peer.left ≡ Ended) × (peer.waiting ≡ [])

never : {A : Type 0} → (b : Bool) → b ≡ true → b ≡ false → A
never b is_one is_none = let f : true ≡ false = sym is_one ∙ is_none in absurd (cc)

-- A call of the peer opens

with_choice_suits : (world : World) (config : EndConfig) (peer : Peer) (honest : Bool) (auto : Auto) (choice : Choice) → honest ≡ true → AllByRecursion (IsOffered (link_config_of world)) auto.frames → Suits world honest peer → Suits world honest (with_choice config peer auto choice)
with_choice_suits world config peer honest auto ChoosesTick is_one given s = record { waiting = s.waiting; driver = (is_one, given); idle = never honest is_one }
with_choice_suits world config peer honest auto (ChoosesOffer frame) is_one given s = record { waiting = s.waiting; driver = (is_one, given); idle = never honest is_one }
with_choice_suits world config peer honest auto ChoosesPoll is_one given s = record { waiting = s.waiting; driver = (is_one, given); idle = never honest is_one }
with_choice_suits world config peer honest auto IsFinished is_one given s = s

chosen_suits : (world : World) (config : EndConfig) (peer : Peer) (honest : Bool) (driver : Driver) → DriverSuits world honest driver → Suits world honest peer → Suits world honest (chosen config peer driver)
chosen_suits world config peer honest Waits given s = s
chosen_suits world config peer honest (Chooses auto) given s = with_choice_suits world config peer honest auto (choice_of peer.end.handshake.phase auto.round auto.frames auto.delivered auto.expected) given.0 given.1 s
chosen_suits world config peer honest (Storms x) given s = s

opened_by_suits : (world : World) (config : EndConfig) (peer : Peer) (honest : Bool) (tree : CallTree) (waiting : List Call) → waiting ≡ peer.waiting → AllByRecursion (IsGivenTo (link_config_of world)) waiting → Suits world honest peer → Suits world honest (opened_by config peer tree waiting)
opened_by_suits world config peer honest Ended [] is given s = chosen_suits world config peer honest peer.driver s.driver s
opened_by_suits world config peer honest Ended (call ∷ waiting) is given s = record { waiting = given.1; driver = s.driver; idle = λ is_none. let none = is ∙ (s.idle is_none).1 in absurd (cc) }
opened_by_suits world config peer honest (Does a marks rest) waiting is given s = s
opened_by_suits world config peer honest (Reads word marks rest) waiting is given s = s

pub opened_suits : (world : World) (config : EndConfig) (peer : Peer) (honest : Bool) → Suits world honest peer → Suits world honest (opened config peer)
opened_suits world config peer honest s = opened_by_suits world config peer honest peer.left peer.waiting refl s.waiting s

-- The peer makes a step

driver_suits : (world : World) (honest : Bool) (driver : Driver) (marks : List Mark) → DriverSuits world honest driver → DriverSuits world honest (driver_after driver marks)
driver_suits world honest Waits marks given = tt
driver_suits world honest (Chooses auto) marks given = (given.0, left_keeps (IsOffered (link_config_of world)) auto marks given.1)
driver_suits world honest (Storms x) marks given = given

driven_suits : (world : World) (honest : Bool) (peer : Peer) (driver : Driver) → DriverSuits world honest driver → Suits world honest peer → Suits world honest (driven peer driver)
driven_suits world honest peer Waits given s = s
driven_suits world honest peer (Chooses auto) given s = s
driven_suits world honest peer (Storms x) given s = record { waiting = s.waiting; driver = given; idle = s.idle }

moved_suits : (world : World) (honest : Bool) (peer : Peer) (tree : CallTree) (past : List Line) → tree ≡ peer.left → Suits world honest peer → Suits world honest (moved_by peer tree past)
moved_suits world honest peer Ended past is s = driven_suits world honest peer peer.driver s.driver s
moved_suits world honest peer (Does a marks rest) past is s = record { waiting = s.waiting; driver = driver_suits world honest peer.driver marks s.driver; idle = λ is_none. let none = is ∙ (s.idle is_none).0 in absurd (cc) }
moved_suits world honest peer (Reads word marks rest) past is s = record { waiting = s.waiting; driver = driver_suits world honest peer.driver (marks (last_write past word)) s.driver; idle = λ is_none. let none = is ∙ (s.idle is_none).0 in absurd (cc) }

-- A call is queued, or the peer is reset

pub waiting_given : (P : Call → Type 0) (waiting : List Call) (call : Call) → AllByRecursion P waiting → P call → AllByRecursion P (waiting ++ call ∷ [])
waiting_given P [] call given this = (this, tt)
waiting_given P (other ∷ waiting) call given this = (given.0, waiting_given P waiting call given.1 this)

pub frames_offered : (world : World) (frames : List (List ℕ)) (frame : List ℕ) → AllByRecursion (IsOffered (link_config_of world)) frames → IsOffered (link_config_of world) frame → AllByRecursion (IsOffered (link_config_of world)) (frames ++ frame ∷ [])
frames_offered world [] frame given this = (this, tt)
frames_offered world (other ∷ frames) frame given this = (given.0, frames_offered world frames frame given.1 this)

queued_suits : (world : World) (honest : Bool) (peer : Peer) (call : Call) → honest ≡ true → IsGivenTo (link_config_of world) call → Suits world honest peer → Suits world honest (record peer { waiting = peer.waiting ++ call ∷ [] })
queued_suits world honest peer call is_one this s = record { waiting = waiting_given (IsGivenTo (link_config_of world)) peer.waiting call s.waiting this; driver = s.driver; idle = never honest is_one }

asked_suits : (world : World) (honest : Bool) (peer : Peer) (driver : Driver) (call : Call) → honest ≡ true → DriverSuits world honest driver → IsGivenTo (link_config_of world) call → Suits world honest peer → Suits world honest (with_call_by peer driver call)
asked_suits world honest peer (Chooses auto) (Offer frame) is_one given this s = record { waiting = s.waiting; driver = (is_one, frames_offered world auto.frames frame given.1 this); idle = never honest is_one }
asked_suits world honest peer driver call is_one given this s = queued_suits world honest peer call is_one this s

cut_suits : (world : World) (honest : Bool) (driver : Driver) → DriverSuits world honest driver → DriverSuits world honest (cut driver)
cut_suits world honest Waits given = tt
cut_suits world honest (Chooses auto) given = given
cut_suits world honest (Storms x) given = given

-- After each event its peer satisfies `Suits`.
pub event_suits : (world : World) (peer : Peer) (past : List Line) (event : Event) → IsProper world event → Suits world (is_link world (event_peer event)) peer → Suits world (is_link world (event_peer event)) (peer_in world peer past event)
event_suits world peer past (CallQueued p call) proper s = asked_suits world (is_link world p) peer peer.driver call proper.0 s.driver proper.1 s
event_suits world peer past (AutoStarted p expected) proper s = record { waiting = s.waiting; driver = (proper, tt); idle = s.idle }
event_suits world peer past (StormStarted p seed) proper s = record { waiting = s.waiting; driver = proper; idle = s.idle }
event_suits world peer past (TurnTaken p) proper s =
    let o = opened_suits world (config_of world p) peer (is_link world p) s in moved_suits world (is_link world p) (opened (config_of world p) peer) (opened (config_of world p) peer).left past refl o
event_suits world peer past (DeviceReset p) proper s = record { waiting = tt; driver = cut_suits world (is_link world p) peer.driver s.driver; idle = λ is_none. (refl, refl) }
event_suits world peer past _ proper s = s

pub starts_suit : (world : World) (honest : Bool) → Suits world honest at_start
starts_suit world honest = record { waiting = tt; driver = tt; idle = λ is_none. (refl, refl) }
