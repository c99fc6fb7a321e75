-- The turn of an honest end of the link.
use Rattle.std.proofs.Common.{◌≡◌, ℕ, zero, suc, ◌+◌, ◌*◌, ◌<◌, ◌≤◌, Bool, true, false, List, [], ◌∷◌, ◌++◌, length, take, get_or, refl, sym, ◌∙◌, ap, subst, arith, inl, inr}
use Rattle.std.specs.Prelude.{Option, Some, None, ◌&&◌, reverse, map}
use Rattle.std.proofs.Math.Nat.{mul-le-mul_right}
use Rattle.std.proofs.lemmas.List.{reverse-append, take_more, map-append}
use Rattle.split_ring.specs.declared.steps.Access.{Access}
use Rattle.split_ring.specs.declared.steps.Access.TheVariants as access
use Rattle.split_ring.specs.declared.steps.Note.{Note}
use Rattle.scenario_text.specs.Scenario.{World}
use Rattle.call_grammar.specs.Steps.{Mark, Accept, Deliver, Step, value_given, step_of}
use Rattle.call_grammar.specs.Trees.{CallTree, Ended}
use Rattle.call_grammar.specs.Calls.{EndConfig}
use Rattle.call_grammar.specs.Calls as calls
use Rattle.call_grammar.specs.Places.{Place, remaining, access_at, marks_at, next_place, step_at, is_open, PlacesFollowTrees}
use Rattle.call_grammar.specs.Permitted.{IsPermittedAccess}
use Rattle.link_endpoint.specs.Engine.{Engine, is_busy, offered, delivered}
use Rattle.link_endpoint.specs.Refinement.{Takes, mark_between, marks_between}
use Rattle.link_endpoint.specs.Plan.{Plan}
use Rattle.lawful_history.specs.declared.line.Line.{Line}
use Rattle.lawful_history.specs.declared.line.Line.TheVariants as line
use Rattle.lawful_history.specs.Sides.{config_of}
use Rattle.lawful_history.specs.EventRecords.{mark_line, turn_lines}
use Rattle.lawful_history.specs.Peers.{Auto, Driver, Waits, Chooses, Storms, Peer, with_call_by, with_call, counted_all, driver_after, stepped, chosen, opened_by, opened}
use Rattle.lawful_history.specs.Device.{step_interrupts}
use Rattle.lawful_history.specs.History.{driven_step, driven, step_by, moved_by, moved, turn_step, turned}
use Rattle.lawful_history.specs.Frames.{has_frame, HaveFrames}
use Rattle.simulator.specs.Log.{Output}
use Rattle.simulator.specs.WorldState.{WorldStateAfter, IsMark, CanPerform, GaveLast, accessed}
use Rattle.simulator.specs.declared.world_state.WorldState.{WorldState}
use Rattle.simulator.specs.declared.link.Link.{Link}
use Rattle.simulator.specs.declared.link.Waiting.TheVariants as waiting
use Rattle.lawful_history.specs.Storm.{storm_step, storm_after}
use Rattle.step_lines.specs.Plans.{IsPlanOf}
use Rattle.step_lines.specs.Storms.{IsDrawn, DrawsIn}
use Rattle.step_lines.proofs.FramesOfMarks.{marks_frames, next_frames}
use Rattle.step_lines.proofs.NotesAreMarks.{marks_now}
use Rattle.simulator.specs.PeerStates.{call_of, DriverIs, LinkRefines, HasNoCalls, IsPlaced}
use Rattle.simulator.proofs.PlacesOfCalls.{rings_other}
use Rattle.simulator.proofs.Steps.{lines_are, step_taken}
use Rattle.simulator.proofs.Openings.{shut_left}

-- Notes as lines

-- A mark changes no word and is no event of the devices.
pub mark_remark : (me : ℕ) (mark : Mark) → has_frame (mark_line me mark) ≡ true → IsMark (mark_line me mark)
mark_remark me (Accept frame) has = record { touch = refl; recorded = refl; lost = λ p. refl; frame = has }
mark_remark me (Deliver frame) has = record { touch = refl; recorded = refl; lost = λ p. refl; frame = has }
mark_remark me _ has = record { touch = refl; recorded = refl; lost = λ p. refl; frame = refl }

both : (a b : Bool) → (a && b) ≡ true → (a ≡ true) × (b ≡ true)
both true true is = (refl, refl)
both true false is = absurd (cc)
both false b is = absurd (cc)

-- The frame of one note among some.
pub frame_at : (me : ℕ) (one other : List ℕ) (notes : List Note) (i : ℕ) (note : Note) → HaveFrames (map (mark_line me) (marks_between one other notes)) → i < length notes → note ≡ get_or notes i note →
    has_frame (mark_line me (mark_between one other note)) ≡ true
frame_at me one other [] i note has inside is = absurd (omega arith)
frame_at me one other (x ∷ notes) zero note has inside is = subst (λ (n : Note). has_frame (mark_line me (mark_between one other n)) ≡ true) (sym is) (both _ _ has).0
frame_at me one other (x ∷ notes) (suc i) note has inside is = frame_at me one other notes i note (both _ _ has).1 (omega arith) is

-- One more line.
pub one_note : (me : ℕ) (one other : List ℕ) (notes : List Note) (i : ℕ) (note : Note) (past : List Line) → i < length notes → note ≡ get_or notes i note →
    reverse (map (mark_line me) (marks_between one other (take (i + 1) notes))) ++ past ≡ mark_line me (mark_between one other note) ∷ (reverse (map (mark_line me) (marks_between one other (take i notes))) ++ past)
one_note me one other notes i note past inside is =
    let f : Note → Line = λ n. mark_line me (mark_between one other n) in
    let first = map (mark_line me) (marks_between one other (take i notes)) in
    let taken : take (i + 1) notes ≡ take i notes ++ note ∷ [] = take_more notes i note inside ∙ ap (λ (n : Note). take i notes ++ n ∷ []) (sym is) in
    ap (λ ns. reverse (map (mark_line me) (marks_between one other ns)) ++ past) taken
    ∙ ap (λ ms. reverse (map (mark_line me) ms) ++ past) (map-append (mark_between one other) (take i notes) (note ∷ []))
    ∙ ap (λ ls. reverse ls ++ past) (map-append (mark_line me) (marks_between one other (take i notes)) (mark_between one other note ∷ []))
    ∙ ap (λ ls. ls ++ past) (reverse-append first (f note ∷ []))

-- The next step

section_fits : (other peers out : ℕ) → other < peers → other * out + out ≤ peers * out
section_fits other peers out below = let h : (other + 1) * out ≤ peers * out = mul-le-mul_right out (omega arith) in omega arith

-- A permitted access can be performed.
pub can : (world_state : WorldState) (me : ℕ) (config : EndConfig) (a : Access) → IsPlaced world_state.region.shape me config → IsPermittedAccess config a → ((t v : ℕ) → a ≡ access.Ring t v → (t ≡ config.other) × (v ≡ config.vector)) → CanPerform world_state me a
can world_state me config (access.Read word) placed (inl is) rings =
    let states = placed.is_shape.states in let other = placed.other in omega arith
can world_state me config (access.Read word) placed (inr there) rings =
    let fits = section_fits config.other world_state.region.shape.peers world_state.region.shape.out placed.other in
    let other_start = placed.other_start in
    let words = placed.words in
    let high = there.1 in omega arith
can world_state me config (access.Write word value) placed reach rings =
    let own = placed.own in let words = placed.words in let low = reach.0 in let high = reach.1 in inl (omega arith, omega arith)
can world_state me config (access.State state) placed reach rings = tt
can world_state me config (access.Ring target vector) placed reach rings =
    let at = rings target vector refl in
    let target_is = at.0 in
    let vector_is = at.1 in
    let other = placed.other in
    let most = placed.is_shape.most_peers in
    let small = placed.vector in (omega arith, omega arith)
can world_state me config access.Nothing placed reach rings = tt

pub rings_of : (config : EndConfig) (place : Place) (a : Access) → a ≡ access_at config place → (t v : ℕ) → a ≡ access.Ring t v → (t ≡ config.other) × (v ≡ config.vector)
rings_of config place a is t v rings = rings_other config place t v (sym is ∙ rings)

pub frames_now : (me : ℕ) (e e' : Engine) (value : ℕ) (notes : List Note) (config : EndConfig) (peer : Peer) (link : Link) (refines : LinkRefines config peer link) → Takes link.end value notes e' → is_busy e' ≡ is_open (next_place config refines.place value) →
    HaveFrames (map (mark_line me) (marks_between (offered e') (delivered e') notes))
frames_now me e e' value notes config peer link refines took busy =
    subst (λ (ms : List Mark). HaveFrames (map (mark_line me) ms)) (sym (marks_now link.end e' value notes config peer.end refines.place took refines.end busy)) (marks_frames me config refines.place value refines.frames)

-- The link refines the peer after a step.
pub steps_on : (config : EndConfig) (peer : Peer) (link link' : Link) (refines : LinkRefines config peer link) (value : ℕ) (notes : List Note) → Takes link.end value notes link'.end → is_busy link'.end ≡ is_open (next_place config refines.place value) →
    link'.waiting ≡ link.waiting → DriverIs link'.auto (driver_after peer.driver (marks_between (offered link'.end) (delivered link'.end) notes)) →
    LinkRefines config (stepped peer (step_at config refines.place value) (remaining config (next_place config refines.place value))) link'
steps_on config peer link link' refines value notes took busy waits driver = record {
  place = next_place config refines.place value;
  end = took.refines config peer.end refines.place refines.end;
  left = refl;
  frames = next_frames config refines.place value refines.frames;
  waiting = ap (λ w. map call_of w.items) waits ∙ refines.waiting;
  driver = subst (λ (ms : List Mark). DriverIs link'.auto (driver_after peer.driver ms)) (marks_now link.end link'.end value notes config peer.end refines.place took refines.end busy) driver;
}

pub driver_counts : (plan new : Plan) (driver : Driver) (marks : List Mark) → DriverIs (Some plan) driver → ((auto : Auto) → IsPlanOf plan auto → IsPlanOf new (counted_all auto marks)) → DriverIs (Some new) (driver_after driver marks)
driver_counts plan new driver marks is counts =
    (counted_all is.0 marks, ap (λ (d : Driver). driver_after d marks) is.1, counts is.0 is.2)

pub driver_waits : (plan : Option Plan) (driver : Driver) (marks : List Mark) → plan ≡ None → DriverIs plan driver → DriverIs plan (driver_after driver marks)
driver_waits plan driver marks none is =
    let waits : driver ≡ Waits = subst (λ (o : Option Plan). DriverIs o driver) none is in
    subst (λ (o : Option Plan). DriverIs o (driver_after driver marks)) (sym none) (ap (λ (d : Driver). driver_after d marks) waits)

-- The whole step.
pub carried : PlacesFollowTrees → (world : World) (output : Output) (past : List Line) (losses : ℕ → ℕ) (me : ℕ) (peer : Peer) (link link' : Link) (world_state world_state' : WorldState) (a : Access) (value : ℕ) (notes : List Note) (refines : LinkRefines (config_of world me) peer link) →
    is_open refines.place ≡ true → a ≡ access_at (config_of world me) refines.place → GaveLast past a value × WorldStateAfter world output (reverse (accessed world past losses me a value) ++ past) losses world_state →
    Takes link.end value notes link'.end → is_busy link'.end ≡ is_open (next_place (config_of world me) refines.place value) → link'.waiting ≡ link.waiting →
    DriverIs link'.auto (driver_after peer.driver (marks_between (offered link'.end) (delivered link'.end) notes)) →
    ((w : World) (g : Output) (p : List Line) (l : ℕ → ℕ) → WorldStateAfter w g p l world_state → WorldStateAfter w g (reverse (map (mark_line me) (marks_between (offered link'.end) (delivered link'.end) notes)) ++ p) l world_state') →
    WorldStateAfter world output (reverse (turn_lines me (step_by world me peer.driver peer.left past) (step_interrupts world past losses me (step_by world me peer.driver peer.left past))) ++ past) losses world_state'
    × LinkRefines (config_of world me) (moved peer past) link'
carried follow world output past losses me peer link link' world_state world_state' a value notes refines opens is performed took busy waits driver record_line =
    let config = config_of world me in
    let recorded = record_line world output (reverse (accessed world past losses me a value) ++ past) losses performed.1 in
    let marks : marks_between (offered link'.end) (delivered link'.end) notes ≡ marks_at config refines.place value = marks_now link.end link'.end value notes config peer.end refines.place took refines.end busy in
    step_taken follow world past losses me peer refines.place a value (λ ls x. WorldStateAfter world output ls losses world_state' × LinkRefines config x link') refines.left opens is performed.0 (
      subst (λ (ms : List Mark). WorldStateAfter world output (reverse (map (mark_line me) ms) ++ (reverse (accessed world past losses me a value) ++ past)) losses world_state') marks recorded,
      steps_on config peer link link' refines value notes took busy waits driver,
    )

-- A turn without a step

none_driven : (world : World) (p : ℕ) (peer : Peer) (plan : Option Plan) (driver : Driver) → DriverIs plan driver → (driven_step world p driver ≡ None) × (driven peer driver ≡ peer)
none_driven world p peer None driver is = (ap (λ (d : Driver). driven_step world p d) is, ap (λ (d : Driver). driven peer d) is)
none_driven world p peer (Some plan) driver is = (ap (λ (d : Driver). driven_step world p d) is.1, ap (λ (d : Driver). driven peer d) is.1)

-- An end without a call is idle.
pub idles : (world : World) (output : Output) (past : List Line) (losses : ℕ → ℕ) (me : ℕ) (peer : Peer) (link : Link) (world_state : WorldState) (refines : LinkRefines (config_of world me) (opened (config_of world me) peer) link) → is_open refines.place ≡ false →
    WorldStateAfter world output (line.Idle me ∷ past) losses world_state →
    WorldStateAfter world output (reverse (turn_lines me (turn_step world me peer past) (step_interrupts world past losses me (turn_step world me peer past))) ++ past) losses world_state
    × LinkRefines (config_of world me) (turned world me peer past) link
idles world output past losses me peer link world_state refines shut after =
    let config = config_of world me in
    let next = opened config peer in
    let none : next.left ≡ Ended = shut_left config next link refines shut in
    let still = none_driven world me next link.auto next.driver refines.driver in
    let step_is : turn_step world me peer past ≡ None = ap (λ (t : CallTree). step_by world me next.driver t past) none ∙ still.0 in
    let turned_is : turned world me peer past ≡ next = ap (λ (t : CallTree). moved_by next t past) none ∙ still.1 in (
      subst (λ (w : Option Step). WorldStateAfter world output (reverse (turn_lines me w (step_interrupts world past losses me w)) ++ past) losses world_state) (sym step_is) after,
      subst (λ (x : Peer). LinkRefines config x link) (sym turned_is) refines,
    )

-- A frame appended to those of an automatic end.
pub frame_added : (config : EndConfig) (peer : Peer) (link link' : Link) (plan new : Plan) (frame : List ℕ) → LinkRefines config peer link → link.auto ≡ Some plan → link'.end ≡ link.end → link'.waiting ≡ link.waiting → link'.auto ≡ Some new →
    new ≡ record plan { frames = plan.frames ++ frame ∷ [] } → LinkRefines config (with_call peer (call_of (waiting.Offer frame))) link'
frame_added config peer link link' plan new frame refines has end_is waiting_is auto_is new_is =
    let d : (auto : Auto) × (peer.driver ≡ Chooses auto) × IsPlanOf plan auto = subst (λ (o : Option Plan). DriverIs o peer.driver) has refines.driver in
    let auto = d.0 in
    let next : Peer = record peer { driver = Chooses (record auto { frames = auto.frames ++ frame ∷ [] }) } in
    let plan_is : IsPlanOf new (record auto { frames = auto.frames ++ frame ∷ [] }) =
    rw new_is (record { frames = ap (λ fs. fs ++ frame ∷ []) d.2.frames; expected = d.2.expected; delivered = d.2.delivered; round = d.2.round }) in
    let now : LinkRefines config next link' = record {
      place = refines.place;
      end = rw end_is refines.end;
      left = refines.left;
      frames = refines.frames;
      waiting = ap (λ w. map call_of w.items) waiting_is ∙ refines.waiting;
      driver = subst (λ (o : Option Plan). DriverIs o (Chooses (record auto { frames = auto.frames ++ frame ∷ [] }))) (sym auto_is) (record auto { frames = auto.frames ++ frame ∷ [] }, refl, plan_is);
    } in
    subst (λ (x : Peer). LinkRefines config x link') (sym (ap (λ (dr : Driver). with_call_by peer dr (calls.Offer frame)) d.1)) now

-- A peer without an end of the link

none_opened : (config : EndConfig) (peer : Peer) (driver : Driver) → peer.left ≡ Ended → peer.waiting ≡ [] → peer.driver ≡ driver → opened config peer ≡ chosen config peer driver
none_opened config peer driver left waits is =
    ap (λ (t : CallTree). opened_by config peer t peer.waiting) left ∙ ap (λ (w : List calls.Call). opened_by config peer Ended w) waits ∙ ap (λ (d : Driver). chosen config peer d) is

pub idle_turn : (world : World) (output : Output) (past : List Line) (losses : ℕ → ℕ) (me : ℕ) (peer : Peer) (world_state : WorldState) → HasNoCalls Waits peer → WorldStateAfter world output (line.Idle me ∷ past) losses world_state →
    WorldStateAfter world output (reverse (turn_lines me (turn_step world me peer past) (step_interrupts world past losses me (turn_step world me peer past))) ++ past) losses world_state
    × HasNoCalls Waits (turned world me peer past)
idle_turn world output past losses me peer world_state sits after =
    let config = config_of world me in
    let same : opened config peer ≡ peer = none_opened config peer Waits sits.left sits.waiting sits.driver in
    let step_is : turn_step world me peer past ≡ None =
    ap (λ (p : Peer). step_by world me p.driver p.left past) same ∙ ap (λ (t : CallTree). step_by world me peer.driver t past) sits.left ∙ ap (λ (d : Driver). driven_step world me d) sits.driver in
    let turned_is : turned world me peer past ≡ peer =
    ap (λ (p : Peer). moved p past) same ∙ ap (λ (t : CallTree). moved_by peer t past) sits.left ∙ ap (λ (d : Driver). driven peer d) sits.driver in (
      subst (λ (w : Option Step). WorldStateAfter world output (reverse (turn_lines me w (step_interrupts world past losses me w)) ++ past) losses world_state) (sym step_is) after,
      subst (λ (x : Peer). HasNoCalls Waits x) (sym turned_is) sits,
    )

pub storm_turn : (world : World) (output : Output) (past : List Line) (losses : ℕ → ℕ) (me x next : ℕ) (peer : Peer) (world_state : WorldState) → HasNoCalls (Storms x) peer → next ≡ storm_after x →
    WorldStateAfter world output (reverse (turn_lines me (Some (storm_step world me x)) (step_interrupts world past losses me (Some (storm_step world me x)))) ++ past) losses world_state →
    WorldStateAfter world output (reverse (turn_lines me (turn_step world me peer past) (step_interrupts world past losses me (turn_step world me peer past))) ++ past) losses world_state
    × HasNoCalls (Storms next) (turned world me peer past)
storm_turn world output past losses me x next peer world_state sits next_is after =
    let config = config_of world me in
    let same : opened config peer ≡ peer = none_opened config peer (Storms x) sits.left sits.waiting sits.driver in
    let step_is : turn_step world me peer past ≡ Some (storm_step world me x) =
    ap (λ (p : Peer). step_by world me p.driver p.left past) same ∙ ap (λ (t : CallTree). step_by world me peer.driver t past) sits.left ∙ ap (λ (d : Driver). driven_step world me d) sits.driver in
    let turned_is : turned world me peer past ≡ record peer { driver = Storms (storm_after x) } =
    ap (λ (p : Peer). moved p past) same ∙ ap (λ (t : CallTree). moved_by peer t past) sits.left ∙ ap (λ (d : Driver). driven peer d) sits.driver in (
      subst (λ (w : Option Step). WorldStateAfter world output (reverse (turn_lines me w (step_interrupts world past losses me w)) ++ past) losses world_state) (sym step_is) after,
      subst (λ (p : Peer). HasNoCalls (Storms next) p) (sym turned_is) (record { left = sits.left; waiting = sits.waiting; driver = ap Storms (sym next_is) }),
    )

-- An access of a storm returns nothing.
draws_nothing : (world : World) (p v : ℕ) (a : Access) → IsDrawn world p a → value_given a v ≡ value_given a 0
draws_nothing world p v (access.Write word value) is = refl
draws_nothing world p v (access.State state) is = refl
draws_nothing world p v (access.Ring target vector) is = refl
draws_nothing world p v (access.Read word) is = elim is [ ]
draws_nothing world p v access.Nothing is = elim is [ ]

-- The step of a storm that was performed.
pub storm_performed : (world : World) (output : Output) (past : List Line) (losses : ℕ → ℕ) (me x : ℕ) (world_state : WorldState) (a : Access) (value : ℕ) → DrawsIn world me (storm_step world me x) a →
    WorldStateAfter world output (reverse (accessed world past losses me a value) ++ past) losses world_state →
    WorldStateAfter world output (reverse (turn_lines me (Some (storm_step world me x)) (step_interrupts world past losses me (Some (storm_step world me x)))) ++ past) losses world_state
storm_performed world output past losses me x world_state a value draws after =
    let step_is : step_of a value [] ≡ storm_step world me x = ap (λ v. record { access = a; value = v; marks = [] }) (draws_nothing world me value a draws.drawn) ∙ sym draws.is in
    subst (λ (s : Step). WorldStateAfter world output (reverse (turn_lines me (Some s) (step_interrupts world past losses me (Some s))) ++ past) losses world_state) step_is
    (subst (λ (ls : List Line). WorldStateAfter world output ls losses world_state) (lines_are world past losses me a value []) after)
