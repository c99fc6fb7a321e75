-- The call that an automatic end chooses is opened.
use Rattle.std.proofs.Common.{◌≡◌, ℕ, List, [], ◌∷◌, refl, sym, ◌∙◌, ap, subst, All}
use Rattle.std.specs.Prelude.{Option, Some, None, map}
use Rattle.std.proofs.lemmas.List.Elements.{recursion_from_All}
use Rattle.link_handshake.specs.declared.Phase.{Phase}
use Rattle.call_grammar.specs.Trees.{Ended}
use Rattle.call_grammar.specs.Ends.{End}
use Rattle.call_grammar.specs.Calls.{EndConfig, tree_of}
use Rattle.call_grammar.specs.Calls as calls
use Rattle.call_grammar.specs.Automatic.{Round, Anew, AfterOffer, AfterPoll, choice_of}
use Rattle.call_grammar.specs.Automatic as automatic
use Rattle.call_grammar.specs.Places.{Place, Closed, remaining, first_place, PlacesFollowTrees}
use Rattle.call_grammar.specs.Permitted.{IsPermittedCall}
use Rattle.link_endpoint.specs.Engine.{Engine}
use Rattle.link_endpoint.specs.Refinement.{RefinesAt}
use Rattle.link_endpoint.specs.Plan as plans
use Rattle.link_endpoint.specs.Plan.{Plan, HasCounted, IsChoice, head_of, round_after, MayOpen, place_for}
use Rattle.link_endpoint.specs.declared.auto.Choice.{Choice}
use Rattle.link_endpoint.specs.declared.auto.Choice.TheVariants as choice
use Rattle.lawful_history.specs.Peers.{Auto, Driver, Chooses, Peer, with_choice, chosen, opened}
use Rattle.simulator.specs.declared.link.Waiting.{Waiting}
use Rattle.simulator.specs.declared.link.Waiting.TheVariants as waiting
use Rattle.simulator.specs.declared.link.Link.{Link}
use Rattle.step_lines.specs.Plans.{IsPlanOf}
use Rattle.simulator.specs.PeerStates.{call_of, DriverIs, LinkRefines, IsOffered, MayWait, PlanFits, LinkFits}
use Rattle.simulator.proofs.Openings.{waiting_opened}
use Rattle.step_lines.proofs.FramesOfMarks.{first_frames}

-- A call that was opened.
pub opens_as : PlacesFollowTrees → (config : EndConfig) (peer : Peer) (end : Engine) (call : calls.Call) (waiting : List Waiting) (waits : List calls.Call) (plan : Option Plan) (driver : Driver) →
    RefinesAt end config peer.end (first_place config peer.end call) → IsPermittedCall config call → map call_of waiting ≡ waits → DriverIs plan driver →
    (l : Link) → l.end ≡ end → l.waiting.items ≡ waiting → l.auto ≡ plan → LinkRefines config (record peer { left = tree_of config peer.end call; waiting = waits; driver = driver }) l
opens_as follow config peer end call waiting waits plan driver refines given are driven l end_is waiting_is plan_is = record {
  place = first_place config peer.end call;
  end = rw end_is refines;
  left = follow.begins config peer.end call;
  frames = first_frames config peer.end call given;
  waiting = rw waiting_is are;
  driver = rw plan_is driven;
}

-- The choice for a plan of an automatic end.
choice_is : (phase : Phase) (plan : Plan) (auto : Auto) (answer : Choice) (chosen_is : automatic.Choice) → IsPlanOf plan auto →
    ((count : ℕ) → HasCounted plan count → IsChoice answer plan.frames (choice_of phase plan.round plan.frames count plan.expected)) →
    IsChoice answer auto.frames (choice_of phase auto.round auto.frames auto.delivered auto.expected)
choice_is phase plan auto answer chosen_is is chooses =
    let here : IsChoice answer plan.frames (choice_of phase plan.round plan.frames auto.delivered plan.expected) = chooses auto.delivered is.delivered in
    subst (λ (e : ℕ). IsChoice answer auto.frames (choice_of phase auto.round auto.frames auto.delivered e)) is.expected
    (subst (λ (r : Round). IsChoice answer auto.frames (choice_of phase r auto.frames auto.delivered plan.expected)) is.round
    (subst (λ (fs : List (List ℕ)). IsChoice answer fs (choice_of phase plan.round fs auto.delivered plan.expected)) is.frames here))

offer_choice : (frames : List (List ℕ)) (c : automatic.Choice) → IsChoice choice.Offer frames c → (f : List ℕ) × (head_of frames ≡ Some f) × (c ≡ automatic.ChoosesOffer f)
offer_choice [] c is = absurd is
offer_choice (frame ∷ frames) c is = (frame, refl, is)

replanned : (plan new : Plan) (auto : Auto) (round : Round) → IsPlanOf plan auto → new ≡ record plan { round = round } → IsPlanOf new (record auto { round = round })
replanned plan new auto round is new_is = rw new_is (record { frames = is.frames; expected = is.expected; delivered = is.delivered; round = refl })

-- The facts of a choice: the link refined the peer, no call was open, and the plan made its choice.
pub record Chose (config : EndConfig) (peer : Peer) (link : Link) (plan new : Plan) (phase : Phase) (answer : Choice) : Type 0 where
  pub refines : LinkRefines config peer link
  pub shut : refines.place ≡ Closed
  pub has : link.auto ≡ Some plan
  pub phase_is : phase ≡ peer.end.handshake.phase
  pub chooses : (count : ℕ) → HasCounted plan count → IsChoice answer plan.frames (choice_of phase plan.round plan.frames count plan.expected)
  pub round : new ≡ record plan { round = round_after answer plan.round }

driver_of : (config : EndConfig) (peer : Peer) (link : Link) (plan : Plan) → LinkRefines config peer link → link.auto ≡ Some plan → DriverIs (Some plan) peer.driver
driver_of config peer link plan refines has = subst (λ (o : Option Plan). DriverIs o peer.driver) has refines.driver

-- An answer that is this choice opens this call.
opens_chosen : PlacesFollowTrees → (config : EndConfig) (peer : Peer) (link l : Link) (plan new : Plan) (phase : Phase) (answer : Choice) (end : Engine) (call : calls.Call) (round : Round) (chose : Chose config peer link plan new phase answer) →
    (auto : Auto) → peer.driver ≡ Chooses auto → IsPlanOf plan auto → (c : automatic.Choice) → choice_of peer.end.handshake.phase auto.round auto.frames auto.delivered auto.expected ≡ c →
    with_choice config peer auto c ≡ record peer { left = tree_of config peer.end call; driver = Chooses (record auto { round = round }) } → new ≡ record plan { round = round } →
    RefinesAt end config peer.end (first_place config peer.end call) → IsPermittedCall config call → l.end ≡ end → l.waiting ≡ link.waiting → l.auto ≡ Some new → LinkRefines config (chosen config peer peer.driver) l
opens_chosen follow config peer link l plan new phase answer end call round chose auto driver is c c_is with_is new_is refines given end_is waiting_is auto_is =
    let next : Peer = record peer { left = tree_of config peer.end call; driver = Chooses (record auto { round = round }) } in
    let same : chosen config peer peer.driver ≡ next =
    ap (λ (d : Driver). chosen config peer d) driver ∙ ap (λ (x : automatic.Choice). with_choice config peer auto x) c_is ∙ with_is in
    subst (λ (x : Peer). LinkRefines config x l) (sym same)
    (opens_as follow config peer end call link.waiting.items peer.waiting (Some new) (Chooses (record auto { round = round })) refines given chose.refines.waiting
    (record auto { round = round }, refl, replanned plan new auto round is new_is) l end_is (ap (λ w. w.items) waiting_is) auto_is)

at_closed : (config : EndConfig) (peer : Peer) (link : Link) (refines : LinkRefines config peer link) → refines.place ≡ Closed → RefinesAt link.end config peer.end Closed
at_closed config peer link refines shut = subst (λ (p : Place). RefinesAt link.end config peer.end p) shut refines.end

tick_chosen : PlacesFollowTrees → (config : EndConfig) (peer : Peer) (link l : Link) (plan new : Plan) (phase : Phase) (end : Engine) → Chose config peer link plan new phase choice.Tick →
    ((w : EndConfig) (e : End) → RefinesAt link.end w e Closed → RefinesAt end w e (first_place w e calls.Tick)) → l.end ≡ end → l.waiting ≡ link.waiting → l.auto ≡ Some new → LinkRefines config (chosen config peer peer.driver) l
tick_chosen follow config peer link l plan new phase end chose begins end_is waiting_is auto_is =
    let d : (auto : Auto) × (peer.driver ≡ Chooses auto) × IsPlanOf plan auto = driver_of config peer link plan chose.refines chose.has in
    let c = choice_is phase plan d.0 choice.Tick automatic.ChoosesTick d.2 chose.chooses in
    opens_chosen follow config peer link l plan new phase choice.Tick end calls.Tick Anew chose d.0 d.1 d.2 automatic.ChoosesTick
    (ap (λ (f : Phase). choice_of f d.0.round d.0.frames d.0.delivered d.0.expected) (sym chose.phase_is) ∙ c) refl chose.round
    (begins config peer.end (at_closed config peer link chose.refines chose.shut)) tt end_is waiting_is auto_is

poll_chosen : PlacesFollowTrees → (config : EndConfig) (peer : Peer) (link l : Link) (plan new : Plan) (phase : Phase) (end : Engine) → Chose config peer link plan new phase choice.Poll →
    ((w : EndConfig) (e : End) → RefinesAt link.end w e Closed → RefinesAt end w e (first_place w e calls.Poll)) → l.end ≡ end → l.waiting ≡ link.waiting → l.auto ≡ Some new → LinkRefines config (chosen config peer peer.driver) l
poll_chosen follow config peer link l plan new phase end chose begins end_is waiting_is auto_is =
    let d : (auto : Auto) × (peer.driver ≡ Chooses auto) × IsPlanOf plan auto = driver_of config peer link plan chose.refines chose.has in
    let c = choice_is phase plan d.0 choice.Poll automatic.ChoosesPoll d.2 chose.chooses in
    opens_chosen follow config peer link l plan new phase choice.Poll end calls.Poll AfterPoll chose d.0 d.1 d.2 automatic.ChoosesPoll
    (ap (λ (f : Phase). choice_of f d.0.round d.0.frames d.0.delivered d.0.expected) (sym chose.phase_is) ∙ c) refl chose.round
    (begins config peer.end (at_closed config peer link chose.refines chose.shut)) tt end_is waiting_is auto_is

head_offered : (mtu : ℕ) (frames : List (List ℕ)) (frame : List ℕ) → All (IsOffered mtu) frames → head_of frames ≡ Some frame → IsOffered mtu frame
head_offered mtu [] frame all is = absurd (cc)
head_offered mtu (x ∷ xs) frame all is = let same : x ≡ frame = cc in subst (λ (f : List ℕ). IsOffered mtu f) same (recursion_from_All (IsOffered mtu) (x ∷ xs) all).0

same_head : (frames : List (List ℕ)) (a b : List ℕ) → head_of frames ≡ Some a → head_of frames ≡ Some b → a ≡ b
same_head frames a b one other = cc

offer_chosen : PlacesFollowTrees → (config : EndConfig) (peer : Peer) (link l : Link) (plan new : Plan) (phase : Phase) (end : Engine) (frame : List ℕ) → Chose config peer link plan new phase choice.Offer →
    head_of new.frames ≡ Some frame → LinkFits link →
    ((w : EndConfig) (e : End) → RefinesAt link.end w e Closed → RefinesAt end w e (first_place w e (calls.Offer frame))) → l.end ≡ end → l.waiting ≡ link.waiting → l.auto ≡ Some new → LinkRefines config (chosen config peer peer.driver) l
offer_chosen follow config peer link l plan new phase end frame chose head fits begins end_is waiting_is auto_is =
    let d : (auto : Auto) × (peer.driver ≡ Chooses auto) × IsPlanOf plan auto = driver_of config peer link plan chose.refines chose.has in
    let c = offer_choice d.0.frames _ (choice_is phase plan d.0 choice.Offer automatic.IsFinished d.2 chose.chooses) in
    let head_plan : head_of plan.frames ≡ Some frame = ap (λ (p : Plan). head_of p.frames) (sym chose.round) ∙ head in
    let head_auto : head_of d.0.frames ≡ Some frame = ap head_of (sym d.2.frames) ∙ head_plan in
    let frame_is : c.0 ≡ frame = same_head d.0.frames c.0 frame c.1 head_auto in
    let plan_fits : All (IsOffered link.end.config.sizes.mtu) plan.frames = subst (λ (o : Option Plan). PlanFits link.end.config.sizes.mtu o) chose.has fits.plan in
    let given : IsOffered config.sizes.mtu frame = subst (λ (w : EndConfig). IsOffered w.sizes.mtu frame) (sym chose.refines.end.made) (head_offered link.end.config.sizes.mtu plan.frames frame plan_fits head_plan) in
    opens_chosen follow config peer link l plan new phase choice.Offer end (calls.Offer frame) AfterOffer chose d.0 d.1 d.2 (automatic.ChoosesOffer frame)
    (ap (λ (f : Phase). choice_of f d.0.round d.0.frames d.0.delivered d.0.expected) (sym chose.phase_is) ∙ c.2 ∙ ap automatic.ChoosesOffer frame_is) refl chose.round
    (begins config peer.end (at_closed config peer link chose.refines chose.shut)) given end_is waiting_is auto_is

-- An offer has a first frame.
no_head : (config : EndConfig) (peer : Peer) (link : Link) (plan new : Plan) (phase : Phase) → Chose config peer link plan new phase choice.Offer → new.frames ≡ [] → ⊥
no_head config peer link plan new phase chose none =
    let d : (auto : Auto) × (peer.driver ≡ Chooses auto) × IsPlanOf plan auto = driver_of config peer link plan chose.refines chose.has in
    let c = offer_choice d.0.frames _ (choice_is phase plan d.0 choice.Offer automatic.IsFinished d.2 chose.chooses) in
    let empty : d.0.frames ≡ [] = sym d.2.frames ∙ ap (λ (p : Plan). p.frames) (sym chose.round) ∙ none in
    let nothing : None ≡ Some c.0 = ap head_of (sym empty) ∙ c.1 in absurd (cc)

finished_chosen : (config : EndConfig) (peer : Peer) (link l : Link) (plan new : Plan) (phase : Phase) (end : Engine) → Chose config peer link plan new phase choice.Finished →
    ((w : EndConfig) (e : End) → RefinesAt link.end w e Closed → RefinesAt end w e Closed) → l.end ≡ end → l.waiting ≡ link.waiting → l.auto ≡ Some new → LinkRefines config (chosen config peer peer.driver) l
finished_chosen config peer link l plan new phase end chose stays end_is waiting_is auto_is =
    let d : (auto : Auto) × (peer.driver ≡ Chooses auto) × IsPlanOf plan auto = driver_of config peer link plan chose.refines chose.has in
    let c = choice_is phase plan d.0 choice.Finished automatic.IsFinished d.2 chose.chooses in
    let same : chosen config peer peer.driver ≡ peer =
    ap (λ (x : Driver). chosen config peer x) d.1 ∙
    ap (λ (x : automatic.Choice). with_choice config peer d.0 x) (ap (λ (f : Phase). choice_of f d.0.round d.0.frames d.0.delivered d.0.expected) (sym chose.phase_is) ∙ c) in
    subst (λ (x : Peer). LinkRefines config x l) (sym same) (record {
      place = Closed;
      end = rw end_is (stays config peer.end (at_closed config peer link chose.refines chose.shut));
      left = ap (λ (p : Place). remaining config p) (sym chose.shut) ∙ chose.refines.left;
      frames = tt;
      waiting = ap (λ w. map call_of w.items) waiting_is ∙ chose.refines.waiting;
      driver = subst (λ (o : Option Plan). DriverIs o peer.driver) (sym (auto_is ∙ ap Some chose.round)) (d.0, d.1, d.2);
    })

-- The call that was chosen is opened.
pub choice_opened : PlacesFollowTrees → (config : EndConfig) (peer : Peer) (link l : Link) (plan new : Plan) (phase : Phase) (answer : Choice) (frames : List (List ℕ)) (end : Engine) → Chose config peer link plan new phase answer →
    frames ≡ new.frames → LinkFits link → ((w : EndConfig) (e : End) → RefinesAt link.end w e Closed → RefinesAt end w e (place_for w e Closed (plans.call_of answer frames))) →
    l.end ≡ end → l.waiting ≡ link.waiting → l.auto ≡ Some new → LinkRefines config (chosen config peer peer.driver) l
choice_opened follow config peer link l plan new phase choice.Tick frames end chose is fits opens = tick_chosen follow config peer link l plan new phase end chose opens
choice_opened follow config peer link l plan new phase choice.Offer [] end chose is fits opens = absurd (no_head config peer link plan new phase chose (sym is))
choice_opened follow config peer link l plan new phase choice.Offer (frame ∷ frames) end chose is fits opens =
    offer_chosen follow config peer link l plan new phase end frame chose (ap head_of (sym is)) fits opens
choice_opened follow config peer link l plan new phase choice.Poll frames end chose is fits opens = poll_chosen follow config peer link l plan new phase end chose opens
choice_opened follow config peer link l plan new phase choice.Finished frames end chose is fits opens = finished_chosen config peer link l plan new phase end chose opens

-- A frame that was chosen may be offered.
pub may_open : (config : EndConfig) (peer : Peer) (link : Link) (plan new : Plan) (phase : Phase) (answer : Choice) (frames : List (List ℕ)) → Chose config peer link plan new phase answer → frames ≡ new.frames → LinkFits link →
    MayOpen link.end.config.sizes.mtu answer frames
may_open config peer link plan new phase choice.Tick frames chose is fits = tt
may_open config peer link plan new phase choice.Offer [] chose is fits = absurd (no_head config peer link plan new phase chose (sym is))
may_open config peer link plan new phase choice.Offer (frame ∷ frames) chose is fits =
    let plan_fits : All (IsOffered link.end.config.sizes.mtu) plan.frames = subst (λ (o : Option Plan). PlanFits link.end.config.sizes.mtu o) chose.has fits.plan in
    head_offered link.end.config.sizes.mtu plan.frames frame plan_fits (ap head_of (ap (λ (p : Plan). p.frames) (sym chose.round) ∙ sym is))
may_open config peer link plan new phase choice.Poll frames chose is fits = tt
may_open config peer link plan new phase choice.Finished frames chose is fits = tt

given_of : (config : EndConfig) (w : Waiting) → MayWait config.sizes.mtu w → IsPermittedCall config (call_of w)
given_of config waiting.Tick may = tt
given_of config waiting.Poll may = tt
given_of config waiting.Stop may = tt
given_of config (waiting.Offer frame) may = may

-- The oldest queued call was opened.
pub waiting_begun : PlacesFollowTrees → (config : EndConfig) (peer : Peer) (link l : Link) (call : Waiting) (rest : List Waiting) (end : Engine) (refines : LinkRefines config peer link) → refines.place ≡ Closed → link.waiting.items ≡ call ∷ rest → LinkFits link →
    ((w : EndConfig) (e : End) → RefinesAt link.end w e Closed → RefinesAt end w e (first_place w e (call_of call))) → l.end ≡ end → l.waiting.items ≡ rest → l.auto ≡ link.auto → LinkRefines config (opened config peer) l
waiting_begun follow config peer link l call rest end refines shut items fits begins end_is rest_is auto_is =
    let none : peer.left ≡ Ended = sym refines.left ∙ ap (λ (p : Place). remaining config p) shut in
    let some : peer.waiting ≡ call_of call ∷ map call_of rest = sym refines.waiting ∙ ap (λ ws. map call_of ws) items in
    let waits : All (MayWait link.end.config.sizes.mtu) (call ∷ rest) = subst (λ (ws : List Waiting). All (MayWait link.end.config.sizes.mtu) ws) items fits.waiting in
    let given : IsPermittedCall config (call_of call) = given_of config call (subst (λ (w : EndConfig). MayWait w.sizes.mtu call) (sym refines.end.made) (recursion_from_All (MayWait link.end.config.sizes.mtu) (call ∷ rest) waits).0) in
    subst (λ (x : Peer). LinkRefines config x l) (sym (waiting_opened config peer peer.left (call_of call) (map call_of rest) none some refl))
    (opens_as follow config peer end (call_of call) rest (map call_of rest) link.auto peer.driver (begins config peer.end (at_closed config peer link refines shut)) given refl refines.driver l end_is rest_is auto_is)
