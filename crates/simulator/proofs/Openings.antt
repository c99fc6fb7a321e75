-- The next call is opened.
use Rattle.std.proofs.Common.{◌≡◌, ℕ, true, false, List, [], ◌∷◌, sym, ◌∙◌, ap, subst, All}
use Rattle.std.specs.Prelude.{Option, Some, None, map}
use Rattle.std.specs.List.{AllByRecursion}
use Rattle.std.proofs.lemmas.List.Elements.{All-from_recursion}
use Rattle.call_grammar.specs.Trees.{CallTree, Ended}
use Rattle.call_grammar.specs.Calls.{EndConfig, tree_of}
use Rattle.call_grammar.specs.Calls as calls
use Rattle.call_grammar.specs.Places.{Place, remaining, is_open}
use Rattle.call_grammar.specs.Permitted.{IsPermittedCall}
use Rattle.link_endpoint.specs.Plan.{Plan}
use Rattle.lawful_history.specs.Peers.{Driver, Peer, chosen, opened_by, opened}
use Rattle.lawful_history.proofs.Exists.{AreGiven, IsFit}
use Rattle.simulator.specs.declared.link.Waiting.{Waiting}
use Rattle.simulator.specs.declared.link.Waiting.TheVariants.{Tick, Poll, Stop, Offer}
use Rattle.simulator.specs.declared.link.Link.{Link}
use Rattle.simulator.specs.PeerStates.{call_of, DriverIs, LinkRefines, IsOffered, MayWait, PlanFits, LinkFits}
use Rattle.call_grammar.proofs.ReplaysAreCalls.{shut_place}
use Rattle.simulator.proofs.PlacesOfCalls.{open_by}

-- An open call isn't replaced.
pub stays_open : (config : EndConfig) (peer : Peer) (link : Link) → (refines : LinkRefines config peer link) → is_open refines.place ≡ true → LinkRefines config (opened config peer) link
stays_open config peer link refines opens =
    let same : opened config peer ≡ peer = ap (λ (t : CallTree). opened_by config peer t peer.waiting) (sym refines.left) ∙ open_by config refines.place peer peer.waiting opens in
    subst (λ (p : Peer). LinkRefines config p link) (sym same) refines

-- If no call is open, nothing is left of one.
pub shut_left : (config : EndConfig) (peer : Peer) (link : Link) (refines : LinkRefines config peer link) → is_open refines.place ≡ false → peer.left ≡ Ended
shut_left config peer link refines shut = sym refines.left ∙ ap (λ (p : Place). remaining config p) (shut_place refines.place shut)

-- The oldest queued call was opened.
pub waiting_opened : (config : EndConfig) (peer : Peer) (left : CallTree) (call : calls.Call) (waiting : List calls.Call) → left ≡ Ended → peer.waiting ≡ call ∷ waiting → peer.left ≡ left →
    opened config peer ≡ record peer { left = tree_of config peer.end call; waiting = waiting }
waiting_opened config peer left call waiting none some is =
    ap (λ (t : CallTree). opened_by config peer t peer.waiting) (is ∙ none) ∙ ap (λ (w : List calls.Call). opened_by config peer Ended w) some

pub none_waiting : (config : EndConfig) (peer : Peer) → peer.left ≡ Ended → peer.waiting ≡ [] → opened config peer ≡ chosen config peer peer.driver
none_waiting config peer none empty =
    ap (λ (t : CallTree). opened_by config peer t peer.waiting) none ∙ ap (λ (w : List calls.Call). opened_by config peer Ended w) empty

-- A call that may be given may be queued.
wait_of : (config : EndConfig) (w : Waiting) → IsPermittedCall config (call_of w) → MayWait config.sizes.mtu w
wait_of config Tick given = tt
wait_of config Poll given = tt
wait_of config Stop given = tt
wait_of config (Offer frame) given = given

waits_of : (config : EndConfig) (ws : List Waiting) (calls_are : List calls.Call) → map call_of ws ≡ calls_are → AllByRecursion (IsPermittedCall config) calls_are → AllByRecursion (MayWait config.sizes.mtu) ws
waits_of config [] cs is given = tt
waits_of config (w ∷ ws) [] is given = absurd (cc)
waits_of config (w ∷ ws) (c ∷ cs) is given =
    let head : call_of w ≡ c = cc in
    let rest : map call_of ws ≡ cs = cc in
    (wait_of config w (subst (λ (x : calls.Call). IsPermittedCall config x) (sym head) given.0), waits_of config ws cs rest given.1)

frames_of : (config : EndConfig) (frames : List (List ℕ)) → AllByRecursion (λ frame. IsPermittedCall config (calls.Offer frame)) frames → AllByRecursion (IsOffered config.sizes.mtu) frames
frames_of config [] given = tt
frames_of config (frame ∷ frames) given = (given.0, frames_of config frames given.1)

plan_of : (config : EndConfig) (plan : Option Plan) (driver : Driver) → DriverIs plan driver → AreGiven config driver → PlanFits config.sizes.mtu plan
plan_of config None driver is given = tt
plan_of config (Some plan) driver is given =
    let auto = is.0 in
    let frames : AllByRecursion (λ frame. IsPermittedCall config (calls.Offer frame)) auto.frames = subst (λ (d : Driver). AreGiven config d) is.1 given in
    subst (λ (fs : List (List ℕ)). All (IsOffered config.sizes.mtu) fs) (sym is.2.frames) (All-from_recursion (IsOffered config.sizes.mtu) auto.frames (frames_of config auto.frames frames))

-- A frame that fits the peer fits its link.
pub link_fits : (config : EndConfig) (peer : Peer) (link : Link) → LinkRefines config peer link → IsFit config peer → LinkFits link
link_fits config peer link refines fit =
    let made : config ≡ link.end.config = refines.end.made in
    let P : EndConfig → Type 0 = λ w. All (MayWait w.sizes.mtu) link.waiting.items × PlanFits w.sizes.mtu link.auto in
    let both : P config = (
      All-from_recursion (MayWait config.sizes.mtu) link.waiting.items (waits_of config link.waiting.items peer.waiting refines.waiting fit.given),
      plan_of config link.auto peer.driver refines.driver fit.frames,
    ) in
    let now : P link.end.config = subst P made both in
    record { waiting = now.0; plan = now.1 }
