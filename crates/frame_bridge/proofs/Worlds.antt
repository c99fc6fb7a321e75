-- The invariant of a bridge's run, turn by turn.
use Rattle.std.proofs.Common.{◌≡◌, ◌≢◌, ℕ, zero, suc, ◌+◌, ◌-◌, ◌<◌, Bool, true, false, List, [], ◌∷◌, ◌++◌, length, map, refl, sym, ap, ◌∙◌, subst, append_assoc, arith, eq-eqb, eqb-true, length-append}
use Rattle.std.specs.Prelude.{◌==◌, nat_le, slice_index, if◌then◌else◌, filter, All}
use Rattle.std.specs.List.{AllByRecursion}
use Rattle.std.proofs.lemmas.Bool.{ne_eqb, eqb-false, leb-true}
use Rattle.line_format.proofs.SpellingsAreRead.{both_true}
use Rattle.std.proofs.lemmas.List.{append-nil, map-append, get_or_default}
use Rattle.std.proofs.lemmas.List.Elements.{All-append, All-nil, filter-append, recursion_from_All, All-from_recursion}
use Rattle.call_grammar.specs.Ends.{End, fresh}
use Rattle.call_grammar.specs.Places.{Place, Closed, access_at, marks_at, is_open}
use Rattle.call_grammar.specs.Calls.{EndConfig}
use Rattle.call_grammar.specs.Automatic.{Choice, ChoosesTick, ChoosesOffer, ChoosesPoll, IsFinished}
use Rattle.link_invariant.specs.LinkConfig.{config_of, IsOffered}
use Rattle.link_invariant.specs.Runs.{HonestRuns}
use Rattle.link_invariant.specs.Runs as honest
use Rattle.pair_sessions.specs.CalmRuns.{CalmRuns, starts, begins, steps, others}
use Rattle.pair_sessions.proofs.CalmRuns.{calm_runs_deliver}
use Rattle.frame_bridge.specs.declared.scripts.Sent.{Sent}
use Rattle.frame_bridge.specs.Spelling as text
use Rattle.frame_bridge.specs.Forwarding.{Arrival, is_forwarded, forwarded_after, forward}
use Rattle.frame_bridge.specs.BridgeView.{arrival}
use Rattle.link_endpoint.specs.Plan.{delivered_by}
use Rattle.frame_bridge.specs.Links.{link_config, AutoEnd, Link, starting, choice, with_choice, opened, stepped, value_in, step_of_link, turned, observed_by, with_copies}
use Rattle.frame_bridge.specs.Run.{World, Turn, frames_of, started, arriving, world_after}
use Rattle.frame_bridge.specs.Output.{outs, arrived_at, Delivers}
use Rattle.frame_bridge.specs.Keeps.{HeadIs, ends_in, places_in, Sound, given_to, Going}
use Rattle.frame_bridge.proofs.LinkInvariant.{is_link_config, put_here, put_other, All_left, All_right, turned_sound}

-- Lists of arrivals

forwarded_append : (earlier xs ys : List Arrival) (port : ℕ) → forwarded_after earlier (xs ++ ys) port ≡ forwarded_after earlier xs port ++ forwarded_after (earlier ++ xs) ys port
forwarded_append earlier [] ys port = ap (λ (l : List Arrival). forwarded_after l ys port) (sym (append-nil earlier))
forwarded_append earlier (x ∷ xs) ys port =
    let first : List (List ℕ) = if is_forwarded (earlier ++ x ∷ []) x port then x.frame ∷ [] else [] in
    ap (λ (l : List (List ℕ)). first ++ l)
    (forwarded_append (earlier ++ x ∷ []) xs ys port ∙
    ap (λ (l : List Arrival). forwarded_after (earlier ++ x ∷ []) xs port ++ forwarded_after l ys port) (append_assoc earlier (x ∷ []) xs)) ∙
    sym (append_assoc first (forwarded_after (earlier ++ x ∷ []) xs port) (forwarded_after (earlier ++ x ∷ xs) ys port))

pub forward_append : (xs ys : List Arrival) (port : ℕ) → forward (xs ++ ys) port ≡ forward xs port ++ forwarded_after xs ys port
forward_append xs ys port = forwarded_append [] xs ys port

first_if : (P : List ℕ → Type 0) (b : Bool) (frame : List ℕ) (rest : List (List ℕ)) → P frame → AllByRecursion P rest → AllByRecursion P ((if b then frame ∷ [] else []) ++ rest)
first_if P true frame rest here later = (here, later)
first_if P false frame rest here later = later

copies_all : (P : List ℕ → Type 0) (earlier xs : List Arrival) (port : ℕ) → AllByRecursion (λ x. P x.frame) xs → AllByRecursion P (forwarded_after earlier xs port)
copies_all P earlier [] port all = tt
copies_all P earlier (x ∷ xs) port all =
    first_if P (is_forwarded (earlier ++ x ∷ []) x port) x.frame (forwarded_after (earlier ++ x ∷ []) xs port) all.0 (copies_all P (earlier ++ x ∷ []) xs port all.1)

arrivals_all : (P : List ℕ → Type 0) (port : ℕ) (frames : List (List ℕ)) → AllByRecursion P frames → AllByRecursion (λ x. P x.frame) (map (arrival port) frames)
arrivals_all P port [] all = tt
arrivals_all P port (frame ∷ frames) all = (all.0, arrivals_all P port frames all.1)

arrived_append : (port : ℕ) (xs ys : List Arrival) → arrived_at port (xs ++ ys) ≡ arrived_at port xs ++ arrived_at port ys
arrived_append port xs ys =
    let here : Arrival → Bool = λ a. a.port == port in
    let frame : Arrival → List ℕ = λ a. a.frame in
    ap (map frame) (filter-append here xs ys) ∙ map-append frame (filter here xs) (filter here ys)

arrived_own : (port : ℕ) (frames : List (List ℕ)) → arrived_at port (map (arrival port) frames) ≡ frames
arrived_own port [] = refl
arrived_own port (frame ∷ frames) =
    ap (λ (b : Bool). map (λ (a : Arrival). a.frame) (if b then arrival port frame ∷ filter (λ (a : Arrival). a.port == port) (map (arrival port) frames) else filter (λ (a : Arrival). a.port == port) (map (arrival port) frames)))
    (eq-eqb port port refl) ∙ ap (λ (l : List (List ℕ)). frame ∷ l) (arrived_own port frames)

arrived_other : (port other : ℕ) (frames : List (List ℕ)) → other ≢ port → arrived_at port (map (arrival other) frames) ≡ []
arrived_other port other [] apart = refl
arrived_other port other (frame ∷ frames) apart =
    ap (λ (b : Bool). map (λ (a : Arrival). a.frame) (if b then arrival other frame ∷ filter (λ (a : Arrival). a.port == port) (map (arrival other) frames) else filter (λ (a : Arrival). a.port == port) (map (arrival other) frames)))
    (ne_eqb other port apart) ∙ arrived_other port other frames apart

-- The deliveries of a turn.

same_delivered : (config : EndConfig) (auto_end : AutoEnd) (c : Choice) → (with_choice config auto_end c).delivered ≡ auto_end.delivered
same_delivered config auto_end ChoosesTick = refl
same_delivered config auto_end (ChoosesOffer frame) = refl
same_delivered config auto_end ChoosesPoll = refl
same_delivered config auto_end IsFinished = refl

opened_at : (config : EndConfig) (auto_end : AutoEnd) (b : Bool) → (if b then auto_end else with_choice config auto_end (choice auto_end)).delivered ≡ auto_end.delivered
opened_at config auto_end true = refl
opened_at config auto_end false = same_delivered config auto_end (choice auto_end)

recorded_at : (link : Link) (p : ℕ) (auto_end : AutoEnd) (b : Bool) → auto_end.delivered ≡ (link.auto_ends p).delivered →
    ((if b then step_of_link p link auto_end else link).auto_ends p).delivered ≡
    (link.auto_ends p).delivered ++ (if b then delivered_by (marks_at (config_of link_config p) auto_end.place (value_in link.memory (access_at (config_of link_config p) auto_end.place))) else [])
recorded_at link p auto_end true same =
    let a = access_at (config_of link_config p) auto_end.place in
    ap (λ (x : AutoEnd). x.delivered) (put_here link.auto_ends p (stepped (config_of link_config p) (value_in link.memory a) auto_end)) ∙
    ap (λ (l : List (List ℕ)). l ++ delivered_by (marks_at (config_of link_config p) auto_end.place (value_in link.memory a))) same
recorded_at link p auto_end false same = sym (append-nil (link.auto_ends p).delivered)

pub turned_recorded : (link : Link) (p : ℕ) → ((turned p link).auto_ends p).delivered ≡ (link.auto_ends p).delivered ++ observed_by p link
turned_recorded link p =
    let auto_end : AutoEnd = opened (config_of link_config p) (link.auto_ends p) in
    recorded_at link p auto_end (is_open auto_end.place) (opened_at (config_of link_config p) (link.auto_ends p) (is_open (link.auto_ends p).place))

other_at : (link : Link) (p q : ℕ) (auto_end : AutoEnd) (b : Bool) → q ≢ p → (if b then step_of_link p link auto_end else link).auto_ends q ≡ link.auto_ends q
other_at link p q auto_end true apart =
    put_other link.auto_ends p (stepped (config_of link_config p) (value_in link.memory (access_at (config_of link_config p) auto_end.place)) auto_end) q apart
other_at link p q auto_end false apart = refl

pub turned_other : (link : Link) (p q : ℕ) → q ≢ p → (turned p link).auto_ends q ≡ link.auto_ends q
turned_other link p q apart = other_at link p q (opened (config_of link_config p) (link.auto_ends p)) (is_open (opened (config_of link_config p) (link.auto_ends p)).place) apart

-- A link

copied_end : (auto_ends : ℕ → AutoEnd) (frames : List (List ℕ)) (q : ℕ) (b : Bool) → (q == 1) ≡ b → (if b then record (auto_ends 1) { frames = frames } else auto_ends q).end ≡ (auto_ends q).end
copied_end auto_ends frames q true is = ap (λ (k : ℕ). (auto_ends k).end) (sym (eqb-true q 1 is))
copied_end auto_ends frames q false is = refl

copied_place : (auto_ends : ℕ → AutoEnd) (frames : List (List ℕ)) (q : ℕ) (b : Bool) → (q == 1) ≡ b → (if b then record (auto_ends 1) { frames = frames } else auto_ends q).place ≡ (auto_ends q).place
copied_place auto_ends frames q true is = ap (λ (k : ℕ). (auto_ends k).place) (sym (eqb-true q 1 is))
copied_place auto_ends frames q false is = refl

head_longer : (place : Place) (frames copies : List (List ℕ)) → HeadIs place frames → HeadIs place (frames ++ copies)
head_longer place frames copies head = λ frame is. let here = head frame is in (here.0 ++ copies, ap (λ (l : List (List ℕ)). l ++ copies) here.1)

pub copies_sound : (sent forwarded copies : List (List ℕ)) (link : Link) → Sound (given_to sent forwarded) link → All (IsOffered link_config) copies →
    Sound (given_to sent (forwarded ++ copies)) (with_copies copies link)
copies_sound sent forwarded copies link sound may = record { runs = runs; counted = counted; recorded = recorded; heads = heads; offered = offered }
  where
    auto_ends : ℕ → AutoEnd
    auto_ends = link.auto_ends

    longer : List (List ℕ)
    longer = (link.auto_ends 1).frames ++ copies

    runs : CalmRuns link_config link.memory (ends_in (with_copies copies link)) (places_in (with_copies copies link))
    runs =
        let ends : ends_in link ≡ ends_in (with_copies copies link) = λ i q. sym (copied_end link.auto_ends ((link.auto_ends 1).frames ++ copies) q (q == 1) refl) i in
        let places : places_in link ≡ places_in (with_copies copies link) = λ i q. sym (copied_place link.auto_ends ((link.auto_ends 1).frames ++ copies) q (q == 1) refl) i in
        subst (λ (e : ℕ → End). CalmRuns link_config link.memory e (places_in (with_copies copies link))) ends
        (subst (λ (p : ℕ → Place). CalmRuns link_config link.memory (ends_in link) p) places sound.runs)

    counted : (p : ℕ) → p < 2 → given_to sent (forwarded ++ copies) p ≡ ((with_copies copies link).auto_ends p).end.accepted ++ ((with_copies copies link).auto_ends p).frames
    counted zero below = sound.counted 0 below
    counted (suc zero) below =
        ap (λ (l : List (List ℕ)). l ++ copies) (sound.counted 1 below) ∙ append_assoc (link.auto_ends 1).end.accepted (link.auto_ends 1).frames copies
    counted (suc (suc p)) below = absurd (omega arith)

    recorded : (p : ℕ) → p < 2 → ((with_copies copies link).auto_ends p).delivered ≡ ((with_copies copies link).auto_ends p).end.delivered
    recorded zero below = sound.recorded 0 below
    recorded (suc zero) below = sound.recorded 1 below
    recorded (suc (suc p)) below = absurd (omega arith)

    heads : (p : ℕ) → p < 2 → HeadIs ((with_copies copies link).auto_ends p).place ((with_copies copies link).auto_ends p).frames
    heads zero below = sound.heads 0 below
    heads (suc zero) below = head_longer (link.auto_ends 1).place (link.auto_ends 1).frames copies (sound.heads 1 below)
    heads (suc (suc p)) below = absurd (omega arith)

    offered : (p : ℕ) → p < 2 → All (IsOffered link_config) (given_to sent (forwarded ++ copies) p)
    offered zero below = sound.offered 0 below
    offered (suc zero) below = All-append (IsOffered link_config) forwarded copies (sound.offered 1 below) may
    offered (suc (suc p)) below = absurd (omega arith)

-- Each frame that the bridge's end delivered was offered by the station.
pub delivered_offered : (sent forwarded : List (List ℕ)) (link : Link) → Sound (given_to sent forwarded) link → All (IsOffered link_config) (link.auto_ends 1).delivered
delivered_offered sent forwarded link sound =
    let all = calm_runs_deliver link_config link.memory (ends_in link) (places_in link) is_link_config sound.runs in
    let begins_with = (all.3 0 (omega arith)).2 in
    let accepted : All (IsOffered link_config) (link.auto_ends 0).end.accepted =
    All_left (IsOffered link_config) (link.auto_ends 0).end.accepted (link.auto_ends 0).frames (subst (All (IsOffered link_config)) (sound.counted 0 (omega arith)) (sound.offered 0 (omega arith))) in
    let delivered : All (IsOffered link_config) (link.auto_ends 1).end.delivered =
    All_left (IsOffered link_config) (link.auto_ends 1).end.delivered begins_with.0 (subst (All (IsOffered link_config)) begins_with.1 accepted) in
    subst (All (IsOffered link_config)) (sym (sound.recorded 1 (omega arith))) delivered

-- So was what it delivers in a turn.
pub recorded_offered : (sent forwarded : List (List ℕ)) (link : Link) → Sound (given_to sent forwarded) link → All (IsOffered link_config) (observed_by 1 link)
recorded_offered sent forwarded link sound =
    All_right (IsOffered link_config) (link.auto_ends 1).delivered (observed_by 1 link)
    (subst (All (IsOffered link_config)) (turned_recorded link 1) (delivered_offered sent forwarded (turned 1 link) (turned_sound (given_to sent forwarded) link 1 sound (omega arith))))

-- The run

-- the frames of a text may be offered

bytes_below : (bytes : List ℕ) → ((i : ℕ) → slice_index bytes i < 256) → All (λ byte. byte < 256) bytes
bytes_below bytes small = λ k d below. subst (λ (b : ℕ). b < 256) (get_or_default bytes k 0 d below) (small k)

sent_offered : (w : text.World) (s : Sent) → text.IsAllowed w s → IsOffered link_config s.frame
sent_offered w s is =
    let both = both_true (nat_le 14 (length s.frame)) (nat_le (length s.frame) 274) is.size in
    record { least = leb-true 14 (length s.frame) both.0; most = leb-true (length s.frame) 274 both.1; bytes = bytes_below s.frame is.bytes }

each_offered : (w : text.World) (port : ℕ) (sent : List Sent) → AllByRecursion (text.IsAllowed w) sent → AllByRecursion (IsOffered link_config) (frames_of port sent)
each_offered w port [] all = tt
each_offered w port (s ∷ sent) all = one_sent (s.port == port) s sent (sent_offered w s all.0) (each_offered w port sent all.1)
  where
    one_sent : (b : Bool) (s : Sent) (sent : List Sent) → IsOffered link_config s.frame → AllByRecursion (IsOffered link_config) (frames_of port sent) →
        AllByRecursion (IsOffered link_config) (map (λ (x : Sent). x.frame) (if b then s ∷ filter (λ (x : Sent). x.port == port) sent else filter (λ (x : Sent). x.port == port) sent))
    one_sent true s sent here later = (here, later)
    one_sent false s sent here later = later

pub frames_offered : (w : text.World) (port : ℕ) → text.IsWorld w → All (IsOffered link_config) (frames_of port w.sent)
frames_offered w port is =
    All-from_recursion (IsOffered link_config) (frames_of port w.sent) (each_offered w port w.sent (recursion_from_All (text.IsAllowed w) w.sent is.allowed))

-- the start

start_sound : (frames : List (List ℕ)) → All (IsOffered link_config) frames →
    Sound (given_to frames []) (record { memory = λ w. 0; auto_ends = λ p. starting (if p == 0 then frames else []) })
start_sound frames may = record { runs = starts (λ w. 0) (λ p. fresh) (λ p. Closed) (λ w. refl) (λ p. refl) (λ p. refl); counted = counted; recorded = λ p below. refl; heads = λ p below frame is. absurd (cc); offered = offered }
  where
    counted : (p : ℕ) → p < 2 → given_to frames [] p ≡ [] ++ (if p == 0 then frames else [])
    counted zero below = refl
    counted (suc zero) below = refl
    counted (suc (suc p)) below = absurd (omega arith)

    offered : (p : ℕ) → p < 2 → All (IsOffered link_config) (given_to frames [] p)
    offered zero below = may
    offered (suc zero) below = All-nil (IsOffered link_config)
    offered (suc (suc p)) below = absurd (omega arith)

pub started_going : (w : text.World) → text.IsWorld w → Going w.sent w.ports (started w.sent)
started_going w is = record { links = λ port below. start_sound (frames_of port w.sent) (frames_offered w port is); arrived = λ port below. refl }

-- a turn

arriving_if : (w : World) (t : Turn) (b : Bool) → (P : List ℕ → Type 0) → AllByRecursion P (observed_by 1 (w.links t.port)) → AllByRecursion (λ x. P x.frame) (if b then map (arrival t.port) (observed_by 1 (w.links t.port)) else [])
arriving_if w t true P all = arrivals_all P t.port (observed_by 1 (w.links t.port)) all
arriving_if w t false P all = tt

arriving_offered : (sent : List Sent) (ports : ℕ) (w : World) (t : Turn) → Going sent ports w → t.port < ports → AllByRecursion (λ x. IsOffered link_config x.frame) (arriving w t)
arriving_offered sent ports w t going below =
    arriving_if w t (t.end == 1) (IsOffered link_config) (recursion_from_All (IsOffered link_config) (observed_by 1 (w.links t.port))
    (recorded_offered (frames_of t.port sent) (forward w.arrivals t.port) (w.links t.port) (going.links t.port below)))

link_if : (sent : List Sent) (ports : ℕ) (w : World) (t : Turn) (port : ℕ) (b : Bool) → Going sent ports w → port < ports → t.end < 2 →
    Sound (given_to (frames_of port sent) (forward w.arrivals port)) (if b then turned t.end (w.links port) else w.links port)
link_if sent ports w t port true going below end = turned_sound (given_to (frames_of port sent) (forward w.arrivals port)) (w.links port) t.end (going.links port below) end
link_if sent ports w t port false going below end = going.links port below

link_after : (sent : List Sent) (ports : ℕ) (w : World) (t : Turn) → Going sent ports w → t.port < ports → t.end < 2 → (port : ℕ) → port < ports →
    Sound (given_to (frames_of port sent) (forward (world_after w t).arrivals port)) ((world_after w t).links port)
link_after sent ports w t going there end port below =
    let copies : List (List ℕ) = forwarded_after w.arrivals (arriving w t) port in
    let link : Link = if port == t.port then turned t.end (w.links port) else w.links port in
    let may : All (IsOffered link_config) copies =
    All-from_recursion (IsOffered link_config) copies (copies_all (IsOffered link_config) w.arrivals (arriving w t) port (arriving_offered sent ports w t going there)) in
    subst (λ (l : List (List ℕ)). Sound (given_to (frames_of port sent) l) (with_copies copies link)) (sym (forward_append w.arrivals (arriving w t) port))
    (copies_sound (frames_of port sent) (forward w.arrivals port) copies link (link_if sent ports w t port (port == t.port) going below end) may)

-- The frames that the bridge's end of a port has delivered after a turn.
recorded_after : (w : World) (t : Turn) (port end : ℕ) → end < 2 → t.port ≡ port → t.end ≡ end →
    ((turned end (w.links port)).auto_ends 1).delivered ≡ ((w.links port).auto_ends 1).delivered ++ arrived_at port (if end == 1 then map (arrival port) (observed_by 1 (w.links port)) else [])
recorded_after w t port zero below at is = ap (λ (x : AutoEnd). x.delivered) (turned_other (w.links port) 0 1 (λ e. cc)) ∙ sym (append-nil ((w.links port).auto_ends 1).delivered)
recorded_after w t port (suc zero) below at is =
    turned_recorded (w.links port) 1 ∙ ap (λ (l : List (List ℕ)). ((w.links port).auto_ends 1).delivered ++ l) (sym (arrived_own port (observed_by 1 (w.links port))))
recorded_after w t port (suc (suc n)) below at is = absurd (omega arith)

none_from : (w : World) (t : Turn) (port : ℕ) (b : Bool) → t.port ≢ port → arrived_at port (if b then map (arrival t.port) (observed_by 1 (w.links t.port)) else []) ≡ []
none_from w t port true apart = arrived_other port t.port (observed_by 1 (w.links t.port)) apart
none_from w t port false apart = refl

arrived_if : (w : World) (t : Turn) (port : ℕ) (b : Bool) → t.end < 2 → (port == t.port) ≡ b →
    ((if b then turned t.end (w.links port) else w.links port).auto_ends 1).delivered ≡ ((w.links port).auto_ends 1).delivered ++ arrived_at port (arriving w t)
arrived_if w t port true end is =
    let same : t.port ≡ port = sym (eqb-true port t.port is) in
    recorded_after w t port t.end end same refl ∙
    ap (λ (k : ℕ). ((w.links port).auto_ends 1).delivered ++ arrived_at port (if t.end == 1 then map (arrival k) (observed_by 1 (w.links k)) else [])) (sym same)
arrived_if w t port false end is =
    sym (append-nil ((w.links port).auto_ends 1).delivered) ∙
    ap (λ (l : List (List ℕ)). ((w.links port).auto_ends 1).delivered ++ l) (sym (none_from w t port (t.end == 1) (λ e. eqb-false port t.port is (sym e))))

-- A turn of an end of one of the ports preserves it.
pub going_after : (sent : List Sent) (ports : ℕ) (w : World) (t : Turn) → Going sent ports w → t.port < ports → t.end < 2 → Going sent ports (world_after w t)
going_after sent ports w t going there end = record {
  links = link_after sent ports w t going there end;
  arrived = λ port below.
      arrived_append port w.arrivals (arriving w t) ∙
      (ap (λ (l : List (List ℕ)). l ++ arrived_at port (arriving w t)) (going.arrived port below) ∙ sym (arrived_if w t port (port == t.port) end refl));
}

-- The end

honest_run : (memory : ℕ → ℕ) (ends : ℕ → End) (places : ℕ → Place) → CalmRuns link_config memory ends places → HonestRuns link_config memory ends places
honest_run _ _ _ (starts memory ends places none new closed) = honest.starts memory ends places none new closed
honest_run _ _ _ (begins memory ends after_ends places after_places p call run below calm begun) =
    honest.begins memory ends after_ends places after_places p call (honest_run memory ends places run) below refl begun
honest_run _ _ _ (steps memory after ends after_ends places after_places p value run below step) =
    honest.steps memory after ends after_ends places after_places p value (honest_run memory ends places run) below refl step
honest_run _ _ _ (others memory after ends places run keep) = honest.others memory after ends places (honest_run memory ends places run) (λ q below _. keep q below)

pub delivers : (script : text.World) (w : World) (port : ℕ) → Going script.sent script.ports w → port < script.ports → Delivers script w port
delivers script w port going below =
    let link : Link = w.links port in
    let sound : Sound (given_to (frames_of port script.sent) (forward w.arrivals port)) link = going.links port below in
    let all = calm_runs_deliver link_config link.memory (ends_in link) (places_in link) is_link_config sound.runs in
    let station = (all.3 0 (omega arith)).2 in
    let bridge = (all.3 1 (omega arith)).2 in
    let arrived : arrived_at port w.arrivals ≡ (link.auto_ends 1).end.delivered = going.arrived port below ∙ sound.recorded 1 (omega arith) in
    let out : outs w port ≡ (link.auto_ends 0).end.delivered = sound.recorded 0 (omega arith) in
    let forwarded : forward w.arrivals port ≡ outs w port ++ (bridge.0 ++ (link.auto_ends 1).frames) =
    sound.counted 1 (omega arith) ∙ (ap (λ (l : List (List ℕ)). l ++ (link.auto_ends 1).frames) (bridge.1 ∙ ap (λ (l : List (List ℕ)). l ++ bridge.0) (sym out)) ∙
    append_assoc (outs w port) bridge.0 (link.auto_ends 1).frames) in
    record {
      runs = honest_run link.memory (ends_in link) (places_in link) sound.runs;
      arrives = (
        station.0 ++ (link.auto_ends 0).frames,
        sound.counted 0 (omega arith) ∙ (ap (λ (l : List (List ℕ)). l ++ (link.auto_ends 0).frames) (station.1 ∙ ap (λ (l : List (List ℕ)). l ++ station.0) (sym arrived)) ∙
            append_assoc (arrived_at port w.arrivals) station.0 (link.auto_ends 0).frames),
      );
      goes_out = (
        bridge.0 ++ (link.auto_ends 1).frames,
        forwarded,
        rest_is (forward w.arrivals port) (outs w port) (bridge.0 ++ (link.auto_ends 1).frames) forwarded,
      );
    }
  where
    rest_is : (all front rest : List (List ℕ)) → all ≡ front ++ rest → length all - length front ≡ length rest
    rest_is all front rest is = let sum : length all ≡ length front + length rest = ap length is ∙ length-append front rest in omega arith
