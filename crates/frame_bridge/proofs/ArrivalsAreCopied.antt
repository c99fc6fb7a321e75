-- A frame that arrives is copied to each port to which it goes.
use Rattle.std.proofs.Common.{◌≡◌, ◌≢◌, ℕ, zero, suc, ◌+◌, ◌<◌, ◌≤◌, Bool, true, false, List, [], ◌∷◌, ◌++◌, length, map, cond, ◌||◌, ◌&&◌, refl, sym, ap, ◌∙◌, subst, arith, append-nil, length-append, eqb-true, eq-eqb}
use Rattle.std.specs.Prelude.{◌==◌, nat_eq, nat_lt, if◌then◌else◌, Some, slice_get, slice_set, filter, min}
use Rattle.std.specs.List.{list_any}
use Rattle.std.proofs.lemmas.Bool.{lt-ltb, le-ltb, ltb-true, ltb-false, ne_eqb, eqb-false}
use Rattle.std.proofs.lemmas.Option.{slice_get_within}
use Rattle.std.proofs.lemmas.List.{length-set, map-append}
use Rattle.std.proofs.lemmas.List.Folds.{list_any-append}
use Rattle.std.proofs.lemmas.List.Elements.{filter-append}
use Rattle.line_format.specs.Rows.{line_of_row, text_of}
use Rattle.link_endpoint.specs.Engine.{delivered}
use Rattle.frame_bridge.specs.declared.ports.Port.{Port}
use Rattle.frame_bridge.specs.declared.run.Run.{Run}
use Rattle.frame_bridge.specs.Forwarding.{Arrival, first_ports, is_forwarded, ports_for, forward}
use Rattle.frame_bridge.specs.BridgeView.{RefinesArrivals, arrival}
use Rattle.frame_bridge.specs.Links.{Link, with_copies}
use Rattle.frame_bridge.specs.Run.{World}
use Rattle.frame_bridge.specs.Output.{pieces_of, arrive_row}
use Rattle.frame_bridge.specs.Refinement.{PortRefines, RunRefines, most_counted, with_copy, with_arrival}
use Rattle.frame_bridge.proofs.Worlds.{forward_append}
use Rattle.frame_bridge.proofs.PortTurns.{text_more, count_more}
use Rattle.frame_bridge.proofs.RunAfterTurn.{get_here, get_other, no_copies}

abbrev pub is_among : List ℕ → ℕ → Bool
is_among to k = list_any (λ y. nat_eq y k) to

abbrev pub copied_if : Bool → List ℕ → Port → Port
copied_if copied frame port = if copied then with_copy frame port else port

-- The ports, of which the first `count` have their copy.
pub record Copied (old new : List Port) (to frame : List ℕ) (count : ℕ) : Type 0 where
  pub long : length new ≡ length old
  pub each : (k : ℕ) (port : Port) → slice_get old k ≡ Some port → slice_get new k ≡ Some (copied_if (nat_lt k count && is_among to k) frame port)

pub none_copied : (old : List Port) (to frame : List ℕ) → Copied old old to frame 0
none_copied old to frame = record { long = refl; each = λ k port is. is ∙ ap (λ (b : Bool). Some (copied_if (b && is_among to k) frame port)) (sym (le-ltb k 0 (omega arith))) }

below_more : (k count : ℕ) → k ≢ count → nat_lt k (count + 1) ≡ nat_lt k count
below_more k count apart = by_order (nat_lt k count) refl
  where
    by_order : (b : Bool) → nat_lt k count ≡ b → nat_lt k (count + 1) ≡ b
    by_order true is = let lt : k < count = ltb-true k count is in lt-ltb k (count + 1) (omega arith)
    by_order false is = let ge : count ≤ k = ltb-false k count is in le-ltb k (count + 1) (omega arith)

pub same_some : {A : Type 0} (x y : A) → Some x ≡ Some y → x ≡ y
same_some x y is = cc

copied_at : (old now : List Port) (to frame : List ℕ) (count : ℕ) (port : Port) → Copied old now to frame count → slice_get now count ≡ Some port → count < length now →
    is_among to count ≡ true → (k : ℕ) (p : Port) (b : Bool) → (k == count) ≡ b → slice_get old k ≡ Some p →
    slice_get (slice_set now count (with_copy frame port)) k ≡ Some (copied_if (nat_lt k (count + 1) && is_among to k) frame p)
copied_at old now to frame count port copied here below among k p true same is =
    let k_is : k ≡ count = eqb-true k count same in
    let was : slice_get now count ≡ Some (copied_if (nat_lt count count && is_among to count) frame p) =
    subst (λ (n : ℕ). slice_get now n ≡ Some (copied_if (nat_lt n count && is_among to n) frame p)) k_is (copied.each k p is) in
    let not_yet : nat_lt count count ≡ false = le-ltb count count (omega arith) in
    let port_is : port ≡ p = same_some port p (sym here ∙ (was ∙ ap (λ (b : Bool). Some (copied_if (b && is_among to count) frame p)) not_yet)) in
    let now_so : nat_lt k (count + 1) ≡ true = lt-ltb k (count + 1) (omega arith) in
    let among_k : is_among to k ≡ true = ap (is_among to) k_is ∙ among in
    ap (λ (n : ℕ). slice_get (slice_set now count (with_copy frame port)) n) k_is ∙ (get_here now count (with_copy frame port) below ∙
    (ap (λ (x : Port). Some (with_copy frame x)) port_is ∙
    sym (ap (λ (b : Bool). Some (copied_if (b && is_among to k) frame p)) now_so ∙ ap (λ (b : Bool). Some (copied_if b frame p)) among_k)))
copied_at old now to frame count port copied here below among k p false apart is =
    get_other now count k (with_copy frame port) (eqb-false k count apart) ∙ (copied.each k p is ∙
    ap (λ (b : Bool). Some (copied_if (b && is_among to k) frame p)) (sym (below_more k count (eqb-false k count apart))))

-- The next port has its copy.
pub copied_more : (old now : List Port) (to frame : List ℕ) (count : ℕ) (port : Port) → Copied old now to frame count → slice_get now count ≡ Some port → count < length now →
    is_among to count ≡ true → Copied old (slice_set now count (with_copy frame port)) to frame (count + 1)
copied_more old now to frame count port copied here below among = record {
  long = length-set now count (with_copy frame port) ∙ copied.long;
  each = λ k p is. copied_at old now to frame count port copied here below among k p (k == count) refl is;
}

and_false : (b : Bool) → (b && false) ≡ false
and_false true = refl
and_false false = refl

left_at : (old now : List Port) (to frame : List ℕ) (count : ℕ) → Copied old now to frame count → is_among to count ≡ false → (k : ℕ) (p : Port) (b : Bool) → (k == count) ≡ b →
    slice_get old k ≡ Some p → slice_get now k ≡ Some (copied_if (nat_lt k (count + 1) && is_among to k) frame p)
left_at old now to frame count copied among k p true same is =
    let among_k : is_among to k ≡ false = ap (is_among to) (eqb-true k count same) ∙ among in
    copied.each k p is ∙ (ap (λ (b : Bool). Some (copied_if (nat_lt k count && b) frame p)) among_k ∙ (ap (λ (b : Bool). Some (copied_if b frame p)) (and_false (nat_lt k count)) ∙
    sym (ap (λ (b : Bool). Some (copied_if (nat_lt k (count + 1) && b) frame p)) among_k ∙ ap (λ (b : Bool). Some (copied_if b frame p)) (and_false (nat_lt k (count + 1))))))
left_at old now to frame count copied among k p false apart is =
    copied.each k p is ∙ ap (λ (b : Bool). Some (copied_if (b && is_among to k) frame p)) (sym (below_more k count (eqb-false k count apart)))

-- The next port needs none.
pub copied_less : (old now : List Port) (to frame : List ℕ) (count : ℕ) → Copied old now to frame count → is_among to count ≡ false → Copied old now to frame (count + 1)
copied_less old now to frame count copied among = record {
  long = copied.long;
  each = λ k p is. left_at old now to frame count copied among k p (k == count) refl is;
}

-- A copy doesn't change the end.
pub copied_end : (b : Bool) (frame : List ℕ) (port : Port) → (copied_if b frame port).own.end ≡ port.own.end
copied_end true frame port = refl
copied_end false frame port = refl

-- The ports of the list

filter_snoc : (p : ℕ → Bool) (n k : ℕ) → is_among (filter p (first_ports (suc n))) k ≡ (is_among (filter p (first_ports n)) k || is_among (cond (p n) (n ∷ []) []) k)
filter_snoc p n k =
    ap (λ (l : List ℕ). is_among l k) (filter-append p (first_ports n) (n ∷ [])) ∙ list_any-append (λ y. nat_eq y k) (filter p (first_ports n)) (cond (p n) (n ∷ []) [])

one_apart : (b : Bool) (n k : ℕ) → n ≢ k → is_among (cond b (n ∷ []) []) k ≡ false
one_apart true n k apart = ap (λ (t : Bool). t || false) (ne_eqb n k apart)
one_apart false n k apart = refl

one_here : (b : Bool) (n k : ℕ) → n ≡ k → is_among (cond b (n ∷ []) []) k ≡ b
one_here true n k same = ap (λ (t : Bool). t || false) (eq-eqb n k same)
one_here false n k same = refl

or_false : (a b : Bool) → a ≡ false → (a || b) ≡ b
or_false true b none = absurd (cc)
or_false false b none = refl

or_none : (a b : Bool) → b ≡ false → (a || b) ≡ a
or_none true b none = refl
or_none false b none = none

none_above : (p : ℕ → Bool) (count k : ℕ) → count ≤ k → is_among (filter p (first_ports count)) k ≡ false
none_above p zero k above = refl
none_above p (suc n) k above =
    filter_snoc p n k ∙ (or_false (is_among (filter p (first_ports n)) k) (is_among (cond (p n) (n ∷ []) []) k) (none_above p n k (omega arith)) ∙
    one_apart (p n) n k (λ e. omega arith))

among_at : (p : ℕ → Bool) (n k : ℕ) (b : Bool) → (k == n) ≡ b → k < suc n → (k < n → is_among (filter p (first_ports n)) k ≡ p k) →
    is_among (filter p (first_ports (suc n))) k ≡ p k
among_at p n k true same below earlier =
    let k_is : k ≡ n = eqb-true k n same in
    filter_snoc p n k ∙ (or_false (is_among (filter p (first_ports n)) k) (is_among (cond (p n) (n ∷ []) []) k) (none_above p n k (omega arith)) ∙
    (one_here (p n) n k (sym k_is) ∙ ap p (sym k_is)))
among_at p n k false apart below earlier =
    let ne : k ≢ n = eqb-false k n apart in
    filter_snoc p n k ∙ (or_none (is_among (filter p (first_ports n)) k) (is_among (cond (p n) (n ∷ []) []) k) (one_apart (p n) n k (λ e. ne (sym e))) ∙
    earlier (omega arith))

-- A port is in the list exactly if it passes.
pub among_ports : (p : ℕ → Bool) (count k : ℕ) → k < count → is_among (filter p (first_ports count)) k ≡ p k
among_ports p zero k below = absurd (omega arith)
among_ports p (suc n) k below = among_at p n k (k == n) refl below (λ lt. among_ports p n k lt)

-- All copies

copy_stands : (link : Link) (forwarded : List (List ℕ)) (frame : List ℕ) (port : Port) → PortRefines link forwarded port →
    PortRefines (with_copies (frame ∷ []) link) (forwarded ++ frame ∷ []) (with_copy frame port)
copy_stands link forwarded frame port refines = record {
  region = refines.region;
  station = refines.station;
  own = record {
    end = refines.own.end;
    plan = record {
      frames = ap (λ (l : List (List ℕ)). l ++ frame ∷ []) refines.own.plan.frames;
      expected_is = refines.own.plan.expected_is;
      delivered = refines.own.plan.delivered;
      round = refines.own.plan.round;
    };
  };
  outs = refines.outs;
  delivered = refines.delivered;
  forwarded_is =
      let one : length (forwarded ++ frame ∷ []) ≡ length forwarded + 1 = length-append forwarded (frame ∷ []) in
      count_more (length forwarded) port.forwarded (min (port.forwarded + 1) most_counted) refines.forwarded_is refl ∙ ap (λ (n : ℕ). min n most_counted) (sym one);
}

copied_stands_if : (link : Link) (forwarded : List (List ℕ)) (frame : List ℕ) (port : Port) (b : Bool) → PortRefines link forwarded port →
    PortRefines (with_copies ((if b then frame ∷ [] else []) ++ []) link) (forwarded ++ ((if b then frame ∷ [] else []) ++ [])) (copied_if b frame port)
copied_stands_if link forwarded frame port true refines = copy_stands link forwarded frame port refines
copied_stands_if link forwarded frame port false refines =
    subst (λ (l : List (List ℕ)). PortRefines (with_copies [] link) l port) (sym (append-nil forwarded)) (no_copies link forwarded port refines)

get_some : {A : Type 0} (xs : List A) (k : ℕ) → k < length xs → (x : A) × (slice_get xs k ≡ Some x)
get_some [] k below = absurd (omega arith)
get_some (x ∷ xs) zero below = (x, refl)
get_some (x ∷ xs) (suc k) below = get_some xs k (omega arith)

-- The run after the arrival of a frame.
pub record Arrived (ports : ℕ) (w : World) (old new : Run) (from : ℕ) (frame to : List ℕ) : Type 0 where
  pub refines : RunRefines ports w old
  pub bridge : RefinesArrivals new.bridge (w.arrivals ++ arrival from frame ∷ [])
  pub same : new.bridge.ports ≡ old.bridge.ports
  pub goes : to ≡ ports_for old.bridge.ports w.arrivals (arrival from frame)
  pub text : new.text.items ≡ old.text.items ++ line_of_row pieces_of (arrive_row (arrival from frame))
  pub copied : Copied old.ports.items new.ports.items to frame (length old.ports.items)

each_arrived : (ports : ℕ) (w : World) (old new : Run) (from : ℕ) (frame to : List ℕ) → Arrived ports w old new from frame to → (k : ℕ) (port : Port) →
    slice_get new.ports.items k ≡ Some port → PortRefines ((with_arrival w from frame).links k) (forward (with_arrival w from frame).arrivals k) port
each_arrived ports w old new from frame to arrived k port here =
    let last : Arrival = arrival from frame in
    let arrivals : List Arrival = w.arrivals ++ last ∷ [] in
    let inside : k < length new.ports.items = slice_get_within new.ports.items k port here in
    let long : length new.ports.items ≡ length old.ports.items = arrived.copied.long in
    let within : k < length old.ports.items = omega arith in
    let was = get_some old.ports.items k within in
    let below : k < ports = omega (arith, within, arrived.refines.long) in
    let among : is_among to k ≡ is_forwarded arrivals last k =
    ap (λ (l : List ℕ). is_among l k) (arrived.goes ∙ ap (λ (n : ℕ). ports_for n w.arrivals last) arrived.refines.count) ∙ among_ports (is_forwarded arrivals last) ports k below in
    let yes : nat_lt k (length old.ports.items) ≡ true = lt-ltb k (length old.ports.items) within in
    let port_is : port ≡ copied_if (is_forwarded arrivals last k) frame was.0 =
    same_some port (copied_if (is_forwarded arrivals last k) frame was.0) (sym here ∙ (arrived.copied.each k was.0 was.1 ∙
    (ap (λ (b : Bool). Some (copied_if (b && is_among to k) frame was.0)) yes ∙ ap (λ (b : Bool). Some (copied_if b frame was.0)) among))) in
    let refines = copied_stands_if (w.links k) (forward w.arrivals k) frame was.0 (is_forwarded arrivals last k) (arrived.refines.each k was.0 was.1) in
    subst (λ (p : Port). PortRefines ((with_arrival w from frame).links k) (forward arrivals k) p) (sym port_is)
    (subst (λ (l : List (List ℕ)). PortRefines ((with_arrival w from frame).links k) l (copied_if (is_forwarded arrivals last k) frame was.0))
    (sym (forward_append w.arrivals (last ∷ []) k)) refines)

pub arrived_run : (ports : ℕ) (w : World) (old new : Run) (from : ℕ) (frame to : List ℕ) → Arrived ports w old new from frame to → RunRefines ports (with_arrival w from frame) new
arrived_run ports w old new from frame to arrived = record {
  bridge = arrived.bridge;
  count = arrived.same ∙ arrived.refines.count;
  long = arrived.copied.long ∙ arrived.refines.long;
  each = each_arrived ports w old new from frame to arrived;
  text = arrived.text ∙ (ap (λ (t : List ℕ). t ++ line_of_row pieces_of (arrive_row (arrival from frame))) arrived.refines.text ∙
      (sym (text_more (map arrive_row w.arrivals) (arrive_row (arrival from frame))) ∙ ap (text_of pieces_of) (sym (map-append arrive_row w.arrivals (arrival from frame ∷ [])))));
}

-- A copy of the frame that the sender delivered is appended at the next port.
pub copy_step : (old now : List Port) (to : List ℕ) (from count : ℕ) (sender source port new : Port) (copy : List ℕ) → slice_get old from ≡ Some sender →
    slice_get now from ≡ Some source → copy ≡ delivered source.own.end → Copied old now to (delivered sender.own.end) count → slice_get now count ≡ Some port →
    count < length now → is_among to count ≡ true → new ≡ with_copy copy port → Copied old (slice_set now count new) to (delivered sender.own.end) (count + 1)
copy_step old now to from count sender source port new copy was is copy_is copied here below among new_is =
    let frame : List ℕ = delivered sender.own.end in
    let same : source ≡ copied_if (nat_lt from count && is_among to from) frame sender = same_some source (copied_if (nat_lt from count && is_among to from) frame sender) (sym is ∙ copied.each from sender was) in
    let frame_is : copy ≡ frame = copy_is ∙ (ap (λ (p : Port). delivered p.own.end) same ∙ ap delivered (copied_end (nat_lt from count && is_among to from) frame sender)) in
    subst (λ (x : Port). Copied old (slice_set now count x) to frame (count + 1)) (ap (λ (f : List ℕ). with_copy f port) (sym frame_is) ∙ sym new_is)
    (copied_more old now to frame count port copied here below among)
