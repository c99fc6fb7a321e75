-- The code's run after a turn.
use Rattle.std.proofs.Common.{◌≡◌, ◌≢◌, ℕ, zero, suc, ◌<◌, ◌≤◌, Bool, true, false, List, [], ◌∷◌, ◌++◌, length, get_or, map, refl, sym, ap, ◌∙◌, subst, arith, append-nil, eqb-true}
use Rattle.std.specs.Prelude.{◌==◌, if◌then◌else◌, Some, slice_get, slice_set, All}
use Rattle.std.proofs.lemmas.Bool.{eqb-false}
use Rattle.std.proofs.lemmas.List.{length-set}
use Rattle.split_ring.specs.declared.sizes.TheConstants.{SHORTEST_FRAME}
use Rattle.link_invariant.specs.LinkConfig.{IsOffered}
use Rattle.line_format.specs.Rows.{text_of}
use Rattle.frame_bridge.specs.declared.scripts.Sent.{Sent}
use Rattle.frame_bridge.specs.declared.ports.Port.{Port}
use Rattle.frame_bridge.specs.declared.run.Run.{Run}
use Rattle.frame_bridge.specs.Forwarding.{Arrival, forward, forwarded_after}
use Rattle.frame_bridge.specs.BridgeView.{RefinesArrivals, arrival}
use Rattle.frame_bridge.specs.Links.{link_config, Link, turned, observed_by, with_copies}
use Rattle.frame_bridge.specs.Run.{World, Turn, turn, frames_of, arriving, world_after}
use Rattle.frame_bridge.specs.Output.{pieces_of, arrive_row}
use Rattle.frame_bridge.specs.Keeps.{given_to}
use Rattle.frame_bridge.specs.Refinement.{PortRefines, RunRefines, IsThere, with_turned, with_arrival, delivered_if}
use Rattle.frame_bridge.proofs.LinkInvariant.{to_come}
use Rattle.frame_bridge.proofs.Worlds.{going_after, recorded_offered}

-- Items by their positions

pub get_here : {A : Type 0} (xs : List A) (i : ℕ) (x : A) → i < length xs → slice_get (slice_set xs i x) i ≡ Some x
get_here [] i x below = absurd (omega arith)
get_here (y ∷ ys) zero x below = refl
get_here (y ∷ ys) (suc i) x below = get_here ys i x (omega arith)

pub get_other : {A : Type 0} (xs : List A) (i k : ℕ) (x : A) → k ≢ i → slice_get (slice_set xs i x) k ≡ slice_get xs k
get_other [] i k x apart = refl
get_other (y ∷ ys) zero zero x apart = absurd (apart refl)
get_other (y ∷ ys) zero (suc k) x apart = refl
get_other (y ∷ ys) (suc i) zero x apart = refl
get_other (y ∷ ys) (suc i) (suc k) x apart = get_other ys i k x (λ e. apart (ap (λ (n : ℕ). suc n) e))

pub get_at : {A : Type 0} (xs : List A) (i : ℕ) (x : A) → i < length xs → x ≡ get_or xs i x → slice_get xs i ≡ Some x
get_at [] i x below is = absurd (omega arith)
get_at {A} (y ∷ ys) zero x below is = ap (λ (z : A). Some z) (sym is)
get_at (y ∷ ys) (suc i) x below is = get_at ys i x (omega arith) is

-- Frames that aren't copied

pub no_copies : (link : Link) (forwarded : List (List ℕ)) (port : Port) → PortRefines link forwarded port → PortRefines (with_copies [] link) forwarded port
no_copies link forwarded port refines = record {
  region = refines.region;
  station = refines.station;
  own = record {
    end = refines.own.end;
    plan = record {
      frames = refines.own.plan.frames ∙ sym (append-nil (link.auto_ends 1).frames);
      expected_is = refines.own.plan.expected_is;
      delivered = refines.own.plan.delivered;
      round = refines.own.plan.round;
    };
  };
  outs = refines.outs;
  delivered = refines.delivered;
  forwarded_is = refines.forwarded_is;
}

-- A turn

pub port_in : (sent : List Sent) (ports : ℕ) (w : World) (run : Run) (k : ℕ) (port : Port) → IsThere sent ports w run → slice_get run.ports.items k ≡ Some port →
    PortRefines (w.links k) (forward w.arrivals k) port
port_in sent ports w run k port there is = there.refines.each k port is

pub offered_in : (sent : List Sent) (ports : ℕ) (w : World) (run : Run) (k p : ℕ) → IsThere sent ports w run → k < ports → p < 2 → All (IsOffered link_config) ((w.links k).auto_ends p).frames
offered_in sent ports w run k p there below end = to_come (given_to (frames_of k sent) (forward w.arrivals k)) (w.links k) p (there.going.links k below) end

each_turned : (ports : ℕ) (w : World) (run : Run) (at end : ℕ) (new : Port) → RunRefines ports w run → at < ports →
    PortRefines (turned end (w.links at)) (forward w.arrivals at) new → (k : ℕ) (port : Port) (b : Bool) → (k == at) ≡ b → slice_get (slice_set run.ports.items at new) k ≡ Some port →
    PortRefines (if b then turned end (w.links k) else w.links k) (forward w.arrivals k) port
each_turned ports w run at end new refines below is k port true same here =
    let k_is : at ≡ k = sym (eqb-true k at same) in
    let found : Some new ≡ Some port = sym (get_here run.ports.items at new (omega (arith, refines.long))) ∙ (ap (λ (n : ℕ). slice_get (slice_set run.ports.items at new) n) k_is ∙ here) in
    let port_is : new ≡ port = cc in
    subst (λ (p : Port). PortRefines (turned end (w.links k)) (forward w.arrivals k) p) port_is
    (subst (λ (n : ℕ). PortRefines (turned end (w.links n)) (forward w.arrivals n) new) k_is is)
each_turned ports w run at end new refines below is k port false apart here =
    refines.each k port (sym (get_other run.ports.items at k new (eqb-false k at apart)) ∙ here)

-- One port takes a step, and the others don't change.
pub turned_stands : (ports : ℕ) (w : World) (old new : Run) (at end : ℕ) (port : Port) → RunRefines ports w old → at < ports →
    PortRefines (turned end (w.links at)) (forward w.arrivals at) port → new.bridge ≡ old.bridge → new.text ≡ old.text → new.ports.items ≡ slice_set old.ports.items at port →
    RunRefines ports (with_turned w (turn at end)) new
turned_stands ports w old new at end port refines below is bridge text items = record {
  bridge = subst (λ b. RefinesArrivals b w.arrivals) (sym bridge) refines.bridge;
  count = ap (λ b. b.ports) bridge ∙ refines.count;
  long = ap length items ∙ (length-set old.ports.items at port ∙ refines.long);
  each = λ k p here. each_turned ports w old at end port refines below is k p (k == at) refl (ap (λ (l : List Port). slice_get l k) (sym items) ∙ here);
  text = ap (λ t. t.items) text ∙ refines.text;
}

-- Without an arrival, that is the world after the turn.
pub quiet_stands : (ports : ℕ) (w : World) (t : Turn) (run : Run) → RunRefines ports (with_turned w t) run → arriving w t ≡ [] → RunRefines ports (world_after w t) run
quiet_stands ports w t run refines none =
    let same : w.arrivals ++ arriving w t ≡ w.arrivals = ap (λ (l : List Arrival). w.arrivals ++ l) none ∙ append-nil w.arrivals in
    record {
      bridge = subst (RefinesArrivals run.bridge) (sym same) refines.bridge;
      count = refines.count;
      long = refines.long;
      each = λ k port here.
          let link : Link = if k == t.port then turned t.end (w.links k) else w.links k in
          subst (λ (l : List Arrival). PortRefines (with_copies (forwarded_after w.arrivals (arriving w t) k) link) (forward l k) port) (sym same)
          (subst (λ (l : List Arrival). PortRefines (with_copies (forwarded_after w.arrivals l k) link) (forward w.arrivals k) port) (sym none)
          (no_copies link (forward w.arrivals k) port (refines.each k port here)));
      text = refines.text ∙ ap (λ (l : List Arrival). text_of pieces_of (map arrive_row l)) (sym same);
    }

-- The world after the arrival of one frame.
pub arrived_stands : (ports : ℕ) (w : World) (t : Turn) (frame : List ℕ) (run : Run) → RunRefines ports (with_arrival (with_turned w t) t.port frame) run →
    arriving w t ≡ arrival t.port frame ∷ [] → RunRefines ports (world_after w t) run
arrived_stands ports w t frame run refines is =
    subst (λ (l : List Arrival). RunRefines ports (record {
      links = λ port. with_copies (forwarded_after w.arrivals l port) (if port == t.port then turned t.end (w.links port) else w.links port);
      arrivals = w.arrivals ++ l;
    }) run) (sym is) refines

pub there_after : (sent : List Sent) (ports : ℕ) (w : World) (old new : Run) (at end : ℕ) → IsThere sent ports w old → at < ports → end < 2 →
    RunRefines ports (world_after w (turn at end)) new → IsThere sent ports (world_after w (turn at end)) new
there_after sent ports w old new at end there below is refines = record {
  few = there.few;
  going = going_after sent ports w (turn at end) there.going below is;
  refines = refines;
}

-- The station of a port takes its turn.
pub station_there : (sent : List Sent) (ports : ℕ) (w : World) (old new : Run) (at : ℕ) (port : Port) → IsThere sent ports w old → at < ports →
    PortRefines (turned 0 (w.links at)) (forward w.arrivals at) port → new.bridge ≡ old.bridge → new.text ≡ old.text → new.ports.items ≡ slice_set old.ports.items at port →
    IsThere sent ports (world_after w (turn at 0)) new
station_there sent ports w old new at port there below is bridge text items =
    there_after sent ports w old new at 0 there below (omega arith)
    (quiet_stands ports w (turn at 0) new (turned_stands ports w old new at 0 port there.refines below is bridge text items) refl)

-- The bridge's end takes its turn, with the arrival of no frame or of this one.
pub own_quiet : (sent : List Sent) (ports : ℕ) (w : World) (old new : Run) (at : ℕ) (port : Port) (frame : List ℕ) → IsThere sent ports w old → at < ports →
    PortRefines (turned 1 (w.links at)) (forward w.arrivals at) port → observed_by 1 (w.links at) ≡ delivered_if false frame → new.bridge ≡ old.bridge → new.text ≡ old.text →
    new.ports.items ≡ slice_set old.ports.items at port → IsThere sent ports (world_after w (turn at 1)) new
own_quiet sent ports w old new at port frame there below is recorded bridge text items =
    there_after sent ports w old new at 1 there below (omega arith)
    (quiet_stands ports w (turn at 1) new (turned_stands ports w old new at 1 port there.refines below is bridge text items) (ap (λ (l : List (List ℕ)). map (arrival at) l) recorded))

pub own_recorded : (sent : List Sent) (ports : ℕ) (w : World) (old new : Run) (at : ℕ) (frame : List ℕ) → IsThere sent ports w old → at < ports →
    observed_by 1 (w.links at) ≡ delivered_if true frame → RunRefines ports (with_arrival (with_turned w (turn at 1)) at frame) new → IsThere sent ports (world_after w (turn at 1)) new
own_recorded sent ports w old new at frame there below recorded refines =
    there_after sent ports w old new at 1 there below (omega arith)
    (arrived_stands ports w (turn at 1) frame new refines (ap (λ (l : List (List ℕ)). map (arrival at) l) recorded))

-- A frame that arrives is one that was offered.
pub recorded_long : (sent : List Sent) (ports : ℕ) (w : World) (run : Run) (at : ℕ) (frame : List ℕ) → IsThere sent ports w run → at < ports →
    observed_by 1 (w.links at) ≡ delivered_if true frame → SHORTEST_FRAME ≤ length frame
recorded_long sent ports w run at frame there below recorded =
    let all : All (IsOffered link_config) (observed_by 1 (w.links at)) = recorded_offered (frames_of at sent) (forward w.arrivals at) (w.links at) (there.going.links at below) in
    let one : All (IsOffered link_config) (frame ∷ []) = subst (All (IsOffered link_config)) recorded all in
    (one 0 [] (omega arith)).least
