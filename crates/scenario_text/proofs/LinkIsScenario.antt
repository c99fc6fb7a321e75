-- Two honest peers of which one offers frames make a scenario.
use Rattle.std.proofs.Common.{◌≡◌, ℕ, zero, suc, ◌+◌, ◌-◌, ◌*◌, ◌<◌, ◌≤◌, Bool, true, false, ◌||◌, List, [], ◌∷◌, ◌++◌, length, Some, refl, sym, ap, subst, ◌∙◌, arith, append_assoc}
use Rattle.std.specs.Prelude.{slice_get, All}
use Rattle.std.specs.List.{range_with_len, flat_map}
use Rattle.std.proofs.Math.Nat.{mul-suc}
use Rattle.std.proofs.lemmas.Bool.{le-leb, lt-ltb}
use Rattle.std.proofs.lemmas.List.{append-nil, map-append}
use Rattle.std.proofs.lemmas.List.Elements.{All-append, All-map, All-head, All-tail, All-nil, All-cons, All-weaker}
use Rattle.std.proofs.lemmas.List.Sums.{sum_by-cons, sum_by-append}
use Rattle.line_format.proofs.LinesAreCut.{are_true}
use Rattle.line_format.proofs.TestChains.{same_some}
use Rattle.section_map.specs.declared.limits.TheConstants.{PAGE}
use Rattle.section_map.specs.Faults.{shape_of}
use Rattle.section_map.specs.Geometry.{Shape}
use Rattle.split_ring.specs.declared.sizes.TheConstants.{FRAME_OVERHEAD, SHORTEST_FRAME}
use Rattle.split_ring.specs.Layout.{Sizes}
use Rattle.pci_space.specs.declared.wiring.Wiring.TheVariants.{Msix}
use Rattle.scenario_text.specs.declared.acts.Act.{Act}
use Rattle.scenario_text.specs.declared.acts.Act.TheVariants.{Auto, Offer, Turn}
use Rattle.scenario_text.specs.declared.limits.TheConstants.{MOST_ACTS}
use Rattle.scenario_text.specs.Acts.{cost, turns_of, has_auto, has_call}
use Rattle.scenario_text.specs.Scenario.{World, IsAllowed, AreAllowed, IsWorld, is_link}
use Rattle.scenario_text.specs.Loads.{IsFrame, offers_of, rounds, offering_acts, link_world}
use Rattle.scenario_text.specs.Sizes.{is_geometry, is_queue}
use Rattle.scenario_text.proofs.SizeTests.{HasRegion, has_region, has_queue, small_section, is_geometry-true}
use Rattle.scenario_text.proofs.ReadIsSpelled.{whole_pages, shape_is}
use Rattle.scenario_text.proofs.SpelledIsRead.{region_of}

-- ---- each act is allowed

-- The act is allowed after any acts.
abbrev IsFree : World → Act → Type 0
IsFree w act = (before : List Act) → IsAllowed w before act

link_peer : (out mtu peer : ℕ) (acts : List Act) → peer < 2 → is_link (link_world out mtu acts) peer ≡ true
link_peer out mtu zero acts below = refl
link_peer out mtu (suc zero) acts below = refl
link_peer out mtu (suc (suc peer)) acts below = absurd (omega arith)

offer_free : (out mtu peer : ℕ) (acts : List Act) (frame : List ℕ) → peer < 2 → IsFrame mtu frame → IsFree (link_world out mtu acts) (Offer peer frame)
offer_free out mtu peer acts frame below is before = record {
  values = (omega arith, omega arith, tt);
  bytes = is.bytes;
  order = refl;
  range = refl;
  peer = link_peer out mtu peer acts below;
  frame = are_true _ _ (le-leb SHORTEST_FRAME (length frame) is.least) (le-leb (length frame) (mtu + FRAME_OVERHEAD) is.most);
}

turn_free : (out mtu peer steps : ℕ) (acts : List Act) → peer < 2 → steps ≤ MOST_ACTS → IsFree (link_world out mtu acts) (Turn peer steps)
turn_free out mtu peer steps acts below few before = record { values = (omega arith, omega arith, (omega arith, omega arith, tt)); bytes = refl; order = refl; range = refl; peer = lt-ltb peer 2 below; frame = refl }

first_auto : (out mtu peer : ℕ) (acts : List Act) → peer < 2 → IsAllowed (link_world out mtu acts) [] (Auto peer 0)
unfolding has_auto has_call
first_auto out mtu peer acts below = record { values = (omega arith, omega arith, (omega arith, omega arith, tt)); bytes = refl; order = refl; range = refl; peer = link_peer out mtu peer acts below; frame = refl }

other_peer : (peer : ℕ) → peer < 2 → (has_auto (Auto peer 0 ∷ []) (1 - peer) || has_call (Auto peer 0 ∷ []) (1 - peer)) ≡ false
unfolding has_auto has_call
other_peer zero below = refl
other_peer (suc zero) below = refl
other_peer (suc (suc peer)) below = absurd (omega arith)

second_auto : (out mtu peer count : ℕ) (acts : List Act) → peer < 2 → count ≤ MOST_ACTS → IsAllowed (link_world out mtu acts) (Auto peer 0 ∷ []) (Auto (1 - peer) count)
second_auto out mtu peer count acts below few = record { values = (omega arith, omega arith, (omega arith, omega arith, tt)); bytes = refl; order = other_peer peer below; range = refl; peer = link_peer out mtu (1 - peer) acts (omega arith); frame = refl }

rounds_free : (out mtu steps : ℕ) (acts : List Act) (ns : List ℕ) → steps ≤ MOST_ACTS → All (IsFree (link_world out mtu acts)) (flat_map (λ _. Turn 0 steps ∷ Turn 1 steps ∷ []) ns)
rounds_free out mtu steps acts [] few = All-nil (IsFree (link_world out mtu acts))
rounds_free out mtu steps acts (n ∷ ns) few =
    let P = IsFree (link_world out mtu acts) in
    let later = flat_map (λ _. Turn 0 steps ∷ Turn 1 steps ∷ []) ns in
    All-cons P (Turn 0 steps) (Turn 1 steps ∷ later) (turn_free out mtu 0 steps acts (omega arith) few)
    (All-cons P (Turn 1 steps) later (turn_free out mtu 1 steps acts (omega arith) few) (rounds_free out mtu steps acts ns few))

each_free : (out mtu peer steps count : ℕ) (acts : List Act) (frames : List (List ℕ)) → peer < 2 → steps ≤ MOST_ACTS → All (IsFrame mtu) frames → All (IsFree (link_world out mtu acts)) (offers_of peer frames ++ rounds steps count)
unfolding rounds
each_free out mtu peer steps count acts frames below few are =
    let P = IsFree (link_world out mtu acts) in
    All-append P _ _ (All-map P (λ frame. Offer peer frame) frames (All-weaker (IsFrame mtu) (λ frame. P (Offer peer frame)) (λ frame is. offer_free out mtu peer acts frame below is) frames are))
    (rounds_free out mtu steps acts (range_with_len 0 count) few)

one_of : (P : Act → Type 0) (xs : List Act) (k : ℕ) (act : Act) → All P xs → slice_get xs k ≡ Some act → P act
one_of P [] k act all at = absurd cc
one_of P (x ∷ xs) zero act all at = subst P (same_some x act at) (All-head P x xs all)
one_of P (x ∷ xs) (suc k) act all at = one_of P xs k act (All-tail P x xs all) at

all_allowed : (out mtu peer count : ℕ) (rest : List Act) → peer < 2 → count ≤ MOST_ACTS → All (IsFree (link_world out mtu (Auto peer 0 ∷ Auto (1 - peer) count ∷ rest))) rest → AreAllowed (link_world out mtu (Auto peer 0 ∷ Auto (1 - peer) count ∷ rest))
all_allowed out mtu peer count rest below few free zero act at = subst (IsAllowed _ []) (same_some (Auto peer 0) act at) (first_auto out mtu peer _ below)
all_allowed out mtu peer count rest below few free (suc zero) act at = subst (IsAllowed _ (Auto peer 0 ∷ [])) (same_some (Auto (1 - peer) count) act at) (second_auto out mtu peer count _ below few)
all_allowed out mtu peer count rest below few free (suc (suc k)) act at = one_of (IsFree _) rest k act free at _

-- ---- the number that the acts count for

offers_cost : (peer : ℕ) (frames : List (List ℕ)) → turns_of (offers_of peer frames) ≡ length frames
offers_cost peer [] = refl
offers_cost peer (frame ∷ frames) =
    let rest = offers_cost peer frames in
    let one = sum_by-cons cost (Offer peer frame) (offers_of peer frames) in
    omega arith

rounds_cost : (steps a n : ℕ) → turns_of (flat_map (λ _. Turn 0 steps ∷ Turn 1 steps ∷ []) (range_with_len a n)) ≡ 2 * (steps * n)
rounds_cost steps a zero = omega arith
rounds_cost steps a (suc n) =
    let later = flat_map (λ _. Turn 0 steps ∷ Turn 1 steps ∷ []) (range_with_len (a + 1) n) in
    let rest = rounds_cost steps (a + 1) n in
    let one = sum_by-cons cost (Turn 0 steps) (Turn 1 steps ∷ later) in
    let two = sum_by-cons cost (Turn 1 steps) later in
    let more = mul-suc steps n in
    omega arith

pub offering_turns : (peer steps count : ℕ) (frames : List (List ℕ)) → turns_of (offering_acts peer frames steps count) ≡ 2 + length frames + 2 * (steps * count)
unfolding rounds
offering_turns peer steps count frames =
    let all = offers_of peer frames ++ rounds steps count in
    let offers = offers_cost peer frames in
    let turns = rounds_cost steps 0 count in
    let both = sum_by-append cost (offers_of peer frames) (rounds steps count) in
    let first = sum_by-cons cost (Auto peer 0) (Auto (1 - peer) (length frames) ∷ all) in
    let second = sum_by-cons cost (Auto (1 - peer) (length frames)) all in
    omega arith

-- ---- the scenario

pub offering_is_world : (out mtu peer steps count : ℕ) (frames : List (List ℕ)) → is_geometry 2 PAGE 0 out ≡ true → is_queue (record { version = 1; out = out; mtu = mtu }) ≡ true → peer < 2 → steps ≤ MOST_ACTS
    → All (IsFrame mtu) frames → turns_of (offering_acts peer frames steps count) ≤ MOST_ACTS → IsWorld (link_world out mtu (offering_acts peer frames steps count))
offering_is_world out mtu peer steps count frames sizes queue below short are few =
    let region = has_region 2 PAGE 0 out sizes in
    let turns = offering_turns peer steps count frames in
    record {
      version = refl;
      geometry = shape_is 2 PAGE 0 out region;
      few = omega arith;
      queue = has_queue _ (omega arith, omega arith) (small_section 2 PAGE 0 out region) queue;
      out = sym (whole_pages out region.out_pages.1);
      wiring = (omega arith, omega arith);
      flags = refl;
      allowed = all_allowed out mtu peer (length frames) _ below (omega arith) (each_free out mtu peer steps count _ frames below short are);
      turns = few;
    }

-- The sizes of such a scenario have a region.
pub link_region : (out mtu : ℕ) (acts : List Act) → IsWorld (link_world out mtu acts) → is_geometry 2 PAGE 0 out ≡ true
link_region out mtu acts is = is_geometry-true 2 PAGE 0 out (subst (λ (size : ℕ). HasRegion 2 PAGE 0 size) (sym is.out) (region_of _ is.geometry))

-- The scenario from its parts.
pub link_made : (geometry : Shape) (queue : Sizes) (honest : List Bool) (out mtu : ℕ) (acts : List Act) → geometry ≡ shape_of 2 PAGE 0 out → queue ≡ record { version = 1; out = out; mtu = mtu } → honest ≡ true ∷ true ∷ [] →
    ◌≡◌ {A = World} (record { version = 1; geometry = geometry; queue = queue; wiring = Msix 2; honest = honest; acts = acts }) (link_world out mtu acts)
link_made geometry queue honest out mtu acts a b c = cc

-- ---- one more

pub offers_more : (peer : ℕ) (acts front now : List Act) (frames : List (List ℕ)) (frame : List ℕ) → acts ≡ front ++ offers_of peer frames → now ≡ acts ++ Offer peer frame ∷ [] → now ≡ front ++ offers_of peer (frames ++ frame ∷ [])
offers_more peer acts front now frames frame before pushed =
    pushed ∙ ap (λ (t : List Act). t ++ Offer peer frame ∷ []) before
    ∙ append_assoc front (offers_of peer frames) (Offer peer frame ∷ [])
    ∙ ap (λ (t : List Act). front ++ t) (sym (map-append (λ f. Offer peer f) frames (frame ∷ [])))

rounds_last : (steps a n : ℕ) → flat_map (λ _. Turn 0 steps ∷ Turn 1 steps ∷ []) (range_with_len a (suc n)) ≡ flat_map (λ _. Turn 0 steps ∷ Turn 1 steps ∷ []) (range_with_len a n) ++ Turn 0 steps ∷ Turn 1 steps ∷ []
rounds_last steps a zero = refl
rounds_last steps a (suc n) = ap (λ (t : List Act). Turn 0 steps ∷ Turn 1 steps ∷ t) (rounds_last steps (a + 1) n)

pub rounds_more : (steps : ℕ) (acts mid front now : List Act) (count : ℕ) → acts ≡ front ++ rounds steps count → mid ≡ acts ++ Turn 0 steps ∷ [] → now ≡ mid ++ Turn 1 steps ∷ [] → now ≡ front ++ rounds steps (count + 1)
unfolding rounds
rounds_more steps acts mid front now count before first second =
    let e : count + 1 ≡ suc count = omega arith in
    second ∙ ap (λ (t : List Act). t ++ Turn 1 steps ∷ []) first ∙ append_assoc acts (Turn 0 steps ∷ []) (Turn 1 steps ∷ [])
    ∙ ap (λ (t : List Act). t ++ Turn 0 steps ∷ Turn 1 steps ∷ []) before
    ∙ append_assoc front (rounds steps count) (Turn 0 steps ∷ Turn 1 steps ∷ [])
    ∙ ap (λ (t : List Act). front ++ t) (sym (ap (rounds steps) e ∙ rounds_last steps 0 count))

pub no_rounds : (steps : ℕ) (front : List Act) → front ≡ front ++ rounds steps 0
unfolding rounds
no_rounds steps front = sym (append-nil front)
