-- A peer by the acts of a scenario in running form.
use Rattle.std.proofs.Common.{◌≡◌, ℕ, zero, suc, ◌+◌, ◌<◌, ◌≤◌, nat_lt, Bool, true, false, ◌&&◌, ◌||◌, All, List, [], ◌∷◌, ◌++◌, length, take, drop, refl, sym, ap, ◌∙◌, subst, arith, append-nil, append_assoc, ⊎_elim, ◌⊎◌, inl, inr, get_or}
use Rattle.std.specs.Prelude.{Option, Some, None, ◌==◌, ◌^◌, not, if◌then◌else◌, slice_get, slice_index_or, sum}
use Rattle.std.specs.List.{list_any}
use Rattle.std.proofs.lemmas.Bool.{eqb-true}
use Rattle.std.proofs.lemmas.List.{take_more}
use Rattle.std.proofs.lemmas.Option.{slice_get_read}
use Rattle.std.proofs.lemmas.List.Folds.{list_any-append}
use Rattle.std.proofs.lemmas.List.Elements.{All-append, All-from_recursion}
use Rattle.std.proofs.lemmas.List.Sums.{sum_by-append, sum_by-cons}
use Rattle.std.proofs.lemmas.Grind.{flat_map-append}
use Rattle.scenario_text.specs.declared.acts.Act.{Act}
use Rattle.scenario_text.specs.declared.acts.Act.TheVariants as act
use Rattle.scenario_text.specs.Acts.{cost, turns_of, is_auto, is_storm, has_auto, has_storm}
use Rattle.scenario_text.specs.Running.{is_turn_of, is_reset_of, has_turn, has_other, is_reset_last, is_turn_last, breaks, first_break, first_line, not_running}
use Rattle.scenario_text.specs.Scenario.{World, IsAllowed, IsWorld, is_link, is_hostile}
use Rattle.scenario_text.proofs.ActNumbers.{bytes_recursion, frame_least, frame_most, link_below}
use Rattle.section_map.specs.Geometry.{Shape}
use Rattle.split_ring.specs.Layout.{Sizes}
use Rattle.call_grammar.specs.Ends.{fresh}
use Rattle.call_grammar.specs.Calls.{EndConfig}
use Rattle.call_grammar.specs.Places.{Closed}
use Rattle.link_endpoint.specs.Engine.{Engine}
use Rattle.link_endpoint.specs.Engine as endpoint
use Rattle.link_endpoint.specs.Refinement.{RefinesAt}
use Rattle.link_endpoint.specs.Plan.{Plan, fresh_plan}
use Rattle.lawful_history.specs.Sides.{traffic_vector}
use Rattle.lawful_history.specs.Peers.{Storms, Peer, at_start}
use Rattle.shared_words.specs.declared.run_setup.RunSetup.{RunSetup}
use Rattle.shared_words.specs.RunSetups.{config_in, honest_of, IsMadeFor}
use Rattle.shared_words.specs.Interrupts.{one_if}
use Rattle.peer_runner.specs.Turns.{all_turns}
use Rattle.peer_runner.specs.OwnRecord.{after_act, after_acts, span_in, spans_of, start_of}
use Rattle.peer_runner.specs.Runners.{IsFrame}
use Rattle.peer_runner.specs.Drives.{automatic, storming, MayBeAuto, gathered, seeded, Gathers, Seeds}
use Rattle.shared_words.proofs.LinkOfSetup.{clash}

-- Lists of acts

pub recorded_snoc : (p : ℕ) (peer : Peer) (acts : List Act) (a : Act) → after_acts p peer (acts ++ a ∷ []) ≡ after_act p (after_acts p peer acts) a
unfolding after_acts
recorded_snoc p peer [] a = refl
recorded_snoc p peer (b ∷ acts) a = recorded_snoc p (after_act p peer b) acts a

or_false : (b : Bool) → (b || false) ≡ b
or_false true = refl
or_false false = refl

pub auto_append : (p : ℕ) (acts more : List Act) → has_auto (acts ++ more) p ≡ (has_auto acts p || has_auto more p)
unfolding has_auto
auto_append p acts more = list_any-append (is_auto p) acts more

pub storm_append : (p : ℕ) (acts more : List Act) → has_storm (acts ++ more) p ≡ (has_storm acts p || has_storm more p)
unfolding has_storm
storm_append p acts more = list_any-append (is_storm p) acts more

auto_snoc : (p : ℕ) (acts : List Act) (a : Act) → has_auto (acts ++ a ∷ []) p ≡ (has_auto acts p || is_auto p a)
unfolding has_auto
auto_snoc p acts a = list_any-append (is_auto p) acts (a ∷ []) ∙ ap (λ b. list_any (is_auto p) acts || b) (or_false (is_auto p a))

storm_snoc : (p : ℕ) (acts : List Act) (a : Act) → has_storm (acts ++ a ∷ []) p ≡ (has_storm acts p || is_storm p a)
unfolding has_storm
storm_snoc p acts a = list_any-append (is_storm p) acts (a ∷ []) ∙ ap (λ b. list_any (is_storm p) acts || b) (or_false (is_storm p a))

-- Acts that are allowed at their positions.

goes_on : (b : Bool) (line : ℕ) (rest : Option ℕ) → (if b then Some line else rest) ≡ None → (b ≡ false) × (rest ≡ None)
goes_on true line rest none = absurd (cc)
goes_on false line rest none = (refl, none)

breaks_from : (acts before : List Act) (line k : ℕ) (a : Act) → first_break before acts line ≡ None → slice_get acts k ≡ Some a → breaks (before ++ take k acts) a (drop (k + 1) acts) ≡ false
breaks_from [] before line k a none at = absurd (cc)
breaks_from (b ∷ acts) before line zero a none at = let g = goes_on (breaks before b acts) line _ none in let same : b ≡ a = cc in
    ap (λ l. breaks l a acts) (append-nil before) ∙ (ap (λ (c : Act). breaks before c acts) (sym same) ∙ g.0)
breaks_from (b ∷ acts) before line (suc k) a none at = let g = goes_on (breaks before b acts) line _ none in
    let more : suc k + 1 ≡ suc (k + 1) = omega arith in
    ap (λ n. breaks (before ++ take (suc k) (b ∷ acts)) a (drop n (b ∷ acts))) more ∙ (ap (λ l. breaks l a (drop (k + 1) acts)) (sym (append_assoc before (b ∷ []) (take k acts)))
    ∙ breaks_from acts (before ++ b ∷ []) (line + 1) k a g.1 at)

-- A turn's peer has what drives it.
third : (a b c : Bool) → ((a || b) || not c) ≡ false → c ≡ true
third true b c is = absurd (cc)
third false true c is = absurd (cc)
third false false true is = refl
third false false false is = absurd (cc)

not_not : (c : Bool) → not c ≡ false → c ≡ true
not_not true is = refl
not_not false is = absurd (cc)

turn_drives : (before later : List Act) (a : Act) (p : ℕ) → breaks before a later ≡ false → is_turn_of p a ≡ true → (has_auto before p || has_storm before p) ≡ true
turn_drives before later (act.Turn q steps) p goes is = let same : q ≡ p = eqb-true q p is in
    subst (λ k. (has_auto before k || has_storm before k) ≡ true) same (third (has_other later) (is_turn_last before q) (has_auto before q || has_storm before q) goes)
turn_drives before later a p goes is = absurd (cc)

either_turn : (b rest : Bool) → (b || rest) ≡ true → (b ≡ true) ⊎ (rest ≡ true)
either_turn true rest is = inl refl
either_turn false rest is = inr is

widen : (a b c d : Bool) → (a || b) ≡ true → ((a || c) || (b || d)) ≡ true
widen true b c d is = refl
widen false true true d is = refl
widen false true false d is = refl
widen false false c d is = absurd (cc)

drives_from : (acts before : List Act) (line p : ℕ) → first_break before acts line ≡ None → has_turn acts p ≡ true → (has_auto (before ++ acts) p || has_storm (before ++ acts) p) ≡ true
unfolding has_turn
drives_from [] before line p none has = absurd (cc)
drives_from (a ∷ acts) before line p none has = let g = goes_on (breaks before a acts) line _ none in ⊎_elim
    (λ turn. (λ i. (auto_append p before (a ∷ acts) i || storm_append p before (a ∷ acts) i)) ∙ widen (has_auto before p) (has_storm before p) (has_auto (a ∷ acts) p) (has_storm (a ∷ acts) p) (turn_drives before acts a p g.0 turn))
    (λ rest. subst (λ l. (has_auto l p || has_storm l p) ≡ true) (append_assoc before (a ∷ []) acts) (drives_from acts (before ++ a ∷ []) (line + 1) p g.1 rest))
    (either_turn (is_turn_of p a) (has_turn acts p) has)

pub has_driver : (w : World) (p : ℕ) → not_running w ≡ None → has_turn w.acts p ≡ true → (has_auto w.acts p || has_storm w.acts p) ≡ true
has_driver w p running has = drives_from w.acts [] (first_line w) p running has

-- The plan of an automatic peer.

-- An act that says nothing to the peer.
plan_stays : (mtu p : ℕ) (before : List Act) (a : Act) (plan : Plan) → ((x : Peer) → after_act p x a ≡ x) → is_auto p a ≡ false → gathered p plan a ≡ plan → Gathers mtu p before plan → Gathers mtu p (before ++ a ∷ []) (gathered p plan a)
plan_stays mtu p before a plan still none same g =
    let has : has_auto (before ++ a ∷ []) p ≡ has_auto before p = auto_snoc p before a ∙ (ap (λ b. has_auto before p || b) none ∙ or_false (has_auto before p)) in
    let on : after_acts p at_start (before ++ a ∷ []) ≡ after_acts p at_start before = recorded_snoc p at_start before a ∙ still (after_acts p at_start before) in
    subst (Gathers mtu p (before ++ a ∷ [])) (sym same) (record { none = λ e. on ∙ g.none (sym has ∙ e); start = λ e. on ∙ g.start (sym has ∙ e); fresh = g.fresh; frames = g.frames })

or_true : (b : Bool) → (b || true) ≡ true
or_true true = refl
or_true false = refl

no_frames : (mtu : ℕ) → All (IsFrame mtu) []
no_frames mtu = All-from_recursion (IsFrame mtu) [] tt

-- It is named as an automatic peer.
plan_named : (mtu p q expected : ℕ) (before : List Act) (plan : Plan) → q ≡ p → (q == p) ≡ true → Gathers mtu p before plan → Gathers mtu p (before ++ act.Auto q expected ∷ []) (gathered p plan (act.Auto q expected))
plan_named mtu p q expected before plan same is g =
    let a = act.Auto q expected in
    let has : has_auto (before ++ a ∷ []) p ≡ true = auto_snoc p before a ∙ (ap (λ b. has_auto before p || b) is ∙ or_true (has_auto before p)) in
    let gives : gathered p plan a ≡ fresh_plan expected = ap (λ (b : Bool). if b then fresh_plan expected else plan) is in
    let said : (x : Peer) → after_act p x a ≡ record x { driver = (automatic (fresh_plan expected)).driver } = λ x. ap (λ (b : Bool). if b then record x { driver = (automatic (fresh_plan expected)).driver } else x) is in
    let starts : after_acts p at_start (before ++ a ∷ []) ≡ automatic (fresh_plan expected) = recorded_snoc p at_start before a ∙ (said (after_acts p at_start before) ∙ named (has_auto before p) refl) in
    subst (Gathers mtu p (before ++ a ∷ [])) (sym gives) (record { none = λ e. absurd (clash (sym e ∙ has)); start = λ e. starts; fresh = refl; frames = no_frames mtu })
  where
    named : (b : Bool) → has_auto before p ≡ b → record (after_acts p at_start before) { driver = (automatic (fresh_plan expected)).driver } ≡ automatic (fresh_plan expected)
    named true e = ap (λ (x : Peer). record x { driver = (automatic (fresh_plan expected)).driver }) (g.start e)
    named false e = ap (λ (x : Peer). record x { driver = (automatic (fresh_plan expected)).driver }) (g.none e)

-- It is given a frame.
plan_given : (mtu p q : ℕ) (frame : List ℕ) (before : List Act) (plan : Plan) → (q == p) ≡ true → has_auto before p ≡ true → IsFrame mtu frame → Gathers mtu p before plan → Gathers mtu p (before ++ act.Offer q frame ∷ []) (gathered p plan (act.Offer q frame))
plan_given mtu p q frame before plan is auto fits g =
    let a = act.Offer q frame in
    let next : Plan = record plan { frames = plan.frames ++ frame ∷ [] } in
    let has : has_auto (before ++ a ∷ []) p ≡ true = auto_snoc p before a ∙ (or_false (has_auto before p) ∙ auto) in
    let gives : gathered p plan a ≡ next = ap (λ (b : Bool). if b then next else plan) is in
    let starts : after_acts p at_start (before ++ a ∷ []) ≡ automatic next = recorded_snoc p at_start before a ∙ (ap (λ (x : Peer). after_act p x a) (g.start auto) ∙ ap (λ (b : Bool). if b then automatic next else automatic plan) is) in
    subst (Gathers mtu p (before ++ a ∷ [])) (sym gives) (record {
      none = λ e. absurd (clash (sym e ∙ has));
      start = λ e. starts;
      fresh = ap (λ (x : Plan). record x { frames = next.frames }) g.fresh;
      frames = All-append (IsFrame mtu) plan.frames (frame ∷ []) g.frames (All-from_recursion (IsFrame mtu) (frame ∷ []) (fits, tt));
    })

offer_fits : (w : World) (before : List Act) (q : ℕ) (frame : List ℕ) → IsAllowed w before (act.Offer q frame) → IsFrame w.queue.mtu frame
offer_fits w before q frame is = (frame_least (length frame) (w.queue.mtu + 18) is.frame, frame_most (length frame) (w.queue.mtu + 18) is.frame, All-from_recursion (λ (byte : ℕ). byte < 256) frame (bytes_recursion frame is.bytes))

apart : (p peers : ℕ) (flag : Bool) → (nat_lt p 2 && flag) ≡ true → (nat_lt p peers && not flag) ≡ true → ⊥
apart p peers true link hostile = and_false (nat_lt p peers) hostile
  where
    and_false : (b : Bool) → (b && false) ≡ true → ⊥
    and_false true is = absurd (cc)
    and_false false is = absurd (cc)
apart p peers false link hostile = and_false (nat_lt p 2) link
  where
    and_false : (b : Bool) → (b && false) ≡ true → ⊥
    and_false true is = absurd (cc)
    and_false false is = absurd (cc)

by_test : {P : Type 0} → (b : Bool) → (b ≡ true → P) → (b ≡ false → P) → P
by_test true f g = f refl
by_test false f g = g refl

pub gathers_on : (w : World) (p : ℕ) (before later : List Act) (a : Act) (plan : Plan) → is_link w p ≡ true → IsAllowed w before a → breaks before a later ≡ false → Gathers w.queue.mtu p before plan → Gathers w.queue.mtu p (before ++ a ∷ []) (gathered p plan a)
gathers_on w p before later (act.Auto q expected) plan link allowed goes g = by_test (q == p)
    (λ is. plan_named w.queue.mtu p q expected before plan (eqb-true q p is) is g)
    (λ is. plan_stays w.queue.mtu p before (act.Auto q expected) plan (λ x. ap (λ (b : Bool). if b then record x { driver = (automatic (fresh_plan expected)).driver } else x) is) is (ap (λ (b : Bool). if b then fresh_plan expected else plan) is) g)
gathers_on w p before later (act.Offer q frame) plan link allowed goes g = by_test (q == p)
    (λ is. plan_given w.queue.mtu p q frame before plan is (subst (λ k. has_auto before k ≡ true) (eqb-true q p is) (not_not (has_auto before q) goes)) (offer_fits w before q frame allowed) g)
    (λ is. plan_stays w.queue.mtu p before (act.Offer q frame) plan (λ x. offer_other x is) refl (ap (λ (b : Bool). if b then record plan { frames = plan.frames ++ frame ∷ [] } else plan) is) g)
  where
    offer_other : (x : Peer) → (q == p) ≡ false → after_act p x (act.Offer q frame) ≡ x
    offer_other x is = rw is refl
gathers_on w p before later (act.Storm q seed) plan link allowed goes g = by_test (q == p)
    (λ is. absurd (apart p w.geometry.peers (slice_index_or w.honest p false) link (subst (λ k. is_hostile w k ≡ true) (eqb-true q p is) allowed.peer)))
    (λ is. plan_stays w.queue.mtu p before (act.Storm q seed) plan (λ x. storm_other x is) refl refl g)
  where
    storm_other : (x : Peer) → (q == p) ≡ false → after_act p x (act.Storm q seed) ≡ x
    storm_other x is = rw is refl
gathers_on w p before later a plan link allowed goes g = plan_stays w.queue.mtu p before a plan (λ x. refl) refl refl g

pub gathers_none : (mtu p expected : ℕ) → Gathers mtu p [] (fresh_plan expected)
unfolding after_acts has_auto
gathers_none mtu p expected = record { none = λ e. refl; start = λ e. absurd (cc); fresh = refl; frames = no_frames mtu }

-- The seed of a storm

seed_stays : (p : ℕ) (before : List Act) (a : Act) (seed : ℕ) → ((x : Peer) → after_act p x a ≡ x) → is_storm p a ≡ false → seeded p seed a ≡ seed → Seeds p before seed → Seeds p (before ++ a ∷ []) (seeded p seed a)
seed_stays p before a seed still none same g =
    let has : has_storm (before ++ a ∷ []) p ≡ has_storm before p = storm_snoc p before a ∙ (ap (λ b. has_storm before p || b) none ∙ or_false (has_storm before p)) in
    let on : after_acts p at_start (before ++ a ∷ []) ≡ after_acts p at_start before = recorded_snoc p at_start before a ∙ still (after_acts p at_start before) in
    subst (Seeds p (before ++ a ∷ [])) (sym same) (record { none = λ e. on ∙ g.none (sym has ∙ e); start = λ e. on ∙ g.start (sym has ∙ e) })

seed_named : (p q x : ℕ) (before : List Act) (seed : ℕ) → (q == p) ≡ true → Seeds p before seed → Seeds p (before ++ act.Storm q x ∷ []) (seeded p seed (act.Storm q x))
seed_named p q x before seed is g =
    let a = act.Storm q x in
    let has : has_storm (before ++ a ∷ []) p ≡ true = storm_snoc p before a ∙ (ap (λ b. has_storm before p || b) is ∙ or_true (has_storm before p)) in
    let gives : seeded p seed a ≡ x = ap (λ (b : Bool). if b then x else seed) is in
    let said : (y : Peer) → after_act p y a ≡ record y { driver = Storms x } = λ y. ap (λ (b : Bool). if b then record y { driver = Storms x } else y) is in
    let starts : after_acts p at_start (before ++ a ∷ []) ≡ storming x = recorded_snoc p at_start before a ∙ (said (after_acts p at_start before) ∙ named (has_storm before p) refl) in
    subst (Seeds p (before ++ a ∷ [])) (sym gives) (record { none = λ e. absurd (clash (sym e ∙ has)); start = λ e. starts })
  where
    named : (b : Bool) → has_storm before p ≡ b → record (after_acts p at_start before) { driver = Storms x } ≡ storming x
    named true e = ap (λ (y : Peer). record y { driver = Storms x }) (g.start e)
    named false e = ap (λ (y : Peer). record y { driver = Storms x }) (g.none e)

pub seeds_on : (w : World) (p : ℕ) (before : List Act) (a : Act) (seed : ℕ) → is_link w p ≡ false → IsAllowed w before a → Seeds p before seed → Seeds p (before ++ a ∷ []) (seeded p seed a)
seeds_on w p before (act.Auto q expected) seed hostile allowed g = by_test (q == p)
    (λ is. absurd (clash (sym hostile ∙ subst (λ k. is_link w k ≡ true) (eqb-true q p is) allowed.peer)))
    (λ is. seed_stays p before (act.Auto q expected) seed (λ x. auto_other x is) refl refl g)
  where
    auto_other : (x : Peer) → (q == p) ≡ false → after_act p x (act.Auto q expected) ≡ x
    auto_other x is = rw is refl
seeds_on w p before (act.Offer q frame) seed hostile allowed g = by_test (q == p)
    (λ is. absurd (clash (sym hostile ∙ subst (λ k. is_link w k ≡ true) (eqb-true q p is) allowed.peer)))
    (λ is. seed_stays p before (act.Offer q frame) seed (λ x. offer_other x is) refl refl g)
  where
    offer_other : (x : Peer) → (q == p) ≡ false → after_act p x (act.Offer q frame) ≡ x
    offer_other x is = rw is refl
seeds_on w p before (act.Storm q x) seed hostile allowed g = by_test (q == p)
    (λ is. seed_named p q x before seed is g)
    (λ is. seed_stays p before (act.Storm q x) seed (λ y. ap (λ (b : Bool). if b then record y { driver = Storms x } else y) is) is (ap (λ (b : Bool). if b then x else seed) is) g)
seeds_on w p before a seed hostile allowed g = seed_stays p before a seed (λ x. refl) refl refl g

pub seeds_none : (p seed : ℕ) → Seeds p [] seed
unfolding after_acts has_storm
seeds_none p seed = record { none = λ e. refl; start = λ e. absurd (cc) }

-- One step of a loop over the acts.
pub gathers_at : (w : World) (p i : ℕ) (a : Act) (plan : Plan) → IsWorld w → not_running w ≡ None → is_link w p ≡ true → i < length w.acts → a ≡ get_or w.acts i a → Gathers w.queue.mtu p (take i w.acts) plan → Gathers w.queue.mtu p (take i w.acts ++ a ∷ []) (gathered p plan a)
gathers_at w p i a plan is running link inside at g = let found = slice_get_read w.acts (length w.acts) i a refl inside at in
    gathers_on w p (take i w.acts) (drop (i + 1) w.acts) a plan link (is.allowed i a found) (breaks_from w.acts [] (first_line w) i a running found) g

pub seeds_at : (w : World) (p i : ℕ) (a : Act) (seed : ℕ) → IsWorld w → is_link w p ≡ false → i < length w.acts → a ≡ get_or w.acts i a → Seeds p (take i w.acts) seed → Seeds p (take i w.acts ++ a ∷ []) (seeded p seed a)
seeds_at w p i a seed is hostile inside at g = seeds_on w p (take i w.acts) a seed hostile (is.allowed i a (slice_get_read w.acts (length w.acts) i a refl inside at)) g

-- The spans

pub taken_more : (acts : List Act) (i : ℕ) (a : Act) → i < length acts → a ≡ get_or acts i a → take (i + 1) acts ≡ take i acts ++ a ∷ []
taken_more acts i a inside at = take_more acts i a inside ∙ ap (λ (b : Act). take i acts ++ b ∷ []) (sym at)

pub spans_none : (p : ℕ) → [] ≡ spans_of [] p
unfolding spans_of
spans_none p = refl

pub spans_at : (acts : List Act) (p i : ℕ) (a : Act) → i < length acts → a ≡ get_or acts i a → spans_of (take i acts) p ++ span_in p a ≡ spans_of (take (i + 1) acts) p
unfolding spans_of
spans_at acts p i a inside at = sym (ap (λ l. spans_of l p) (taken_more acts i a inside at) ∙ (flat_map-append (span_in p) (take i acts) (a ∷ []) ∙ ap (λ l. spans_of (take i acts) p ++ l) (append-nil (span_in p a))))

-- A peer has a turn line exactly if it has a span.
abbrev has_any : List ℕ → Bool
has_any [] = false
has_any (span ∷ spans) = true

span_line : (p : ℕ) (a : Act) → is_turn_of p a ≡ has_any (span_in p a)
span_line p (act.Turn q steps) = elim (q == p) as (λ b. b ≡ has_any (if b then steps ∷ [] else [])) [ true ↦ refl | false ↦ refl ]
span_line p a = refl

more_lines : (one more : List ℕ) → (has_any one || has_any more) ≡ has_any (one ++ more)
more_lines [] more = refl
more_lines (span ∷ one) more = refl

has_span : (acts : List Act) (p : ℕ) → has_turn acts p ≡ has_any (spans_of acts p)
unfolding has_turn spans_of
has_span [] p = refl
has_span (a ∷ acts) p = (λ i. (span_line p a i || has_span acts p i)) ∙ more_lines (span_in p a) (spans_of acts p)

pub no_turns : (acts : List Act) (p : ℕ) (spans : List ℕ) → spans ≡ spans_of acts p → (length spans == 0) ≡ true → has_turn acts p ≡ false
no_turns acts p spans are none = has_span acts p ∙ (ap has_any (sym are) ∙ empty spans (eqb-true (length spans) 0 none))
  where
    empty : (l : List ℕ) → length l ≡ 0 → has_any l ≡ false
    empty [] none = refl
    empty (span ∷ l) none = absurd (omega arith)

pub some_turns : (acts : List Act) (p : ℕ) (spans : List ℕ) → spans ≡ spans_of acts p → (length spans == 0) ≡ false → has_turn acts p ≡ true
some_turns acts p spans are some = has_span acts p ∙ (ap has_any (sym are) ∙ filled spans some)
  where
    filled : (l : List ℕ) → (length l == 0) ≡ false → has_any l ≡ true
    filled [] some = absurd (clash (sym some))
    filled (span ∷ l) some = refl

-- The number of turns of a peer. Between each two of its turn lines is a reset of it, which counts.

abbrev resets_in : ℕ → List Act → ℕ
resets_in p [] = 0
resets_in p (a ∷ acts) = one_if (is_reset_of p a) + resets_in p acts

turn_snoc : (acts : List Act) (a : Act) (p : ℕ) → has_turn (acts ++ a ∷ []) p ≡ (has_turn acts p || is_turn_of p a)
unfolding has_turn
turn_snoc acts a p = list_any-append (is_turn_of p) acts (a ∷ []) ∙ ap (λ b. has_turn acts p || b) (or_false (is_turn_of p a))

-- A turn line after all resets.
turned_last : (acts : List Act) (a : Act) (p : ℕ) → is_turn_of p a ≡ true → is_reset_of p a ≡ false → is_reset_last (acts ++ a ∷ []) p ≡ false
unfolding is_reset_last has_turn
turned_last [] a p turns resets = ap (λ (b : Bool). (b && true) || false) resets
turned_last (b ∷ acts) a p turns resets = (λ i. (is_reset_of p b && not ((turn_snoc acts a p ∙ (ap (λ x. has_turn acts p || x) turns ∙ or_true (has_turn acts p))) i)) || turned_last acts a p turns resets i)
    ∙ none (is_reset_of p b)
  where
    none : (x : Bool) → ((x && false) || false) ≡ false
    none true = refl
    none false = refl

turn_is_last : (acts : List Act) (a : Act) (p : ℕ) → is_turn_of p a ≡ true → is_reset_of p a ≡ false → is_turn_last (acts ++ a ∷ []) p ≡ true
turn_is_last acts a p turns resets = λ i. ((turn_snoc acts a p ∙ (ap (λ x. has_turn acts p || x) turns ∙ or_true (has_turn acts p))) i && not (turned_last acts a p turns resets i))

-- An act that is neither.
still_last : (acts : List Act) (a : Act) (p : ℕ) → is_turn_of p a ≡ false → is_reset_of p a ≡ false → is_reset_last (acts ++ a ∷ []) p ≡ is_reset_last acts p
unfolding is_reset_last has_turn
still_last [] a p turns resets = ap (λ (b : Bool). (b && true) || false) resets
still_last (b ∷ acts) a p turns resets = λ i. (is_reset_of p b && not ((turn_snoc acts a p ∙ (ap (λ x. has_turn acts p || x) turns ∙ or_false (has_turn acts p))) i)) || still_last acts a p turns resets i

last_stays : (acts : List Act) (a : Act) (p : ℕ) → is_turn_of p a ≡ false → is_reset_of p a ≡ false → is_turn_last (acts ++ a ∷ []) p ≡ is_turn_last acts p
last_stays acts a p turns resets = λ i. ((turn_snoc acts a p ∙ (ap (λ x. has_turn acts p || x) turns ∙ or_false (has_turn acts p))) i && not (still_last acts a p turns resets i))

second : (a b c : Bool) → ((a || b) || c) ≡ false → b ≡ false
second true b c is = absurd (clash (sym is))
second false true c is = absurd (clash (sym is))
second false false c is = refl

one_most : (b : Bool) → one_if b ≤ 1
one_most true = omega arith
one_most false = omega arith

spans_few : (acts before : List Act) (line p : ℕ) → first_break before acts line ≡ None → length (spans_of acts p) + one_if (is_turn_last before p) ≤ resets_in p acts + 1
unfolding spans_of
spans_few [] before line p none = let one = one_most (is_turn_last before p) in omega arith
spans_few (act.Turn q steps ∷ acts) before line p none = let g = goes_on (breaks before (act.Turn q steps) acts) line _ none in
    let rest = spans_few acts (before ++ act.Turn q steps ∷ []) (line + 1) p g.1 in by_test (q == p)
    (λ is. let last : is_turn_last (before ++ act.Turn q steps ∷ []) p ≡ true = turn_is_last before (act.Turn q steps) p is refl in
    let was : is_turn_last before p ≡ false = subst (λ k. is_turn_last before k ≡ false) (eqb-true q p is) (second (has_other acts) (is_turn_last before q) (not (has_auto before q || has_storm before q)) g.0) in
    let a : one_if (is_turn_last (before ++ act.Turn q steps ∷ []) p) ≡ 1 = ap one_if last in let b : one_if (is_turn_last before p) ≡ 0 = ap one_if was in
    let c : length ((if q == p then steps ∷ [] else []) ++ spans_of acts p) ≡ suc (length (spans_of acts p)) = ap (λ (x : Bool). length ((if x then steps ∷ [] else []) ++ spans_of acts p)) is in omega arith)
    (λ isnt. let a : one_if (is_turn_last (before ++ act.Turn q steps ∷ []) p) ≡ one_if (is_turn_last before p) = ap one_if (last_stays before (act.Turn q steps) p isnt refl) in
    let c : length ((if q == p then steps ∷ [] else []) ++ spans_of acts p) ≡ length (spans_of acts p) = ap (λ (x : Bool). length ((if x then steps ∷ [] else []) ++ spans_of acts p)) isnt in omega arith)
spans_few (act.Reset q ∷ acts) before line p none = let g = goes_on (breaks before (act.Reset q) acts) line _ none in
    let rest = spans_few acts (before ++ act.Reset q ∷ []) (line + 1) p g.1 in by_test (q == p)
    (λ is. let a : one_if (q == p) ≡ 1 = ap one_if is in let b = one_most (is_turn_last before p) in omega arith)
    (λ isnt. let a : one_if (is_turn_last (before ++ act.Reset q ∷ []) p) ≡ one_if (is_turn_last before p) = ap one_if (last_stays before (act.Reset q) p refl isnt) in omega arith)
spans_few (a ∷ acts) before line p none = let g = goes_on (breaks before a acts) line _ none in
    let rest = spans_few acts (before ++ a ∷ []) (line + 1) p g.1 in let same : one_if (is_turn_last (before ++ a ∷ []) p) ≡ one_if (is_turn_last before p) = ap one_if (last_stays before a p refl refl) in omega arith

-- The spans of a peer count the turns of its acts.
span_cost : (p : ℕ) (a : Act) → sum (span_in p a) + one_if (is_reset_of p a) ≤ cost a
span_cost p (act.Turn q steps) = elim (q == p) as (λ b. sum (if b then steps ∷ [] else []) + 0 ≤ steps) [ true ↦ omega arith | false ↦ omega arith ]
span_cost p (act.Reset q) = let one = one_most (q == p) in omega arith
span_cost p a = omega arith

spans_cost : (acts : List Act) (p : ℕ) → sum (spans_of acts p) + resets_in p acts ≤ turns_of acts
unfolding spans_of
spans_cost [] p = omega arith
spans_cost (a ∷ acts) p = let rest = spans_cost acts p in let here = span_cost p a in let one : sum (span_in p a ++ spans_of acts p) ≡ sum (span_in p a) + sum (spans_of acts p) = sum_by-append (λ n. n) (span_in p a) (spans_of acts p) in
    let all : turns_of (a ∷ acts) ≡ cost a + turns_of acts = sum_by-cons cost a acts in omega arith

pub few_turns : (w : World) (p : ℕ) (spans : List ℕ) → IsWorld w → not_running w ≡ None → spans ≡ spans_of w.acts p → all_turns spans < 2 ^ 32
few_turns w p spans is running are = let most = is.turns in let count = spans_cost w.acts p in let few = spans_few w.acts [] (first_line w) p running in
    let a : sum spans ≡ sum (spans_of w.acts p) = ap sum are in let b : length spans ≡ length (spans_of w.acts p) = ap length are in omega arith

-- The driver of a peer

no_any : (f : Act → Bool) (acts : List Act) → ((k : ℕ) (a : Act) → slice_get acts k ≡ Some a → f a ≡ false) → list_any f acts ≡ false
no_any f [] none = refl
no_any f (a ∷ acts) none = λ i. (none 0 a refl i || no_any f acts (λ k b at. none (suc k) b at) i)

-- No storm is one of an honest end, and no automatic peer is hostile.
storm_of : (w : World) (p : ℕ) (before : List Act) (a : Act) → is_link w p ≡ true → IsAllowed w before a → is_storm p a ≡ false
storm_of w p before (act.Storm q seed) link allowed = by_test (q == p)
    (λ is. absurd (apart p w.geometry.peers (slice_index_or w.honest p false) link (subst (λ k. is_hostile w k ≡ true) (eqb-true q p is) allowed.peer)))
    (λ is. is)
storm_of w p before a link allowed = refl

auto_of : (w : World) (p : ℕ) (before : List Act) (a : Act) → is_link w p ≡ false → IsAllowed w before a → is_auto p a ≡ false
auto_of w p before (act.Auto q expected) hostile allowed = by_test (q == p)
    (λ is. absurd (clash (sym hostile ∙ subst (λ k. is_link w k ≡ true) (eqb-true q p is) allowed.peer)))
    (λ is. is)
auto_of w p before a hostile allowed = refl

no_storm : (w : World) (p : ℕ) → IsWorld w → is_link w p ≡ true → has_storm w.acts p ≡ false
unfolding has_storm
no_storm w p is link = no_any (is_storm p) w.acts (λ k a at. storm_of w p (take k w.acts) a link (is.allowed k a at))

no_auto : (w : World) (p : ℕ) → IsWorld w → is_link w p ≡ false → has_auto w.acts p ≡ false
unfolding has_auto
no_auto w p is hostile = no_any (is_auto p) w.acts (λ k a at. auto_of w p (take k w.acts) a hostile (is.allowed k a at))

or_left : (a b : Bool) → (a || b) ≡ true → b ≡ false → a ≡ true
or_left true b is none = refl
or_left false true is none = absurd (cc)
or_left false false is none = absurd (cc)

or_right : (a b : Bool) → (a || b) ≡ true → a ≡ false → b ≡ true
or_right true b is none = absurd (cc)
or_right false b is none = is

made_config : (w : World) (key : RunSetup) (p vector : ℕ) → IsMadeFor w key → vector ≡ traffic_vector w.wiring → endpoint.config_of w.geometry w.queue p vector ≡ config_in key p
made_config w key p vector made is = let v : vector ≡ traffic_vector key.wiring = is ∙ ap traffic_vector (sym made.wiring) in λ i. endpoint.config_of (sym made.geometry i) (sym made.queue i) p (v i)

pub auto_driver : (w : World) (p vector : ℕ) (plan : Plan) (end : Engine) → IsWorld w → not_running w ≡ None → has_turn w.acts p ≡ true → is_link w p ≡ true → vector ≡ traffic_vector w.wiring → Gathers w.queue.mtu p w.acts plan →
    RefinesAt end (endpoint.config_of w.geometry w.queue p vector) fresh Closed → (automatic plan ≡ start_of w.acts p) × ((key : RunSetup) → IsMadeFor w key → MayBeAuto key p plan end)
auto_driver w p vector plan end is running turns link vec g refines =
    let auto = or_left (has_auto w.acts p) (has_storm w.acts p) (has_driver w p running turns) (no_storm w p is link) in (
      sym (g.start auto),
      λ key made. record {
        link = link_below p _ link;
        honest = made.honest p ∙ link;
        refines = subst (λ (config : EndConfig). RefinesAt end config fresh Closed) (made_config w key p vector made vec) refines;
        begins = g.fresh;
        frames = subst (λ (q : Sizes). All (IsFrame q.mtu) plan.frames) (sym made.queue) g.frames;
      },
    )

pub storm_driver : (w : World) (p seed : ℕ) → IsWorld w → not_running w ≡ None → has_turn w.acts p ≡ true → is_link w p ≡ false → p < w.geometry.peers → Seeds p w.acts seed →
    (storming seed ≡ start_of w.acts p) × ((key : RunSetup) → IsMadeFor w key → (p < key.geometry.peers) × (honest_of key p ≡ false) × (w.geometry ≡ key.geometry) × (w.queue ≡ key.queue))
storm_driver w p seed is running turns hostile there g =
    let storm = or_right (has_auto w.acts p) (has_storm w.acts p) (has_driver w p running turns) (no_auto w p is hostile) in (
      sym (g.start storm),
      λ key made. (subst (λ (s : Shape). p < s.peers) (sym made.geometry) there, made.honest p ∙ hostile, sym made.geometry, sym made.queue),
    )
