-- The invariant of a link of two automatic ends, turn by turn.
use Rattle.std.proofs.Common.{◌≡◌, ◌≢◌, ℕ, zero, suc, ◌<◌, ◌≤◌, Bool, true, false, List, [], ◌∷◌, ◌++◌, length, refl, sym, ap, ◌∙◌, subst, append_assoc, inl, inr, arith, eq-eqb, eqb-true}
use Rattle.std.specs.Prelude.{◌⊎◌, ◌==◌, nat_le, if◌then◌else◌, Option, Some, All}
use Rattle.std.specs.List.{AllByRecursion}
use Rattle.std.proofs.lemmas.Bool.{ne_eqb}
use Rattle.std.proofs.lemmas.List.Elements.{recursion_from_All, All-from_recursion}
use Rattle.split_ring.specs.declared.steps.Access.{Access}
use Rattle.split_ring.specs.declared.steps.Access.TheVariants as access
use Rattle.split_ring.specs.Layout.{queue_size}
use Rattle.link_handshake.specs.declared.Phase.{Phase}
use Rattle.link_handshake.specs.declared.Phase.TheVariants.{Reset, Init, Ready, Run}
use Rattle.link_handshake.specs.PhaseTable.{state_of}
use Rattle.call_grammar.specs.Steps.{Mark}
use Rattle.call_grammar.specs.Ends.{End, with_access}
use Rattle.call_grammar.specs.Rows.{MovesTo}
use Rattle.call_grammar.specs.Calls.{EndConfig, Call, Tick, Stop, Offer, Poll, in_run, pending_of}
use Rattle.call_grammar.specs.Polls.{is_last}
use Rattle.call_grammar.specs.Places.{Place, Closed, WritingState, ReadingUsedIndex, ReadingAvailIndex, NotInRun, first_place, access_at, marks_at, is_open}
use Rattle.call_grammar.specs.Automatic.{Round, Anew, AfterOffer, AfterPoll, Choice, ChoosesTick, ChoosesOffer, ChoosesPoll, IsFinished, choice_of, in_phase}
use Rattle.link_machine.specs.LinkMachine.{Side}
use Rattle.link_invariant.specs.LinkConfig.{IsLinkConfig, config_of, IsOffered, IsGivenTo}
use Rattle.link_invariant.specs.Steps.{Stored, ReadsMemory, MemoryAfter, OnlyEndChanges, BeginsCall, TakesStep}
use Rattle.link_invariant.specs.Sides.{CallIs, SideIs, SawFor}
use Rattle.pair_sessions.specs.CalmRuns.{CalmRuns, begins, steps}
use Rattle.pair_sessions.proofs.CalmRuns.{calm_runs_deliver}
use Rattle.link_endpoint.specs.Plan.{left_after, delivered_by}
use Rattle.frame_bridge.specs.Links.{link_config, expected, AutoEnd, Link, choice, with_choice, opened, stepped, value_in, words_after, with_end, step_of_link, turned}
use Rattle.frame_bridge.specs.Keeps.{pending_frame, HeadIs, ends_in, places_in, Sound}
use Rattle.frame_bridge.proofs.Steps.{accepted_by, heads_on, counts_on, noted_accepted, noted_delivered, SameLists, stated_lists}

-- The region has a link configuration

pub is_link_config : IsLinkConfig link_config
unfolding queue_size
is_link_config = record {
  queue = record { known = (omega arith, omega arith); mtu_least = omega arith; mtu_most = omega arith; section = omega arith; fits = refl; one_slot = omega arith };
  words = refl;
  first = omega arith;
}

-- Automatic ends by their numbers

pub put_here : (auto_ends : ℕ → AutoEnd) (p : ℕ) (auto_end : AutoEnd) → with_end auto_ends p auto_end p ≡ auto_end
put_here auto_ends p auto_end = ap (λ (b : Bool). if b then auto_end else auto_ends p) (eq-eqb p p refl)

pub put_other : (auto_ends : ℕ → AutoEnd) (p : ℕ) (auto_end : AutoEnd) (q : ℕ) → q ≢ p → with_end auto_ends p auto_end q ≡ auto_ends q
put_other auto_ends p auto_end q other = ap (λ (b : Bool). if b then auto_end else auto_ends q) (ne_eqb q p other)

same_at : (auto_ends : ℕ → AutoEnd) (p q : ℕ) (b : Bool) → (q == p) ≡ b → (if b then auto_ends p else auto_ends q) ≡ auto_ends q
same_at auto_ends p q true is = ap auto_ends (sym (eqb-true q p is))
same_at auto_ends p q false is = refl

pub put_same : (auto_ends : ℕ → AutoEnd) (p : ℕ) → with_end auto_ends p (auto_ends p) ≡ auto_ends
put_same auto_ends p = λ i q. same_at auto_ends p q (q == p) refl i

twice_at : (x y z : AutoEnd) (b : Bool) → (if b then y else (if b then x else z)) ≡ (if b then y else z)
twice_at x y z true = refl
twice_at x y z false = refl

pub put_twice : (auto_ends : ℕ → AutoEnd) (p : ℕ) (x y : AutoEnd) → with_end (with_end auto_ends p x) p y ≡ with_end auto_ends p y
put_twice auto_ends p x y = λ i q. twice_at x y (auto_ends q) (q == p) i

by_number : (P : AutoEnd → ℕ → Type 0) (auto_ends : ℕ → AutoEnd) (p : ℕ) (auto_end : AutoEnd) → P auto_end p → ((q : ℕ) → q < 2 → P (auto_ends q) q) → (q : ℕ) → q < 2 →
    P (with_end auto_ends p auto_end q) q
by_number P auto_ends p auto_end here there q below = at (q == p) refl
  where
    at : (b : Bool) → (q == p) ≡ b → P (if b then auto_end else auto_ends q) q
    at true is = subst (P auto_end) (sym (eqb-true q p is)) here
    at false is = there q below

-- One end changes, and the other doesn't.
comes : (auto_ends : ℕ → AutoEnd) (p : ℕ) (auto_end : AutoEnd) →
    OnlyEndChanges (λ q. (auto_ends q).end) (λ q. (with_end auto_ends p auto_end q).end) (λ q. (auto_ends q).place) (λ q. (with_end auto_ends p auto_end q).place) p auto_end.end auto_end.place
comes auto_ends p auto_end = record {
  end_is = ap (λ (x : AutoEnd). x.end) (put_here auto_ends p auto_end);
  place_is = ap (λ (x : AutoEnd). x.place) (put_here auto_ends p auto_end);
  ends_stay = λ q other. ap (λ (x : AutoEnd). x.end) (put_other auto_ends p auto_end q other);
  places_stay = λ q other. ap (λ (x : AutoEnd). x.place) (put_other auto_ends p auto_end q other);
}

-- A step of one end alone.
put_sound : (given : ℕ → List (List ℕ)) (link : Link) (p : ℕ) (auto_end : AutoEnd) (memory : ℕ → ℕ) → Sound given link → p < 2 →
    CalmRuns link_config memory (λ q. (with_end link.auto_ends p auto_end q).end) (λ q. (with_end link.auto_ends p auto_end q).place) →
    given p ≡ auto_end.end.accepted ++ auto_end.frames → auto_end.delivered ≡ auto_end.end.delivered → HeadIs auto_end.place auto_end.frames →
    Sound given (record { memory = memory; auto_ends = with_end link.auto_ends p auto_end })
put_sound given link p auto_end memory sound below runs counted recorded head = record {
  runs = runs;
  counted = by_number (λ x q. given q ≡ x.end.accepted ++ x.frames) link.auto_ends p auto_end counted sound.counted;
  recorded = by_number (λ x q. x.delivered ≡ x.end.delivered) link.auto_ends p auto_end recorded sound.recorded;
  heads = by_number (λ x q. HeadIs x.place x.frames) link.auto_ends p auto_end head sound.heads;
  offered = sound.offered;
}

-- The call that is chosen

all_right : {A : Type 0} (P : A → Type 0) (xs ys : List A) → AllByRecursion P (xs ++ ys) → AllByRecursion P ys
all_right P [] ys all = all
all_right P (x ∷ xs) ys all = all_right P xs ys all.1

all_left : {A : Type 0} (P : A → Type 0) (xs ys : List A) → AllByRecursion P (xs ++ ys) → AllByRecursion P xs
all_left P [] ys all = tt
all_left P (x ∷ xs) ys all = (all.0, all_left P xs ys all.1)

pub All_right : {A : Type 0} (P : A → Type 0) (xs ys : List A) → All P (xs ++ ys) → All P ys
All_right P xs ys all = All-from_recursion P ys (all_right P xs ys (recursion_from_All P (xs ++ ys) all))

pub All_left : {A : Type 0} (P : A → Type 0) (xs ys : List A) → All P (xs ++ ys) → All P xs
All_left P xs ys all = All-from_recursion P xs (all_left P xs ys (recursion_from_All P (xs ++ ys) all))

-- The frames that are still to come may be offered.
pub to_come : (given : ℕ → List (List ℕ)) (link : Link) (p : ℕ) → Sound given link → p < 2 → All (IsOffered link_config) (link.auto_ends p).frames
to_come given link p sound below =
    All_right (IsOffered link_config) (link.auto_ends p).end.accepted (link.auto_ends p).frames (subst (All (IsOffered link_config)) (sound.counted p below) (sound.offered p below))

first_chosen : (phase : Phase) (round : Round) (frames : List (List ℕ)) (delivered most : ℕ) (frame : List ℕ) → choice_of phase round frames delivered most ≡ ChoosesOffer frame →
    (rest : List (List ℕ)) × (frames ≡ frame ∷ rest)
first_chosen phase round [] delivered most frame is = absurd (none phase round (nat_le most delivered) is)
  where
    none : (phase : Phase) (round : Round) (b : Bool) → (if b then IsFinished else in_phase phase round []) ≡ ChoosesOffer frame → ⊥
    none phase round true is = cc
    none Reset round false is = cc
    none Init round false is = cc
    none Ready round false is = cc
    none Run Anew false is = cc
    none Run AfterOffer false is = cc
    none Run AfterPoll false is = cc
first_chosen Reset round (x ∷ xs) delivered most frame is = absurd (cc)
first_chosen Init round (x ∷ xs) delivered most frame is = absurd (cc)
first_chosen Ready round (x ∷ xs) delivered most frame is = absurd (cc)
first_chosen Run Anew (x ∷ xs) delivered most frame is = let same : x ≡ frame = cc in (xs, ap (λ (y : List ℕ). y ∷ xs) same)
first_chosen Run AfterOffer (x ∷ xs) delivered most frame is = absurd (cc)
first_chosen Run AfterPoll (x ∷ xs) delivered most frame is = absurd (cc)

-- A choice doesn't change the end, the frames, and the deliveries.
pub record SameAutoEnd (old new : AutoEnd) : Type 0 where
  pub end : new.end ≡ old.end
  pub frames : new.frames ≡ old.frames
  pub delivered : new.delivered ≡ old.delivered

no_head : (config : EndConfig) (end : End) (call : Call) (frames : List (List ℕ)) → ((frame : List ℕ) → call ≡ Offer frame → (rest : List (List ℕ)) × (frames ≡ frame ∷ rest)) →
    HeadIs (first_place config end call) frames
no_head config end Tick frames first = λ frame is. absurd (cc)
no_head config end Stop frames first = λ frame is. absurd (cc)
no_head config end Poll frames first = λ frame is. absurd (polls (in_run end.handshake.phase) frame is)
  where
    polls : (b : Bool) (frame : List ℕ) → pending_frame (if b then ReadingAvailIndex (length end.delivered) (is_last config end.found_none) else NotInRun) ≡ Some frame → ⊥
    polls true frame is = cc
    polls false frame is = cc
no_head config end (Offer offer) frames first = λ frame is. offers (in_run end.handshake.phase) frame is
  where
    offers : (b : Bool) (frame : List ℕ) → pending_frame (if b then ReadingUsedIndex (pending_of config end offer) end.freed else NotInRun) ≡ Some frame →
        (rest : List (List ℕ)) × (frames ≡ frame ∷ rest)
    offers true frame is = let same : offer ≡ frame = cc in let here = first offer refl in (here.0, here.1 ∙ ap (λ (f : List ℕ). f ∷ here.0) same)
    offers false frame is = absurd (cc)

shut : (place : Place) → is_open place ≡ false → place ≡ Closed
shut Closed is = refl
shut place is = absurd (cc)

may_begin : (call : Call) (frames : List (List ℕ)) → All (IsOffered link_config) frames →
    ((frame : List ℕ) → call ≡ Offer frame → (rest : List (List ℕ)) × (frames ≡ frame ∷ rest)) → IsGivenTo link_config call
may_begin Tick frames may first = tt
may_begin Stop frames may first = tt
may_begin Poll frames may first = tt
may_begin (Offer frame) frames may first =
    let here = first frame refl in
    (recursion_from_All (IsOffered link_config) (frame ∷ here.0) (subst (All (IsOffered link_config)) here.1 may)).0

-- A link whose end begins this call.
begun : (given : ℕ → List (List ℕ)) (link : Link) (p : ℕ) (call : Call) (round : Round) → Sound given link → p < 2 → is_open (link.auto_ends p).place ≡ false → call ≢ Stop →
    ((frame : List ℕ) → call ≡ Offer frame → (rest : List (List ℕ)) × ((link.auto_ends p).frames ≡ frame ∷ rest)) →
    Sound given (record link { auto_ends = with_end link.auto_ends p (record (link.auto_ends p) { place = first_place (config_of link_config p) (link.auto_ends p).end call; round = round }) })
begun given link p call round sound below closed calm first =
    let auto_end : AutoEnd = record (link.auto_ends p) { place = first_place (config_of link_config p) (link.auto_ends p).end call; round = round } in
    let may : All (IsOffered link_config) (link.auto_ends p).frames = to_come given link p sound below in
    let given_to : BeginsCall link_config (ends_in link) (λ q. (with_end link.auto_ends p auto_end q).end) (places_in link) (λ q. (with_end link.auto_ends p auto_end q).place) p call =
    record { given = may_begin call (link.auto_ends p).frames may first; closed = shut (link.auto_ends p).place closed; comes = comes link.auto_ends p auto_end } in
    put_sound given link p auto_end link.memory sound below
    (begins link.memory (ends_in link) (λ q. (with_end link.auto_ends p auto_end q).end) (places_in link) (λ q. (with_end link.auto_ends p auto_end q).place) p call sound.runs below calm given_to)
    (sound.counted p below) (sound.recorded p below) (no_head (config_of link_config p) (link.auto_ends p).end call (link.auto_ends p).frames first)

choice_sound : (given : ℕ → List (List ℕ)) (link : Link) (p : ℕ) (c : Choice) → Sound given link → p < 2 → is_open (link.auto_ends p).place ≡ false →
    choice (link.auto_ends p) ≡ c → Sound given (record link { auto_ends = with_end link.auto_ends p (with_choice (config_of link_config p) (link.auto_ends p) c) })
choice_sound given link p ChoosesTick sound below closed is =
    begun given link p Tick Anew sound below closed (λ e. cc) (λ frame e. absurd (cc))
choice_sound given link p (ChoosesOffer offer) sound below closed is =
    begun given link p (Offer offer) AfterOffer sound below closed (λ e. cc)
    (λ frame e. let same : offer ≡ frame = cc in
    let here = first_chosen (link.auto_ends p).end.handshake.phase (link.auto_ends p).round (link.auto_ends p).frames (length (link.auto_ends p).delivered) expected offer is in
    (here.0, here.1 ∙ ap (λ (f : List ℕ). f ∷ here.0) same))
choice_sound given link p ChoosesPoll sound below closed is =
    begun given link p Poll AfterPoll sound below closed (λ e. cc) (λ frame e. absurd (cc))
choice_sound given link p IsFinished sound below closed is =
    subst (λ (auto_ends : ℕ → AutoEnd). Sound given (record link { auto_ends = auto_ends })) (sym (put_same link.auto_ends p)) sound

open_sound : (given : ℕ → List (List ℕ)) (link : Link) (p : ℕ) (b : Bool) → Sound given link → p < 2 → is_open (link.auto_ends p).place ≡ b →
    Sound given (record link { auto_ends = with_end link.auto_ends p (if b then link.auto_ends p else with_choice (config_of link_config p) (link.auto_ends p) (choice (link.auto_ends p))) })
open_sound given link p true sound below is =
    subst (λ (auto_ends : ℕ → AutoEnd). Sound given (record link { auto_ends = auto_ends })) (sym (put_same link.auto_ends p)) sound
open_sound given link p false sound below is = choice_sound given link p (choice (link.auto_ends p)) sound below is refl

-- After the choice.
pub opened_sound : (given : ℕ → List (List ℕ)) (link : Link) (p : ℕ) → Sound given link → p < 2 →
    Sound given (record link { auto_ends = with_end link.auto_ends p (opened (config_of link_config p) (link.auto_ends p)) })
opened_sound given link p sound below = open_sound given link p (is_open (link.auto_ends p).place) sound below refl

-- The step

to_init : (phase : Phase) (value : ℕ) → MovesTo phase value 2 → state_of phase ≡ 1
to_init Reset zero (inl e) = absurd (cc)
to_init Reset zero (inr e) = absurd (cc)
to_init Reset (suc zero) (inl e) = absurd (cc)
to_init Reset (suc zero) (inr e) = absurd (cc)
to_init Reset (suc (suc more)) (inl e) = absurd (cc)
to_init Reset (suc (suc more)) (inr e) = absurd (cc)
to_init Init value is = refl
to_init Ready zero (inl e) = absurd (cc)
to_init Ready zero (inr e) = absurd (cc)
to_init Ready (suc zero) (inl e) = absurd (cc)
to_init Ready (suc zero) (inr e) = absurd (cc)
to_init Ready (suc (suc more)) (inl e) = absurd (cc)
to_init Ready (suc (suc more)) (inr e) = absurd (cc)
to_init Run zero (inl e) = absurd (cc)
to_init Run zero (inr e) = absurd (cc)
to_init Run (suc more) (inl e) = absurd (cc)
to_init Run (suc more) (inr e) = absurd (cc)

saw_init : (end : End) (seen : Option ℕ) → ◌≡◌ {A = ℕ} 2 0 ⊎ SawFor end seen 2 → state_of end.handshake.phase ≡ 1
saw_init end seen (inl e) = absurd (omega arith)
saw_init end seen (inr saw) = to_init end.handshake.phase saw.0 saw.2

none_yet : (opened_count : ℕ) (end : End) → (1 ≤ opened_count → 2 ≤ state_of end.handshake.phase) → (opened_count ≡ 0 → (end.accepted ≡ []) × (end.delivered ≡ [])) →
    state_of end.handshake.phase ≡ 1 → (end.accepted ≡ []) × (end.delivered ≡ [])
none_yet zero end stays none init = none refl
none_yet (suc count) end stays none init = absurd (let two = stays (omega arith) in omega arith)

call_at : (end : End) (place : Place) (side : Side) → place ≡ WritingState 2 → SideIs end place side → state_of end.handshake.phase ≡ 1
call_at end place side at is =
    let call : CallIs end (WritingState 2) side = subst (λ (x : Place). CallIs end x side) at is.call in
    saw_init end side.seen call.0

-- A session opens after none was open: the lists are empty.
empty_lists : (link : Link) (p : ℕ) → CalmRuns link_config link.memory (ends_in link) (places_in link) → p < 2 → places_in link p ≡ WritingState 2 →
    ((ends_in link p).accepted ≡ []) × ((ends_in link p).delivered ≡ [])
empty_lists link p runs below at =
    let all = calm_runs_deliver link_config link.memory (ends_in link) (places_in link) is_link_config runs in
    let here = all.3 p below in
    none_yet (all.1 p).opened (ends_in link p) here.1.stays here.1.none (call_at (ends_in link p) (places_in link p) (all.0 p) at here.0)

meets : (memory : ℕ → ℕ) (a : Access) → ReadsMemory memory a (value_in memory a)
meets memory (access.Read word) = refl
meets memory (access.Write word value) = tt
meets memory (access.State state) = tt
meets memory (access.Ring target vector) = tt
meets memory access.Nothing = tt

stored : (memory : ℕ → ℕ) (at value : ℕ) → Stored memory (λ w. if w == at then value else memory w) at value
stored memory at value = record {
  here = ap (λ (b : Bool). if b then value else memory at) (eq-eqb at at refl);
  neighbour_word = λ w other. ap (λ (b : Bool). if b then value else memory w) (ne_eqb w at other);
}

leaves : (p : ℕ) (memory : ℕ → ℕ) (a : Access) → MemoryAfter p memory a (words_after p memory a)
leaves p memory (access.Read word) = refl
leaves p memory (access.Write word value) = stored memory word value
leaves p memory (access.State state) = stored memory p state
leaves p memory (access.Ring target vector) = refl
leaves p memory access.Nothing = refl

-- The step of an open call.
pub step_sound : (given : ℕ → List (List ℕ)) (link : Link) (p : ℕ) → Sound given link → p < 2 → is_open (link.auto_ends p).place ≡ true →
    Sound given (step_of_link p link (link.auto_ends p))
step_sound given link p sound below opens =
    let config : EndConfig = config_of link_config p in
    let auto_end : AutoEnd = link.auto_ends p in
    let a : Access = access_at config auto_end.place in
    let value : ℕ = value_in link.memory a in
    let new : AutoEnd = stepped config value auto_end in
    let takes : TakesStep link_config link.memory (words_after p link.memory a) (ends_in link) (λ q. (with_end link.auto_ends p new q).end) (places_in link) (λ q. (with_end link.auto_ends p new q).place) p value =
    record { opened = opens; meets = meets link.memory a; leaves = leaves p link.memory a; comes = comes link.auto_ends p new } in
    let lists : SameLists auto_end.end (with_access auto_end.end a) = stated_lists config auto_end.place auto_end.end (λ at. empty_lists link p sound.runs below at) in
    let marks : List Mark = marks_at config auto_end.place value in
    let accepted : new.end.accepted ≡ auto_end.end.accepted ++ accepted_by marks =
    noted_accepted marks (with_access auto_end.end a) ∙ ap (λ (l : List (List ℕ)). l ++ accepted_by marks) lists.accepted in
    let delivered : new.end.delivered ≡ auto_end.end.delivered ++ delivered_by marks =
    noted_delivered marks (with_access auto_end.end a) ∙ ap (λ (l : List (List ℕ)). l ++ delivered_by marks) lists.delivered in
    put_sound given link p new (words_after p link.memory a) sound below
    (steps link.memory (words_after p link.memory a) (ends_in link) (λ q. (with_end link.auto_ends p new q).end) (places_in link) (λ q. (with_end link.auto_ends p new q).place) p value sound.runs below takes)
    (sound.counted p below ∙ (ap (λ (l : List (List ℕ)). auto_end.end.accepted ++ l) (counts_on config auto_end.place value auto_end.frames (sound.heads p below)) ∙
    (sym (append_assoc auto_end.end.accepted (accepted_by marks) (left_after auto_end.frames marks)) ∙ ap (λ (l : List (List ℕ)). l ++ left_after auto_end.frames marks) (sym accepted))))
    (ap (λ (l : List (List ℕ)). l ++ delivered_by marks) (sound.recorded p below) ∙ sym delivered)
    (heads_on config auto_end.place value auto_end.frames (sound.heads p below))

-- A turn

step_from : (given : ℕ → List (List ℕ)) (link : Link) (p : ℕ) (auto_end : AutoEnd) → Sound given (record link { auto_ends = with_end link.auto_ends p auto_end }) → p < 2 →
    is_open auto_end.place ≡ true → Sound given (step_of_link p link auto_end)
step_from given link p auto_end sound below opens =
    let here : with_end link.auto_ends p auto_end p ≡ auto_end = put_here link.auto_ends p auto_end in
    let put : Link = record link { auto_ends = with_end link.auto_ends p auto_end } in
    let next : Sound given (step_of_link p put (with_end link.auto_ends p auto_end p)) = step_sound given put p sound below (ap (λ (x : AutoEnd). is_open x.place) here ∙ opens) in
    let from : Sound given (step_of_link p put auto_end) = subst (λ (x : AutoEnd). Sound given (step_of_link p put x)) here next in
    let config : EndConfig = config_of link_config p in
    let a : Access = access_at config auto_end.place in
    subst (λ (auto_ends : ℕ → AutoEnd). Sound given (record { memory = words_after p link.memory a; auto_ends = auto_ends }))
    (put_twice link.auto_ends p auto_end (stepped config (value_in link.memory a) auto_end)) from

turn_at : (given : ℕ → List (List ℕ)) (link : Link) (p : ℕ) (b : Bool) → Sound given link → p < 2 → is_open (opened (config_of link_config p) (link.auto_ends p)).place ≡ b →
    Sound given (if b then step_of_link p link (opened (config_of link_config p) (link.auto_ends p)) else link)
turn_at given link p true sound below is = step_from given link p (opened (config_of link_config p) (link.auto_ends p)) (opened_sound given link p sound below) below is
turn_at given link p false sound below is = sound

pub turned_sound : (given : ℕ → List (List ℕ)) (link : Link) (p : ℕ) → Sound given link → p < 2 → Sound given (turned p link)
turned_sound given link p sound below = turn_at given link p (is_open (opened (config_of link_config p) (link.auto_ends p)).place) sound below refl
