-- A turn of an end, by the steps of its endpoint and its plan.
use Rattle.std.proofs.Common.{◌≡◌, ℕ, ◌+◌, ◌-◌, ◌≤◌, Bool, true, false, List, [], ◌∷◌, length, refl, sym, ap, ◌∙◌, subst, arith, All, length-append}
use Rattle.std.specs.Prelude.{◌==◌, ◌%◌, if◌then◌else◌, Option, Some, None}
use Rattle.std.specs.List.{list_any}
use Rattle.std.proofs.lemmas.List.Elements.{recursion_from_All}
use Rattle.split_ring.specs.declared.steps.Access.{Access}
use Rattle.split_ring.specs.declared.steps.Note.{Note}
use Rattle.split_ring.specs.declared.steps.Note.TheVariants as note
use Rattle.split_ring.specs.Spelling.{low_half, high_half, desc_flags}
use Rattle.link_handshake.specs.declared.Move.{Move}
use Rattle.link_handshake.specs.declared.Move.TheVariants.{Stay, Set, ClearThenSet}
use Rattle.link_handshake.specs.HandshakeState.{move_of}
use Rattle.call_grammar.specs.Steps.{Mark, Deliver}
use Rattle.call_grammar.specs.Ends.{End, end_after}
use Rattle.call_grammar.specs.Words.{address_of}
use Rattle.call_grammar.specs.Calls.{EndConfig, in_run}
use Rattle.call_grammar.specs.Ticks.{tick_marks}
use Rattle.call_grammar.specs.Offers.{frame_fits, descriptor_of, wants_doorbell, returned_by}
use Rattle.call_grammar.specs.Polls.{entry_in, published_by}
use Rattle.call_grammar.specs.Places.{Place, ReadingOtherState, ReadingUsedIndex, ReadingUsedId, ReadingAvailEvent, ReadingAvailIndex, ReadingAvailEntry, ReadingDescAddressHigh, ReadingDescLength, ReadingDescFlags, ReadingFrameWord, access_at, marks_at, next_place, step_at, is_open}
use Rattle.call_grammar.specs.Automatic.{Choice, ChoosesTick, ChoosesOffer, ChoosesPoll, IsFinished}
use Rattle.link_invariant.specs.LinkConfig.{config_of, IsOffered}
use Rattle.link_endpoint.specs.Engine.{offered, delivered}
use Rattle.link_endpoint.specs.Refinement.{RefinesAt, Takes, marks_between}
use Rattle.link_endpoint.specs.Plan.{Plan, HasCounted, IsChoice, choice_at, Matches, round_after, round_since, call_of, call_chosen_by, place_for, MayOpenIf, left_after, delivered_by, Counts}
use Rattle.link_endpoint.specs.declared.auto.Choice as answers
use Rattle.link_endpoint.specs.declared.auto.Choice.TheVariants as answer
use Rattle.link_endpoint.specs.declared.auto_endpoint.AutoEndpoint.{AutoEndpoint}
use Rattle.section_map.specs.Geometry.{Words}
use Rattle.split_ring.specs.Ranges.{is_avail_entry, is_desc_address, is_desc_length, is_avail_index, is_desc_flags, is_used_index, is_used_id}
use Rattle.frame_bridge.specs.Links.{link_config, AutoEnd, Link, choice, with_choice, opened, stepped, value_in, words_after, step_of_link, turned, observed_by}
use Rattle.frame_bridge.specs.Refinement.{IsPlanOf, AutoEndRefines, RegionRefines, is_delivery, delivered_if}
use Rattle.frame_bridge.proofs.LinkInvariant.{put_here}

-- The frame that a turn delivers

none_recorded : (one other : List ℕ) (notes : List Note) → list_any is_delivery notes ≡ false → delivered_by (marks_between one other notes) ≡ []
none_recorded one other [] none = refl
none_recorded one other (note.Deliver ∷ notes) none = absurd (cc)
none_recorded one other (_ ∷ notes) none = none_recorded one other notes none

some_recorded : (one other : List ℕ) (notes : List Note) → list_any is_delivery notes ≡ true → (rest : List (List ℕ)) × (delivered_by (marks_between one other notes) ≡ other ∷ rest)
some_recorded one other [] some = absurd (cc)
some_recorded one other (note.Deliver ∷ notes) some = (delivered_by (marks_between one other notes), refl)
some_recorded one other (_ ∷ notes) some = some_recorded one other notes some

abbrev IsOne : List Mark → Type 0
IsOne marks = length (delivered_by marks) ≤ 1

nothing : (marks : List Mark) → delivered_by marks ≡ [] → IsOne marks
nothing marks none = let e : length (delivered_by marks) ≡ 0 = ap length none in omega arith

if_none : (b : Bool) (xs ys : List Mark) → delivered_by xs ≡ [] → delivered_by ys ≡ [] → delivered_by (if b then xs else ys) ≡ []
if_none true xs ys x y = x
if_none false xs ys x y = y

tick_none : (value : ℕ) (move : Move) → delivered_by (tick_marks value move) ≡ []
tick_none value Stay = refl
tick_none value (Set state) = refl
tick_none value (ClearThenSet state) = refl

word_one : (b : Bool) (frame : List ℕ) → IsOne (if b then Deliver frame ∷ [] else [])
word_one true frame = omega arith
word_one false frame = omega arith

-- A step delivers at most one frame.
at_most_one : (config : EndConfig) (place : Place) (value : ℕ) → IsOne (marks_at config place value)
at_most_one config (ReadingOtherState handshake) value = nothing (tick_marks value (move_of handshake value)) (tick_none value (move_of handshake value))
at_most_one config (ReadingUsedIndex pending freed) value =
    nothing (marks_at config (ReadingUsedIndex pending freed) value)
    (if_none (is_used_index (freed % 65536) (high_half value) (pending.number - freed)) _ _
    (if_none (returned_by freed value == 0) _ _ (if_none (frame_fits config pending freed) _ _ refl refl) refl) refl)
at_most_one config (ReadingUsedId pending freed more) value =
    nothing (marks_at config (ReadingUsedId pending freed more) value)
    (if_none (is_used_id (descriptor_of config freed) value) _ _ (if_none (more == 0) _ _ (if_none (frame_fits config pending (freed + 1)) _ _ refl refl) refl) refl)
at_most_one config (ReadingAvailEvent number) value = nothing (marks_at config (ReadingAvailEvent number) value) (if_none (wants_doorbell (low_half value) number) _ _ refl refl)
at_most_one config (ReadingAvailIndex taken last) value =
    nothing (marks_at config (ReadingAvailIndex taken last) value)
    (if_none (is_avail_index config.sizes (taken % 65536) (high_half value)) _ _ (if_none (published_by taken value == 0) _ _ (if_none last _ _ refl refl) refl) refl)
at_most_one config (ReadingAvailEntry number more) value = nothing (marks_at config (ReadingAvailEntry number more) value) (if_none (is_avail_entry config.sizes (entry_in config number value)) _ _ refl refl)
at_most_one config (ReadingDescAddressHigh number more entry low) value =
    nothing (marks_at config (ReadingDescAddressHigh number more entry low) value) (if_none (is_desc_address config.sizes (address_of low value)) _ _ refl refl)
at_most_one config (ReadingDescLength number more entry address) value =
    nothing (marks_at config (ReadingDescLength number more entry address) value) (if_none (is_desc_length config.sizes address value) _ _ refl refl)
at_most_one config (ReadingDescFlags number more entry address bytes) value =
    nothing (marks_at config (ReadingDescFlags number more entry address bytes) value) (if_none (is_desc_flags (desc_flags value)) _ _ refl refl)
at_most_one config (ReadingFrameWord number more entry address bytes read words) value = word_one (words == 0) _
at_most_one config place value = nothing (marks_at config place value) refl

alone : (frame : List ℕ) (rest all : List (List ℕ)) → all ≡ frame ∷ rest → length all ≤ 1 → all ≡ frame ∷ []
alone frame [] all is few = is
alone frame (x ∷ rest) all is few = absurd (let e : length all ≡ length (frame ∷ x ∷ rest) = ap length is in omega arith)

recorded_is : (one other : List ℕ) (notes : List Note) (marks : List Mark) (b : Bool) → marks_between one other notes ≡ marks → IsOne marks → list_any is_delivery notes ≡ b →
    delivered_by marks ≡ delivered_if b other
recorded_is one other notes marks true is few any =
    let some = some_recorded one other notes any in
    alone other some.0 (delivered_by marks) (ap delivered_by (sym is) ∙ some.1) few
recorded_is one other notes marks false is few any = ap delivered_by (sym is) ∙ none_recorded one other notes any

-- A finished end doesn't change

first_open : (b : Bool) (x y : Place) → is_open x ≡ true → is_open y ≡ true → is_open (if b then x else y) ≡ true
first_open true x y one other = one
first_open false x y one other = other

still_at : (config : EndConfig) (auto_end : AutoEnd) (c : Choice) → is_open (with_choice config auto_end c).place ≡ false → with_choice config auto_end c ≡ auto_end
still_at config auto_end ChoosesTick closed = absurd (cc)
still_at config auto_end (ChoosesOffer frame) closed =
    let opens : is_open (with_choice config auto_end (ChoosesOffer frame)).place ≡ true = first_open (in_run auto_end.end.handshake.phase) _ _ refl refl in absurd (cc)
still_at config auto_end ChoosesPoll closed =
    let opens : is_open (with_choice config auto_end ChoosesPoll).place ≡ true = first_open (in_run auto_end.end.handshake.phase) _ _ refl refl in absurd (cc)
still_at config auto_end IsFinished closed = refl

still_if : (config : EndConfig) (auto_end : AutoEnd) (b : Bool) → is_open (if b then auto_end else with_choice config auto_end (choice auto_end)).place ≡ false →
    (if b then auto_end else with_choice config auto_end (choice auto_end)) ≡ auto_end
still_if config auto_end true closed = refl
still_if config auto_end false closed = still_at config auto_end (choice auto_end) closed

pub still : (config : EndConfig) (auto_end : AutoEnd) → is_open (opened config auto_end).place ≡ false → opened config auto_end ≡ auto_end
still config auto_end closed = still_if config auto_end (is_open auto_end.place) closed

-- The call chosen is opened

opens_choice : (config : EndConfig) (auto_end : AutoEnd) (c : Choice) (a : answers.Choice) (frames : List (List ℕ)) → IsChoice a frames c →
    with_choice config auto_end c ≡ record auto_end { place = place_for config auto_end.end auto_end.place (call_of a frames); round = round_after a auto_end.round }
opens_choice config auto_end c answer.Tick frames is = ap (with_choice config auto_end) is
opens_choice config auto_end c answer.Offer [] is = absurd is
opens_choice config auto_end c answer.Offer (frame ∷ frames) is = ap (with_choice config auto_end) is
opens_choice config auto_end c answer.Poll frames is = ap (with_choice config auto_end) is
opens_choice config auto_end c answer.Finished frames is = ap (with_choice config auto_end) is

opens_if : (config : EndConfig) (auto_end : AutoEnd) (b : Bool) (c : Choice) (a : Option answers.Choice) (frames : List (List ℕ)) → Matches a frames (if b then None else Some c) →
    (if b then auto_end else with_choice config auto_end c) ≡ record auto_end { place = place_for config auto_end.end auto_end.place (call_chosen_by a frames); round = round_since a auto_end.round }
opens_if config auto_end true c None frames is = refl
opens_if config auto_end true c (Some a) frames is = absurd is
opens_if config auto_end false c None frames is = absurd is
opens_if config auto_end false c (Some a) frames is = opens_choice config auto_end c a frames is

-- The choice of the plan is that of the end that it is a plan of.
matches_plan : (auto_end : AutoEnd) (plan : Plan) (a : Option answers.Choice) → IsPlanOf plan auto_end →
    Matches a plan.frames (choice_at auto_end.end auto_end.place plan (length auto_end.delivered)) → Matches a auto_end.frames (if is_open auto_end.place then None else Some (choice auto_end))
matches_plan auto_end plan a is matches = rw (is.frames, is.expected_is, is.round) at matches

pub opens_as : (me : ℕ) (auto_end : AutoEnd) (old mid new : AutoEndpoint) (a : Option answers.Choice) → AutoEndRefines me auto_end old →
    ((config : EndConfig) (end : End) (place : Place) (count : ℕ) → RefinesAt old.end config end place → HasCounted old.auto count → Matches a old.auto.frames (choice_at end place old.auto count)) →
    mid ≡ record old { auto = record (old.auto) { round = round_since a old.auto.round } } →
    ((config : EndConfig) (end : End) (place : Place) → RefinesAt mid.end config end place → RefinesAt new.end config end (place_for config end place (call_chosen_by a mid.auto.frames))) →
    new.auto ≡ mid.auto → AutoEndRefines me (opened (config_of link_config me) auto_end) new
opens_as me auto_end old mid new a refines chooses mid_is opens auto_is =
    let config : EndConfig = config_of link_config me in
    let matches = matches_plan auto_end old.auto a refines.plan (chooses config auto_end.end auto_end.place (length auto_end.delivered) refines.end refines.plan.delivered) in
    let same = opens_if config auto_end (is_open auto_end.place) (choice auto_end) a auto_end.frames matches in
    let frames : mid.auto.frames ≡ auto_end.frames = ap (λ (h : AutoEndpoint). h.auto.frames) mid_is ∙ refines.plan.frames in
    let there : RefinesAt mid.end config auto_end.end auto_end.place = subst (λ (h : AutoEndpoint). RefinesAt h.end config auto_end.end auto_end.place) (sym mid_is) refines.end in
    let plan : IsPlanOf (record (old.auto) { round = round_since a old.auto.round }) (record auto_end { place = place_for config auto_end.end auto_end.place (call_chosen_by a auto_end.frames); round = round_since a auto_end.round }) =
    record { frames = refines.plan.frames; expected_is = refines.plan.expected_is; delivered = refines.plan.delivered; round = ap (round_since a) refines.plan.round } in
    subst (λ (p : AutoEnd). AutoEndRefines me p new) (sym same) (record {
      end = subst (λ (fs : List (List ℕ)). RefinesAt new.end config auto_end.end (place_for config auto_end.end auto_end.place (call_chosen_by a fs))) frames (opens config auto_end.end auto_end.place there);
      plan = subst (λ (p : Plan). IsPlanOf p (record auto_end { place = place_for config auto_end.end auto_end.place (call_chosen_by a auto_end.frames); round = round_since a auto_end.round }))
          (sym (auto_is ∙ ap (λ (h : AutoEndpoint). h.auto) mid_is)) plan;
    })

may_open : (a : answers.Choice) (frames : List (List ℕ)) (c : Choice) → All (IsOffered link_config) frames → IsChoice a frames c → MayOpenIf link_config.sizes.mtu (Some a) frames
may_open answer.Tick frames c all is = tt
may_open answer.Offer [] c all is = is
may_open answer.Offer (frame ∷ frames) c all is = let first = (recursion_from_All (IsOffered link_config) (frame ∷ frames) all).0 in (first.least, first.most)
may_open answer.Poll frames c all is = tt
may_open answer.Finished frames c all is = tt

may_open_if : (a : Option answers.Choice) (frames : List (List ℕ)) (c : Option Choice) → All (IsOffered link_config) frames → Matches a frames c → MayOpenIf link_config.sizes.mtu a frames
may_open_if None frames c all is = tt
may_open_if (Some a) frames None all is = absurd is
may_open_if (Some a) frames (Some c) all is = may_open a frames c all is

-- A frame that is chosen may be offered.
pub fits_chosen : (me : ℕ) (auto_end : AutoEnd) (old new : AutoEndpoint) (a : Option answers.Choice) → AutoEndRefines me auto_end old → All (IsOffered link_config) auto_end.frames →
    ((config : EndConfig) (end : End) (place : Place) (count : ℕ) → RefinesAt old.end config end place → HasCounted old.auto count → Matches a old.auto.frames (choice_at end place old.auto count)) →
    new ≡ record old { auto = record (old.auto) { round = round_since a old.auto.round } } → MayOpenIf new.end.config.sizes.mtu a new.auto.frames
fits_chosen me auto_end old new a refines all chooses is =
    let frames : All (IsOffered link_config) old.auto.frames = subst (All (IsOffered link_config)) (sym refines.plan.frames) all in
    let fits : MayOpenIf link_config.sizes.mtu a old.auto.frames =
    may_open_if a old.auto.frames _ frames (chooses (config_of link_config me) auto_end.end auto_end.place (length auto_end.delivered) refines.end refines.plan.delivered) in
    subst (λ (h : AutoEndpoint). MayOpenIf h.end.config.sizes.mtu a h.auto.frames) (sym is)
    (subst (λ (w : EndConfig). MayOpenIf w.sizes.mtu a old.auto.frames) refines.end.made fits)

-- The turn

-- A turn at an open place is the step there.
pub turned_open : (me : ℕ) (link : Link) → is_open (opened (config_of link_config me) (link.auto_ends me)).place ≡ true →
    turned me link ≡ step_of_link me link (opened (config_of link_config me) (link.auto_ends me))
turned_open me link opens = ap (λ (b : Bool). if b then step_of_link me link (opened (config_of link_config me) (link.auto_ends me)) else link) opens

pub turned_closed : (me : ℕ) (link : Link) → is_open (opened (config_of link_config me) (link.auto_ends me)).place ≡ false → turned me link ≡ link
turned_closed me link closed = ap (λ (b : Bool). if b then step_of_link me link (opened (config_of link_config me) (link.auto_ends me)) else link) closed

-- The plan of an end that completed a step counted the marks of the step.
plan_stepped : (config : EndConfig) (value : ℕ) (auto_end : AutoEnd) (plan new : Plan) → Counts plan (marks_at config auto_end.place value) new → IsPlanOf plan auto_end →
    IsPlanOf new (stepped config value auto_end)
plan_stepped config value auto_end plan new counts is =
    let marks : List Mark = marks_at config auto_end.place value in
    record {
      frames = counts.frames ∙ ap (λ (fs : List (List ℕ)). left_after fs marks) is.frames;
      expected_is = counts.expected ∙ is.expected_is;
      delivered = subst (λ (n : ℕ). HasCounted new n) (sym (length-append auto_end.delivered (delivered_by marks))) (counts.delivered (length auto_end.delivered) is.delivered);
      round = counts.round ∙ is.round;
    }

-- The endpoint completed the step of this value, and the plan counted its notes.
pub record Took (me : ℕ) (link : Link) (before : AutoEndpoint) (value : ℕ) (notes : List Note) (after : AutoEndpoint) : Type 0 where
  pub refines : AutoEndRefines me (opened (config_of link_config me) (link.auto_ends me)) before
  pub opens : is_open (opened (config_of link_config me) (link.auto_ends me)).place ≡ true
  pub takes : Takes before.end value notes after.end
  pub reads : value ≡ value_in link.memory (access_at (config_of link_config me) (opened (config_of link_config me) (link.auto_ends me)).place)
  pub counts : (one other : List ℕ) → Counts before.auto (marks_between one other notes) after.auto

marks_taken : (me : ℕ) (link : Link) (before : AutoEndpoint) (value : ℕ) (notes : List Note) (after : AutoEndpoint) → Took me link before value notes after →
    marks_between (offered before.end) (delivered after.end) notes ≡
    marks_at (config_of link_config me) (opened (config_of link_config me) (link.auto_ends me)).place (value_in link.memory (access_at (config_of link_config me) (opened (config_of link_config me) (link.auto_ends me)).place))
marks_taken me link before value notes after took =
    let auto_end : AutoEnd = opened (config_of link_config me) (link.auto_ends me) in
    took.takes.marked (config_of link_config me) auto_end.end auto_end.place took.refines.end ∙ ap (marks_at (config_of link_config me) auto_end.place) took.reads

pub auto_end_turned : (me : ℕ) (link : Link) (before : AutoEndpoint) (value : ℕ) (notes : List Note) (after : AutoEndpoint) → Took me link before value notes after →
    AutoEndRefines me ((turned me link).auto_ends me) after
auto_end_turned me link before value notes after took =
    let config : EndConfig = config_of link_config me in
    let auto_end : AutoEnd = opened config (link.auto_ends me) in
    let v : ℕ = value_in link.memory (access_at config auto_end.place) in
    let end : RefinesAt after.end config (end_after auto_end.end (step_at config auto_end.place v)) (next_place config auto_end.place v) =
    subst (λ (n : ℕ). RefinesAt after.end config (end_after auto_end.end (step_at config auto_end.place n)) (next_place config auto_end.place n)) took.reads
    (took.takes.refines config auto_end.end auto_end.place took.refines.end) in
    let counts : Counts before.auto (marks_at config auto_end.place v) after.auto =
    subst (λ (ms : List Mark). Counts before.auto ms after.auto) (marks_taken me link before value notes after took) (took.counts (offered before.end) (delivered after.end)) in
    let here : (turned me link).auto_ends me ≡ stepped config v auto_end =
    ap (λ (l : Link). l.auto_ends me) (turned_open me link took.opens) ∙ put_here link.auto_ends me (stepped config v auto_end) in
    subst (λ (p : AutoEnd). AutoEndRefines me p after) (sym here) (record { end = end; plan = plan_stepped config v auto_end before.auto after.auto counts took.refines.plan })

pub recorded_turned : (me : ℕ) (link : Link) (before : AutoEndpoint) (value : ℕ) (notes : List Note) (after : AutoEndpoint) (recorded : Bool) → Took me link before value notes after →
    list_any is_delivery notes ≡ recorded → observed_by me link ≡ delivered_if recorded (delivered after.end)
recorded_turned me link before value notes after recorded took any =
    let config : EndConfig = config_of link_config me in
    let auto_end : AutoEnd = opened config (link.auto_ends me) in
    let v : ℕ = value_in link.memory (access_at config auto_end.place) in
    ap (λ (b : Bool). if b then delivered_by (marks_at config auto_end.place v) else []) took.opens ∙
    recorded_is (offered before.end) (delivered after.end) notes (marks_at config auto_end.place v) recorded (marks_taken me link before value notes after took) (at_most_one config auto_end.place v) any

pub words_turned : (me : ℕ) (link : Link) (access : Access) (region : Words) → is_open (opened (config_of link_config me) (link.auto_ends me)).place ≡ true →
    access ≡ access_at (config_of link_config me) (opened (config_of link_config me) (link.auto_ends me)).place → RegionRefines (words_after me link.memory access) region →
    RegionRefines (turned me link).memory region
words_turned me link access region opens is refines =
    subst (λ (l : Link). RegionRefines l.memory region) (sym (turned_open me link opens))
    (subst (λ (a : Access). RegionRefines (words_after me link.memory a) region) is refines)
