-- A relaxed load has one result at each moment of the other from the view on. The writer of the
-- word can't reuse the word yet.
use Rattle.std.proofs.Common.{◌≡◌, ◌≢◌, ℕ, zero, suc, ◌+◌, ◌<◌, Bool, true, false, List, [], ◌∷◌, ◌++◌, length, refl, sym, ap, ◌∙◌, subst, arith, append_assoc, length-append, ne_eqb}
use Rattle.std.specs.Prelude.{◌==◌, if◌then◌else◌}
use Rattle.std.proofs.lemmas.Bool.Decides.{nat_tests}
use Rattle.std.proofs.Math.ListN.{get_or-append}
use Rattle.std.proofs.Math.Seq.{get_or-append_seam}
use Rattle.split_ring.specs.declared.ranges.FieldName.TheVariants as field_name
use Rattle.split_ring.specs.declared.steps.Access.{Access}
use Rattle.split_ring.specs.declared.steps.Access.TheVariants as access
use Rattle.split_ring.specs.Spelling.{desc_flags}
use Rattle.split_ring.specs.Ranges.{is_avail_entry, is_desc_address, is_desc_length, is_desc_flags}
use Rattle.split_ring.proofs.FramesAreLaidOut.{frames_are_laid_out}
use Rattle.link_handshake.specs.declared.Phase.TheVariants.{Init}
use Rattle.call_grammar.specs.Steps.{Mark, Saw, Reclaim, Full, Accept, Look, Deliver, Return, Done, Down, Refuse, Over}
use Rattle.call_grammar.specs.Ends.{End, with_mark, with_marks, with_access, end_after}
use Rattle.call_grammar.specs.Words.{words_for, lengths_of, address_of, frame_in}
use Rattle.call_grammar.specs.Offers.{refusal, descriptor_of}
use Rattle.call_grammar.specs.Polls.{entry_in}
use Rattle.call_grammar.specs.Places.{Place, WritingState, Refusing, ReadingUsedId, ReadingAvailEntry, ReadingDescAddressLow, ReadingDescAddressHigh, ReadingDescLength, ReadingDescFlags, ReadingFrameWord, words_place, ids_place, access_at, next_place, step_at}
use Rattle.call_grammar.proofs.OfferLists.{yes, no}
use Rattle.link_invariant.specs.Fields.{Field}
use Rattle.link_invariant.specs.LinkConfig.{LinkConfig, config_of, first_words}
use Rattle.link_invariant.specs.EndInvariant.{frame_at, start_in, PlaceInvariant}
use Rattle.link_invariant.specs.Pair.{Polls}
use Rattle.weak_orders.specs.Memory.{Moment, Action, Starts, Begins, Takes, Fences, Receives, Resets, Does}
use Rattle.split_ring.proofs.TestsDecideRanges.{flags_of_test}

passed : (b : Bool) (x : Place) → (if b then x else Refusing) ≢ Refusing → b ≡ true
passed true x h = refl
passed false x h = absurd (h refl)

is_so : (a b : ℕ) → (a == b) ≡ true → a ≡ b
is_so a b h = grind (arith, nat_tests)

-- A frame in a list has the same position in a longer list.
frame_more : (fs gs t : List (List ℕ)) (k : ℕ) → gs ≡ fs ++ t → k < length fs → frame_at gs k ≡ frame_at fs k
frame_more fs gs t k e lt = ap (λ (x : List (List ℕ)). frame_at x k) e ∙ get_or-append fs t [] k lt

start_more : (link_config : LinkConfig) (fs gs t : List (List ℕ)) (k : ℕ) → gs ≡ fs ++ t → k < length fs → start_in link_config gs k ≡ start_in link_config fs k
start_more link_config fs gs t k e lt = frames_are_laid_out.by_prefix link_config.sizes (lengths_of gs) (lengths_of fs) k (λ j le. ap length (frame_more fs gs t j e (omega arith)))

-- A delivered frame is the accepted frame with the same number.
refines : (done fs rest : List (List ℕ)) (f : List ℕ) → fs ≡ (done ++ f ∷ []) ++ rest → frame_at fs (length done) ≡ f
refines done fs rest f e = ap (λ (x : List (List ℕ)). frame_at x (length done)) (e ∙ append_assoc done (f ∷ []) rest) ∙ get_or-append_seam done f rest []

-- The places whose access is a relaxed load of a field of a poll or an offer.
abbrev pub IsRelaxed : Place → Type 0
IsRelaxed (ReadingUsedId pending freed more) = Unit {0}
IsRelaxed (ReadingAvailEntry number more) = Unit {0}
IsRelaxed (ReadingDescAddressLow number more entry) = Unit {0}
IsRelaxed (ReadingDescAddressHigh number more entry low) = Unit {0}
IsRelaxed (ReadingDescLength number more entry address) = Unit {0}
IsRelaxed (ReadingDescFlags number more entry address bytes) = Unit {0}
IsRelaxed (ReadingFrameWord number more entry address bytes read words) = Unit {0}
IsRelaxed place = ⊥

-- The invariant after a load: no refusal, the values of the poll, and the frames delivered.
pub record Sound (link_config : LinkConfig) (p : ℕ) (end : End) (place : Place) (v : ℕ) (frames : List (List ℕ)) : Type 0 where
  pub calm : next_place (config_of link_config p) place v ≢ Refusing
  pub field : Field → ℕ
  pub polls : Polls link_config field frames (next_place (config_of link_config p) place v)
  pub rest : List (List ℕ)
  pub prefix : frames ≡ (end_after end (step_at (config_of link_config p) place v)).delivered ++ rest

abbrev pub SameLook : LinkConfig → ℕ → End → Place → (v w : ℕ) → Type 0
SameLook link_config p end place v w = (end_after end (step_at (config_of link_config p) place v) ≡ end_after end (step_at (config_of link_config p) place w)) × (next_place (config_of link_config p) place v ≡ next_place (config_of link_config p) place w)

same_value : (link_config : LinkConfig) (p : ℕ) (end : End) (place : Place) (v w : ℕ) → v ≡ w → SameLook link_config p end place v w
same_value link_config p end place v w e = (ap (λ (k : ℕ). end_after end (step_at (config_of link_config p) place k)) e, ap (λ (k : ℕ). next_place (config_of link_config p) place k) e)

pub same_look : (link_config : LinkConfig) (p : ℕ) (end : End) (place : Place) (v w : ℕ) (fs gs t : List (List ℕ)) → IsRelaxed place → gs ≡ fs ++ t → Sound link_config p end place v fs → Sound link_config p end place w gs → SameLook link_config p end place v w
same_look link_config p end (ReadingUsedId pending freed more) v w fs gs t r e a b = let d = descriptor_of (config_of link_config p) freed in
    same_value link_config p end (ReadingUsedId pending freed more) v w (is_so v d (passed (v == d) (ids_place (config_of link_config p) pending (freed + 1) more) a.calm) ∙ sym (is_so w d (passed (w == d) (ids_place (config_of link_config p) pending (freed + 1) more) b.calm)))
same_look link_config p end (ReadingAvailEntry number more) v w fs gs t r e a b =
    let x = entry_in (config_of link_config p) number v in let y = entry_in (config_of link_config p) number w in
    let f = subst (Polls link_config a.field fs) (yes (is_avail_entry link_config.sizes x) (ReadingDescAddressLow number more x) Refusing (passed (is_avail_entry link_config.sizes x) (ReadingDescAddressLow number more x) a.calm)) a.polls in
    let g = subst (Polls link_config b.field gs) (yes (is_avail_entry link_config.sizes y) (ReadingDescAddressLow number more y) Refusing (passed (is_avail_entry link_config.sizes y) (ReadingDescAddressLow number more y) b.calm)) b.polls in
    let same : x ≡ y = f.1 ∙ sym g.1 in
    (ap (λ (k : ℕ). with_marks end (if is_avail_entry link_config.sizes k then [] else refusal field_name.AvailEntry k)) same, ap (λ (k : ℕ). if is_avail_entry link_config.sizes k then ReadingDescAddressLow number more k else Refusing) same)
same_look link_config p end (ReadingDescAddressLow number more entry) v w fs gs t r e a b =
    let up = a.polls.0 in same_value link_config p end (ReadingDescAddressLow number more entry) v w (a.polls.2 ∙ (sym (start_more link_config fs gs t number e (omega arith)) ∙ sym b.polls.2))
same_look link_config p end (ReadingDescAddressHigh number more entry low) v w fs gs t r e a b =
    let x = address_of low v in let y = address_of low w in
    let f = subst (Polls link_config a.field fs) (yes (is_desc_address link_config.sizes x) (ReadingDescLength number more entry x) Refusing (passed (is_desc_address link_config.sizes x) (ReadingDescLength number more entry x) a.calm)) a.polls in
    let g = subst (Polls link_config b.field gs) (yes (is_desc_address link_config.sizes y) (ReadingDescLength number more entry y) Refusing (passed (is_desc_address link_config.sizes y) (ReadingDescLength number more entry y) b.calm)) b.polls in
    let up = f.0 in let same : x ≡ y = f.2 ∙ (sym (start_more link_config fs gs t number e (omega arith)) ∙ sym g.2) in
    same_value link_config p end (ReadingDescAddressHigh number more entry low) v w (omega arith)
same_look link_config p end (ReadingDescLength number more entry address) v w fs gs t r e a b =
    let f = subst (Polls link_config a.field fs) (yes (is_desc_length link_config.sizes address v) (ReadingDescFlags number more entry address v) Refusing (passed (is_desc_length link_config.sizes address v) (ReadingDescFlags number more entry address v) a.calm)) a.polls in
    let g = subst (Polls link_config b.field gs) (yes (is_desc_length link_config.sizes address w) (ReadingDescFlags number more entry address w) Refusing (passed (is_desc_length link_config.sizes address w) (ReadingDescFlags number more entry address w) b.calm)) b.polls in
    let up = f.0 in same_value link_config p end (ReadingDescLength number more entry address) v w (f.3 ∙ (ap length (sym (frame_more fs gs t number e (omega arith))) ∙ sym g.3))
same_look link_config p end (ReadingDescFlags number more entry address bytes) v w fs gs t r e a b =
    let same : desc_flags v ≡ desc_flags w = flags_of_test (desc_flags v) (passed (is_desc_flags (desc_flags v)) _ a.calm) ∙ sym (flags_of_test (desc_flags w) (passed (is_desc_flags (desc_flags w)) _ b.calm)) in
    (ap (λ (k : ℕ). with_marks end (if is_desc_flags k then [] else refusal field_name.DescFlags k)) same, ap (λ (k : ℕ). if is_desc_flags k then words_place number more entry address bytes [] (words_for bytes) else Refusing) same)
same_look link_config p end (ReadingFrameWord number more entry address bytes read zero) v w fs gs t r e a b =
    let f = refines end.delivered fs a.rest (frame_in bytes (read ++ v ∷ [])) a.prefix in let g = refines end.delivered gs b.rest (frame_in bytes (read ++ w ∷ [])) b.prefix in
    let n = ap length a.prefix in let m = length-append (end.delivered ++ frame_in bytes (read ++ v ∷ []) ∷ []) a.rest in let k = length-append end.delivered (frame_in bytes (read ++ v ∷ []) ∷ []) in
    let same = sym f ∙ (sym (frame_more fs gs t (length end.delivered) e (omega arith)) ∙ g) in
    (ap (λ (x : List ℕ). with_marks end (Deliver x ∷ [])) same, refl)
same_look link_config p end (ReadingFrameWord number more entry address bytes read (suc words)) v w fs gs t r e a b =
    let up = a.polls.0 in let m = length-append read (v ∷ []) in let n = length-append read (w ∷ []) in
    let same : read ++ v ∷ [] ≡ read ++ w ∷ [] = a.polls.4 ∙ (ap (λ (x : List ℕ). first_words x (length (read ++ v ∷ []))) (sym (frame_more fs gs t number e (omega arith))) ∙ (ap (first_words (frame_at gs number)) (let c : length (read ++ v ∷ []) ≡ length (read ++ w ∷ []) = omega arith in c) ∙ sym b.polls.4)) in
    (ap (λ (x : List ℕ). with_marks end (if suc words == 0 then Deliver (frame_in bytes x) ∷ [] else [])) same, ap (λ (x : List ℕ). ReadingFrameWord number more entry address bytes x words) same)
same_look link_config p end place v w fs gs t r e a b = absurd r

-- The accepted frames stay while the other opens no session

pub none : (fs : List (List ℕ)) → (t : List (List ℕ)) × (fs ≡ fs ++ t)
none [] = ([], refl)
none (f ∷ fs) = ([], ap (λ (x : List (List ℕ)). f ∷ x) (nil fs))
  where
    nil : (xs : List (List ℕ)) → xs ≡ xs ++ []
    nil [] = refl
    nil (x ∷ xs) = ap (λ (y : List (List ℕ)). x ∷ y) (nil xs)

pub noted_grows : (end now : End) (marks : List Mark) → (t : List (List ℕ)) × (now.accepted ≡ end.accepted ++ t) → (t : List (List ℕ)) × ((with_marks now marks).accepted ≡ end.accepted ++ t)
noted_grows end now [] h = h
noted_grows end now (Saw value ∷ marks) h = noted_grows end now marks h
noted_grows end now (Reclaim count ∷ marks) h = noted_grows end (with_mark now (Reclaim count)) marks h
noted_grows end now (Full ∷ marks) h = noted_grows end now marks h
noted_grows end now (Accept frame ∷ marks) h = noted_grows end (with_mark now (Accept frame)) marks (h.0 ++ frame ∷ [], ap (λ (x : List (List ℕ)). x ++ frame ∷ []) h.1 ∙ append_assoc end.accepted h.0 (frame ∷ []))
noted_grows end now (Look count ∷ marks) h = noted_grows end (with_mark now (Look count)) marks h
noted_grows end now (Deliver frame ∷ marks) h = noted_grows end (with_mark now (Deliver frame)) marks h
noted_grows end now (Return ∷ marks) h = noted_grows end (with_mark now Return) marks h
noted_grows end now (Done ∷ marks) h = noted_grows end now marks h
noted_grows end now (Down ∷ marks) h = noted_grows end now marks h
noted_grows end now (Refuse refused ∷ marks) h = noted_grows end (with_mark now (Refuse refused)) marks h
noted_grows end now (Over ∷ marks) h = noted_grows end now marks h

pub stated_keeps : (end : End) (a : Access) → ((s : ℕ) → a ≡ access.State s → s ≢ 2) → (with_access end a).accepted ≡ end.accepted
stated_keeps end (access.State s) two = no (s == 2) [] end.accepted (ne_eqb s 2 (two s refl))
stated_keeps end (access.Write at n) two = refl
stated_keeps end (access.Read word) two = refl
stated_keeps end (access.Ring target vector) two = refl
stated_keeps end access.Nothing two = refl

abbrev pub state_in : Access → ℕ
state_in (access.State s) = s
state_in a = 0

no_two : (link_config : LinkConfig) (memory : ℕ → ℕ) (q : ℕ) (end : End) (place : Place) → PlaceInvariant link_config memory q end place → end.handshake.phase ≢ Init → (s : ℕ) → access_at (config_of link_config q) place ≡ access.State s → s ≢ 2
no_two link_config memory q end place h apart s e f = open_none place h (ap state_in e ∙ f)
  where
    open_none : (place : Place) → PlaceInvariant link_config memory q end place → state_in (access_at (config_of link_config q) place) ≡ 2 → ⊥
    open_none (WritingState state) h e = let g : PlaceInvariant link_config memory q end (WritingState 2) = subst (λ k. PlaceInvariant link_config memory q end (WritingState k)) e h in apart g.0
    open_none place h e = omega arith

pub grows : (link_config : LinkConfig) (memory : ℕ → ℕ) (q : ℕ) (old new : Moment) (action : Action) → Does link_config q old new action → PlaceInvariant link_config memory q old.end old.place → old.end.handshake.phase ≢ Init → (t : List (List ℕ)) × (new.end.accepted ≡ old.end.accepted ++ t)
grows link_config memory q old new Starts d h apart = absurd d
grows link_config memory q old new (Begins call) d h apart = let n = none old.end.accepted in (n.0, ap (λ (e : End). e.accepted) d.3 ∙ n.1)
grows link_config memory q old new Fences d h apart = let n = none old.end.accepted in (n.0, ap (λ (e : End). e.accepted) d.1 ∙ n.1)
grows link_config memory q old new (Receives k) d h apart = let n = none old.end.accepted in (n.0, ap (λ (e : End). e.accepted) d.1 ∙ n.1)
grows link_config memory q old new Resets d h apart = let n = none old.end.accepted in (n.0, ap (λ (e : End). e.accepted) d.1 ∙ n.1)
grows link_config memory q old new (Takes value) d h apart = let config = config_of link_config q in let a = access_at config old.place in let n = none old.end.accepted in
    let g = noted_grows old.end (with_access old.end a) (step_at config old.place value).marks (n.0, stated_keeps old.end a (no_two link_config memory q old.end old.place h apart) ∙ n.1) in
    (g.0, ap (λ (e : End). e.accepted) d.2 ∙ g.1)
