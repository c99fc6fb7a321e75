-- A peer that found no frame is rung at the next one.
use Rattle.std.proofs.Common.{◌≡◌, ◌≢◌, ℕ, ◌-◌, ◌%◌, ◌<◌, ◌⊎◌, inl, inr, true, false, List, [], ◌∷◌, ◌++◌, length, length-append, refl, sym, ap, ◌∙◌, subst, append_assoc, arith, eq-eqb, ne_eqb}
use mathlib.Core.Logic.{dite}
use native.Mathlib.Decide.{ℕ_discrete}
use Rattle.std.specs.Prelude.{◌==◌, reverse, All}
use Rattle.std.specs.List.{AllByRecursion}
use Rattle.std.proofs.lemmas.List.{reverse-append}
use Rattle.std.proofs.lemmas.List.Elements.{recursion_from_All}
use Rattle.split_ring.specs.Layout.{has_events}
use Rattle.split_ring.specs.Spelling.{low_half}
use Rattle.scenario_text.specs.Scenario.{World, IsWorld, is_link}
use Rattle.call_grammar.specs.Steps.{Mark, Accept, Look, Done, Over}
use Rattle.call_grammar.specs.Offers.{wants_doorbell}
use Rattle.link_machine.specs.LinkMachine.{Side, SideEvent, Gave, Wrote, Marked, WasReset, MayLook}
use Rattle.call_grammar.proofs.OfferLists.{yes, no}
use Rattle.link_invariant.proofs.DoorbellIsRung.{asks_there}
use Rattle.lawful_history.specs.declared.line.Line.{Line}
use Rattle.lawful_history.specs.declared.line.Line.TheVariants as line
use Rattle.lawful_history.specs.Memory.{MemoryEffect, Stored, Set, memory_effect_of, value_after, last_write, DoesNotWrite}
use Rattle.lawful_history.specs.Memory as touch
use Rattle.lawful_history.specs.Sides.{traffic_vector}
use Rattle.lawful_history.specs.Lawful.{IsLawful}
use Rattle.history_laws.specs.SideEvents.{LineSideEvent, HasEvent, HasNoEvent, line_side_event_of, side_after, side_after_line, side_of}
use Rattle.history_laws.specs.Rows.{EachLine}
use Rattle.history_laws.specs.Reads.{Reading, Takes, Breaks, Passes, reading_of}
use Rattle.history_laws.specs.Wake.{event_word, EventIs, LeavesEvent, doorbell_of, GoesOn, IsRungIn, AcceptsNothing, WakesAreRung}
use Rattle.history_laws.proofs.Unrung.{StaysUnrung, Unrung}
use Rattle.history_laws.proofs.LinkPlaces.{Fine, MarkRests, first_after}
use Rattle.history_laws.proofs.OtherLines.{here_is, there_is}
use Rattle.history_laws.proofs.Lines.{at_line, middle}
use Rattle.history_laws.proofs.PlacesAlong.{all_fine}

-- The lines of an offer: they have the doorbell, or the frame is unrung after them

doorbell_or_not : (world : World) (p : ℕ) (l : Line) → (l ≡ doorbell_of world p) ⊎ (l ≢ doorbell_of world p)
doorbell_or_not world p (line.Doorbell peer target vector) =
    dite (ℕ_discrete peer p)
    (λ e. dite (ℕ_discrete target (1 - p)) (λ f. dite (ℕ_discrete vector (traffic_vector world.wiring)) (λ g. inl (cc)) (λ ng. inr (λ is. ng (cc)))) (λ nf. inr (λ is. nf (cc))))
    (λ ne. inr (λ is. ne (cc)))
doorbell_or_not world p l = inr (λ is. cc)

goes_reading : (p : ℕ) (l : Line) → GoesOn p (line_side_event_of l) → reading_of l ≢ Breaks p
goes_reading p (line.Reset peer) goes e = goes (cc)
goes_reading p (line.Saw peer value) goes e = goes (cc)
goes_reading p (line.Reclaim peer count) goes e = goes (cc)
goes_reading p (line.Full peer) goes e = goes (cc)
goes_reading p (line.Accept peer frame) goes e = goes (cc)
goes_reading p (line.Look peer count) goes e = goes (cc)
goes_reading p (line.Deliver peer frame) goes e = goes (cc)
goes_reading p (line.Return peer) goes e = goes (cc)
goes_reading p (line.Done peer) goes e = goes (cc)
goes_reading p (line.Down peer) goes e = goes (cc)
goes_reading p (line.Refuse peer refused) goes e = goes (cc)
goes_reading p (line.Over peer) goes e = goes (cc)
goes_reading p l goes e = cc

stays_unrung : (r : Reading) (p : ℕ) (older : Type 0) → r ≢ Breaks p → older → StaysUnrung r p older
stays_unrung (Takes peer word value) p older ne unrung = unrung
stays_unrung (Breaks peer) p older ne unrung = (λ e. ne (ap Breaks e), unrung)
stays_unrung Passes p older ne unrung = unrung

rung_or_not : (world : World) (p : ℕ) (offer past : List Line) → AllByRecursion (λ l. GoesOn p (line_side_event_of l)) offer → Unrung world p past → IsRungIn world p offer ⊎ Unrung world p (reverse offer ++ past)
rung_or_not world p [] past goes unrung = inr unrung
rung_or_not world p (l ∷ offer) past goes unrung = elim (doorbell_or_not world p l) [
  | inl e ↦ inl ([], offer, ap (λ (first : Line). first ∷ offer) e)
  | inr ne ↦ elim (rung_or_not world p offer (l ∷ past) goes.1 (inr (ne, stays_unrung (reading_of l) p (Unrung world p past) (goes_reading p l goes.0) unrung))) [
    | inl rung ↦ inl (l ∷ rung.0, rung.1, ap (λ (ls : List Line). l ∷ ls) rung.2)
    | inr still ↦ inr (subst (Unrung world p) (sym (first_after l offer past)) still)
  ]
]

-- Lines leave a word in which they leave no value, and the frames that a peer accepted

touch_keeps : (t : MemoryEffect) (word before : ℕ) → ((value : ℕ) → ¬ ((t ≡ Set word value) ⊎ ((peer : ℕ) × (t ≡ Stored peer word value)))) → value_after t word before ≡ before
touch_keeps (touch.Gave at value) word before spares = refl
touch_keeps (Stored peer at value) word before spares = dite (ℕ_discrete at word) (λ e. absurd (spares value (inr (peer, ap (λ (w : ℕ). Stored peer w value) e)))) (λ ne. there_is at word value before ne)
touch_keeps (touch.Denied peer at) word before spares = refl
touch_keeps (Set at value) word before spares = dite (ℕ_discrete at word) (λ e. absurd (spares value (inl (ap (λ (w : ℕ). Set w value) e)))) (λ ne. there_is at word value before ne)
touch_keeps touch.Apart word before spares = refl

word_kept : (word : ℕ) (lines past : List Line) → AllByRecursion (DoesNotWrite word) lines → last_write (reverse lines ++ past) word ≡ last_write past word
word_kept word [] past spares = refl
word_kept word (l ∷ lines) past spares =
    ap (λ (ls : List Line). last_write ls word) (first_after l lines past) ∙ (word_kept word lines (l ∷ past) spares.1 ∙ touch_keeps (memory_effect_of l) word (last_write past word) spares.0)

mark_keeps : (peer p : ℕ) (mark : Mark) (side : Side) → peer ≡ p → AcceptsNothing p (HasEvent peer (Marked mark)) → (side_after (Marked mark) side).accepted ≡ side.accepted
mark_keeps peer p (Accept frame) side e none = absurd (none e)
mark_keeps peer p _ side e none = refl

after_keeps : (peer p : ℕ) (side_event : SideEvent) (side : Side) → peer ≡ p → AcceptsNothing p (HasEvent peer side_event) → (side_after side_event side).accepted ≡ side.accepted
after_keeps peer p (Gave value) side e none = refl
after_keeps peer p (Wrote state) side e none = no (state == 2) [] side.accepted (ne_eqb state 2 (none e))
after_keeps peer p (Marked mark) side e none = mark_keeps peer p mark side e none
after_keeps peer p WasReset side e none = refl

side_event_keeps : (t : LineSideEvent) (p : ℕ) (side : Side) → AcceptsNothing p t → (side_after_line t p side).accepted ≡ side.accepted
side_event_keeps HasNoEvent p side none = refl
side_event_keeps (HasEvent peer side_event) p side none = dite (ℕ_discrete peer p)
    (λ e. ap (λ (x : Side). x.accepted) (yes (peer == p) (side_after side_event side) side (eq-eqb peer p e)) ∙ after_keeps peer p side_event side e none)
    (λ ne. ap (λ (x : Side). x.accepted) (there_is peer p (side_after side_event side) side ne))

accepted_kept : (p : ℕ) (lines past : List Line) → AllByRecursion (λ l. AcceptsNothing p (line_side_event_of l)) lines → (side_of (reverse lines ++ past) p).accepted ≡ (side_of past p).accepted
accepted_kept p [] past none = refl
accepted_kept p (l ∷ lines) past none =
    ap (λ (ls : List Line). (side_of ls p).accepted) (first_after l lines past) ∙ (accepted_kept p lines (l ∷ past) none.1 ∙ side_event_keeps (line_side_event_of l) p (side_of past p) none.0)

goes_marked : (peer p : ℕ) (mark : Mark) → GoesOn p (HasEvent peer (Marked mark)) → AcceptsNothing p (HasEvent peer (Marked mark))
goes_marked peer p (Accept frame) goes = goes
goes_marked peer p mark goes = tt

goes_side_event : (p : ℕ) (t : LineSideEvent) → GoesOn p t → AcceptsNothing p t
goes_side_event p (HasEvent peer (Gave value)) goes = tt
goes_side_event p (HasEvent peer (Wrote state)) goes = λ same. absurd (goes same)
goes_side_event p (HasEvent peer (Marked mark)) goes = goes_marked peer p mark goes
goes_side_event p (HasEvent peer WasReset) goes = tt
goes_side_event p HasNoEvent goes = tt

goes_accepts : (p : ℕ) (lines : List Line) → AllByRecursion (λ l. GoesOn p (line_side_event_of l)) lines → AllByRecursion (λ l. AcceptsNothing p (line_side_event_of l)) lines
goes_accepts p [] goes = tt
goes_accepts p (l ∷ lines) goes = (goes_side_event p (line_side_event_of l) goes.0, goes_accepts p lines goes.1)

-- The lines up to an accept.
abbrev accepted_past : ℕ → List ℕ → List Line → List Line
accepted_past p frame lines = line.Accept p frame ∷ reverse lines

-- The rule

abbrev IsRung : Type 0
IsRung = (world : World) (before since offer after : List Line) (p : ℕ) (frame : List ℕ) → IsWorld world → p < 2 → is_link world (1 - p) ≡ true →
    IsLawful world (before ++ since ++ line.Accept (1 - p) frame ∷ offer ++ line.Over (1 - p) ∷ after) →
    EventIs world (reverse before) p (length (side_of (reverse (before ++ since)) (1 - p)).accepted) →
    All (LeavesEvent world p) since → All (LeavesEvent world p) offer → All (λ l. GoesOn (1 - p) (line_side_event_of l)) offer → IsRungIn world (1 - p) offer

is_rung : IsRung
is_rung world before since offer after p frame is below honest lawful event spares_since spares_offer goes_on =
    let goes = recursion_from_All (λ (l : Line). GoesOn (1 - p) (line_side_event_of l)) offer goes_on in
    elim (rung_or_not world (1 - p) offer (accepted_past (1 - p) frame (before ++ since)) goes (inl (frame, refl))) [
      | inl rung ↦ rung
      | inr unrung ↦ let denied = over_rest unrung in let e : false ≡ true = sym denied ∙ asks goes in absurd (cc)
    ]
  where
    over_rest : MarkRests world (reverse offer ++ accepted_past (1 - p) frame (before ++ since)) (1 - p) Over
    over_rest =
        let over = line.Over (1 - p) in
        let front = (before ++ since) ++ line.Accept (1 - p) frame ∷ offer in
        let all : EachLine (Fine world) (reverse (front ++ over ∷ after)) = all_fine world (front ++ over ∷ after) is lawful in
        subst (λ (ls : List Line). MarkRests world ls (1 - p) Over) (middle (before ++ since) offer (line.Accept (1 - p) frame)) (at_line (Fine world) front after over all).1

    number : AllByRecursion (λ l. GoesOn (1 - p) (line_side_event_of l)) offer → length (side_of (reverse offer ++ accepted_past (1 - p) frame (before ++ since)) (1 - p)).accepted - 1 ≡ length (side_of (reverse (before ++ since)) (1 - p)).accepted
    number goes =
        let side = side_of (reverse (before ++ since)) (1 - p) in
        let kept = ap length (accepted_kept (1 - p) offer (line.Accept (1 - p) frame ∷ reverse (before ++ since)) (goes_accepts (1 - p) offer goes)) in
        let here = ap (λ (x : Side). length x.accepted) (here_is (1 - p) (side_after (Marked (Accept frame)) side) side) in
        omega (arith, kept, here, length-append side.accepted (frame ∷ []))

    refines : last_write (reverse offer ++ accepted_past (1 - p) frame (before ++ since)) (event_word world p) ≡ last_write (reverse before) (event_word world p)
    refines =
        word_kept (event_word world p) offer (line.Accept (1 - p) frame ∷ reverse (before ++ since)) (recursion_from_All (DoesNotWrite (event_word world p)) offer spares_offer) ∙
        (ap (λ (ls : List Line). last_write ls (event_word world p)) (reverse-append before since) ∙
        word_kept (event_word world p) since (reverse before) (recursion_from_All (DoesNotWrite (event_word world p)) since spares_since))

    asks : AllByRecursion (λ l. GoesOn (1 - p) (line_side_event_of l)) offer →
        wants_doorbell (low_half (last_write (reverse offer ++ accepted_past (1 - p) frame (before ++ since)) (event_word world (1 - (1 - p))))) (length (side_of (reverse offer ++ accepted_past (1 - p) frame (before ++ since)) (1 - p)).accepted - 1) ≡ true
    asks goes =
        let back : 1 - (1 - p) ≡ p = omega arith in
        let count = length (side_of (reverse (before ++ since)) (1 - p)).accepted in
        ap (λ (k : ℕ). wants_doorbell (low_half (last_write (reverse offer ++ accepted_past (1 - p) frame (before ++ since)) (event_word world k))) (length (side_of (reverse offer ++ accepted_past (1 - p) frame (before ++ since)) (1 - p)).accepted - 1)) back ∙
        (ap (λ (k : ℕ). wants_doorbell (low_half (last_write (reverse offer ++ accepted_past (1 - p) frame (before ++ since)) (event_word world p))) k) (number goes) ∙
        (ap (λ (v : ℕ). wants_doorbell (low_half v) count) refines ∙ (ap (λ (v : ℕ). wants_doorbell v count) event ∙ asks_there count)))

abbrev IsNext : Type 0
IsNext = (world : World) (before after : List Line) (p : ℕ) → IsWorld world → is_link world (1 - p) ≡ true → IsLawful world (before ++ line.Look p 0 ∷ after) →
    length (side_of (reverse before) (1 - p)).accepted ≡ length (side_of (reverse before) p).delivered

is_next : IsNext
is_next world before after p is honest lawful =
    let row = (at_line (Fine world) before after (line.Look p 0) (all_fine world (before ++ line.Look p 0 ∷ after) is lawful)).0.1.1.2 in
    let found : MayLook world.queue true (side_of (reverse before) p) (side_of (reverse before) (1 - p)) 0 =
    subst (λ (b : _). MayLook world.queue b (side_of (reverse before) p) (side_of (reverse before) (1 - p)) 0) honest row in omega arith

-- A read of the available index changes no frames.
looked_delivered : (p : ℕ) (past : List Line) → length (side_of (line.Look p 0 ∷ past) p).delivered ≡ length (side_of past p).delivered
looked_delivered p past = ap (λ (x : Side). length x.delivered) (here_is p (side_after (Marked (Look 0)) (side_of past p)) (side_of past p))

abbrev IsArmed : Type 0
IsArmed = (world : World) (before after : List Line) (p : ℕ) → IsWorld world → has_events world.queue ≡ true → IsLawful world (before ++ line.Look p 0 ∷ line.Done p ∷ after) →
    EventIs world (reverse before) p (length (side_of (reverse before) p).delivered)

is_armed : IsArmed
is_armed world before after p is has lawful =
    let look = line.Look p 0 in
    let joined : before ++ (look ∷ (line.Done p ∷ after)) ≡ (before ++ look ∷ []) ++ line.Done p ∷ after = sym (append_assoc before (look ∷ []) (line.Done p ∷ after)) in
    let all : EachLine (Fine world) (reverse ((before ++ look ∷ []) ++ line.Done p ∷ after)) = subst (λ (ls : List Line). EachLine (Fine world) (reverse ls)) joined (all_fine world (before ++ (look ∷ (line.Done p ∷ after))) is lawful) in
    let done : MarkRests world (look ∷ reverse before) p Done =
    subst (λ (ls : List Line). MarkRests world ls p Done) (middle before [] look) (at_line (Fine world) (before ++ look ∷ []) after (line.Done p) all).1 in
    done has refl ∙ ap (λ (k : ℕ). k % 65536) (looked_delivered p (reverse before))

abbrev Wakes : Type 0
Wakes = (world : World) (before since offer after : List Line) (p : ℕ) (frame : List ℕ) → IsWorld world → has_events world.queue ≡ true → p < 2 → is_link world (1 - p) ≡ true →
    IsLawful world (before ++ line.Look p 0 ∷ line.Done p ∷ [] ++ since ++ line.Accept (1 - p) frame ∷ offer ++ line.Over (1 - p) ∷ after) →
    All (LeavesEvent world p) since → All (λ l. AcceptsNothing (1 - p) (line_side_event_of l)) since →
    All (LeavesEvent world p) offer → All (λ l. GoesOn (1 - p) (line_side_event_of l)) offer → IsRungIn world (1 - p) offer

wakes_hold : Wakes
wakes_hold world before since offer after p frame is has below honest lawful spares_since idle spares_offer goes =
    let front = before ++ line.Look p 0 ∷ line.Done p ∷ [] in
    is_rung world front since offer after p frame is below honest lawful (subst (EventIs world (reverse front) p) number event) spares_since spares_offer goes
  where
    joined : before ++ line.Look p 0 ∷ line.Done p ∷ [] ++ since ++ line.Accept (1 - p) frame ∷ offer ++ line.Over (1 - p) ∷ after ≡ before ++ (line.Look p 0 ∷ (line.Done p ∷ (since ++ (line.Accept (1 - p) frame ∷ (offer ++ line.Over (1 - p) ∷ after)))))
    joined =
        let asleep = line.Look p 0 ∷ line.Done p ∷ [] in
        append_assoc ((before ++ asleep) ++ since) (line.Accept (1 - p) frame ∷ offer) (line.Over (1 - p) ∷ after) ∙
        (append_assoc (before ++ asleep) since (line.Accept (1 - p) frame ∷ (offer ++ line.Over (1 - p) ∷ after)) ∙
        append_assoc before asleep (since ++ (line.Accept (1 - p) frame ∷ (offer ++ line.Over (1 - p) ∷ after))))

    whole : IsLawful world (before ++ (line.Look p 0 ∷ (line.Done p ∷ (since ++ (line.Accept (1 - p) frame ∷ (offer ++ line.Over (1 - p) ∷ after))))))
    whole = subst (IsLawful world) joined lawful

    front_is : reverse (before ++ line.Look p 0 ∷ line.Done p ∷ []) ≡ line.Done p ∷ (line.Look p 0 ∷ reverse before)
    front_is = reverse-append before (line.Look p 0 ∷ line.Done p ∷ [])

    other : p ≢ 1 - p
    other e = absurd (omega arith)

    -- The lines of the poll have no side event of the other.
    beside : (side_of (line.Done p ∷ (line.Look p 0 ∷ reverse before)) (1 - p)) ≡ side_of (reverse before) (1 - p)
    beside =
        let looked = line.Look p 0 ∷ reverse before in
        there_is p (1 - p) (side_after (Marked Done) (side_of looked (1 - p))) (side_of looked (1 - p)) other ∙
        there_is p (1 - p) (side_after (Marked (Look 0)) (side_of (reverse before) (1 - p))) (side_of (reverse before) (1 - p)) other

    event : EventIs world (reverse (before ++ line.Look p 0 ∷ line.Done p ∷ [])) p (length (side_of (reverse before) p).delivered)
    event = subst (λ (ls : List Line). EventIs world ls p (length (side_of (reverse before) p).delivered)) (sym front_is)
        (is_armed world before (since ++ (line.Accept (1 - p) frame ∷ (offer ++ line.Over (1 - p) ∷ after))) p is has whole)

    number : length (side_of (reverse before) p).delivered ≡ length (side_of (reverse (before ++ line.Look p 0 ∷ line.Done p ∷ [] ++ since)) (1 - p)).accepted
    number =
        let start = before ++ line.Look p 0 ∷ line.Done p ∷ [] in
        let kept = accepted_kept (1 - p) since (reverse start) (recursion_from_All (λ (l : Line). AcceptsNothing (1 - p) (line_side_event_of l)) since idle) in
        let found = is_next world before (line.Done p ∷ (since ++ (line.Accept (1 - p) frame ∷ (offer ++ line.Over (1 - p) ∷ after)))) p is honest whole in
        sym found ∙ (ap (λ (x : Side). length x.accepted) (sym beside) ∙ (ap (λ (ls : List Line). length (side_of ls (1 - p)).accepted) (sym front_is) ∙
        (ap length (sym kept) ∙ ap (λ (ls : List Line). length (side_of ls (1 - p)).accepted) (sym (reverse-append start since)))))

pub wakes_are_rung : WakesAreRung
wakes_are_rung = record { armed = is_armed; next = is_next; rung = is_rung; wakes = wakes_hold }
