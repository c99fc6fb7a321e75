-- The frames that a poll delivers between its read of the available index and its end.
use Rattle.std.proofs.Common.{◌≡◌, ◌≢◌, ℕ, ◌+◌, List, [], ◌∷◌, ◌++◌, length, refl, sym, ◌∙◌, ap, subst, arith, eq-eqb, ne_eqb, length-append}
use mathlib.Core.Logic.{dite}
use native.Mathlib.Decide.{ℕ_discrete}
use Rattle.std.specs.Prelude.{◌==◌, reverse}
use Rattle.std.specs.List.{AllByRecursion}
use Rattle.std.proofs.lemmas.List.Elements.{recursion_from_All}
use Rattle.call_grammar.specs.Steps.{Mark, Look, Deliver}
use Rattle.link_machine.specs.LinkMachine.{Side, SideEvent, Gave, Wrote, Marked, WasReset}
use Rattle.call_grammar.proofs.OfferLists.{yes, no}
use Rattle.lawful_history.specs.declared.line.Line.{Line}
use Rattle.lawful_history.specs.declared.line.Line.TheVariants as line
use Rattle.history_laws.specs.SideEvents.{LineSideEvent, HasEvent, HasNoEvent, line_side_event_of, side_after, side_after_line, side_of}
use Rattle.history_laws.specs.Polls.{delivers, deliver_count, IsWithin, DonePollsDeliverAll}
use Rattle.history_laws.proofs.LinkPlaces.{Fine, first_after}
use Rattle.history_laws.proofs.OtherLines.{here_is, there_is}
use Rattle.history_laws.proofs.Lines.{at_line, middle}
use Rattle.history_laws.proofs.PlacesAlong.{all_fine}

-- The number found stays, and `count` more frames are delivered.
record Delivers (old new : Side) (count : ℕ) : Type 0 where
  looked : new.looked ≡ old.looked
  delivered : length new.delivered ≡ length old.delivered + count

marked_delivers : (peer p : ℕ) (mark : Mark) (side : Side) → peer ≡ p → IsWithin p (HasEvent peer (Marked mark)) → Delivers side (side_after (Marked mark) side) (delivers (HasEvent peer (Marked mark)) p)
marked_delivers peer p (Look count) side e within = absurd (within e)
marked_delivers peer p (Deliver frame) side e within = let one = yes (peer == p) 1 0 (eq-eqb peer p e) in record { looked = refl; delivered = length-append side.delivered (frame ∷ []) ∙ ap (λ (n : ℕ). length side.delivered + n) (sym one) }
marked_delivers peer p _ side e within = record { looked = refl; delivered = omega arith }

side_event_delivers : (peer p : ℕ) (side_event : SideEvent) (side : Side) → peer ≡ p → IsWithin p (HasEvent peer side_event) → Delivers side (side_after side_event side) (delivers (HasEvent peer side_event) p)
side_event_delivers peer p (Gave value) side e within = record { looked = refl; delivered = omega arith }
side_event_delivers peer p (Wrote state) side e within = absurd (within e)
side_event_delivers peer p (Marked mark) side e within = marked_delivers peer p mark side e within
side_event_delivers peer p WasReset side e within = record { looked = refl; delivered = omega arith }

-- Another peer's line delivers no frame of p.
none_marked : (peer p : ℕ) (mark : Mark) → peer ≢ p → delivers (HasEvent peer (Marked mark)) p ≡ 0
none_marked peer p (Deliver frame) ne = no (peer == p) 1 0 (ne_eqb peer p ne)
none_marked peer p _ ne = refl

none_side_event : (peer p : ℕ) (side_event : SideEvent) → peer ≢ p → delivers (HasEvent peer side_event) p ≡ 0
none_side_event peer p (Gave value) ne = refl
none_side_event peer p (Wrote state) ne = refl
none_side_event peer p (Marked mark) ne = none_marked peer p mark ne
none_side_event peer p WasReset ne = refl

line_delivers : (p : ℕ) (t : LineSideEvent) (side : Side) → IsWithin p t → Delivers side (side_after_line t p side) (delivers t p)
line_delivers p HasNoEvent side within = record { looked = refl; delivered = omega arith }
line_delivers p (HasEvent peer side_event) side within = dite (ℕ_discrete peer p)
    (λ e. subst (λ (x : Side). Delivers side x (delivers (HasEvent peer side_event) p)) (sym (yes (peer == p) (side_after side_event side) side (eq-eqb peer p e))) (side_event_delivers peer p side_event side e within))
    (λ ne. let none = none_side_event peer p side_event ne in subst (λ (x : Side). Delivers side x (delivers (HasEvent peer side_event) p)) (sym (there_is peer p (side_after side_event side) side ne)) (record { looked = refl; delivered = omega arith }))

between_delivers : (p : ℕ) (between past : List Line) → AllByRecursion (λ l. IsWithin p (line_side_event_of l)) between → Delivers (side_of past p) (side_of (reverse between ++ past) p) (deliver_count p between)
between_delivers p [] past all = record { looked = refl; delivered = omega arith }
between_delivers p (l ∷ between) past all =
    let first = line_delivers p (line_side_event_of l) (side_of past p) all.0 in
    let rest = between_delivers p between (l ∷ past) all.1 in
    let d1 = first.delivered in
    let d2 = rest.delivered in
    subst (λ (ls : List Line). Delivers (side_of past p) (side_of ls p) (deliver_count p (l ∷ between))) (sym (first_after l between past)) (record { looked = rest.looked ∙ first.looked; delivered = omega arith })

pub done_polls_deliver_all : DonePollsDeliverAll
done_polls_deliver_all world before between after p count is lawful within =
    let look = line.Look p count in
    let done = (at_line (Fine world) (before ++ look ∷ between) after (line.Done p) (all_fine world ((before ++ look ∷ between) ++ line.Done p ∷ after) is lawful)).0.1.1.1 in
    let old = side_of (reverse before) p in
    let here : side_of (look ∷ reverse before) p ≡ side_after (Marked (Look count)) old = here_is p (side_after (Marked (Look count)) old) old in
    let d = between_delivers p between (look ∷ reverse before) (recursion_from_All (λ (l : Line). IsWithin p (line_side_event_of l)) between within) in
    let now : length (side_of (reverse between ++ (look ∷ reverse before)) p).delivered ≡ (side_of (reverse between ++ (look ∷ reverse before)) p).looked =
    subst (λ (ls : List Line). length (side_of ls p).delivered ≡ (side_of ls p).looked) (middle before between look) done in
    let looked : (side_of (reverse between ++ (look ∷ reverse before)) p).looked ≡ length old.delivered + count = d.looked ∙ ap (λ (x : Side). x.looked) here in
    let delivered : length (side_of (reverse between ++ (look ∷ reverse before)) p).delivered ≡ length old.delivered + deliver_count p between =
    d.delivered ∙ ap (λ (x : Side). length x.delivered + deliver_count p between) here in
    omega arith
