-- Refusals in the rows.
use Rattle.std.proofs.Common.{◌≡◌, ◌≢◌, ℕ, ◌-◌, ◌<◌, true, false, List, [], ◌∷◌, ◌++◌, refl, sym, ◌∙◌, ap, subst, arith, eq-eqb}
use mathlib.Core.Logic.{dite}
use native.Mathlib.Decide.{ℕ_discrete}
use Rattle.std.specs.Prelude.{◌==◌, reverse}
use Rattle.std.specs.List.{AllByRecursion}
use Rattle.std.proofs.lemmas.List.Elements.{recursion_from_All}
use Rattle.split_ring.specs.declared.ranges.Refused.{Refused}
use Rattle.scenario_text.specs.Scenario.{World, IsWorld, is_link}
use Rattle.call_grammar.specs.Steps.{Mark, Saw, Reclaim, Full, Accept, Look, Deliver, Return, Done, Down, Refuse, Over}
use Rattle.link_machine.specs.LinkMachine.{Side, SideEvent, Gave, Wrote, Marked, WasReset}
use Rattle.call_grammar.proofs.OfferLists.{yes}
use Rattle.lawful_history.specs.declared.line.Line.{Line}
use Rattle.lawful_history.specs.declared.line.Line.TheVariants as line
use Rattle.lawful_history.specs.Lawful.{IsLawful}
use Rattle.history_laws.specs.SideEvents.{HasEvent, line_side_event_of, side_after, side_after_line, side_of}
use Rattle.history_laws.specs.Refusals.{HonestPeersNeverRefuse, RefusesOutOfRange, RefusedPeersStayInReset}
use Rattle.history_laws.proofs.LinkPlaces.{Fine, first_after}
use Rattle.history_laws.proofs.OtherLines.{here_is, there_is}
use Rattle.history_laws.proofs.Lines.{at_beginning, at_line, middle}
use Rattle.history_laws.proofs.PlacesAlong.{all_fine}

pub refuses_out_of_range : RefusesOutOfRange
refuses_out_of_range world before after p refused is lawful = let row = (at_line (Fine world) before after (line.Refuse p refused) (all_fine world (before ++ line.Refuse p refused ∷ after) is lawful)).0 in
    record { honest = row.1.0; hostile = row.1.1.0; run = row.1.1.1; beyond = row.1.1.2 }

below_of : (world : World) (before after : List Line) (p : ℕ) (refused : Refused) → IsWorld world → IsLawful world (before ++ line.Refuse p refused ∷ after) → p < 2
below_of world before after p refused is lawful = (at_line (Fine world) before after (line.Refuse p refused) (all_fine world (before ++ line.Refuse p refused ∷ after) is lawful)).0.0

pub honest_peers_never_refuse : HonestPeersNeverRefuse
honest_peers_never_refuse world before after p refused is one other lawful =
    let r = refuses_out_of_range world before after p refused is lawful in
    let below = below_of world before after p refused is lawful in
    dite (ℕ_discrete p 0)
    (λ e. let o : 1 - p ≡ 1 = omega arith in let f : true ≡ false = sym other ∙ (ap (is_link world) (sym o) ∙ r.hostile) in absurd (cc))
    (λ ne. let o : 1 - p ≡ 0 = omega arith in let f : true ≡ false = sym one ∙ (ap (is_link world) (sym o) ∙ r.hostile) in absurd (cc))

-- A side that refused stays refused until its reset

marked_refused : (mark : Mark) (side : Side) → side.refused ≡ true → (side_after (Marked mark) side).refused ≡ true
marked_refused (Refuse refused) side is = refl
marked_refused _ side is = is

side_event_refused : (peer p : ℕ) (side_event : SideEvent) (side : Side) → (peer ≡ p → side_event ≢ WasReset) → side.refused ≡ true → (side_after_line (HasEvent peer side_event) p side).refused ≡ true
side_event_refused peer p side_event side no_reset is = dite (ℕ_discrete peer p)
    (λ e. ap (λ (x : Side). x.refused) (yes (peer == p) (side_after side_event side) side (eq-eqb peer p e)) ∙ by_side_event side_event (no_reset e))
    (λ ne. ap (λ (x : Side). x.refused) (there_is peer p (side_after side_event side) side ne) ∙ is)
  where
    by_side_event : (t : SideEvent) → t ≢ WasReset → (side_after t side).refused ≡ true
    by_side_event (Gave value) ne = is
    by_side_event (Wrote state) ne = is
    by_side_event (Marked mark) ne = marked_refused mark side is
    by_side_event WasReset ne = absurd (ne refl)

line_refused : (l : Line) (p : ℕ) (side : Side) → l ≢ line.Reset p → side.refused ≡ true → (side_after_line (line_side_event_of l) p side).refused ≡ true
line_refused (line.Read peer word value) p side ne is = side_event_refused peer p (Gave value) side (λ e h. cc) is
line_refused (line.State peer value) p side ne is = side_event_refused peer p (Wrote value) side (λ e h. cc) is
line_refused (line.Reset peer) p side ne is = side_event_refused peer p WasReset side (λ e h. ne (ap line.Reset e)) is
line_refused (line.Saw peer value) p side ne is = side_event_refused peer p (Marked (Saw value)) side (λ e h. cc) is
line_refused (line.Reclaim peer count) p side ne is = side_event_refused peer p (Marked (Reclaim count)) side (λ e h. cc) is
line_refused (line.Full peer) p side ne is = side_event_refused peer p (Marked Full) side (λ e h. cc) is
line_refused (line.Accept peer frame) p side ne is = side_event_refused peer p (Marked (Accept frame)) side (λ e h. cc) is
line_refused (line.Look peer count) p side ne is = side_event_refused peer p (Marked (Look count)) side (λ e h. cc) is
line_refused (line.Deliver peer frame) p side ne is = side_event_refused peer p (Marked (Deliver frame)) side (λ e h. cc) is
line_refused (line.Return peer) p side ne is = side_event_refused peer p (Marked Return) side (λ e h. cc) is
line_refused (line.Done peer) p side ne is = side_event_refused peer p (Marked Done) side (λ e h. cc) is
line_refused (line.Down peer) p side ne is = side_event_refused peer p (Marked Down) side (λ e h. cc) is
line_refused (line.Refuse peer refused) p side ne is = side_event_refused peer p (Marked (Refuse refused)) side (λ e h. cc) is
line_refused (line.Over peer) p side ne is = side_event_refused peer p (Marked Over) side (λ e h. cc) is
line_refused l p side ne is = is

refused_on : (p : ℕ) (between past : List Line) → AllByRecursion (λ l. l ≢ line.Reset p) between → (side_of past p).refused ≡ true → (side_of (reverse between ++ past) p).refused ≡ true
refused_on p [] past all is = is
refused_on p (l ∷ between) past all is =
    let rest = refused_on p between (l ∷ past) all.1 (line_refused l p (side_of past p) all.0 is) in
    subst (λ (ls : List Line). (side_of ls p).refused ≡ true) (sym (first_after l between past)) rest

pub refused_peers_stay_in_reset : RefusedPeersStayInReset
refused_peers_stay_in_reset world before between after p value refused is lawful none =
    let first = line.Refuse p refused in
    let all = all_fine world ((before ++ first ∷ between) ++ line.State p value ∷ after) is lawful in
    let refusal = (at_line (Fine world) before between first (at_beginning (Fine world) (before ++ first ∷ between) (line.State p value ∷ after) all)).0 in
    let rests = (at_line (Fine world) (before ++ first ∷ between) after (line.State p value) all).1 in
    let here : (side_of (first ∷ reverse before) p).refused ≡ true = ap (λ (x : Side). x.refused) (here_is p (side_after (Marked (Refuse refused)) (side_of (reverse before) p)) (side_of (reverse before) p)) in
    let later = refused_on p between (first ∷ reverse before) (recursion_from_All (λ (l : Line). l ≢ line.Reset p) between none) here in
    rests refusal.1.0 (subst (λ (ls : List Line). (side_of ls p).refused ≡ true) (sym (middle before between first)) later)
