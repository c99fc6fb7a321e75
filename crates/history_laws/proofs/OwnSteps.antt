-- The actions of an honest link peer: it begins a call, makes the step at its place, or is reset.
use Rattle.std.proofs.Common.{◌≡◌, ◌≢◌, ℕ, ◌-◌, ◌<◌, true, false, List, ◌∷◌, ◌++◌, refl, sym, ◌∙◌, ap, subst, arith, inl, inr, ◌⊎◌, zero, suc, []}
use mathlib.Core.Logic.{dite}
use native.Mathlib.Decide.{ℕ_discrete}
use Rattle.std.specs.Prelude.{reverse}
use Rattle.std.specs.List.{AllByRecursion}
use Rattle.split_ring.specs.declared.steps.Access.{Access}
use Rattle.split_ring.specs.declared.steps.Access.TheVariants as access
use Rattle.link_handshake.specs.declared.Phase.{Phase}
use Rattle.link_handshake.specs.declared.Phase.TheVariants.{Reset, Init, Ready, Run}
use Rattle.link_handshake.specs.PhaseTable.{state_of}
use Rattle.scenario_text.specs.Scenario.{World, IsWorld, is_link}
use Rattle.call_grammar.specs.Ends.{End, after_reset, end_after}
use Rattle.call_grammar.specs.Calls.{Call, EndConfig}
use Rattle.call_grammar.specs.Places.{Place, Closed, WritingState, Refusing, first_place, access_at, marks_at, next_place, step_at, is_open}
use Rattle.link_machine.specs.LinkMachine.{Side}
use Rattle.link_machine.specs.LinkMachine as side_event
use Rattle.link_invariant.specs.LinkConfig.{LinkConfig, config_of, fields, IsGivenTo}
use Rattle.link_invariant.specs.Steps.{Stored, IsUntouched, OnlyEndChanges, ReadsMemory}
use Rattle.link_invariant.specs.EndInvariant.{RefusalIsFinal, EndInvariant}
use Rattle.link_invariant.specs.LinkInvariant.{LinkInvariant}
use Rattle.link_invariant.proofs.Fields.{fields_same, theirs_stay}
use Rattle.link_invariant.proofs.EndInvariantKept.{alone_kept}
use Rattle.link_invariant.specs.Sides.{SideIs}
use Rattle.link_invariant.proofs.LinkInvariantKept.{whole_kept}
use Rattle.link_invariant.proofs.RowsKept.{steps_follow_rows}
use Rattle.link_invariant.proofs.RunsKept.{side_like}
use Rattle.lawful_history.specs.declared.line.Line.{Line}
use Rattle.lawful_history.specs.declared.line.Line.TheVariants as line
use Rattle.lawful_history.specs.Memory.{last_write}
use Rattle.lawful_history.specs.Sides as model
use Rattle.lawful_history.specs.EventRecords.{step_lines, mark_line}
use Rattle.history_laws.specs.SideEvents.{side_of}
use Rattle.history_laws.specs.Rows.{EachLine}
use Rattle.history_laws.specs.Reads.{Got, reads_of, IsReadBeyond, got}
use Rattle.history_laws.proofs.ReadPlaces.{ReadsAre, first_reads, reads_on}
use Rattle.history_laws.proofs.MarkFacts.{AtMarks, at_access, head_is, marks_rest}
use Rattle.history_laws.proofs.PermittedEvents.{link_config_of, is_link_config}
use Rattle.history_laws.proofs.LinkPlaces.{Fine, Stands, IsQuiet, Settled, BringsNone, answers, quiet_silent}
use Rattle.history_laws.proofs.OtherLines.{here_is}
use Rattle.history_laws.proofs.MarkLines.{after_access}
use Rattle.history_laws.proofs.Armed.{ArmedIs, begin_armed, reset_armed, armed_on}
use Rattle.split_ring.specs.Layout.{has_events}
use Rattle.link_invariant.specs.Fields.{AvailEvent}
use Rattle.history_laws.proofs.Unrung.{UnrungIs, at_place, line_is, lines_are, marked_ends, step_none, step_is, access_is}
use Rattle.history_laws.proofs.StepLines.{RestsAt, StepWent, step_went, stored_at, one_side_event, broken_here, broken_beside, AnswersMarks, ReadsAlone}
use Rattle.history_laws.proofs.OutOfRangeIsRefused.{refuses}
use Rattle.history_laws.proofs.LinkPeers.{config_is}
use Rattle.split_ring.specs.declared.ranges.Refused.{Refused}
use Rattle.call_grammar.specs.Steps.{Mark, Refuse}
use Rattle.call_grammar.specs.Offers.{refusal}

-- A link peer is one of two.
pub one_or_other : (p q : ℕ) → p < 2 → q < 2 → (q ≡ p) ⊎ (q ≡ 1 - p)
one_or_other p q below below' = dite (ℕ_discrete q p) (λ e. inl e) (λ ne. inr (omega arith))

other_is : (p : ℕ) → p < 2 → 1 - p ≢ p
other_is p below e = absurd (omega arith)

-- The effect of lines of p: its side is `new`, and the words, the side and the reads of the other
-- stay.
pub record Keeps (world : World) (past after : List Line) (p : ℕ) (new : Side) : Type 0 where
  pub here : side_of after p ≡ new
  pub neighbour_word : side_of after (1 - p) ≡ side_of past (1 - p)
  pub untouched : IsUntouched (link_config_of world) (last_write past) (last_write after) (1 - p)
  pub reads_beside : reads_of after (1 - p) ≡ reads_of past (1 - p)
  pub unrung_beside : (place : Place) → UnrungIs world (1 - p) place past → UnrungIs world (1 - p) place after
  pub settled : Settled world after
  pub fine : EachLine (Fine world) after

-- The ends after lines by which end p becomes this end at this place, and the other side stays

come_stands : (world : World) (past after : List Line) (ends after_ends : ℕ → End) (places after_places : ℕ → Place) (p : ℕ) (end : End) (place : Place) (new : Side) → IsWorld world → p < 2 → is_link world p ≡ true →
    OnlyEndChanges ends after_ends places after_places p end place → LinkInvariant (link_config_of world) (is_link world) (last_write after) after_ends after_places → SideIs end place new → ReadsAre (config_of (link_config_of world) p) place (reads_of after p) → UnrungIs world p place after → (has_events world.queue ≡ true → ArmedIs (fields (link_config_of world) (last_write after) p AvailEvent) end place) → Keeps world past after p new → Stands world past ends places →
    Stands world after after_ends after_places
come_stands world past after ends after_ends places after_places p end place new is below honest only holds si reads unrung armed keeps s = record {
  holds = holds;
  sides = λ q below' honest'. sides q below' honest' (one_or_other p q below below');
  states = λ q below'. state q (one_or_other p q below below');
  reads = λ q below' honest'. reads_at q below' honest' (one_or_other p q below below');
  armed = λ has q below' honest'. armed_at has q below' honest' (one_or_other p q below below');
  unrung = λ q below' honest'. unrung_at q below' honest' (one_or_other p q below below');
  settled = keeps.settled;
  fine = keeps.fine;
}
  where
    apart_of : (q : ℕ) → q ≡ 1 - p → q ≢ p
    apart_of q e f = other_is p below (sym e ∙ f)

    sides : (q : ℕ) → q < 2 → is_link world q ≡ true → (q ≡ p) ⊎ (q ≡ 1 - p) → SideIs (after_ends q) (after_places q) (side_of after q)
    sides q below' honest' (inl e) = side_like end (after_ends q) place (after_places q) new (side_of after q) (ap after_ends e ∙ only.end_is) (ap after_places e ∙ only.place_is) (ap (side_of after) e ∙ keeps.here) si
    sides q below' honest' (inr e) = let ne = apart_of q e in
        side_like (ends q) (after_ends q) (places q) (after_places q) (side_of past q) (side_of after q) (only.ends_stay q ne) (only.places_stay q ne) (ap (side_of after) e ∙ (keeps.neighbour_word ∙ ap (side_of past) (sym e))) (s.sides q below' honest')

    mine : last_write after p ≡ (side_of after p).state
    mine = let is_end = ap (λ (x : End). state_of x.handshake.phase) only.end_is in (holds.alone p below honest).state ∙ (is_end ∙ (sym si.state ∙ ap (λ (x : Side). x.state) (sym keeps.here)))

    opposite : last_write after (1 - p) ≡ (side_of after (1 - p)).state
    opposite = let o2 : 1 - p < 2 = omega arith in keeps.untouched.state ∙ (s.states (1 - p) o2 ∙ ap (λ (x : Side). x.state) (sym keeps.neighbour_word))

    state : (q : ℕ) → (q ≡ p) ⊎ (q ≡ 1 - p) → last_write after q ≡ (side_of after q).state
    state q (inl e) = subst (λ (k : ℕ). last_write after k ≡ (side_of after k).state) (sym e) mine
    state q (inr e) = subst (λ (k : ℕ). last_write after k ≡ (side_of after k).state) (sym e) opposite

    reads_at : (q : ℕ) → q < 2 → is_link world q ≡ true → (q ≡ p) ⊎ (q ≡ 1 - p) → ReadsAre (config_of (link_config_of world) q) (after_places q) (reads_of after q)
    reads_at q below' honest' (inl e) = subst (λ (k : ℕ). ReadsAre (config_of (link_config_of world) k) (after_places k) (reads_of after k)) (sym e) (subst (λ (x : Place). ReadsAre (config_of (link_config_of world) p) x (reads_of after p)) (sym only.place_is) reads)
    reads_at q below' honest' (inr e) =
        let same : reads_of after q ≡ reads_of past q = subst (λ (k : ℕ). reads_of after k ≡ reads_of past k) (sym e) keeps.reads_beside in
        subst (λ (x : Place). ReadsAre (config_of (link_config_of world) q) x (reads_of after q)) (sym (only.places_stay q (apart_of q e))) (subst (λ (r : List Got). ReadsAre (config_of (link_config_of world) q) (places q) r) (sym same) (s.reads q below' honest'))

    armed_at : has_events world.queue ≡ true → (q : ℕ) → q < 2 → is_link world q ≡ true → (q ≡ p) ⊎ (q ≡ 1 - p) → ArmedIs (fields (link_config_of world) (last_write after) q AvailEvent) (after_ends q) (after_places q)
    armed_at has q below' honest' (inl e) = subst (λ (k : ℕ). ArmedIs (fields (link_config_of world) (last_write after) k AvailEvent) (after_ends k) (after_places k)) (sym e)
        (subst (λ (x : Place). ArmedIs (fields (link_config_of world) (last_write after) p AvailEvent) (after_ends p) x) (sym only.place_is)
        (subst (λ (x : End). ArmedIs (fields (link_config_of world) (last_write after) p AvailEvent) x place) (sym only.end_is) (armed has)))
    armed_at has q below' honest' (inr e) =
        let other = other_is p below in
        let same = fields_same (link_config_of world) (last_write past) (last_write after) (1 - p) (is_link_config world is) keeps.untouched.section AvailEvent in
        let before : ArmedIs (fields (link_config_of world) (last_write past) (1 - p) AvailEvent) (ends (1 - p)) (places (1 - p)) =
        subst (λ (k : ℕ). ArmedIs (fields (link_config_of world) (last_write past) k AvailEvent) (ends k) (places k)) e (s.armed has q below' honest') in
        subst (λ (k : ℕ). ArmedIs (fields (link_config_of world) (last_write after) k AvailEvent) (after_ends k) (after_places k)) (sym e)
        (subst (λ (x : Place). ArmedIs (fields (link_config_of world) (last_write after) (1 - p) AvailEvent) (after_ends (1 - p)) x) (sym (only.places_stay (1 - p) other))
        (subst (λ (x : End). ArmedIs (fields (link_config_of world) (last_write after) (1 - p) AvailEvent) x (places (1 - p))) (sym (only.ends_stay (1 - p) other))
        (subst (λ (event : ℕ). ArmedIs event (ends (1 - p)) (places (1 - p))) (sym same) before)))

    unrung_at : (q : ℕ) → q < 2 → is_link world q ≡ true → (q ≡ p) ⊎ (q ≡ 1 - p) → UnrungIs world q (after_places q) after
    unrung_at q below' honest' (inl e) = subst (λ (k : ℕ). UnrungIs world k (after_places k) after) (sym e) (subst (λ (x : Place). UnrungIs world p x after) (sym only.place_is) unrung)
    unrung_at q below' honest' (inr e) =
        let before : UnrungIs world (1 - p) (places (1 - p)) past = subst (λ (k : ℕ). UnrungIs world k (places k) past) e (s.unrung q below' honest') in
        subst (λ (k : ℕ). UnrungIs world k (after_places k) after) (sym e)
        (subst (λ (x : Place). UnrungIs world (1 - p) x after) (sym (only.places_stay (1 - p) (other_is p below))) (keeps.unrung_beside (places (1 - p)) before))

-- A call begins

pub begins_stands : (world : World) (past : List Line) (ends after_ends : ℕ → End) (places after_places : ℕ → Place) (p : ℕ) (call : Call) → IsWorld world → p < 2 → is_link world p ≡ true → IsGivenTo (link_config_of world) call → places p ≡ Closed →
    OnlyEndChanges ends after_ends places after_places p (ends p) (first_place (config_of (link_config_of world) p) (ends p) call) → Stands world past ends places → Stands world past after_ends after_places
begins_stands world past ends after_ends places after_places p call is below honest given closed only s =
    let link_config = link_config_of world in
    let config = config_of link_config p in
    come_stands world past past ends after_ends places after_places p (ends p) (first_place config (ends p) call) (side_of past p) is below honest only
    (whole_kept.begins link_config (is_link world) (last_write past) ends after_ends places after_places p call (is_link_config world is) below honest record { given = given; closed = closed; comes = only } s.holds)
    (steps_follow_rows.begins config (ends p) call (side_of past p) (subst (λ (x : Place). SideIs (ends p) x (side_of past p)) closed (s.sides p below honest)))
    (first_reads config (reads_of past p) (ends p) call (subst (λ (x : Place). ReadsAre config x (reads_of past p)) closed (s.reads p below honest)))
    (at_place world p (first_place config (ends p) call) past (subst (λ (x : Place). UnrungIs world p x past) closed (s.unrung p below honest)))
    (λ has. begin_armed config (fields link_config (last_write past) p AvailEvent) (ends p) call has (subst (λ (x : Place). ArmedIs (fields link_config (last_write past) p AvailEvent) (ends p) x) closed (s.armed has p below honest)))
    (record { here = refl; neighbour_word = refl; untouched = record { state = refl; section = λ j small. refl }; reads_beside = refl; unrung_beside = λ place was. was; settled = s.settled; fine = s.fine }) s

-- A step

-- An end with the mark writes no State except 0.
abbrev IsZero : Access → Type 0
IsZero (access.State state) = state ≡ 0
IsZero _ = Unit {0}

zero_at : (link_config : LinkConfig) (p : ℕ) (end : End) (place : Place) → RefusalIsFinal end place → end.handshake.mark ≡ true → IsZero (access_at (config_of link_config p) place)
zero_at link_config p end (WritingState zero) rests marked = refl
zero_at link_config p end (WritingState (suc n)) rests marked = let f : true ≡ false = sym marked ∙ rests in absurd (cc)
zero_at link_config p end Refusing rests marked = refl
zero_at link_config p end place rests marked = tt

rests_at : (world : World) (past : List Line) (p : ℕ) (a : Access) → (is_link world p ≡ true → (side_of past p).refused ≡ true → IsZero a) → ((word value : ℕ) → a ≡ access.Write word value → (side_of past p).state ≢ 0) → RestsAt world past p a
rests_at world past p (access.Read word) none writes = tt
rests_at world past p (access.Write word written) none writes = λ honest. writes word written refl
rests_at world past p (access.State state) none writes = none
rests_at world past p (access.Ring target vector) none writes = tt
rests_at world past p access.Nothing none writes = tt

-- The phase of RESET.
phase_reset : (phase : Phase) → state_of phase ≡ 0 → phase ≡ Reset
phase_reset Reset e = refl
phase_reset Init e = absurd (omega arith)
phase_reset Ready e = absurd (omega arith)
phase_reset Run e = absurd (omega arith)

-- The marks of a read: if the value is out of range, they are its refusal.
answered_by : (world : World) (past : List Line) (p word value : ℕ) (marks : List Mark) →
    ((refused : Refused) → is_link world p ≡ true → IsReadBeyond (model.config_of world p) (side_of past p) (reads_of past p ++ got word value ∷ []) refused.field refused.value → marks ≡ refusal refused.field refused.value) →
    AnswersMarks world (line.Read p word value ∷ past) p marks
answered_by world past p word value [] all = λ refused honest beyond. let none = all refused honest beyond in absurd (cc)
answered_by world past p word value (mark ∷ marks) all = λ refused honest beyond. let e : mark ≡ Refuse refused = first_mark mark (Refuse refused) marks [] (all refused honest beyond) in ap (mark_line p) e
  where
    first_mark : (a b : Mark) (xs ys : List Mark) → a ∷ xs ≡ b ∷ ys → a ≡ b
    first_mark a b xs ys e = cc

reads_alone : (world : World) (past device : List Line) (p value : ℕ) (end : End) (place : Place) → IsWorld world → p < 2 → is_link world p ≡ true → (a : Access) → access_at (config_of (link_config_of world) p) place ≡ a → BringsNone a device →
    EndInvariant (link_config_of world) (last_write past) p end place → SideIs end place (side_of past p) → ReadsAre (config_of (link_config_of world) p) place (reads_of past p) →
    ReadsAlone world p a value device (marks_at (config_of (link_config_of world) p) place value) past
reads_alone world past device p value end place is below honest (access.Read word) at none alone si reads = (
  none,
  answered_by world past p word value (marks_at (config_of (link_config_of world) p) place value) (λ refused _ beyond. refuses (link_config_of world) p (last_write past) end (side_of past p) (reads_of past p) value word refused.field refused.value (is_link_config world is) place alone si reads at
      (subst (λ (w : EndConfig). IsReadBeyond w (side_of past p) (reads_of past p ++ got word value ∷ []) refused.field refused.value) (config_is world p below) beyond)),
)
reads_alone world past device p value end place is below honest (access.Write word written) at none alone si reads = tt
reads_alone world past device p value end place is below honest (access.State state) at none alone si reads = tt
reads_alone world past device p value end place is below honest (access.Ring target vector) at none alone si reads = tt
reads_alone world past device p value end place is below honest access.Nothing at none alone si reads = tt

pub step_stands : (world : World) (past device : List Line) (ends after_ends : ℕ → End) (places after_places : ℕ → Place) (p value : ℕ) → IsWorld world → p < 2 → is_link world p ≡ true → AllByRecursion IsQuiet device → BringsNone (access_at (config_of (link_config_of world) p) (places p)) device → is_open (places p) ≡ true →
    ReadsMemory (last_write past) (access_at (config_of (link_config_of world) p) (places p)) value →
    OnlyEndChanges ends after_ends places after_places p (end_after (ends p) (step_at (config_of (link_config_of world) p) (places p) value)) (next_place (config_of (link_config_of world) p) (places p) value) →
    Stands world past ends places → Stands world (reverse (step_lines p (step_at (config_of (link_config_of world) p) (places p) value) device) ++ past) after_ends after_places
step_stands world past device ends after_ends places after_places p value is below honest quiet none opened met only s =
    let link_config = link_config_of world in
    let config = config_of link_config p in
    let place = places p in
    let step = step_at config place value in
    let a = access_at config place in
    let marks = marks_at config place value in
    let o2 : 1 - p < 2 = omega arith in
    let si = s.sides p below honest in
    let reads = s.reads p below honest in
    let alone = s.holds.alone p below honest in
    let unrung = s.unrung p below honest in
    let silent = quiet_silent device quiet in
    let f = steps_follow_rows.steps link_config (is_link world) (last_write past) ends places p value (side_of past p) (side_of past (1 - p)) (is_link_config world is) below honest s.holds si (sym (s.states (1 - p) o2)) (s.sides (1 - p) o2) opened met in
    let rests = rests_at world past p a (λ _ refused. zero_at link_config p (ends p) place alone.rests (sym si.refused ∙ refused)) (λ word v e zero. alone_kept.quiet link_config p (last_write past) (ends p) place word v alone (phase_reset (ends p).handshake.phase (sym si.state ∙ zero)) e) in
    let older = reverse device ++ after_access p a value past in
    let there = at_access world p a value device past quiet in
    let at_marks : AtMarks world p past older place value (ends p) = record { alone = alone; side = si; were = reads; left = there.left; stays = there.stays; reads = there.reads; met = met; unrung = access_is world p place value past device silent unrung; armed = λ has. s.armed has p below honest; head = head_is world p place value past device silent none } in
    let after = reverse (step_lines p step device) ++ past in
    let went : StepWent world p past a value marks after f.0 = step_went world p a value device marks past f.0 below honest quiet f.1 rests (marks_rest world p past older value (ends p) is below place at_marks) (reads_alone world past device p value (ends p) place is below honest a refl none alone si reads) s.settled s.fine in
    come_stands world past after ends after_ends places after_places p (end_after (ends p) step) (next_place config place value) f.0 is below honest only
    (whole_kept.steps link_config (is_link world) (last_write past) (last_write after) ends after_ends places after_places p value (is_link_config world is) below honest record { opened = opened; meets = met; leaves = went.left; comes = only } s.holds) f.2
    (subst (λ (r : List Got). ReadsAre config (next_place config place value) r) (sym went.reads_here) (reads_on config place value (reads_of past p) reads))
    (step_is world p past device value silent place unrung)
    (λ has. armed_on link_config (is_link_config world is) p below (last_write past) (last_write after) (ends p) place value opened went.left alone.holds (s.armed has p below honest))
    (record { here = went.here; neighbour_word = went.neighbour_word; untouched = theirs_stay link_config (last_write past) (last_write after) p (is_link_config world is) below (alone_kept.own link_config p (last_write past) (last_write after) (ends p) place (is_link_config world is) below went.left alone); reads_beside = went.reads_beside; unrung_beside = λ x was. lines_are world (1 - p) x (step_lines p step device) past (step_none p (1 - p) a value device marks silent (inl (λ e. other_is p below (sym e)))) was; settled = went.settled; fine = went.fine }) s

-- A device reset

pub own_reset_stands : (world : World) (past : List Line) (ends after_ends : ℕ → End) (places after_places : ℕ → Place) (p : ℕ) → IsWorld world → p < 2 → is_link world p ≡ true →
    OnlyEndChanges ends after_ends places after_places p (after_reset (ends p)) Closed → Stands world past ends places → Stands world (line.Reset p ∷ past) after_ends after_places
own_reset_stands world past ends after_ends places after_places p is below honest only s =
    let link_config = link_config_of world in
    let after = line.Reset p ∷ past in
    let stored : Stored (last_write past) (last_write after) p 0 = record { here = here_is p 0 (last_write past p); neighbour_word = stored_at p 0 (last_write past) } in
    let f = steps_follow_rows.resets world.queue (is_link world (1 - p)) (ends p) (places p) (side_of past p) (side_of past (1 - p)) (s.sides p below honest) in
    let one = one_side_event world past (line.Reset p) p side_event.WasReset f.0 below honest refl f.1 tt (answers world past (line.Reset p) s.settled) in
    come_stands world past after ends after_ends places after_places p (after_reset (ends p)) Closed f.0 is below honest only
    (whole_kept.resets link_config (is_link world) (last_write past) (last_write after) ends after_ends places after_places p (is_link_config world is) below honest record { stored = stored; comes = only } s.holds) f.2 (broken_here (line.Reset p) past p refl)
    (marked_ends world p (line.Reset p) past refl (λ accept. let e = accept.1 in cc))
    (λ has. reset_armed (fields link_config (last_write after) p AvailEvent) (ends p))
    (record { here = one.here; neighbour_word = one.neighbour_word; untouched = theirs_stay link_config (last_write past) (last_write after) p (is_link_config world is) below (λ w ne apart. stored.neighbour_word w ne); reads_beside = broken_beside (line.Reset p) past p below refl; unrung_beside = λ x was. line_is world (1 - p) x (line.Reset p) past (λ accept. let e = accept.1 in cc) was; settled = tt; fine = (one.fine, s.fine) }) s
