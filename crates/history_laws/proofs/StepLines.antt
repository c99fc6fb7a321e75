-- The lines of a step of an honest link peer satisfy the rows of the step.
use Rattle.std.proofs.Common.{◌≡◌, ◌≢◌, ℕ, ◌-◌, ◌<◌, Bool, true, List, [], ◌∷◌, ◌++◌, refl, sym, ◌∙◌, ap, subst, append_assoc, arith, inl, inr, ◌⊎◌}
use Rattle.std.specs.Prelude.{◌==◌, if◌then◌else◌, map, reverse}
use Rattle.std.specs.List.{AllByRecursion}
use Rattle.std.proofs.lemmas.List.{reverse-append}
use Rattle.split_ring.specs.declared.steps.Access.{Access}
use Rattle.split_ring.specs.declared.steps.Access.TheVariants as access
use Rattle.split_ring.specs.Layout.{Sizes}
use Rattle.scenario_text.specs.Scenario.{World, is_link}
use Rattle.call_grammar.specs.Steps.{value_given, Mark, Reclaim, Look, Deliver, Down, Refuse, Over, step_of}
use Rattle.link_machine.specs.LinkMachine.{Side, SideEvent, Gave, Wrote, Marked, WasReset, MarkRow, Row}
use Rattle.link_invariant.specs.Steps.{MemoryAfter}
use Rattle.link_invariant.specs.Sides.{side_events_of, FollowsRows}
use Rattle.lawful_history.specs.declared.line.Line.{Line}
use Rattle.lawful_history.specs.declared.line.Line.TheVariants as line
use Rattle.lawful_history.specs.Memory.{last_write}
use Rattle.lawful_history.specs.EventRecords.{mark_line, step_lines}
use Rattle.lawful_history.proofs.MemoryLawLine.{mark_apart}
use Rattle.history_laws.specs.SideEvents.{LineSideEvent, HasEvent, line_side_event_of, side_marked, side_after, side_after_line, side_of}
use Rattle.history_laws.specs.Rows.{EachLine, IsRow, HasRow}
use Rattle.history_laws.specs.Reads.{Got, got, Reading, Breaks, reading_of, reads_with, reads_of}
use Rattle.history_laws.proofs.ReadPlaces.{reads_taken, reads_marked}
use Rattle.history_laws.proofs.MarkLines.{mark_is, after_access}
use Rattle.history_laws.proofs.LinkPlaces.{MarkRests, Rests, Fine, IsQuiet, quiet_lines, memory_after, first_after, AnswersTo, SettledBy, Settled, writes_side_event, answers}
use Rattle.history_laws.proofs.OtherLines.{here_is, there_is}

-- The row of a side event determines the side after it

mark_new : (sizes : Sizes) (honest : Bool) (side other : Side) (mark : Mark) (new : Side) → MarkRow sizes honest side other mark new → new ≡ side_marked mark side
mark_new sizes honest side other (Reclaim count) new row = row.3
mark_new sizes honest side other (Look count) new row = row.3
mark_new sizes honest side other (Deliver frame) new row = row.3
mark_new sizes honest side other Down new row = row.1
mark_new sizes honest side other (Refuse refused) new row = row.3
mark_new sizes honest side other Over new row = row
mark_new sizes honest side other _ new row = row.2

pub row_new : (sizes : Sizes) (mine other_honest : Bool) (side other : Side) (side_event : SideEvent) (new : Side) → Row sizes mine other_honest side other side_event new → new ≡ side_after side_event side
row_new sizes mine other_honest side other (Gave value) new row = row
row_new sizes mine other_honest side other (Wrote state) new row = row.1
row_new sizes mine other_honest side other (Marked mark) new row = mark_new sizes other_honest side other mark new row.1
row_new sizes mine other_honest side other WasReset new row = row

-- A line of an honest link peer with a side event, and its row

pub record OneSideEvent (world : World) (past : List Line) (line : Line) (p : ℕ) (new other : Side) : Type 0 where
  pub fine : Fine world past line
  pub here : side_of (line ∷ past) p ≡ new
  pub neighbour_word : side_of (line ∷ past) (1 - p) ≡ other

other_of : (p : ℕ) → p < 2 → p ≢ 1 - p
other_of p below e = absurd (omega arith)

is_row : (world : World) (past : List Line) (p : ℕ) (side_event : SideEvent) (new : Side) → p < 2 → Row world.queue (is_link world p) (is_link world (1 - p)) (side_of past p) (side_of past (1 - p)) side_event new → IsRow world past p side_event new
is_row world past p (Gave value) new below row = λ _. row
is_row world past p (Wrote state) new below row = λ _. row
is_row world past p (Marked mark) new below row = (below, row)
is_row world past p WasReset new below row = λ _. row

pub one_side_event : (world : World) (past : List Line) (line : Line) (p : ℕ) (side_event : SideEvent) (new : Side) → p < 2 → is_link world p ≡ true → line_side_event_of line ≡ HasEvent p side_event →
    Row world.queue true (is_link world (1 - p)) (side_of past p) (side_of past (1 - p)) side_event new → Rests world past (HasEvent p side_event) → AnswersTo world past line → OneSideEvent world past line p new (side_of past (1 - p))
one_side_event world past line p side_event new below honest has_event row rests answered =
    let now : side_of (line ∷ past) p ≡ side_after side_event (side_of past p) = ap (λ (t : LineSideEvent). side_after_line t p (side_of past p)) has_event ∙ here_is p (side_after side_event (side_of past p)) (side_of past p) in
    let is : side_of (line ∷ past) p ≡ new = now ∙ sym (row_new world.queue true (is_link world (1 - p)) (side_of past p) (side_of past (1 - p)) side_event new row) in
    let row_here : Row world.queue (is_link world p) (is_link world (1 - p)) (side_of past p) (side_of past (1 - p)) side_event (side_of (line ∷ past) p) =
    subst (λ (b : Bool). Row world.queue b (is_link world (1 - p)) (side_of past p) (side_of past (1 - p)) side_event (side_of (line ∷ past) p)) (sym honest)
    (subst (λ (x : Side). Row world.queue true (is_link world (1 - p)) (side_of past p) (side_of past (1 - p)) side_event x) (sym is) row) in
    record {
      fine = (
        subst (λ (t : LineSideEvent). HasRow world past line t) (sym has_event) (is_row world past p side_event (side_of (line ∷ past) p) below row_here),
        subst (λ (t : LineSideEvent). Rests world past t) (sym has_event) rests,
        answered,
        writes_side_event world past line p side_event has_event,
      );
      here = is;
      neighbour_word = ap (λ (t : LineSideEvent). side_after_line t (1 - p) (side_of past (1 - p))) has_event ∙ there_is p (1 - p) (side_after side_event (side_of past (1 - p))) (side_of past (1 - p)) (other_of p below);
    }

pub broken_here : (line : Line) (past : List Line) (p : ℕ) → reading_of line ≡ Breaks p → reads_of (line ∷ past) p ≡ []
broken_here line past p breaks = ap (λ (r : Reading). reads_with r p (reads_of past p)) breaks ∙ here_is p [] (reads_of past p)

pub broken_beside : (line : Line) (past : List Line) (p : ℕ) → p < 2 → reading_of line ≡ Breaks p → reads_of (line ∷ past) (1 - p) ≡ reads_of past (1 - p)
broken_beside line past p below breaks = ap (λ (r : Reading). reads_with r (1 - p) (reads_of past (1 - p))) breaks ∙ there_is p (1 - p) [] (reads_of past (1 - p)) (other_of p below)

marked_none : (marks : List Mark) → reads_marked marks [] ≡ []
marked_none [] = refl
marked_none (mark ∷ marks) = refl

-- The facts at each of these marks, after these lines.
abbrev pub MarksRest : World → List Line → ℕ → List Mark → Type 0
MarksRest world older p [] = Unit {0}
MarksRest world older p (mark ∷ marks) = MarkRests world older p mark × MarksRest world (mark_line p mark ∷ older) p marks

-- The line of the first of these marks may be next. If there is none, any line may be next.
abbrev pub AnswersMarks : World → List Line → ℕ → List Mark → Type 0
AnswersMarks world past p [] = Settled world past
AnswersMarks world past p (mark ∷ marks) = AnswersTo world past (mark_line p mark)

settled_marks : (world : World) (past : List Line) (p : ℕ) (marks : List Mark) → Settled world past → AnswersMarks world past p marks
settled_marks world past p [] settled = settled
settled_marks world past p (mark ∷ marks) settled = answers world past (mark_line p mark) settled

mark_settled : (world : World) (past : List Line) (p : ℕ) (mark : Mark) → Settled world (mark_line p mark ∷ past)
mark_settled world past p mark = subst (λ (r : Reading). SettledBy world r past) (sym (mark_is p mark).1) tt

-- After lines with these marks: the words are as before, the side of p is `new`, and the other's
-- side stays

pub record Went (world : World) (p : ℕ) (old new_lines : List Line) (marks : List Mark) (new : Side) : Type 0 where
  pub memory : last_write new_lines ≡ last_write old
  pub here : side_of new_lines p ≡ new
  pub neighbour_word : side_of new_lines (1 - p) ≡ side_of old (1 - p)
  pub reads_here : reads_of new_lines p ≡ reads_marked marks (reads_of old p)
  pub reads_beside : reads_of new_lines (1 - p) ≡ reads_of old (1 - p)
  pub settled : Settled world new_lines
  pub fine : EachLine (Fine world) new_lines

marks_went : (world : World) (p : ℕ) (marks : List Mark) (past : List Line) (side new : Side) → p < 2 → is_link world p ≡ true → side_of past p ≡ side → MarksRest world past p marks → AnswersMarks world past p marks →
    FollowsRows world.queue (is_link world (1 - p)) (side_of past (1 - p)) side (map Marked marks) new → EachLine (Fine world) past → Went world p past (reverse (map (mark_line p) marks) ++ past) marks new
marks_went world p [] past side new below honest is rests answered along fine = record { memory = refl; here = is ∙ sym along; neighbour_word = refl; reads_here = refl; reads_beside = refl; settled = answered; fine = fine }
marks_went world p (mark ∷ marks) past side new below honest is rests answered along fine =
    let first = mark_line p mark in
    let row : Row world.queue true (is_link world (1 - p)) (side_of past p) (side_of past (1 - p)) (Marked mark) along.0 =
    subst (λ (x : Side). Row world.queue true (is_link world (1 - p)) x (side_of past (1 - p)) (Marked mark) along.0) (sym is) along.1 in
    let one = one_side_event world past first p (Marked mark) along.0 below honest (mark_is p mark).0 row rests.0 answered in
    let rest = marks_went world p marks (first ∷ past) along.0 new below honest one.here rests.1 (settled_marks world (first ∷ past) p marks (mark_settled world past p mark))
    (subst (λ (x : Side). FollowsRows world.queue (is_link world (1 - p)) x along.0 (map Marked marks) new) (sym one.neighbour_word) along.2) (one.fine, fine) in
    subst (λ (new_lines : List Line). Went world p past new_lines (mark ∷ marks) new) (sym (first_after first (map (mark_line p) marks) past)) record {
      memory = rest.memory ∙ memory_after first past (mark_apart p mark);
      here = rest.here;
      neighbour_word = rest.neighbour_word ∙ one.neighbour_word;
      reads_here = rest.reads_here ∙ (ap (reads_marked marks) (broken_here first past p (mark_is p mark).1) ∙ marked_none marks);
      reads_beside = rest.reads_beside ∙ broken_beside first past p below (mark_is p mark).1;
      settled = rest.settled;
      fine = rest.fine;
    }

-- The lines of the devices and of the marks. If the marks answer the line before, there are no
-- lines of the devices.
abbrev Begins : World → List Line → ℕ → List Line → List Mark → Type 0
Begins world past p device marks = Settled world past ⊎ ((device ≡ []) × AnswersMarks world past p marks)

begun : (world : World) (p : ℕ) (device : List Line) (marks : List Mark) (past : List Line) → AllByRecursion IsQuiet device → Begins world past p device marks → EachLine (Fine world) past →
    EachLine (Fine world) (reverse device ++ past) × AnswersMarks world (reverse device ++ past) p marks
begun world p device marks past quiet (inl settled) fine = let a = quiet_lines world device past quiet in (a.fine settled fine, settled_marks world (reverse device ++ past) p marks (a.settled settled))
begun world p device marks past quiet (inr b) fine = subst (λ (d : List Line). EachLine (Fine world) (reverse d ++ past) × AnswersMarks world (reverse d ++ past) p marks) (sym b.0) (fine, b.1)

tail_went : (world : World) (p : ℕ) (device : List Line) (marks : List Mark) (past : List Line) (side new : Side) → p < 2 → is_link world p ≡ true → AllByRecursion IsQuiet device → side_of past p ≡ side → MarksRest world (reverse device ++ past) p marks → Begins world past p device marks →
    FollowsRows world.queue (is_link world (1 - p)) (side_of past (1 - p)) side (map Marked marks) new → EachLine (Fine world) past → Went world p past (reverse (device ++ map (mark_line p) marks) ++ past) marks new
tail_went world p device marks past side new below honest quiet is rests begins along fine =
    let a = quiet_lines world device past quiet in
    let mid = reverse device ++ past in
    let b = begun world p device marks past quiet begins fine in
    let rest = marks_went world p marks mid side new below honest (ap (λ (x : ℕ → Side). x p) a.sides ∙ is) rests b.1
    (subst (λ (x : ℕ → Side). FollowsRows world.queue (is_link world (1 - p)) (x (1 - p)) side (map Marked marks) new) (sym a.sides) along) b.0 in
    let lines : reverse (device ++ map (mark_line p) marks) ++ past ≡ reverse (map (mark_line p) marks) ++ mid =
    ap (λ r. r ++ past) (reverse-append device (map (mark_line p) marks)) ∙ append_assoc (reverse (map (mark_line p) marks)) (reverse device) past in
    subst (λ (new_lines : List Line). Went world p past new_lines marks new) (sym lines) record {
      memory = rest.memory ∙ a.memory;
      here = rest.here;
      neighbour_word = rest.neighbour_word ∙ ap (λ (x : ℕ → Side). x (1 - p)) a.sides;
      reads_here = rest.reads_here ∙ ap (λ (x : ℕ → List Got). reads_marked marks (x p)) a.reads;
      reads_beside = rest.reads_beside ∙ ap (λ (x : ℕ → List Got). x (1 - p)) a.reads;
      settled = rest.settled;
      fine = rest.fine;
    }

-- After the lines of a step

pub record StepWent (world : World) (p : ℕ) (past : List Line) (a : Access) (value : ℕ) (marks : List Mark) (after : List Line) (new : Side) : Type 0 where
  pub left : MemoryAfter p (last_write past) a (last_write after)
  pub here : side_of after p ≡ new
  pub neighbour_word : side_of after (1 - p) ≡ side_of past (1 - p)
  pub reads_here : reads_of after p ≡ reads_marked marks (reads_taken a value (reads_of past p))
  pub reads_beside : reads_of after (1 - p) ≡ reads_of past (1 - p)
  pub settled : Settled world after
  pub fine : EachLine (Fine world) after

-- A State access of an honest side that refused is State 0, and an honest side in RESET writes no
-- word.
abbrev pub RestsAt : World → List Line → ℕ → Access → Type 0
RestsAt world past p (access.Read word) = Unit {0}
RestsAt world past p (access.Write word written) = is_link world p ≡ true → (side_of past p).state ≢ 0
RestsAt world past p (access.State state) = Rests world past (HasEvent p (Wrote state))
RestsAt world past p (access.Ring target vector) = Unit {0}
RestsAt world past p access.Nothing = Unit {0}

pub stored_at : (word value : ℕ) (memory : ℕ → ℕ) (w : ℕ) → w ≢ word → (if word == w then value else memory w) ≡ memory w
stored_at word value memory w ne = there_is word w value (memory w) (λ e. ne (sym e))

-- A read adds no lines of the devices, and its marks answer it.
abbrev pub ReadsAlone : World → ℕ → Access → ℕ → List Line → List Mark → List Line → Type 0
ReadsAlone world p (access.Read word) value device marks past = (device ≡ []) × AnswersMarks world (line.Read p word value ∷ past) p marks
ReadsAlone world p _ value device marks past = Unit {0}

pub step_went : (world : World) (p : ℕ) (a : Access) (value : ℕ) (device : List Line) (marks : List Mark) (past : List Line) (new : Side) → p < 2 → is_link world p ≡ true → AllByRecursion IsQuiet device →
    FollowsRows world.queue (is_link world (1 - p)) (side_of past (1 - p)) (side_of past p) (side_events_of a (value_given a value) ++ map Marked marks) new → RestsAt world past p a → MarksRest world (reverse device ++ after_access p a value past) p marks → ReadsAlone world p a value device marks past → Settled world past → EachLine (Fine world) past →
    StepWent world p past a value marks (reverse (step_lines p (step_of a value marks) device) ++ past) new
step_went world p (access.Read word) value device marks past new below honest quiet along rests marks_rest alone settled fine =
    let first = line.Read p word value in
    let one = one_side_event world past first p (Gave value) along.0 below honest refl along.1 tt (answers world past first settled) in
    let rest = tail_went world p device marks (first ∷ past) along.0 new below honest quiet one.here marks_rest (inr alone)
    (subst (λ (x : Side). FollowsRows world.queue (is_link world (1 - p)) x along.0 (map Marked marks) new) (sym one.neighbour_word) along.2) (one.fine, fine) in
    subst (λ (after : List Line). StepWent world p past (access.Read word) value marks after new) (sym (first_after first (device ++ map (mark_line p) marks) past)) record {
      left = rest.memory;
      here = rest.here;
      neighbour_word = rest.neighbour_word ∙ one.neighbour_word;
      reads_here = rest.reads_here ∙ ap (reads_marked marks) (here_is p (reads_of past p ++ got word value ∷ []) (reads_of past p));
      reads_beside = rest.reads_beside ∙ there_is p (1 - p) (reads_of past (1 - p) ++ got word value ∷ []) (reads_of past (1 - p)) (other_of p below);
      settled = rest.settled;
      fine = rest.fine;
    }
step_went world p (access.Write word written) value device marks past new below honest quiet along rests marks_rest alone settled fine =
    let first = line.Write p word written in
    let rest = tail_went world p device marks (first ∷ past) (side_of past p) new below honest quiet refl marks_rest (inl tt) along ((tt, tt, answers world past first settled, rests), fine) in
    subst (λ (after : List Line). StepWent world p past (access.Write word written) value marks after new) (sym (first_after first (device ++ map (mark_line p) marks) past)) record {
      left = record {
        here = ap (λ (m : ℕ → ℕ). m word) rest.memory ∙ here_is word written (last_write past word);
        neighbour_word = λ w ne. ap (λ (m : ℕ → ℕ). m w) rest.memory ∙ stored_at word written (last_write past) w ne;
      };
      here = rest.here;
      neighbour_word = rest.neighbour_word;
      reads_here = rest.reads_here;
      reads_beside = rest.reads_beside;
      settled = rest.settled;
      fine = rest.fine;
    }
step_went world p (access.State state) value device marks past new below honest quiet along rests marks_rest alone settled fine =
    let first = line.State p state in
    let one = one_side_event world past first p (Wrote state) along.0 below honest refl along.1 rests (answers world past first settled) in
    let rest = tail_went world p device marks (first ∷ past) along.0 new below honest quiet one.here marks_rest (inl tt)
    (subst (λ (x : Side). FollowsRows world.queue (is_link world (1 - p)) x along.0 (map Marked marks) new) (sym one.neighbour_word) along.2) (one.fine, fine) in
    subst (λ (after : List Line). StepWent world p past (access.State state) value marks after new) (sym (first_after first (device ++ map (mark_line p) marks) past)) record {
      left = record {
        here = ap (λ (m : ℕ → ℕ). m p) rest.memory ∙ here_is p state (last_write past p);
        neighbour_word = λ w ne. ap (λ (m : ℕ → ℕ). m w) rest.memory ∙ stored_at p state (last_write past) w ne;
      };
      here = rest.here;
      neighbour_word = rest.neighbour_word ∙ one.neighbour_word;
      reads_here = rest.reads_here;
      reads_beside = rest.reads_beside;
      settled = rest.settled;
      fine = rest.fine;
    }
step_went world p (access.Ring target vector) value device marks past new below honest quiet along rests marks_rest alone settled fine =
    let first = line.Doorbell p target vector in
    let rest = tail_went world p device marks (first ∷ past) (side_of past p) new below honest quiet refl marks_rest (inl tt) along ((tt, tt, answers world past first settled, tt), fine) in
    subst (λ (after : List Line). StepWent world p past (access.Ring target vector) value marks after new) (sym (first_after first (device ++ map (mark_line p) marks) past))
    record { left = rest.memory; here = rest.here; neighbour_word = rest.neighbour_word; reads_here = rest.reads_here; reads_beside = rest.reads_beside; settled = rest.settled; fine = rest.fine }
step_went world p access.Nothing value device marks past new below honest quiet along rests marks_rest alone settled fine =
    let rest = tail_went world p device marks past (side_of past p) new below honest quiet refl marks_rest (inl settled) along fine in
    record { left = rest.memory; here = rest.here; neighbour_word = rest.neighbour_word; reads_here = rest.reads_here; reads_beside = rest.reads_beside; settled = rest.settled; fine = rest.fine }
