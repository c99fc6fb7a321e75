-- An offer whose frame is accepted and whose doorbell hasn't rung yet, by the lines of its peer.
use Rattle.std.proofs.Common.{◌≡◌, ◌≢◌, ℕ, ◌⊎◌, inl, inr, Bool, true, false, List, [], ◌∷◌, ◌++◌, refl, ap, ◌∙◌, subst, append_assoc}
use Rattle.std.specs.Prelude.{map, reverse, if◌then◌else◌}
use Rattle.std.specs.List.{AllByRecursion}
use Rattle.std.proofs.lemmas.List.{reverse-append}
use Rattle.split_ring.specs.declared.steps.Access.{Access}
use Rattle.split_ring.specs.declared.steps.Access.TheVariants as access
use Rattle.split_ring.specs.Layout.{has_events}
use Rattle.split_ring.specs.Spelling.{low_half}
use Rattle.scenario_text.specs.Scenario.{World}
use Rattle.call_grammar.specs.Steps.{Mark, Accept, Over, value_given, step_of}
use Rattle.call_grammar.specs.Offers.{wants_doorbell}
use Rattle.call_grammar.specs.Places.{Place, Closed, WritingAvailIndex, ReadingAvailEvent, RingingOffer, access_at, marks_at, next_place, step_at}
use Rattle.link_machine.specs.LinkMachine.{Marked}
use Rattle.link_invariant.specs.LinkConfig as pair
use Rattle.link_invariant.proofs.DoorbellIsRung.{AcceptsNone, marks_none}
use Rattle.lawful_history.specs.declared.line.Line.{Line}
use Rattle.lawful_history.specs.declared.line.Line.TheVariants as line
use Rattle.lawful_history.specs.EventRecords.{access_lines, mark_line, step_lines}
use Rattle.history_laws.specs.SideEvents.{HasEvent, HasNoEvent, line_side_event_of}
use Rattle.history_laws.specs.Reads.{Reading, Takes, Breaks, Passes, reading_of}
use Rattle.history_laws.specs.Wake.{doorbell_of}
use Rattle.history_laws.proofs.PermittedEvents.{link_config_of}
use Rattle.history_laws.proofs.MarkLines.{mark_is, after_access}

-- The last mark of peer p since its reset is an accept, and its doorbell hasn't rung since.

abbrev pub IsAccept : ℕ → Line → Type 0
IsAccept p l = (frame : List ℕ) × (l ≡ line.Accept p frame)

abbrev pub StaysUnrung : Reading → ℕ → Type 0 → Type 0
StaysUnrung (Takes peer word value) p older = older
StaysUnrung (Breaks peer) p older = (peer ≢ p) × older
StaysUnrung Passes p older = older

abbrev pub Unrung : World → ℕ → List Line → Type 0
Unrung world p [] = ⊥
Unrung world p (l ∷ older) = IsAccept p l ⊎ ((l ≢ doorbell_of world p) × StaysUnrung (reading_of l) p (Unrung world p older))

was_unrung : (r : Reading) (p : ℕ) (older : Type 0) → StaysUnrung r p older → older
was_unrung (Takes peer word value) p older stays = stays
was_unrung (Breaks peer) p older stays = stays.1
was_unrung Passes p older stays = stays

unrung_before : (world : World) (p : ℕ) (l : Line) (older : List Line) → (IsAccept p l → ⊥) → Unrung world p (l ∷ older) → Unrung world p older
unrung_before world p l older none (inl accept) = absurd (none accept)
unrung_before world p l older none (inr stays) = was_unrung (reading_of l) p (Unrung world p older) stays.1

-- Only an offer before the read of avail_event or before the doorbell is in this state.
abbrev pub UnrungIs : World → ℕ → Place → List Line → Type 0
UnrungIs world p (ReadingAvailEvent number) past = Unit {0}
UnrungIs world p RingingOffer past = Unit {0}
UnrungIs world p place past = ¬ Unrung world p past

pub at_place : (world : World) (p : ℕ) (place : Place) (past : List Line) → ¬ Unrung world p past → UnrungIs world p place past
at_place world p (ReadingAvailEvent number) past none = tt
at_place world p RingingOffer past none = tt
at_place world p place past none = none

-- Lines of which none is an accept of p

abbrev pub NoAccepts : ℕ → List Line → Type 0
NoAccepts p lines = AllByRecursion (λ l. IsAccept p l → ⊥) lines

first_after : (l : Line) (lines past : List Line) → reverse (l ∷ lines) ++ past ≡ reverse lines ++ (l ∷ past)
first_after l lines past = ap (λ r. r ++ past) (reverse-append (l ∷ []) lines) ∙ append_assoc (reverse lines) (l ∷ []) past

pub lines_unrung : (world : World) (p : ℕ) (lines past : List Line) → NoAccepts p lines → Unrung world p (reverse lines ++ past) → Unrung world p past
lines_unrung world p [] past none unrung = unrung
lines_unrung world p (l ∷ lines) past none unrung =
    unrung_before world p l past none.0 (lines_unrung world p lines (l ∷ past) none.1 (subst (Unrung world p) (first_after l lines past) unrung))

pub line_is : (world : World) (p : ℕ) (place : Place) (l : Line) (past : List Line) → (IsAccept p l → ⊥) → UnrungIs world p place past → UnrungIs world p place (l ∷ past)
line_is world p (ReadingAvailEvent number) l past none is = tt
line_is world p RingingOffer l past none is = tt
line_is world p place l past none is = λ unrung. is (unrung_before world p l past none unrung)

pub lines_are : (world : World) (p : ℕ) (place : Place) (lines past : List Line) → NoAccepts p lines → UnrungIs world p place past → UnrungIs world p place (reverse lines ++ past)
lines_are world p (ReadingAvailEvent number) lines past none is = tt
lines_are world p RingingOffer lines past none is = tt
lines_are world p place lines past none is = λ unrung. is (lines_unrung world p lines past none unrung)

pub silent_none : (p : ℕ) (l : Line) → line_side_event_of l ≡ HasNoEvent → IsAccept p l → ⊥
silent_none p l silent accept = let e : line_side_event_of l ≡ HasEvent p (Marked (Accept accept.0)) = ap line_side_event_of accept.1 in cc

pub side_event_none : (p peer : ℕ) (l : Line) (mark : Mark) → line_side_event_of l ≡ HasEvent peer (Marked mark) → ((frame : List ℕ) → mark ≢ Accept frame) ⊎ (peer ≢ p) → IsAccept p l → ⊥
side_event_none p peer l mark has_event (inl none) accept = let e : line_side_event_of l ≡ HasEvent p (Marked (Accept accept.0)) = ap line_side_event_of accept.1 in none accept.0 (cc)
side_event_none p peer l mark has_event (inr ne) accept = let e : line_side_event_of l ≡ HasEvent p (Marked (Accept accept.0)) = ap line_side_event_of accept.1 in ne (cc)

pub marked_ends : (world : World) (p : ℕ) (l : Line) (older : List Line) → reading_of l ≡ Breaks p → (IsAccept p l → ⊥) → ¬ Unrung world p (l ∷ older)
marked_ends world p l older breaks none (inl accept) = none accept
marked_ends world p l older breaks none (inr stays) =
    let here : StaysUnrung (Breaks p) p (Unrung world p older) = subst (λ (r : Reading). StaysUnrung r p (Unrung world p older)) breaks stays.1 in here.0 refl

-- The lines of a step

both : (p : ℕ) (lines others : List Line) → NoAccepts p lines → NoAccepts p others → NoAccepts p (lines ++ others)
both p [] others mine opposite = opposite
both p (l ∷ lines) others mine opposite = (mine.0, both p lines others mine.1 opposite)

abbrev pub AreSilent : List Line → Type 0
AreSilent lines = AllByRecursion (λ l. line_side_event_of l ≡ HasNoEvent) lines

pub silents_none : (p : ℕ) (lines : List Line) → AreSilent lines → NoAccepts p lines
silents_none p [] silent = tt
silents_none p (l ∷ lines) silent = (silent_none p l silent.0, silents_none p lines silent.1)

others_marks : (p q : ℕ) → p ≢ q → (marks : List Mark) → NoAccepts q (map (mark_line p) marks)
others_marks p q ne [] = tt
others_marks p q ne (mark ∷ marks) = (side_event_none q p (mark_line p mark) mark (mark_is p mark).0 (inr ne), others_marks p q ne marks)

first_none : (mark : Mark) (marks : List Mark) → AcceptsNone (mark ∷ marks) → (frame : List ℕ) → mark ≢ Accept frame
first_none mark marks none frame e = subst (λ (m : Mark). AcceptsNone (m ∷ marks)) e none

rest_none : (mark : Mark) (marks : List Mark) → AcceptsNone (mark ∷ marks) → AcceptsNone marks
rest_none (Accept frame) marks none = absurd none
rest_none mark marks none = none

own_marks : (p : ℕ) (marks : List Mark) → AcceptsNone marks → NoAccepts p (map (mark_line p) marks)
own_marks p [] none = tt
own_marks p (mark ∷ marks) none = (side_event_none p p (mark_line p mark) mark (mark_is p mark).0 (inl (first_none mark marks none)), own_marks p marks (rest_none mark marks none))

access_none : (p q : ℕ) (a : Access) (value : ℕ) → NoAccepts q (access_lines p a value)
access_none p q access.Nothing value = tt
access_none p q _ value = (λ accept. let e = accept.1 in cc, tt)

pub step_none : (p q : ℕ) (a : Access) (value : ℕ) (device : List Line) (marks : List Mark) → AreSilent device → (p ≢ q) ⊎ ((p ≡ q) × AcceptsNone marks) → NoAccepts q (step_lines p (step_of a value marks) device)
step_none p q a value device marks silent (inl ne) = both q _ _ (access_none p q a (value_given a value)) (both q _ _ (silents_none q device silent) (others_marks p q ne marks))
step_none p q a value device marks silent (inr none) =
    both q _ _ (access_none p q a (value_given a value)) (both q _ _ (silents_none q device silent) (subst (λ (k : ℕ). NoAccepts k (map (mark_line p) marks)) none.0 (own_marks p marks none.1)))

over_last : (world : World) (p : ℕ) (lines past : List Line) → ¬ Unrung world p (reverse (lines ++ line.Over p ∷ []) ++ past)
over_last world p lines past unrung =
    let now : Unrung world p (line.Over p ∷ (reverse lines ++ past)) = subst (λ (ls : List Line). Unrung world p (ls ++ past)) (reverse-append lines (line.Over p ∷ [])) unrung in
    marked_ends world p (line.Over p) (reverse lines ++ past) refl (λ accept. let e = accept.1 in cc) now

-- The state after the step.
module _ (world : World) (p : ℕ) (past device : List Line) (value : ℕ) (silent : AreSilent device) where
  side_event_is : (b : Bool) (number : ℕ) (after : List Line) → UnrungIs world p (if b then ReadingAvailEvent number else RingingOffer) after
  side_event_is true number after = tt
  side_event_is false number after = tt

  event_read_is : (b : Bool) (first : Line) → UnrungIs world p (if b then RingingOffer else Closed) (reverse (first ∷ (device ++ map (mark_line p) (if b then [] else Over ∷ []))) ++ past)
  event_read_is true first = tt
  event_read_is false first = over_last world p (first ∷ device) past

  pub step_is : (place : Place) → UnrungIs world p place past → UnrungIs world p (next_place (pair.config_of (link_config_of world) p) place value) (reverse (step_lines p (step_at (pair.config_of (link_config_of world) p) place value) device) ++ past)
  step_is (WritingAvailIndex pending) is = side_event_is (has_events world.queue) pending.number _
  step_is (ReadingAvailEvent number) is = event_read_is (wants_doorbell (low_half value) number) _
  step_is RingingOffer is = over_last world p (doorbell_of world p ∷ device) past
  step_is place is =
      let config = pair.config_of (link_config_of world) p in
      at_place world p (next_place config place value) _ (λ unrung. is (lines_unrung world p (step_lines p (step_at config place value) device) past
      (step_none p p (access_at config place) value device (marks_at config place value) silent (inr (refl, marks_none config place value (λ pending e. cc)))) unrung))

-- The state at the step's marks, after its access.
abbrev pub UnrungAt : World → ℕ → Place → List Line → Type 0
UnrungAt world p (ReadingAvailEvent number) older = Unit {0}
UnrungAt world p place older = ¬ Unrung world p older

access_keeps : (world : World) (p : ℕ) (a : Access) (value : ℕ) (past : List Line) → ¬ Unrung world p past → ¬ Unrung world p (after_access p a value past)
access_keeps world p access.Nothing value past none unrung = none unrung
access_keeps world p _ value past none unrung = none (unrung_before world p _ past (λ accept. let e = accept.1 in cc) unrung)

rung_here : (world : World) (p : ℕ) (past : List Line) → ¬ Unrung world p (doorbell_of world p ∷ past)
rung_here world p past (inl accept) = let e = accept.1 in cc
rung_here world p past (inr stays) = stays.0 refl

pub access_is : (world : World) (p : ℕ) (place : Place) (value : ℕ) (past device : List Line) → AreSilent device → UnrungIs world p place past →
    UnrungAt world p place (reverse device ++ after_access p (access_at (pair.config_of (link_config_of world) p) place) value past)
access_is world p (ReadingAvailEvent number) value past device silent is = tt
access_is world p RingingOffer value past device silent is = λ unrung. rung_here world p past (lines_unrung world p device _ (silents_none p device silent) unrung)
access_is world p place value past device silent is =
    λ unrung. access_keeps world p (access_at (pair.config_of (link_config_of world) p) place) value past is (lines_unrung world p device _ (silents_none p device silent) unrung)
