-- The places of two link peers after the lines of a history, and the lines that change nothing of
-- them.
use Rattle.std.proofs.Common.{◌≡◌, ◌≢◌, ℕ, ◌-◌, ◌<◌, true, false, List, [], ◌∷◌, ◌++◌, length, refl, sym, ◌∙◌, ap, subst, append_assoc}
use Rattle.std.specs.Prelude.{Option, Some, reverse}
use Rattle.std.specs.List.{AllByRecursion}
use Rattle.std.proofs.lemmas.List.{reverse-append}
use Rattle.scenario_text.specs.Scenario.{World, is_link}
use Rattle.call_grammar.specs.Steps.{Mark, Reclaim, Accept, Look, Deliver, Done, Refuse, Over, Step}
use Rattle.call_grammar.specs.Ends.{End}
use Rattle.call_grammar.specs.Places.{Place}
use Rattle.link_machine.specs.LinkMachine.{Side, SideEvent, Gave, Wrote, Marked, WasReset}
use Rattle.link_invariant.specs.LinkConfig as pair
use Rattle.link_invariant.specs.LinkInvariant.{LinkInvariant}
use Rattle.link_invariant.proofs.LinkInvariantKept.{whole_like}
use Rattle.link_invariant.specs.Sides.{SideIs}
use Rattle.lawful_history.specs.declared.line.Line.{Line}
use Rattle.lawful_history.specs.declared.line.Line.TheVariants as line
use Rattle.lawful_history.specs.Memory.{MemoryEffect, memory_effect_of, value_after, last_write}
use Rattle.lawful_history.specs.Memory as touch
use Rattle.lawful_history.specs.Schedule.{Event, DeviceAccess, ReadsConfig}
use Rattle.lawful_history.specs.EventRecords.{access_lines}
use Rattle.lawful_history.specs.Device.{interrupts_of_access, step_interrupts, device_access_line, device_lines}
use Rattle.lawful_history.proofs.LinesOfDevices.{KeptByDevices, keeps_all, of_step, of_event}
use Rattle.history_laws.specs.SideEvents.{LineSideEvent, HasEvent, HasNoEvent, line_side_event_of, side_after_line, side_of}
use Rattle.history_laws.specs.Rows.{EachLine, HasRow}
use Rattle.history_laws.specs.Reads.{Got, Reading, Passes, reading_of, reads_with, reads_of, IsReadFrame, IsReadBeyond, Takes, Breaks, got}
use Rattle.history_laws.specs.Spelled.{SpellsNext}
use Rattle.history_laws.specs.Indexes.{IsIndexRead, IsLoneIndex}
use Rattle.split_ring.specs.Layout.{has_events, AvailIndex, UsedIndex}
use Rattle.history_laws.proofs.ReadPlaces.{ReadsAre}
use Rattle.history_laws.proofs.Unrung.{Unrung, UnrungIs, AreSilent, line_is, silent_none}
use Rattle.history_laws.specs.Wake.{event_word, EventIs}
use Rattle.history_laws.proofs.Armed.{ArmedIs}
use Rattle.link_invariant.specs.Fields.{AvailEvent}
use Rattle.link_invariant.specs.LinkConfig.{fields}
use Rattle.split_ring.specs.Spelling.{low_half}
use Rattle.call_grammar.specs.Offers.{wants_doorbell}
use Rattle.lawful_history.specs.Sides.{config_of}
use Rattle.history_laws.proofs.PermittedEvents.{link_config_of}
use Rattle.split_ring.specs.declared.ranges.Refused.{Refused}
use Rattle.split_ring.specs.declared.steps.Access.{Access}
use Rattle.split_ring.specs.declared.steps.Access.TheVariants as access

-- The newest of these lines is a read mark of peer p that found no frame.
abbrev pub EndsLook : ℕ → List Line → Type 0
EndsLook p [] = ⊥
EndsLook p (newest ∷ older) = newest ≡ line.Look p 0

-- The facts at a mark:
-- - an accepted frame is in the section; a delivered frame and a refused value were read, and an
--   index once;
-- - if the call of an accepted frame is over without a doorbell, the other's avail_event wants
--   none;
-- - after a finished poll that found no frame, avail_event is the next frame's number.
abbrev pub MarkRests : World → List Line → ℕ → Mark → Type 0
MarkRests world older p (Reclaim count) = IsIndexRead (config_of world p) p older UsedIndex (side_of older p).freed count
MarkRests world older p (Accept frame) = SpellsNext world older p frame
MarkRests world older p (Look count) = IsIndexRead (config_of world p) p older AvailIndex (length (side_of older p).delivered) count
MarkRests world older p (Deliver frame) = IsReadFrame (config_of world p) (length (side_of older p).delivered) (reads_of older p) frame
MarkRests world older p (Refuse refused) =
    IsReadBeyond (config_of world p) (side_of older p) (reads_of older p) refused.field refused.value × IsLoneIndex (config_of world p) p older refused.field refused.value
MarkRests world older p Over = Unrung world p older → wants_doorbell (low_half (last_write older (event_word world (1 - p)))) (length (side_of older p).accepted - 1) ≡ false
MarkRests world older p Done = has_events world.queue ≡ true → EndsLook p older → EventIs world older p (length (side_of older p).delivered)
MarkRests world older p mark = Unit {0}

-- An honest side that refused writes only State 0.
abbrev pub Rests : World → List Line → LineSideEvent → Type 0
Rests world older (HasEvent p (Gave value)) = Unit {0}
Rests world older (HasEvent p (Wrote state)) = is_link world p ≡ true → (side_of older p).refused ≡ true → state ≡ 0
Rests world older (HasEvent p (Marked mark)) = MarkRests world older p mark
Rests world older (HasEvent p WasReset) = Unit {0}
Rests world older HasNoEvent = Unit {0}

-- After an honest link peer's read out of range the next line is the refusal

abbrev pub Answered : World → Reading → List Line → Line → Type 0
Answered world (Takes p word value) older next = (refused : Refused) → is_link world p ≡ true → IsReadBeyond (config_of world p) (side_of older p) (reads_of older p ++ got word value ∷ []) refused.field refused.value → next ≡ line.Refuse p refused
Answered world (Breaks p) older next = Unit {0}
Answered world Passes older next = Unit {0}

abbrev pub AnswersTo : World → List Line → Line → Type 0
AnswersTo world [] next = Unit {0}
AnswersTo world (first ∷ older) next = Answered world (reading_of first) older next

abbrev pub SettledBy : World → Reading → List Line → Type 0
SettledBy world (Takes p word value) older = (refused : Refused) → is_link world p ≡ true → ¬ IsReadBeyond (config_of world p) (side_of older p) (reads_of older p ++ got word value ∷ []) refused.field refused.value
SettledBy world (Breaks p) older = Unit {0}
SettledBy world Passes older = Unit {0}

-- The newest of these lines isn't a read out of range.
abbrev pub Settled : World → List Line → Type 0
Settled world [] = Unit {0}
Settled world (line ∷ older) = SettledBy world (reading_of line) older

settled_by : (world : World) (r : Reading) (older : List Line) (line : Line) → SettledBy world r older → Answered world r older line
settled_by world (Takes p word value) older line settled = λ refused honest beyond. absurd (settled refused honest beyond)
settled_by world (Breaks p) older line settled = tt
settled_by world Passes older line settled = tt

-- Then any line may be next.
pub answers : (world : World) (past : List Line) (line : Line) → Settled world past → AnswersTo world past line
answers world [] line settled = tt
answers world (first ∷ older) line settled = settled_by world (reading_of first) older line settled

-- An honest side in RESET writes no word.
abbrev pub WritesIn : World → List Line → Line → Type 0
WritesIn world older (line.Write p word value) = is_link world p ≡ true → (side_of older p).state ≢ 0
WritesIn world older line = Unit {0}

writes_apart : (world : World) (older : List Line) (l : Line) → memory_effect_of l ≡ touch.Apart → WritesIn world older l
writes_apart world older (line.Write p word value) apart = absurd (cc)
writes_apart world older l apart = tt

pub writes_side_event : (world : World) (older : List Line) (l : Line) (p : ℕ) (side_event : SideEvent) → line_side_event_of l ≡ HasEvent p side_event → WritesIn world older l
writes_side_event world older (line.Write p word value) q side_event has_event = absurd (cc)
writes_side_event world older l p side_event has_event = tt

-- The invariant of each line.
abbrev pub Fine : World → List Line → Line → Type 0
Fine world older line = HasRow world older line (line_side_event_of line) × Rests world older (line_side_event_of line) × AnswersTo world older line × WritesIn world older line

-- After these lines the ends are at these places. Each honest end is the side of the lines and has
-- their reads, and the State words are the sides' States.
pub record Stands (world : World) (past : List Line) (ends : ℕ → End) (places : ℕ → Place) : Type 0 where
  pub holds : LinkInvariant (link_config_of world) (is_link world) (last_write past) ends places
  pub sides : (p : ℕ) → p < 2 → is_link world p ≡ true → SideIs (ends p) (places p) (side_of past p)
  pub states : (p : ℕ) → p < 2 → last_write past p ≡ (side_of past p).state
  pub reads : (p : ℕ) → p < 2 → is_link world p ≡ true → ReadsAre (pair.config_of (link_config_of world) p) (places p) (reads_of past p)
  pub unrung : (p : ℕ) → p < 2 → is_link world p ≡ true → UnrungIs world p (places p) past
  pub armed : has_events world.queue ≡ true → (p : ℕ) → p < 2 → is_link world p ≡ true → ArmedIs (fields (link_config_of world) (last_write past) p AvailEvent) (ends p) (places p)
  pub settled : Settled world past
  pub fine : EachLine (Fine world) past

-- Lines that change nothing

pub record Alike (world : World) (old new : List Line) : Type 0 where
  pub memory : last_write new ≡ last_write old
  pub sides : side_of new ≡ side_of old
  pub reads : reads_of new ≡ reads_of old
  pub unrung : (p : ℕ) (place : Place) → UnrungIs world p place old → UnrungIs world p place new
  pub settled : Settled world old → Settled world new
  pub fine : Settled world old → EachLine (Fine world) old → EachLine (Fine world) new

pub stands_alike : (world : World) (old new : List Line) (ends : ℕ → End) (places : ℕ → Place) → Alike world old new → Stands world old ends places → Stands world new ends places
stands_alike world old new ends places a s = record {
  holds = subst (λ (m : ℕ → ℕ). LinkInvariant (link_config_of world) (is_link world) m ends places) (sym a.memory) s.holds;
  sides = λ p below honest. subst (λ (x : ℕ → Side). SideIs (ends p) (places p) (x p)) (sym a.sides) (s.sides p below honest);
  states = λ p below. ap (λ (m : ℕ → ℕ). m p) a.memory ∙ (s.states p below ∙ ap (λ (x : ℕ → Side). (x p).state) (sym a.sides));
  reads = λ p below honest. subst (λ (r : ℕ → List Got). ReadsAre (pair.config_of (link_config_of world) p) (places p) (r p)) (sym a.reads) (s.reads p below honest);
  unrung = λ p below honest. a.unrung p (places p) (s.unrung p below honest);
  armed = λ has p below honest. subst (λ (m : ℕ → ℕ). ArmedIs (fields (link_config_of world) m p AvailEvent) (ends p) (places p)) (sym a.memory) (s.armed has p below honest);
  settled = a.settled s.settled;
  fine = a.fine s.settled s.fine;
}

-- The same ends at the same places.
pub ends_alike : (world : World) (past : List Line) (ends after_ends : ℕ → End) (places : ℕ → Place) → ((p : ℕ) → p < 2 → is_link world p ≡ true → after_ends p ≡ ends p) → Stands world past ends places → Stands world past after_ends places
ends_alike world past ends after_ends places same s = record {
  holds = whole_like (link_config_of world) (is_link world) (last_write past) ends after_ends places same s.holds;
  sides = λ p below honest. subst (λ (x : End). SideIs x (places p) (side_of past p)) (sym (same p below honest)) (s.sides p below honest);
  states = s.states;
  reads = s.reads;
  unrung = s.unrung;
  armed = λ has p below honest. subst (λ (x : End). ArmedIs (fields (link_config_of world) (last_write past) p AvailEvent) x (places p)) (sym (same p below honest)) (s.armed has p below honest);
  settled = s.settled;
  fine = s.fine;
}

-- A line that leaves every word and has no side event.
pub record IsQuiet (line : Line) : Type 0 where
  pub apart : memory_effect_of line ≡ touch.Apart
  pub silent : line_side_event_of line ≡ HasNoEvent
  pub passes : reading_of line ≡ Passes

pub quiet_silent : (lines : List Line) → AllByRecursion IsQuiet lines → AreSilent lines
quiet_silent [] quiet = tt
quiet_silent (line ∷ lines) quiet = (quiet.0.silent, quiet_silent lines quiet.1)

pub memory_after : (line : Line) (past : List Line) → memory_effect_of line ≡ touch.Apart → last_write (line ∷ past) ≡ last_write past
memory_after line past apart = ap (λ (t : MemoryEffect). λ (at : ℕ). value_after t at (last_write past at)) apart

sides_after : (line : Line) (past : List Line) → line_side_event_of line ≡ HasNoEvent → side_of (line ∷ past) ≡ side_of past
sides_after line past silent = ap (λ (t : LineSideEvent). λ (p : ℕ). side_after_line t p (side_of past p)) silent

pub reads_after : (line : Line) (past : List Line) → reading_of line ≡ Passes → reads_of (line ∷ past) ≡ reads_of past
reads_after line past passes = ap (λ (r : Reading). λ (p : ℕ). reads_with r p (reads_of past p)) passes

silent_fine : (world : World) (line : Line) (past : List Line) (t : LineSideEvent) → t ≡ HasNoEvent → HasRow world past line t × Rests world past t
silent_fine world line past t silent = subst (λ (x : LineSideEvent). HasRow world past line x × Rests world past x) (sym silent) (tt, tt)

passes_settled : (world : World) (line : Line) (past : List Line) → reading_of line ≡ Passes → Settled world (line ∷ past)
passes_settled world line past passes = subst (λ (r : Reading). SettledBy world r past) (sym passes) tt

quiet_line : (world : World) (line : Line) (past : List Line) → IsQuiet line → Alike world past (line ∷ past)
quiet_line world line past q = record {
  memory = memory_after line past q.apart;
  sides = sides_after line past q.silent;
  reads = reads_after line past q.passes;
  unrung = λ p place is. line_is world p place line past (silent_none p line q.silent) is;
  settled = λ settled. passes_settled world line past q.passes;
  fine = λ settled old. let side_event = silent_fine world line past (line_side_event_of line) q.silent in ((side_event.0, side_event.1, answers world past line settled, writes_apart world past line q.apart), old);
}

alike_on : (world : World) (old mid new : List Line) → Alike world old mid → Alike world mid new → Alike world old new
alike_on world old mid new a b = record { memory = b.memory ∙ a.memory; sides = b.sides ∙ a.sides; reads = b.reads ∙ a.reads; unrung = λ p place is. b.unrung p place (a.unrung p place is); settled = λ settled. b.settled (a.settled settled); fine = λ settled f. b.fine (a.settled settled) (a.fine settled f) }

-- The first of some new lines is the oldest of them.
pub first_after : (line : Line) (lines past : List Line) → reverse (line ∷ lines) ++ past ≡ reverse lines ++ (line ∷ past)
first_after line lines past = ap (λ r. r ++ past) (reverse-append (line ∷ []) lines) ∙ append_assoc (reverse lines) (line ∷ []) past

pub quiet_lines : (world : World) (lines past : List Line) → AllByRecursion IsQuiet lines → Alike world past (reverse lines ++ past)
quiet_lines world [] past all = record { memory = refl; sides = refl; reads = refl; unrung = λ p place is. is; settled = λ settled. settled; fine = λ settled old. old }
quiet_lines world (line ∷ lines) past all =
    subst (λ (new : List Line). Alike world past new) (sym (first_after line lines past)) (alike_on world past (line ∷ past) (reverse lines ++ (line ∷ past)) (quiet_line world line past all.0) (quiet_lines world lines (line ∷ past) all.1))

-- The lines of the devices

reached_quiet : (world : World) (older : List Line) (p : ℕ) (a : DeviceAccess) → IsQuiet (device_access_line world older p a)
reached_quiet world older p (ReadsConfig offset width) = record { apart = refl; silent = refl; passes = refl }
reached_quiet world older p _ = record { apart = refl; silent = refl; passes = refl }

quiet_keeps : KeptByDevices (AllByRecursion IsQuiet)
quiet_keeps = keeps_all IsQuiet (λ p vector. record { apart = refl; silent = refl; passes = refl }) (λ p vector. record { apart = refl; silent = refl; passes = refl }) reached_quiet

pub step_quiet : (world : World) (older : List Line) (losses : ℕ → ℕ) (p : ℕ) (went : Option Step) → AllByRecursion IsQuiet (step_interrupts world older losses p went)
step_quiet = of_step (AllByRecursion IsQuiet) quiet_keeps

pub device_quiet : (world : World) (older : List Line) (losses : ℕ → ℕ) (e : Event) (went : Option Step) → AllByRecursion IsQuiet (device_lines world older losses e went)
device_quiet = of_event (AllByRecursion IsQuiet) quiet_keeps

-- A read adds no line of the devices.
abbrev pub BringsNone : Access → List Line → Type 0
BringsNone (access.Read word) device = device ≡ []
BringsNone _ device = Unit {0}

brings_none : (world : World) (older : List Line) (losses : ℕ → ℕ) (p : ℕ) (a : Access) (value : ℕ) → BringsNone a (interrupts_of_access world older losses (access_lines p a value))
brings_none world older losses p (access.Read word) value = refl
brings_none world older losses p _ value = tt

pub step_brings : (world : World) (older : List Line) (losses : ℕ → ℕ) (p : ℕ) (step : Step) → BringsNone step.access (step_interrupts world older losses p (Some step))
step_brings world older losses p step = brings_none world older losses p step.access step.value
