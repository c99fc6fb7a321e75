-- The lines of a history without those of the devices.
use Rattle.std.proofs.Common.{◌≡◌, ℕ, Bool, true, false, List, [], ◌∷◌, ◌++◌, refl, sym, ◌∙◌, ap}
use Rattle.std.specs.Prelude.{if◌then◌else◌, Option, Some, None, reverse, not, map}
use Rattle.std.specs.List.{AllByRecursion}
use Rattle.std.proofs.lemmas.List.{append-nil, reverse-append}
use Rattle.std.proofs.lemmas.List.Elements.{filter-append}
use Rattle.split_ring.specs.declared.steps.Access.{Access}
use Rattle.scenario_text.specs.Scenario.{World}
use Rattle.call_grammar.specs.Steps.{Step}
use Rattle.lawful_history.specs.declared.line.Line.{Line}
use Rattle.lawful_history.specs.declared.line.Line.TheVariants as line
use Rattle.lawful_history.specs.Memory.{MemoryEffect, memory_effect_of, value_after, last_write}
use Rattle.lawful_history.specs.Memory as touch
use Rattle.lawful_history.specs.Schedule.{Event, CallQueued, AutoStarted, StormStarted, TurnTaken, RegionAccessed, DeviceAccessed, InterruptDropped, InterruptRepeated, DeviceAccess, ReadsConfig, WritesConfig, ReadsRegister, WritesRegister, ReadsMsix, WritesMsix}
use Rattle.lawful_history.specs.Schedule as event
use Rattle.lawful_history.specs.EventRecords.{access_lines, mark_line, turn_lines, denied_lines, region_access_lines, lines_by}
use Rattle.lawful_history.specs.Device.{device_access_line, device_lines}
use Rattle.lawful_history.proofs.LinesOfDevices.{keeps_all, of_event}
use Rattle.history_laws.specs.Devices.{is_of_device, without_devices}

-- Each of these lines is of a device alone.
abbrev pub AreOfDevices : List Line → Type 0
AreOfDevices lines = AllByRecursion (λ line. is_of_device line ≡ true) lines

reached_of_device : (world : World) (older : List Line) (p : ℕ) (a : DeviceAccess) → is_of_device (device_access_line world older p a) ≡ true
reached_of_device world older p (ReadsConfig offset width) = refl
reached_of_device world older p _ = refl

pub lines_of_devices : (world : World) (older : List Line) (losses : ℕ → ℕ) (e : Event) (went : Option Step) → AreOfDevices (device_lines world older losses e went)
lines_of_devices = of_event AreOfDevices (keeps_all (λ line. is_of_device line ≡ true) (λ p vector. refl) (λ p vector. refl) reached_of_device)

-- Lines without those of the devices

apart_by : (first : Line) (lines : List Line) (b : Bool) → is_of_device first ≡ b → without_devices (first ∷ lines) ≡ (if b then without_devices lines else first ∷ without_devices lines)
apart_by first lines true is = rw is refl
apart_by first lines false is = rw is refl

pub none_left : (lines : List Line) → AreOfDevices lines → without_devices lines ≡ []
none_left [] all = refl
none_left (first ∷ lines) all = apart_by first lines true all.0 ∙ none_left lines all.1

pub without_both : (lines others : List Line) → without_devices (lines ++ others) ≡ without_devices lines ++ without_devices others
without_both lines others = filter-append (λ line. not (is_of_device line)) lines others

last_apart : (lines : List Line) (last : Line) → without_devices (reverse (last ∷ lines)) ≡ without_devices (reverse lines) ++ without_devices (last ∷ [])
last_apart lines last = ap without_devices (reverse-append (last ∷ []) lines) ∙ without_both (reverse lines) (last ∷ [])

reverse_by : (first : Line) (lines : List Line) (b : Bool) → is_of_device first ≡ b → without_devices (reverse lines) ≡ reverse (without_devices lines) →
    without_devices (reverse (first ∷ lines)) ≡ reverse (without_devices (first ∷ lines))
reverse_by first lines true is rest =
    last_apart lines first ∙ (ap (λ ls. without_devices (reverse lines) ++ ls) (apart_by first [] true is) ∙ (append-nil (without_devices (reverse lines)) ∙ (rest ∙ ap reverse (sym (apart_by first lines true is)))))
reverse_by first lines false is rest =
    last_apart lines first ∙ (ap (λ ls. without_devices (reverse lines) ++ ls) (apart_by first [] false is) ∙
    (ap (λ ls. ls ++ first ∷ []) rest ∙ (sym (reverse-append (first ∷ []) (without_devices lines)) ∙ ap reverse (sym (apart_by first lines false is)))))

pub without_reverse : (lines : List Line) → without_devices (reverse lines) ≡ reverse (without_devices lines)
without_reverse [] = refl
without_reverse (first ∷ lines) = reverse_by first lines (is_of_device first) refl (without_reverse lines)

-- Lines of devices between others.
beside : (lines device others : List Line) → AreOfDevices device → without_devices (lines ++ (device ++ others)) ≡ without_devices (lines ++ others)
beside lines device others all =
    without_both lines (device ++ others) ∙ ap (λ ls. without_devices lines ++ ls) (without_both device others ∙ ap (λ ls. ls ++ without_devices others) (none_left device all)) ∙ sym (without_both lines others)

after : (lines device : List Line) → AreOfDevices device → without_devices (lines ++ device) ≡ without_devices (lines ++ [])
after lines device all = without_both lines device ∙ ap (λ ls. without_devices lines ++ ls) (none_left device all) ∙ sym (without_both lines [])

turn_apart : (p : ℕ) (went : Option Step) (device : List Line) → AreOfDevices device → without_devices (turn_lines p went device) ≡ without_devices (turn_lines p went [])
turn_apart p None device all = ap (λ ls. line.Idle p ∷ ls) (none_left device all)
turn_apart p (Some step) device all = beside (access_lines p step.access step.value) device (map (mark_line p) step.marks) all

acted_apart : (p : ℕ) (a : Access) (went : Option Step) (device : List Line) → AreOfDevices device → without_devices (region_access_lines p a went device) ≡ without_devices (region_access_lines p a went [])
acted_apart p a None device all = after (denied_lines p a) device all
acted_apart p a (Some step) device all = beside (access_lines p step.access step.value) device (map (mark_line p) step.marks) all

-- The lines of an event, without those of the devices, don't depend on the devices.
pub event_apart : (e : Event) (went : Option Step) (device : List Line) → AreOfDevices device → without_devices (lines_by e went device) ≡ without_devices (lines_by e went [])
event_apart (TurnTaken p) went device all = turn_apart p went device all
event_apart (RegionAccessed p a) went device all = acted_apart p a went device all
event_apart (event.DeviceReset p) went device all = ap (λ ls. line.Reset p ∷ ls) (none_left device all)
event_apart _ went device all = none_left device all

-- The lines of the devices write no word

device_apart : (first : Line) → is_of_device first ≡ true → memory_effect_of first ≡ touch.Apart
device_apart (line.Read p word value) is = absurd (cc)
device_apart (line.Write p word value) is = absurd (cc)
device_apart (line.Denied p word) is = absurd (cc)
device_apart (line.State p value) is = absurd (cc)
device_apart (line.Reset p) is = absurd (cc)
device_apart _ is = refl

written_by : (first : Line) (older : List Line) (at : ℕ) (b : Bool) → is_of_device first ≡ b → last_write older at ≡ last_write (without_devices older) at →
    last_write (first ∷ older) at ≡ last_write (without_devices (first ∷ older)) at
written_by first older at true is rest =
    ap (λ (t : MemoryEffect). value_after t at (last_write older at)) (device_apart first is) ∙ rest ∙ ap (λ ls. last_write ls at) (sym (apart_by first older true is))
written_by first older at false is rest = ap (λ before. value_after (memory_effect_of first) at before) rest ∙ ap (λ ls. last_write ls at) (sym (apart_by first older false is))

written_apart : (past : List Line) (at : ℕ) → last_write past at ≡ last_write (without_devices past) at
written_apart [] at = refl
written_apart (first ∷ older) at = written_by first older at (is_of_device first) refl (written_apart older at)

pub same_written : (past others : List Line) → without_devices past ≡ without_devices others → (at : ℕ) → last_write past at ≡ last_write others at
same_written past others same at = written_apart past at ∙ ap (λ ls. last_write ls at) same ∙ sym (written_apart others at)
