-- A property of the lines of the devices: the interrupts of a line, of a step and of an event.
use Rattle.std.proofs.Common.{ℕ, Bool, true, false, List, [], ◌∷◌}
use Rattle.std.specs.Prelude.{nat_lt, if◌then◌else◌, Option, Some, None}
use Rattle.std.specs.List.{AllByRecursion}
use Rattle.doorbell_irq.specs.declared.effect.Delivery.{Delivery}
use Rattle.doorbell_irq.specs.Events as device
use Rattle.doorbell_irq.specs.DeviceRules.{effect_of}
use Rattle.call_grammar.specs.Steps.{Step}
use Rattle.scenario_text.specs.Scenario.{World}
use Rattle.lawful_history.specs.declared.line.Line.{Line}
use Rattle.lawful_history.specs.declared.line.Line.TheVariants as line
use Rattle.lawful_history.specs.Schedule.{Event, TurnTaken, RegionAccessed, DeviceReset, DeviceAccessed, InterruptRepeated, DeviceAccess}
use Rattle.lawful_history.specs.EventRecords.{access_lines}
use Rattle.lawful_history.specs.Device.{devices_of, device_events, delivery_line, delivery_lines, interrupts_of_event, lost_count, device_event_of, interrupts_of_access, step_interrupts, device_access_line, device_lines}

-- The empty list has the property, and an interrupt that is put before lines keeps the property.
pub record KeptByInterrupts (Holds : List Line → Type 0) : Type 0 where
  pub none : Holds []
  pub interrupt : (p vector : ℕ) (lines : List Line) → Holds lines → Holds (line.Interrupt p vector ∷ lines)
  pub lost : (p vector : ℕ) (lines : List Line) → Holds lines → Holds (line.Lost p vector ∷ lines)

-- Also the line of an access to a device has the property.
pub record KeptByDevices (Holds : List Line → Type 0) : Type 0 where
  pub interrupts : KeptByInterrupts Holds
  pub reached : (world : World) (older : List Line) (p : ℕ) (a : DeviceAccess) → Holds (device_access_line world older p a ∷ [])

-- A property of each line.
pub all_interrupts : (P : Line → Type 0) → ((p vector : ℕ) → P (line.Interrupt p vector)) → ((p vector : ℕ) → P (line.Lost p vector)) → KeptByInterrupts (AllByRecursion P)
all_interrupts P interrupt lost = record {
  none = tt;
  interrupt = λ p vector lines rest. (interrupt p vector, rest);
  lost = λ p vector lines rest. (lost p vector, rest);
}

pub keeps_all : (P : Line → Type 0) → ((p vector : ℕ) → P (line.Interrupt p vector)) → ((p vector : ℕ) → P (line.Lost p vector)) → ((world : World) (older : List Line) (p : ℕ) (a : DeviceAccess) → P (device_access_line world older p a)) →
    KeptByDevices (AllByRecursion P)
keeps_all P interrupt lost reached = record {
  interrupts = all_interrupts P interrupt lost;
  reached = λ world older p a. (reached world older p a, tt);
}

module _ (Holds : List Line → Type 0) (keeps : KeptByInterrupts Holds) where
  arrival : (b : Bool) (p vector : ℕ) (lines : List Line) → Holds lines → Holds ((if b then line.Lost p vector else line.Interrupt p vector) ∷ lines)
  arrival true p vector lines rest = keeps.lost p vector lines rest
  arrival false p vector lines rest = keeps.interrupt p vector lines rest

  arrived : (older : List Line) (losses : ℕ → ℕ) (deliveries : List Delivery) → Holds (delivery_lines older losses deliveries)
  arrived older losses [] = keeps.none
  arrived older losses (delivery ∷ deliveries) =
      arrival (nat_lt (lost_count older delivery.peer) (losses delivery.peer)) delivery.peer delivery.vector (delivery_lines (delivery_line older losses delivery ∷ older) losses deliveries)
      (arrived (delivery_line older losses delivery ∷ older) losses deliveries)

  pub of_line : (world : World) (older : List Line) (losses : ℕ → ℕ) (line : Line) (recorded : Option device.Event) → Holds (interrupts_of_event world older losses line recorded)
  of_line world older losses line None = keeps.none
  of_line world older losses line (Some event) = arrived (line ∷ older) losses (effect_of (devices_of world) (device_events older) event).deliveries.items

  of_access : (world : World) (older : List Line) (losses : ℕ → ℕ) (lines : List Line) → Holds (interrupts_of_access world older losses lines)
  of_access world older losses [] = keeps.none
  of_access world older losses (line ∷ lines) = of_line world older losses line (device_event_of line)

  pub of_interrupts : (world : World) (older : List Line) (losses : ℕ → ℕ) (p : ℕ) (went : Option Step) → Holds (step_interrupts world older losses p went)
  of_interrupts world older losses p None = keeps.none
  of_interrupts world older losses p (Some step) = of_access world older losses (access_lines p step.access step.value)

module _ (Holds : List Line → Type 0) (keeps : KeptByDevices Holds) where
  pub of_step : (world : World) (older : List Line) (losses : ℕ → ℕ) (p : ℕ) (went : Option Step) → Holds (step_interrupts world older losses p went)
  of_step = of_interrupts Holds keeps.interrupts

  pub of_event : (world : World) (older : List Line) (losses : ℕ → ℕ) (event : Event) (went : Option Step) → Holds (device_lines world older losses event went)
  of_event world older losses (TurnTaken p) went = of_step world older losses p went
  of_event world older losses (RegionAccessed p a) went = of_step world older losses p went
  of_event world older losses (DeviceReset p) went = of_line Holds keeps.interrupts world older losses (line.Reset p) (device_event_of (line.Reset p))
  of_event world older losses (DeviceAccessed p a) went = keeps.reached world older p a
  of_event world older losses (InterruptRepeated p vector) went = keeps.interrupts.interrupt p vector [] keeps.interrupts.none
  of_event world older losses _ went = keeps.interrupts.none
