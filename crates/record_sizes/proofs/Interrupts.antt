-- The cost of the devices' lines: at most eight interrupts for an access, each of a peer of one
-- digit.
use Rattle.std.proofs.Common.{ℕ, zero, suc, ◌*◌, ◌<◌, ◌≤◌, Bool, true, false, List, [], ◌∷◌, ◌++◌, length, Option, Some, None, arith, length-append}
use Rattle.std.specs.Prelude.{if◌then◌else◌, nat_lt}
use Rattle.std.specs.List.{AllByRecursion}
use Rattle.std.proofs.lemmas.Fmt.{length-decimal-le}
use Rattle.split_ring.specs.declared.steps.Access.{Access}
use Rattle.split_ring.specs.declared.steps.Access.TheVariants as access
use Rattle.doorbell_irq.specs.declared.effect.Delivery.{Delivery}
use Rattle.doorbell_irq.specs.Events as device
use Rattle.doorbell_irq.specs.DeviceRules.{effect_of, delivery_to, deliveries_below}
use Rattle.scenario_text.specs.Scenario.{World}
use Rattle.call_grammar.specs.Steps.{Step}
use Rattle.lawful_history.specs.declared.line.Line.{Line}
use Rattle.lawful_history.specs.declared.line.Line.TheVariants as line
use Rattle.lawful_history.specs.Schedule.{Event, TurnTaken, RegionAccessed, DeviceReset, DeviceAccessed, InterruptRepeated, DeviceAccess, ReadsConfig}
use Rattle.lawful_history.specs.EventRecords.{access_lines}
use Rattle.lawful_history.specs.Device.{devices_of, device_events, lost_count, delivery_line, delivery_lines, interrupts_of_event, device_event_of, interrupts_of_access, step_interrupts, device_access_line, device_lines}
use Rattle.record_text.specs.Spelling.{Fits}
use Rattle.record_sizes.proofs.LineBytes.{line_cost, lines_cost, price, priced}
use Rattle.record_sizes.proofs.StepsPay.{interrupts_price}

-- The deliveries of an effect: at most one for each peer

abbrev AreBelow : ℕ → List Delivery → Type 0
AreBelow most deliveries = AllByRecursion (λ (delivery : Delivery). delivery.peer < most) deliveries

more_below : (most : ℕ) (deliveries others : List Delivery) → AreBelow most deliveries → AreBelow most others → AreBelow most (deliveries ++ others)
more_below most [] others all all' = all'
more_below most (delivery ∷ deliveries) others all all' = (all.0, more_below most deliveries others all.1 all')

one_delivery : (most peer : ℕ) (vector : Option ℕ) → peer < most → AreBelow most (delivery_to peer vector) × (length (delivery_to peer vector) ≤ 1)
one_delivery most peer None below = (tt, omega arith)
one_delivery most peer (Some vector) below = ((below, tt), omega arith)

few_deliveries : (at : ℕ → Option ℕ) (most peers : ℕ) → peers ≤ most → AreBelow most (deliveries_below at peers) × (length (deliveries_below at peers) ≤ peers)
few_deliveries at most zero few = (tt, omega arith)
few_deliveries at most (suc peer) few =
    let others = few_deliveries at most peer (omega arith) in
    let last = one_delivery most peer (at peer) (omega arith) in (
      more_below most (deliveries_below at peer) (delivery_to peer (at peer)) others.0 last.0,
      omega (arith, others.1, last.1, length-append (deliveries_below at peer) (delivery_to peer (at peer))),
    )

-- The line of a delivery

lost_bytes : (peer vector : ℕ) → Fits (line.Lost peer vector) → peer < 10 → line_cost (line.Lost peer vector) ≤ 18
lost_bytes peer vector fits small =
    let values = fits.values in let most = values.2.1 in
    omega (arith, length-decimal-le 1 peer (omega arith) (omega arith) (omega arith), length-decimal-le 10 vector (omega arith) (omega (arith, most)) (omega (arith, most)))

interrupt_bytes : (peer vector : ℕ) → Fits (line.Interrupt peer vector) → peer < 10 → line_cost (line.Interrupt peer vector) ≤ 18
interrupt_bytes peer vector fits small =
    let values = fits.values in let most = values.2.1 in
    omega (arith, length-decimal-le 1 peer (omega arith) (omega arith) (omega arith), length-decimal-le 10 vector (omega arith) (omega (arith, most)) (omega (arith, most)))

arrival_bytes : (b : Bool) (peer vector : ℕ) → Fits (if b then line.Lost peer vector else line.Interrupt peer vector) → peer < 10 → line_cost (if b then line.Lost peer vector else line.Interrupt peer vector) ≤ 18
arrival_bytes true peer vector fits small = lost_bytes peer vector fits small
arrival_bytes false peer vector fits small = interrupt_bytes peer vector fits small

arrived_bytes : (older : List Line) (losses : ℕ → ℕ) (deliveries : List Delivery) → AreBelow 10 deliveries → AllByRecursion Fits (delivery_lines older losses deliveries) → lines_cost (delivery_lines older losses deliveries) ≤ 18 * length deliveries
arrived_bytes older losses [] below fits = omega arith
arrived_bytes older losses (delivery ∷ deliveries) below fits =
    let first = arrival_bytes (nat_lt (lost_count older delivery.peer) (losses delivery.peer)) delivery.peer delivery.vector fits.0 below.0 in
    let later = arrived_bytes (delivery_line older losses delivery ∷ older) losses deliveries below.1 fits.1 in omega (arith, first, later)

module _ (world : World) (few : world.geometry.peers ≤ 8) where
  event_bytes : (older : List Line) (losses : ℕ → ℕ) (cause : Line) (recorded : Option device.Event) → AllByRecursion Fits (interrupts_of_event world older losses cause recorded) → lines_cost (interrupts_of_event world older losses cause recorded) ≤ 144
  event_bytes older losses cause None fits = omega arith
  event_bytes older losses cause (Some event) fits =
      let all = few_deliveries _ 10 world.geometry.peers (omega (arith, few)) in
      let bytes = arrived_bytes (cause ∷ older) losses (effect_of (devices_of world) (device_events older) event).deliveries.items all.0 fits in omega (arith, bytes, all.1, few)

  access_bytes : (older : List Line) (losses : ℕ → ℕ) (peer : ℕ) (a : Access) (value : ℕ) → AllByRecursion Fits (interrupts_of_access world older losses (access_lines peer a value)) →
      lines_cost (interrupts_of_access world older losses (access_lines peer a value)) ≤ interrupts_price a
  access_bytes older losses peer (access.State state) value fits = event_bytes older losses (line.State peer state) (device_event_of (line.State peer state)) fits
  access_bytes older losses peer (access.Ring target vector) value fits = event_bytes older losses (line.Doorbell peer target vector) (device_event_of (line.Doorbell peer target vector)) fits
  access_bytes older losses peer _ value fits = omega arith

  -- A device access.
  reached_price : (older : List Line) (peer : ℕ) (a : DeviceAccess) → price (device_access_line world older peer a) ≤ 47
  reached_price older peer (ReadsConfig offset width) = omega arith
  reached_price older peer _ = omega arith

-- The lines of the devices in an event

abbrev pub step_room : Option Step → ℕ
step_room None = 0
step_room (Some step) = interrupts_price step.access

abbrev pub device_room : Event → Option Step → ℕ
device_room (TurnTaken peer) went = step_room went
device_room (RegionAccessed peer a) went = step_room went
device_room (DeviceReset peer) went = 144
device_room (DeviceAccessed peer a) went = 47
device_room (InterruptRepeated peer vector) went = 24
device_room _ went = 0

went_bytes : (world : World) → world.geometry.peers ≤ 8 → (older : List Line) (losses : ℕ → ℕ) (peer : ℕ) (went : Option Step) → AllByRecursion Fits (step_interrupts world older losses peer went) → lines_cost (step_interrupts world older losses peer went) ≤ step_room went
went_bytes world few older losses peer None fits = omega arith
went_bytes world few older losses peer (Some step) fits = access_bytes world few older losses peer step.access step.value fits

pub device_bytes : (world : World) → world.geometry.peers ≤ 8 → (older : List Line) (losses : ℕ → ℕ) (event : Event) (went : Option Step) → AllByRecursion Fits (device_lines world older losses event went) →
    lines_cost (device_lines world older losses event went) ≤ device_room event went
device_bytes world few older losses (TurnTaken peer) went fits = went_bytes world few older losses peer went fits
device_bytes world few older losses (RegionAccessed peer a) went fits = went_bytes world few older losses peer went fits
device_bytes world few older losses (DeviceReset peer) went fits = event_bytes world few older losses (line.Reset peer) (device_event_of (line.Reset peer)) fits
device_bytes world few older losses (DeviceAccessed peer a) went fits =
    let one = priced (device_access_line world older peer a) fits.0 in let most = reached_price world few older peer a in omega (arith, one, most)
device_bytes world few older losses (InterruptRepeated peer vector) went fits = let one = priced (line.Interrupt peer vector) fits.0 in omega (arith, one)
device_bytes world few older losses _ went fits = omega arith
