-- Each event record pays for its lines. A peer's event records cost at most 200 bytes each, and the
-- credit of its open call's frame is left.
use Rattle.std.proofs.Common.{◌≡◌, ℕ, suc, ◌+◌, ◌*◌, ◌<◌, ◌≤◌, inl, inr, Bool, true, false, List, [], ◌∷◌, ◌++◌, length, Option, Some, None, refl, sym, ap, subst, ◌∙◌, arith, decimal}
use Rattle.std.specs.Prelude.{if◌then◌else◌, map, reverse, slice_get}
use Rattle.std.specs.List.{AllByRecursion}
use Rattle.std.proofs.lemmas.Fmt.{length-decimal-le}
use Rattle.split_ring.specs.declared.steps.Access.{Access}
use Rattle.split_ring.specs.declared.steps.Access.TheVariants as access
use Rattle.scenario_text.specs.Scenario.{World}
use Rattle.call_grammar.specs.Steps.{Step, value_given, step_of}
use Rattle.call_grammar.specs.Trees.{CallTree, Ended, Does, Reads, Goes}
use Rattle.call_grammar.specs.Ends.{End}
use Rattle.call_grammar.specs.Calls.{EndConfig, Call, Tick, Stop, Offer, Poll, in_run, pending_of, tree_of}
use Rattle.call_grammar.specs.Polls.{is_last}
use Rattle.call_grammar.specs.Automatic.{Choice, ChoosesTick, ChoosesOffer, ChoosesPoll, IsFinished, choice_by_rule}
use Rattle.call_grammar.specs.Places.{Place, Closed, NotInRun, ReadingUsedIndex, ReadingAvailIndex, remaining, first_place, next_place, access_at, step_at}
use Rattle.call_grammar.proofs.PlacesFollowTrees.{following}
use Rattle.lawful_history.specs.declared.line.Line.{Line}
use Rattle.lawful_history.specs.declared.line.Line.TheVariants as line
use Rattle.lawful_history.specs.Schedule.{Event, TurnTaken, RegionAccessed, DeviceReset, event_peer}
use Rattle.lawful_history.specs.Sides.{config_of}
use Rattle.lawful_history.specs.Storm.{storm_step}
use Rattle.lawful_history.specs.EventRecords.{EventRecord, owner, access_lines, mark_line, step_lines, turn_lines, denied_lines, region_access_lines, lines_by, lines_of}
use Rattle.lawful_history.specs.Device.{losses_with, DeviceRules}
use Rattle.lawful_history.specs.Order.{Chooser, Nobody, TheRule, TheStorm, chooser, queued_since_reset, frames_left, delivered_in, Progress, chooses_by, chosen_next, queued_or_chosen, begins_by, begins, GoesOn, IdleStep, CallStep, Turns, IsMade, EventStep, initial_progress, noted, IsCallSequence}
use Rattle.record_text.specs.Spelling.{Fits}
use Rattle.record_sizes.proofs.LineBytes.{lines_cost, priced}
use Rattle.record_sizes.proofs.StepsPay.{prices, marks_price, interrupts_price, credit, pays}
use Rattle.record_sizes.proofs.Interrupts.{step_room, device_room, device_bytes}

-- Lines, one part after the other

abbrev pub AreFitting : List Line → Type 0
AreFitting lines = AllByRecursion Fits lines

pub parts_fit : (lines others : List Line) → AreFitting (lines ++ others) → AreFitting lines × AreFitting others
parts_fit [] others fits = (tt, fits)
parts_fit (recorded ∷ lines) others fits = let parts = parts_fit lines others fits.1 in ((fits.0, parts.0), parts.1)

pub cost-append : (lines others : List Line) → lines_cost (lines ++ others) ≡ lines_cost lines + lines_cost others
cost-append [] others = omega arith
cost-append (recorded ∷ lines) others = let later = cost-append lines others in omega arith

all_priced : (lines : List Line) → AreFitting lines → lines_cost lines ≤ prices lines
all_priced [] fits = omega arith
all_priced (recorded ∷ lines) fits = omega (arith, priced recorded fits.0, all_priced lines fits.1)

-- The lines of a step, if its device's lines have their room.
step_bytes : (peer : ℕ) (step : Step) (device : List Line) → AreFitting (step_lines peer step device) → lines_cost device ≤ interrupts_price step.access →
    lines_cost (step_lines peer step device) ≤ prices (access_lines peer step.access step.value) + interrupts_price step.access + marks_price peer step.marks
step_bytes peer step device fits few =
    let own = access_lines peer step.access step.value in let marks = map (mark_line peer) step.marks in
    let first = parts_fit own (device ++ marks) fits in let later = parts_fit device marks first.1 in
    omega (arith, cost-append own (device ++ marks), cost-append device marks, all_priced own first.0, all_priced marks later.1, few)

-- The device's lines are among those of an event record.
device_fits : (event : Event) (went : Option Step) (device : List Line) → AreFitting (lines_by event went device) → AreFitting device
device_fits (TurnTaken peer) None device fits = fits.1
device_fits (TurnTaken peer) (Some step) device fits =
    (parts_fit device (map (mark_line peer) step.marks) (parts_fit (access_lines peer step.access step.value) (device ++ map (mark_line peer) step.marks) fits).1).0
device_fits (RegionAccessed peer a) None device fits = (parts_fit (denied_lines peer a) device fits).1
device_fits (RegionAccessed peer a) (Some step) device fits =
    (parts_fit device (map (mark_line peer) step.marks) (parts_fit (access_lines peer step.access step.value) (device ++ map (mark_line peer) step.marks) fits).1).0
device_fits (DeviceReset peer) went device fits = fits.1
device_fits _ went device fits = fits

-- An event record of a peer of one digit whose lines fit, and whose device's lines have their room

pub record IsRoomy (entry : EventRecord) : Type 0 where
  pub one : length (decimal (owner entry)) ≤ 1
  pub fits : AreFitting (lines_of entry)
  pub few : lines_cost entry.device ≤ device_room entry.event entry.went

pub all_roomy : (world : World) → world.geometry.peers ≤ 8 → (older : List Line) (losses : ℕ → ℕ) (entries : List EventRecord) → DeviceRules world older losses entries →
    AllByRecursion (λ entry. owner entry < world.geometry.peers) entries → AllByRecursion (λ entry. AreFitting (lines_of entry)) entries → AllByRecursion IsRoomy entries
all_roomy world few older losses [] rules owners fits = tt
all_roomy world few older losses (entry ∷ entries) rules owners fits =
    let below = owners.0 in
    let one = length-decimal-le 1 (owner entry) (omega arith) (omega (arith, few, below)) (omega (arith, few, below)) in
    let own = subst AreFitting rules.0 (device_fits entry.event entry.went entry.device fits.0) in
    let bytes = device_bytes world few older losses entry.event entry.went own in (
      record { one = one; fits = fits.0; few = subst (λ (device : List Line). lines_cost device ≤ device_room entry.event entry.went) (sym rules.0) bytes },
      all_roomy world few (reverse (lines_of entry) ++ older) (losses_with entry.event losses) entries rules.1 owners.1 fits.1,
    )

-- The bytes that a peer has spent, at a place of its open call

pub record Owes (config : EndConfig) (peer : Progress) (spent count : ℕ) : Type 0 where
  pub place : Place
  pub at : peer.left ≡ remaining config place
  pub paid : spent + credit place ≤ 200 * count

-- The call that a turn begins has no credit yet

record StandsAt (config : EndConfig) (peer : Progress) (most : ℕ) : Type 0 where
  place : Place
  at : peer.left ≡ remaining config place
  few : credit place ≤ most

by_run : (b : Bool) (place : Place) → credit place ≡ 0 → credit (if b then place else NotInRun) ≡ 0
by_run true place none = none
by_run false place none = refl

first_credit : (config : EndConfig) (end : End) (call : Call) → credit (first_place config end call) ≡ 0
first_credit config end Tick = refl
first_credit config end Stop = refl
first_credit config end (Offer frame) = by_run (in_run end.handshake.phase) (ReadingUsedIndex (pending_of config end frame) end.freed) refl
first_credit config end Poll = by_run (in_run end.handshake.phase) (ReadingAvailIndex (length end.delivered) (is_last config end.found_none)) refl

begun_at : (config : EndConfig) (end : End) (call : Call) (peer : Progress) (most : ℕ) → peer.left ≡ tree_of config end call → StandsAt config peer most
begun_at config end call peer most is = record {
  place = first_place config end call;
  at = is ∙ sym (following.begins config end call);
  few = omega (arith, first_credit config end call);
}

chosen_at : (config : EndConfig) (peer : Progress) (most : ℕ) (choice : Choice) → StandsAt config peer most → StandsAt config (chooses_by config peer choice) most
chosen_at config peer most ChoosesTick at = begun_at config peer.end Tick _ most refl
chosen_at config peer most (ChoosesOffer frame) at = begun_at config peer.end (Offer frame) _ most refl
chosen_at config peer most ChoosesPoll at = begun_at config peer.end Poll _ most refl
chosen_at config peer most IsFinished at = at

next_at : (config : EndConfig) (peer : Progress) (most : ℕ) (chooser : Chooser) → StandsAt config peer most → StandsAt config (chosen_next config peer chooser) most
next_at config peer most Nobody at = at
next_at config peer most (TheRule expected) at =
    chosen_at config peer most (choice_by_rule peer.end.handshake.phase peer.before (frames_left peer.past) (delivered_in peer.past) expected) at
next_at config peer most TheStorm at = at

asked_at : (config : EndConfig) (peer : Progress) (most : ℕ) (call : Option Call) → StandsAt config peer most → StandsAt config (queued_or_chosen config peer call) most
asked_at config peer most None at = next_at config peer most (chooser peer.past) at
asked_at config peer most (Some call) at = begun_at config peer.end call _ most refl

begins_at : (config : EndConfig) (peer : Progress) (most : ℕ) (left : CallTree) → StandsAt config peer most → StandsAt config (begins_by config peer left) most
begins_at config peer most Ended at = asked_at config peer most (slice_get (queued_since_reset peer.past) peer.begun) at
begins_at config peer most (Does a marks rest) at = at
begins_at config peer most (Reads word marks rest) at = at

-- An access without marks

access_price : (peer : ℕ) → length (decimal peer) ≤ 1 → (a : Access) (value : ℕ) → prices (access_lines peer a value) + interrupts_price a ≤ 182
access_price peer one (access.Read word) value = omega arith
access_price peer one _ value = omega arith

bare_bytes : (peer : ℕ) → length (decimal peer) ≤ 1 → (a : Access) (value : ℕ) (device : List Line) → AreFitting (step_lines peer (step_of a value []) device) → lines_cost device ≤ interrupts_price a →
    lines_cost (step_lines peer (step_of a value []) device) ≤ 200
bare_bytes peer one a value device fits few =
    omega (arith, step_bytes peer (step_of a value []) device fits few, access_price peer one a (value_given a value))

denied_bytes : (peer : ℕ) (a : Access) (device : List Line) → AreFitting (denied_lines peer a ++ device) → lines_cost device ≤ 0 → lines_cost (denied_lines peer a ++ device) ≤ 200
denied_bytes peer a device fits few =
    omega (arith, cost-append (denied_lines peer a) device, all_priced (denied_lines peer a) (parts_fit (denied_lines peer a) device fits).0, denied_price peer a, few)
  where
    denied_price : (peer : ℕ) (a : Access) → prices (denied_lines peer a) ≤ 29
    denied_price peer (access.Read word) = omega arith
    denied_price peer _ = omega arith

-- An event record pays

-- The peer is at this place then, and the lines cost at most the credit of the place before and
-- 200.
owes_then : (config : EndConfig) (peer : Progress) (place : Place) (spent bytes before count : ℕ) → peer.left ≡ remaining config place → spent + before ≤ 200 * count → bytes + credit place ≤ before + 200 →
    Owes config peer (spent + bytes) (suc count)
owes_then config peer place spent bytes before count at paid few = record { place = place; at = at; paid = omega (arith, paid, few) }

module _ (world : World) (p : ℕ) where
  none_owes : (peer : ℕ) (old new : Progress) (went : Option Step) (device : List Line) (spent before count : ℕ) → (went ≡ None) × (new ≡ old) → AreFitting (turn_lines peer went device) → lines_cost device ≤ step_room went →
      spent + before ≤ 200 * count → StandsAt (config_of world p) old before → Owes (config_of world p) new (spent + lines_cost (turn_lines peer went device)) (suc count)
  none_owes peer old new went device spent before count idles fits few paid at =
      let its = subst (λ (w : Option Step). AreFitting (turn_lines peer w device)) idles.0 fits in
      let room = subst (λ (w : Option Step). lines_cost device ≤ step_room w) idles.0 few in
      let idle = priced (line.Idle peer) its.0 in
      let bytes = subst (λ (w : Option Step). lines_cost (turn_lines peer w device) ≤ 200) (sym idles.0) (omega (arith, idle, room)) in
      owes_then (config_of world p) new at.place spent _ before count (ap (λ (x : Progress). x.left) idles.1 ∙ at.at) paid (omega (arith, bytes, at.few))

  idle_owes : (peer : ℕ) → length (decimal peer) ≤ 1 → (old new : Progress) (chooser : Chooser) (went : Option Step) (device : List Line) (spent before count : ℕ) → IdleStep world p old chooser went new → AreFitting (turn_lines peer went device) → lines_cost device ≤ step_room went →
      spent + before ≤ 200 * count → StandsAt (config_of world p) old before → Owes (config_of world p) new (spent + lines_cost (turn_lines peer went device)) (suc count)
  idle_owes peer one old new Nobody went device spent before count idles fits few paid at = none_owes peer old new went device spent before count idles fits few paid at
  idle_owes peer one old new (TheRule expected) went device spent before count idles fits few paid at = none_owes peer old new went device spent before count idles fits few paid at
  idle_owes peer one old new TheStorm went device spent before count idles fits few paid at =
      let step = storm_step world p old.generator in
      let its = subst (λ (w : Option Step). AreFitting (turn_lines peer w device)) idles.0 fits in
      let room = subst (λ (w : Option Step). lines_cost device ≤ step_room w) idles.0 few in
      let bytes = subst (λ (w : Option Step). lines_cost (turn_lines peer w device) ≤ 200) (sym idles.0) (bare_bytes peer one step.access 0 device its room) in
      owes_then (config_of world p) new at.place spent _ before count (ap (λ (x : Progress). x.left) idles.1 ∙ at.at) paid (omega (arith, bytes, at.few))

  -- A step of the open call.
  step_owes : (peer : ℕ) → length (decimal peer) ≤ 1 → (old new : Progress) (call : CallTree) (went : Option Step) (device : List Line) (spent before count : ℕ) → old.left ≡ call → GoesOn old call went new → AreFitting (turn_lines peer went device) → lines_cost device ≤ step_room went →
      spent + before ≤ 200 * count → StandsAt (config_of world p) old before → Owes (config_of world p) new (spent + lines_cost (turn_lines peer went device)) (suc count)
  step_owes peer one old new call went device spent before count is (step, left, made, goes, comes) fits few paid at =
      let config = config_of world p in
      let g = following.goes config at.place step left (subst (λ (t : CallTree). Goes t step left) (sym is ∙ at.at) goes) in
      let value = g.0 in
      let made' : went ≡ Some (step_at config at.place value) = made ∙ ap (λ (s : Step). Some s) g.1 in
      let its = subst (λ (w : Option Step). AreFitting (turn_lines peer w device)) made' fits in
      let room = subst (λ (w : Option Step). lines_cost device ≤ step_room w) made' few in
      let cost = step_bytes peer (step_at config at.place value) device its room in
      let pay = pays peer one config at.place (value_given (access_at config at.place) value) value in
      let bytes = subst (λ (w : Option Step). lines_cost (turn_lines peer w device) + credit (next_place config at.place value) ≤ credit at.place + 200) (sym made') (omega (arith, cost, pay)) in
      owes_then config new (next_place config at.place value) spent _ before count (ap (λ (x : Progress). x.left) comes ∙ g.2) paid (omega (arith, bytes, at.few))

  moves_owes : (peer : ℕ) → length (decimal peer) ≤ 1 → (old new : Progress) (call : CallTree) (went : Option Step) (device : List Line) (spent before count : ℕ) → old.left ≡ call → CallStep world p old call went new → AreFitting (turn_lines peer went device) → lines_cost device ≤ step_room went →
      spent + before ≤ 200 * count → StandsAt (config_of world p) old before → Owes (config_of world p) new (spent + lines_cost (turn_lines peer went device)) (suc count)
  moves_owes peer one old new Ended went device spent before count is moves fits few paid at = idle_owes peer one old new (chooser old.past) went device spent before count moves fits few paid at
  moves_owes peer one old new (Does a marks rest) went device spent before count is moves fits few paid at = step_owes peer one old new (Does a marks rest) went device spent before count is moves fits few paid at
  moves_owes peer one old new (Reads word marks rest) went device spent before count is moves fits few paid at = step_owes peer one old new (Reads word marks rest) went device spent before count is moves fits few paid at

  turn_owes : (peer : ℕ) → length (decimal peer) ≤ 1 → (old new : Progress) (went : Option Step) (device : List Line) (spent count : ℕ) → Turns world p old went new → AreFitting (turn_lines peer went device) → lines_cost device ≤ step_room went →
      Owes (config_of world p) old spent count → Owes (config_of world p) new (spent + lines_cost (turn_lines peer went device)) (suc count)
  turn_owes peer one old new went device spent count turns fits few owes =
      let at = begins_at (config_of world p) old (credit owes.place) old.left (record { place = owes.place; at = owes.at; few = omega arith }) in
      moves_owes peer one (begins (config_of world p) old) new (begins (config_of world p) old).left went device spent (credit owes.place) count refl turns fits few owes.paid at

  -- An event that doesn't change the open call.
  stays_owes : (old new : Progress) (spent bytes count : ℕ) → new.left ≡ old.left → bytes ≤ 200 → Owes (config_of world p) old spent count → Owes (config_of world p) new (spent + bytes) (suc count)
  stays_owes old new spent bytes count same few owes = owes_then (config_of world p) new owes.place spent bytes (credit owes.place) count (same ∙ owes.at) owes.paid (omega (arith, few))

  -- The step is this one.
  made_bytes : (peer : ℕ) → length (decimal peer) ≤ 1 → (a step : Access) (value : ℕ) (went : Option Step) (device : List Line) → went ≡ Some (step_of step value []) → AreFitting (region_access_lines peer a went device) → lines_cost device ≤ step_room went → lines_cost (region_access_lines peer a went device) ≤ 200
  made_bytes peer one a step value went device made fits few =
      let its = subst (λ (w : Option Step). AreFitting (region_access_lines peer a w device)) made fits in
      let room = subst (λ (w : Option Step). lines_cost device ≤ step_room w) made few in
      subst (λ (w : Option Step). lines_cost (region_access_lines peer a w device) ≤ 200) (sym made) (bare_bytes peer one step value device its room)

  -- An access outside a call.
  acted_bytes : (peer : ℕ) → length (decimal peer) ≤ 1 → (a : Access) (went : Option Step) (device : List Line) → IsMade a went → AreFitting (region_access_lines peer a went device) → lines_cost device ≤ step_room went → lines_cost (region_access_lines peer a went device) ≤ 200
  acted_bytes peer one (access.Read word) went device made fits few = made_bytes peer one (access.Read word) (access.Read word) made.0 went device made.1 fits few
  acted_bytes peer one (access.Write word written) went device (inl made) fits few = made_bytes peer one (access.Write word written) (access.Write word written) 0 went device made fits few
  acted_bytes peer one (access.Write word written) went device (inr none) fits few =
      let its = subst (λ (w : Option Step). AreFitting (region_access_lines peer (access.Write word written) w device)) none fits in
      let room = subst (λ (w : Option Step). lines_cost device ≤ step_room w) none few in
      subst (λ (w : Option Step). lines_cost (region_access_lines peer (access.Write word written) w device) ≤ 200) (sym none) (denied_bytes peer (access.Write word written) device its room)
  acted_bytes peer one (access.State state) went device made fits few = made_bytes peer one (access.State state) (access.State state) 0 went device made fits few
  acted_bytes peer one (access.Ring target vector) went device made fits few = made_bytes peer one (access.Ring target vector) (access.Ring target vector) 0 went device made fits few
  acted_bytes peer one access.Nothing went device made fits few = made_bytes peer one access.Nothing access.Nothing 0 went device made fits few

  event_owes : (old new : Progress) (event : Event) → length (decimal (event_peer event)) ≤ 1 → (went : Option Step) (device : List Line) (spent count : ℕ) → EventStep world p old event went new → AreFitting (lines_by event went device) → lines_cost device ≤ device_room event went →
      Owes (config_of world p) old spent count → Owes (config_of world p) new (spent + lines_cost (lines_by event went device)) (suc count)
  event_owes old new (TurnTaken peer) one went device spent count acts fits few owes = turn_owes peer one old new went device spent count acts fits few owes
  event_owes old new (RegionAccessed peer a) one went device spent count acts fits few owes = stays_owes old new spent _ count (ap (λ (x : Progress). x.left) acts.1) (acted_bytes peer one a went device acts.0 fits few) owes
  event_owes old new (DeviceReset peer) one went device spent count acts fits few owes =
      let first = priced (line.Reset peer) fits.0 in
      owes_then (config_of world p) new Closed spent _ (credit owes.place) count (ap (λ (x : Progress). x.left) acts.1) owes.paid (omega (arith, first, few))
  event_owes old new _ one went device spent count acts fits few owes = stays_owes old new spent _ count (ap (λ (x : Progress). x.left) acts.1) (omega (arith, few)) owes

-- The event records of a peer

abbrev pub entries_cost : List EventRecord → ℕ
entries_cost [] = 0
entries_cost (entry ∷ entries) = lines_cost (lines_of entry) + entries_cost entries

all_owe : (world : World) (p : ℕ) (old new : Progress) (entries : List EventRecord) (spent count : ℕ) → AllByRecursion IsRoomy entries → IsCallSequence world p old entries new → Owes (config_of world p) old spent count →
    Owes (config_of world p) new (spent + entries_cost entries) (count + length entries)
all_owe world p old new [] spent count roomy serves owes = record { place = owes.place; at = ap (λ (x : Progress). x.left) serves ∙ owes.at; paid = omega (arith, owes.paid) }
all_owe world p old new (entry ∷ entries) spent count roomy (mid, acts, serves) owes =
    let here = event_owes world p old mid entry.event roomy.0.one entry.went entry.device spent count acts roomy.0.fits roomy.0.few owes in
    let there = all_owe world p (noted mid entry) new entries (spent + lines_cost (lines_of entry)) (suc count) roomy.1 serves (record { place = here.place; at = here.at; paid = here.paid }) in
    record { place = there.place; at = there.at; paid = omega (arith, there.paid) }

pub own_bytes : (world : World) (p : ℕ) (new : Progress) (entries : List EventRecord) → AllByRecursion IsRoomy entries → IsCallSequence world p initial_progress entries new → entries_cost entries ≤ 200 * length entries
own_bytes world p new entries roomy serves =
    let owes = all_owe world p initial_progress new entries 0 0 roomy serves (record { place = Closed; at = refl; paid = omega arith }) in omega (arith, owes.paid)
