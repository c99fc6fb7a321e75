-- Interrupts in their order, and the value of a read.
use Rattle.std.proofs.Common.{◌≡◌, ℕ, ◌+◌, ◌-◌, ◌<◌, length-set, Bool, false, List, [], ◌∷◌, ◌++◌, length, take, get_or, arith, refl, sym, ◌∙◌, ap, subst, append_assoc}
use Rattle.std.specs.Prelude.{◌==◌, if◌then◌else◌, Option, Some, None, true, nat_lt, reverse, slice_index_or, slice_get, slice_index, slice_set}
use Rattle.std.proofs.lemmas.Bool.Decides.{nat_tests}
use Rattle.std.proofs.lemmas.Grind.{common_steps}
use Rattle.std.proofs.lemmas.Option.{gets}
use Rattle.std.proofs.lemmas.List.{reverse-append, take_more}
use Rattle.doorbell_irq.specs.declared.effect.Delivery.{Delivery}
use Rattle.scenario_text.specs.Scenario.{World}
use Rattle.lawful_history.specs.declared.line.Line.{Line}
use Rattle.lawful_history.specs.declared.line.Line.TheVariants as line
use Rattle.lawful_history.specs.Memory.{value_after, last_write}
use Rattle.doorbell_irq.specs.Events as device
use Rattle.doorbell_irq.specs.DeviceRules.{effect_of}
use Rattle.doorbell_irq.specs.Refinement.{Refines}
use Rattle.lawful_history.specs.Device.{devices_of, device_event_of, device_events, lost_by, lost_count, delivery_line, delivery_lines, interrupts_of_event}
use Rattle.lawful_history.specs.Frames.{has_frame}
use Rattle.simulator.specs.Log.{Output, Records}
use Rattle.simulator.specs.WorldState.{WordsAre, WorldStateAfter, IsMark, BringsBy}
use Rattle.simulator.specs.declared.world_state.WorldState.{WorldState}

-- One more line, after some new lines.
pub after_more : (new : List Line) (line : Line) (past : List Line) → reverse (line ∷ new) ++ past ≡ reverse new ++ (line ∷ past)
after_more new line past = ap (λ r. r ++ past) (reverse-append (line ∷ []) new) ∙ append_assoc (reverse new) (line ∷ []) past

arrived-snoc : (older : List Line) (losses : ℕ → ℕ) (ds : List Delivery) (d : Delivery) →
    delivery_lines older losses (ds ++ d ∷ []) ≡ delivery_lines older losses ds ++ delivery_line (reverse (delivery_lines older losses ds) ++ older) losses d ∷ []
arrived-snoc older losses [] d = refl
arrived-snoc older losses (x ∷ ds) d =
    let a = delivery_line older losses x in
    let rest = delivery_lines (a ∷ older) losses ds in
    ap (λ ls. a ∷ ls) (arrived-snoc (a ∷ older) losses ds d) ∙ ap (λ ls. a ∷ (rest ++ delivery_line ls losses d ∷ [])) (sym (after_more rest a older))

pub one_arrived : (past : List Line) (losses : ℕ → ℕ) (ds : List Delivery) (i : ℕ) (d : Delivery) → i < length ds → d ≡ get_or ds i d →
    reverse (delivery_lines past losses (take (i + 1) ds)) ++ past ≡ delivery_line (reverse (delivery_lines past losses (take i ds)) ++ past) losses d ∷ (reverse (delivery_lines past losses (take i ds)) ++ past)
one_arrived past losses ds i d inside is =
    let older = reverse (delivery_lines past losses (take i ds)) ++ past in
    ap (λ xs. reverse (delivery_lines past losses xs) ++ past) (take_more ds i d inside ∙ ap (λ (x : Delivery). take i ds ++ x ∷ []) (sym is)) ∙
    ap (λ ls. reverse ls ++ past) (arrived-snoc past losses (take i ds) d) ∙ ap (λ ls. ls ++ past) (reverse-append (delivery_lines past losses (take i ds)) (delivery_line older losses d ∷ []))

-- The value read is the one written last.
pub known_at : (words : List ℕ) (value : ℕ) (past : List Line) (word : ℕ) → WordsAre words past → slice_get words word ≡ Some value → value ≡ last_write past word
known_at words value past word holds at = grind (arith, common_steps, gets, holds word)

-- A line that is no event of the devices and loses no interrupt, with the words after it.
pub plain_after : (world : World) (output : Output) (past : List Line) (losses : ℕ → ℕ) (s s' : WorldState) (line : Line) → WorldStateAfter world output past losses s → has_frame line ≡ true → device_event_of line ≡ None →
    ((p : ℕ) → lost_by line p ≡ 0) → WordsAre s'.region.words (line ∷ past) → s'.region.shape ≡ s.region.shape → s'.device ≡ s.device → s'.unspent ≡ s.unspent → Records line s.log s'.log → WorldStateAfter world output (line ∷ past) losses s'
plain_after world output past losses s s' line after frame recorded lost words shape device unspent log_step = record {
  is_world = after.is_world;
  shape = shape ∙ after.shape;
  log = log_step world output past frame after.log;
  words = words;
  devices = rw (device, recorded) after.devices;
  unspent = λ p. let u = after.unspent p in let none = lost p in rw unspent (omega arith);
  peer_states = rw unspent after.peer_states;
}

pub read_after : (world : World) (output : Output) (past : List Line) (losses : ℕ → ℕ) (s s' : WorldState) (me word value : ℕ) → WorldStateAfter world output past losses s → slice_get s.region.words word ≡ Some value →
    s'.region ≡ s.region → s'.device ≡ s.device → s'.unspent ≡ s.unspent → Records (line.Read me word value) s.log s'.log →
    (value ≡ last_write past word) × WorldStateAfter world output (line.Read me word value ∷ past) losses s'
read_after world output past losses s s' me word value after at region device unspent log_step = (
  known_at s.region.words value past word after.words at,
  plain_after world output past losses s s' (line.Read me word value) after refl refl (λ p. refl) (rw region after.words) (ap (λ r. r.shape) region) device unspent log_step,
)

-- An interrupt that is delivered, or lost.
came : (b : Bool) (q vector : ℕ) → b ≡ false → (if b then line.Lost q vector else line.Interrupt q vector) ≡ line.Interrupt q vector
came true q vector is = absurd (cc)
came false q vector is = refl

went_lost : (b : Bool) (q vector : ℕ) → b ≡ true → (if b then line.Lost q vector else line.Interrupt q vector) ≡ line.Lost q vector
went_lost true q vector is = refl
went_lost false q vector is = absurd (cc)

loses_less : (lost all left : ℕ) → left + lost ≡ all → 0 < left → nat_lt lost all ≡ true
loses_less lost all left sum some = grind (arith, nat_tests)

loses_no_more : (lost all left : ℕ) → left + lost ≡ all → left ≡ 0 → nat_lt lost all ≡ false
loses_no_more lost all left sum none = grind (arith, nat_tests)

left_less : (unspent : List ℕ) (q p lost : ℕ) → q < length unspent → 0 < slice_index_or unspent q 0 →
    slice_index_or (slice_set unspent q (slice_index_or unspent q 0 - 1)) p 0 + ((if q == p then 1 else 0) + lost) ≡ slice_index_or unspent p 0 + lost
left_less unspent q p lost inside some = grind (arith, common_steps, nat_tests)

pub comes : (world : World) (output : Output) (past : List Line) (losses : ℕ → ℕ) (s s' : WorldState) (d : Delivery) → WorldStateAfter world output past losses s → slice_index_or s.unspent d.peer 0 ≡ 0 → s'.region ≡ s.region → s'.device ≡ s.device →
    s'.unspent ≡ s.unspent → Records (line.Interrupt d.peer d.vector) s.log s'.log → WorldStateAfter world output (delivery_line past losses d ∷ past) losses s'
comes world output past losses s s' d after none region device unspent log_step =
    let is : delivery_line past losses d ≡ line.Interrupt d.peer d.vector = came _ d.peer d.vector (loses_no_more (lost_count past d.peer) (losses d.peer) (slice_index_or s.unspent d.peer 0) (after.unspent d.peer) none) in
    rw is (plain_after world output past losses s s' (line.Interrupt d.peer d.vector) after refl refl (λ p. refl) (rw region after.words) (ap (λ r. r.shape) region) device unspent log_step)

pub is_lost : (world : World) (output : Output) (past : List Line) (losses : ℕ → ℕ) (s s' : WorldState) (d : Delivery) → WorldStateAfter world output past losses s → d.peer < 8 → 0 < slice_index_or s.unspent d.peer 0 → s'.region ≡ s.region →
    s'.device ≡ s.device → s'.unspent ≡ slice_set s.unspent d.peer (slice_index_or s.unspent d.peer 0 - 1) → Records (line.Lost d.peer d.vector) s.log s'.log →
    WorldStateAfter world output (delivery_line past losses d ∷ past) losses s'
is_lost world output past losses s s' d after few some region device unspent log_step =
    let is : delivery_line past losses d ≡ line.Lost d.peer d.vector = went_lost _ d.peer d.vector (loses_less (lost_count past d.peer) (losses d.peer) (slice_index_or s.unspent d.peer 0) (after.unspent d.peer) some) in
    let peer_states = after.peer_states in
    rw is (record {
      is_world = after.is_world;
      shape = ap (λ r. r.shape) region ∙ after.shape;
      log = log_step world output past refl after.log;
      words = rw region after.words;
      devices = rw device after.devices;
      unspent = λ p. rw unspent (left_less s.unspent d.peer p (lost_count past p) (omega arith) some ∙ after.unspent p);
      peer_states = ap length unspent ∙ length-set s.unspent d.peer (slice_index_or s.unspent d.peer 0 - 1) ∙ after.peer_states;
    })

-- A line that is an event of the devices, with the words and the devices after it.
pub recorded_after : (world : World) (output : Output) (past : List Line) (losses : ℕ → ℕ) (s s' : WorldState) (line : Line) (event : device.Event) → WorldStateAfter world output past losses s → device_event_of line ≡ Some event → ((p : ℕ) → lost_by line p ≡ 0) →
    has_frame line ≡ true → WordsAre s'.region.words (line ∷ past) → s'.region.shape ≡ s.region.shape → Refines (devices_of world) (event ∷ device_events past) s'.device.value → s'.unspent ≡ s.unspent →
    Records line s.log s'.log → WorldStateAfter world output (line ∷ past) losses s'
recorded_after world output past losses s s' line event after recorded lost frame words shape devices unspent log_step = record {
  is_world = after.is_world;
  shape = shape ∙ after.shape;
  log = log_step world output past frame after.log;
  words = words;
  devices = rw recorded devices;
  unspent = λ p. let u = after.unspent p in let none = lost p in rw unspent (omega arith);
  peer_states = rw unspent after.peer_states;
}

-- A word after a write to a word.
pub written : (words : List ℕ) (past : List Line) (at value word : ℕ) → word < length (slice_set words at value) → WordsAre words past →
    slice_index (slice_set words at value) word ≡ (if at == word then value else last_write past word)
written words past at value word inside holds = grind (arith, common_steps, nat_tests, holds word)

pub state_words : (words : List ℕ) (past : List Line) (me value : ℕ) → WordsAre words past → WordsAre (slice_set words me value) (line.State me value ∷ past)
state_words words past me value holds = λ word inside. written words past me value word inside holds

pub reset_words : (words : List ℕ) (past : List Line) (me : ℕ) → WordsAre words past → WordsAre (slice_set words me 0) (line.Reset me ∷ past)
reset_words words past me holds = λ word inside. written words past me 0 word inside holds

-- The interrupts that a line causes come after it.
pub come_after : (P : List Line → Type 0) (world : World) (past : List Line) (losses : ℕ → ℕ) (line : Line) (o : Option device.Event) (deliveries : List Delivery) → BringsBy world past o deliveries →
    P (reverse (delivery_lines (line ∷ past) losses deliveries) ++ (line ∷ past)) → P (reverse (line ∷ interrupts_of_event world past losses line o) ++ past)
come_after P world past losses line None deliveries brings holds =
    subst P (ap (λ ds. reverse (delivery_lines (line ∷ past) losses ds) ++ (line ∷ past)) brings) holds
come_after P world past losses line (Some event) deliveries brings holds =
    subst P (ap (λ ds. reverse (delivery_lines (line ∷ past) losses ds) ++ (line ∷ past)) brings ∙ sym (after_more (delivery_lines (line ∷ past) losses (effect_of (devices_of world) (device_events past) event).deliveries.items) line past)) holds

-- A line that changes nothing, after the others.
pub remarked : (world : World) (output : Output) (past : List Line) (losses : ℕ → ℕ) (s s' : WorldState) (line : Line) → WorldStateAfter world output past losses s → IsMark line →
    s'.region ≡ s.region → s'.device ≡ s.device → s'.unspent ≡ s.unspent → Records line s.log s'.log → WorldStateAfter world output (line ∷ past) losses s'
remarked world output past losses s s' line after record_mark region device unspent log_step =
    plain_after world output past losses s s' line after record_mark.frame record_mark.recorded record_mark.lost
    (rw region (λ word inside. after.words word inside ∙ ap (λ t. value_after t word (last_write past word)) (sym record_mark.touch))) (ap (λ r. r.shape) region) device unspent log_step
