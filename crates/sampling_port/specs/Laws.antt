-- Laws of every port, and the faults of a geometry without a port.
use Rattle.std.specs.Prelude.{ℕ, ◌≡◌, ◌+◌, ◌*◌, ◌<◌, ◌≤◌, ◌⊎◌, true, List, [], ◌∷◌, ◌++◌, length, map, false, slice_index}
use Rattle.split_ring.specs.declared.sizes.TheConstants.{LEAST_MTU}
use Rattle.section_map.specs.Geometry.{Shape, section_start}
use Rattle.section_map.specs.MayWrite.{InSection}
use Rattle.split_ring.specs.declared.steps.Access.{Access}
use Rattle.split_ring.specs.declared.steps.Access.TheVariants as access
use Rattle.call_grammar.specs.Ticks.{EndConfig}
use Rattle.call_grammar.specs.Permitted.{IsPermittedTree}
use Rattle.call_grammar.specs.ReadsOnce.{reads_of, AreDistinct}
use Rattle.sampling_port.specs.declared.notes.PortFault.{PortFault}
use Rattle.sampling_port.specs.declared.notes.PortFault.TheVariants.{BadMessage, TooSmall, NoMemory}
use Rattle.sampling_port.specs.Layout.{IsMessageSize, port_words}
use Rattle.sampling_port.specs.Marks.{marked}
use Rattle.sampling_port.specs.Trees.{PortTree, Ended, PortStep, port_step, Goes, Makes, unmarked, unmarked_step}
use Rattle.sampling_port.specs.Calls.{publish, sample}
use Rattle.sampling_port.specs.Views.{PortView, is_busy, from_at, own, other_start, access_at, note_at, port_after, left, publishing, sampling}

-- The fault of a geometry without a port for messages of `most` bytes; sizes are in bytes.
abbrev pub IsPortFault : Shape → ℕ → PortFault → Type 0
IsPortFault shape most (BadMessage found) = (¬ IsMessageSize most) × (found ≡ most)
IsPortFault shape most (TooSmall need found) = IsMessageSize most × (need ≡ 4 * port_words most) × (found ≡ 4 * shape.out) × (found < need)
IsPortFault shape most NoMemory = Unit {0}

-- The access writes a word of the port's own section, or reads one of a peer's.
abbrev pub IsPortAccess : PortView → Access → Type 0
IsPortAccess port (access.Read word) = (from : ℕ) × (from < port.shape.peers) × InSection port.shape from word
IsPortAccess port (access.Write word value) = InSection port.shape port.me word
IsPortAccess port (access.State state) = ⊥
IsPortAccess port (access.Ring target vector) = ⊥
IsPortAccess port access.Nothing = ⊥

-- Two peers as ends of a link in the call grammar; `me` makes the calls.
abbrev pub config_of : Shape → (me from : ℕ) → EndConfig
config_of shape me from = record {
  me = me;
  other = from;
  own = section_start shape me;
  other_start = section_start shape from;
  words = shape.out;
  sizes = record { version = 1; out = 4 * shape.out; mtu = LEAST_MTU };
  vector = 0;
}

-- A publish and a sample make only accesses that the call grammar permits the end of a link.
pub record CallsArePermitted : Type 0 where
  pub publishes : (shape : Shape) (me from most number : ℕ) (message : List ℕ) → IsMessageSize most → port_words most ≤ shape.out → length message ≤ most →
      IsPermittedTree (config_of shape me from) (unmarked (publish (section_start shape me) most number message))
  pub samples : (shape : Shape) (me from most last : ℕ) → IsMessageSize most → port_words most ≤ shape.out →
      IsPermittedTree (config_of shape me from) (unmarked (sample from (section_start shape from) most last))

-- The words that a sample reads: no word twice, or the first word once more after the others.
abbrev pub IsReadOnce : ℕ → List ℕ → Type 0
IsReadOnce sequence reads = AreDistinct reads ⊎ ((front : List ℕ) × (reads ≡ sequence ∷ (front ++ sequence ∷ [])) × AreDistinct (sequence ∷ front))

abbrev pub FieldsAreReadOnce : Type 0
FieldsAreReadOnce = (from other_start most last : ℕ) (steps : List PortStep) → Makes (sample from other_start most last) steps
    → IsReadOnce other_start (reads_of (map unmarked_step steps))

-- The step of a port that read this value; a message got is the one in hand.
abbrev pub step_of_port : PortView → ℕ → PortStep
step_of_port port value = port_step (access_at port port.place) value (marked (from_at port.place) port.hand (note_at port port.place value))

-- A port follows its call, and nothing else.
pub record PortsFollowCalls : Type 0 where
  pub publishes : (port : PortView) (message : List ℕ) → left (publishing port message) ≡ publish (own port) port.most (port.published + 1) message
  pub samples : (port : PortView) (from : ℕ) → left (sampling port from) ≡ sample from (other_start port from) port.most (slice_index port.lasts from)
  pub comes : (port : PortView) (value : ℕ) → is_busy port ≡ true → Goes (left port) (step_of_port port value) (left (port_after port port.place value))
  pub goes : (port : PortView) (step : PortStep) (rest : PortTree) → Goes (left port) step rest →
      (value : ℕ) × (step ≡ step_of_port port value) × (rest ≡ left (port_after port port.place value))
  pub ended : (port : PortView) → is_busy port ≡ false → left port ≡ Ended
