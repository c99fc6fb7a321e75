-- Reading line by line: the effect of a line, and the fault of a faulty one.
use Rattle.std.specs.Prelude.{ℕ, ◌+◌, ◌==◌, not, nat_lt, if◌then◌else◌, Bool, true, false, List, [], ◌∷◌, ◌++◌, length, slice_index, Option, Some, None, Result, Ok}
use Rattle.section_map.specs.declared.limits.TheConstants.{PAGE}
use Rattle.line_format.specs.declared.grammar.Test.{Test}
use Rattle.line_format.specs.declared.grammar.Test.TheVariants.{Line, Order, Number, Peer, Bytes, Sizes, Count}
use Rattle.line_format.specs.Machine.{Machine}
use Rattle.line_format.specs.Grammar.{Rules, machine_of}
use Rattle.line_format.specs.Texts as texts
use Rattle.line_format.specs.Texts.{Sense}
use Rattle.scenario_text.specs.Sizes.{is_geometry}
use Rattle.port_text.specs.declared.acts.Act.{Act}
use Rattle.port_text.specs.declared.acts.Act.TheVariants as acts
use Rattle.port_text.specs.declared.forms.Form.{Form}
use Rattle.port_text.specs.declared.forms.Form.TheVariants.{Version, Peers, Out, Longest, Honest, Hostile, Begin, Publish, Sample, Turn, Poke, End}
use Rattle.port_text.specs.declared.positions.Position.{Position}
use Rattle.port_text.specs.declared.positions.Position.TheVariants.{AtVersion, AtPeers, AtOut, AtLongest, AtPeer, AtBegin, AtActs, Ended}
use Rattle.port_text.specs.declared.faults.Cause.{Cause}
use Rattle.port_text.specs.declared.faults.Cause.TheVariants.{BadLine, BadOrder, BadNumber, BadPeer, BadMessage, BadGeometry, TooManyTurns}
use Rattle.port_text.specs.declared.faults.PortsFault.{PortsFault}
use Rattle.port_text.specs.declared.faults.PortsFault.TheVariants as faults
use Rattle.port_text.specs.declared.limits.TheConstants.{MOST_TURNS}
use Rattle.port_text.specs.Sizes.{ports_shape, has_port}
use Rattle.port_text.specs.Table.{pieces_of, all_forms}
use Rattle.port_text.specs.Acts.{cost, turns_of}
use Rattle.port_text.specs.Scenario.{World, is_in_range, is_its_peer, is_message_length}

-- The value of the lines so far, with sizes in bytes. The default of a line that wasn't read is 0
-- or empty.
pub record DraftView : Type 0 where
  pub position : Position
  pub peers : ℕ
  pub out : ℕ
  pub most : ℕ
  pub honest : List Bool
  pub acts : List Act

-- The world of the lines so far.
abbrev pub world_of_draft : DraftView → World
world_of_draft d = record { geometry = ports_shape d.peers d.out; most = d.most; honest = d.honest; acts = d.acts }

-- BadOrder

abbrev pub ordinal_of : Position → ℕ
ordinal_of AtVersion = 0
ordinal_of AtPeers = 1
ordinal_of AtOut = 2
ordinal_of AtLongest = 3
ordinal_of AtPeer = 4
ordinal_of AtBegin = 5
ordinal_of AtActs = 6
ordinal_of Ended = 7

-- The position of a form.
abbrev pub position_of : Form → Position
position_of Version = AtVersion
position_of Peers = AtPeers
position_of Out = AtOut
position_of Longest = AtLongest
position_of Honest = AtPeer
position_of Hostile = AtPeer
position_of Begin = AtBegin
position_of _ = AtActs

-- The order rule about peer p: the head's peers come in order.
abbrev pub is_out_of_turn : DraftView → Form → ℕ → Bool
is_out_of_turn d Honest p = not (p == length d.honest)
is_out_of_turn d Hostile p = not (p == length d.honest)
is_out_of_turn d _ p = false

-- BadGeometry

-- The region is judged on the `out` line, and the ports on the `message` line.
abbrev pub fits_sizes : DraftView → Form → List ℕ → Bool
fits_sizes d Out ns = is_geometry d.peers PAGE 0 (slice_index ns 0)
fits_sizes d Longest ns = has_port (slice_index ns 0) d.out
fits_sizes d _ ns = true

-- The effect of a line

-- Whether the form is that of an act.
abbrev pub is_act : Form → Bool
is_act Publish = true
is_act Sample = true
is_act Turn = true
is_act Poke = true
is_act _ = false

abbrev pub is_sample : Form → Bool
is_sample Sample = true
is_sample _ = false

abbrev pub with_peer : Bool → DraftView → DraftView
with_peer b d =
    let honest = d.honest ++ b ∷ [] in
    record d { position = if length honest == d.peers then AtBegin else AtPeer; honest = honest }

abbrev pub with_act : Act → DraftView → DraftView
with_act act d = record d { acts = d.acts ++ act ∷ [] }

-- The act of a row, if the form is that of an act.
abbrev pub act_of : Form → List ℕ → List ℕ → Option Act
act_of Publish ns bytes = Some (acts.Publish (slice_index ns 0) bytes)
act_of Sample ns bytes = Some (acts.Sample (slice_index ns 0) (slice_index ns 1))
act_of Turn ns bytes = Some (acts.Turn (slice_index ns 0) (slice_index ns 1))
act_of Poke ns bytes = Some (acts.Poke (slice_index ns 0) (slice_index ns 1) (slice_index ns 2))
act_of _ ns bytes = None

abbrev pub add_head : Form → List ℕ → DraftView → DraftView
add_head Version ns d = record d { position = AtPeers }
add_head Peers ns d = record d { position = AtOut; peers = slice_index ns 0 }
add_head Out ns d = record d { position = AtLongest; out = slice_index ns 0 }
add_head Longest ns d = record d { position = AtPeer; most = slice_index ns 0 }
add_head Honest ns d = with_peer true d
add_head Hostile ns d = with_peer false d
add_head Begin ns d = record d { position = AtActs }
add_head End ns d = record d { position = Ended }
add_head _ ns d = d

abbrev pub turns_with : DraftView → Option Act → ℕ
turns_with d (Some act) = turns_of d.acts + cost act
turns_with d None = 0

abbrev pub add : Form → List ℕ → Option Act → DraftView → DraftView
add form ns (Some act) d = with_act act d
add form ns None d = add_head form ns d

-- TooManyTurns

abbrev pub has_room : DraftView → Option Act → Bool
has_room d act = not (nat_lt MOST_TURNS (turns_with d act))

-- The fault of a line that fails a test

abbrev pub cause : Test → Cause
cause Line = BadLine
cause Order = BadOrder
cause Number = BadNumber
cause Peer = BadPeer
cause Bytes = BadMessage
cause Sizes = BadGeometry
cause Count = TooManyTurns

-- The text

abbrev pub at_start : DraftView
at_start = record { position = AtVersion; peers = 0; out = 0; most = 0; honest = []; acts = [] }

abbrev pub has_ended : DraftView → Bool
has_ended d = ordinal_of d.position == 7

abbrev pub rules : Rules DraftView Form Cause
rules = record {
  pieces_of = pieces_of;
  forms = all_forms;
  cause = cause;
  is_at = λ d form. ordinal_of (position_of form) == ordinal_of d.position;
  is_out_of_turn = is_out_of_turn;
  is_in_range = λ d form ns. is_in_range (world_of_draft d) form ns;
  is_its_peer = λ d form ns. is_its_peer (world_of_draft d) form ns;
  fits = λ d form size. is_message_length (world_of_draft d) form size;
  fits_sizes = fits_sizes;
  has_room = λ d form ns bytes. has_room d (act_of form ns bytes);
  add = λ form ns bytes d. add form ns (act_of form ns bytes) d;
  ended = has_ended;
}

abbrev pub machine : Machine DraftView Cause
machine = machine_of rules

-- Answers

abbrev pub fault_at : Cause → ℕ → PortsFault
fault_at BadLine n = faults.BadLine n
fault_at BadOrder n = faults.BadOrder n
fault_at BadNumber n = faults.BadNumber n
fault_at BadPeer n = faults.BadPeer n
fault_at BadMessage n = faults.BadMessage n
fault_at BadGeometry n = faults.BadGeometry n
fault_at TooManyTurns n = faults.TooManyTurns n

abbrev pub is_no_memory : PortsFault → Bool
is_no_memory faults.NoMemory = true
is_no_memory _ = false

-- Bytes after the end are a faulty line.
abbrev pub sense : Sense DraftView Cause World PortsFault
sense = record { start = at_start; value = λ d. Ok (world_of_draft d); at = fault_at; after = λ n. faults.BadLine n; no_end = faults.NoEnd; no_memory = faults.NoMemory; is_no_memory = is_no_memory }

-- The schedule that a text spells, or its first fault.
abbrev pub answer : List ℕ → Result World PortsFault
answer bytes = texts.answer machine sense bytes
