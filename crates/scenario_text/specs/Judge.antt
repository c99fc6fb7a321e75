-- Reading line by line: the effect of a line, and the fault of a faulty one.
use Rattle.std.specs.Prelude.{ℕ, ◌+◌, ◌==◌, ◌&&◌, not, nat_lt, if◌then◌else◌, Bool, true, false, List, [], ◌∷◌, ◌++◌, length, slice_index, max, Option, Some, None, Result, Ok, Err}
use Rattle.line_format.specs.declared.grammar.Test.{Test}
use Rattle.line_format.specs.declared.grammar.Test.TheVariants.{Line, Order, Number, Peer, Bytes, Sizes, Count}
use Rattle.line_format.specs.Machine.{Machine}
use Rattle.line_format.specs.Grammar as grammar
use Rattle.line_format.specs.Grammar.{Rules, machine_of}
use Rattle.line_format.specs.Texts as texts
use Rattle.line_format.specs.Texts.{Sense}
use Rattle.section_map.specs.Faults.{shape_of}
use Rattle.pci_space.specs.declared.wiring.Wiring.{Wiring}
use Rattle.pci_space.specs.declared.wiring.Wiring.TheVariants as wirings
use Rattle.scenario_text.specs.declared.acts.Act.{Act}
use Rattle.scenario_text.specs.declared.acts.Act.TheVariants as acts
use Rattle.scenario_text.specs.declared.forms.Form.{Form}
use Rattle.scenario_text.specs.declared.forms.Form.TheVariants.{Version, Peers, Table, Common, Out, Mtu, Msix, Intx, Honest, Hostile, Begin, Tick, Offer, Poll, Stop, Auto, Storm, Turn, Reset, Poke, Peek, Set, Ring, CfgRead, CfgWrite, MmioRead, MmioWrite, MsixRead, MsixWrite, Lose, Again, End}
use Rattle.scenario_text.specs.declared.positions.Position.{Position}
use Rattle.scenario_text.specs.declared.positions.Position.TheVariants.{AtVersion, AtPeers, AtTable, AtCommon, AtOut, AtMtu, AtWiring, AtPeer, AtBegin, AtActs, Ended}
use Rattle.scenario_text.specs.declared.faults.Cause.{Cause}
use Rattle.scenario_text.specs.declared.faults.Cause.TheVariants.{BadLine, BadOrder, BadNumber, BadPeer, BadFrame, BadGeometry, TooManyTurns}
use Rattle.scenario_text.specs.declared.faults.ScenarioFault.{ScenarioFault}
use Rattle.scenario_text.specs.declared.faults.ScenarioFault.TheVariants as faults
use Rattle.scenario_text.specs.declared.limits.TheConstants.{MOST_ACTS}
use Rattle.scenario_text.specs.Table.{pieces_of, all_forms}
use Rattle.scenario_text.specs.Acts.{cost, turns_of}
use Rattle.scenario_text.specs.Sizes.{is_geometry, is_queue}
use Rattle.scenario_text.specs.Scenario.{World, is_too_late, is_in_range, is_its_peer, is_frame_size}

-- The value of the lines so far, with sizes in bytes. The default of a line that wasn't read is
-- version 1, 0, INTx or empty.
pub record DraftView : Type 0 where
  pub position : Position
  pub version : ℕ
  pub peers : ℕ
  pub table : ℕ
  pub common : ℕ
  pub out : ℕ
  pub mtu : ℕ
  pub wiring : Wiring
  pub honest : List Bool
  pub acts : List Act

-- The world of the lines so far.
abbrev pub world_of_draft : DraftView → World
world_of_draft d = record {
  version = d.version;
  geometry = shape_of d.peers d.table d.common d.out;
  queue = record { version = d.version; out = d.out; mtu = d.mtu };
  wiring = d.wiring;
  honest = d.honest;
  acts = d.acts;
}

-- ---- BadOrder

abbrev pub ordinal_of : Position → ℕ
ordinal_of AtVersion = 0
ordinal_of AtPeers = 1
ordinal_of AtTable = 2
ordinal_of AtCommon = 3
ordinal_of AtOut = 4
ordinal_of AtMtu = 5
ordinal_of AtWiring = 6
ordinal_of AtPeer = 7
ordinal_of AtBegin = 8
ordinal_of AtActs = 9
ordinal_of Ended = 10

-- The position of a form.
abbrev pub position_of : Form → Position
position_of Version = AtVersion
position_of Peers = AtPeers
position_of Table = AtTable
position_of Common = AtCommon
position_of Out = AtOut
position_of Mtu = AtMtu
position_of Msix = AtWiring
position_of Intx = AtWiring
position_of Honest = AtPeer
position_of Hostile = AtPeer
position_of Begin = AtBegin
position_of _ = AtActs

-- The order rules about peer p: the head's peers come in order, and acts come as they are allowed.
abbrev pub is_out_of_turn : DraftView → Form → ℕ → Bool
is_out_of_turn d Honest p = not (p == length d.honest)
is_out_of_turn d Hostile p = not (p == length d.honest)
is_out_of_turn d form p = is_too_late d.acts form p

-- ---- BadGeometry

-- The geometry is judged on the `out` line, and the queue on the `mtu` line.
abbrev pub fits_sizes : DraftView → Form → List ℕ → Bool
fits_sizes d Out ns = is_geometry d.peers d.table d.common (slice_index ns 0)
fits_sizes d Mtu ns = is_queue (record { version = d.version; out = d.out; mtu = slice_index ns 0 })
fits_sizes d _ ns = true

-- ---- the effect of a line

abbrev pub is_end : Form → Bool
is_end End = true
is_end _ = false

-- Whether the form is that of an act.
abbrev pub is_act : Form → Bool
is_act form = ordinal_of (position_of form) == 9 && not (is_end form)

abbrev pub with_peer : Bool → DraftView → DraftView
with_peer b d =
    let honest = d.honest ++ b ∷ [] in
    record d { position = if length honest == d.peers then AtBegin else AtPeer; honest = honest }

abbrev pub with_act : Act → DraftView → DraftView
with_act act d = record d { acts = d.acts ++ act ∷ [] }

-- The act of a row, if the form is that of an act.
abbrev pub act_of : Form → List ℕ → List ℕ → Option Act
act_of Tick ns frame = Some (acts.Tick (slice_index ns 0))
act_of Offer ns frame = Some (acts.Offer (slice_index ns 0) frame)
act_of Poll ns frame = Some (acts.Poll (slice_index ns 0))
act_of Stop ns frame = Some (acts.Stop (slice_index ns 0))
act_of Auto ns frame = Some (acts.Auto (slice_index ns 0) (slice_index ns 1))
act_of Storm ns frame = Some (acts.Storm (slice_index ns 0) (slice_index ns 1))
act_of Turn ns frame = Some (acts.Turn (slice_index ns 0) (slice_index ns 1))
act_of Reset ns frame = Some (acts.Reset (slice_index ns 0))
act_of Poke ns frame = Some (acts.Poke (slice_index ns 0) (slice_index ns 1) (slice_index ns 2))
act_of Peek ns frame = Some (acts.Peek (slice_index ns 0) (slice_index ns 1))
act_of Set ns frame = Some (acts.Set (slice_index ns 0) (slice_index ns 1))
act_of Ring ns frame = Some (acts.Ring (slice_index ns 0) (slice_index ns 1) (slice_index ns 2))
act_of CfgRead ns frame = Some (acts.CfgRead (slice_index ns 0) (slice_index ns 1) (slice_index ns 2))
act_of CfgWrite ns frame = Some (acts.CfgWrite (slice_index ns 0) (slice_index ns 1) (slice_index ns 2) (slice_index ns 3))
act_of MmioRead ns frame = Some (acts.MmioRead (slice_index ns 0) (slice_index ns 1))
act_of MmioWrite ns frame = Some (acts.MmioWrite (slice_index ns 0) (slice_index ns 1) (slice_index ns 2))
act_of MsixRead ns frame = Some (acts.MsixRead (slice_index ns 0) (slice_index ns 1))
act_of MsixWrite ns frame = Some (acts.MsixWrite (slice_index ns 0) (slice_index ns 1) (slice_index ns 2))
act_of Lose ns frame = Some (acts.Lose (slice_index ns 0))
act_of Again ns frame = Some (acts.Again (slice_index ns 0) (slice_index ns 1))
act_of _ ns frame = None

abbrev pub add_head : Form → List ℕ → DraftView → DraftView
add_head Version ns d = record d { position = AtPeers; version = max 1 (slice_index ns 0) }
add_head Peers ns d = record d { position = AtTable; peers = slice_index ns 0 }
add_head Table ns d = record d { position = AtCommon; table = slice_index ns 0 }
add_head Common ns d = record d { position = AtOut; common = slice_index ns 0 }
add_head Out ns d = record d { position = AtMtu; out = slice_index ns 0 }
add_head Mtu ns d = record d { position = AtWiring; mtu = slice_index ns 0 }
add_head Msix ns d = record d { position = AtPeer; wiring = wirings.Msix (slice_index ns 0) }
add_head Intx ns d = record d { position = AtPeer; wiring = wirings.Intx }
add_head Honest ns d = with_peer true d
add_head Hostile ns d = with_peer false d
add_head Begin ns d = record d { position = AtActs }
add_head End ns d = record d { position = Ended }
add_head _ ns d = d

-- The value after a line of the head, if the sizes fit.
abbrev pub head_with : Form → List ℕ → DraftView → Result DraftView Cause
head_with form ns d = if fits_sizes d form ns then Ok (add_head form ns d) else Err BadGeometry

abbrev pub turns_with : DraftView → Option Act → ℕ
turns_with d (Some act) = turns_of d.acts + cost act
turns_with d None = 0

abbrev pub add : Form → List ℕ → Option Act → DraftView → DraftView
add form ns (Some act) d = with_act act d
add form ns None d = add_head form ns d

-- ---- TooManyTurns

abbrev pub has_room : DraftView → Option Act → Bool
has_room d act = not (nat_lt MOST_ACTS (turns_with d act))

-- ---- the fault of a line that fails a test

abbrev pub cause : Test → Cause
cause Line = BadLine
cause Order = BadOrder
cause Number = BadNumber
cause Peer = BadPeer
cause Bytes = BadFrame
cause Sizes = BadGeometry
cause Count = TooManyTurns

-- ---- the text

abbrev pub at_start : DraftView
at_start = record { position = AtVersion; version = 1; peers = 0; table = 0; common = 0; out = 0; mtu = 0; wiring = wirings.Intx; honest = []; acts = [] }

abbrev pub has_ended : DraftView → Bool
has_ended d = ordinal_of d.position == 10

-- The grammar of a scenario's text.
abbrev pub rules : Rules DraftView Form Cause
rules = record {
  pieces_of = pieces_of;
  forms = all_forms;
  cause = cause;
  is_at = λ d form. ordinal_of (position_of form) == ordinal_of d.position;
  is_out_of_turn = is_out_of_turn;
  is_in_range = λ d form ns. is_in_range (world_of_draft d) form ns;
  is_its_peer = λ d form ns. is_its_peer (world_of_draft d) form ns;
  fits = λ d form size. is_frame_size (world_of_draft d) form size;
  fits_sizes = fits_sizes;
  has_room = λ d form ns frame. has_room d (act_of form ns frame);
  add = λ form ns frame d. add form ns (act_of form ns frame) d;
  ended = has_ended;
}

abbrev pub step : DraftView → List ℕ → Result DraftView Cause
step d line = grammar.step rules d line

abbrev pub machine : Machine DraftView Cause
machine = machine_of rules

-- ---- answers

abbrev pub fault_at : Cause → ℕ → ScenarioFault
fault_at BadLine n = faults.BadLine n
fault_at BadOrder n = faults.BadOrder n
fault_at BadNumber n = faults.BadNumber n
fault_at BadPeer n = faults.BadPeer n
fault_at BadFrame n = faults.BadFrame n
fault_at BadGeometry n = faults.BadGeometry n
fault_at TooManyTurns n = faults.TooManyTurns n

abbrev pub is_no_memory : ScenarioFault → Bool
is_no_memory faults.NoMemory = true
is_no_memory _ = false

-- Bytes after the end are a faulty line.
abbrev pub sense : Sense DraftView Cause World ScenarioFault
sense = record { start = at_start; value = λ d. Ok (world_of_draft d); at = fault_at; after = λ n. faults.BadLine n; no_end = faults.NoEnd; no_memory = faults.NoMemory; is_no_memory = is_no_memory }

-- The scenario that a text spells, or its first fault.
abbrev pub answer : List ℕ → Result World ScenarioFault
answer bytes = texts.answer machine sense bytes
