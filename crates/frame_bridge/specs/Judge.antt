-- Reading line by line: the effect of a line, and the fault of a faulty one.
use Rattle.std.specs.Prelude.{ℕ, ◌==◌, ◌&&◌, not, nat_le, Bool, true, false, List, [], ◌∷◌, ◌++◌, length, slice_index, Result, Ok}
use Rattle.line_format.specs.declared.grammar.Test.{Test}
use Rattle.line_format.specs.declared.grammar.Test.TheVariants.{Line, Order, Bytes, Count}
use Rattle.line_format.specs.Machine.{Machine}
use Rattle.line_format.specs.Grammar.{Rules, machine_of}
use Rattle.line_format.specs.Texts as texts
use Rattle.line_format.specs.Texts.{Sense}
use Rattle.frame_bridge.specs.declared.limits.TheConstants.{MOST_FRAMES}
use Rattle.frame_bridge.specs.declared.scripts.Sent.{Sent}
use Rattle.frame_bridge.specs.declared.forms.Form.{Form}
use Rattle.frame_bridge.specs.declared.forms.Form.TheVariants.{Version, Ports, Rounds, Begin, Frame, End}
use Rattle.frame_bridge.specs.declared.positions.Position.{Position}
use Rattle.frame_bridge.specs.declared.positions.Position.TheVariants.{AtVersion, AtPorts, AtRounds, AtBegin, AtFrames, Ended}
use Rattle.frame_bridge.specs.declared.faults.Cause.{Cause}
use Rattle.frame_bridge.specs.declared.faults.Cause.TheVariants.{BadLine, BadOrder, BadNumber, BadFrame, TooManyFrames}
use Rattle.frame_bridge.specs.declared.faults.BridgeFault.{BridgeFault}
use Rattle.frame_bridge.specs.declared.faults.BridgeFault.TheVariants as faults
use Rattle.frame_bridge.specs.Table.{pieces_of, all_forms}
use Rattle.frame_bridge.specs.Spelling.{World, is_in_range, is_frame_length}

-- The value of the lines so far. The default of a line that wasn't read is 0 or empty.
pub record DraftView : Type 0 where
  pub position : Position
  pub ports : ℕ
  pub rounds : ℕ
  pub sent : List Sent

abbrev pub world_of_draft : DraftView → World
world_of_draft d = record { ports = d.ports; rounds = d.rounds; sent = d.sent }

-- BadOrder

abbrev pub ordinal_of : Position → ℕ
ordinal_of AtVersion = 0
ordinal_of AtPorts = 1
ordinal_of AtRounds = 2
ordinal_of AtBegin = 3
ordinal_of AtFrames = 4
ordinal_of Ended = 5

-- The position of a form.
abbrev pub position_of : Form → Position
position_of Version = AtVersion
position_of Ports = AtPorts
position_of Rounds = AtRounds
position_of Begin = AtBegin
position_of _ = AtFrames

-- TooManyFrames

abbrev pub is_frame : Form → Bool
is_frame Frame = true
is_frame _ = false

abbrev pub is_too_many : DraftView → Form → Bool
is_too_many d form = is_frame form && nat_le MOST_FRAMES (length d.sent)

-- The effect of a line

abbrev pub add : Form → List ℕ → List ℕ → DraftView → DraftView
add Version ns frame d = record d { position = AtPorts }
add Ports ns frame d = record d { position = AtRounds; ports = slice_index ns 0 }
add Rounds ns frame d = record d { position = AtBegin; rounds = slice_index ns 0 }
add Begin ns frame d = record d { position = AtFrames }
add Frame ns frame d = record d { sent = d.sent ++ record { port = slice_index ns 0; frame = frame } ∷ [] }
add End ns frame d = record d { position = Ended }

-- The fault of a line that fails a test. Each line passes the tests of a peer and of sizes.

abbrev pub cause : Test → Cause
cause Line = BadLine
cause Order = BadOrder
cause Bytes = BadFrame
cause Count = TooManyFrames
cause _ = BadNumber

-- The text

abbrev pub at_start : DraftView
at_start = record { position = AtVersion; ports = 0; rounds = 0; sent = [] }

abbrev pub has_ended : DraftView → Bool
has_ended d = ordinal_of d.position == 5

abbrev pub rules : Rules DraftView Form Cause
rules = record {
  pieces_of = pieces_of;
  forms = all_forms;
  cause = cause;
  is_at = λ d form. ordinal_of (position_of form) == ordinal_of d.position;
  is_out_of_turn = λ d form p. false;
  is_in_range = λ d form ns. is_in_range (world_of_draft d) form ns;
  is_its_peer = λ d form ns. true;
  fits = λ d form size. is_frame_length form size;
  fits_sizes = λ d form ns. true;
  has_room = λ d form ns frame. not (is_too_many d form);
  add = add;
  ended = has_ended;
}

abbrev pub machine : Machine DraftView Cause
machine = machine_of rules

-- Answers

abbrev pub fault_at : Cause → ℕ → BridgeFault
fault_at BadLine n = faults.BadLine n
fault_at BadOrder n = faults.BadOrder n
fault_at BadNumber n = faults.BadNumber n
fault_at BadFrame n = faults.BadFrame n
fault_at TooManyFrames n = faults.TooManyFrames n

abbrev pub is_no_memory : BridgeFault → Bool
is_no_memory faults.NoMemory = true
is_no_memory _ = false

-- Bytes after the end are a faulty line.
abbrev pub sense : Sense DraftView Cause World BridgeFault
sense = record { start = at_start; value = λ d. Ok (world_of_draft d); at = fault_at; after = λ n. faults.BadLine n; no_end = faults.NoEnd; no_memory = faults.NoMemory; is_no_memory = is_no_memory }

-- The run that a text spells, or its first fault.
abbrev pub answer : List ℕ → Result World BridgeFault
answer bytes = texts.answer machine sense bytes
