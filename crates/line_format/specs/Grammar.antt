-- A text as a table: its forms, the tests of a line in their order, and the effect of a line.
use Rattle.std.specs.Prelude.{ℕ, ◌||◌, not, if◌then◌else◌, Bool, true, false, List, length, slice_get, Option, Some, None, Result, Ok, Err, option_and_then}
use Rattle.std.specs.List.{list_all}
use Rattle.std.specs.Option.{option_map_or}
use Rattle.line_format.specs.declared.grammar.Test.{Test}
use Rattle.line_format.specs.declared.grammar.Test.TheVariants.{Line, Order, Number, Peer, Bytes, Sizes, Count}
use Rattle.line_format.specs.Numbers.{number_of}
use Rattle.line_format.specs.Forms.{Piece, fields_of, numbers_of, hex_of, hex_bytes, is_printable}
use Rattle.line_format.specs.Rows.{find_form}
use Rattle.line_format.specs.Steps.{◌>>=◌, some_or}
use Rattle.line_format.specs.Machine.{Machine}

-- The rules of a text with forms F and faults C. S is the value of the lines so far, on which the
-- tests of the next line depend. Each test is a Boolean; `judge` has their order.
pub record Rules (S F C : Type 0) : Type 0 where
  pub pieces_of : F → List Piece
  pub forms : List F
  pub cause : Test → C
  -- lines of the form can come at this position
  pub is_at : S → F → Bool
  -- the form is forbidden at this position for this peer
  pub is_out_of_turn : S → F → ℕ → Bool
  -- the numbers are in their ranges; each is in the form's own range
  pub is_in_range : S → F → List ℕ → Bool
  -- the text has the peer that the line names, and the peer can do this
  pub is_its_peer : S → F → List ℕ → Bool
  -- whether a line of the form may have this number of bytes
  pub fits : S → F → ℕ → Bool
  -- the sizes that the line completes fit one another
  pub fits_sizes : S → F → List ℕ → Bool
  -- the text has room for the row: with it there are not too many
  pub has_room : S → F → List ℕ → List ℕ → Bool
  -- the effect of a line without a fault
  pub add : F → List ℕ → List ℕ → S → S
  pub ended : S → Bool

-- The line is out of order: its form can't come at this position, or not for the peer in field 1.
-- The rule about the peer applies only if the field is a number.
abbrev pub is_out_of_order : {S F C : Type 0} → Rules S F C → S → F → List (List ℕ) → Bool
is_out_of_order g d form fields = not (g.is_at d form) || option_map_or (g.is_out_of_turn d form) (option_and_then number_of (slice_get fields 1)) false

-- The test passes, or this is the fault.
abbrev pub pass_or : {C : Type 0} → C → Bool → Result (Unit {0}) C
pass_or cause true = Ok tt
pass_or cause false = Err cause

-- The lines so far with the row, whose numbers and bytes are right, unless the row has a fault.
abbrev pub added : {S F C : Type 0} → Rules S F C → S → F → List ℕ → List ℕ → Result S C
added g d form ns bytes = do
  sizes ← pass_or (g.cause Sizes) (g.fits_sizes d form ns)
  room ← pass_or (g.cause Count) (g.has_room d form ns bytes)
  Ok (g.add form ns bytes d)

-- The bytes of the line, if its digits spell bytes of a length that fits.
abbrev pub bytes_in : {S F C : Type 0} → Rules S F C → S → F → List (List ℕ) → Option (List ℕ)
bytes_in g d form fields = option_and_then (λ bytes. if g.fits d form (length bytes) then Some bytes else None) (hex_bytes (hex_of (g.pieces_of form) fields))

-- The tests of a line that has the form, in their order.
unfoldable pub judge : {S F C : Type 0} → Rules S F C → S → F → List (List ℕ) → Result S C
judge g d form fields =
    if is_out_of_order g d form fields then Err (g.cause Order) else do
      ns ← some_or (g.cause Number) (numbers_of (g.pieces_of form) fields)
      range ← pass_or (g.cause Number) (g.is_in_range d form ns)
      peer ← pass_or (g.cause Peer) (g.is_its_peer d form ns)
      bytes ← some_or (g.cause Bytes) (bytes_in g d form fields)
      added g d form ns bytes

-- The step of a line: it has to be printable and to have a form.
unfoldable pub step : {S F C : Type 0} → Rules S F C → S → List ℕ → Result S C
step g d line =
    if list_all is_printable line then (do
      form ← some_or (g.cause Line) (find_form g.pieces_of g.forms (fields_of line))
      judge g d form (fields_of line)) else Err (g.cause Line)

abbrev pub machine_of : {S F C : Type 0} → Rules S F C → Machine S C
machine_of g = record { step = step g; ended = g.ended }
