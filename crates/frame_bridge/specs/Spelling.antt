-- The value of a text of a bridge, and its one spelling (profile): a head gives the ports and the
-- rounds; the frames follow.
use Rattle.std.specs.Prelude.{◌≡◌, ℕ, ◌+◌, ◌≤◌, ◌&&◌, nat_lt, nat_le, Bool, true, List, [], ◌∷◌, ◌++◌, length, slice_index, map, All}
use Rattle.split_ring.specs.declared.sizes.TheConstants.{FRAME_OVERHEAD, LEAST_MTU, SHORTEST_FRAME}
use Rattle.line_format.specs.Forms.{Fit, FitBytes}
use Rattle.line_format.specs.Rows.{Row, row, text_of}
use Rattle.frame_bridge.specs.declared.limits.TheConstants.{MOST_FRAMES, MOST_ROUNDS}
use Rattle.frame_bridge.specs.declared.forms.Form.{Form}
use Rattle.frame_bridge.specs.declared.forms.Form.TheVariants.{Version, Ports, Rounds, Begin, Frame, End}
use Rattle.frame_bridge.specs.declared.scripts.Sent.{Sent}
use Rattle.frame_bridge.specs.declared.scripts.Script.{Script}
use Rattle.frame_bridge.specs.Table.{pieces_of}

-- The numbers of ports and rounds, and the frames that the stations send, in the order of their
-- lines.
pub record World : Type 0 where
  pub ports : ℕ
  pub rounds : ℕ
  pub sent : List Sent

abbrev pub world_of : Script → World
world_of script = record { ports = script.ports; rounds = script.rounds; sent = script.sent }

-- The run has the port of a frame.
abbrev pub is_in_range : World → Form → List ℕ → Bool
is_in_range w Frame ns = nat_lt (slice_index ns 0) w.ports
is_in_range w _ ns = true

-- A frame has a length that the least MTU allows.
abbrev pub is_frame_length : Form → ℕ → Bool
is_frame_length Frame size = nat_le SHORTEST_FRAME size && nat_le size (LEAST_MTU + FRAME_OVERHEAD)
is_frame_length _ size = true

abbrev pub row_of_sent : Sent → Row Form
row_of_sent sent = row Frame (sent.port ∷ []) sent.frame

-- A frame that may be sent.
pub record IsAllowed (w : World) (sent : Sent) : Type 0 where
  pub values : Fit (pieces_of Frame) (sent.port ∷ [])
  pub bytes : FitBytes (pieces_of Frame) sent.frame
  pub range : is_in_range w Frame (sent.port ∷ []) ≡ true
  pub size : is_frame_length Frame (length sent.frame) ≡ true

-- A run of 2 to 8 ports, of at most `MOST_ROUNDS` rounds and `MOST_FRAMES` frames, each of which
-- may be sent.
pub record IsWorld (w : World) : Type 0 where
  pub least : 2 ≤ w.ports
  pub most : w.ports ≤ 8
  pub rounds : w.rounds ≤ MOST_ROUNDS
  pub allowed : All (IsAllowed w) w.sent
  pub few : length w.sent ≤ MOST_FRAMES

-- The head, `begin`, the frames, `end`.
abbrev pub rows_of : World → List (Row Form)
rows_of w = (row Version (1 ∷ []) [] ∷ row Ports (w.ports ∷ []) [] ∷ row Rounds (w.rounds ∷ []) [] ∷ row Begin [] [] ∷ [])
    ++ map row_of_sent w.sent ++ row End [] [] ∷ []

-- The number of lines of the text.
abbrev pub line_count : World → ℕ
line_count w = length (rows_of w)

-- The one text of a run.
abbrev pub spelling : World → List ℕ
spelling w = text_of pieces_of (rows_of w)

-- The bytes spell the run.
abbrev pub IsSpelling : World → List ℕ → Type 0
IsSpelling w bytes = IsWorld w × (bytes ≡ spelling w)
