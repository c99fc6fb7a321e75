-- The output of a bridge's run (profile): the arrivals, the lines of each port, and the number of
-- addresses known. A port's lines are the frames that its station delivered, and the number of
-- forwarded frames that are left.
use Rattle.std.specs.Prelude.{ℕ, ◌≡◌, ◌-◌, ◌<◌, ◌==◌, List, [], ◌∷◌, ◌++◌, length, map, filter, codes}
use Rattle.std.specs.List.{flat_map}
use Rattle.line_format.specs.Forms.{Piece, Word, Number, Hex}
use Rattle.line_format.specs.Rows.{Row, row, text_of}
use Rattle.link_invariant.specs.Runs.{HonestRuns}
use Rattle.frame_bridge.specs.Spelling as text
use Rattle.frame_bridge.specs.Spelling.{IsSpelling}
use Rattle.frame_bridge.specs.declared.output.Line.{Line}
use Rattle.frame_bridge.specs.declared.output.Line.TheVariants.{Arrive, Port, Out, Left, Known, End}
use Rattle.frame_bridge.specs.Forwarding.{Arrival, first_ports, forward, known_count}
use Rattle.frame_bridge.specs.Links.{link_config}
use Rattle.frame_bridge.specs.Run.{World, frames_of, run_of}

abbrev pub any_number : Piece
any_number = Number 0 18446744073709551615

-- The fields of a line of this form.
abbrev pub pieces_of : Line → List Piece
pieces_of Arrive = Word (codes "arrive") ∷ any_number ∷ Hex ∷ []
pieces_of Port = Word (codes "port") ∷ any_number ∷ []
pieces_of Out = Word (codes "out") ∷ Hex ∷ []
pieces_of Left = Word (codes "left") ∷ any_number ∷ []
pieces_of Known = Word (codes "known") ∷ any_number ∷ []
pieces_of End = Word (codes "end") ∷ []

abbrev pub arrive_row : Arrival → Row Line
arrive_row a = row Arrive (a.port ∷ []) a.frame

abbrev pub out_row : List ℕ → Row Line
out_row frame = row Out [] frame

-- The frames that the station of this port delivered.
abbrev pub outs : World → ℕ → List (List ℕ)
outs w port = ((w.links port).auto_ends 0).delivered

-- The number of frames that were forwarded to this port and not delivered.
abbrev pub left : World → ℕ → ℕ
left w port = length (forward w.arrivals port) - length (outs w port)

abbrev pub port_rows : World → ℕ → List (Row Line)
port_rows w port = (row Port (port ∷ []) [] ∷ map out_row (outs w port)) ++ row Left (left w port ∷ []) [] ∷ []

abbrev pub rows_of : ℕ → World → List (Row Line)
rows_of ports w =
    (map arrive_row w.arrivals ++ flat_map (port_rows w) (first_ports ports)) ++ (row Known (known_count w.arrivals ∷ []) [] ∷ row End [] [] ∷ [])

abbrev pub output_of : ℕ → World → List ℕ
output_of ports w = text_of pieces_of (rows_of ports w)

-- The properties of a run

-- The frames that arrived at this port.
abbrev pub arrived_at : ℕ → List Arrival → List (List ℕ)
arrived_at port arrivals = map (λ a. a.frame) (filter (λ a. a.port == port) arrivals)

-- The properties of each port. Its ends are two honest ends of a link, over the words of its
-- region. The frames that arrived at it are a prefix of those that its station sends. The frames
-- that its station delivered are a prefix of those forwarded to it, and the rest is left.
pub record Delivers (script : text.World) (w : World) (port : ℕ) : Type 0 where
  pub runs : HonestRuns link_config (w.links port).memory (λ p. ((w.links port).auto_ends p).end) (λ p. ((w.links port).auto_ends p).place)
  pub arrives : (rest : List (List ℕ)) × (frames_of port script.sent ≡ arrived_at port w.arrivals ++ rest)
  pub goes_out : (rest : List (List ℕ)) × (forward w.arrivals port ≡ outs w port ++ rest) × (left w port ≡ length rest)

-- The output is that of the run of this script.
pub record IsOutput (script : text.World) (output : List ℕ) : Type 0 where
  pub text : output ≡ output_of script.ports (run_of script)
  pub delivers : (port : ℕ) → port < script.ports → Delivers script (run_of script) port

-- The bytes spell a script, and the output is that of its run.
pub record IsBridged (bytes output : List ℕ) : Type 0 where
  pub script : text.World
  pub spelled : IsSpelling script bytes
  pub run : IsOutput script output
