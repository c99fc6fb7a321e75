-- Schedules of ports as texts: the rows of a schedule, one line each. So a schedule has one
-- spelling.
use Rattle.std.specs.Prelude.{◌≡◌, ℕ, ◌*◌, List, [], ◌∷◌, ◌++◌, length, map}
use Rattle.line_format.specs.Rows.{Row, row, text_of, flag_rows}
use Rattle.port_text.specs.declared.forms.Form.{Form}
use Rattle.port_text.specs.declared.forms.Form.TheVariants.{Version, Peers, Out, Longest, Honest, Hostile, Begin, End}
use Rattle.port_text.specs.declared.scenarios.Scenario.{Scenario}
use Rattle.port_text.specs.Table.{pieces_of}
use Rattle.port_text.specs.ActRows.{row_of_act}
use Rattle.port_text.specs.Scenario.{World, IsWorld}

-- The value of the schedule.
abbrev pub world_of : Scenario → World
world_of s = record { geometry = s.geometry; most = s.most; honest = s.honest; acts = s.acts }

-- The version and the sizes, in bytes.
abbrev pub sizes_rows : World → List (Row Form)
sizes_rows w =
    row Version (1 ∷ []) []
    ∷ row Peers (w.geometry.peers ∷ []) []
    ∷ row Out (4 * w.geometry.out ∷ []) []
    ∷ row Longest (w.most ∷ []) []
    ∷ []

-- The sizes, the peers, `begin`, the acts, `end`.
abbrev pub rows_of : World → List (Row Form)
rows_of w = sizes_rows w ++ flag_rows Honest Hostile 0 w.honest ++ row Begin [] [] ∷ [] ++ map row_of_act w.acts ++ row End [] [] ∷ []

-- The number of lines of the text.
abbrev pub line_count : World → ℕ
line_count w = length (rows_of w)

-- The one text of a schedule.
abbrev pub spelling : World → List ℕ
spelling w = text_of pieces_of (rows_of w)

-- The bytes spell the schedule.
abbrev pub IsSpelling : World → List ℕ → Type 0
IsSpelling w bytes = IsWorld w × (bytes ≡ spelling w)
