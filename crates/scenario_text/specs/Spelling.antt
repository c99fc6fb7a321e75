-- Scenarios as texts: the rows of a scenario, one line each. So a scenario has one spelling.
use Rattle.std.specs.Prelude.{◌≡◌, ℕ, ◌*◌, List, [], ◌∷◌, ◌++◌, length, map}
use Rattle.line_format.specs.Rows.{Row, row, text_of, flag_rows}
use Rattle.pci_space.specs.declared.wiring.Wiring.{Wiring}
use Rattle.pci_space.specs.declared.wiring.Wiring.TheVariants as wirings
use Rattle.scenario_text.specs.declared.forms.Form.{Form}
use Rattle.scenario_text.specs.declared.forms.Form.TheVariants.{Version, Peers, Table, Common, Out, Mtu, Msix, Intx, Honest, Hostile, Begin, End}
use Rattle.scenario_text.specs.declared.scenarios.Scenario.{Scenario}
use Rattle.scenario_text.specs.Table.{pieces_of}
use Rattle.scenario_text.specs.ActRows.{row_of_act}
use Rattle.scenario_text.specs.Scenario.{World, IsWorld}

-- The value of the scenario.
abbrev pub world_of : Scenario → World
world_of s = record { version = s.version; geometry = s.geometry; queue = s.queue; wiring = s.wiring; honest = s.honest; acts = s.acts }

abbrev pub row_of_wiring : Wiring → Row Form
row_of_wiring (wirings.Msix vectors) = row Msix (vectors ∷ []) []
row_of_wiring wirings.Intx = row Intx [] []

-- The version and the sizes, in bytes.
abbrev pub sizes_rows : World → List (Row Form)
sizes_rows w =
    row Version (w.version ∷ []) []
    ∷ row Peers (w.geometry.peers ∷ []) []
    ∷ row Table (4 * w.geometry.table ∷ []) []
    ∷ row Common (4 * w.geometry.common ∷ []) []
    ∷ row Out (4 * w.geometry.out ∷ []) []
    ∷ row Mtu (w.queue.mtu ∷ []) []
    ∷ []

-- The rows before `begin`.
abbrev pub head_rows : World → List (Row Form)
head_rows w = sizes_rows w ++ row_of_wiring w.wiring ∷ flag_rows Honest Hostile 0 w.honest

-- The head, `begin`, the acts, `end`.
abbrev pub rows_of : World → List (Row Form)
rows_of w = head_rows w ++ row Begin [] [] ∷ [] ++ map row_of_act w.acts ++ row End [] [] ∷ []

-- The number of lines of the text.
abbrev pub line_count : World → ℕ
line_count w = length (rows_of w)

-- The one text of a scenario.
abbrev pub spelling : World → List ℕ
spelling w = text_of pieces_of (rows_of w)

-- The bytes spell the scenario.
abbrev pub IsSpelling : World → List ℕ → Type 0
IsSpelling w bytes = IsWorld w × (bytes ≡ spelling w)
