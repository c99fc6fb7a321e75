-- In every scenario a lawful history is a run of the link machine. Each line of a link peer with a
-- side event has its row.
use Rattle.std.specs.Prelude.{ℕ, ◌-◌, ◌<◌, List, [], ◌∷◌, reverse}
use Rattle.scenario_text.specs.Scenario.{World, IsWorld, is_link}
use Rattle.link_machine.specs.LinkMachine.{SideEvent, Gave, Wrote, Marked, WasReset, Side, Row}
use Rattle.lawful_history.specs.declared.line.Line.{Line}
use Rattle.lawful_history.specs.Lawful.{IsLawful}
use Rattle.history_laws.specs.SideEvents.{LineSideEvent, HasEvent, HasNoEvent, line_side_event_of, side_of}

-- Each line has this property after the older lines.
abbrev pub EachLine : (List Line → Line → Type 0) → List Line → Type 0
EachLine P [] = Unit {0}
EachLine P (line ∷ older) = P older line × EachLine P older

-- The row of a link peer's side event after these lines. The scenario says whether the peer and the
-- other are honest.
abbrev pub RowOf : World → List Line → ℕ → SideEvent → Side → Type 0
RowOf world older p side_event new = Row world.queue (is_link world p) (is_link world (1 - p)) (side_of older p) (side_of older (1 - p)) side_event new

-- Peers 0 and 1 are the link peers; only they have marks.
abbrev pub IsRow : World → List Line → ℕ → SideEvent → Side → Type 0
IsRow world older p (Gave value) new = p < 2 → RowOf world older p (Gave value) new
IsRow world older p (Wrote state) new = p < 2 → RowOf world older p (Wrote state) new
IsRow world older p (Marked mark) new = (p < 2) × RowOf world older p (Marked mark) new
IsRow world older p WasReset new = p < 2 → RowOf world older p WasReset new

-- The line has its row: it leads from the side after the older lines to the side after this one.
abbrev pub HasRow : World → List Line → Line → LineSideEvent → Type 0
HasRow world older line (HasEvent p side_event) = IsRow world older p side_event (side_of (line ∷ older) p)
HasRow world older line HasNoEvent = Unit {0}

abbrev pub KeepsRows : World → List Line → Type 0
KeepsRows world past = EachLine (λ older line. HasRow world older line (line_side_event_of line)) past

-- Each line of a lawful history has its row, for all choices of honest and hostile peers and all
-- resets.
abbrev pub HistoriesRunTheMachine : Type 0
HistoriesRunTheMachine = (world : World) (lines : List Line) → IsWorld world → IsLawful world lines → KeepsRows world (reverse lines)
