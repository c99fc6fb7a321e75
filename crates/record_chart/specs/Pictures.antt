-- The picture of a history.
use Rattle.std.specs.Prelude.{ℕ, ◌≡◌, ◌+◌, ◌-◌, ◌&&◌, if◌then◌else◌, List, [], ◌++◌, length, take, sum_by}
use Rattle.lawful_history.specs.declared.line.Line.{Line}
use Rattle.scenario_text.specs.Scenario.{World, is_link}
use Rattle.record_chart.specs.declared.rows.Row.{Row}
use Rattle.record_chart.specs.declared.arrows.Arrow.{Arrow}
use Rattle.record_chart.specs.declared.pictures.Picture.{Picture}
use Rattle.record_chart.specs.Rows.{storms_of, rows_of, lines_between}
use Rattle.record_chart.specs.Arrows.{arrows_of}

-- The number of lines of these rows.
abbrev pub count_of : List Row → ℕ
count_of rows = sum_by (λ (row : Row). row.count) rows

-- The rows of the lines from number `first` to number `last`.
abbrev pub rows_between : World → (first last : ℕ) → List Line → List Row
rows_between world first last lines = rows_of (storms_of world.acts) first (lines_between first last lines)

-- The arrows to the deliveries in a prefix of a history, from line number `first` on. A frame that
-- a hostile peer sent was never accepted, so it has none.
abbrev pub pair_arrows : World → (first : ℕ) → List Line → List Arrow
pair_arrows world first lines = if is_link world 0 && is_link world 1 then arrows_of 0 first lines ++ arrows_of 1 first lines else []

-- The picture shows the lines from number `first` to number `last`: the first 2,000 rows, the
-- number of lines after them, and the arrows.
pub record IsPicture (world : World) (lines : List Line) (first last : ℕ) (picture : Picture) : Type 0 where
  pub rows : picture.rows.items ≡ take 2000 (rows_between world first last lines)
  pub left_out : count_of picture.rows.items + picture.left_out ≡ length (lines_between first last lines)
  pub storms : picture.storms.items ≡ storms_of world.acts
  pub arrows : picture.arrows.items ≡ pair_arrows world first (take (first - 1 + count_of picture.rows.items) lines)

-- The same for a record of which `front` is the prefix, with `count` lines after it.
abbrev pub IsPictureOfFront : World → (front : List Line) → (count first last : ℕ) → Picture → Type 0
IsPictureOfFront world front count first last picture = (others : List Line) → length others ≡ count → IsPicture world (front ++ others) first last picture
