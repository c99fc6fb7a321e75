-- An index is read once for each use.
use Rattle.std.specs.Prelude.{ℕ, ◌≡◌, ◌+◌, ◌%◌, List, [], ◌∷◌, ◌++◌, length, reverse}
use Rattle.ivs_base.specs.Numbers.{distance}
use Rattle.split_ring.specs.declared.ranges.FieldName.{FieldName}
use Rattle.split_ring.specs.declared.ranges.FieldName.TheVariants as field_name
use Rattle.split_ring.specs.declared.ranges.Refused.{Refused}
use Rattle.split_ring.specs.Layout.{Field, word_offset, AvailIndex, UsedIndex}
use Rattle.split_ring.specs.Spelling.{high_half}
use Rattle.scenario_text.specs.Scenario.{World, IsWorld}
use Rattle.call_grammar.specs.Calls.{EndConfig}
use Rattle.lawful_history.specs.declared.line.Line.{Line}
use Rattle.lawful_history.specs.declared.line.Line.TheVariants as line
use Rattle.lawful_history.specs.Sides.{config_of}
use Rattle.lawful_history.specs.Lawful.{IsLawful}
use Rattle.history_laws.specs.SideEvents.{side_of}
use Rattle.history_laws.specs.Reads.{reads_of}

-- The newest of these lines is peer p's read of this index of the other's section, which met this
-- value. Peer p has read nothing else since its last mark or reset.
abbrev pub IsLoneRead : EndConfig → ℕ → List Line → Field → ℕ → Type 0
IsLoneRead config p past field index =
    (word : ℕ) × (older : List Line) × (past ≡ line.Read p (config.other_start + word_offset config.sizes field) word ∷ older) × (reads_of older p ≡ []) × (index ≡ high_half word)

-- `count` is the distance from the peer's own count to the index read.
abbrev pub IsIndexRead : EndConfig → ℕ → List Line → Field → (own count : ℕ) → Type 0
IsIndexRead config p past field own count = (index : ℕ) × IsLoneRead config p past field index × (count ≡ distance (own % 65536) index)

-- The value read of a field that is an index.
abbrev pub IsLoneIndex : EndConfig → ℕ → List Line → FieldName → ℕ → Type 0
IsLoneIndex config p past field_name.AvailIndex value = IsLoneRead config p past AvailIndex value
IsLoneIndex config p past field_name.UsedIndex value = IsLoneRead config p past UsedIndex value
IsLoneIndex config p past field value = Unit {0}

-- Each mark of a read of the available index, each reclaim and each refusal of an index has its own
-- read, directly before it. Since its last mark or reset the peer has read nothing else. The number
-- found is counted from the index read.
pub record IndexesAreReadOnce : Type 0 where
  pub looks : (world : World) (before after : List Line) (p count : ℕ) → IsWorld world → IsLawful world (before ++ line.Look p count ∷ after) →
      IsIndexRead (config_of world p) p (reverse before) AvailIndex (length (side_of (reverse before) p).delivered) count
  pub reclaims : (world : World) (before after : List Line) (p count : ℕ) → IsWorld world → IsLawful world (before ++ line.Reclaim p count ∷ after) →
      IsIndexRead (config_of world p) p (reverse before) UsedIndex (side_of (reverse before) p).freed count
  pub refusals : (world : World) (before after : List Line) (p : ℕ) (refused : Refused) → IsWorld world →
      IsLawful world (before ++ line.Refuse p refused ∷ after) →
      IsLoneIndex (config_of world p) p (reverse before) refused.field refused.value
