-- The view of a pass: its words, the first peer of its range, and the list of each peer's actions.
use Rattle.std.specs.Prelude.{ℕ, List}
use Rattle.atomic_table.specs.Seated.{TableId}
use Rattle.shared_words.specs.DerivedStates.{CallAccess, MemoryOp}
use Rattle.shared_words.specs.Actions.{Action}

pub record PassView : Type 0 where
  pub table_id : TableId
  pub from : ℕ
  pub lists : List (List (Action (MemoryOp CallAccess)))
