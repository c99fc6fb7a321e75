-- The versions of records.
use Rattle.std.specs.Prelude.{ℕ, ◌==◌, ◌||◌, Bool}

-- Whether the version is 1, whose histories have no marks of sessions, or 2, whose histories have
-- them.
abbrev pub is_version : ℕ → Bool
is_version version = version == 1 || version == 2
