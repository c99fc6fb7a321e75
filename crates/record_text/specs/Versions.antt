-- The first line of a record, which names its version.
use Rattle.std.specs.Prelude.{ℕ, ◌+◌, List, [], ◌∷◌, ◌++◌, if◌then◌else◌, Option, Some, None, codes}
use Rattle.std.specs.Str.{bytes_eq}

-- The first line of a record of this version, of which the last byte is its digit.
abbrev pub first_line : (version : ℕ) → List ℕ
first_line version = codes "record " ++ (48 + version) ∷ []

-- The version whose records begin with this line.
abbrev pub version_in : (line : List ℕ) → Option ℕ
version_in line = if bytes_eq line (first_line 1) then Some 1 else if bytes_eq line (first_line 2) then Some 2 else None
