-- The versions of the library.
use Rattle.std.specs.Prelude.{ℕ}

-- The version of the binary interface. In each library of one version the calls, their answers and
-- the structs of an earlier library are the same.
abbrev pub abi_version : ℕ
abi_version = 1

-- Version 1.0 of the library: 1,000 times the first number, plus the second.
abbrev pub library_version : ℕ
library_version = 1000
