-- Laws of every region, for all sizes.
use Rattle.std.specs.Prelude.{◌≡◌, ◌≢◌, ℕ, ◌<◌, ◌↔◌, IsTrue}
use Rattle.section_map.specs.Geometry.{Shape, word_count}
use Rattle.section_map.specs.MayWrite.{InSection, InCommon, InTable, MayWrite, may_write, IsSectionOf}
use Rattle.section_map.specs.declared.sizes.Section.{Section}

-- Two different peers' output sections share no word.
abbrev pub SectionsAreApart : Shape → Type 0
SectionsAreApart g = (p q word : ℕ) → p ≢ q → InSection g p word → ¬ InSection g q word

-- No peer may write a word of the State Table.
abbrev pub TableIsReadOnly : Shape → Type 0
TableIsReadOnly g = (peer word : ℕ) → MayWrite g peer word → ¬ InTable g word

-- Each word that a peer may write is in the region.
abbrev pub WritesStayInside : Shape → Type 0
WritesStayInside g = (peer word : ℕ) → peer < g.peers → MayWrite g peer word → word < word_count g

-- A word that two different peers may write is in the common section.
abbrev pub OnlyCommonIsShared : Shape → Type 0
OnlyCommonIsShared g = (p q word : ℕ) → p ≢ q → MayWrite g p word → MayWrite g q word → InCommon g word

-- A word is in one section alone.
abbrev pub WordHasOneSection : Shape → Type 0
WordHasOneSection g = (word : ℕ) (s t : Section) → IsSectionOf g word s → IsSectionOf g word t → s ≡ t

-- The test decides which words a peer may write.
abbrev pub TestDecidesWrites : Type 0
TestDecidesWrites = (g : Shape) (peer word : ℕ) → IsTrue (may_write g peer word) ↔ MayWrite g peer word
