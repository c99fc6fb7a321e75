-- The configuration of a link: the places of the sections of its two ends, and the values of their
-- fields.
use Rattle.std.specs.Prelude.{ℕ, zero, suc, ◌≡◌, ◌+◌, ◌-◌, ◌*◌, ◌<◌, ◌≤◌, if◌then◌else◌, List, [], ◌∷◌, ◌++◌, length, All}
use Rattle.split_ring.specs.declared.sizes.TheConstants.{FRAME_OVERHEAD, SHORTEST_FRAME}
use Rattle.split_ring.specs.Layout.{Sizes, IsQueue}
use Rattle.call_grammar.specs.Words.{frame_word}
use Rattle.call_grammar.specs.Ticks.{EndConfig}
use Rattle.call_grammar.specs.Calls.{Call, Offer}
use Rattle.link_invariant.specs.Fields.{Field, is_field, field_word, part_of}

-- The first word of section 0, which section 1 follows, and the number of words of a section. The
-- sizes of its queue, and the vector of the doorbells.
pub record LinkConfig : Type 0 where
  pub first : ℕ
  pub words : ℕ
  pub sizes : Sizes
  pub vector : ℕ

-- The sizes have a queue, and the number of words of a section is a quarter of its bytes. Both
-- sections are after the two State words.
pub record IsLinkConfig (link_config : LinkConfig) : Type 0 where
  pub queue : IsQueue link_config.sizes
  pub words : link_config.sizes.out ≡ 4 * link_config.words
  pub first : 2 ≤ link_config.first

-- The first word of the section of end p.
abbrev pub section_of : LinkConfig → ℕ → ℕ
section_of link_config p = link_config.first + link_config.words * p

-- The configuration of end p in this link, as the grammar has it.
abbrev pub config_of : LinkConfig → ℕ → EndConfig
config_of link_config p = record {
  me = p;
  other = 1 - p;
  own = section_of link_config p;
  other_start = section_of link_config (1 - p);
  words = link_config.words;
  sizes = link_config.sizes;
  vector = link_config.vector;
}

-- The values of the fields of the section of end p; a field outside the section is 0.
unfoldable pub fields : LinkConfig → (ℕ → ℕ) → ℕ → Field → ℕ
fields link_config memory p field = if is_field link_config.sizes field then part_of field (memory (section_of link_config p + field_word link_config.sizes field)) else 0

-- A frame that an end may offer: 14 to MTU + 18 bytes.
pub record IsOffered (link_config : LinkConfig) (frame : List ℕ) : Type 0 where
  pub least : SHORTEST_FRAME ≤ length frame
  pub most : length frame ≤ link_config.sizes.mtu + FRAME_OVERHEAD
  pub bytes : All (λ byte. byte < 256) frame

-- A call that an end may make.
abbrev pub IsGivenTo : LinkConfig → Call → Type 0
IsGivenTo link_config (Offer frame) = IsOffered link_config frame
IsGivenTo link_config call = Unit {0}

-- The first `count` words of a frame.
abbrev pub first_words : List ℕ → ℕ → List ℕ
first_words frame zero = []
first_words frame (suc count) = first_words frame count ++ frame_word frame count ∷ []
