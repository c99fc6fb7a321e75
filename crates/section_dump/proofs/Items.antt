-- The lines of positions.
use Rattle.std.proofs.Common.{◌≡◌, ℕ, zero, suc, ◌+◌, ◌%◌, List, [], ◌∷◌, ◌++◌, length, refl, sym, ap, subst, ◌∙◌, arith, append_assoc, length-append}
use Rattle.std.proofs.lemmas.List.{append-nil}
use Rattle.std.proofs.lemmas.Grind.{flat_map-append}
use Rattle.ivs_base.specs.Numbers.{distance}
use Rattle.split_ring.specs.Layout.{Sizes}
use Rattle.split_ring.specs.Ranges.{IsAvailIndex, IsDescAddress}
use Rattle.split_ring.specs.Spelling.{avail_index, used_index, bytes_from}
use Rattle.split_ring.specs.declared.ranges.FieldName.{FieldName}
use Rattle.split_ring.specs.declared.ranges.FieldName.TheVariants.{AvailIndex}
use Rattle.section_dump.specs.Lines.{Line, Frame, Bad, Section, line_of, text_of, Puts}
use Rattle.section_dump.specs.Listing.{IsAccepted, IsFirstRefused, IsItem, IsItemLine, AreItems, AreItemsOf, IsSection}

length-bytes_from : (words : ℕ → ℕ) (place count : ℕ) → length (bytes_from words place count) ≡ count
length-bytes_from words place zero = refl
length-bytes_from words place (suc count) = ap suc (length-bytes_from words (place + 1) count)

-- An item that a poll accepts, with its bytes, is the frame that is spelled there.
accepted_item : (q : Sizes) (words : ℕ → ℕ) (position entry address count : ℕ) (bytes : List ℕ) → IsAccepted q words position entry address count
    → bytes ≡ bytes_from words address count → IsItem q words position (Frame position entry address (length bytes) bytes)
accepted_item q words position entry address count bytes h is = (
  record {
    entry_is = h.entry_is;
    entry = h.in_entries;
    address = subst (λ a. IsDescAddress q a) (sym h.address_is) h.in_data;
    length = rw (h.address_is, h.length_is) h.in_section;
    flags = h.no_flags;
    bytes = rw (h.address_is, h.length_is) is;
  },
  refl,
  sym h.address_is,
  ap length is ∙ length-bytes_from words address count ∙ sym h.length_is,
)

one_line : (P : List Line → Type 0) (line : Line) (old new : List ℕ) → P (line ∷ []) → new ≡ old ++ line_of line → Puts P old new
one_line P line old new holds is = (line ∷ [], holds, is ∙ ap (λ bytes. old ++ bytes) (sym (append-nil (line_of line))))

pub accepted_line : (q : Sizes) (words : ℕ → ℕ) (position entry address count : ℕ) (bytes old new : List ℕ) → IsAccepted q words position entry address count
    → bytes ≡ bytes_from words address count → new ≡ old ++ line_of (Frame position entry address (length bytes) bytes) → Puts (IsItemLine q words position) old new
accepted_line q words position entry address count bytes old new h is puts =
    one_line (IsItemLine q words position) (Frame position entry address (length bytes) bytes) old new (accepted_item q words position entry address count bytes h is) puts

pub refused_line : (q : Sizes) (words : ℕ → ℕ) (position : ℕ) (field : FieldName) (value : ℕ) (old new : List ℕ) → IsFirstRefused q words position field value
    → new ≡ old ++ line_of (Bad position field value) → Puts (IsItemLine q words position) old new
refused_line q words position field value old new h puts = one_line (IsItemLine q words position) (Bad position field value) old new (h, refl) puts

AreItems-append : (q : Sizes) (words : ℕ → ℕ) (position : ℕ) (lines : List Line) (line : Line) → AreItems q words position lines
    → IsItem q words ((position + length lines) % 65536) line → AreItems q words position (lines ++ line ∷ [])
AreItems-append q words position [] line are is = (subst (λ n. IsItem q words (n % 65536) line) (omega arith) is, tt)
AreItems-append q words position (first ∷ lines) line are is = (are.0, AreItems-append q words (position + 1) lines line are.1 (subst (λ n. IsItem q words (n % 65536) line) (omega arith) is))

pub no_items : (q : Sizes) (words : ℕ → ℕ) (position : ℕ) (text : List ℕ) → Puts (AreItemsOf q words position 0) text text
no_items q words position text = ([], (tt, refl), sym (append-nil text))

-- One more item after those of count positions.
pub more_items : (q : Sizes) (words : ℕ → ℕ) (position count : ℕ) (old text new : List ℕ) → Puts (AreItemsOf q words position count) old text
    → Puts (IsItemLine q words ((position + count) % 65536)) text new → Puts (AreItemsOf q words position (count + 1)) old new
more_items q words position count old text new (lines, are, is) ([], item, puts) = absurd item
more_items q words position count old text new (lines, are, is) (line ∷ next ∷ more, item, puts) = absurd item
more_items q words position count old text new (lines, are, is) (line ∷ [], item, puts) = (
  lines ++ line ∷ [],
  (AreItems-append q words position lines line are.0 (subst (λ n. IsItem q words ((position + n) % 65536) line) (sym are.1) item), length-append lines (line ∷ []) ∙ ap (λ n. n + 1) are.1),
  puts ∙ ap (λ bytes. bytes ++ text_of (line ∷ [])) is ∙ append_assoc old (text_of lines) (text_of (line ∷ [])) ∙ ap (λ bytes. old ++ bytes) (sym (flat_map-append line_of lines (line ∷ []))),
)

after_one : (line : Line) (lines : List Line) (old text new : List ℕ) → text ≡ old ++ line_of line → new ≡ text ++ text_of lines → new ≡ old ++ text_of (line ∷ lines)
after_one line lines old text new first more = more ∙ ap (λ bytes. bytes ++ text_of lines) first ∙ append_assoc old (line_of line) (text_of lines)

-- A section with its items.
pub listed_section : (q : Sizes) (words others : ℕ → ℕ) (peer available used count : ℕ) (old text new : List ℕ)
    → available ≡ avail_index q words → used ≡ used_index q others → IsAvailIndex q used available × (count ≡ distance used available)
    → text ≡ old ++ line_of (Section peer available used) → Puts (AreItemsOf q words used count) text new
    → Puts (IsSection q words others peer) old new
listed_section q words others peer available used count old text new a u inside begins (items, are, is) = (
  Section peer available used ∷ items,
  record {
    items = items;
    begins = ap (λ n. Section peer n used ∷ items) a ∙ ap (λ n. Section peer (avail_index q words) n ∷ items) u;
    listed = λ _. rw (sym a, sym u, sym inside.1) are;
    refused = λ outside. absurd (outside (rw (sym a, sym u) inside.0));
  },
  after_one (Section peer available used) items old text new begins is,
)

-- A section whose indices are too far apart.
pub refused_section : (q : Sizes) (words others : ℕ → ℕ) (peer available used : ℕ) (old text new : List ℕ)
    → available ≡ avail_index q words → used ≡ used_index q others → ¬ IsAvailIndex q used available
    → text ≡ old ++ line_of (Section peer available used) → new ≡ text ++ line_of (Bad available AvailIndex available)
    → Puts (IsSection q words others peer) old new
refused_section q words others peer available used old text new a u outside begins is = (
  Section peer available used ∷ Bad available AvailIndex available ∷ [],
  record {
    items = Bad available AvailIndex available ∷ [];
    begins = ap (λ n. Section peer n used ∷ Bad available AvailIndex available ∷ []) a ∙ ap (λ n. Section peer (avail_index q words) n ∷ Bad available AvailIndex available ∷ []) u;
    listed = λ inside. absurd (outside (rw (a, u) inside));
    refused = λ _. ap (λ n. Bad n AvailIndex n ∷ []) a;
  },
  after_one (Section peer available used) (Bad available AvailIndex available ∷ []) old text new begins
      (is ∙ ap (λ bytes. text ++ bytes) (sym (append-nil (line_of (Bad available AvailIndex available))))),
)
