-- An image has one listing.
use Rattle.std.proofs.Common.{◌≡◌, ℕ, ◌+◌, ◌%◌, List, [], ◌∷◌, ◌++◌, length, Option, Some, None, refl, sym, ap, subst, ◌∙◌, arith}
use mathlib.Core.Logic.{dite}
use native.Mathlib.Decide.{dec_le}
use Rattle.ivs_base.specs.Numbers.{distance}
use Rattle.split_ring.specs.Layout.{Sizes, size_of, queue_size}
use Rattle.split_ring.specs.Ranges.{IsAvailEntry, IsDescAddress, IsDescLength, IsDescFlags}
use Rattle.split_ring.specs.Spelling.{avail_index, used_index, address_at, length_at, flags_at, bytes_from, Spells}
use Rattle.split_ring.specs.declared.ranges.FieldName.{FieldName}
use Rattle.split_ring.specs.declared.ranges.FieldName.TheVariants.{AvailIndex, AvailEntry, DescAddress, DescLength, DescFlags, UsedIndex, UsedId}
use Rattle.section_dump.specs.Image.{out_in, region_words, peers_in}
use Rattle.section_dump.specs.Lines.{Line, Section, Frame, Bad, End, text_of}
use Rattle.section_dump.specs.Listing.{IsFirstRefused, IsItem, AreItems, IsSection, AreTwoSections, AreSections, head_lines, queue_line, state_lines, IsBody}
use Rattle.section_dump.specs.Laws.{ListingsAreOne}

-- A spelled position has no field that a poll would refuse.
spelled_not_refused : (q : Sizes) (words : ℕ → ℕ) (position e : ℕ) (bytes : List ℕ) (field : FieldName) (value : ℕ) → Spells q words position e bytes → IsFirstRefused q words position field value → ⊥
spelled_not_refused q words position e bytes AvailEntry value s r = r.0 (subst (λ n. IsAvailEntry q n) (sym s.entry_is) s.entry)
spelled_not_refused q words position e bytes DescAddress value s r = r.1 (subst (λ n. IsDescAddress q (address_at q words n)) (sym s.entry_is) s.address)
spelled_not_refused q words position e bytes DescLength value s r = r.2 (subst (λ n. IsDescLength q (address_at q words n) (length_at q words n)) (sym s.entry_is) s.length)
spelled_not_refused q words position e bytes DescFlags value s r = r.3 (subst (λ n. IsDescFlags (flags_at q words n)) (sym s.entry_is) s.flags)
spelled_not_refused q words position e bytes AvailIndex value s r = r
spelled_not_refused q words position e bytes UsedIndex value s r = r
spelled_not_refused q words position e bytes UsedId value s r = r

-- One field is the first that a poll would refuse.
one_refused : (q : Sizes) (words : ℕ → ℕ) (position : ℕ) (f g : FieldName) (a b : ℕ) → IsFirstRefused q words position f a → IsFirstRefused q words position g b → Bad position f a ≡ Bad position g b
one_refused q words position AvailEntry AvailEntry a b r s = ap (Bad position AvailEntry) (r.1 ∙ sym s.1)
one_refused q words position AvailEntry DescAddress a b r s = absurd (r.0 s.0)
one_refused q words position AvailEntry DescLength a b r s = absurd (r.0 s.0)
one_refused q words position AvailEntry DescFlags a b r s = absurd (r.0 s.0)
one_refused q words position DescAddress AvailEntry a b r s = absurd (s.0 r.0)
one_refused q words position DescAddress DescAddress a b r s = ap (Bad position DescAddress) (r.2 ∙ sym s.2)
one_refused q words position DescAddress DescLength a b r s = absurd (r.1 s.1)
one_refused q words position DescAddress DescFlags a b r s = absurd (r.1 s.1)
one_refused q words position DescLength AvailEntry a b r s = absurd (s.0 r.0)
one_refused q words position DescLength DescAddress a b r s = absurd (s.1 r.1)
one_refused q words position DescLength DescLength a b r s = ap (Bad position DescLength) (r.3 ∙ sym s.3)
one_refused q words position DescLength DescFlags a b r s = absurd (r.2 s.2)
one_refused q words position DescFlags AvailEntry a b r s = absurd (s.0 r.0)
one_refused q words position DescFlags DescAddress a b r s = absurd (s.1 r.1)
one_refused q words position DescFlags DescLength a b r s = absurd (s.2 r.2)
one_refused q words position DescFlags DescFlags a b r s = ap (Bad position DescFlags) (r.4 ∙ sym s.4)
one_refused q words position AvailIndex g a b r s = absurd r
one_refused q words position UsedIndex g a b r s = absurd r
one_refused q words position UsedId g a b r s = absurd r
one_refused q words position AvailEntry AvailIndex a b r s = absurd s
one_refused q words position AvailEntry UsedIndex a b r s = absurd s
one_refused q words position AvailEntry UsedId a b r s = absurd s
one_refused q words position DescAddress AvailIndex a b r s = absurd s
one_refused q words position DescAddress UsedIndex a b r s = absurd s
one_refused q words position DescAddress UsedId a b r s = absurd s
one_refused q words position DescLength AvailIndex a b r s = absurd s
one_refused q words position DescLength UsedIndex a b r s = absurd s
one_refused q words position DescLength UsedId a b r s = absurd s
one_refused q words position DescFlags AvailIndex a b r s = absurd s
one_refused q words position DescFlags UsedIndex a b r s = absurd s
one_refused q words position DescFlags UsedId a b r s = absurd s

same_frame : (position k m d e a b n p : ℕ) (xs ys : List ℕ) → k ≡ m → d ≡ e → a ≡ b → n ≡ p → xs ≡ ys → Frame k d a n xs ≡ Frame m e b p ys
same_frame position k m d e a b n p xs ys h1 h2 h3 h4 h5 = cc

same_bad : (k m : ℕ) (f g : FieldName) (a b : ℕ) (position : ℕ) → k ≡ position → m ≡ position → Bad position f a ≡ Bad position g b → Bad k f a ≡ Bad m g b
same_bad k m f g a b position h i e = ap (λ n. Bad n f a) h ∙ e ∙ ap (λ n. Bad n g b) (sym i)

frame_and : (q : Sizes) (words : ℕ → ℕ) (position k e a n : ℕ) (bytes : List ℕ) (b : Line) → IsItem q words position (Frame k e a n bytes) → IsItem q words position b → Frame k e a n bytes ≡ b
frame_and q words position k e a n bytes (Frame m d c p more) h g =
    let same : e ≡ d = sym h.0.entry_is ∙ g.0.entry_is in
    same_frame position k m e d a c n p bytes more (h.1 ∙ sym g.1) same
    (h.2 ∙ ap (address_at q words) same ∙ sym g.2) (h.3 ∙ ap (length_at q words) same ∙ sym g.3)
    (h.0.bytes ∙ ap (λ i. bytes_from words (address_at q words i) (length_at q words i)) same ∙ sym g.0.bytes)
frame_and q words position k e a n bytes (Bad m field value) h g = absurd (spelled_not_refused q words position e bytes field value h.0 g.0)
frame_and q words position k e a n bytes _ h g = absurd g

bad_and : (q : Sizes) (words : ℕ → ℕ) (position k : ℕ) (field : FieldName) (value : ℕ) (b : Line) → IsItem q words position (Bad k field value) → IsItem q words position b → Bad k field value ≡ b
bad_and q words position k field value (Frame m e a n bytes) h g = absurd (spelled_not_refused q words position e bytes field value g.0 h.0)
bad_and q words position k field value (Bad m other more) h g = same_bad k m field other value more position h.1 g.1 (one_refused q words position field other value more h.0 g.0)
bad_and q words position k field value _ h g = absurd g

one_item : (q : Sizes) (words : ℕ → ℕ) (position : ℕ) (a b : Line) → IsItem q words position a → IsItem q words position b → a ≡ b
one_item q words position (Frame k e a n bytes) b h g = frame_and q words position k e a n bytes b h g
one_item q words position (Bad k field value) b h g = bad_and q words position k field value b h g
one_item q words position _ b h g = absurd h

one_list : (q : Sizes) (words : ℕ → ℕ) (position : ℕ) (xs ys : List Line) → AreItems q words position xs → AreItems q words position ys → length xs ≡ length ys → xs ≡ ys
one_list q words position [] [] h g e = refl
one_list q words position [] (y ∷ ys) h g e = absurd (omega arith)
one_list q words position (x ∷ xs) [] h g e = absurd (omega arith)
one_list q words position (x ∷ xs) (y ∷ ys) h g e =
    ap (λ z. z ∷ xs) (one_item q words (position % 65536) x y h.0 g.0) ∙ ap (λ zs. y ∷ zs) (one_list q words (position + 1) xs ys h.1 g.1 (omega arith))

one_section : (q : Sizes) (words others : ℕ → ℕ) (peer : ℕ) (a b : List Line) → IsSection q words others peer a → IsSection q words others peer b → a ≡ b
one_section q words others peer a b h g =
    let used = used_index q others in
    let available = avail_index q words in
    let same : h.items ≡ g.items =
    dite (dec_le (distance used available) (size_of q))
    (λ inside. one_list q words used h.items g.items (h.listed inside).0 (g.listed inside).0 ((h.listed inside).1 ∙ sym (g.listed inside).1))
    (λ outside. h.refused outside ∙ sym (g.refused outside)) in
    h.begins ∙ ap (λ items. Section peer available used ∷ items) same ∙ sym g.begins

one_pair : (image : List ℕ) (a b : List Line) → AreTwoSections image a → AreTwoSections image b → a ≡ b
one_pair image a b h g =
    h.4 ∙ ap (λ xs. xs ++ h.1) (one_section _ _ _ _ h.0 g.0 h.2 g.2) ∙ ap (λ xs. g.0 ++ xs) (one_section _ _ _ _ h.1 g.1 h.3 g.3) ∙ sym g.4

one_sections : (image : List ℕ) (o : Option ℕ) (a b : List Line) → AreSections image o a → AreSections image o b → a ≡ b
one_sections image None a b h g = h ∙ sym g
one_sections image (Some n) a b h g = one_pair image a b h g

one_body : (image : List ℕ) (a b : List Line) → IsBody image a → IsBody image b → a ≡ b
one_body image a b h g =
    h.lines_are
    ∙ ap (λ sections. queue_line (out_in image) (queue_size (out_in image)) ∷ (state_lines (region_words image) (peers_in image) ++ sections))
    (one_sections image (queue_size (out_in image)) h.sections g.sections h.are_sections g.are_sections)
    ∙ sym g.lines_are

pub listings_are_one : ListingsAreOne
listings_are_one image a b h g = h.text_is ∙ ap (λ body. text_of (head_lines image ++ body ++ End ∷ [])) (one_body image h.body g.body h.is_body g.is_body) ∙ sym g.text_is
