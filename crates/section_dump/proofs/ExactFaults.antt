-- Bytes with a fault are no image, and have no other fault.
use Rattle.std.proofs.Common.{◌≡◌, ℕ, ◌*◌, ◌/◌, ◌%◌, refl, sym, ap, ◌∙◌, arith}
use Rattle.section_map.specs.Geometry.{IsShape}
use Rattle.section_map.specs.Faults.{IsPages, IsSomePages, IsFirstFault, shape_of}
use Rattle.section_map.specs.declared.sizes.Part.TheVariants.{Table, Common, Out}
use Rattle.section_map.specs.declared.sizes.GeometryFault.{GeometryFault}
use Rattle.section_map.specs.declared.sizes.GeometryFault.TheVariants.{BadPeers, BadPage, TableTooSmall, TooLarge}
use Rattle.section_dump.specs.Image.{peers_in, table_in, common_in, out_in}
use Rattle.section_dump.specs.Laws.{FaultsAreOfNoImage, FaultsAreOne}
use Rattle.section_dump.specs.declared.DumpFault.TheVariants.{BadHeader, Geometry, ShortImage, LongImage, NoMemory}

abbrev AreSizes : (peers table common out : ℕ) → Type 0
AreSizes peers table common out = IsSomePages table × IsPages common × IsSomePages out × IsShape (shape_of peers table common out)

-- Whole pages for each peer, in bytes, are four times their number of words.
pages_in_words : (peers out : ℕ) → out % 4096 ≡ 0 → peers * out ≡ 4 * (peers * (out / 4))
pages_in_words peers out whole = let e : out ≡ 4 * (out / 4) = omega arith in ap (λ n. peers * n) e ∙ (omega arith)

-- Sizes with a fault are those of no region.
no_region : (peers table common out : ℕ) (fault : GeometryFault) → IsFirstFault peers table common out fault → AreSizes peers table common out → ⊥
no_region peers table common out (BadPeers n) h s = h.0 (s.3.two_peers, s.3.most_peers)
no_region peers table common out (BadPage Table n) h s = h.1 s.0
no_region peers table common out (BadPage Common n) h s = h.2 s.1
no_region peers table common out (BadPage Out n) h s = h.3 s.2
no_region peers table common out (TableTooSmall n m) h s = let states = s.3.states in let few = h.4 in omega arith
no_region peers table common out (TooLarge n) h s =
    let room = s.3.room in let words = pages_in_words peers out s.2.1 in let many = h.5 in let bytes = h.6 in
    let table_whole = s.0.1 in let common_whole = s.1 in omega arith

pub faults_are_of_no_image : FaultsAreOfNoImage
faults_are_of_no_image image BadHeader ne h i = h i.header
faults_are_of_no_image image (Geometry fault) ne h i = no_region (peers_in image) (table_in image) (common_in image) (out_in image) fault h.1 i.sizes
faults_are_of_no_image image (ShortImage need found) ne h i = let whole = i.whole in let less = h.2 in let due = h.3 in let is = h.4 in omega arith
faults_are_of_no_image image (LongImage need found) ne h i = let whole = i.whole in let more = h.2 in let due = h.3 in let is = h.4 in omega arith
faults_are_of_no_image image NoMemory ne h i = ne refl

one_sizes : (peers table common out : ℕ) (a b : GeometryFault) → IsFirstFault peers table common out a → IsFirstFault peers table common out b → a ≡ b
one_sizes peers table common out (BadPeers n) (BadPeers n') h g = ap BadPeers (h.1 ∙ sym g.1)
one_sizes peers table common out (BadPeers n) (BadPage Table n') h g = absurd (h.0 g.0)
one_sizes peers table common out (BadPeers n) (BadPage Common n') h g = absurd (h.0 g.0)
one_sizes peers table common out (BadPeers n) (BadPage Out n') h g = absurd (h.0 g.0)
one_sizes peers table common out (BadPeers n) (TableTooSmall n' m') h g = absurd (h.0 g.0)
one_sizes peers table common out (BadPeers n) (TooLarge n') h g = absurd (h.0 g.0)
one_sizes peers table common out (BadPage Table n) (BadPeers n') h g = absurd (g.0 h.0)
one_sizes peers table common out (BadPage Table n) (BadPage Table n') h g = ap (BadPage Table) (h.2 ∙ sym g.2)
one_sizes peers table common out (BadPage Table n) (BadPage Common n') h g = absurd (h.1 g.1)
one_sizes peers table common out (BadPage Table n) (BadPage Out n') h g = absurd (h.1 g.1)
one_sizes peers table common out (BadPage Table n) (TableTooSmall n' m') h g = absurd (h.1 g.1)
one_sizes peers table common out (BadPage Table n) (TooLarge n') h g = absurd (h.1 g.1)
one_sizes peers table common out (BadPage Common n) (BadPeers n') h g = absurd (g.0 h.0)
one_sizes peers table common out (BadPage Common n) (BadPage Table n') h g = absurd (g.1 h.1)
one_sizes peers table common out (BadPage Common n) (BadPage Common n') h g = ap (BadPage Common) (h.3 ∙ sym g.3)
one_sizes peers table common out (BadPage Common n) (BadPage Out n') h g = absurd (h.2 g.2)
one_sizes peers table common out (BadPage Common n) (TableTooSmall n' m') h g = absurd (h.2 g.2)
one_sizes peers table common out (BadPage Common n) (TooLarge n') h g = absurd (h.2 g.2)
one_sizes peers table common out (BadPage Out n) (BadPeers n') h g = absurd (g.0 h.0)
one_sizes peers table common out (BadPage Out n) (BadPage Table n') h g = absurd (g.1 h.1)
one_sizes peers table common out (BadPage Out n) (BadPage Common n') h g = absurd (g.2 h.2)
one_sizes peers table common out (BadPage Out n) (BadPage Out n') h g = ap (BadPage Out) (h.4 ∙ sym g.4)
one_sizes peers table common out (BadPage Out n) (TableTooSmall n' m') h g = absurd (h.3 g.3)
one_sizes peers table common out (BadPage Out n) (TooLarge n') h g = absurd (h.3 g.3)
one_sizes peers table common out (TableTooSmall n m) (BadPeers n') h g = absurd (g.0 h.0)
one_sizes peers table common out (TableTooSmall n m) (BadPage Table n') h g = absurd (g.1 h.1)
one_sizes peers table common out (TableTooSmall n m) (BadPage Common n') h g = absurd (g.2 h.2)
one_sizes peers table common out (TableTooSmall n m) (BadPage Out n') h g = absurd (g.3 h.3)
one_sizes peers table common out (TableTooSmall n m) (TableTooSmall n' m') h g = ap (λ k. TableTooSmall k m) (h.5 ∙ sym g.5) ∙ ap (TableTooSmall n') (h.6 ∙ sym g.6)
one_sizes peers table common out (TableTooSmall n m) (TooLarge n') h g = absurd (let few = h.4 in let many = g.4 in omega arith)
one_sizes peers table common out (TooLarge n) (BadPeers n') h g = absurd (g.0 h.0)
one_sizes peers table common out (TooLarge n) (BadPage Table n') h g = absurd (g.1 h.1)
one_sizes peers table common out (TooLarge n) (BadPage Common n') h g = absurd (g.2 h.2)
one_sizes peers table common out (TooLarge n) (BadPage Out n') h g = absurd (g.3 h.3)
one_sizes peers table common out (TooLarge n) (TableTooSmall n' m') h g = absurd (let few = g.4 in let many = h.4 in omega arith)
one_sizes peers table common out (TooLarge n) (TooLarge n') h g = ap TooLarge (h.6 ∙ sym g.6)

pub faults_are_one : FaultsAreOne
faults_are_one image BadHeader BadHeader m n h g = refl
faults_are_one image BadHeader (Geometry b) m n h g = absurd (h g.0)
faults_are_one image BadHeader (ShortImage need found) m n h g = absurd (h g.0)
faults_are_one image BadHeader (LongImage need found) m n h g = absurd (h g.0)
faults_are_one image (Geometry a) BadHeader m n h g = absurd (g h.0)
faults_are_one image (Geometry a) (Geometry b) m n h g = ap Geometry (one_sizes (peers_in image) (table_in image) (common_in image) (out_in image) a b h.1 g.1)
faults_are_one image (Geometry a) (ShortImage need found) m n h g = absurd (no_region (peers_in image) (table_in image) (common_in image) (out_in image) a h.1 g.1)
faults_are_one image (Geometry a) (LongImage need found) m n h g = absurd (no_region (peers_in image) (table_in image) (common_in image) (out_in image) a h.1 g.1)
faults_are_one image (ShortImage need found) BadHeader m n h g = absurd (g h.0)
faults_are_one image (ShortImage need found) (Geometry b) m n h g = absurd (no_region (peers_in image) (table_in image) (common_in image) (out_in image) b g.1 h.1)
faults_are_one image (ShortImage need found) (ShortImage more there) m n h g = ap (λ k. ShortImage k found) (h.3 ∙ sym g.3) ∙ ap (ShortImage more) (h.4 ∙ sym g.4)
faults_are_one image (ShortImage need found) (LongImage more there) m n h g = let a = h.2 in let b = h.3 in let c = h.4 in let d = g.2 in let e = g.3 in let f = g.4 in absurd (omega arith)
faults_are_one image (LongImage need found) BadHeader m n h g = absurd (g h.0)
faults_are_one image (LongImage need found) (Geometry b) m n h g = absurd (no_region (peers_in image) (table_in image) (common_in image) (out_in image) b g.1 h.1)
faults_are_one image (LongImage need found) (ShortImage more there) m n h g = let a = h.2 in let b = h.3 in let c = h.4 in let d = g.2 in let e = g.3 in let f = g.4 in absurd (omega arith)
faults_are_one image (LongImage need found) (LongImage more there) m n h g = ap (λ k. LongImage k found) (h.3 ∙ sym g.3) ∙ ap (LongImage more) (h.4 ∙ sym g.4)
faults_are_one image NoMemory b m n h g = absurd (m refl)
faults_are_one image BadHeader NoMemory m n h g = absurd (n refl)
faults_are_one image (Geometry a) NoMemory m n h g = absurd (n refl)
faults_are_one image (ShortImage need found) NoMemory m n h g = absurd (n refl)
faults_are_one image (LongImage need found) NoMemory m n h g = absurd (n refl)
