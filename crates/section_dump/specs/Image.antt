-- The image of a region: 32 bytes of header, then the region's bytes, each word with its lowest
-- byte first (profile).
use Rattle.std.specs.Prelude.{◌≡◌, ℕ, ◌+◌, ◌*◌, List, take, drop, length, codes, ◌≤◌}
use Rattle.byteorder.specs.Endian.{little_number}
use Rattle.section_map.specs.Geometry.{Shape, IsShape, section_start, word_count}
use Rattle.section_map.specs.Faults.{IsPages, IsSomePages, shape_of}
use Rattle.split_ring.specs.declared.sizes.TheConstants.{LEAST_MTU}
use Rattle.split_ring.specs.Layout.{Sizes}
use Rattle.section_dump.specs.declared.images.TheConstants.{HEADER_LEN}

-- The header's numbers: the peers, and in bytes the sizes of the State Table, of the common and of
-- an output section.
abbrev pub peers_in : List ℕ → ℕ
peers_in image = little_number 4 (drop 8 image)

abbrev pub table_in : List ℕ → ℕ
table_in image = little_number 4 (drop 12 image)

abbrev pub common_in : List ℕ → ℕ
common_in image = little_number 8 (drop 16 image)

abbrev pub out_in : List ℕ → ℕ
out_in image = little_number 8 (drop 24 image)

-- The same sizes in words.
abbrev pub shape_in : List ℕ → Shape
shape_in image = shape_of (peers_in image) (table_in image) (common_in image) (out_in image)

-- The header is complete and begins with `IVSHMIMG`.
abbrev pub HasHeader : List ℕ → Type 0
HasHeader image = (HEADER_LEN ≤ length image) × (take 8 image ≡ codes "IVSHMIMG")

-- The sizes are those of a region.
abbrev pub HasSizes : List ℕ → Type 0
HasSizes image = IsSomePages (table_in image) × IsPages (common_in image) × IsSomePages (out_in image) × IsShape (shape_in image)

-- The length of an image with these sizes, in bytes.
abbrev pub length_due : List ℕ → ℕ
length_due image = HEADER_LEN + 4 * word_count (shape_in image)

-- The header, the sizes and the length are right.
pub record IsImage (image : List ℕ) : Type 0 where
  pub header : HasHeader image
  pub sizes : HasSizes image
  pub whole : length image ≡ length_due image

-- The words of the image from word `first` on; word `i` counts from there.
abbrev pub words_from : List ℕ → (first i : ℕ) → ℕ
words_from image first i = little_number 4 (drop (4 * (first + i)) image)

-- The words of the region, after the eight of the header.
abbrev pub region_words : List ℕ → ℕ → ℕ
region_words image = words_from image 8

-- The words of a peer's output section.
abbrev pub section_words : List ℕ → (peer : ℕ) → ℕ → ℕ
section_words image peer = words_from image (8 + section_start (shape_in image) peer)

-- The sizes of the queue in a section. A listing doesn't depend on the MTU: the queue size, the
-- rings and the ranges are the same for each.
abbrev pub queue_in : List ℕ → Sizes
queue_in image = record { version = 1; out = out_in image; mtu = LEAST_MTU }
