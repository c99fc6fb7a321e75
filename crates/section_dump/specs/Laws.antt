-- Laws of every image.
use Rattle.std.specs.Prelude.{◌≡◌, ◌≢◌, ℕ, ◌<◌, ◌≤◌, List, length, take}
use Rattle.section_dump.specs.declared.images.TheConstants.{HEADER_LEN}
use Rattle.section_dump.specs.Image.{IsImage}
use Rattle.section_dump.specs.Listing.{IsListing}
use Rattle.section_dump.specs.Faults.{IsDumpFault}
use Rattle.section_dump.specs.declared.DumpFault.{DumpFault}
use Rattle.section_dump.specs.declared.DumpFault.TheVariants.{BadHeader, ShortImage, NoMemory}

-- Bytes with a fault are no image.
abbrev pub FaultsAreOfNoImage : Type 0
FaultsAreOfNoImage = (image : List ℕ) (fault : DumpFault) → fault ≢ NoMemory → IsDumpFault image fault → ¬ IsImage image

-- Bytes have at most one fault.
abbrev pub FaultsAreOne : Type 0
FaultsAreOne = (image : List ℕ) (a b : DumpFault) → a ≢ NoMemory → b ≢ NoMemory → IsDumpFault image a → IsDumpFault image b → a ≡ b

-- An image has one listing.
abbrev pub ListingsAreOne : Type 0
ListingsAreOne = (image a b : List ℕ) → IsListing image a → IsListing image b → a ≡ b

-- Fewer than 32 bytes have no header.
abbrev pub CutHeadersAreBad : Type 0
CutHeadersAreBad = (image : List ℕ) (j : ℕ) → j < HEADER_LEN → IsDumpFault (take j image) BadHeader

-- The first j bytes of an image, from 32 on, are too few: the fault has the image's length and j.
abbrev pub CutImagesAreShort : Type 0
CutImagesAreShort = (image : List ℕ) (j : ℕ) → IsImage image → HEADER_LEN ≤ j → j < length image → IsDumpFault (take j image) (ShortImage (length image) j)
