-- The bytes that are no image, and their faults (profile).
use Rattle.std.specs.Prelude.{◌≡◌, ℕ, ◌<◌, List, length}
use Rattle.section_map.specs.Faults.{IsFirstFault}
use Rattle.section_dump.specs.Image.{HasHeader, HasSizes, length_due, peers_in, table_in, common_in, out_in}
use Rattle.section_dump.specs.declared.DumpFault.{DumpFault}
use Rattle.section_dump.specs.declared.DumpFault.TheVariants.{BadHeader, Geometry, ShortImage, LongImage, NoMemory}

-- The first fault: the header, then the sizes, then the length; an allocation may fail at any time.
abbrev pub IsDumpFault : List ℕ → DumpFault → Type 0
IsDumpFault image BadHeader = ¬ HasHeader image
IsDumpFault image (Geometry fault) =
    HasHeader image × IsFirstFault (peers_in image) (table_in image) (common_in image) (out_in image) fault
IsDumpFault image (ShortImage need found) =
    HasHeader image × HasSizes image × (found < need) × (need ≡ length_due image) × (found ≡ length image)
IsDumpFault image (LongImage need found) =
    HasHeader image × HasSizes image × (need < found) × (need ≡ length_due image) × (found ≡ length image)
IsDumpFault image NoMemory = Unit {0}
