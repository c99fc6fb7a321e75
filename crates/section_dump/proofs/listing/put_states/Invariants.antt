use Rattle.std.proofs.Common.{◌≡◌, ◌++◌, string_bytes}
use Rattle.section_dump.specs.Image.{region_words}
use Rattle.section_dump.specs.Lines.{text_of}
use Rattle.section_dump.specs.Listing.{state_lines}
use Rattle.section_dump.proofs.listing.put_states.Given as goal

abbrev pub invariant-loop-peer : goal.invariant-loop-peer
invariant-loop-peer l = string_bytes l.text ≡ string_bytes l.initial.text ++ text_of (state_lines (region_words l.image) l.peer)
