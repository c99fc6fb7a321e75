use Rattle.std.proofs.Common.{string_bytes}
use Rattle.section_dump.specs.Image.{words_from}
use Rattle.section_dump.specs.Lines.{Puts}
use Rattle.section_dump.specs.Listing.{AreItemsOf}
use Rattle.section_dump.proofs.listing.put_items.Given as goal

abbrev pub invariant-loop-step : goal.invariant-loop-step
invariant-loop-step l = Puts (AreItemsOf l.ring.queue (words_from l.ring.image.now l.ring.first) l.first l.step) (string_bytes l.initial.text) (string_bytes l.text)
