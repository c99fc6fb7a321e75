-- The kind of an access's word, which determines its memory order. An index publishes the writes
-- before it, and an event index is compared with an index.
use Rattle.split_ring.specs.declared.steps.WordKind.{WordKind}
use Rattle.split_ring.specs.declared.steps.WordKind.TheVariants.{Plain, IndexRead, IndexWrite, EventRead, EventWrite}
use Rattle.call_grammar.specs.Places.{Place, ReadingUsedIndex, WritingAvailIndex, ReadingAvailEvent, ReadingAvailIndex, WritingAvailEvent, WritingUsedIndex}

abbrev pub word_kind : Place → WordKind
word_kind (ReadingUsedIndex pending freed) = IndexRead
word_kind (WritingAvailIndex pending) = IndexWrite
word_kind (ReadingAvailEvent number) = EventRead
word_kind (ReadingAvailIndex taken last) = IndexRead
word_kind (WritingAvailEvent taken) = EventWrite
word_kind (WritingUsedIndex number more) = IndexWrite
word_kind _ = Plain
