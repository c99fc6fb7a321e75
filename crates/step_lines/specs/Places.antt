-- Places whose frames can be spelled.
use Rattle.std.specs.Prelude.{◌≤◌, length}
use Rattle.split_ring.specs.declared.sizes.TheConstants.{SHORTEST_FRAME}
use Rattle.call_grammar.specs.Places.{Place, ReadingUsedIndex, ReadingUsedId, WritingFrameWord, WritingDescAddressLow, WritingDescAddressHigh, WritingDescLength, WritingDescFlags, WritingAvailEntry, WritingAvailIndex, ReadingDescFlags, ReadingFrameWord}

-- The frames of a call at a place have at least 14 bytes.
abbrev pub HasFrames : Place → Type 0
HasFrames (ReadingUsedIndex pending freed) = SHORTEST_FRAME ≤ length pending.frame
HasFrames (ReadingUsedId pending freed more) = SHORTEST_FRAME ≤ length pending.frame
HasFrames (WritingFrameWord pending at more) = SHORTEST_FRAME ≤ length pending.frame
HasFrames (WritingDescAddressLow pending) = SHORTEST_FRAME ≤ length pending.frame
HasFrames (WritingDescAddressHigh pending) = SHORTEST_FRAME ≤ length pending.frame
HasFrames (WritingDescLength pending) = SHORTEST_FRAME ≤ length pending.frame
HasFrames (WritingDescFlags pending) = SHORTEST_FRAME ≤ length pending.frame
HasFrames (WritingAvailEntry pending) = SHORTEST_FRAME ≤ length pending.frame
HasFrames (WritingAvailIndex pending) = SHORTEST_FRAME ≤ length pending.frame
HasFrames (ReadingDescFlags number more entry address bytes) = SHORTEST_FRAME ≤ bytes
HasFrames (ReadingFrameWord number more entry address bytes read words) = SHORTEST_FRAME ≤ bytes
HasFrames _ = Unit {0}
