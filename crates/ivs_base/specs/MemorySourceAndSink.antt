-- Sources and sinks in memory, which fail at listed calls (profile).
use Rattle.std.specs.Prelude.{ℕ, ◌-◌, ◌==◌, Bool, true, false, if◌then◌else◌, List, [], ◌++◌, Some, length, drop, min}
use Rattle.ivs_base.specs.SourceAndSink.{Input, Output, counted}

-- A source: the bytes left, the greatest number of bytes of a call, and the numbers of the calls
-- that fail. The last fields are the counts of calls and of faults, and whether the last call
-- failed.
pub record MemoryInput : Type 0 where
  pub left : List ℕ
  pub piece : ℕ
  pub fails : List ℕ
  pub calls : ℕ
  pub faults : ℕ
  pub failed : Bool

-- A sink: the bytes written, the number of bytes reserved, and the greatest number of bytes of a
-- call. The other fields are the numbers of the calls that fail, the counts of calls and of faults,
-- and whether the last call failed.
pub record MemoryOutput : Type 0 where
  pub written : List ℕ
  pub room : ℕ
  pub piece : ℕ
  pub fails : List ℕ
  pub calls : ℕ
  pub faults : ℕ
  pub failed : Bool

-- The source before its first call.
abbrev pub source_at_start : (bytes : List ℕ) (piece : ℕ) (fails : List ℕ) → MemoryInput
source_at_start bytes piece fails = record { left = bytes; piece = piece; fails = fails; calls = 0; faults = 0; failed = false }

-- The empty sink before its first call.
abbrev pub sink_at_start : (room piece : ℕ) (fails : List ℕ) → MemoryOutput
sink_at_start room piece fails = record { written = []; room = room; piece = piece; fails = fails; calls = 0; faults = 0; failed = false }

-- The view of a source in memory: its bytes are known, it has ended if none is left, and it never
-- fails if no call is listed.
abbrev pub input_of : MemoryInput → Input
input_of source = record {
  left = Some source.left;
  ended = length source.left == 0;
  failed = source.failed;
  faults = source.faults;
  never_fails = length source.fails == 0;
}

-- The number of bytes that a call reads into `room` bytes.
abbrev pub read_count : MemoryInput → ℕ → ℕ
read_count source room = min (min (length source.left) source.piece) room

-- The source after a call that gave `count` bytes.
abbrev pub source_after : MemoryInput → ℕ → MemoryInput
source_after source count = record source { left = drop count source.left; calls = counted source.calls; failed = false }

-- The source after a call that failed.
abbrev pub source_failed : MemoryInput → MemoryInput
source_failed source = record source { calls = counted source.calls; faults = counted source.faults; failed = true }

-- The number of further bytes that a sink in memory is sure to write: its free bytes if no call is
-- listed, else 0.
abbrev pub room_of : MemoryOutput → ℕ
room_of sink = if length sink.fails == 0 then sink.room - length sink.written else 0

-- The view of a sink in memory: its bytes are known.
abbrev pub output_of : MemoryOutput → Output
output_of sink = record { written = Some sink.written; failed = sink.failed; faults = sink.faults; room = room_of sink }

-- The number of these bytes that a call writes.
abbrev pub written_count : MemoryOutput → List ℕ → ℕ
written_count sink bytes = min (length bytes) sink.piece

-- The sink after a call that wrote these bytes.
abbrev pub sink_after : MemoryOutput → List ℕ → MemoryOutput
sink_after sink bytes = record sink { written = sink.written ++ bytes; calls = counted sink.calls; failed = false }

-- The sink after a call that failed.
abbrev pub sink_failed : MemoryOutput → MemoryOutput
sink_failed sink = record sink { calls = counted sink.calls; faults = counted sink.faults; failed = true }
