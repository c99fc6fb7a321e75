-- The side events of the lines of a history, and the side of each link peer after them. Lines are
-- listed newest first. Each property of a line has one function over all lines; every definition
-- uses only its result.
use Rattle.std.specs.Prelude.{ℕ, ◌+◌, ◌==◌, true, false, if◌then◌else◌, Some, None, List, [], ◌∷◌, ◌++◌, length}
use Rattle.call_grammar.specs.Steps.{Mark, Saw, Reclaim, Full, Accept, Look, Deliver, Return, Done, Down, Refuse, Over}
use Rattle.link_machine.specs.LinkMachine.{Side, initial_side, SideEvent, Gave, Wrote, Marked, WasReset, side_with}
use Rattle.lawful_history.specs.declared.line.Line.{Line}
use Rattle.lawful_history.specs.declared.line.Line.TheVariants as line

-- The side event of a line and its peer: the value of a read, a write of State, a mark, a reset, or
-- none.
pub data LineSideEvent : Type 0 where
  HasEvent : (peer : ℕ) (side_event : SideEvent) → LineSideEvent
  HasNoEvent : LineSideEvent

abbrev pub line_side_event_of : Line → LineSideEvent
line_side_event_of (line.Read peer word value) = HasEvent peer (Gave value)
line_side_event_of (line.State peer value) = HasEvent peer (Wrote value)
line_side_event_of (line.Reset peer) = HasEvent peer WasReset
line_side_event_of (line.Saw peer value) = HasEvent peer (Marked (Saw value))
line_side_event_of (line.Reclaim peer count) = HasEvent peer (Marked (Reclaim count))
line_side_event_of (line.Full peer) = HasEvent peer (Marked Full)
line_side_event_of (line.Accept peer frame) = HasEvent peer (Marked (Accept frame))
line_side_event_of (line.Look peer count) = HasEvent peer (Marked (Look count))
line_side_event_of (line.Deliver peer frame) = HasEvent peer (Marked (Deliver frame))
line_side_event_of (line.Return peer) = HasEvent peer (Marked Return)
line_side_event_of (line.Done peer) = HasEvent peer (Marked Done)
line_side_event_of (line.Down peer) = HasEvent peer (Marked Down)
line_side_event_of (line.Refuse peer refused) = HasEvent peer (Marked (Refuse refused))
line_side_event_of (line.Over peer) = HasEvent peer (Marked Over)
line_side_event_of _ = HasNoEvent

-- The side after a mark, as the row of the mark determines it.
abbrev pub side_marked : Mark → Side → Side
side_marked (Saw value) side = record side { seen = Some value; read = [] }
side_marked (Reclaim count) side = record side { freed = side.freed + count; reclaimed = count; read = [] }
side_marked (Accept frame) side = record side { accepted = side.accepted ++ frame ∷ []; read = [] }
side_marked (Look count) side = record side { looked = length side.delivered + count; read = [] }
side_marked (Deliver frame) side = record side { delivered = side.delivered ++ frame ∷ []; read = [] }
side_marked Return side = record side { returned = side.returned + 1; read = [] }
side_marked (Refuse refused) side = record side { refused = true; read = [] }
side_marked mark side = record side { read = [] }

-- The side after a side event.
abbrev pub side_after : SideEvent → Side → Side
side_after (Gave value) side = record side { read = side.read ++ value ∷ [] }
side_after (Wrote state) side = side_with side state
side_after (Marked mark) side = side_marked mark side
side_after WasReset side = record side { state = 0; seen = None; refused = false; read = [] }

abbrev pub side_after_line : LineSideEvent → ℕ → Side → Side
side_after_line (HasEvent peer side_event) p side = if peer == p then side_after side_event side else side
side_after_line HasNoEvent p side = side

-- The side of peer p after these lines.
abbrev pub side_of : List Line → ℕ → Side
side_of [] p = initial_side
side_of (line ∷ older) p = side_after_line (line_side_event_of line) p (side_of older p)
