-- Between two honest link peers each delivers what the other accepted, in order and once, in every
-- session of a lawful history.
use Rattle.std.specs.Prelude.{ℕ, ◌≡◌, ◌-◌, ◌<◌, ◌==◌, true, if◌then◌else◌, List, [], ◌∷◌, ◌++◌, reverse}
use Rattle.scenario_text.specs.Scenario.{World, IsWorld, is_link}
use Rattle.link_machine.specs.LinkMachine.{Side, Log, no_sessions, log_after, DeliversInOrder}
use Rattle.lawful_history.specs.declared.line.Line.{Line}
use Rattle.lawful_history.specs.Lawful.{IsLawful}
use Rattle.history_laws.specs.SideEvents.{LineSideEvent, HasEvent, HasNoEvent, line_side_event_of, side_of}

-- The sessions of peer p after a line with this side event, from its sessions, the other's sessions
-- and its side before the line.
abbrev pub log_after_line : LineSideEvent → ℕ → Side → Log → Log → Log
log_after_line (HasEvent peer side_event) p side log others = if peer == p then log_after log others side side_event else log
log_after_line HasNoEvent p side log others = log

-- The sessions of peer p after these lines, which are listed newest first.
abbrev pub log_of : List Line → ℕ → Log
log_of [] p = no_sessions
log_of (line ∷ older) p = log_after_line (line_side_event_of line) p (side_of older p) (log_of older p) (log_of older (1 - p))

-- After each beginning of a lawful history each peer delivers in order, through stops and resets.
abbrev pub HistoriesDeliver : Type 0
HistoriesDeliver = (world : World) (before after : List Line) (p : ℕ) → IsWorld world → IsLawful world (before ++ after) → is_link world 0 ≡ true →
    is_link world 1 ≡ true → p < 2 →
    DeliversInOrder (side_of (reverse before) p) (side_of (reverse before) (1 - p)) (log_of (reverse before) p) (log_of (reverse before) (1 - p))
