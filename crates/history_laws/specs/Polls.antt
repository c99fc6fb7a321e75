-- A poll that is done has delivered all frames that it found.
use Rattle.std.specs.Prelude.{ℕ, ◌≡◌, ◌≢◌, ◌+◌, ◌==◌, if◌then◌else◌, List, [], ◌∷◌, ◌++◌, All}
use Rattle.scenario_text.specs.Scenario.{World, IsWorld}
use Rattle.call_grammar.specs.Steps as mark
use Rattle.link_machine.specs.LinkMachine.{Wrote, Marked}
use Rattle.lawful_history.specs.declared.line.Line.{Line}
use Rattle.lawful_history.specs.declared.line.Line.TheVariants.{Look, Done}
use Rattle.lawful_history.specs.Lawful.{IsLawful}
use Rattle.history_laws.specs.SideEvents.{LineSideEvent, HasEvent, HasNoEvent, line_side_event_of}

-- 1 if the line is a delivery of peer p, else 0.
abbrev pub delivers : LineSideEvent → ℕ → ℕ
delivers (HasEvent peer (Marked (mark.Deliver frame))) p = if peer == p then 1 else 0
delivers (HasEvent peer _) p = 0
delivers HasNoEvent p = 0

-- The number of frames that peer p delivers in these lines.
abbrev pub deliver_count : ℕ → List Line → ℕ
deliver_count p [] = 0
deliver_count p (line ∷ lines) = delivers (line_side_event_of line) p + deliver_count p lines

-- The line is neither another read of the available index of peer p nor a write of its State.
abbrev pub IsWithin : ℕ → LineSideEvent → Type 0
IsWithin p (HasEvent peer (Wrote state)) = peer ≢ p
IsWithin p (HasEvent peer (Marked (mark.Look count))) = peer ≢ p
IsWithin p (HasEvent peer _) = Unit {0}
IsWithin p HasNoEvent = Unit {0}

-- Between a read of the available index and the end of its poll, the number of frames delivered is
-- the number found.
abbrev pub DonePollsDeliverAll : Type 0
DonePollsDeliverAll = (world : World) (before between after : List Line) (p count : ℕ) → IsWorld world →
    IsLawful world (before ++ Look p count ∷ between ++ Done p ∷ after) → All (λ line. IsWithin p (line_side_event_of line)) between → deliver_count p between ≡ count
