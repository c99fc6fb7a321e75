-- Each frame that an honest pair delivers has the arrow from its own acceptance.
use Rattle.std.specs.Prelude.{ℕ, ◌≡◌, ◌+◌, ◌-◌, ◌<◌, true, List, ◌∷◌, ◌++◌, reverse, slice_get, Some}
use Rattle.scenario_text.specs.Scenario.{World, IsWorld, is_link}
use Rattle.lawful_history.specs.declared.line.Line.{Line}
use Rattle.lawful_history.specs.declared.line.Line.TheVariants.{Accept, Deliver}
use Rattle.lawful_history.specs.Lawful.{IsLawful}
use Rattle.record_chart.specs.Arrows.{source_of}

-- The source of the arrow to a delivery of an honest pair in a lawful history is an earlier line.
-- At that line the other peer accepted the frame.
abbrev pub DeliveriesHaveTheirArrows : Type 0
DeliveriesHaveTheirArrows = (world : World) (before after : List Line) (p : ℕ) (frame : List ℕ) → IsWorld world →
    IsLawful world (before ++ Deliver p frame ∷ after) →
    is_link world 0 ≡ true → is_link world 1 ≡ true → p < 2 →
    (place : ℕ) × (source_of p (reverse before) ≡ Some (place + 1)) × (slice_get before place ≡ Some (Accept (1 - p) frame))
