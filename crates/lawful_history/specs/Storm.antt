-- A storm: the turns of a hostile peer that are generated writes (profile).
use Rattle.std.specs.Prelude.{ℕ, ◌+◌, ◌*◌, ◌/◌, ◌%◌, ◌==◌, if◌then◌else◌, []}
use Rattle.section_map.specs.Geometry.{section_start}
use Rattle.split_ring.specs.Layout.{data_area_start}
use Rattle.split_ring.specs.declared.steps.Access.{Access}
use Rattle.split_ring.specs.declared.steps.Access.TheVariants.{Write, State, Ring}
use Rattle.scenario_text.specs.Scenario.{World}
use Rattle.call_grammar.specs.Steps.{Step, step_of}

-- The generator's next number (a linear congruence modulo 2^64), and the 32 bits that are drawn
-- from a number.
abbrev pub next_number : ℕ → ℕ
next_number x = (x * 6364136223846793005 + 1442695040888963407) % 18446744073709551616

abbrev pub draw : ℕ → ℕ
draw x = x / 4294967296

-- The access of three draws. The first draw chooses one of these:
-- - a write of the third draw to a word of the own section, or of its descriptors and rings, which
--   the second draw chooses;
-- - a State below 8;
-- - a doorbell with a vector below 4 to the peer that the second draw chooses.
abbrev pub drawn_access : World → ℕ → (kind place value : ℕ) → Access
drawn_access world peer kind place value =
    if kind % 4 == 0 then Write (section_start world.geometry peer + place % world.geometry.out) value
    else if kind % 4 == 1 then Write (section_start world.geometry peer + place % (data_area_start world.queue / 4)) value
    else if kind % 4 == 2 then State (value % 8)
    else Ring (place % world.geometry.peers) (value % 4)

-- The step of a storm whose generator has the state x, and the state after it: three numbers later.
abbrev pub storm_step : World → ℕ → ℕ → Step
storm_step world peer x =
    let first = next_number x in
    let second = next_number first in
    let third = next_number second in
    step_of (drawn_access world peer (draw first) (draw second) (draw third)) 0 []

abbrev pub storm_after : ℕ → ℕ
storm_after x = next_number (next_number (next_number x))
