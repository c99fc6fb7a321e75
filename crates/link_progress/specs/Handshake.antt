-- The handshake of two ends without their queues, as a finite machine. Its state is the phase of
-- each end and what each end does for the handshake.
use Rattle.std.specs.Prelude.{ℕ, zero, suc, ◌≡◌, ◌*◌, ◌≤◌, Bool, true, false, ◌&&◌, not, if◌then◌else◌}
use Rattle.link_handshake.specs.declared.Phase.{Phase}
use Rattle.link_handshake.specs.declared.Phase.TheVariants.{Reset, Init, Ready, Run}
use Rattle.link_handshake.specs.declared.Move.{Move}
use Rattle.link_handshake.specs.declared.Move.TheVariants.{Stay, Set, ClearThenSet}
use Rattle.link_handshake.specs.PhaseTable.{phase_move, phase_of_state, state_of}
use Rattle.link_progress.specs.Rounds.{Count, no_rounds, with_tick}

-- What an end does for the handshake: nothing, or it is about to read the other's State, or it is
-- about to write its own State. An end that clears its section is about to write READY.
pub data Doing : Type 0 where
  Rests : Doing
  Reads : Doing
  Writes : (to : Phase) → Doing

-- A table of moves, by the own phase and the other's State.
abbrev pub Table : Type 0
Table = Phase → ℕ → Move

abbrev pub doing_of : Move → Doing
doing_of Stay = Rests
doing_of (Set state) = Writes (phase_of_state state)
doing_of (ClearThenSet state) = Writes (phase_of_state state)

-- The phase of an end after its next step, what the end does then, and whether the step ends a
-- Tick. The next step of an end at rest begins a Tick.
abbrev pub next_phase : Phase → Doing → Phase
next_phase phase (Writes to) = to
next_phase phase doing = phase

abbrev pub next_doing : Table → Phase → Doing → (other : Phase) → Doing
next_doing table phase Rests other = Reads
next_doing table phase Reads other = doing_of (table phase (state_of other))
next_doing table phase (Writes to) other = Rests

abbrev pub rests : Doing → Bool
rests Rests = true
rests doing = false

abbrev pub ends_now : Table → Phase → Doing → (other : Phase) → Bool
ends_now table phase Rests other = false
ends_now table phase Reads other = rests (doing_of (table phase (state_of other)))
ends_now table phase (Writes to) other = true

-- The states that two ends reach by their own steps, in any order, from a first state, and the
-- rounds that are over.
pub data Handshakes (first second : Table) (p : Phase) (d : Doing) (q : Phase) (e : Doing) : Phase → Doing → Phase → Doing → Count → Type 0 where
  starts : Handshakes first second p d q e p d q e no_rounds
  first_goes : (x : Phase) (a : Doing) (y : Phase) (b : Doing) (count : Count) → Handshakes first second p d q e x a y b count →
      Handshakes first second p d q e (next_phase x a) (next_doing first x a y) y b (if ends_now first x a y then with_tick 0 count else count)
  second_goes : (x : Phase) (a : Doing) (y : Phase) (b : Doing) (count : Count) → Handshakes first second p d q e x a y b count →
      Handshakes first second p d q e x a (next_phase y b) (next_doing second y b x) (if ends_now second y b x then with_tick 1 count else count)

-- The present table

-- By the present table there is a run from the state right after a reset of end 0, while end 1
-- clears its section, back to that state, in which 3n rounds are over, for every n. So no number of
-- rounds is enough for both ends to be in RUN.
abbrev pub PresentCanLivelock : Type 0
PresentCanLivelock = (n : ℕ) → Handshakes phase_move phase_move Reset Rests Init (Writes Ready) Reset Rests Init (Writes Ready) record { rounds = 3 * n; first = false; second = false }

-- The two repaired tables, which differ from the present one in a row each

-- End 0 in READY that reads RESET sets INIT in place of RESET.
abbrev pub first_table : Table
first_table Ready zero = Set 1
first_table phase seen = phase_move phase seen

-- End 1 in READY that reads READY stays, so it sets RUN only after it has read RUN.
abbrev pub second_table : Table
second_table Ready (suc (suc zero)) = Stay
second_table phase seen = phase_move phase seen

-- The writes that an end may be about to make.
abbrev pub may_set_first : Phase → Doing → Bool
may_set_first Reset (Writes Init) = true
may_set_first Ready (Writes Init) = true
may_set_first phase (Writes Init) = false
may_set_first Init (Writes Ready) = true
may_set_first phase (Writes Ready) = false
may_set_first Ready (Writes Run) = true
may_set_first phase (Writes Run) = false
may_set_first phase doing = true

abbrev pub may_set_second : Phase → Doing → Bool
may_set_second Reset (Writes Init) = true
may_set_second phase (Writes Init) = false
may_set_second Init (Writes Ready) = true
may_set_second phase (Writes Ready) = false
may_set_second Ready (Writes Run) = true
may_set_second phase (Writes Run) = false
may_set_second phase doing = true

-- The end is attached to the other's session. The next definition says that the end opens one.
abbrev pub is_attached : Phase → Doing → Bool
is_attached Run doing = true
is_attached Ready (Writes Run) = true
is_attached phase doing = false

abbrev pub is_opening : Phase → Doing → Bool
is_opening Init doing = true
is_opening phase (Writes Init) = true
is_opening phase doing = false

-- While one end is attached, the other opens no session: no end clears a section that the other
-- reads.
abbrev pub is_safe : Phase → Doing → Phase → Doing → Bool
is_safe p d q e = may_set_first p d && (may_set_second q e && (not (is_attached p d && is_opening q e) && not (is_attached q e && is_opening p d)))

-- Each step by the two tables keeps this, and so do a reset and a Stop.
pub record RepairedIsSafe : Type 0 where
  pub begins : is_safe Reset Rests Reset Rests ≡ true
  pub first_goes : (p : Phase) (d : Doing) (q : Phase) (e : Doing) → is_safe p d q e ≡ true → is_safe (next_phase p d) (next_doing first_table p d q) q e ≡ true
  pub second_goes : (p : Phase) (d : Doing) (q : Phase) (e : Doing) → is_safe p d q e ≡ true → is_safe p d (next_phase q e) (next_doing second_table q e p) ≡ true
  pub first_reset : (p : Phase) (d : Doing) (q : Phase) (e : Doing) → is_safe p d q e ≡ true → is_safe Reset Rests q e ≡ true
  pub second_reset : (p : Phase) (d : Doing) (q : Phase) (e : Doing) → is_safe p d q e ≡ true → is_safe p d Reset Rests ≡ true
  pub first_stop : (p : Phase) (q : Phase) (e : Doing) → is_safe p Rests q e ≡ true → is_safe p (Writes Reset) q e ≡ true
  pub second_stop : (p : Phase) (d : Doing) (q : Phase) → is_safe p d q Rests ≡ true → is_safe p d q (Writes Reset) ≡ true

-- From every such state, with any Tick or Stop open, both ends are in RUN after nine rounds, for
-- each order of their steps.
abbrev pub RepairedComesUp : Type 0
RepairedComesUp = (p : Phase) (d : Doing) (q : Phase) (e : Doing) (x : Phase) (a : Doing) (y : Phase) (b : Doing) (count : Count) → is_safe p d q e ≡ true →
    Handshakes first_table second_table p d q e x a y b count → 9 ≤ count.rounds → (x ≡ Run) × (y ≡ Run)
