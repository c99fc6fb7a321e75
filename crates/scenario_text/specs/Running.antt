-- The running form: scenarios whose peers can each run in a thread of their own. Automatic peers
-- with their offers, storms, and the settings of devices come first. Then come the turns, and
-- between each two turns of a peer one reset of the peer.
use Rattle.std.specs.Prelude.{◌≡◌, ℕ, ◌+◌, ◌==◌, ◌&&◌, ◌||◌, not, nat_lt, if◌then◌else◌, Bool, true, false, List, [], ◌∷◌, ◌++◌, drop, Option, Some, None, slice_index_or}
use Rattle.std.specs.List.{list_any}
use Rattle.scenario_text.specs.declared.acts.Act.{Act}
use Rattle.scenario_text.specs.declared.acts.Act.TheVariants.{Offer, Auto, Storm, Turn, Reset, CfgWrite, MmioWrite, MsixWrite}
use Rattle.scenario_text.specs.declared.ends.Ends.{Ends}
use Rattle.scenario_text.specs.declared.running.Before.{Before}
use Rattle.scenario_text.specs.Acts.{peer_of, has_auto, has_storm}
use Rattle.scenario_text.specs.Scenario.{World}

-- ---- turns and resets

-- The act is a turn of peer p.
abbrev pub is_turn_of : ℕ → Act → Bool
is_turn_of p (Turn q steps) = q == p
is_turn_of p _ = false

-- The act is a reset of peer p.
abbrev pub is_reset_of : ℕ → Act → Bool
is_reset_of p (Reset q) = q == p
is_reset_of p _ = false

-- The act is neither a turn nor a reset.
abbrev pub is_other : Act → Bool
is_other (Turn p steps) = false
is_other (Reset p) = false
is_other _ = true

unfoldable pub has_turn : List Act → ℕ → Bool
has_turn acts p = list_any (is_turn_of p) acts

unfoldable pub has_reset : List Act → ℕ → Bool
has_reset acts p = list_any (is_reset_of p) acts

unfoldable pub has_other : List Act → Bool
has_other acts = list_any is_other acts

-- No turn of peer p comes after one of its resets: the last of its turns and resets is a reset.
unfoldable pub is_reset_last : List Act → ℕ → Bool
is_reset_last [] p = false
is_reset_last (act ∷ later) p = (is_reset_of p act && not (has_turn later p)) || is_reset_last later p

-- The last of the turns and resets of peer p is a turn.
abbrev pub is_turn_last : List Act → ℕ → Bool
is_turn_last acts p = has_turn acts p && not (is_reset_last acts p)

-- ---- devices

-- The act configures how interrupts reach a peer: it writes the configuration space, the MSI-X
-- region, or Interrupt Control at offset 8.
abbrev pub sets_device : Act → Bool
sets_device (CfgWrite p offset width value) = true
sets_device (MsixWrite p offset value) = true
sets_device (MmioWrite p offset value) = offset == 8
sets_device _ = false

-- One of the acts sets the device of peer p.
unfoldable pub has_setting : List Act → ℕ → Bool
has_setting acts p = list_any (λ act. sets_device act && peer_of act == p) acts

-- ---- the form

-- Whether the act, between the acts `before` and `later`, breaks the form.
-- - An offer breaks it if its peer isn't automatic yet.
-- - A turn breaks it before an act that is neither turn nor reset. It breaks it if its peer's last
--   turn had no reset since, or if its peer is neither automatic nor a storm.
-- - A reset breaks it before an act that is neither turn nor reset. It breaks it if no turn of its
--   peer comes before it, or if it is the second one between two turns. It breaks it if it is the
--   last of its peer's turns and resets, or if its peer's device is set before it.
-- - Any other act breaks it unless it is an `auto` or a `storm`, or sets a device.
abbrev pub breaks : List Act → Act → List Act → Bool
breaks before (Auto p expect) later = false
breaks before (Storm p seed) later = false
breaks before (Offer p frame) later = not (has_auto before p)
breaks before (Turn p steps) later = has_other later || is_turn_last before p || not (has_auto before p || has_storm before p)
breaks before (Reset p) later =
    has_other later
    || not (has_turn before p)
    || (is_reset_last before p && has_turn later p)
    || not (has_turn later p || has_reset later p)
    || has_setting before p
breaks before act later = not (sets_device act)

-- The line of the first act that breaks the form. `before` are the acts before the list, and `line`
-- is the line of its first act.
abbrev pub first_break : List Act → List Act → ℕ → Option ℕ
first_break before [] line = None
first_break before (act ∷ later) line = if breaks before act later then Some line else first_break (before ++ act ∷ []) later (line + 1)

-- The line of the first act: before it come seven lines of sizes, one for each peer, and `begin`.
abbrev pub first_line : World → ℕ
first_line w = w.geometry.peers + 9

-- The first line that the running form doesn't allow, if there is one.
abbrev pub not_running : World → Option ℕ
not_running w = first_break [] w.acts (first_line w)

-- ---- the search for it

-- The flags are those of these acts.
pub record FlagsAre (before : Before) (acts : List Act) : Type 0 where
  pub autos : (p : ℕ) → slice_index_or before.autos p false ≡ has_auto acts p
  pub storms : (p : ℕ) → slice_index_or before.storms p false ≡ has_storm acts p
  pub turns : (p : ℕ) → slice_index_or before.turned p false ≡ has_turn acts p
  pub resets : (p : ℕ) → slice_index_or before.reset p false ≡ is_reset_last acts p
  pub settings : (p : ℕ) → slice_index_or before.set p false ≡ has_setting acts p

-- An act of a kind comes after the first k of these acts exactly if k is below the end of that
-- kind.
pub record AreEnds (ends : Ends) (acts : List Act) : Type 0 where
  pub others : (k : ℕ) → has_other (drop k acts) ≡ nat_lt k ends.others
  pub turns : (p k : ℕ) → has_turn (drop k acts) p ≡ nat_lt k (slice_index_or ends.turns p 0)
  pub resets : (p k : ℕ) → has_reset (drop k acts) p ≡ nat_lt k (slice_index_or ends.resets p 0)
