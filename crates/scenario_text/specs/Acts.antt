-- The conditions on acts, one by one and together.
use Rattle.std.specs.Prelude.{ℕ, ◌==◌, Bool, false, List, sum_by}
use Rattle.std.specs.List.{list_any}
use Rattle.scenario_text.specs.declared.acts.Act.{Act}
use Rattle.scenario_text.specs.declared.acts.Act.TheVariants.{Tick, Offer, Poll, Stop, Auto, Storm, Turn, Reset, Poke, Peek, Set, Ring, CfgRead, CfgWrite, MmioRead, MmioWrite, MsixRead, MsixWrite, Lose, Again}

-- `turn P K` counts for K acts, and any other for 1.
abbrev pub cost : Act → ℕ
cost (Turn p k) = k
cost _ = 1

-- The number that these acts count for.
abbrev pub turns_of : List Act → ℕ
turns_of acts = sum_by cost acts

-- The peer that the act's line names.
abbrev pub peer_of : Act → ℕ
peer_of (Tick p) = p
peer_of (Offer p frame) = p
peer_of (Poll p) = p
peer_of (Stop p) = p
peer_of (Auto p expect) = p
peer_of (Storm p seed) = p
peer_of (Turn p k) = p
peer_of (Reset p) = p
peer_of (Poke p word value) = p
peer_of (Peek p word) = p
peer_of (Set p value) = p
peer_of (Ring p target vector) = p
peer_of (CfgRead p offset width) = p
peer_of (CfgWrite p offset width value) = p
peer_of (MmioRead p offset) = p
peer_of (MmioWrite p offset value) = p
peer_of (MsixRead p offset) = p
peer_of (MsixWrite p offset value) = p
peer_of (Lose p) = p
peer_of (Again p vector) = p

-- Peer p chooses its calls from this act on.
abbrev pub is_auto : ℕ → Act → Bool
is_auto p (Auto q expect) = q == p
is_auto p _ = false

-- The turns of peer p are generated writes from this act on.
abbrev pub is_storm : ℕ → Act → Bool
is_storm p (Storm q seed) = q == p
is_storm p _ = false

-- A call line of peer p.
abbrev pub is_call : ℕ → Act → Bool
is_call p (Tick q) = q == p
is_call p (Offer q frame) = q == p
is_call p (Poll q) = q == p
is_call p (Stop q) = q == p
is_call p _ = false

unfoldable pub has_auto : List Act → ℕ → Bool
has_auto acts p = list_any (is_auto p) acts

unfoldable pub has_storm : List Act → ℕ → Bool
has_storm acts p = list_any (is_storm p) acts

unfoldable pub has_call : List Act → ℕ → Bool
has_call acts p = list_any (is_call p) acts
