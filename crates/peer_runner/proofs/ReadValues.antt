-- The values that an open call has read.
use Rattle.std.proofs.Common.{◌≡◌, ℕ, ◌≤◌, List, arith}
use Rattle.link_handshake.specs.declared.Phase.TheVariants.{Run}
use Rattle.call_grammar.specs.Ends.{End}
use Rattle.call_grammar.specs.Places.{Place, ReadingUsedId, ReadingAvailEntry, ReadingDescAddressLow, ReadingDescAddressHigh, ReadingDescLength, ReadingDescFlags, ReadingFrameWord, WritingUsedId, WritingUsedLength, WritingUsedIndex}
use Rattle.link_invariant.specs.Fields.{Field}
use Rattle.link_invariant.specs.LinkConfig.{LinkConfig}
use Rattle.link_invariant.specs.EndInvariant.{EndInvariant}
use Rattle.link_invariant.specs.Pair.{Polls}
use Rattle.link_invariant.proofs.EndObligations.{opened}
use Rattle.peer_runner.specs.RunningLaws.{IsInRange, IsAsSent}

pub in_range : (link_config : LinkConfig) (memory : ℕ → ℕ) (p : ℕ) (end : End) (place : Place) → EndInvariant link_config memory p end place → IsInRange link_config.sizes end place
in_range link_config memory p end (ReadingUsedId pending freed more) a = let sum = a.holds.2 in let most = a.freed in omega arith
in_range link_config memory p end (ReadingAvailEntry number more) a = let n = a.holds.1 in let few = a.holds.2 in (omega arith, omega arith)
in_range link_config memory p end (ReadingDescAddressLow number more entry) a = let n = a.holds.1 in let few = a.holds.3 in ((omega arith, omega arith), a.holds.2)
in_range link_config memory p end (ReadingDescAddressHigh number more entry low) a = let n = a.holds.1 in let few = a.holds.3 in ((omega arith, omega arith), a.holds.2)
in_range link_config memory p end (ReadingDescLength number more entry address) a = let n = a.holds.1 in let few = a.holds.4 in ((omega arith, omega arith), a.holds.2, a.holds.3)
in_range link_config memory p end (ReadingDescFlags number more entry address bytes) a = let n = a.holds.1 in let few = a.holds.5 in ((omega arith, omega arith), a.holds.2, a.holds.3, a.holds.4)
in_range link_config memory p end (ReadingFrameWord number more entry address bytes read words) a = let n = a.holds.1 in let sum = a.holds.5 in let few = a.holds.6 in ((omega arith, omega arith), a.holds.2, a.holds.3, a.holds.4, omega arith)
in_range link_config memory p end (WritingUsedId number more entry) a = let n = a.holds.1 in let few = a.holds.3 in let level = a.level (opened a.holds.0) in ((omega arith, omega arith), a.holds.2)
in_range link_config memory p end (WritingUsedLength number more) a = let n = a.holds.1 in let few = a.holds.2 in let level = a.level (opened a.holds.0) in (omega arith, omega arith)
in_range link_config memory p end (WritingUsedIndex number more) a = let n = a.holds.1 in let few = a.holds.2 in let level = a.level (opened a.holds.0) in (omega arith, omega arith)
in_range link_config memory p end place a = tt

pub as_sent : (link_config : LinkConfig) (memory : ℕ → ℕ) (p : ℕ) (end : End) (place : Place) (field : Field → ℕ) (accepted : List (List ℕ)) (returned : ℕ) → EndInvariant link_config memory p end place →
    (end.handshake.phase ≡ Run → Polls link_config field accepted place) → (end.handshake.phase ≡ Run → end.freed ≤ returned) → IsAsSent link_config.sizes accepted returned place
as_sent link_config memory p end (ReadingUsedId pending freed more) field accepted returned a polls frees = let f = frees a.holds.0 in let sum = a.holds.2 in omega arith
as_sent link_config memory p end (ReadingAvailEntry number more) field accepted returned a polls frees = polls a.holds.0
as_sent link_config memory p end (ReadingDescAddressLow number more entry) field accepted returned a polls frees = polls a.holds.0
as_sent link_config memory p end (ReadingDescAddressHigh number more entry low) field accepted returned a polls frees = polls a.holds.0
as_sent link_config memory p end (ReadingDescLength number more entry address) field accepted returned a polls frees = polls a.holds.0
as_sent link_config memory p end (ReadingDescFlags number more entry address bytes) field accepted returned a polls frees = polls a.holds.0
as_sent link_config memory p end (ReadingFrameWord number more entry address bytes read words) field accepted returned a polls frees = polls a.holds.0
as_sent link_config memory p end (WritingUsedId number more entry) field accepted returned a polls frees = polls a.holds.0
as_sent link_config memory p end (WritingUsedLength number more) field accepted returned a polls frees = (polls a.holds.0).0
as_sent link_config memory p end (WritingUsedIndex number more) field accepted returned a polls frees = (polls a.holds.0).0
as_sent link_config memory p end place field accepted returned a polls frees = tt
