-- Each store to a State word or to an index word is a store-release, except the clears.
use Rattle.std.proofs.Common.{◌≡◌, ◌≢◌, ℕ, ◌+◌, ◌*◌, ◌/◌, ◌%◌, ◌<◌, ◌≤◌, ◌⊎◌, inl, inr, ⊎_elim, Bool, true, false, arith}
use Rattle.std.proofs.lemmas.Nat.{mod_below}
use Rattle.split_ring.specs.Layout.{size_of, limit_of, word_offset, AvailIndex, UsedIndex}
use Rattle.link_handshake.specs.declared.Phase.TheVariants.{Init}
use Rattle.call_grammar.specs.Ends.{End}
use Rattle.call_grammar.specs.Offers.{PendingOffer}
use Rattle.call_grammar.specs.Places.{Place, Clearing, WritingState, Refusing, WritingFrameWord, WritingDescAddressLow, WritingDescAddressHigh, WritingDescLength, WritingDescFlags, WritingAvailEntry, WritingAvailIndex, WritingAvailEvent, WritingUsedId, WritingUsedLength, WritingUsedIndex, access_at}
use Rattle.link_invariant.specs.LinkConfig.{LinkConfig, IsLinkConfig, section_of, config_of}
use Rattle.link_invariant.specs.EndInvariant.{start_for, PlaceInvariant}
use Rattle.link_invariant.proofs.Fields.{numbers}
use Rattle.link_invariant.proofs.EndObligations.{pending_is_good}
use Rattle.weak_orders.specs.Orders.{releases}
use Rattle.weak_orders.specs.Memory.{StoresTo}
use Rattle.weak_orders.proofs.Rows.{state_store_releases, refusal_releases, avail_index_store_releases, used_index_store_releases}

-- A word that end q stores and that the other acquires: its State or one of its indexes.
abbrev pub IsKey : LinkConfig → ℕ → ℕ → Type 0
IsKey link_config q word = (word ≡ q) ⊎ ((word ≡ section_of link_config q + word_offset link_config.sizes AvailIndex) ⊎ (word ≡ section_of link_config q + word_offset link_config.sizes UsedIndex))

no_key : (q s x a u word : ℕ) → q < 2 → 2 ≤ s → word ≡ s + x → x ≢ a → x ≢ u → (word ≡ q) ⊎ ((word ≡ s + a) ⊎ (word ≡ s + u)) → ⊥
no_key q s x a u word q2 low e na nu (inl f) = omega arith
no_key q s x a u word q2 low e na nu (inr (inl f)) = na (omega arith)
no_key q s x a u word q2 low e na nu (inr (inr f)) = nu (omega arith)

pub key_released : (link_config : LinkConfig) → IsLinkConfig link_config → (q : ℕ) → q < 2 → (memory : ℕ → ℕ) (end : End) (place : Place) (word : ℕ) → PlaceInvariant link_config memory q end place → (end.handshake.phase ≢ Init) ⊎ (word ≡ q) → StoresTo q (access_at (config_of link_config q) place) word → IsKey link_config q word → releases place ≡ true
key_released link_config is q q2 memory end place word h apart s key = by_place place h s
  where
    descriptor : (pending : PendingOffer) → pending.number % limit_of link_config.sizes < size_of link_config.sizes
    descriptor pending = let b = numbers link_config is in let least = b.limit_least in let most = b.limit_most in let low = mod_below pending.number (limit_of link_config.sizes) least in omega arith

    turn_low : (number : ℕ) → number % size_of link_config.sizes < size_of link_config.sizes
    turn_low number = let least = (numbers link_config is).size_least in mod_below number (size_of link_config.sizes) (omega arith)

    low : 2 ≤ section_of link_config q
    low = let first = is.first in omega arith

    none : (x : ℕ) → word ≡ section_of link_config q + x → x ≢ word_offset link_config.sizes AvailIndex → x ≢ word_offset link_config.sizes UsedIndex → (b : Bool) → b ≡ true
    none x e na nu b = absurd (no_key q (section_of link_config q) x (word_offset link_config.sizes AvailIndex) (word_offset link_config.sizes UsedIndex) word q2 low e na nu key)

    by_place : (place : Place) → PlaceInvariant link_config memory q end place → StoresTo q (access_at (config_of link_config q) place) word → releases place ≡ true
    by_place (WritingState state) h s = state_store_releases state
    by_place Refusing h s = refusal_releases
    by_place (WritingAvailIndex pending) h s = avail_index_store_releases pending
    by_place (WritingUsedIndex number more) h s = used_index_store_releases number more
    by_place (Clearing at more state) h s = absurd (⊎_elim (λ (f : end.handshake.phase ≢ Init). f h.0) (λ (e : word ≡ q). let clear = h.2 in let here = clear.1 in let l = low in omega arith) apart)
    by_place (WritingFrameWord pending at more) h s = let good = pending_is_good is h.1.next in let after = good.after in none (start_for link_config pending / 4 + at) (omega arith) (λ e. omega arith) (λ e. omega arith) false
    by_place (WritingDescAddressLow pending) h s = let d = descriptor pending in none _ s (λ e. omega arith) (λ e. omega arith) false
    by_place (WritingDescAddressHigh pending) h s = let d = descriptor pending in none (16 * (pending.number % limit_of link_config.sizes) / 4 + 1) (omega arith) (λ e. omega arith) (λ e. omega arith) false
    by_place (WritingDescLength pending) h s = let d = descriptor pending in none _ s (λ e. omega arith) (λ e. omega arith) false
    by_place (WritingDescFlags pending) h s = let d = descriptor pending in none _ s (λ e. omega arith) (λ e. omega arith) false
    by_place (WritingAvailEntry pending) h s = let k = turn_low pending.number in none _ s (λ e. omega arith) (λ e. omega arith) false
    by_place (WritingAvailEvent taken) h s = let least = (numbers link_config is).size_least in none _ s (λ e. omega arith) (λ e. omega arith) false
    by_place (WritingUsedId number more entry) h s = let k = turn_low number in none _ s (λ e. omega arith) (λ e. omega arith) false
    by_place (WritingUsedLength number more) h s = let k = turn_low number in none _ s (λ e. omega arith) (λ e. omega arith) false
    by_place place h s = absurd s
