-- The event records of all peers are those of each peer.
use Rattle.std.proofs.Common.{◌≡◌, ◌≢◌, ℕ, zero, suc, ◌+◌, ◌*◌, ◌<◌, ◌≤◌, List, [], ◌∷◌, length, refl, sym, ap, arith, eq-eqb, ne_eqb}
use Rattle.std.specs.Prelude.{◌==◌}
use Rattle.std.specs.List.{AllByRecursion}
use mathlib.Core.Logic.{dite}
use native.Mathlib.Decide.{ℕ_discrete}
use Rattle.call_grammar.proofs.OfferLists.{yes, no}
use Rattle.lawful_history.specs.EventRecords.{EventRecord, owner, own}
use Rattle.record_sizes.proofs.EventsPay.{entries_cost}

-- A sum over event records, and the sums over those of each peer below n.
abbrev total : (EventRecord → ℕ) → List EventRecord → ℕ
total cost [] = 0
total cost (entry ∷ entries) = cost entry + total cost entries

abbrev by_peers : (EventRecord → ℕ) → ℕ → List EventRecord → ℕ
by_peers cost zero entries = 0
by_peers cost (suc peer) entries = by_peers cost peer entries + total cost (own peer entries)

other_peer : (cost : EventRecord → ℕ) (peer : ℕ) (entry : EventRecord) (entries : List EventRecord) → owner entry ≢ peer → total cost (own peer (entry ∷ entries)) ≡ total cost (own peer entries)
other_peer cost peer entry entries other = ap (total cost) (no (owner entry == peer) (entry ∷ own peer entries) (own peer entries) (ne_eqb (owner entry) peer other))

its_peer : (cost : EventRecord → ℕ) (peer : ℕ) (entry : EventRecord) (entries : List EventRecord) → owner entry ≡ peer → total cost (own peer (entry ∷ entries)) ≡ cost entry + total cost (own peer entries)
its_peer cost peer entry entries is = ap (total cost) (yes (owner entry == peer) (entry ∷ own peer entries) (own peer entries) (eq-eqb (owner entry) peer is))

above : (cost : EventRecord → ℕ) (n : ℕ) (entry : EventRecord) (entries : List EventRecord) → n ≤ owner entry → by_peers cost n (entry ∷ entries) ≡ by_peers cost n entries
above cost zero entry entries far = refl
above cost (suc peer) entry entries far =
    let others = above cost peer entry entries (omega (arith, far)) in
    let last = other_peer cost peer entry entries (λ is. omega (arith, is, far)) in omega (arith, others, last)

within : (cost : EventRecord → ℕ) (n : ℕ) (entry : EventRecord) (entries : List EventRecord) → owner entry < n → by_peers cost n (entry ∷ entries) ≡ cost entry + by_peers cost n entries
within cost zero entry entries below = absurd (omega (arith, below))
within cost (suc peer) entry entries below = dite (ℕ_discrete (owner entry) peer)
    (λ is. let others = above cost peer entry entries (omega (arith, is)) in let last = its_peer cost peer entry entries is in omega (arith, others, last))
    (λ other. let others = within cost peer entry entries (omega (arith, below, other)) in let last = other_peer cost peer entry entries other in omega (arith, others, last))

none_by_peers : (cost : EventRecord → ℕ) (n : ℕ) → by_peers cost n [] ≡ 0
none_by_peers cost zero = refl
none_by_peers cost (suc peer) = let others = none_by_peers cost peer in omega (arith, others)

shared : (cost : EventRecord → ℕ) (n : ℕ) (entries : List EventRecord) → AllByRecursion (λ entry. owner entry < n) entries → total cost entries ≡ by_peers cost n entries
shared cost n [] below = sym (none_by_peers cost n)
shared cost n (entry ∷ entries) below = omega (arith, shared cost n entries below.1, within cost n entry entries below.0)

counts : (entries : List EventRecord) → total (λ entry. 1) entries ≡ length entries
counts [] = refl
counts (entry ∷ entries) = let later = counts entries in omega (arith, later)

bytes : (entries : List EventRecord) → total (λ entry. entries_cost (entry ∷ [])) entries ≡ entries_cost entries
bytes [] = refl
bytes (entry ∷ entries) = let later = bytes entries in omega (arith, later)

each_pays : (n : ℕ) (entries : List EventRecord) → ((peer : ℕ) → peer < n → entries_cost (own peer entries) ≤ 200 * length (own peer entries)) →
    by_peers (λ entry. entries_cost (entry ∷ [])) n entries ≤ 200 * by_peers (λ entry. 1) n entries
each_pays zero entries pays = omega arith
each_pays (suc peer) entries pays =
    let others = each_pays peer entries (λ p below. pays p (omega (arith, below))) in let last = pays peer (omega arith) in
    omega (arith, others, last, bytes (own peer entries), counts (own peer entries))

-- If each peer pays for its event records, all are paid for.
pub all_pay : (n : ℕ) (entries : List EventRecord) → AllByRecursion (λ entry. owner entry < n) entries → ((peer : ℕ) → peer < n → entries_cost (own peer entries) ≤ 200 * length (own peer entries)) →
    entries_cost entries ≤ 200 * length entries
all_pay n entries below pays =
    omega (arith, each_pays n entries pays, shared (λ entry. entries_cost (entry ∷ [])) n entries below, shared (λ entry. 1) n entries below, bytes entries, counts entries)
