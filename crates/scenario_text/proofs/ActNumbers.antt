-- What the tests of an act say of its numbers and its frame.
use Rattle.std.proofs.Common.{◌≡◌, ℕ, zero, suc, ◌<◌, ◌≤◌, nat_lt, nat_le, Bool, true, false, ◌&&◌, List, [], ◌∷◌, slice_index, arith}
use Rattle.std.specs.List.{AllByRecursion}
use Rattle.std.proofs.lemmas.Bool.Decides.{nat_tests}
use Rattle.pci_space.specs.Fields.{is_access}
use Rattle.split_ring.specs.declared.sizes.TheConstants.{SHORTEST_FRAME}
use Rattle.scenario_text.specs.Scenario.{is_aligned}

-- An aligned field that begins in the configuration space is in it.
pub within : (offset width : ℕ) → is_aligned offset width ≡ true → offset ≤ 255 → 1 ≤ width → width ≤ 4 → is_access 256 offset width ≡ true
within offset zero is small least most = absurd (omega arith)
within offset (suc zero) is small least most = grind (arith, nat_tests)
within offset (suc (suc zero)) is small least most = grind (arith, nat_tests)
within offset (suc (suc (suc zero))) is small least most = absurd (let e : false ≡ true = is in cc)
within offset (suc (suc (suc (suc zero)))) is small least most = grind (arith, nat_tests)
within offset (suc (suc (suc (suc (suc more))))) is small least most = absurd (omega arith)

pub peer_below : (p peers : ℕ) → nat_lt p peers ≡ true → p < peers
peer_below p peers is = grind (arith, nat_tests)

pub link_below : (p : ℕ) (flag : Bool) → (nat_lt p 2 && flag) ≡ true → p < 2
link_below p flag is = grind (arith, nat_tests)

-- The bytes of a frame.
pub bytes_recursion : (bytes : List ℕ) → ((i : ℕ) → slice_index bytes i < 256) → AllByRecursion (λ byte. byte < 256) bytes
bytes_recursion [] below = tt
bytes_recursion (byte ∷ bytes) below = (below 0, bytes_recursion bytes (λ i. below (suc i)))

-- The length of a frame.
pub frame_least : (size most : ℕ) → (nat_le SHORTEST_FRAME size && nat_le size most) ≡ true → SHORTEST_FRAME ≤ size
frame_least size most is = grind (arith, nat_tests)

pub frame_most : (size most : ℕ) → (nat_le SHORTEST_FRAME size && nat_le size most) ≡ true → size ≤ most
frame_most size most is = grind (arith, nat_tests)
