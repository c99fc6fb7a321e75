use Rattle.std.proofs.Common.{ℕ, zero, suc, ◌≡◌, List, [], ◌∷◌, Some, refl, subst}
use Rattle.std.specs.Prelude.{slice_get}
use Rattle.pci_space.specs.Place.{usual_place}
use Rattle.doorbell_irq.specs.Peer.{Registers}
use Rattle.doorbell_irq.specs.Registers.{IsPeer}
use Rattle.doorbell_irq.proofs.device.Device.new.Goals as goal

-- A property of the first element, and of the others.
first : {X : Type 0} (P : ℕ → X → Type 0) (x : X) (xs : List X) → P 0 x → ((i : ℕ) (y : X) → slice_get xs i ≡ Some y → P (suc i) y) →
    (i : ℕ) (y : X) → slice_get (x ∷ xs) i ≡ Some y → P i y
first P x xs here others zero y at = let is : x ≡ y = cc in subst (P 0) is here
first P x xs here others (suc i) y at = others i y at

-- An empty list has none.
none : {X : Type 0} (P : ℕ → X → Type 0) (i : ℕ) (y : X) → slice_get [] i ≡ Some y → P i y
none P zero y at = absurd cc
none P (suc i) y at = absurd cc

pub returns : goal.returns
returns c =
    let P : ℕ → Registers → Type 0 = λ peer r. IsPeer (record { shape = c.args.geometry.now; wiring = c.args.wiring; region = usual_place }) [] peer r in
    record {
      peers = c.peers.ensures.value;
      wiring = refl;
      count = c.requires.few;
      registers = λ peer r here at.
          first (λ i. P i) _ (c.peer_at_reset-2.result ∷ c.peer_at_reset-3.result ∷ c.peer_at_reset-4.result ∷ c.peer_at_reset-5.result ∷ c.peer_at_reset-6.result ∷ c.peer_at_reset-7.result ∷ c.peer_at_reset-8.result ∷ []) c.peer_at_reset.ensures
          (first (λ i. P (suc i)) _ (c.peer_at_reset-3.result ∷ c.peer_at_reset-4.result ∷ c.peer_at_reset-5.result ∷ c.peer_at_reset-6.result ∷ c.peer_at_reset-7.result ∷ c.peer_at_reset-8.result ∷ []) c.peer_at_reset-2.ensures
          (first (λ i. P (suc (suc i))) _ (c.peer_at_reset-4.result ∷ c.peer_at_reset-5.result ∷ c.peer_at_reset-6.result ∷ c.peer_at_reset-7.result ∷ c.peer_at_reset-8.result ∷ []) c.peer_at_reset-3.ensures
          (first (λ i. P (suc (suc (suc i)))) _ (c.peer_at_reset-5.result ∷ c.peer_at_reset-6.result ∷ c.peer_at_reset-7.result ∷ c.peer_at_reset-8.result ∷ []) c.peer_at_reset-4.ensures
          (first (λ i. P (suc (suc (suc (suc i))))) _ (c.peer_at_reset-6.result ∷ c.peer_at_reset-7.result ∷ c.peer_at_reset-8.result ∷ []) c.peer_at_reset-5.ensures
          (first (λ i. P (suc (suc (suc (suc (suc i)))))) _ (c.peer_at_reset-7.result ∷ c.peer_at_reset-8.result ∷ []) c.peer_at_reset-6.ensures
          (first (λ i. P (suc (suc (suc (suc (suc (suc i))))))) _ (c.peer_at_reset-8.result ∷ []) c.peer_at_reset-7.ensures
          (first (λ i. P (suc (suc (suc (suc (suc (suc (suc i)))))))) _ ([]) c.peer_at_reset-8.ensures
          (none (λ i. P (suc (suc (suc (suc (suc (suc (suc (suc i))))))))))))))))) peer r at;
    }
