-- Registers that are those of a peer give what the rules say of that peer.
use Rattle.std.proofs.Common.{◌≡◌, ℕ, zero, suc, ◌+◌, ◌*◌, ◌/◌, ◌%◌, ◌<◌, ◌≤◌, List, length, Some, None, refl, sym, ◌∙◌, ap, ap₂, inl, inr, arith}
use Rattle.std.specs.Prelude.{Bool, true, false, ◌&&◌, ◌||◌, not, ◌==◌, nat_lt, if◌then◌else◌, Option}
use Rattle.std.proofs.lemmas.Bool.{cases_lt, le-ltb}
use Rattle.pci_space.specs.Numbers.{number_from}
use Rattle.pci_space.specs.declared.wiring.Wiring.{Wiring}
use Rattle.pci_space.specs.declared.wiring.Wiring.TheVariants.{Msix, Intx}
use Rattle.doorbell_irq.specs.Peer.{Registers}
use Rattle.doorbell_irq.specs.Events.{Devices, Event, Config, Page, Entry, vector_count}
use Rattle.doorbell_irq.specs.DeviceRules.{bit, state_in, is_enabled, is_one_shot, lets_through, reported, delivery_by, is_connected, bytes_after, register_at, msix_at}
use Rattle.doorbell_irq.specs.Registers.{IsPeer, byte_in, register_bytes, delivery_at}
use Rattle.doorbell_irq.proofs.Lists.{slice_get-within}

-- Equal bytes make equal numbers.
pub number_from-same : (f g : ℕ → ℕ) (at n : ℕ) → ((k : ℕ) → f k ≡ g k) → number_from f at n ≡ number_from g at n
number_from-same f g at zero same = refl
number_from-same f g at (suc n) same = ap₂ (λ (b r : ℕ). b + 256 * r) (same at) (number_from-same f g (suc at) n same)

module _ (w : Devices) (events : List Event) (peer : ℕ) (r : Registers) (is : IsPeer w events peer r) where
  -- The State.
  pub state_same : state_in (register_bytes r) ≡ state_in (bytes_after w events peer)
  state_same = number_from-same (register_bytes r Page) (bytes_after w events peer Page) 0x10 4 is.page.bytes

  -- Interrupt Control.
  pub enabled_same : is_enabled (register_bytes r) ≡ is_enabled (bytes_after w events peer)
  enabled_same = ap (λ b. bit b 0) (is.page.bytes 0x08)

  -- One-shot mode.
  pub one_shot_same : is_one_shot (register_bytes r) ≡ is_one_shot (bytes_after w events peer)
  one_shot_same = ap (λ b. bit b 0) (is.config.bytes 0x43)

  -- An entry of the table.
  pub entry_same : (n : ℕ) → n < length r.entries → (k : ℕ) → register_bytes r (Entry n) k ≡ bytes_after w events peer (Entry n) k
  entry_same n inside k =
      let found = slice_get-within r.entries n inside in
      ap (λ e. byte_in e k) found.1 ∙ (is.entries n found.0 found.1).bytes k

  -- The conditions under which a vector is let through.
  pub lets_through_same : (wiring : Wiring) → vector_count wiring ≤ length r.entries → (n : ℕ) → lets_through wiring (register_bytes r) n ≡ lets_through wiring (bytes_after w events peer) n
  lets_through_same Intx few n = ap (λ b. not (bit b 2)) (is.config.bytes 0x05)
  lets_through_same (Msix vectors) few n =
      ap₂ (λ (a b : ℕ). (bit a 2 || bit a 3) && (bit b 7 && not (bit b 6)) && unmasked (register_bytes r (Entry n) 0x0C)) (is.config.bytes 0x04) (is.config.bytes 0x63)
      ∙ ap (λ m. (bit (bytes_after w events peer Config 0x04) 2 || bit (bytes_after w events peer Config 0x04) 3)
      && (bit (bytes_after w events peer Config 0x63) 7 && not (bit (bytes_after w events peer Config 0x63) 6)) && m) (elim (cases_lt n vectors) [
        | inl inside ↦ ap unmasked (entry_same n (omega arith) 0x0C)
        | inr past ↦ (
            let none : nat_lt n vectors ≡ false = le-ltb n vectors past in
            ap (λ b. b && not (bit (register_bytes r (Entry n) 0x0C) 0)) none ∙ sym (ap (λ b. b && not (bit (bytes_after w events peer (Entry n) 0x0C) 0)) none)
            )
      ]) where
        unmasked : ℕ → Bool
        unmasked c = nat_lt n vectors && not (bit c 0)

  -- The delivery.
  pub delivery_same : (wiring : Wiring) → vector_count wiring ≤ length r.entries → (vector : Option ℕ) →
      delivery_at wiring r vector ≡ delivery_by wiring (is_connected events peer) (bytes_after w events peer) vector
  delivery_same wiring few None = refl
  delivery_same wiring few (Some n) =
      ap₂ (λ (a b : Bool). if a && (b && lets_through wiring (register_bytes r) n) then Some (reported wiring n) else None) is.connected enabled_same
      ∙ ap (λ t. if is_connected events peer && (is_enabled (bytes_after w events peer) && t) then Some (reported wiring n) else None) (lets_through_same wiring few n)

  -- The values that the register page reads.
  pub register_same : (offset : ℕ) → register_at (register_bytes r) offset ≡ register_at (bytes_after w events peer) offset
  register_same offset = ap (λ v. if offset % 4 == 0 && nat_lt offset 20 then v else 0)
      (number_from-same (register_bytes r Page) (bytes_after w events peer Page) offset 4 is.page.bytes)

  -- The values that the MSI-X region reads.
  pub msix_same : (wiring : Wiring) → vector_count wiring ≤ length r.entries → (offset : ℕ) → msix_at wiring (register_bytes r) offset ≡ msix_at wiring (bytes_after w events peer) offset
  msix_same wiring few offset = elim (cases_lt (offset / 16) (vector_count wiring)) [
    | inl inside ↦ ap (λ v. if offset % 4 == 0 && nat_lt (offset / 16) (vector_count wiring) then v else 0)
        (number_from-same (register_bytes r (Entry (offset / 16))) (bytes_after w events peer (Entry (offset / 16))) (offset % 16) 4
        (entry_same (offset / 16) (omega arith)))
    | inr past ↦ (
        let none : nat_lt (offset / 16) (vector_count wiring) ≡ false = le-ltb (offset / 16) (vector_count wiring) past in
        no_entry none (number_from (register_bytes r (Entry (offset / 16))) (offset % 16) 4)
        ∙ sym (no_entry none (number_from (bytes_after w events peer (Entry (offset / 16))) (offset % 16) 4))
        )
  ] where
    no_entry : nat_lt (offset / 16) (vector_count wiring) ≡ false → (v : ℕ) →
        (if offset % 4 == 0 && nat_lt (offset / 16) (vector_count wiring) then v else 0) ≡ 0
    no_entry none v = ap (λ b. if offset % 4 == 0 && b then v else 0) none ∙ neither (offset % 4 == 0) where
      neither : (b : Bool) → (if b && false then v else 0) ≡ 0
      neither true = refl
      neither false = refl
