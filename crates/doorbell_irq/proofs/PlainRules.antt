-- The rules in plain words.
use Rattle.std.proofs.Common.{◌≡◌, ℕ, ◌+◌, ◌*◌, ◌/◌, ◌%◌, ◌^◌, ◌<◌, List, ◌∷◌, Some, None, refl, sym, ◌∙◌, ap, ap₂, arith, eq-eqb, bit_and, bit_or}
use Rattle.std.specs.Prelude.{Bool, true, false, ◌&&◌, not, ◌==◌, if◌then◌else◌, Option, is_some}
use Rattle.std.specs.Int.Bits.{and_zero_r, or_zero_l, or_zero_r}
use Rattle.std.specs.Int.{bit_at}
use Rattle.std.proofs.lemmas.Bool.{eqb-true}
use Rattle.std.proofs.lemmas.Grind.{and_numeral}
use Rattle.std.proofs.lemmas.Nat.Bits.{bit_at_and}
use Rattle.std.proofs.Math.Nat.{mod-eq_of_lt}
use Rattle.pci_space.specs.declared.wiring.Wiring.{Wiring}
use Rattle.pci_space.specs.Numbers.{number_byte, number_from}
use Rattle.pci_space.specs.Fields.{merged, reset_byte}
use Rattle.pci_space.proofs.NumberBytes.{number_from-bytes}
use Rattle.doorbell_irq.specs.Events.{Devices, Event, ConfigWritten, RegisterWritten, MsixWritten, WasReset, WasDisconnected, WasConnected, Part, Page, page_rows}
use Rattle.doorbell_irq.specs.DeviceRules.{Write, state_in, is_enabled, is_one_shot, bit, vector_by, page_write, write_of, write_or, clear_of, byte_after, delivery_by, delivery_of, resets, is_connected, bytes_after}

-- A byte that is written through an open mask.
merged-open : (old new : ℕ) → new < 256 → merged old new 255 ≡ new
merged-open old new small =
    ap₂ bit_or (and_zero_r old) (and_numeral new 254 refl ∙ mod-eq_of_lt small) ∙ or_zero_l new

-- A State that was written reads back.
pub state_written : (w : Devices) (events : List Event) (peer value : ℕ) → value < 2 ^ 32 → state_in (bytes_after w (RegisterWritten peer 0x10 value ∷ events) peer) ≡ value
state_written w events peer value small =
    ap (λ b. number_from (λ k. byte_after (page_rows w.shape.peers peer)
    (write_or (if b then page_write 0x10 value else None)
    (clear_of Page (is_some (delivery_of w.wiring (is_connected events) (bytes_after w events) (RegisterWritten peer 0x10 value) peer) && is_one_shot (bytes_after w events peer))))
    k (bytes_after w events peer Page k)) 0x10 4) (eq-eqb peer peer refl)
    ∙ ap₂ (λ (a r : ℕ). a + 256 * r) (let_in 16 0)
    (ap₂ (λ (a r : ℕ). a + 256 * r) (let_in 17 1) (ap₂ (λ (a r : ℕ). a + 256 * r) (let_in 18 2) (ap (λ a. a + 256 * 0) (let_in 19 3))))
    ∙ number_from-bytes value 0x10 4 small where
      let_in : (k i : ℕ) → merged (bytes_after w events peer Page k) (number_byte value i) 255 ≡ number_byte value i
      let_in k i = merged-open (bytes_after w events peer Page k) (number_byte value i) (omega arith)

-- A reset makes the State 0.
pub state_reset : (w : Devices) (events : List Event) (peer : ℕ) → state_in (bytes_after w (WasReset peer ∷ events) peer) ≡ 0
state_reset w events peer =
    ap (λ b. number_from (λ k. if b then reset_byte (page_rows w.shape.peers peer) k else byte_after (page_rows w.shape.peers peer)
    (write_or None (clear_of Page (is_some (delivery_of w.wiring (is_connected events) (bytes_after w events) (WasReset peer) peer) && is_one_shot (bytes_after w events peer))))
    k (bytes_after w events peer Page k)) 0x10 4) (eq-eqb peer peer refl)

-- A cleared bit 0.
cleared : (old : ℕ) → bit (merged old 0 1) 0 ≡ false
cleared old =
    let even : bit_at (bit_and old 254) 0 ≡ 0 = bit_at_and old 254 0 ∙ omega arith in
    let same : merged old 0 1 ≡ bit_and old 254 = or_zero_r (bit_and old 254) in
    ap (λ n. bit n 0) same ∙ ap (λ n. n == 1) even

-- A delivery by a State change is at another peer.
by_state : (wiring : Wiring) (connected : Bool) (byte : Part → ℕ → ℕ) (old source value peer : ℕ) → is_some (delivery_by wiring connected byte (vector_by old source value peer)) ≡ true →
    (source == peer) ≡ false
by_state wiring connected byte old source value peer came = cases (source == peer) refl where
  cases : (b : Bool) → (source == peer) ≡ b → b ≡ false
  cases false is = refl
  cases true is = let none : vector_by old source value peer ≡ None = ap (λ b. if not b && not (old == value) then Some 0 else None) is in
      let quiet : is_some (delivery_by wiring connected byte (vector_by old source value peer)) ≡ false = ap (λ v. is_some (delivery_by wiring connected byte v)) none in
      cc

module _ (w : Devices) (events : List Event) (peer : ℕ) where
  -- An event that delivers to a peer writes no register of it and doesn't reset it.
  Untouched : Event → Type 0
  Untouched event = (write_of w.wiring event peer Page ≡ None) × (resets event peer ≡ false)

  Came : Event → Type 0
  Came event = is_some (delivery_of w.wiring (is_connected events) (bytes_after w events) event peer) ≡ true

  untouched : (event : Event) → Came event → Untouched event
  unfolding Came Untouched
  untouched (ConfigWritten p offset width value) came = cc
  untouched (MsixWritten p offset value) came = cc
  untouched (WasConnected p) came = cc
  untouched (WasReset p) came = (refl, by_state w.wiring (is_connected events peer) (bytes_after w events peer) (state_in (bytes_after w events p)) p 0 peer came)
  untouched (WasDisconnected p) came = (refl, by_state w.wiring (is_connected events peer) (bytes_after w events peer) (state_in (bytes_after w events p)) p 0 peer came)
  untouched (RegisterWritten p offset value) came = (cases (offset == 0x0C) (offset == 0x10) refl refl, refl) where
    comes : Option ℕ → Bool
    comes vector = is_some (delivery_by w.wiring (is_connected events peer) (bytes_after w events peer) vector)

    rings : Option ℕ
    rings = if value / 65536 == peer then Some (value % 65536) else None

    changes : Option ℕ
    changes = vector_by (state_in (bytes_after w events p)) p value peer

    either : (b : Bool) (a : Option Write) → a ≡ None → (if b then a else None) ≡ None
    either true a is = is
    either false a is = refl

    cases : (rung stated : Bool) → (offset == 0x0C) ≡ rung → (offset == 0x10) ≡ stated → (if p == peer then page_write offset value else None) ≡ None
    cases true stated is is' = either (p == peer) (page_write offset value) (ap (λ o. page_write o value) (eqb-true offset 0x0C is))
    cases false true is is' =
        let at_state : comes changes ≡ true =
        sym (ap (λ b. comes (if b then rings else if offset == 0x10 then changes else None)) is ∙ ap (λ b. comes (if b then changes else None)) is') ∙ came in
        ap (λ b. if b then page_write offset value else None)
        (by_state w.wiring (is_connected events peer) (bytes_after w events peer) (state_in (bytes_after w events p)) p value peer at_state)
    cases false false is is' =
        let nothing : false ≡ true =
        sym (ap (λ b. comes (if b then rings else if offset == 0x10 then changes else None)) is ∙ ap (λ b. comes (if b then changes else None)) is') ∙ came in
        cc

-- In one-shot mode an interrupt turns interrupts off.
pub turned_off : (w : Devices) (events : List Event) (event : Event) (peer : ℕ) →
    is_some (delivery_of w.wiring (is_connected events) (bytes_after w events) event peer) ≡ true →
    is_one_shot (bytes_after w events peer) ≡ true → is_enabled (bytes_after w (event ∷ events) peer) ≡ false
unfolding Came Untouched
turned_off w events event peer came shot =
    let alone = untouched w events peer event came in
    let clears : clear_of Page (is_some (delivery_of w.wiring (is_connected events) (bytes_after w events) event peer) && is_one_shot (bytes_after w events peer))
    ≡ Some (record { offset = 0x08; width = 4; value = 0 }) = ap₂ (λ a b. clear_of Page (a && b)) came shot in
    ap₂ (λ (r : Bool) (write : Option Write). bit (if r then reset_byte (page_rows w.shape.peers peer) 0x08 else byte_after (page_rows w.shape.peers peer) write 0x08 (bytes_after w events peer Page 0x08)) 0)
    alone.1 (ap₂ write_or alone.0 clears)
    ∙ cleared (bytes_after w events peer Page 0x08)
