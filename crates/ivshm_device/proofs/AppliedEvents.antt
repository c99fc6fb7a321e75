-- The devices of a peer's process agree with those of all peers: in the peer's bytes, and in every
-- peer's connection and State.
use Rattle.std.proofs.Common.{◌≡◌, ℕ, ◌/◌, ◌%◌, ◌-◌, List, ◌∷◌, Some, None, refl, sym, ◌∙◌, ap, ap₂, inl, inr, eq-eqb}
use Rattle.std.specs.Prelude.{Bool, true, false, ◌&&◌, ◌||◌, not, ◌==◌, ◌+◌, ◌*◌, if◌then◌else◌, Option, is_some, bit_and, bit_or}
use Rattle.std.specs.Int.Bits.{and_zero_r}
use Rattle.std.proofs.lemmas.Bool.{eqb-true}
use mathlib.Core.Path.{fun_ext}
use Rattle.pci_space.specs.Numbers.{number_byte, number_from}
use Rattle.pci_space.specs.Fields.{merged, reset_byte}
use Rattle.doorbell_irq.specs.Events.{Devices, Event, ConfigWritten, RegisterWritten, MsixWritten, WasReset, WasDisconnected, WasConnected, Part, Config, Page, Entry, rows_of, page_rows}
use Rattle.doorbell_irq.specs.DeviceRules.{Bytes, Write, state_in, is_one_shot, register_vector, vector_by, vector_of, resets, page_write, entry_write, write_of, write_or, clear_of, byte_after, delivery_by, delivery_of, whole_write_of, connected_after, is_connected, bytes_after}
use Rattle.doorbell_irq.proofs.Lists.{nat_cases}
use Rattle.ivshm_device.specs.Apart.{may_leave_out, OthersAgree, Applies, starts, joins, goes_on, leaves_out}

-- The State after a write of this value.
stored : ℕ → ℕ
stored value = number_from (λ k. merged 0 (number_byte value (k - 0x10)) 255) 0x10 4

-- The State of a peer after an event.
new_state : Event → ℕ → ℕ → ℕ
new_state (RegisterWritten p offset value) peer old = if p == peer && offset == 0x10 then stored value else old
new_state (WasReset p) peer old = if p == peer then 0 else old
new_state (WasDisconnected p) peer old = if p == peer then 0 else old
new_state (WasConnected p) peer old = if p == peer then 0 else old
new_state _ peer old = old

module _ (peers peer : ℕ) (old : ℕ → ℕ) where
  -- The State after a write to the register page, or none.
  state_with : Option Write → Bool → ℕ
  state_with write clears = number_from (λ k. byte_after (page_rows peers peer) (write_or write (clear_of Page clears)) k (old k)) 0x10 4

  -- The device's own write of Interrupt Control leaves State.
  unaffected : (clears : Bool) → state_with None clears ≡ number_from old 0x10 4
  unfolding state_with
  unaffected true = refl
  unaffected false = refl

  -- A write of Interrupt Control leaves State.
  control_written : (value : ℕ) (clears : Bool) → state_with (page_write 0x08 value) clears ≡ number_from old 0x10 4
  unfolding state_with
  control_written value clears = refl

  -- A write through an open mask.
  opened : (before new : ℕ) → merged before new 255 ≡ merged 0 new 255
  opened before new = ap (λ a. bit_or a (bit_and new 255)) (and_zero_r before ∙ sym (and_zero_r 0))

  -- A write of State.
  writes : (value : ℕ) (clears : Bool) → state_with (page_write 0x10 value) clears ≡ stored value
  unfolding state_with stored
  writes value clears =
      ap₂ (λ (a r : ℕ). a + 256 * r) (open_at 16 0)
      (ap₂ (λ (a r : ℕ). a + 256 * r) (open_at 17 1) (ap₂ (λ (a r : ℕ). a + 256 * r) (open_at 18 2) (ap (λ a. a + 256 * 0) (open_at 19 3)))) where
        open_at : (k i : ℕ) → merged (old k) (number_byte value i) 255 ≡ merged 0 (number_byte value i) 255
        open_at k i = opened (old k) (number_byte value i)

  -- A write of the peer's own register, or of another's.
  written : (own : Bool) (offset value : ℕ) (clears : Bool) →
      state_with (if own then page_write offset value else None) clears ≡ (if own && offset == 0x10 then stored value else number_from old 0x10 4)
  written false offset value clears = unaffected clears
  written true offset value clears = cases (offset == 0x08) (offset == 0x10) refl refl where
    cases : (is_control is_state : Bool) → (offset == 0x08) ≡ is_control → (offset == 0x10) ≡ is_state →
        state_with (page_write offset value) clears ≡ (if offset == 0x10 then stored value else number_from old 0x10 4)
    cases control true is is' = let at : offset ≡ 0x10 = eqb-true offset 0x10 is' in
        ap (λ o. state_with (page_write o value) clears) at ∙ writes value clears
        ∙ sym (ap (λ b. if b then stored value else number_from old 0x10 4) is')
    cases true false is is' = let at : offset ≡ 0x08 = eqb-true offset 0x08 is in
        ap (λ o. state_with (page_write o value) clears) at ∙ control_written value clears
        ∙ sym (ap (λ b. if b then stored value else number_from old 0x10 4) is')
    cases false false is is' =
        ap₂ (λ a b. state_with (if a || b then Some (record { offset = offset; width = 4; value = value }) else None) clears) is is'
        ∙ unaffected clears
        ∙ sym (ap (λ b. if b then stored value else number_from old 0x10 4) is')

  -- A reset, or an event that writes nothing.
  reset_or_kept : (now clears : Bool) →
      number_from (λ k. if now then reset_byte (page_rows peers peer) k else byte_after (page_rows peers peer) (clear_of Page clears) k (old k)) 0x10 4
      ≡ (if now then 0 else number_from old 0x10 4)
  reset_or_kept true clears = refl
  reset_or_kept false true = refl
  reset_or_kept false false = refl

module _ (w : Devices) where
  -- The State after an event depends on the State before it alone.
  state_after : (event : Event) (events : List Event) (peer : ℕ) → state_in (bytes_after w (event ∷ events) peer) ≡ new_state event peer (state_in (bytes_after w events peer))
  unfolding new_state state_with
  state_after (ConfigWritten p offset width value) events peer = refl
  state_after (MsixWritten p offset value) events peer = refl
  state_after (RegisterWritten p offset value) events peer =
      written w.shape.peers peer (bytes_after w events peer Page) (p == peer) offset value
      (is_some (delivery_of w.wiring (is_connected events) (bytes_after w events) (RegisterWritten p offset value) peer) && is_one_shot (bytes_after w events peer))
  state_after (WasReset p) events peer =
      reset_or_kept w.shape.peers peer (bytes_after w events peer Page) (p == peer)
      (is_some (delivery_of w.wiring (is_connected events) (bytes_after w events) (WasReset p) peer) && is_one_shot (bytes_after w events peer))
  state_after (WasDisconnected p) events peer =
      reset_or_kept w.shape.peers peer (bytes_after w events peer Page) (p == peer)
      (is_some (delivery_of w.wiring (is_connected events) (bytes_after w events) (WasDisconnected p) peer) && is_one_shot (bytes_after w events peer))
  state_after (WasConnected p) events peer =
      reset_or_kept w.shape.peers peer (bytes_after w events peer Page) (p == peer)
      (is_some (delivery_of w.wiring (is_connected events) (bytes_after w events) (WasConnected p) peer) && is_one_shot (bytes_after w events peer))

module _ (peer : ℕ) where
  -- The facts known of a register write that may be left out.
  record IsLeft (p offset value : ℕ) : Type 0 where
    other : (p == peer) ≡ false
    no_state : (offset == 0x10) ≡ false
    no_doorbell : (offset == 0x0C && value / 65536 == peer) ≡ false

  left : (p offset value : ℕ) → may_leave_out peer (RegisterWritten p offset value) ≡ true → IsLeft p offset value
  left p offset value is = cases (p == peer) (offset == 0x10) (offset == 0x0C && value / 65536 == peer) refl refl refl is where
    cases : (a b c : Bool) → (p == peer) ≡ a → (offset == 0x10) ≡ b → (offset == 0x0C && value / 65536 == peer) ≡ c → (not a && not (b || c)) ≡ true → IsLeft p offset value
    cases false false false at at' at'' out = record { other = at; no_state = at'; no_doorbell = at'' }
    cases true b c at at' at'' out = absurd cc
    cases false true c at at' at'' out = absurd cc
    cases false false true at at' at'' out = absurd cc

  opposite : (b : Bool) → not b ≡ true → b ≡ false
  opposite false is = refl
  opposite true is = absurd cc

  -- An event that may be left out triggers nothing at the peer.
  pub untriggered : (before : ℕ → Bytes) (event : Event) → may_leave_out peer event ≡ true → vector_of before event peer ≡ None
  untriggered before (ConfigWritten p offset width value) is = refl
  untriggered before (MsixWritten p offset value) is = refl
  untriggered before (WasConnected p) is = refl
  untriggered before (WasReset p) is = absurd cc
  untriggered before (WasDisconnected p) is = absurd cc
  untriggered before (RegisterWritten p offset value) is = let out = left p offset value is in
      ap (λ b. if offset == 0x0C then (if value / 65536 == peer then Some (value % 65536) else None)
      else if b then vector_by (state_in (before p)) p value peer else None) out.no_state
      ∙ cases (offset == 0x0C) (value / 65536 == peer) out.no_doorbell where
        cases : (rung here : Bool) → (rung && here) ≡ false → (if rung then (if here then Some (value % 65536) else None) else None) ≡ None
        cases true true is' = absurd cc
        cases true false is' = refl
        cases false here is' = refl

module _ (w : Devices) (peer : ℕ) where
  -- The peer's bytes, and every peer's connection and State, are the same after two lists of
  -- events.
  pub record Agree (applied all : List Event) : Type 0 where
    pub connected : (q : ℕ) → is_connected applied q ≡ is_connected all q
    pub states : (q : ℕ) → state_in (bytes_after w applied q) ≡ state_in (bytes_after w all q)
    pub bytes : bytes_after w applied peer ≡ bytes_after w all peer

  -- The delivery of an event to the peer.
  pub delivery_agrees : (event : Event) (applied all : List Event) → Agree applied all →
      delivery_of w.wiring (is_connected applied) (bytes_after w applied) event peer ≡ delivery_of w.wiring (is_connected all) (bytes_after w all) event peer
  delivery_agrees event applied all agree =
      ap₂ (λ c v. delivery_by w.wiring c (bytes_after w applied peer) v) (agree.connected peer) (triggers event)
      ∙ ap (λ (b : Bytes). delivery_by w.wiring (is_connected all peer) b (vector_of (bytes_after w all) event peer)) agree.bytes where
        triggers : (e : Event) → vector_of (bytes_after w applied) e peer ≡ vector_of (bytes_after w all) e peer
        triggers (ConfigWritten p offset width value) = refl
        triggers (MsixWritten p offset value) = refl
        triggers (WasConnected p) = refl
        triggers (RegisterWritten p offset value) = ap (λ s. register_vector s p offset value peer) (agree.states p)
        triggers (WasReset p) = ap (λ s. vector_by s p 0 peer) (agree.states p)
        triggers (WasDisconnected p) = ap (λ s. vector_by s p 0 peer) (agree.states p)

  -- An event that the process applies.
  applied_agrees : (event : Event) (applied all : List Event) → Agree applied all → Agree (event ∷ applied) (event ∷ all)
  applied_agrees event applied all agree = record {
    connected = λ q. ap (connected_after event q) (agree.connected q);
    states = λ q. state_after w event applied q ∙ ap (new_state event q) (agree.states q) ∙ sym (state_after w event all q);
    bytes = ap₂ (λ (came : Option ℕ) (b : Bytes). λ (part : Part) (k : ℕ). after came b part k) (delivery_agrees event applied all agree) agree.bytes;
  } where
    after : Option ℕ → Bytes → Part → ℕ → ℕ
    after came b part k = if resets event peer then reset_byte (rows_of w peer part) k
        else byte_after (rows_of w peer part) (write_or (write_of w.wiring event peer part) (clear_of part (is_some came && is_one_shot b))) k (b part k)

  -- An event that may be left out leaves the peer's bytes.
  bytes_left : (event : Event) (all : List Event) → may_leave_out peer event ≡ true → (part : Part) (k : ℕ) → bytes_after w (event ∷ all) peer part k ≡ bytes_after w all peer part k
  bytes_left (ConfigWritten p offset width value) all is Config k =
      ap (λ b. byte_after (rows_of w peer Config) (write_or (if b then Some (record { offset = offset; width = width; value = value }) else None) None) k (bytes_after w all peer Config k))
      (opposite peer (p == peer) is)
  bytes_left (ConfigWritten p offset width value) all is Page k = refl
  bytes_left (ConfigWritten p offset width value) all is (Entry n) k = refl
  bytes_left (MsixWritten p offset value) all is Config k = refl
  bytes_left (MsixWritten p offset value) all is Page k = refl
  bytes_left (MsixWritten p offset value) all is (Entry n) k =
      ap (λ b. byte_after (rows_of w peer (Entry n)) (write_or (if b then entry_write w.wiring offset value n else None) None) k (bytes_after w all peer (Entry n) k))
      (opposite peer (p == peer) is)
  bytes_left (RegisterWritten p offset value) all is Config k = refl
  bytes_left (RegisterWritten p offset value) all is (Entry n) k = refl
  bytes_left (RegisterWritten p offset value) all is Page k =
      ap₂ (λ b v. byte_after (rows_of w peer Page)
      (write_or (if b then page_write offset value else None)
      (clear_of Page (is_some (delivery_by w.wiring (is_connected all peer) (bytes_after w all peer) v) && is_one_shot (bytes_after w all peer))))
      k (bytes_after w all peer Page k))
      (left peer p offset value is).other (untriggered peer (bytes_after w all) (RegisterWritten p offset value) is)
  bytes_left (WasReset p) all is part k = absurd cc
  bytes_left (WasDisconnected p) all is part k = absurd cc
  bytes_left (WasConnected p) all is part k = absurd cc

  -- It leaves every connection and every State too.
  connected_left : (event : Event) (before : Bool) (q : ℕ) → may_leave_out peer event ≡ true → connected_after event q before ≡ before
  connected_left (ConfigWritten p offset width value) before q is = refl
  connected_left (RegisterWritten p offset value) before q is = refl
  connected_left (MsixWritten p offset value) before q is = refl
  connected_left (WasReset p) before q is = refl
  connected_left (WasDisconnected p) before q is = absurd cc
  connected_left (WasConnected p) before q is = absurd cc

  state_left : (event : Event) (before q : ℕ) → may_leave_out peer event ≡ true → new_state event q before ≡ before
  unfolding new_state
  state_left (ConfigWritten p offset width value) before q is = refl
  state_left (MsixWritten p offset value) before q is = refl
  state_left (WasReset p) before q is = absurd cc
  state_left (WasDisconnected p) before q is = absurd cc
  state_left (WasConnected p) before q is = absurd cc
  state_left (RegisterWritten p offset value) before q is =
      ap (λ b. if p == q && b then stored value else before) (left peer p offset value is).no_state ∙ neither (p == q) where
        neither : (b : Bool) → (if b && false then stored value else before) ≡ before
        neither true = refl
        neither false = refl

  left_agrees : (event : Event) (applied all : List Event) → may_leave_out peer event ≡ true → Agree applied all → Agree applied (event ∷ all)
  left_agrees event applied all is agree = record {
    connected = λ q. agree.connected q ∙ sym (connected_left event (is_connected all q) q is);
    states = λ q. agree.states q ∙ sym (state_after w event all q ∙ state_left event (state_in (bytes_after w all q)) q is);
    bytes = agree.bytes ∙ sym (fun_ext (λ part. fun_ext (λ k. bytes_left event all is part k)));
  }

  -- The peer at its connection.
  bytes_joined : (events : List Event) (part : Part) (k : ℕ) → bytes_after w (WasConnected peer ∷ events) peer part k ≡ reset_byte (rows_of w peer part) k
  bytes_joined events part k =
      ap (λ b. if b then reset_byte (rows_of w peer part) k
      else byte_after (rows_of w peer part) (whole_write_of w.wiring (is_connected events) (bytes_after w events) (WasConnected peer) peer part) k (bytes_after w events peer part k))
      (eq-eqb peer peer refl)

  joined_agrees : (applied all : List Event) → OthersAgree w peer applied all → Agree (WasConnected peer ∷ applied) (WasConnected peer ∷ all)
  unfolding new_state
  joined_agrees applied all others = record {
    connected = λ q. elim (nat_cases q peer) [
      | inl same ↦ ap (λ b. if b then true else is_connected applied q) (eq-eqb peer q (sym same)) ∙ sym (ap (λ b. if b then true else is_connected all q) (eq-eqb peer q (sym same)))
      | inr other ↦ ap (connected_after (WasConnected peer) q) (others.connected q other)
    ];
    states = λ q. state_after w (WasConnected peer) applied q ∙ elim (nat_cases q peer) [
      | inl same ↦ ap (λ b. if b then 0 else state_in (bytes_after w applied q)) (eq-eqb peer q (sym same))
          ∙ sym (ap (λ b. if b then 0 else state_in (bytes_after w all q)) (eq-eqb peer q (sym same)))
      | inr other ↦ ap (new_state (WasConnected peer) q) (others.states q other)
    ] ∙ sym (state_after w (WasConnected peer) all q);
    bytes = fun_ext (λ part. fun_ext (λ k. bytes_joined applied part k ∙ sym (bytes_joined all part k)));
  }

  -- The events that a process applies make its devices agree with those of all events.
  pub agrees : (applied all : List Event) → Applies w peer applied all → Agree applied all
  agrees _ _ starts = record { connected = λ q. refl; states = λ q. refl; bytes = refl }
  agrees _ _ (joins applied all others) = joined_agrees applied all others
  agrees _ _ (goes_on event applied all before) = applied_agrees event applied all (agrees applied all before)
  agrees _ _ (leaves_out event applied all is before) = left_agrees event applied all is (agrees applied all before)

  -- An event that may be left out brings the peer no interrupt.
  pub none_missed : (event : Event) (all : List Event) → may_leave_out peer event ≡ true → delivery_of w.wiring (is_connected all) (bytes_after w all) event peer ≡ None
  none_missed event all is = ap (delivery_by w.wiring (is_connected all peer) (bytes_after w all peer)) (untriggered peer (bytes_after w all) event is)
