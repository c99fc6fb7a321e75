-- The effect of each kind of event on its peer. It spares the others.
use Rattle.std.proofs.Common.{◌≡◌, ◌≢◌, ℕ, ◌/◌, ◌%◌, List, ◌∷◌, Some, None, refl, sym, ◌∙◌, ap, subst, inl, inr, eq-eqb}
use Rattle.std.specs.Prelude.{Bool, true, false, ◌&&◌, not, ◌==◌, if◌then◌else◌, ◌⊎◌}
use Rattle.std.proofs.lemmas.Bool.{ne_eqb, eqb-true}
use Rattle.pci_space.specs.declared.wiring.Wiring.{Wiring}
use Rattle.doorbell_irq.specs.Peer.{Registers}
use Rattle.doorbell_irq.specs.Events.{Devices, Event, ConfigWritten, RegisterWritten, MsixWritten, WasReset, WasDisconnected, WasConnected, Part, Config, Page, Entry}
use Rattle.doorbell_irq.specs.DeviceRules.{state_in, vector_by, vector_of, reset_event, page_write, entry_write, write_of, is_connected, bytes_after}
use Rattle.doorbell_irq.specs.Registers.{IsPeer, Writes, IsReset}
use Rattle.doorbell_irq.proofs.Steps.{peer_written, peer_kept, peer_reset}
use Rattle.doorbell_irq.proofs.Devices.{Spares}

-- A number is equal to itself.
same_eqb : (n : ℕ) → (n == n) ≡ true
same_eqb n = eq-eqb n n refl

-- Another peer isn't the source.
other_eqb : (source peer : ℕ) → peer ≢ source → (source == peer) ≡ false
other_eqb source peer other = ne_eqb source peer (λ same. other (sym same))

-- A new State doesn't trigger its own peer.
state_spares : (old source value : ℕ) → vector_by old source value source ≡ None
state_spares old source value = ap (λ b. if not b && not (old == value) then Some 0 else None) (same_eqb source)

module _ (w : Devices) (events : List Event) where
  pub config_spares : (source offset width value peer : ℕ) → peer ≢ source → Spares w (ConfigWritten source offset width value) peer
  config_spares source offset width value peer other = record {
    registers = refl;
    connection = λ before. refl;
    writes = nothing;
  } where
    nothing : (part : Part) → write_of w.wiring (ConfigWritten source offset width value) peer part ≡ None
    nothing Config = ap (λ b. if b then Some (record { offset = offset; width = width; value = value }) else None) (other_eqb source peer other)
    nothing Page = refl
    nothing (Entry n) = refl

  pub register_spares : (source offset value peer : ℕ) → peer ≢ source → Spares w (RegisterWritten source offset value) peer
  register_spares source offset value peer other = record {
    registers = refl;
    connection = λ before. refl;
    writes = nothing;
  } where
    nothing : (part : Part) → write_of w.wiring (RegisterWritten source offset value) peer part ≡ None
    nothing Config = refl
    nothing Page = ap (λ b. if b then page_write offset value else None) (other_eqb source peer other)
    nothing (Entry n) = refl

  pub msix_spares : (source offset value peer : ℕ) → peer ≢ source → Spares w (MsixWritten source offset value) peer
  msix_spares source offset value peer other = record {
    registers = refl;
    connection = λ before. refl;
    writes = nothing;
  } where
    nothing : (part : Part) → write_of w.wiring (MsixWritten source offset value) peer part ≡ None
    nothing Config = refl
    nothing Page = refl
    nothing (Entry n) = ap (λ b. if b then entry_write w.wiring offset value n else None) (other_eqb source peer other)

  pub reset_spares : (disconnects : Bool) (source peer : ℕ) → peer ≢ source → Spares w (reset_event disconnects source) peer
  reset_spares false source peer other = record {
    registers = other_eqb source peer other;
    connection = λ before. refl;
    writes = λ part. refl;
  }
  reset_spares true source peer other = record {
    registers = other_eqb source peer other;
    connection = λ before. ap (λ b. if b then false else before) (other_eqb source peer other);
    writes = λ part. refl;
  }

  pub connect_spares : (source peer : ℕ) → peer ≢ source → Spares w (WasConnected source) peer
  connect_spares source peer other = record {
    registers = other_eqb source peer other;
    connection = λ before. ap (λ b. if b then true else before) (other_eqb source peer other);
    writes = λ part. refl;
  }

  module _ (source : ℕ) (old new : Registers) (is : IsPeer w events source old) where
    pub config_written : (offset width value : ℕ) → Writes (Some (record { offset = offset; width = width; value = value })) None (λ n. None) old new →
        IsPeer w (ConfigWritten source offset width value ∷ events) source new
    config_written offset width value written =
        peer_written w events source (ConfigWritten source offset width value) (Some (record { offset = offset; width = width; value = value })) None (λ n. None) old new
        refl refl refl (ap (λ b. if b then Some (record { offset = offset; width = width; value = value }) else None) (same_eqb source)) refl (λ n. refl) is written

    pub msix_written : (wiring : Wiring) (offset value : ℕ) → wiring ≡ w.wiring → Writes None None (entry_write wiring offset value) old new →
        IsPeer w (MsixWritten source offset value ∷ events) source new
    msix_written wiring offset value wired written =
        peer_written w events source (MsixWritten source offset value) None None (entry_write w.wiring offset value) old new
        refl refl refl refl refl (λ n. ap (λ b. if b then entry_write w.wiring offset value n else None) (same_eqb source)) is
        (subst (λ v. Writes None None (entry_write v offset value) old new) wired written)

    -- A write to a register: a doorbell writes nothing, and any other write doesn't trigger its own
    -- peer.
    pub register_written : (offset value : ℕ) → Writes None (page_write offset value) (λ n. None) old new →
        (IsPeer w events source new × Spares w (RegisterWritten source offset value) source)
        ⊎ (IsPeer w (RegisterWritten source offset value ∷ events) source new × (vector_of (bytes_after w events) (RegisterWritten source offset value) source ≡ None))
    register_written offset value written = by_doorbell (offset == 0x0C) refl where
      quiet : (offset == 0x0C) ≡ false → vector_of (bytes_after w events) (RegisterWritten source offset value) source ≡ None
      quiet unlike = ap (λ b. if b then (if value / 65536 == source then Some (value % 65536) else None)
          else if offset == 0x10 then vector_by (state_in (bytes_after w events source)) source value source else None) unlike
          ∙ either (offset == 0x10) where
            either : (b : Bool) → (if b then vector_by (state_in (bytes_after w events source)) source value source else None) ≡ None
            either true = state_spares (state_in (bytes_after w events source)) source value
            either false = refl

      by_doorbell : (b : Bool) → (offset == 0x0C) ≡ b →
          (IsPeer w events source new × Spares w (RegisterWritten source offset value) source)
          ⊎ (IsPeer w (RegisterWritten source offset value ∷ events) source new × (vector_of (bytes_after w events) (RegisterWritten source offset value) source ≡ None))
      by_doorbell true rung =
          let none : page_write offset value ≡ None = ap (λ o. page_write o value) (eqb-true offset 0x0C rung) in
          inl (
            peer_kept w events source old new is (subst (λ a. Writes None a (λ n. None) old new) none written),
            record { registers = refl; connection = λ before. refl; writes = nothing none },
          ) where
            nothing : page_write offset value ≡ None → (part : Part) → write_of w.wiring (RegisterWritten source offset value) source part ≡ None
            nothing none Config = refl
            nothing none Page = ap (λ b. if b then page_write offset value else None) (same_eqb source) ∙ none
            nothing none (Entry n) = refl
      by_doorbell false unlike = inr (
        peer_written w events source (RegisterWritten source offset value) None (page_write offset value) (λ n. None) old new
            refl refl (quiet unlike) refl (ap (λ b. if b then page_write offset value else None) (same_eqb source)) (λ n. refl) is written,
        quiet unlike,
      )

    pub was_reset : (disconnects : Bool) → IsReset old (if disconnects then false else old.connected) new → IsPeer w (reset_event disconnects source ∷ events) source new
    was_reset false blank = peer_reset w events source (WasReset source) old.connected old new (same_eqb source) (sym is.connected) is blank
    was_reset true blank = peer_reset w events source (WasDisconnected source) false old new (same_eqb source)
        (ap (λ b. if b then false else is_connected events source) (same_eqb source)) is blank

    pub was_connected : IsReset old true new → IsPeer w (WasConnected source ∷ events) source new
    was_connected blank = peer_reset w events source (WasConnected source) true old new (same_eqb source)
        (ap (λ b. if b then true else is_connected events source) (same_eqb source)) is blank

  -- A reset doesn't trigger its own peer.
  pub reset_quiet : (disconnects : Bool) (source : ℕ) → vector_of (bytes_after w events) (reset_event disconnects source) source ≡ None
  reset_quiet false source = state_spares (state_in (bytes_after w events source)) source 0
  reset_quiet true source = state_spares (state_in (bytes_after w events source)) source 0

  -- The triggers at the others, by the peer's old State.
  pub reset_triggers : (disconnects : Bool) (source peer : ℕ) → vector_by (state_in (bytes_after w events source)) source 0 peer ≡ vector_of (bytes_after w events) (reset_event disconnects source) peer
  reset_triggers false source peer = refl
  reset_triggers true source peer = refl
