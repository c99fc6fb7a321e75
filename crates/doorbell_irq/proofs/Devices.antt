-- A device after one more event.
use Rattle.std.proofs.Common.{◌≡◌, ◌≢◌, ℕ, zero, suc, ◌<◌, ◌≤◌, List, ◌∷◌, ◌++◌, length, get_or, set, length-set, Some, None, refl, sym, ◌∙◌, ap, ap₂, subst, inl, inr, arith}
use Rattle.std.specs.Prelude.{Bool, false, Option, slice_get, ◌⊎◌}
use Rattle.std.proofs.lemmas.Option.{slice_get-get_or}
use Rattle.doorbell_irq.specs.DeviceView.{DeviceView, IsDeviceView}
use Rattle.doorbell_irq.specs.Peer.{Registers}
use Rattle.doorbell_irq.specs.Events.{Devices, Event, Part, vector_count}
use Rattle.doorbell_irq.specs.DeviceRules.{vector_of, resets, write_of, delivery_by, delivery_of, deliveries_below, delivery_to, connected_after, is_connected, bytes_after}
use Rattle.doorbell_irq.specs.Registers.{IsPeer, Takes, delivery_at}
use Rattle.doorbell_irq.specs.declared.trigger.Trigger.{Trigger}
use Rattle.doorbell_irq.specs.Triggers.{vector_at, delivery_if, delivery_among}
use Rattle.doorbell_irq.specs.Refinement.{Refines}
use Rattle.doorbell_irq.proofs.Lists.{slice_get-same, slice_get-set_same, slice_get-set_other, slice_get-within, nat_cases}
use Rattle.doorbell_irq.proofs.RegistersOfPeer.{delivery_same}
use Rattle.doorbell_irq.proofs.Steps.{peer_taken, peer_kept, keeps}

-- Equal deliveries make equal lists.
deliveries_same : (f g : ℕ → Option ℕ) (n : ℕ) → ((peer : ℕ) → peer < n → f peer ≡ g peer) → deliveries_below f n ≡ deliveries_below g n
deliveries_same f g zero same = refl
deliveries_same f g (suc n) same = ap₂ (λ ds d. ds ++ delivery_to n d) (deliveries_same f g n (λ peer less. same peer (omega arith))) (same n (omega arith))

-- The registers of a peer of such a device.
pub peer_at : (w : Devices) (events : List Event) (device : DeviceView) → IsDeviceView device → Refines w events device → (peer : ℕ) (d : Registers) → peer < device.peers →
    IsPeer w events peer (get_or device.registers peer d)
peer_at w events device sound refines peer d inside =
    refines.registers peer (get_or device.registers peer d) (omega (arith, refines.peers))
    (slice_get-get_or device.registers peer d (omega (arith, refines.count, refines.peers)))

-- The same of registers that were read there.
pub peer_read : (w : Devices) (events : List Event) (device : DeviceView) → Refines w events device → (peer : ℕ) (r : Registers) → peer < device.peers →
    r ≡ get_or device.registers peer r → IsPeer w events peer r
peer_read w events device refines peer r inside is =
    subst (λ x. IsPeer w events peer x) (sym is)
    (refines.registers peer (get_or device.registers peer r) (omega (arith, refines.peers))
    (slice_get-get_or device.registers peer r (omega (arith, refines.count, refines.peers))))

-- The event leaves the other peers alone, but for what it triggers.
pub record Spares (w : Devices) (event : Event) (peer : ℕ) : Type 0 where
  pub registers : resets event peer ≡ false
  pub connection : (before : Bool) → connected_after event peer before ≡ before
  pub writes : (part : Part) → write_of w.wiring event peer part ≡ None

module _ (w : Devices) (events : List Event) (event : Event) (old : DeviceView) (sound : IsDeviceView old) (refines : Refines w events old) (source : ℕ) (inside : source < old.peers)
    (spares : (peer : ℕ) → peer ≢ source → Spares w event peer) where
  -- A peer that isn't triggered stays as it is.
  spared : (peer : ℕ) (r : Registers) → peer ≢ source → vector_of (bytes_after w events) event peer ≡ None → IsPeer w events peer r → IsPeer w (event ∷ events) peer r
  spared peer r other quiet is =
      peer_taken w events peer event None r r (spares peer other).registers ((spares peer other).connection (is_connected events peer))
      quiet (spares peer other).writes is (keeps r)

  -- An event that triggers no peer: the source's registers alone change.
  pub moved : (new : DeviceView) (own : Registers) → new.peers ≡ old.peers → new.wiring ≡ old.wiring → new.registers ≡ set old.registers source own →
      ((peer : ℕ) → vector_of (bytes_after w events) event peer ≡ None) → IsPeer w (event ∷ events) source own → Refines w (event ∷ events) new
  moved new own peers wiring registers quiet is = record {
    peers = peers ∙ refines.peers;
    wiring = wiring ∙ refines.wiring;
    count = omega (arith, ap length registers, length-set old.registers source own, refines.count);
    registers = λ peer r here at. elim (nat_cases peer source) [
      | inl same ↦ (
          let found : own ≡ r = slice_get-same (set old.registers source own) source own r
          (slice_get-set_same old.registers source own (omega (arith, refines.count, refines.peers)))
          (ap (slice_get (set old.registers source own)) (sym same) ∙ ap (λ rs. slice_get rs peer) (sym registers) ∙ at) in
          subst (λ p. IsPeer w (event ∷ events) p r) (sym same) (subst (λ x. IsPeer w (event ∷ events) source x) found is)
          )
      | inr other ↦ spared peer r other (quiet peer) (refines.registers peer r here
          (sym (slice_get-set_other old.registers source peer own other) ∙ ap (λ rs. slice_get rs peer) (sym registers) ∙ at))
    ];
  }

  -- The source's registers after its own write or reset. They are those before the event, which may
  -- also trigger the source, or those after it, and then the source isn't triggered.
  abbrev pub Own : Registers → Type 0
  Own own = (IsPeer w events source own × Spares w event source)
      ⊎ (IsPeer w (event ∷ events) source own × (vector_of (bytes_after w events) event source ≡ None))

  module _ (own : Registers) (trigger : Trigger) (goes : Own own)
      (triggered : (peer : ℕ) → vector_at trigger peer ≡ vector_of (bytes_after w events) event peer) where
    -- The registers of a peer before it is triggered.
    before_of : (peer : ℕ) → peer < old.peers → (r : Registers) × (slice_get (set old.registers source own) peer ≡ Some r)
    before_of peer here = slice_get-within (set old.registers source own) peer (omega (arith, length-set old.registers source own, refines.count, refines.peers))

    others_are : (peer : ℕ) (r : Registers) → peer < old.peers → peer ≢ source → slice_get (set old.registers source own) peer ≡ Some r → IsPeer w events peer r
    others_are peer r here other at =
        refines.registers peer r (omega (arith, refines.peers)) (sym (slice_get-set_other old.registers source peer own other) ∙ at)

    own_is : (peer : ℕ) (r : Registers) → peer ≡ source → slice_get (set old.registers source own) peer ≡ Some r → own ≡ r
    own_is peer r same at = slice_get-same (set old.registers source own) source own r
        (slice_get-set_same old.registers source own (omega (arith, refines.count, refines.peers)))
        (ap (slice_get (set old.registers source own)) (sym same) ∙ at)

    -- A peer after the event and its triggers.
    led_at : (peer : ℕ) (before after : Registers) → peer < old.peers → slice_get (set old.registers source own) peer ≡ Some before →
        Takes old.wiring (vector_at trigger peer) before after → IsPeer w (event ∷ events) peer after
    led_at peer before after here at taken =
        let takes : Takes w.wiring (vector_at trigger peer) before after =
        subst (λ wiring. Takes wiring (vector_at trigger peer) before after) refines.wiring taken in
        elim (nat_cases peer source) [
          | inl same ↦ (
              let found = own_is peer before same at in
              subst (λ p. IsPeer w (event ∷ events) p after) (sym same) (elim goes [
                | inl was ↦ peer_taken w events source event (vector_at trigger source) own after was.1.registers
                    (was.1.connection (is_connected events source)) (sym (triggered source)) was.1.writes was.0
                    (subst (λ b. Takes w.wiring (vector_at trigger source) b after) (sym found)
                    (subst (λ p. Takes w.wiring (vector_at trigger p) before after) same takes))
                | inr is ↦ peer_kept w (event ∷ events) source own after is.0
                    (subst (λ v. Takes w.wiring v own after) (triggered source ∙ is.1)
                    (subst (λ b. Takes w.wiring (vector_at trigger source) b after) (sym found)
                    (subst (λ p. Takes w.wiring (vector_at trigger p) before after) same takes)))
              ])
              )
          | inr other ↦ peer_taken w events peer event (vector_at trigger peer) before after (spares peer other).registers
              ((spares peer other).connection (is_connected events peer)) (sym (triggered peer)) (spares peer other).writes
              (others_are peer before here other at) takes
        ]

    -- The device after the event.
    pub led : (new : DeviceView) → new.peers ≡ old.peers → new.wiring ≡ old.wiring → length new.registers ≡ length (set old.registers source own) →
        ((peer : ℕ) (before after : Registers) → peer < old.peers → slice_get (set old.registers source own) peer ≡ Some before →
        slice_get new.registers peer ≡ Some after → Takes old.wiring (vector_at trigger peer) before after) →
        Refines w (event ∷ events) new
    led new peers wiring count takes = record {
      peers = peers ∙ refines.peers;
      wiring = wiring ∙ refines.wiring;
      count = omega (arith, count, length-set old.registers source own, refines.count);
      registers = λ peer r here at.
          let inside : peer < old.peers = omega (arith, refines.peers) in
          let before = before_of peer inside in
          led_at peer before.0 r inside before.1 (takes peer before.0 r inside before.1 at);
    }

    -- The delivery to a peer.
    came_at : (peer : ℕ) → peer < old.peers → delivery_among old.wiring trigger (set old.registers source own) peer
        ≡ delivery_of w.wiring (is_connected events) (bytes_after w events) event peer
    came_at peer here =
        let before = before_of peer here in
        let by_peer : IsPeer w events peer before.0 → delivery_at old.wiring before.0 (vector_at trigger peer)
        ≡ delivery_of w.wiring (is_connected events) (bytes_after w events) event peer =
        λ is. delivery_same w events peer before.0 is old.wiring (subst (λ wiring. vector_count wiring ≤ length before.0.entries) (sym refines.wiring) is.count) (vector_at trigger peer)
        ∙ ap₂ (λ wiring v. delivery_by wiring (is_connected events peer) (bytes_after w events peer) v) refines.wiring (triggered peer) in
        ap (delivery_if old.wiring (vector_at trigger peer)) before.1 ∙ elim (nat_cases peer source) [
          | inl same ↦ elim goes [
            | inl was ↦ by_peer (subst (λ p. IsPeer w events p before.0) (sym same)
                (subst (λ r. IsPeer w events source r) (own_is peer before.0 same before.1) was.0))
            | inr is ↦ (
                let quiet : vector_of (bytes_after w events) event peer ≡ None = ap (vector_of (bytes_after w events) event) same ∙ is.1 in
                ap (delivery_at old.wiring before.0) (triggered peer ∙ quiet)
                ∙ sym (ap (delivery_by w.wiring (is_connected events peer) (bytes_after w events peer)) quiet)
                )
          ]
          | inr other ↦ by_peer (others_are peer before.0 here other before.1)
        ]

    -- The deliveries of the event.
    pub came : deliveries_below (delivery_among old.wiring trigger (set old.registers source own)) old.peers
        ≡ deliveries_below (delivery_of w.wiring (is_connected events) (bytes_after w events) event) w.shape.peers
    came = deliveries_same (delivery_among old.wiring trigger (set old.registers source own))
        (delivery_of w.wiring (is_connected events) (bytes_after w events) event) old.peers came_at
        ∙ ap (deliveries_below (delivery_of w.wiring (is_connected events) (bytes_after w events) event)) refines.peers
