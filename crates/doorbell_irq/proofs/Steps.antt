-- One peer's registers after one more event.
use Rattle.std.proofs.Common.{◌≡◌, ℕ, List, ◌∷◌, Some, None, refl, sym, ◌∙◌, ap, ap₂, arith}
use Rattle.std.specs.Prelude.{Bool, true, false, ◌&&◌, if◌then◌else◌, Option, is_some, slice_index}
use Rattle.pci_space.specs.Fields.{Contents, reset_byte}
use Rattle.doorbell_irq.specs.Peer.{Registers}
use Rattle.doorbell_irq.specs.Events.{Devices, Event, Part, Config, Page, Entry, rows_of}
use Rattle.doorbell_irq.specs.DeviceRules.{Write, is_one_shot, vector_of, resets, write_of, clear_of, write_or, byte_after, delivery_of, delivery_by, whole_write_of, connected_after, is_connected, bytes_after}
use Rattle.doorbell_irq.specs.Registers.{register_bytes, delivery_at, Writes, Takes, IsPart, IsPeer, IsWritten, IsSpaceReset, IsReset}
use Rattle.std.proofs.lemmas.Option.{slice_get_within}
use Rattle.doorbell_irq.proofs.Lists.{slice_get-within}
use Rattle.doorbell_irq.proofs.RegistersOfPeer.{delivery_same, one_shot_same}

-- Writes that write nothing.
abbrev pub Keeps : Registers → Registers → Type 0
Keeps old new = Writes None None (λ n. None) old new

-- Registers keep themselves.
pub keeps : (r : Registers) → Keeps r r
keeps r = record {
  connected = refl;
  in_config = record { rows = refl; bytes = λ k. refl };
  in_page = record { rows = refl; bytes = λ k. refl };
  count = refl;
  in_entries = λ n before after one other.
      let same : before ≡ after = cc in
      record { rows = ap (λ (s : Contents). s.rows) (sym same); bytes = λ k. ap (λ (s : Contents). slice_index s.bytes k) (sym same) };
}

module _ (w : Devices) (events : List Event) (peer : ℕ) where
  -- A space that is written nothing stays that of its part.
  part_kept : (part : Part) (old new : Contents) → IsPart w events peer part old → IsWritten None old new → IsPart w events peer part new
  part_kept part old new was written = record { rows = written.rows ∙ was.rows; bytes = λ k. written.bytes k ∙ was.bytes k }

  -- Registers that are written nothing stay those of the peer.
  pub peer_kept : (old new : Registers) → IsPeer w events peer old → Keeps old new → IsPeer w events peer new
  peer_kept old new was kept = record {
    connected = kept.connected ∙ was.connected;
    config = part_kept Config old.config new.config was.config kept.in_config;
    page = part_kept Page old.page new.page was.page kept.in_page;
    count = omega (arith, kept.count, was.count);
    entries = λ n after at.
        let found = slice_get-within old.entries n (omega (arith, kept.count, slice_get_within new.entries n after at)) in
        part_kept (Entry n) found.0 after (was.entries n found.0 found.1) (kept.in_entries n found.0 after found.1 at);
  }

  module _ (event : Event) where
    -- The write of the event to a part of the peer.
    abbrev write_to : Part → Option Write
    write_to part = whole_write_of w.wiring (is_connected events) (bytes_after w events) event peer part

    -- A space changes by the event's write.
    part_written : (part : Part) (write : Option Write) (old new : Contents) → resets event peer ≡ false → write_to part ≡ write →
        IsPart w events peer part old → IsWritten write old new → IsPart w (event ∷ events) peer part new
    part_written part write old new kept is was written = record {
      rows = written.rows ∙ was.rows;
      bytes = λ k. written.bytes k
          ∙ ap₂ (λ rows b. byte_after rows write k b) was.rows (was.bytes k)
          ∙ sym (ap₂ (λ (r : Bool) (a : Option Write). if r then reset_byte (rows_of w peer part) k else byte_after (rows_of w peer part) a k (bytes_after w events peer part k)) kept is);
    }

    -- Registers change by the event's writes.
    peer_goes : (config page : Option Write) (entry : ℕ → Option Write) (old new : Registers) → resets event peer ≡ false →
        connected_after event peer (is_connected events peer) ≡ is_connected events peer →
        write_to Config ≡ config → write_to Page ≡ page → ((n : ℕ) → write_to (Entry n) ≡ entry n) →
        IsPeer w events peer old → Writes config page entry old new → IsPeer w (event ∷ events) peer new
    peer_goes config page entry old new kept linked in_config in_page in_entry was written = record {
      connected = written.connected ∙ was.connected ∙ sym linked;
      config = part_written Config config old.config new.config kept in_config was.config written.in_config;
      page = part_written Page page old.page new.page kept in_page was.page written.in_page;
      count = omega (arith, written.count, was.count);
      entries = λ n after at.
          let found = slice_get-within old.entries n (omega (arith, written.count, slice_get_within new.entries n after at)) in
          part_written (Entry n) (entry n) found.0 after kept (in_entry n) (was.entries n found.0 found.1) (written.in_entries n found.0 after found.1 at);
    }

    none_or : (write : Option Write) → write_or write None ≡ write
    none_or None = refl
    none_or (Some write) = refl

    -- A write of the guest, at a peer that isn't triggered.
    pub peer_written : (config page : Option Write) (entry : ℕ → Option Write) (old new : Registers) → resets event peer ≡ false →
        connected_after event peer (is_connected events peer) ≡ is_connected events peer →
        vector_of (bytes_after w events) event peer ≡ None →
        write_of w.wiring event peer Config ≡ config → write_of w.wiring event peer Page ≡ page → ((n : ℕ) → write_of w.wiring event peer (Entry n) ≡ entry n) →
        IsPeer w events peer old → Writes config page entry old new → IsPeer w (event ∷ events) peer new
    peer_written config page entry old new kept linked quiet in_config in_page in_entry was written =
        peer_goes config page entry old new kept linked
        (none_or (write_of w.wiring event peer Config) ∙ in_config)
        (ap (λ v. write_or (write_of w.wiring event peer Page)
        (clear_of Page (is_some (delivery_by w.wiring (is_connected events peer) (bytes_after w events peer) v) && is_one_shot (bytes_after w events peer)))) quiet
        ∙ none_or (write_of w.wiring event peer Page) ∙ in_page)
        (λ n. none_or (write_of w.wiring event peer (Entry n)) ∙ in_entry n)
        was written

    -- A trigger, or none, at a peer that is written nothing.
    pub peer_taken : (vector : Option ℕ) (old new : Registers) → resets event peer ≡ false →
        connected_after event peer (is_connected events peer) ≡ is_connected events peer →
        vector_of (bytes_after w events) event peer ≡ vector →
        ((part : Part) → write_of w.wiring event peer part ≡ None) →
        IsPeer w events peer old → Takes w.wiring vector old new → IsPeer w (event ∷ events) peer new
    peer_taken vector old new kept linked triggered nothing was taken =
        let delivered : delivery_at w.wiring old vector ≡ delivery_of w.wiring (is_connected events) (bytes_after w events) event peer =
        delivery_same w events peer old was w.wiring was.count vector ∙ ap (delivery_by w.wiring (is_connected events peer) (bytes_after w events peer)) (sym triggered) in
        let clears : clear_of Page (is_some (delivery_at w.wiring old vector) && is_one_shot (register_bytes old))
        ≡ clear_of Page (is_some (delivery_of w.wiring (is_connected events) (bytes_after w events) event peer) && is_one_shot (bytes_after w events peer)) =
        ap₂ (λ d o. clear_of Page (is_some d && o)) delivered (one_shot_same w events peer old was) in
        peer_goes None (clear_of Page (is_some (delivery_at w.wiring old vector) && is_one_shot (register_bytes old))) (λ n. None) old new kept linked
        (ap (λ a. write_or a None) (nothing Config))
        (ap₂ write_or (nothing Page) (sym clears))
        (λ n. ap (λ a. write_or a None) (nothing (Entry n)))
        was taken

    -- A space at reset.
    part_reset : (part : Part) (old new : Contents) → resets event peer ≡ true → IsPart w events peer part old → IsSpaceReset old new → IsPart w (event ∷ events) peer part new
    part_reset part old new now was blank = record {
      rows = blank.rows ∙ was.rows;
      bytes = λ k. blank.bytes k ∙ ap (λ rows. reset_byte rows k) was.rows
          ∙ sym (ap (λ (r : Bool). if r then reset_byte (rows_of w peer part) k else byte_after (rows_of w peer part) (write_to part) k (bytes_after w events peer part k)) now);
    }

    -- A peer at reset.
    pub peer_reset : (connection : Bool) (old new : Registers) → resets event peer ≡ true →
        connected_after event peer (is_connected events peer) ≡ connection →
        IsPeer w events peer old → IsReset old connection new → IsPeer w (event ∷ events) peer new
    peer_reset connection old new now linked was blank = record {
      connected = blank.connected ∙ sym linked;
      config = part_reset Config old.config new.config now was.config blank.config;
      page = part_reset Page old.page new.page now was.page blank.page;
      count = omega (arith, blank.count, was.count);
      entries = λ n after at.
          let found = slice_get-within old.entries n (omega (arith, blank.count, slice_get_within new.entries n after at)) in
          part_reset (Entry n) found.0 after now (was.entries n found.0 found.1) (blank.entries n found.0 after found.1 at);
    }
