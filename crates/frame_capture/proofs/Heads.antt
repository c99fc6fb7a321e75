-- A file from its header and its packets.
use Rattle.std.proofs.Common.{◌≡◌, ℕ, ◌^◌, ◌<◌, List, ◌++◌, drop, refl, sym, ap, ◌∙◌, arith, append_assoc}
use Rattle.std.specs.Prelude.{All}
use Rattle.frame_capture.specs.declared.order.Order.{Order}
use Rattle.frame_capture.specs.declared.packets.Packet.{Packet}
use Rattle.frame_capture.specs.declared.faults.CaptureFault.{CaptureFault}
use Rattle.frame_capture.specs.declared.faults.CaptureFault.TheVariants.{BadPacket, CutPacket, NoMemory}
use Rattle.frame_capture.specs.CaptureFile.{bytes_of, number_at, magic, header_bytes, packets_bytes, IsPacket, AreShort, IsCaptureFile}
use Rattle.frame_capture.specs.Faults.{HasHeader, IsCaptureFault}
use Rattle.frame_capture.specs.Reading.{IsPacketsFault}
use Rattle.frame_capture.proofs.Bytes.{AreBytes}
use Rattle.frame_capture.proofs.Cuts.{number_cut, number_cut16}

eight : (a b c d e f g left bytes left4 left6 left8 left12 left16 left20 : List ℕ) → bytes ≡ a ++ left4 → left4 ≡ b ++ left6 → left6 ≡ c ++ left8 → left8 ≡ d ++ left12
    → left12 ≡ e ++ left16 → left16 ≡ f ++ left20 → left20 ≡ g ++ left → bytes ≡ (a ++ b ++ c ++ d ++ e ++ f ++ g) ++ left
eight a b c d e f g left bytes left4 left6 left8 left12 left16 left20 e4 e6 e8 e12 e16 e20 e24 = rw (e4, e6, e8, e12, e16, e20, e24) (simp append_assoc)

-- Bytes with a right header are that header and the bytes after it.
header_cut : (order : Order) (bytes : List ℕ) → AreBytes bytes → HasHeader order bytes
    → bytes ≡ header_bytes order (number_at order 4 8 bytes) (number_at order 4 12 bytes) (number_at order 4 16 bytes) ++ drop 24 bytes
header_cut order bytes small h =
    let long = h.0.0 in
    let e4 : bytes ≡ bytes_of order 4 magic ++ drop 4 bytes = number_cut order bytes 0 4 small (omega arith) refl ∙ ap (λ (n : ℕ). bytes_of order 4 n ++ drop 4 bytes) h.0.1 in
    let e6 : drop 4 bytes ≡ bytes_of order 2 2 ++ drop 6 bytes = number_cut16 order bytes 4 6 small (omega arith) refl ∙ ap (λ (n : ℕ). bytes_of order 2 n ++ drop 6 bytes) h.1.0 in
    let e8 : drop 6 bytes ≡ bytes_of order 2 4 ++ drop 8 bytes = number_cut16 order bytes 6 8 small (omega arith) refl ∙ ap (λ (n : ℕ). bytes_of order 2 n ++ drop 8 bytes) h.1.1 in
    let e12 = number_cut order bytes 8 12 small (omega arith) refl in
    let e16 = number_cut order bytes 12 16 small (omega arith) refl in
    let e20 = number_cut order bytes 16 20 small (omega arith) refl in
    let e24 : drop 20 bytes ≡ bytes_of order 4 1 ++ drop 24 bytes = number_cut order bytes 20 24 small (omega arith) refl ∙ ap (λ (n : ℕ). bytes_of order 4 n ++ drop 24 bytes) h.2 in
    eight _ _ _ _ _ _ _ _ _ _ _ _ _ _ _ e4 e6 e8 e12 e16 e20 e24

pub file_of : (order : Order) (snaplen : ℕ) (ps : List Packet) (bytes left : List ℕ) → AreBytes bytes → HasHeader order bytes → snaplen < 2 ^ 32 → snaplen ≡ number_at order 4 16 bytes
    → All IsPacket ps → left ≡ drop 24 bytes → left ≡ packets_bytes order ps → IsCaptureFile (record { snaplen = snaplen; packets = ps }) bytes
file_of order snaplen ps bytes left small h fits is each at spelled = record {
  order = order;
  zone = number_at order 4 8 bytes;
  figures = number_at order 4 12 bytes;
  snaplen = fits;
  each = each;
  spelled = rw is (header_cut order bytes small h ∙ ap (λ (t : List ℕ). header_bytes order (number_at order 4 8 bytes) (number_at order 4 12 bytes) (number_at order 4 16 bytes) ++ t) (sym at ∙ spelled));
}

-- A fault of the packets is one of the file.
pub fault_of : (order : Order) (bytes left : List ℕ) (fault : CaptureFault) → HasHeader order bytes → left ≡ drop 24 bytes → IsPacketsFault order left fault → IsCaptureFault bytes fault
fault_of order bytes left (BadPacket number) h is bad = (order, h, rw is at bad)
fault_of order bytes left (CutPacket number) h is bad = (order, h, rw is at bad)
fault_of order bytes left NoMemory h is bad = tt
fault_of order bytes left _ h is bad = absurd bad

pub each_short : (ps : List Packet) → All IsPacket ps → AreShort ps
each_short ps each k d lt = let is = each k d lt in is.short
