-- Writing a file part by part.
use Rattle.std.proofs.Common.{◌≡◌, ◌<◌, ◌+◌, ◌^◌, List, [], ◌∷◌, ◌++◌, ℕ, length, take, get_or, sym, ap, subst, ◌∙◌, append_assoc}
use Rattle.std.specs.Prelude.{All, Result, Ok, Err, OnOk, if◌then◌else◌}
use Rattle.std.specs.Result.{is_ok}
use Rattle.std.proofs.lemmas.List.{take_more}
use Rattle.frame_capture.specs.declared.order.Order.TheVariants.{Little}
use Rattle.frame_capture.specs.declared.packets.Packet.{Packet}
use Rattle.frame_capture.specs.declared.packets.Capture.{Capture}
use Rattle.frame_capture.specs.CaptureFile.{header_bytes, packet_bytes, packets_bytes, IsPacket, IsCaptureFile}
use Rattle.frame_capture.proofs.Cuts.{one_more, all-more}

-- The parts of a header, one after the other.
pub seven : (old o1 o2 o3 o4 o5 o6 o7 a b c d e f g : List ℕ) → o1 ≡ old ++ a → o2 ≡ o1 ++ b → o3 ≡ o2 ++ c → o4 ≡ o3 ++ d → o5 ≡ o4 ++ e → o6 ≡ o5 ++ f → o7 ≡ o6 ++ g
    → o7 ≡ old ++ (a ++ b ++ c ++ d ++ e ++ f ++ g)
seven old o1 o2 o3 o4 o5 o6 o7 a b c d e f g h1 h2 h3 h4 h5 h6 h7 = rw (h7, h6, h5, h4, h3, h2, h1) (simp append_assoc)

-- The parts of a packet, one after the other.
pub five : (old o1 o2 o3 o4 o5 a b c d e : List ℕ) → o1 ≡ old ++ a → o2 ≡ o1 ++ b → o3 ≡ o2 ++ c → o4 ≡ o3 ++ d → o5 ≡ o4 ++ e → o5 ≡ old ++ (a ++ b ++ c ++ d ++ e)
five old o1 o2 o3 o4 o5 a b c d e h1 h2 h3 h4 h5 = rw (h5, h4, h3, h2, h1) (simp append_assoc)

-- The packets before this one, and this one.
pub packets-put : (old now next : List ℕ) (all : List Packet) (i : ℕ) (p : Packet) → i < length all → p ≡ get_or all i p → now ≡ old ++ packets_bytes Little (take i all) → next ≡ now ++ packet_bytes Little p
    → next ≡ old ++ packets_bytes Little (take (i + 1) all)
packets-put old now next all i p lt is before put =
    let more : take (i + 1) all ≡ take i all ++ p ∷ [] = take_more all i p lt ∙ ap (λ (q : Packet). take i all ++ q ∷ []) (sym is) in
    put ∙ ap (λ (t : List ℕ). t ++ packet_bytes Little p) before ∙ append_assoc old (packets_bytes Little (take i all)) (packet_bytes Little p)
    ∙ ap (λ (t : List ℕ). old ++ t) (sym (ap (λ (ps : List Packet). packets_bytes Little ps) more ∙ one_more Little (take i all) p))

pub packets-fit : (all : List Packet) (i : ℕ) (p : Packet) → i < length all → p ≡ get_or all i p → All IsPacket (take i all) → IsPacket p → All IsPacket (take (i + 1) all)
packets-fit all i p lt is before fits =
    let more : take (i + 1) all ≡ take i all ++ p ∷ [] = take_more all i p lt ∙ ap (λ (q : Packet). take i all ++ q ∷ []) (sym is) in
    subst (All IsPacket) (sym more) (all-more IsPacket (take i all) p before fits)

-- A whole file that was written.
pub printed_file : (capture : Capture) (bytes : List ℕ) → capture.snaplen < 2 ^ 32 → All IsPacket capture.packets → bytes ≡ header_bytes Little 0 0 capture.snaplen ++ packets_bytes Little capture.packets → IsCaptureFile capture bytes
printed_file capture bytes snaplen each spelled = record { order = Little; zone = 0; figures = 0; snaplen = snaplen; each = each; spelled = spelled }

-- The bytes written, if the write succeeded.
pub put_well : {T E : Type 0} (r : Result T E) (new more same : List ℕ) → new ≡ (if is_ok r then more else same) → OnOk r (new ≡ more)
put_well (Ok v) new more same is = is
put_well (Err e) new more same is = tt
