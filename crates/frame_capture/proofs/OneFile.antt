-- A file is of one capture.
use Rattle.std.proofs.Common.{◌≡◌, ℕ, ◌+◌, ◌^◌, ◌<◌, Bool, true, false, List, [], ◌∷◌, ◌++◌, length, take, drop, map, refl, sym, ap, subst, ◌∙◌, arith, append_assoc, length-append, inl, inr}
use Rattle.std.specs.Prelude.{All, ◌==◌, if◌then◌else◌}
use Rattle.std.specs.List.{flat_map}
use Rattle.std.proofs.lemmas.List.{append-nil, map-append}
use Rattle.std.proofs.lemmas.List.Concat.{flat_map-cons}
use Rattle.std.proofs.lemmas.List.Elements.{All-head, All-tail}
use Rattle.std.proofs.Math.Seq.{take-append_seam, drop-append_seam}
use Rattle.lawful_history.specs.declared.line.Line.{Line}
use Rattle.lawful_history.specs.declared.line.Line.TheVariants.{Deliver}
use Rattle.frame_capture.specs.declared.order.Order.{Order}
use Rattle.frame_capture.specs.declared.order.Order.TheVariants.{Little, Big}
use Rattle.frame_capture.specs.declared.packets.Packet.{Packet}
use Rattle.frame_capture.specs.declared.packets.Capture.{Capture}
use Rattle.frame_capture.specs.CaptureFile.{number_at, IsInOrder, header_bytes, packet_bytes, packets_bytes, IsPacket, IsCaptureFile}
use Rattle.frame_capture.specs.Faults.{HasHeader, captured_length, IsTooLong, IsCut}
use Rattle.frame_capture.specs.Deliveries.{packet_of, line_packets, packets_from}
use Rattle.frame_capture.specs.Laws.{AreBytes, FileIsOfOneCapture, delivered_frame, FramesAreDelivered}
use Rattle.frame_capture.proofs.Bytes.{read-written}
use Rattle.frame_capture.proofs.Cuts.{length-packet_bytes}

-- ---- a packet

seconds_at : (order : Order) (p : Packet) (left : List ℕ) → IsPacket p → number_at order 4 0 (packet_bytes order p ++ left) ≡ p.seconds
seconds_at Little p left is = read-written Little 4 p.seconds [] is.seconds
seconds_at Big p left is = read-written Big 4 p.seconds [] is.seconds

micros_at : (order : Order) (p : Packet) (left : List ℕ) → IsPacket p → number_at order 4 4 (packet_bytes order p ++ left) ≡ p.micros
micros_at Little p left is = read-written Little 4 p.micros [] is.micros
micros_at Big p left is = read-written Big 4 p.micros [] is.micros

pub length_at : (order : Order) (p : Packet) (left : List ℕ) → IsPacket p → captured_length order (packet_bytes order p ++ left) ≡ length p.frame
length_at Little p left is = let short = is.short in read-written Little 4 (length p.frame) [] (omega arith)
length_at Big p left is = let short = is.short in read-written Big 4 (length p.frame) [] (omega arith)

original_at : (order : Order) (p : Packet) (left : List ℕ) → IsPacket p → number_at order 4 12 (packet_bytes order p ++ left) ≡ p.original
original_at Little p left is = read-written Little 4 p.original [] is.original
original_at Big p left is = read-written Big 4 p.original [] is.original

frame_at : (order : Order) (p : Packet) (left : List ℕ) → drop 16 (packet_bytes order p ++ left) ≡ p.frame ++ left
frame_at Little p left = refl
frame_at Big p left = refl

same_packet : (s m o t n q : ℕ) (f g : List ℕ) → s ≡ t → m ≡ n → o ≡ q → f ≡ g
    → ◌≡◌ {A = Packet} (record { seconds = s; micros = m; original = o; frame = f }) (record { seconds = t; micros = n; original = q; frame = g })
same_packet s m o t n q f g a b c d = cc

same_front : (f g left next : List ℕ) → length f ≡ length g → f ++ left ≡ g ++ next → f ≡ g
same_front f g left next size e = sym (take-append_seam f left) ∙ ap (take (length f)) e ∙ ap (λ (n : ℕ). take n (g ++ next)) size ∙ take-append_seam g next

same_back : (f g left next : List ℕ) → length f ≡ length g → f ++ left ≡ g ++ next → left ≡ next
same_back f g left next size e = sym (drop-append_seam f left) ∙ ap (drop (length f)) e ∙ ap (λ (n : ℕ). drop n (g ++ next)) size ∙ drop-append_seam g next

one_packet : (order : Order) (p q : Packet) (left next : List ℕ) → IsPacket p → IsPacket q → packet_bytes order p ++ left ≡ packet_bytes order q ++ next → (p ≡ q) × (left ≡ next)
one_packet order p q left next is isq e =
    let s = sym (seconds_at order p left is) ∙ ap (number_at order 4 0) e ∙ seconds_at order q next isq in
    let m = sym (micros_at order p left is) ∙ ap (number_at order 4 4) e ∙ micros_at order q next isq in
    let o = sym (original_at order p left is) ∙ ap (number_at order 4 12) e ∙ original_at order q next isq in
    let size = sym (length_at order p left is) ∙ ap (captured_length order) e ∙ length_at order q next isq in
    let both = sym (frame_at order p left) ∙ ap (drop 16) e ∙ frame_at order q next in
    (same_packet p.seconds p.micros p.original q.seconds q.micros q.original p.frame q.frame s m o (same_front p.frame q.frame left next size both), same_back p.frame q.frame left next size both)

-- ---- consecutive packets

-- The bytes begin with no packet.
pub record EndsHere (order : Order) (left : List ℕ) : Type 0 where
  pub none : (p : Packet) (next : List ℕ) → IsPacket p → left ≡ packet_bytes order p ++ next → ⊥

pub no_bytes_end : (order : Order) → EndsHere order []
no_bytes_end order = record { none = λ p next is e. absurd (omega (arith, ap length e, length-append (packet_bytes order p) next, length-packet_bytes order p)) }

pub too_long_ends : (order : Order) (left : List ℕ) → IsTooLong order left → EndsHere order left
too_long_ends order left long = record { none = λ p next is e. absurd (let size = ap (captured_length order) e ∙ length_at order p next is in let short = is.short in omega arith) }

cut_short : (order : Order) (left : List ℕ) (p : Packet) (next : List ℕ) → IsCut order left → IsPacket p → left ≡ packet_bytes order p ++ next → ⊥
cut_short order left p next (some, inl short) is e = omega (arith, ap length e, length-append (packet_bytes order p) next, length-packet_bytes order p)
cut_short order left p next (some, inr (fits, short)) is e =
    let size = ap (captured_length order) e ∙ length_at order p next is in
    omega (arith, ap length e, length-append (packet_bytes order p) next, length-packet_bytes order p)

pub cut_ends : (order : Order) (left : List ℕ) → IsCut order left → EndsHere order left
cut_ends order left cut = record { none = λ p next is e. cut_short order left p next cut is e }

first_and_more : (order : Order) (p : Packet) (ps : List Packet) (left : List ℕ) → packets_bytes order (p ∷ ps) ++ left ≡ packet_bytes order p ++ (packets_bytes order ps ++ left)
first_and_more order p ps left = ap (λ (t : List ℕ). t ++ left) (flat_map-cons (packet_bytes order) p ps) ∙ append_assoc (packet_bytes order p) (packets_bytes order ps) left

pub one_run : (order : Order) (ps qs : List Packet) (left next : List ℕ) → All IsPacket ps → All IsPacket qs → EndsHere order left → EndsHere order next
    → packets_bytes order ps ++ left ≡ packets_bytes order qs ++ next → (ps ≡ qs) × (left ≡ next)
one_run order [] [] left next all alls ends endsq e = (refl, e)
one_run order [] (q ∷ qs) left next all alls ends endsq e = absurd (ends.none q (packets_bytes order qs ++ next) (All-head IsPacket q qs alls) (e ∙ first_and_more order q qs next))
one_run order (p ∷ ps) [] left next all alls ends endsq e = absurd (endsq.none p (packets_bytes order ps ++ left) (All-head IsPacket p ps all) (sym e ∙ first_and_more order p ps left))
one_run order (p ∷ ps) (q ∷ qs) left next all alls ends endsq e =
    let first = one_packet order p q _ _ (All-head IsPacket p ps all) (All-head IsPacket q qs alls) (sym (first_and_more order p ps left) ∙ e ∙ first_and_more order q qs next) in
    let later = one_run order ps qs left next (All-tail IsPacket p ps all) (All-tail IsPacket q qs alls) ends endsq first.1 in
    (ap (λ r. r ∷ ps) first.0 ∙ ap (λ rs. q ∷ rs) later.0, later.1)

-- ---- the header

header_is : (order : Order) (zone figures snaplen : ℕ) (body : List ℕ) → HasHeader order (header_bytes order zone figures snaplen ++ body)
header_is Little zone figures snaplen body = ((omega arith, refl), (refl, refl), refl)
header_is Big zone figures snaplen body = ((omega arith, refl), (refl, refl), refl)

body_is : (order : Order) (zone figures snaplen : ℕ) (body : List ℕ) → drop 24 (header_bytes order zone figures snaplen ++ body) ≡ body
body_is Little zone figures snaplen body = refl
body_is Big zone figures snaplen body = refl

snaplen_is : (order : Order) (zone figures snaplen : ℕ) (body : List ℕ) → snaplen < 2 ^ 32 → number_at order 4 16 (header_bytes order zone figures snaplen ++ body) ≡ snaplen
snaplen_is Little zone figures snaplen body fits = read-written Little 4 snaplen [] fits
snaplen_is Big zone figures snaplen body fits = read-written Big 4 snaplen [] fits

pub file_header : (capture : Capture) (bytes : List ℕ) (h : IsCaptureFile capture bytes) → HasHeader h.order bytes
file_header capture bytes h = subst (HasHeader h.order) (sym h.spelled) (header_is h.order h.zone h.figures capture.snaplen (packets_bytes h.order capture.packets))

pub file_packets : (capture : Capture) (bytes : List ℕ) (h : IsCaptureFile capture bytes) → drop 24 bytes ≡ packets_bytes h.order capture.packets
file_packets capture bytes h = ap (drop 24) h.spelled ∙ body_is h.order h.zone h.figures capture.snaplen (packets_bytes h.order capture.packets)

file_snaplen : (capture : Capture) (bytes : List ℕ) (h : IsCaptureFile capture bytes) → number_at h.order 4 16 bytes ≡ capture.snaplen
file_snaplen capture bytes h = ap (number_at h.order 4 16) h.spelled ∙ snaplen_is h.order h.zone h.figures capture.snaplen (packets_bytes h.order capture.packets) h.snaplen

-- No bytes begin with the magic number in both orders.
pub one_order : (bytes : List ℕ) (a b : Order) → AreBytes bytes → IsInOrder a bytes → IsInOrder b bytes → a ≡ b
one_order bytes Little Little small h g = refl
one_order bytes Little Big small h g = absurd (omega (arith, small 0, small 1, small 2, small 3))
one_order bytes Big Little small h g = absurd (omega (arith, small 0, small 1, small 2, small 3))
one_order bytes Big Big small h g = refl

same_capture : (s t : ℕ) (ps qs : List Packet) → s ≡ t → ps ≡ qs → ◌≡◌ {A = Capture} (record { snaplen = s; packets = ps }) (record { snaplen = t; packets = qs })
same_capture s t ps qs a b = cc

pub one_file : FileIsOfOneCapture
one_file bytes a b small h g =
    let order = one_order bytes h.order g.order small (file_header a bytes h).0.1 (file_header b bytes g).0.1 in
    let snaplen = sym (file_snaplen a bytes h) ∙ ap (λ (o : Order). number_at o 4 16 bytes) order ∙ file_snaplen b bytes g in
    let spelled = append-nil (packets_bytes h.order a.packets) ∙ sym (file_packets a bytes h) ∙ file_packets b bytes g ∙ ap (λ (o : Order). packets_bytes o b.packets) (sym order) ∙ sym (append-nil (packets_bytes h.order b.packets)) in
    same_capture a.snaplen b.snaplen a.packets b.packets snaplen (one_run h.order a.packets b.packets [] [] h.each g.each (no_bytes_end h.order) (no_bytes_end h.order) spelled).0

-- ---- deliveries

one_frame : (b : Bool) (number : ℕ) (frame : List ℕ) → map (λ p. p.frame) (if b then packet_of number frame ∷ [] else []) ≡ (if b then frame ∷ [] else [])
one_frame true number frame = refl
one_frame false number frame = refl

line_frame : (peer number : ℕ) (line : Line) → map (λ p. p.frame) (line_packets peer number line) ≡ delivered_frame peer line
line_frame peer number (Deliver receiver frame) = one_frame (receiver == peer) number frame
line_frame peer number _ = refl

frames_from : (peer number : ℕ) (lines : List Line) → map (λ p. p.frame) (packets_from peer number lines) ≡ flat_map (delivered_frame peer) lines
frames_from peer number [] = refl
frames_from peer number (line ∷ lines) =
    map-append (λ p. p.frame) (line_packets peer number line) (packets_from peer (number + 1) lines)
    ∙ ap (λ (fs : List (List ℕ)). fs ++ map (λ p. p.frame) (packets_from peer (number + 1) lines)) (line_frame peer number line)
    ∙ ap (λ (fs : List (List ℕ)). delivered_frame peer line ++ fs) (frames_from peer (number + 1) lines)
    ∙ sym (flat_map-cons (delivered_frame peer) line lines)

pub frames_are_delivered : FramesAreDelivered
frames_are_delivered peer lines = frames_from peer 1 lines
