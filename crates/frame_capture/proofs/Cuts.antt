-- Packets and headers cut from bytes.
use Rattle.std.proofs.Common.{◌≡◌, ℕ, ◌+◌, ◌-◌, ◌^◌, ◌<◌, ◌≤◌, List, [], ◌∷◌, ◌++◌, length, take, drop, refl, sym, ap, subst, ◌∙◌, arith, append_assoc, length-drop, length-take, length-append}
use Rattle.std.proofs.lemmas.List.{take-append-drop, get_or-drop, drop-drop}
use Rattle.std.proofs.lemmas.List.{append-nil}
use Rattle.std.proofs.lemmas.List.Concat.{flat_map-append, flat_map-cons}
use Rattle.std.proofs.lemmas.List.Elements.{All-append, All-nil, All-cons}
use Rattle.std.proofs.Math.Seq.{drop-append_seam}
use Rattle.std.specs.Prelude.{All}
use Rattle.frame_capture.specs.declared.order.Order.{Order}
use Rattle.frame_capture.specs.declared.order.Order.TheVariants.{Little, Big}
use Rattle.frame_capture.specs.declared.packets.Packet.{Packet}
use Rattle.frame_capture.specs.declared.reading.Damage.{Damage}
use Rattle.frame_capture.specs.declared.reading.Damage.TheVariants.{TooLong, Cut, NoMemory}
use Rattle.frame_capture.specs.declared.reading.TheConstants.{LONGEST_CAPTURED}
use Rattle.frame_capture.specs.CaptureFile.{bytes_of, number_at, packet_bytes, packets_bytes, IsPacket}
use Rattle.frame_capture.specs.Reading.{StartsWith, IsDamage, IsPacketsFault, fault_at}
use Rattle.frame_capture.proofs.Bytes.{AreBytes, written-read, written-read16}

-- The number at an offset, as bytes, and the bytes after it.
pub number_cut : (order : Order) (bytes : List ℕ) (place next : ℕ) → AreBytes bytes → place + 4 ≤ length bytes → place + 4 ≡ next
    → drop place bytes ≡ bytes_of order 4 (number_at order 4 place bytes) ++ drop next bytes
number_cut order bytes place next small inside is =
    let left : AreBytes (drop place bytes) = λ i. subst (λ b. b < 256) (sym (get_or-drop place bytes i 0)) (small (place + i)) in
    let first = written-read order (drop place bytes) left (omega (arith, length-drop place bytes)) in
    sym (take-append-drop 4 (drop place bytes))
    ∙ ap (λ (t : List ℕ). t ++ drop 4 (drop place bytes)) (sym first)
    ∙ ap (λ (t : List ℕ). bytes_of order 4 (number_at order 4 place bytes) ++ t) (drop-drop 4 place bytes ∙ ap (λ (n : ℕ). drop n bytes) is)

-- The same for 16 bits.
pub number_cut16 : (order : Order) (bytes : List ℕ) (place next : ℕ) → AreBytes bytes → place + 2 ≤ length bytes → place + 2 ≡ next
    → drop place bytes ≡ bytes_of order 2 (number_at order 2 place bytes) ++ drop next bytes
number_cut16 order bytes place next small inside is =
    let left : AreBytes (drop place bytes) = λ i. subst (λ b. b < 256) (sym (get_or-drop place bytes i 0)) (small (place + i)) in
    let first = written-read16 order (drop place bytes) left (omega (arith, length-drop place bytes)) in
    sym (take-append-drop 2 (drop place bytes))
    ∙ ap (λ (t : List ℕ). t ++ drop 2 (drop place bytes)) (sym first)
    ∙ ap (λ (t : List ℕ). bytes_of order 2 (number_at order 2 place bytes) ++ t) (drop-drop 2 place bytes ∙ ap (λ (n : ℕ). drop n bytes) is)

five : (a b c d frame left bytes left4 left8 left12 left16 : List ℕ) → bytes ≡ a ++ left4 → left4 ≡ b ++ left8 → left8 ≡ c ++ left12 → left12 ≡ d ++ left16 → left16 ≡ frame ++ left
    → bytes ≡ (a ++ b ++ c ++ d ++ frame) ++ left
five a b c d frame left bytes left4 left8 left12 left16 e4 e8 e12 e16 e = rw (e4, e8, e12, e16, e) (simp append_assoc)

-- `size` bytes after the header have that length.
pub taken : (frame bytes : List ℕ) (size : ℕ) → 16 + size ≤ length bytes → frame ≡ take (16 + size - 16) (drop 16 bytes) → length frame ≡ size
taken frame bytes size whole is = let n : 16 + size - 16 ≡ size = omega arith in ap length is ∙ length-take (16 + size - 16) (drop 16 bytes) ∙ omega (arith, length-drop 16 bytes)

-- The packet whose parts are at these offsets.
pub packet_at : (order : Order) (p : Packet) (bytes : List ℕ) (size : ℕ) → AreBytes bytes → p.seconds < 2 ^ 32 → p.micros < 2 ^ 32 → p.original < 2 ^ 32
    → size ≤ LONGEST_CAPTURED → 16 + size ≤ length bytes
    → p.seconds ≡ number_at order 4 0 bytes → p.micros ≡ number_at order 4 4 bytes → size ≡ number_at order 4 8 bytes
    → p.original ≡ number_at order 4 12 bytes → p.frame ≡ take (16 + size - 16) (drop 16 bytes) → StartsWith order p bytes
packet_at order p bytes size small s m o short whole seconds micros sized original frame =
    let long : length p.frame ≡ size = taken p.frame bytes size whole frame in
    let left = drop (16 + size - 16) (drop 16 bytes) in
    let e4 : bytes ≡ bytes_of order 4 p.seconds ++ drop 4 bytes = rw seconds (number_cut order bytes 0 4 small (omega arith) refl) in
    let e8 : drop 4 bytes ≡ bytes_of order 4 p.micros ++ drop 8 bytes = rw micros (number_cut order bytes 4 8 small (omega arith) refl) in
    let e12 : drop 8 bytes ≡ bytes_of order 4 (length p.frame) ++ drop 12 bytes = rw (long, sized) (number_cut order bytes 8 12 small (omega arith) refl) in
    let e16 : drop 12 bytes ≡ bytes_of order 4 p.original ++ drop 16 bytes = rw original (number_cut order bytes 12 16 small (omega arith) refl) in
    let last : drop 16 bytes ≡ p.frame ++ left =
    sym (take-append-drop (16 + size - 16) (drop 16 bytes)) ∙ ap (λ (t : List ℕ). t ++ left) (sym frame) in
    record {
      is_packet = record { seconds = s; micros = m; original = o; short = omega arith };
      left = left;
      spelled = five _ _ _ _ _ _ _ _ _ _ _ e4 e8 e12 e16 last;
    }

-- ---- consecutive packets

pub length-packet_bytes : (order : Order) (p : Packet) → length (packet_bytes order p) ≡ 16 + length p.frame
length-packet_bytes Little p = omega arith
length-packet_bytes Big p = omega arith

-- The bytes after the packet.
pub after_packet : (order : Order) (p : Packet) (bytes : List ℕ) (h : StartsWith order p bytes) → drop (16 + length p.frame) bytes ≡ h.left
after_packet order p bytes h =
    ap (λ (n : ℕ). drop n bytes) (sym (length-packet_bytes order p)) ∙ ap (λ (t : List ℕ). drop (length (packet_bytes order p)) t) h.spelled ∙ drop-append_seam (packet_bytes order p) h.left

-- The packet is in the bytes.
pub packet_inside : (order : Order) (p : Packet) (bytes : List ℕ) → StartsWith order p bytes → 16 + length p.frame ≤ length bytes
packet_inside order p bytes h = let all = ap length h.spelled in let size = length-packet_bytes order p in omega (arith, length-append (packet_bytes order p) h.left)

pub one_more : (order : Order) (ps : List Packet) (p : Packet) → packets_bytes order (ps ++ p ∷ []) ≡ packets_bytes order ps ++ packet_bytes order p
one_more order ps p = flat_map-append (packet_bytes order) ps (p ∷ []) ∙ ap (λ (t : List ℕ). packets_bytes order ps ++ t) (flat_map-cons (packet_bytes order) p [] ∙ append-nil (packet_bytes order p))

pub packets-more : (order : Order) (ps : List Packet) (p : Packet) (bytes left next : List ℕ) → bytes ≡ packets_bytes order ps ++ left → StartsWith order p left → next ≡ drop (16 + length p.frame) left
    → bytes ≡ packets_bytes order (ps ++ p ∷ []) ++ next
packets-more order ps p bytes left next before h is =
    before ∙ ap (λ (t : List ℕ). packets_bytes order ps ++ t) (h.spelled ∙ ap (λ (t : List ℕ). packet_bytes order p ++ t) (sym (is ∙ after_packet order p left h)))
    ∙ sym (append_assoc (packets_bytes order ps) (packet_bytes order p) next)
    ∙ ap (λ (t : List ℕ). t ++ next) (sym (one_more order ps p))

pub all-more : (P : Packet → Type 0) (ps : List Packet) (p : Packet) → All P ps → P p → All P (ps ++ p ∷ [])
all-more P ps p all here = All-append P ps (p ∷ []) all (All-cons P p [] here (All-nil P))

-- ---- faults

pub numbered : (order : Order) (ps : List Packet) (bytes left : List ℕ) (damage : Damage) → All IsPacket ps → bytes ≡ packets_bytes order ps ++ left → IsDamage order left damage
    → IsPacketsFault order bytes (fault_at damage (length ps + 1))
numbered order ps bytes left TooLong each spelled bad = record { before = ps; each = each; left = left; spelled = spelled; bad = bad; number_is = refl }
numbered order ps bytes left Cut each spelled bad = record { before = ps; each = each; left = left; spelled = spelled; bad = bad; number_is = refl }
numbered order ps bytes left NoMemory each spelled bad = tt
