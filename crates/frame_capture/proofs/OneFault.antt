-- Bytes with a fault are no file, and have no other fault.
use Rattle.std.proofs.Common.{◌≡◌, ℕ, ◌+◌, List, [], ◌++◌, length, drop, refl, sym, ap, subst, ◌∙◌, arith, inl, inr}
use Rattle.std.proofs.lemmas.List.{append-nil}
use Rattle.frame_capture.specs.declared.order.Order.{Order}
use Rattle.frame_capture.specs.declared.packets.Packet.{Packet}
use Rattle.frame_capture.specs.declared.packets.Capture.{Capture}
use Rattle.frame_capture.specs.declared.faults.CaptureFault.TheVariants.{Short, BadMagic, BadVersion, BadLinkType, BadPacket, CutPacket, NoMemory}
use Rattle.frame_capture.specs.CaptureFile.{number_at, packets_bytes, IsCaptureFile}
use Rattle.frame_capture.specs.Faults.{IsVersion, IsEthernet, BeginsWell, IsTooLong, IsCut, IsFirstBad, IsPacketFault, IsCaptureFault}
use Rattle.frame_capture.specs.Laws.{AreBytes, FaultsAreOfNoFile, FaultsAreOne}
use Rattle.frame_capture.proofs.OneFile.{EndsHere, no_bytes_end, too_long_ends, cut_ends, one_run, file_header, file_packets, one_order}

-- ---- packets

-- Bad bytes begin with no packet.
abbrev Ends : (Order → List ℕ → Type 0) → Type 0
Ends IsBad = (order : Order) (left : List ℕ) → IsBad order left → EndsHere order left

-- Two first bad packets are one, which is bad in both ways.
one_place : (A B : Order → List ℕ → Type 0) → Ends A → Ends B → (order : Order) (bytes : List ℕ) (n m : ℕ) (h : IsFirstBad A order bytes n) → IsFirstBad B order bytes m → (n ≡ m) × B order h.left
one_place A B ends endsb order bytes n m h g =
    let same = one_run order h.before g.before h.left g.left h.each g.each (ends order h.left h.bad) (endsb order g.left g.bad) (sym h.spelled ∙ g.spelled) in
    (h.number_is ∙ ap (λ (ps : List Packet). length ps + 1) same.0 ∙ sym g.number_is, subst (B order) (sym same.1) g.bad)

-- The same for two files of any order.
one_fault : (A B : Order → List ℕ → Type 0) → Ends A → Ends B → (bytes : List ℕ) (n m : ℕ) → AreBytes bytes → IsPacketFault A bytes n → IsPacketFault B bytes m
    → (n ≡ m) × ((order : Order) × (left : List ℕ) × A order left × B order left)
one_fault A B ends endsb bytes n m small (o, header, h) (p, headerp, g) =
    let same = one_order bytes p o small headerp.0.1 header.0.1 in
    let place = one_place A B ends endsb o (drop 24 bytes) n m h (subst (λ (x : Order). IsFirstBad B x (drop 24 bytes) m) same g) in
    (place.0, (o, h.left, h.bad, place.1))

not_both : (order : Order) (left : List ℕ) → IsTooLong order left → IsCut order left → ⊥
not_both order left long (some, inl short) = let a = long.0 in omega arith
not_both order left long (some, inr (fits, short)) = let a = long.1 in omega arith

no_packet_fault : (A : Order → List ℕ → Type 0) → Ends A → ((order : Order) → A order [] → ⊥) → (bytes : List ℕ) (n : ℕ) (capture : Capture) → AreBytes bytes → IsPacketFault A bytes n → IsCaptureFile capture bytes → ⊥
no_packet_fault A ends never bytes n capture small (o, header, h) file =
    let same = one_order bytes file.order o small (file_header capture bytes file).0.1 header.0.1 in
    let spelled : packets_bytes o capture.packets ++ [] ≡ packets_bytes o h.before ++ h.left =
    append-nil (packets_bytes o capture.packets) ∙ ap (λ (x : Order). packets_bytes x capture.packets) (sym same) ∙ sym (file_packets capture bytes file) ∙ h.spelled in
    let run = one_run o capture.packets h.before [] h.left file.each h.each (no_bytes_end o) (ends o h.left h.bad) spelled in
    never o (subst (A o) (sym run.1) h.bad)

never_long : (order : Order) → IsTooLong order [] → ⊥
never_long order long = let a = long.0 in omega arith

never_cut : (order : Order) → IsCut order [] → ⊥
never_cut order cut = let a = cut.0 in omega arith

-- ---- a fault is of no file

pub faults_are_of_no_file : FaultsAreOfNoFile
faults_are_of_no_file bytes (Short found) capture small m h file = let a = h.0 in let b = (file_header capture bytes file).0.0 in omega arith
faults_are_of_no_file bytes (BadMagic value) capture small m h file = h.1 file.order (file_header capture bytes file).0.1
faults_are_of_no_file bytes (BadVersion major minor) capture small m (o, begins, isnt, a, b) file =
    isnt (subst (λ (x : Order). IsVersion x bytes) (one_order bytes file.order o small (file_header capture bytes file).0.1 begins.1) (file_header capture bytes file).1)
faults_are_of_no_file bytes (BadLinkType value) capture small m (o, begins, version, isnt, a) file =
    isnt (subst (λ (x : Order). IsEthernet x bytes) (one_order bytes file.order o small (file_header capture bytes file).0.1 begins.1) (file_header capture bytes file).2)
faults_are_of_no_file bytes (BadPacket number) capture small m h file = no_packet_fault IsTooLong too_long_ends never_long bytes number capture small h file
faults_are_of_no_file bytes (CutPacket number) capture small m h file = no_packet_fault IsCut cut_ends never_cut bytes number capture small h file
faults_are_of_no_file bytes NoMemory capture small m h file = m refl

-- ---- one fault

too_short : (bytes : List ℕ) (found : ℕ) → IsCaptureFault bytes (Short found) → ((order : Order) × BeginsWell order bytes) → ⊥
too_short bytes found h g = let a = h.0 in let b = g.1.0 in omega arith

no_magic : (bytes : List ℕ) (value : ℕ) → IsCaptureFault bytes (BadMagic value) → ((order : Order) × BeginsWell order bytes) → ⊥
no_magic bytes value h g = h.1 g.0 g.1.1

-- The version in one order and in the other.
no_version : (bytes : List ℕ) (a b : Order) → AreBytes bytes → BeginsWell a bytes → BeginsWell b bytes → (¬ IsVersion a bytes) → IsVersion b bytes → ⊥
no_version bytes a b small h g isnt version = isnt (subst (λ (x : Order). IsVersion x bytes) (one_order bytes b a small g.1 h.1) version)

no_ethernet : (bytes : List ℕ) (a b : Order) → AreBytes bytes → BeginsWell a bytes → BeginsWell b bytes → (¬ IsEthernet a bytes) → IsEthernet b bytes → ⊥
no_ethernet bytes a b small h g isnt ethernet = isnt (subst (λ (x : Order). IsEthernet x bytes) (one_order bytes b a small g.1 h.1) ethernet)

same_version : (bytes : List ℕ) (a b : ℕ) (c d : ℕ) → AreBytes bytes → IsCaptureFault bytes (BadVersion a b) → IsCaptureFault bytes (BadVersion c d) → BadVersion a b ≡ BadVersion c d
same_version bytes a b c d small (o, begins, isnt, major, minor) (p, beginsp, nop, majorp, minorp) =
    let same = one_order bytes o p small begins.1 beginsp.1 in
    let x = major ∙ ap (λ (y : Order). number_at y 2 4 bytes) same ∙ sym majorp in
    let z = minor ∙ ap (λ (y : Order). number_at y 2 6 bytes) same ∙ sym minorp in
    ap (λ (y : ℕ). BadVersion y b) x ∙ ap (BadVersion c) z

same_link_type : (bytes : List ℕ) (a b : ℕ) → AreBytes bytes → IsCaptureFault bytes (BadLinkType a) → IsCaptureFault bytes (BadLinkType b) → BadLinkType a ≡ BadLinkType b
same_link_type bytes a b small (o, begins, version, isnt, value) (p, beginsp, versionp, nop, valuep) =
    ap BadLinkType (value ∙ ap (λ (y : Order). number_at y 4 20 bytes) (one_order bytes o p small begins.1 beginsp.1) ∙ sym valuep)

long_and_cut : (bytes : List ℕ) (n m : ℕ) → AreBytes bytes → IsCaptureFault bytes (BadPacket n) → IsCaptureFault bytes (CutPacket m) → ⊥
long_and_cut bytes n m small h g =
    let both = (one_fault IsTooLong IsCut too_long_ends cut_ends bytes n m small h g).1 in
    not_both both.0 both.1 both.2 both.3

pub faults_are_one : FaultsAreOne
faults_are_one bytes (Short a) (Short b) small m n h g = ap Short (h.1 ∙ sym g.1)
faults_are_one bytes (Short a) (BadMagic b) small m n h g = absurd (let x = h.0 in let y = g.0 in omega arith)
faults_are_one bytes (Short a) (BadVersion b c) small m n h g = absurd (too_short bytes a h (g.0, g.1))
faults_are_one bytes (Short a) (BadLinkType b) small m n h g = absurd (too_short bytes a h (g.0, g.1))
faults_are_one bytes (Short a) (BadPacket b) small m n h g = absurd (too_short bytes a h (g.0, g.1.0))
faults_are_one bytes (Short a) (CutPacket b) small m n h g = absurd (too_short bytes a h (g.0, g.1.0))
faults_are_one bytes (BadMagic a) (Short b) small m n h g = absurd (let x = h.0 in let y = g.0 in omega arith)
faults_are_one bytes (BadMagic a) (BadMagic b) small m n h g = ap BadMagic (h.2 ∙ sym g.2)
faults_are_one bytes (BadMagic a) (BadVersion b c) small m n h g = absurd (no_magic bytes a h (g.0, g.1))
faults_are_one bytes (BadMagic a) (BadLinkType b) small m n h g = absurd (no_magic bytes a h (g.0, g.1))
faults_are_one bytes (BadMagic a) (BadPacket b) small m n h g = absurd (no_magic bytes a h (g.0, g.1.0))
faults_are_one bytes (BadMagic a) (CutPacket b) small m n h g = absurd (no_magic bytes a h (g.0, g.1.0))
faults_are_one bytes (BadVersion a c) (Short b) small m n h g = absurd (too_short bytes b g (h.0, h.1))
faults_are_one bytes (BadVersion a c) (BadMagic b) small m n h g = absurd (no_magic bytes b g (h.0, h.1))
faults_are_one bytes (BadVersion a c) (BadVersion b d) small m n h g = same_version bytes a c b d small h g
faults_are_one bytes (BadVersion a c) (BadLinkType b) small m n h g = absurd (no_version bytes h.0 g.0 small h.1 g.1 h.2 g.2)
faults_are_one bytes (BadVersion a c) (BadPacket b) small m n h g = absurd (no_version bytes h.0 g.0 small h.1 g.1.0 h.2 g.1.1)
faults_are_one bytes (BadVersion a c) (CutPacket b) small m n h g = absurd (no_version bytes h.0 g.0 small h.1 g.1.0 h.2 g.1.1)
faults_are_one bytes (BadLinkType a) (Short b) small m n h g = absurd (too_short bytes b g (h.0, h.1))
faults_are_one bytes (BadLinkType a) (BadMagic b) small m n h g = absurd (no_magic bytes b g (h.0, h.1))
faults_are_one bytes (BadLinkType a) (BadVersion b d) small m n h g = absurd (no_version bytes g.0 h.0 small g.1 h.1 g.2 h.2)
faults_are_one bytes (BadLinkType a) (BadLinkType b) small m n h g = same_link_type bytes a b small h g
faults_are_one bytes (BadLinkType a) (BadPacket b) small m n h g = absurd (no_ethernet bytes h.0 g.0 small h.1 g.1.0 h.3 g.1.2)
faults_are_one bytes (BadLinkType a) (CutPacket b) small m n h g = absurd (no_ethernet bytes h.0 g.0 small h.1 g.1.0 h.3 g.1.2)
faults_are_one bytes (BadPacket a) (Short b) small m n h g = absurd (too_short bytes b g (h.0, h.1.0))
faults_are_one bytes (BadPacket a) (BadMagic b) small m n h g = absurd (no_magic bytes b g (h.0, h.1.0))
faults_are_one bytes (BadPacket a) (BadVersion b d) small m n h g = absurd (no_version bytes g.0 h.0 small g.1 h.1.0 g.2 h.1.1)
faults_are_one bytes (BadPacket a) (BadLinkType b) small m n h g = absurd (no_ethernet bytes g.0 h.0 small g.1 h.1.0 g.3 h.1.2)
faults_are_one bytes (BadPacket a) (BadPacket b) small m n h g = ap BadPacket (one_fault IsTooLong IsTooLong too_long_ends too_long_ends bytes a b small h g).0
faults_are_one bytes (BadPacket a) (CutPacket b) small m n h g = absurd (long_and_cut bytes a b small h g)
faults_are_one bytes (CutPacket a) (Short b) small m n h g = absurd (too_short bytes b g (h.0, h.1.0))
faults_are_one bytes (CutPacket a) (BadMagic b) small m n h g = absurd (no_magic bytes b g (h.0, h.1.0))
faults_are_one bytes (CutPacket a) (BadVersion b d) small m n h g = absurd (no_version bytes g.0 h.0 small g.1 h.1.0 g.2 h.1.1)
faults_are_one bytes (CutPacket a) (BadLinkType b) small m n h g = absurd (no_ethernet bytes g.0 h.0 small g.1 h.1.0 g.3 h.1.2)
faults_are_one bytes (CutPacket a) (BadPacket b) small m n h g = absurd (long_and_cut bytes b a small g h)
faults_are_one bytes (CutPacket a) (CutPacket b) small m n h g = ap CutPacket (one_fault IsCut IsCut cut_ends cut_ends bytes a b small h g).0
faults_are_one bytes NoMemory b small m n h g = absurd (m refl)
faults_are_one bytes (Short a) NoMemory small m n h g = absurd (n refl)
faults_are_one bytes (BadMagic a) NoMemory small m n h g = absurd (n refl)
faults_are_one bytes (BadVersion a c) NoMemory small m n h g = absurd (n refl)
faults_are_one bytes (BadLinkType a) NoMemory small m n h g = absurd (n refl)
faults_are_one bytes (BadPacket a) NoMemory small m n h g = absurd (n refl)
faults_are_one bytes (CutPacket a) NoMemory small m n h g = absurd (n refl)
