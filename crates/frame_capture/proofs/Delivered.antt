-- The packets of a history, line by line.
use Rattle.std.proofs.Common.{◌≡◌, ℕ, ◌+◌, ◌<◌, ◌≤◌, Bool, true, false, List, [], ◌∷◌, ◌++◌, length, get_or, take, sym, ap, subst, ◌∙◌, arith, append_assoc}
use Rattle.std.specs.Prelude.{◌==◌, if◌then◌else◌}
use Rattle.std.proofs.lemmas.List.{append-nil, take_more, length-take-le}
use Rattle.std.proofs.lemmas.List.Elements.{All-append, All-nil, All-cons}
use Rattle.lawful_history.specs.declared.line.Line.{Line}
use Rattle.lawful_history.specs.declared.line.Line.TheVariants.{Deliver}
use Rattle.frame_capture.specs.declared.packets.Packet.{Packet}
use Rattle.frame_capture.specs.declared.reading.TheConstants.{LONGEST_CAPTURED}
use Rattle.frame_capture.specs.CaptureFile.{AreShort}
use Rattle.frame_capture.specs.Deliveries.{packet_of, line_packets, packets_from, IsShortLine}

pub packets_from-append : (peer number : ℕ) (lines : List Line) (line : Line)
    → packets_from peer number (lines ++ line ∷ []) ≡ packets_from peer number lines ++ line_packets peer (number + length lines) line
packets_from-append peer number [] line =
    append-nil (line_packets peer number line) ∙ ap (λ (n : ℕ). line_packets peer n line) (omega arith)
packets_from-append peer number (first ∷ lines) line =
    ap (λ (ps : List Packet). line_packets peer number first ++ ps)
    (packets_from-append peer (number + 1) lines line ∙ ap (λ (n : ℕ). packets_from peer (number + 1) lines ++ line_packets peer n line) (omega arith))
    ∙ sym (append_assoc (line_packets peer number first) (packets_from peer (number + 1) lines) (line_packets peer (number + length (first ∷ lines)) line))

-- The lines before this one, and this one.
pub packets-more : (peer : ℕ) (lines : List Line) (i number : ℕ) (line : Line) (now next : List Packet) → i < length lines → line ≡ get_or lines i line → number ≡ i + 1
    → now ≡ packets_from peer 1 (take i lines) → next ≡ now ++ line_packets peer number line → next ≡ packets_from peer 1 (take (i + 1) lines)
packets-more peer lines i number line now next lt is numbered before put =
    let more : take (i + 1) lines ≡ take i lines ++ line ∷ [] = take_more lines i line lt ∙ ap (λ (l : Line). take i lines ++ l ∷ []) (sym is) in
    let count : 1 + length (take i lines) ≡ number = omega (arith, length-take-le i lines (omega arith)) in
    put ∙ ap (λ (ps : List Packet). ps ++ line_packets peer number line) before
    ∙ ap (λ (n : ℕ). packets_from peer 1 (take i lines) ++ line_packets peer n line) (sym count)
    ∙ sym (packets_from-append peer 1 (take i lines) line)
    ∙ ap (λ (ls : List Line). packets_from peer 1 ls) (sym more)

one_short : (b : Bool) (p : Packet) → length p.frame ≤ LONGEST_CAPTURED → AreShort (if b then p ∷ [] else [])
one_short true p short = All-cons (λ q. length q.frame ≤ LONGEST_CAPTURED) p [] short (All-nil (λ q. length q.frame ≤ LONGEST_CAPTURED))
one_short false p short = All-nil (λ q. length q.frame ≤ LONGEST_CAPTURED)

line_short : (peer number : ℕ) (line : Line) → IsShortLine line → AreShort (line_packets peer number line)
line_short peer number (Deliver receiver frame) short = one_short (receiver == peer) (packet_of number frame) short
line_short peer number _ short = All-nil (λ q. length q.frame ≤ LONGEST_CAPTURED)

pub short-more : (peer number : ℕ) (line : Line) (now next : List Packet) → AreShort now → IsShortLine line → next ≡ now ++ line_packets peer number line → AreShort next
short-more peer number line now next before short put =
    subst AreShort (sym put) (All-append (λ q. length q.frame ≤ LONGEST_CAPTURED) now (line_packets peer number line) before (line_short peer number line short))
