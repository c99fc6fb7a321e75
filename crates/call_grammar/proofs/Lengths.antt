-- The lengths of the frames of a session, with one more frame.
use Rattle.std.proofs.Common.{◌≡◌, ℕ, ◌+◌, ◌*◌, ◌<◌, ◌≤◌, List, [], ◌∷◌, ◌++◌, length, ap, arith}
use Rattle.std.proofs.Math.ListN.{get_or-append}
use Rattle.std.proofs.Math.Seq.{get_or-append_seam}
use Rattle.split_ring.proofs.FramesAreLaidOut.{frames_are_laid_out}
use Rattle.call_grammar.specs.Words.{words_for, lengths_of}
use Rattle.call_grammar.specs.Ends.{End}
use Rattle.call_grammar.specs.Ticks.{EndConfig}
use Rattle.call_grammar.specs.Offers.{start_at}
use Rattle.call_grammar.specs.Calls.{pending_of}
use Rattle.call_grammar.specs.Permitted.{HasSections}

pub last_length : (frames : List (List ℕ)) (frame : List ℕ) → lengths_of (frames ++ frame ∷ []) (length frames) ≡ length frame
last_length frames frame = ap length (get_or-append_seam frames frame [] [])

pub length_before : (frames : List (List ℕ)) (frame : List ℕ) (k : ℕ) → k < length frames → lengths_of (frames ++ frame ∷ []) k ≡ lengths_of frames k
length_before frames frame k low = ap length (get_or-append frames (frame ∷ []) [] k low)

-- The words of an offered frame are in the section.
pub words_fit : (config : EndConfig) (end : End) (frame : List ℕ) → HasSections config → length frame ≤ config.sizes.mtu + 18 →
    start_at config (pending_of config end frame) + 4 * words_for (length frame) ≤ config.sizes.out
words_fit config end frame has fits =
    let pending = pending_of config end frame in
    let long = last_length end.accepted frame in
    let placed = frames_are_laid_out.placed config.sizes pending.lengths pending.number has.queue in
    let holds = placed.holds (omega arith) in
    let inside = placed.inside (omega arith) in
    omega arith
