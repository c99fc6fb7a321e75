-- The packets of a capture file, passed one by one.
use Rattle.std.proofs.Common.{◌≡◌, ℕ, zero, suc, ◌+◌, ◌-◌, ◌<◌, List, refl, arith}
use Rattle.std.specs.Prelude.{drop}
use Rattle.frame_capture.specs.declared.reading.TheConstants.{PACKET_HEADER_LEN}
use Rattle.ivshm_explain.specs.Places.{captured_in, after_packets}

-- The first packet is passed, and one fewer is left.
pub one_packet : (file : List ℕ) (count : ℕ) (left : List ℕ) → 0 < count
    → after_packets file count left ≡ after_packets file (count - 1) (drop (PACKET_HEADER_LEN + captured_in file left) left)
one_packet file zero left some = absurd (omega (arith, some))
one_packet file (suc count) left some = let less : suc count - 1 ≡ count = omega arith in rw less refl
