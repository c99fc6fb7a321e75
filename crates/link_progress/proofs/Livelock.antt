-- A run of the present handshake that ends in its first state.
use Rattle.std.proofs.Common.{◌≡◌, ℕ, zero, suc, ◌+◌, ◌*◌, false, subst, arith}
use Rattle.link_handshake.specs.declared.Phase.TheVariants.{Reset, Init, Ready}
use Rattle.link_handshake.specs.PhaseTable.{phase_move}
use Rattle.link_progress.specs.Handshake.{Rests, Reads, Writes, Handshakes, starts, first_goes, second_goes, PresentCanLivelock}

three_more : (n : ℕ) → 3 * n + 1 + 1 + 1 ≡ 3 * suc n
three_more n = omega arith

pub present_can_livelock : PresentCanLivelock
present_can_livelock zero = starts
present_can_livelock (suc n) = subst (λ r. Handshakes phase_move phase_move Reset Rests Init (Writes Ready) Reset Rests Init (Writes Ready) record { rounds = r; first = false; second = false }) (three_more n)
    (first_goes Ready (Writes Reset) Init (Writes Ready) _ (second_goes Ready (Writes Reset) Init Reads _ (second_goes Ready (Writes Reset) Init Rests _ (second_goes Ready (Writes Reset) Reset (Writes Init) _ (first_goes Ready Reads Reset (Writes Init) _ (first_goes Ready Rests Reset (Writes Init) _ (first_goes Init (Writes Ready) Reset (Writes Init) _ (second_goes Init (Writes Ready) Reset Reads _ (second_goes Init (Writes Ready) Reset Rests _ (second_goes Init (Writes Ready) Ready (Writes Reset) _ (first_goes Init Reads Ready (Writes Reset) _ (first_goes Init Rests Ready (Writes Reset) _ (first_goes Reset (Writes Init) Ready (Writes Reset) _ (second_goes Reset (Writes Init) Ready Reads _ (second_goes Reset (Writes Init) Ready Rests _ (second_goes Reset (Writes Init) Init (Writes Ready) _ (first_goes Reset Reads Init (Writes Ready) _ (first_goes Reset Rests Init (Writes Ready) _ (present_can_livelock n)))))))))))))))))))
