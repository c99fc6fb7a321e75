-- What a call that ends has done: a poll has delivered, and an offer has found room.
use Rattle.std.specs.Prelude.{ℕ, ◌≡◌, ◌+◌, ◌-◌, ◌<◌, ◌≤◌, Bool, true, false, length}
use Rattle.split_ring.specs.declared.sizes.TheConstants.{FRAME_OVERHEAD}
use Rattle.split_ring.specs.Layout.{is_byte_ring, limit_of}
use Rattle.split_ring.specs.Frames.{has_room}
use Rattle.call_grammar.specs.Ends.{End}
use Rattle.call_grammar.specs.Calls.{Call}
use Rattle.call_grammar.specs.Offers.{PendingOffer}
use Rattle.call_grammar.specs.Places.{Place, Closed, ReadingUsedIndex, ReadingAvailIndex}
use Rattle.link_invariant.specs.LinkConfig.{LinkConfig, IsLinkConfig}
use Rattle.link_invariant.specs.Steps.{BeginsCall, TakesStep, IsReset}
use Rattle.link_invariant.specs.Pair.{Pair}

-- End p makes steps of its open call, and begins no other call. The other end begins calls, makes
-- steps, is stopped and is reset, in any order.
pub data InCall (link_config : LinkConfig) (p : ℕ) (memory : ℕ → ℕ) (ends : ℕ → End) (places : ℕ → Place) : (ℕ → ℕ) → (ℕ → End) → (ℕ → Place) → Type 0 where
  starts : InCall link_config p memory ends places memory ends places
  steps : (now after : ℕ → ℕ) (now_ends after_ends : ℕ → End) (now_places after_places : ℕ → Place) (value : ℕ) → InCall link_config p memory ends places now now_ends now_places →
      TakesStep link_config now after now_ends after_ends now_places after_places p value → InCall link_config p memory ends places after after_ends after_places
  other_begins : (now : ℕ → ℕ) (now_ends after_ends : ℕ → End) (now_places after_places : ℕ → Place) (call : Call) → InCall link_config p memory ends places now now_ends now_places →
      BeginsCall link_config now_ends after_ends now_places after_places (1 - p) call → InCall link_config p memory ends places now after_ends after_places
  other_steps : (now after : ℕ → ℕ) (now_ends after_ends : ℕ → End) (now_places after_places : ℕ → Place) (value : ℕ) → InCall link_config p memory ends places now now_ends now_places →
      TakesStep link_config now after now_ends after_ends now_places after_places (1 - p) value → InCall link_config p memory ends places after after_ends after_places
  other_resets : (now after : ℕ → ℕ) (now_ends after_ends : ℕ → End) (now_places after_places : ℕ → Place) → InCall link_config p memory ends places now now_ends now_places →
      IsReset now after now_ends after_ends now_places after_places (1 - p) → InCall link_config p memory ends places after after_ends after_places

-- A poll that begins after a frame was accepted, and ends, has delivered that frame, for all that
-- the honest other end does meanwhile.
abbrev pub PollsDeliver : Type 0
PollsDeliver = (link_config : LinkConfig) (memory now : ℕ → ℕ) (ends now_ends : ℕ → End) (places now_places : ℕ → Place) (p taken : ℕ) (last : Bool) → IsLinkConfig link_config → p < 2 →
    Pair link_config memory ends places → places p ≡ ReadingAvailIndex taken last → InCall link_config p memory ends places now now_ends now_places → now_places p ≡ Closed →
    length (ends (1 - p)).accepted ≤ length (now_ends p).delivered

-- Each frame fits while at most `out` frames are in flight, if these are no longer than frames may
-- be.
abbrev pub AlwaysFits : LinkConfig → ℕ → Type 0
AlwaysFits link_config out = (length_of : ℕ → ℕ) (freed number : ℕ) → freed ≤ number → number ≤ freed + out →
    ((k : ℕ) → freed ≤ k → k ≤ number → length_of k ≤ link_config.sizes.mtu + FRAME_OVERHEAD) → has_room link_config.sizes length_of freed number ≡ true

-- An offer that begins while at most `out` frames are accepted and not yet returned, and ends, is
-- accepted if each frame then fits, for all that the honest other end does meanwhile. A frame fits
-- if no frame is in flight, and with slots if fewer frames than the limit are.
pub record OffersFindRoom : Type 0 where
  pub empty : (link_config : LinkConfig) → IsLinkConfig link_config → AlwaysFits link_config 0
  pub slots : (link_config : LinkConfig) (out : ℕ) → is_byte_ring link_config.sizes ≡ false → out < limit_of link_config.sizes → AlwaysFits link_config out
  pub room : (link_config : LinkConfig) (memory now : ℕ → ℕ) (ends now_ends : ℕ → End) (places now_places : ℕ → Place) (p out freed : ℕ) (pending : PendingOffer) → IsLinkConfig link_config → p < 2 →
      Pair link_config memory ends places → places p ≡ ReadingUsedIndex pending freed → AlwaysFits link_config out → length (ends p).accepted ≤ (ends (1 - p)).returned + out →
      InCall link_config p memory ends places now now_ends now_places → now_places p ≡ Closed → length (now_ends p).accepted ≡ length (ends p).accepted + 1
