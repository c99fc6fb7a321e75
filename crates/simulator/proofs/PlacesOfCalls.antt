-- The places of an open call, and of none.
use Rattle.std.proofs.Common.{◌≡◌, ℕ, true, false, List, refl}
use Rattle.split_ring.specs.declared.steps.Access.TheVariants as access
use Rattle.call_grammar.specs.Calls.{EndConfig, Call}
use Rattle.call_grammar.specs.Places.{Place, Closed, ReadingAvailIndex, RingingOffer, RingingPoll, remaining, access_at, is_open}
use Rattle.lawful_history.specs.Peers.{Peer, opened_by}

-- An open call continues before another is opened.
pub open_by : (config : EndConfig) (place : Place) (peer : Peer) (waiting : List Call) → is_open place ≡ true → opened_by config peer (remaining config place) waiting ≡ peer
open_by config Closed peer waiting opens = absurd (cc)
open_by config (ReadingAvailIndex taken true) peer waiting opens = refl
open_by config (ReadingAvailIndex taken false) peer waiting opens = refl
open_by config _ peer waiting opens = refl

-- Each doorbell of a call is for the other peer, with the vector of the traffic.
pub rings_other : (config : EndConfig) (place : Place) (target vector : ℕ) → access_at config place ≡ access.Ring target vector → (target ≡ config.other) × (vector ≡ config.vector)
rings_other config RingingOffer target vector is = (cc, cc)
rings_other config RingingPoll target vector is = (cc, cc)
rings_other config _ target vector is = absurd (cc)
