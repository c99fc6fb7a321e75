-- Laws of every bridge.
use Rattle.std.specs.Prelude.{◌≡◌, ℕ, false, List, [], ◌∷◌, ◌++◌, if◌then◌else◌}
use Rattle.frame_bridge.specs.Forwarding.{Arrival, is_forwarded, forward}

-- No frame goes back to the port at which it arrived. One more arrival appends its frame to what
-- goes to a port, if the frame goes there, and nothing otherwise.
pub record Forwards : Type 0 where
  pub never_back : (arrivals : List Arrival) (last : Arrival) → is_forwarded arrivals last last.port ≡ false
  pub grows : (arrivals : List Arrival) (last : Arrival) (port : ℕ) → forward (arrivals ++ last ∷ []) port ≡
      forward arrivals port ++ (if is_forwarded (arrivals ++ last ∷ []) last port then last.frame ∷ [] else [])
