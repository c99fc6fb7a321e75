-- The sender's invariant at another place.
use Rattle.std.proofs.Common.{◌≡◌, ℕ, ◌*◌, List, length, ap, ◌∙◌}
use Rattle.tx_engine.specs.declared.place.Place.{Place}
use Rattle.tx_engine.specs.Sender.{Sender, IsSender, IsPlace}

-- A sender at this place, with this count and copy: the invariant reads neither the count nor the
-- words of the copy.
pub placed : (tx : Sender) (accepted : ℕ) (entries : List ℕ) (place : Place) → IsSender tx → length entries ≡ length tx.entries → IsPlace (record tx { accepted = accepted; entries = entries; place = place }) place →
    IsSender (record tx { accepted = accepted; entries = entries; place = place })
placed tx accepted entries place is sized holds = record {
  queue = is.queue;
  bounds = is.bounds;
  own_room = is.own_room;
  their_room = is.their_room;
  entries = ap (λ n. 2 * n) sized ∙ is.entries;
  next = is.next;
  in_flight = is.in_flight;
  lengths = is.lengths;
  flight = is.flight;
  place = holds;
}
