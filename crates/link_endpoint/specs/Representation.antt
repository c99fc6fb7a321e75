-- The meaning of the fields of an endpoint.
use Rattle.std.specs.Prelude.{◌≡◌, ◌≢◌, ◌+◌, ◌*◌, ◌≤◌, true, is_some}
use Rattle.section_map.specs.declared.limits.TheConstants.{LARGEST_REGION}
use Rattle.call_grammar.specs.Ends.{End}
use Rattle.call_grammar.specs.Places as places
use Rattle.call_grammar.specs.Permitted.{HasSections}
use Rattle.tx_engine.specs.Refinement as tx
use Rattle.rx_engine.specs.Refinement as rx
use Rattle.link_endpoint.specs.declared.place.Place.TheVariants.{Refusing}
use Rattle.link_endpoint.specs.declared.endpoint.Endpoint.TheInside as endpoint
use Rattle.link_endpoint.specs.Engine.{Engine, partner}
use Rattle.link_endpoint.specs.Refinement.{RefinesAt}
use Rattle.link_endpoint.specs.Refusal.{IsAfterRefusal}

abbrev pub engine_of : endpoint.Inside → Engine
engine_of i = record {
  config = record { me = partner i.other; other = i.other; own = i.own; other_start = i.tx.other_start; words = i.words; sizes = i.tx.sizes; vector = i.tx.vector };
  phase = i.handshake.phase;
  refused = i.refused;
  place = i.place;
  sender = i.tx;
  receiver = i.rx;
}

-- The invariant of an endpoint:
-- - the sender and the receiver belong to this peer, whose sections end at or before byte 2^24 of
--   the region;
-- - the handshake has the mark exactly if a value was refused, except between a refusal and its
--   State step;
-- - an end that refused a value has left the link;
-- - the endpoint refines an end.
pub record IsWellFormed (i : endpoint.Inside) : Type 0 where
  pub sections : HasSections (engine_of i).config
  pub own_room : 4 * i.own + i.tx.sizes.out ≤ LARGEST_REGION
  pub their_room : 4 * i.tx.other_start + i.tx.sizes.out ≤ LARGEST_REGION
  pub sender : tx.IsMadeFor i.tx (engine_of i).config
  pub receiver : rx.IsMadeFor i.rx (engine_of i).config
  pub mark : i.place ≢ Refusing → i.handshake.mark ≡ is_some i.refused
  pub left : is_some i.refused ≡ true → IsAfterRefusal i.place i.handshake.phase
  pub end : End
  pub at : places.Place
  pub refines : RefinesAt (engine_of i) (engine_of i).config end at
