-- The initial endpoint.
use Rattle.std.proofs.Common.{[], refl, arith}
use Rattle.call_grammar.specs.Ends.{fresh}
use Rattle.call_grammar.specs.Calls.{EndConfig}
use Rattle.call_grammar.specs.Places as places
use Rattle.link_endpoint.specs.Engine.{fresh_engine}
use Rattle.link_endpoint.specs.Refinement.{RefinesAt}

-- The initial endpoint refines the initial end.
pub fresh_stands : (config : EndConfig) → RefinesAt (fresh_engine config) config fresh places.Closed
fresh_stands config = record {
  made = refl;
  standing = refl;
  few = omega arith;
  at = (
    refl,
    record {
      sender = record { made = record { sizes = refl; own = refl; other_start = refl; target = refl; vector = refl }; at = (refl, λ session. absurd (cc)) };
      receiver = record {
        made = record { sizes = refl; own = refl; other_start = refl; target = refl; vector = refl };
        busy = λ busy. absurd (cc);
        session = λ session. absurd (cc);
        read = [];
        read_count = refl;
        gathered = refl;
        place_is = refl;
      };
    },
  );
}
