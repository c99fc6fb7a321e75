-- The test of a port's sizes is the condition of a port.
use Rattle.std.proofs.Common.{◌≡◌, ℕ, ◌*◌, ◌≤◌, true, eq-eqb}
use Rattle.std.proofs.lemmas.Bool.{leb-true, le-leb, eqb-true}
use Rattle.line_format.proofs.SpellingsAreRead.{both_true}
use Rattle.line_format.proofs.LinesAreCut.{are_true}
use Rattle.port_text.specs.Sizes.{IsMessageSize, port_words, has_port}

-- A section of this size has space for a port.
pub record HasPort (most out : ℕ) : Type 0 where
  pub size : IsMessageSize most
  pub room : 4 * port_words most ≤ out

pub port_of : (most out : ℕ) → has_port most out ≡ true → HasPort most out
port_of most out e =
    let a = both_true _ _ e in
    let b = both_true _ _ a.0 in
    let c = both_true _ _ b.0 in
    record { size = (eqb-true _ _ c.0, leb-true _ _ c.1, leb-true _ _ b.1); room = leb-true _ _ a.1 }

pub has_port-true : (most out : ℕ) → HasPort most out → has_port most out ≡ true
has_port-true most out is =
    are_true _ _ (are_true _ _ (are_true _ _ (eq-eqb _ _ is.size.0) (le-leb _ _ is.size.1)) (le-leb _ _ is.size.2)) (le-leb _ _ is.room)
