-- For every table: a row that can follow is taken, and a line that is taken is the line of a row
-- that can follow.
use Rattle.std.proofs.Common.{◌≡◌, ℕ, Bool, true, false, cond, List, length, Some, None, Ok, refl, ap, ◌∙◌}
use Rattle.std.specs.List.{list_all}
use Rattle.std.proofs.lemmas.Option.{option_and_then_some}
use Rattle.line_format.specs.declared.grammar.Test.TheVariants.{Line, Order, Number, Peer, Bytes, Sizes, Count}
use Rattle.line_format.specs.Forms.{matches, numbers_of, hex_of, hex_bytes, fields_of, Fit, FitBytes, is_printable}
use Rattle.line_format.specs.Rows.{Row, row, fields_of_row, find_form}
use Rattle.line_format.specs.Steps.{some_or}
use Rattle.line_format.specs.Grammar.{Rules, pass_or, bytes_in, judge, step, is_out_of_order}
use Rattle.line_format.proofs.SpellingsAreRead.{numbers_of-spell, IsSpelled, spelled}
use Rattle.line_format.proofs.TestChains.{bind_ok, guard_ok, pass_ok, some_or-ok, if_some, same_ok}
use Rattle.line_format.proofs.FormsOfRows.{IsTable, finds, found}
use Rattle.line_format.proofs.LinesOfRows.{IsRow, bare, row_printable, row_cut, hex_of-spell, line_is}

-- The row can follow the lines so far.
pub record CanFollow {S F C : Type 0} (g : Rules S F C) (d : S) (r : Row F) : Type 0 where
  pub values : Fit (g.pieces_of r.form) r.numbers
  pub bytes : FitBytes (g.pieces_of r.form) r.frame
  pub order : is_out_of_order g d r.form (fields_of_row g.pieces_of r) ≡ false
  pub range : g.is_in_range d r.form r.numbers ≡ true
  pub peer : g.is_its_peer d r.form r.numbers ≡ true
  pub size : g.fits d r.form (length r.frame) ≡ true
  pub sizes : g.fits_sizes d r.form r.numbers ≡ true
  pub room : g.has_room d r.form r.numbers r.frame ≡ true

abbrev pub with_row : {S F C : Type 0} → Rules S F C → Row F → S → S
with_row g r d = g.add r.form r.numbers r.frame d

pub row_of_follows : {S F C : Type 0} (g : Rules S F C) (d : S) (r : Row F) → CanFollow g d r → IsRow g.pieces_of r
row_of_follows g d r can = record { values = can.values; hex = can.bytes }

judge-row : {S F C : Type 0} (g : Rules S F C) → IsTable g.pieces_of g.forms → (d : S) (r : Row F) → CanFollow g d r → judge g d r.form (fields_of_row g.pieces_of r) ≡ Ok (with_row g r d)
unfolding judge
judge-row g table d r can =
    let ns : numbers_of (g.pieces_of r.form) (fields_of_row g.pieces_of r) ≡ Some r.numbers = numbers_of-spell (g.pieces_of r.form) r.numbers r.frame (table.good r.form) can.values in
    let bs : hex_bytes (hex_of (g.pieces_of r.form) (fields_of_row g.pieces_of r)) ≡ Some r.frame = hex_of-spell (g.pieces_of r.form) r.numbers r.frame can.values can.bytes in
    rw (can.order, ns, can.range, can.peer, bs, can.size, can.sizes, can.room) refl

pub step-row : {S F C : Type 0} (g : Rules S F C) → IsTable g.pieces_of g.forms → (d : S) (r : Row F) → CanFollow g d r → step g d (bare g.pieces_of r) ≡ Ok (with_row g r d)
unfolding step
step-row g table d r can =
    let is = row_of_follows g d r can in
    rw (row_printable g.pieces_of g.forms table r is, row_cut g.pieces_of g.forms table r is, finds g.pieces_of g.forms table r.form r.numbers r.frame can.values) (judge-row g table d r can)

-- ---- the converse

-- The row of a line that was taken.
pub record Taken {S F C : Type 0} (g : Rules S F C) (d : S) (line : List ℕ) (e : S) : Type 0 where
  pub taken : Row F
  pub line_is_row : line ≡ bare g.pieces_of taken
  pub can : CanFollow g d taken
  pub gives : with_row g taken d ≡ e

passed : {C : Type 0} (cause : C) (b : Bool) (u : Unit {0}) → pass_or cause b ≡ Ok u → b ≡ true
passed cause true u is = refl
passed cause false u is = absurd cc

judge-ok : {S F C : Type 0} (g : Rules S F C) → IsTable g.pieces_of g.forms → (d : S) (form : F) (line : List ℕ) (e : S) → matches (g.pieces_of form) (fields_of line) ≡ true → judge g d form (fields_of line) ≡ Ok e → Taken g d line e
unfolding judge
judge-ok {S} {F} {C} g table d form line e has is =
    let fs = fields_of line in
    let a = guard_ok (is_out_of_order g d form fs) (g.cause Order) _ e is in
    let b = bind_ok (some_or (g.cause Number) (numbers_of (g.pieces_of form) fs)) _ e a.1 in
    let n = bind_ok (pass_or (g.cause Number) (g.is_in_range d form b.0)) _ e b.2 in
    let p = bind_ok (pass_or (g.cause Peer) (g.is_its_peer d form b.0)) _ e n.2 in
    let f = bind_ok (some_or (g.cause Bytes) (bytes_in g d form fs)) _ e p.2 in
    let z = bind_ok (pass_or (g.cause Sizes) (g.fits_sizes d form b.0)) _ e f.2 in
    let l = bind_ok (pass_or (g.cause Count) (g.has_room d form b.0 f.0)) _ e z.2 in
    option_and_then_some (λ bytes. cond (g.fits d form (length bytes)) (Some bytes) None) (hex_bytes (hex_of (g.pieces_of form) fs)) f.0 (some_or-ok (g.cause Bytes) _ f.0 f.1) (λ bytes hex rest.
    let u = if_some (g.fits d form (length bytes)) bytes f.0 rest in
    let sp : IsSpelled (g.pieces_of form) fs b.0 f.0 = spelled (g.pieces_of form) fs b.0 f.0 (table.good form) has (some_or-ok (g.cause Number) _ b.0 b.1) (hex ∙ ap (λ (x : List ℕ). Some x) u.1) in
    record {
      taken = row form b.0 f.0;
      line_is_row = line_is line _ sp.fields;
      can = record {
        values = sp.numbers;
        bytes = sp.hex;
        order = rw (← sp.fields) a.0;
        range = passed _ _ n.0 n.1;
        peer = passed _ _ p.0 p.1;
        size = rw (← u.1) u.0;
        sizes = passed _ _ z.0 z.1;
        room = passed _ _ l.0 l.1;
      };
      gives = same_ok _ _ l.2;
    })

pub step-ok : {S F C : Type 0} (g : Rules S F C) → IsTable g.pieces_of g.forms → (d : S) (line : List ℕ) (e : S) → step g d line ≡ Ok e → Taken g d line e
unfolding step
step-ok g table d line e is =
    let p = (pass_ok (list_all is_printable line) (g.cause Line) _ e is).1 in
    let b = bind_ok (some_or (g.cause Line) (find_form g.pieces_of g.forms (fields_of line))) (λ form. judge g d form (fields_of line)) e p in
    judge-ok g table d b.0 line e (found g.pieces_of g.forms (fields_of line) b.0 (some_or-ok (g.cause Line) _ b.0 b.1)) b.2
