-- The length of a line, by the room of its form, and its cost.
use Rattle.std.proofs.Common.{◌≡◌, ℕ, suc, ◌+◌, ◌*◌, ◌^◌, ◌<◌, ◌≤◌, Bool, true, false, leb, ltb, List, [], ◌∷◌, ◌++◌, length, refl, ap, arith, length-append, decimal}
use Rattle.std.specs.Prelude.{◌==◌, nat_le, if◌then◌else◌, map}
use Rattle.std.specs.List.{list_all, AllByRecursion}
use Rattle.std.proofs.lemmas.Bool.{eqb-true, leb-true, ltb-true}
use Rattle.std.proofs.lemmas.Fmt.{length-decimal-le}
use Rattle.hex.specs.Hex.{lower_digits}
use Rattle.hex.proofs.HexLemmas.{length-encode_with}
use Rattle.line_format.specs.Forms.{Piece, Word, Number, Hex, spell, line_of, Fit, FitBytes, is_form, is_visible}
use Rattle.line_format.specs.Rows.{Row, fields_of_row, text_of}
use Rattle.line_format.proofs.TextLengths.{widths}
use Rattle.line_format.proofs.SpellingsAreRead.{both_true}
use Rattle.line_format.proofs.LinesOfRows.{bare, text-cons}
use Rattle.split_ring.specs.declared.ranges.FieldName.{FieldName}
use Rattle.split_ring.specs.declared.ranges.FieldName.TheVariants.{AvailIndex}
use Rattle.lawful_history.specs.declared.line.Line.{Line}
use Rattle.lawful_history.specs.declared.line.Line.TheVariants as line
use Rattle.record_text.specs.declared.forms.LineForm.{LineForm}
use Rattle.record_text.specs.Table.{pieces_of}
use Rattle.record_text.specs.LineRows.{row_of_line, refuse_form}
use Rattle.record_text.specs.Spelling.{Fits}
use Rattle.record_text.proofs.FormsAreTable.{is_table}

-- The bytes of fields, each with the space or the newline after it

joined : (field : List ℕ) (fields : List (List ℕ)) → length (line_of (field ∷ fields)) + 1 ≡ widths (field ∷ fields)
joined field [] = omega arith
joined field (next ∷ fields) = let later = joined next fields in omega (arith, length-append field (32 ∷ line_of (next ∷ fields)), later)

-- The room of a form: a word, and the greatest number of digits of its numbers

abbrev pub digits_by : Bool → ℕ
digits_by true = 10
digits_by false = 20

abbrev pub digits : ℕ → ℕ
digits high = digits_by (nat_le high 4294967295)

abbrev pub room : List Piece → ℕ
room [] = 0
room (Word w ∷ pieces) = length w + 1 + room pieces
room (Number low high ∷ pieces) = digits high + 1 + room pieces
room (Hex ∷ pieces) = 1 + room pieces

few_digits : (n high : ℕ) (b : Bool) → leb high 4294967295 ≡ b → n ≤ high → high < 2 ^ 64 → length (decimal n) ≤ digits_by b
few_digits n high true is most small = let less = leb-true high 4294967295 is in length-decimal-le 10 n (omega arith) (omega (arith, less, most)) (omega (arith, less, most))
few_digits n high false is most small = length-decimal-le 20 n (omega arith) (omega (arith, small, most)) (omega (arith, small, most))

pub spelled : (pieces : List Piece) (ns bytes : List ℕ) → is_form pieces ≡ true → Fit pieces ns → FitBytes pieces bytes → widths (spell pieces ns bytes) ≤ room pieces + 2 * length bytes
spelled [] ns bytes form fit fits = omega arith
spelled (Word w ∷ pieces) ns bytes form fit fits = let later = spelled pieces ns bytes (both_true (list_all is_visible w) (is_form pieces) form).1 fit fits in omega (arith, later)
spelled (Hex ∷ []) ns bytes form fit fits = omega (arith, length-encode_with lower_digits bytes)
spelled (Hex ∷ piece ∷ pieces) ns bytes form fit fits = absurd fits
spelled (Number low high ∷ pieces) [] bytes form fit fits = absurd fit
spelled (Number low high ∷ pieces) (n ∷ ns) bytes form fit fits =
    let f = both_true (ltb high (2 ^ 64)) (is_form pieces) form in
    let here = few_digits n high (leb high 4294967295) refl fit.1 (ltb-true high (2 ^ 64) f.0) in
    let later = spelled pieces ns bytes f.1 fit.2 fits in omega (arith, here, later)

-- The bytes of a history line

abbrev pub line_bytes : Line → ℕ
line_bytes recorded = widths (fields_of_row pieces_of (row_of_line recorded))

abbrev pub lines_bytes : List Line → ℕ
lines_bytes [] = 0
lines_bytes (recorded ∷ lines) = line_bytes recorded + lines_bytes lines

-- The cost of a line: its bytes and, for a write of State 3, those of the session's mark that can
-- follow it.

abbrev pub mark_room : Line → ℕ
mark_room (line.State peer value) = if value == 3 then 31 + length (decimal peer) else 0
mark_room _ = 0

abbrev pub line_cost : Line → ℕ
line_cost recorded = line_bytes recorded + mark_room recorded

abbrev pub lines_cost : List Line → ℕ
lines_cost [] = 0
lines_cost (recorded ∷ lines) = line_cost recorded + lines_cost lines

-- The mark has its room.
pub mark_bytes : (peer opened other : ℕ) → Fits (line.Session peer opened other) → line_bytes (line.Session peer opened other) ≤ 31 + length (decimal peer)
mark_bytes peer opened other fits =
    let values = fits.values in let most = values.2.1 in let most' = values.2.2.1 in
    let own = length-decimal-le 10 opened (omega arith) (omega (arith, most)) (omega (arith, most)) in
    let its = length-decimal-le 10 other (omega arith) (omega (arith, most')) (omega (arith, most')) in
    omega (arith, own, its)

-- The number of fields is the number of pieces.
counted : (pieces : List Piece) (ns bytes : List ℕ) → Fit pieces ns → length (spell pieces ns bytes) ≡ length pieces
counted [] ns bytes fit = refl
counted (Word w ∷ pieces) ns bytes fit = ap suc (counted pieces ns bytes fit)
counted (Hex ∷ pieces) ns bytes fit = ap suc (counted pieces ns bytes fit)
counted (Number low high ∷ pieces) [] bytes fit = absurd fit
counted (Number low high ∷ pieces) (n ∷ ns) bytes fit = ap suc (counted pieces ns bytes fit.2)

whole : (fields : List (List ℕ)) → 0 < length fields → length (line_of fields) + 1 ≡ widths fields
whole [] some = absurd (omega arith)
whole (field ∷ fields) some = joined field fields

pub row_bytes : (r : Row LineForm) → Fit (pieces_of r.form) r.numbers → length (bare pieces_of r) + 1 ≡ widths (fields_of_row pieces_of r)
row_bytes r fit = whole (fields_of_row pieces_of r) (omega (arith, counted (pieces_of r.form) r.numbers r.frame fit, is_table.some r.form))

-- The bytes of the lines of a history, and of the rows after them.
pub text_bytes : (lines : List Line) (rows : List (Row LineForm)) → AllByRecursion Fits lines → length (text_of pieces_of (map row_of_line lines ++ rows)) ≡ lines_bytes lines + length (text_of pieces_of rows)
text_bytes [] rows fits = omega arith
text_bytes (recorded ∷ lines) rows fits =
    let r = row_of_line recorded in let others = map row_of_line lines ++ rows in let fit = fits.0 in
    let is = ap (λ (t : List ℕ). length t) (text-cons pieces_of r others) in
    omega (arith, is, length-append (bare pieces_of r) (10 ∷ text_of pieces_of others), row_bytes r fit.values, text_bytes lines rows fits.1)

-- The greatest cost of a line, for all its numbers: a frame has two digits for each byte

abbrev pub price : Line → ℕ
price (line.Read peer word value) = 35
price (line.Write peer word value) = 35
price (line.Denied peer word) = 29
price (line.State peer value) = 36 + 2 * length (decimal peer)
price (line.Doorbell peer target vector) = 35
price (line.Interrupt peer vector) = 24
price (line.Lost peer vector) = 27
price (line.Reset peer) = 13
price (line.Idle peer) = 16
price (line.ConfigRead peer offset width value) = 47
price (line.ConfigWrite peer offset width value) = 47
price (line.RegisterRead peer offset value) = 36
price (line.RegisterWrite peer offset value) = 36
price (line.MsixRead peer offset value) = 36
price (line.MsixWrite peer offset value) = 36
price (line.Saw peer value) = 26
price (line.Reclaim peer count) = 30
price (line.Look peer count) = 27
price (line.Full peer) = 16
price (line.Done peer) = 16
price (line.Over peer) = 16
price (line.Down peer) = 16
price (line.Accept peer frame) = 19 + 2 * length frame
price (line.Deliver peer frame) = 20 + 2 * length frame
price (line.Return peer) = 18
price (line.Refuse peer refused) = 51
price (line.Session peer opened other) = 41

refusals : (name : FieldName) → room (pieces_of (refuse_form name)) ≤ 51
refusals AvailIndex = omega arith
refusals _ = omega arith

abbrev roomy : Line → ℕ
roomy recorded = room (pieces_of (row_of_line recorded).form) + 2 * length (row_of_line recorded).frame

formed : (recorded : Line) → Fits recorded → line_bytes recorded ≤ roomy recorded
formed recorded fits = let r = row_of_line recorded in spelled (pieces_of r.form) r.numbers r.frame (is_table.good r.form) fits.values fits.bytes

-- The digit of State 3, or ten digits and no mark.
state_price : (peer value : ℕ) (b : Bool) → value == 3 ≡ b → value < 2 ^ 32 →
    length (decimal value) + (if b then 31 + length (decimal peer) else 0) ≤ 32 + length (decimal peer)
state_price peer value true is small =
    let three = eqb-true value 3 is in
    omega (arith, length-decimal-le 1 value (omega arith) (omega (arith, three)) (omega (arith, small)))
state_price peer value false is small = omega (arith, length-decimal-le 10 value (omega arith) (omega (arith, small)) (omega (arith, small)))

pub priced : (recorded : Line) → Fits recorded → line_cost recorded ≤ price recorded
priced (line.State peer value) fits =
    let values = fits.values in let most = values.2.1 in
    let state = state_price peer value (value == 3) refl (omega (arith, most)) in omega arith
priced (line.Refuse peer refused) fits = let e = refusals refused.field in let f = formed (line.Refuse peer refused) fits in omega arith
priced (line.Read peer word value) fits = let f = formed (line.Read peer word value) fits in omega arith
priced recorded fits = let f = formed recorded fits in omega arith
