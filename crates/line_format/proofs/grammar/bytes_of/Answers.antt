use Rattle.std.proofs.Common.{sym, ◌∙◌}
use Rattle.line_format.proofs.WrongDigits.{no_bytes, sized_is}
use Rattle.line_format.proofs.grammar.bytes_of.Goals as goal

pub returns-then-not-fits : goal.returns-then-not-fits
returns-then-not-fits g c =
    rw (← c.slots.ensures.value, ← c.hex_field-digits.ensures)
    (no_bytes (g.G.Grammar.rules.fits (g.G.Grammar.draft_view c.args.draft.now) c.args.form) c.hex_field-digits.result.now (sym c.fits.ensures ∙ c.if-not-fits.true))

pub returns : goal.returns
returns g c =
    rw (← c.slots.ensures.value, ← c.hex_field-digits.ensures)
    (sized_is (g.G.Grammar.rules.fits (g.G.Grammar.draft_view c.args.draft.now) c.args.form) c.hex_field-digits.result.now (λ v. v.items) _ (sym c.fits.ensures ∙ c.if-not-fits.false) c.read_hex.ensures)
