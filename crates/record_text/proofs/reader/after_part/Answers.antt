use Rattle.std.proofs.Common.{◌≡◌, ◌∙◌, ap, length, take}
use Rattle.std.specs.Prelude.{not}
use Rattle.std.proofs.lemmas.Bool.{true≢false}
use Rattle.std.proofs.lemmas.Slice.Eq.{bytes_eq-Decides}
use Rattle.std.proofs.Math.Seq.{take-append_seam}
use Rattle.record_text.proofs.reader.after_part.Goals as goal

pub returns-then-ne-clause-none : goal.returns-then-ne-clause-none
returns-then-ne-clause-none c = λ none rest is.
    let part = c.args.part.now in
    let same : c.split_at.result.0.now ≡ part = c.split_at.ensures.front ∙ ap (take (length part)) is ∙ take-append_seam part rest in
    true≢false (c.if-ne.ensures ∙ ap not ((bytes_eq-Decides c.split_at.result.0.now part).1 same))
