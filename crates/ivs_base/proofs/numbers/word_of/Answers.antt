use Rattle.std.proofs.Common.{[], ◌∷◌, ◌++◌, ◌∙◌, length, drop, ap}
use Rattle.byteorder.specs.Endian.{little_number}
use Rattle.ivs_base.proofs.PaddedWords.{word_of-padded}
use Rattle.ivs_base.proofs.numbers.word_of.Goals as goal

pub returns : goal.returns
returns c = c.read_u32.ensures ∙ ap (λ front. little_number 4 (front ++ drop (length c.args.bytes.now) (0 ∷ 0 ∷ 0 ∷ 0 ∷ []))) c.copy_from_slice.ensures.after ∙ word_of-padded c.args.bytes.now c.requires.fits
