-- A record's text part by part.
use Rattle.std.proofs.Common.{[], ◌∷◌, length, map, ap, ◌∙◌}
use Rattle.std.proofs.lemmas.List.{map-append}
use Rattle.std.proofs.lemmas.List.Concat.{flat_map-append}
use Rattle.line_format.specs.Rows.{row, line_of_row, text_of}
use Rattle.line_format.proofs.PartLaws.{text-push}
use Rattle.record_text.specs.declared.forms.LineForm.TheVariants.{Count}
use Rattle.record_text.specs.Table.{pieces_of}
use Rattle.record_text.specs.LineRows.{row_of_line}
use Rattle.record_text.specs.Growing.{front_text, PartsAreSpelling, LinesFollow}

pub lines_follow : LinesFollow
lines_follow first others = ap (text_of pieces_of) (map-append row_of_line first others) ∙ flat_map-append (line_of_row pieces_of) (map row_of_line first) (map row_of_line others)

pub parts_are : PartsAreSpelling
parts_are r = text-push pieces_of (front_text r.version r.world) (map row_of_line r.lines) (row Count (length r.lines ∷ []) [])
