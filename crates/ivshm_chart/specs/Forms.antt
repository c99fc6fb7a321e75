-- The words of the program (profile).
use Rattle.std.specs.Prelude.{ℕ, ◌^◌, ◌-◌, ◌&&◌, nat_le, if◌then◌else◌, List, [], ◌∷◌, codes, Option, Some, None}
use Rattle.std.specs.Str.{bytes_eq}
use Rattle.line_format.specs.Numbers.{number_of}
use Rattle.ivshm_chart.specs.declared.words.Span.{Span}
use Rattle.ivshm_chart.specs.declared.words.Form.{Form}
use Rattle.ivshm_chart.specs.declared.words.Kind.{Kind}
use Rattle.ivshm_chart.specs.declared.words.Kind.TheVariants.{Svg, Text}

-- From a line to a line of the history, counted from 1.
abbrev pub span_of : Option ℕ → Option ℕ → Option Span
span_of (Some first) (Some last) = if nat_le 1 first && nat_le first last then Some (record { first = first; last = last }) else None
span_of _ _ = None

-- All lines.
abbrev pub all : Span
all = record { first = 1; last = 2 ^ 64 - 1 }

-- A picture of this kind of these lines, if they are a span.
abbrev pub picture_of : Kind → Option Span → Option Form
picture_of kind None = None
picture_of kind (Some span) = Some (record { kind = kind; span = span })

-- A text for a terminal, if the word says so.
abbrev pub text_of : (word : List ℕ) → Option Span → Option Form
text_of word span = if bytes_eq word (codes "--text") then picture_of Text span else None

-- The meaning of the words: a picture of all lines, or of those between two numbers, as an SVG file
-- or as a text. Or the program doesn't know the words.
abbrev pub form_of : List (List ℕ) → Option Form
form_of [] = picture_of Svg (Some all)
form_of (word ∷ []) = text_of word (Some all)
form_of (first ∷ last ∷ []) = picture_of Svg (span_of (number_of first) (number_of last))
form_of (word ∷ first ∷ last ∷ []) = text_of word (span_of (number_of first) (number_of last))
form_of _ = None
