-- The result of reading, by the definitions. A failed allocation is the one free answer.
use Rattle.std.specs.Prelude.{◌≡◌, Result, Ok, Err}
use Rattle.line_format.specs.declared.reading.LineFault.{LineFault}
use Rattle.line_format.specs.declared.reading.LineFault.TheVariants as lines
use Rattle.line_format.specs.declared.reading.TextFault.{TextFault}
use Rattle.line_format.specs.declared.reading.TextFault.TheVariants as texts
use Rattle.line_format.specs.Machine.{Wrong, At, After, NoEnd}

-- The line is faulty for this cause, unless an allocation failed.
abbrev pub Fails : {S C : Type 0} → LineFault C → Result S C → Type 0
Fails lines.NoMemory said = Unit {0}
Fails (lines.Wrong cause) said = said ≡ Err cause

-- After a line that was taken the value is `now`; otherwise the line is faulty, unless an
-- allocation failed.
abbrev pub Gives : {S C U : Type 0} → S → Result U (LineFault C) → Result S C → Type 0
Gives now (Ok done) said = said ≡ Ok now
Gives now (Err fault) said = Fails fault said

-- The draft of a text that was read has its value, through the view; otherwise this is the text's
-- first fault, unless an allocation failed.
abbrev pub Reads : {D S C : Type 0} → (D → S) → Result D (TextFault C) → Result S (Wrong C) → Type 0
Reads view (Ok draft) said = said ≡ Ok (view draft)
Reads view (Err texts.NoMemory) said = Unit {0}
Reads view (Err (texts.At cause n)) said = said ≡ Err (At cause n)
Reads view (Err (texts.After n)) said = said ≡ Err (After n)
Reads view (Err texts.NoEnd) said = said ≡ Err NoEnd
