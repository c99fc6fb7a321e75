-- The result of a call that reads a whole text, by the definitions. A failed allocation is the one
-- free answer.
use Rattle.std.specs.Prelude.{◌≡◌, Bool, true, false, Result, Ok, Err}
use Rattle.line_format.specs.declared.reading.TextFault.{TextFault}
use Rattle.line_format.specs.declared.reading.TextFault.TheVariants.{NoMemory, At, After, NoEnd}
use Rattle.line_format.specs.Texts.{Sense}

abbrev pub Unless : Bool → Type 0 → Type 0
Unless true Fact = Unit {0}
Unless false Fact = Fact

-- The fault is that of the definition, unless an allocation failed.
abbrev pub Refuses : {S C W E Y : Type 0} → Sense S C W E → E → Result Y E → Type 0
Refuses s fault said = Unless (s.is_no_memory fault) (said ≡ Err fault)

-- The value of a whole text, through a view, is that of the definition, unless an allocation
-- failed.
abbrev pub Answers : {S C W E X : Type 0} → Sense S C W E → (X → W) → Result X E → Result W E → Type 0
Answers s view (Ok x) said = said ≡ Ok (view x)
Answers s view (Err fault) said = Refuses s fault said

-- The fault of a text.
abbrev pub fault_of_text : {S C W E : Type 0} → Sense S C W E → TextFault C → E
fault_of_text s NoMemory = s.no_memory
fault_of_text s (At cause n) = s.at cause n
fault_of_text s (After n) = s.after n
fault_of_text s NoEnd = s.no_end
