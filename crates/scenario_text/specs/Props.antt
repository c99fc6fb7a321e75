-- The property of being a scenario has at most one proof.
use Rattle.std.proofs.Common.{ℕ, List, [], ◌∷◌}
use Rattle.std.proofs.Props.{props}
use mathlib.Core.List.{is_set}
use Rattle.line_format.specs.Forms.{Piece, Word, Number, Hex, Fit, FitBytes}
use Rattle.pci_space.specs.declared.wiring.Wiring.{Wiring}
use Rattle.pci_space.specs.declared.wiring.Wiring.TheVariants.{Msix, Intx}
use Rattle.pci_space.specs.Wiring.{IsWiring}
use Rattle.scenario_text.specs.Scenario.{World, IsWorld}

pub Fit-prop : (ps : List Piece) (ns : List ℕ) → IsProp (Fit ps ns)
Fit-prop [] [] = hlevel props
Fit-prop [] (n ∷ ns) = hlevel props
Fit-prop (Word w ∷ ps) ns = Fit-prop ps ns
Fit-prop (Hex ∷ ps) ns = Fit-prop ps ns
Fit-prop (Number low high ∷ ps) [] = hlevel props
Fit-prop (Number low high ∷ ps) (n ∷ ns) = hlevel (props, Fit-prop ps ns)

pub FitBytes-prop : (ps : List Piece) (bytes : List ℕ) → IsProp (FitBytes ps bytes)
FitBytes-prop [] bytes = hlevel (props, is_set)
FitBytes-prop (Word w ∷ ps) bytes = FitBytes-prop ps bytes
FitBytes-prop (Number low high ∷ ps) bytes = FitBytes-prop ps bytes
FitBytes-prop (Hex ∷ []) bytes = hlevel props
FitBytes-prop (Hex ∷ p ∷ ps) bytes = hlevel props

IsWiring-prop : (w : Wiring) → IsProp (IsWiring w)
IsWiring-prop (Msix vectors) = hlevel props
IsWiring-prop Intx = hlevel props

pub IsWorld-prop : (w : World) → IsProp (IsWorld w)
IsWorld-prop w = hlevel (props, is_set, Fit-prop, FitBytes-prop, IsWiring-prop)
