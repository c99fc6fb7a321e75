-- The wiring of a world's devices: MSI-X or INTx.
use Rattle.std.specs.Prelude.{ℕ, ◌-◌, ◌≤◌}
use Rattle.pci_space.specs.declared.sizes.TheConstants.{MOST_VECTORS}
use Rattle.pci_space.specs.declared.wiring.Wiring.{Wiring}
use Rattle.pci_space.specs.declared.wiring.Wiring.TheVariants.{Msix, Intx}

-- A wiring has at least one MSI-X vector and at most the greatest number, or INTx (profile).
abbrev pub IsWiring : Wiring → Type 0
IsWiring (Msix vectors) = (1 ≤ vectors) × (vectors ≤ MOST_VECTORS)
IsWiring Intx = Unit {0}

-- The first number with MSI-X, the second with INTx.
abbrev pub if_msix : Wiring → ℕ → ℕ → ℕ
if_msix (Msix vectors) with_msix with_intx = with_msix
if_msix Intx with_msix with_intx = with_intx

-- The number of the last MSI-X vector, as in Message Control (PCI 3.0, 6.8.2.3); 0 with INTx.
abbrev pub last_vector : Wiring → ℕ
last_vector (Msix vectors) = vectors - 1
last_vector Intx = 0
