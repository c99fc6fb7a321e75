-- The forms of a scenario's lines, by words and numbers (profile).
use Rattle.std.specs.Prelude.{◌^◌, ◌-◌, List, [], ◌∷◌, codes}
use Rattle.pci_space.specs.declared.sizes.TheConstants.{MOST_VECTORS}
use Rattle.line_format.specs.Forms.{Piece, Word, Number, Hex}
use Rattle.scenario_text.specs.declared.forms.Form.{Form}
use Rattle.scenario_text.specs.declared.forms.Form.TheVariants.{Version, Peers, Table, Common, Out, Mtu, Msix, Intx, Honest, Hostile, Begin, Tick, Offer, Poll, Stop, Auto, Storm, Turn, Reset, Poke, Peek, Set, Ring, CfgRead, CfgWrite, MmioRead, MmioWrite, MsixRead, MsixWrite, Lose, Again, End}
use Rattle.scenario_text.specs.declared.limits.TheConstants.{MOST_ACTS}

abbrev pub any_number : Piece
any_number = Number 0 (2 ^ 64 - 1)

abbrev pub u32_number : Piece
u32_number = Number 0 (2 ^ 32 - 1)

abbrev pub u16_number : Piece
u16_number = Number 0 65535

-- The offset of a byte of the configuration space.
abbrev pub space_place : Piece
space_place = Number 0 255

-- The offset of a byte of the register page or of the MSI-X region.
abbrev pub page_place : Piece
page_place = Number 0 4095

-- The fields of a line of this form.
abbrev pub pieces_of : Form → List Piece
pieces_of Version = Word (codes "ivshm") ∷ Number 1 3 ∷ []
pieces_of Peers = Word (codes "peers") ∷ Number 2 8 ∷ []
pieces_of Table = Word (codes "table") ∷ u32_number ∷ []
pieces_of Common = Word (codes "common") ∷ any_number ∷ []
pieces_of Out = Word (codes "out") ∷ any_number ∷ []
pieces_of Mtu = Word (codes "mtu") ∷ u32_number ∷ []
pieces_of Msix = Word (codes "irq") ∷ Word (codes "msix") ∷ Number 1 MOST_VECTORS ∷ []
pieces_of Intx = Word (codes "irq") ∷ Word (codes "intx") ∷ []
pieces_of Honest = Word (codes "peer") ∷ any_number ∷ Word (codes "honest") ∷ []
pieces_of Hostile = Word (codes "peer") ∷ any_number ∷ Word (codes "hostile") ∷ []
pieces_of Begin = Word (codes "begin") ∷ []
pieces_of Tick = Word (codes "tick") ∷ any_number ∷ []
pieces_of Offer = Word (codes "offer") ∷ any_number ∷ Hex ∷ []
pieces_of Poll = Word (codes "poll") ∷ any_number ∷ []
pieces_of Stop = Word (codes "stop") ∷ any_number ∷ []
pieces_of Auto = Word (codes "auto") ∷ any_number ∷ any_number ∷ []
pieces_of Storm = Word (codes "storm") ∷ any_number ∷ any_number ∷ []
pieces_of Turn = Word (codes "turn") ∷ any_number ∷ Number 0 MOST_ACTS ∷ []
pieces_of Reset = Word (codes "reset") ∷ any_number ∷ []
pieces_of Poke = Word (codes "poke") ∷ any_number ∷ u32_number ∷ u32_number ∷ []
pieces_of Peek = Word (codes "peek") ∷ any_number ∷ u32_number ∷ []
pieces_of Set = Word (codes "set") ∷ any_number ∷ u32_number ∷ []
pieces_of Ring = Word (codes "ring") ∷ any_number ∷ u16_number ∷ u16_number ∷ []
pieces_of CfgRead = Word (codes "cfg") ∷ any_number ∷ Word (codes "r") ∷ space_place ∷ Number 1 4 ∷ []
pieces_of CfgWrite = Word (codes "cfg") ∷ any_number ∷ Word (codes "w") ∷ space_place ∷ Number 1 4 ∷ u32_number ∷ []
pieces_of MmioRead = Word (codes "mmio") ∷ any_number ∷ Word (codes "r") ∷ page_place ∷ []
pieces_of MmioWrite = Word (codes "mmio") ∷ any_number ∷ Word (codes "w") ∷ page_place ∷ u32_number ∷ []
pieces_of MsixRead = Word (codes "msix") ∷ any_number ∷ Word (codes "r") ∷ page_place ∷ []
pieces_of MsixWrite = Word (codes "msix") ∷ any_number ∷ Word (codes "w") ∷ page_place ∷ u32_number ∷ []
pieces_of Lose = Word (codes "lose") ∷ any_number ∷ []
pieces_of Again = Word (codes "again") ∷ any_number ∷ Number 0 63 ∷ []
pieces_of End = Word (codes "end") ∷ []

abbrev pub all_forms : List Form
all_forms = Version ∷ Peers ∷ Table ∷ Common ∷ Out ∷ Mtu ∷ Msix ∷ Intx ∷ Honest ∷ Hostile ∷ Begin ∷ Tick ∷ Offer ∷ Poll ∷ Stop ∷ Auto ∷ Storm ∷ Turn
    ∷ Reset ∷ Poke ∷ Peek ∷ Set ∷ Ring ∷ CfgRead ∷ CfgWrite ∷ MmioRead ∷ MmioWrite ∷ MsixRead ∷ MsixWrite ∷ Lose ∷ Again ∷ End ∷ []
