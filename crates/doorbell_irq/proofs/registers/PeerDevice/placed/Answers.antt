use Rattle.std.proofs.Common.{refl, ◌∙◌, ap}
use Rattle.pci_space.specs.Fields.{reset_byte}
use Rattle.doorbell_irq.specs.Events.{page_rows}
use Rattle.doorbell_irq.proofs.registers.PeerDevice.placed.Goals as goal

pub returns : goal.returns
returns g c =
    let pages = ap (λ peers. page_rows peers c.args.peer) c.peers.ensures.value in
    record {
      connected = refl;
      config = record { rows = c.placed_space.ensures.rows; bytes = c.placed_space.ensures.bytes };
      page = record { rows = c.page_at_reset.ensures.rows ∙ pages; bytes = λ k. c.page_at_reset.ensures.bytes k ∙ ap (λ rows. reset_byte rows k) pages };
      count = c.requires.count;
      entries = λ n entry at. record { rows = (c.requires.reset n entry at).rows; bytes = (c.requires.reset n entry at).bytes };
    }
