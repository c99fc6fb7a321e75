use Rattle.std.proofs.Common.{string_bytes}
use Rattle.section_dump.specs.Image.{region_words}
use Rattle.section_dump.proofs.Bodies.{state_more}
use Rattle.section_dump.proofs.listing.put_states.Goals as goal

pub loop-peer-preserved : goal.loop-peer-preserved
loop-peer-preserved c =
    state_more (region_words c.args.image.now) c.loop-peer.peer c.region_word.result
    (string_bytes c.args.text.now) (string_bytes c.loop-peer.text) (string_bytes c.put_state.new.text)
    c.loop-peer.invariant c.region_word.ensures c.in_ok-put_state.ensures
