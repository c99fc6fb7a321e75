use Rattle.std.proofs.Common.{◌+◌, refl, subst, sym}
use Rattle.std.specs.Prelude.{All}
use Rattle.frame_capture.specs.Deliveries.{IsShortLine}
use Rattle.frame_capture.proofs.Delivered.{packets-more, short-more}
use Rattle.frame_capture.proofs.deliveries.captured.Goals as goal

pub loop-index-preserved : goal.loop-index-preserved
loop-index-preserved c = record {
  put = packets-more c.args.peer c.items-lines.result.now c.loop-index.index (c.loop-index.index + 1) c.index-lines-index.result c.loop-index.packets c.put_line.new.packets
      c.loop-index-test.true c.index-lines-index.is refl c.loop-index.invariant.put c.in_ok-put_line.ensures;
  short =
      let all : All IsShortLine c.items-lines.result.now = subst (All IsShortLine) (sym c.items-lines.ensures) c.requires.short in
      short-more c.args.peer (c.loop-index.index + 1) c.index-lines-index.result c.loop-index.packets c.put_line.new.packets c.loop-index.invariant.short
      (subst IsShortLine (sym c.index-lines-index.is) (all c.loop-index.index c.index-lines-index.result c.loop-index-test.true)) c.in_ok-put_line.ensures;
}
