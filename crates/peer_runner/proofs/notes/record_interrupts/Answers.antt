use Rattle.std.proofs.Common.{◌≡◌, sym, ap, ◌∙◌, ◌++◌, List, append-nil, arith}
use Rattle.lawful_history.specs.declared.line.Line.{Line}
use Rattle.peer_runner.specs.Turns.{interrupt_lines}
use Rattle.peer_runner.proofs.Looks.{found_none, found_more, found_rest}
use Rattle.peer_runner.proofs.notes.record_interrupts.Goals as goal

pub loop-bit-init : goal.loop-bit-init
loop-bit-init c = sym (ap (λ (l : List Line). c.args.lines.now ++ l) (found_none c.args.me c.args.found) ∙ append-nil c.args.lines.now)

pub returns-then-rest-eq0 : goal.returns-then-rest-eq0
returns-then-rest-eq0 c = found_rest c.loop-bit.bit c.args.me c.args.found c.args.lines.now c.loop-bit.lines (omega arith) c.if-rest-eq0.true c.loop-bit.invariant

pub loop-bit-preserved : goal.loop-bit-preserved
loop-bit-preserved c = found_more c.loop-bit.bit c.args.me c.args.found c.args.lines.now c.loop-bit.lines c.record_interrupt.new.lines c.loop-bit.invariant c.in_ok-record_interrupt.ensures

pub returns : goal.returns
returns c = let all : c.loop-bit.bit ≡ 64 = omega arith in c.loop-bit.invariant ∙ ap (λ n. c.args.lines.now ++ interrupt_lines n c.args.me c.args.found) all
