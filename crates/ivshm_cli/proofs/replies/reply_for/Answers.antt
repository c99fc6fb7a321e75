use Rattle.std.proofs.Common.{sym, ap, subst}
use Rattle.std.specs.Prelude.{None}
use Rattle.ivshm_cli.specs.declared.replies.Reply.{Reply}
use Rattle.program_edge.specs.declared.words.Command.{Command}
use Rattle.program_edge.specs.declared.words.Command.TheVariants.{Run}
use Rattle.ivshm_cli.specs.Forms.{ports_fault, bridge_fault, IsTextVerdict, Replies}
use Rattle.ivshm_cli.proofs.Complete.{read_ports}
use Rattle.ivshm_cli.proofs.replies.reply_for.Goals as goal

pub returns-in_ok-run-in-Run-clause-replies : goal.returns-in_ok-run-in-Run-clause-replies
returns-in_ok-run-in-Run-clause-replies g c =
    let bytes = c.args.bytes.now in
    let reply = c.ran.result in
    let run = c.in_ok-run-in-Run.field-0 in
    subst (λ (f : Command). Replies f bytes reply.status reply.text.items) (sym c.in-Run.is)
    (subst (λ (r : Reply). Replies Run bytes r.status r.text.items) (sym c.ran.ensures) (run.ran, c.in_ok-run-in-Run.ensures.run))

pub returns-in-Ok-ports-clause-accepted : goal.returns-in-Ok-ports-clause-accepted
returns-in-Ok-ports-clause-accepted g c =
    let bytes = c.args.bytes.now in
    let found = c.in-Ok-ports.ensures.found in
    subst (λ (f : Command). IsTextVerdict f bytes None) (sym c.in-Ports.is) (ap ports_fault (read_ports found.world bytes found.spelled c.printed_is_read_again.ensures))

pub returns-in-Ok-bridge-clause-accepted : goal.returns-in-Ok-bridge-clause-accepted
returns-in-Ok-bridge-clause-accepted g c =
    let bytes = c.args.bytes.now in
    let found = c.in-Ok-bridge.ensures.found in
    subst (λ (f : Command). IsTextVerdict f bytes None) (sym c.in-Bridge.is) (ap bridge_fault (c.spelled_is_read.ensures found.script bytes found.spelled))
