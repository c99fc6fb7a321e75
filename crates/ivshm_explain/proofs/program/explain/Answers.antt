use Rattle.std.proofs.Common.{List, ℕ, sym, subst, Option}
use Rattle.program_edge.specs.declared.words.Command.{Command}
use Rattle.ivshm_explain.specs.Explained.{IsReply, HasCause}
use Rattle.ivshm_explain.proofs.Causes.{replied, written}
use Rattle.ivshm_explain.proofs.program.explain.Goals as goal

pub write_text-requires-in-Ok-reply_to : goal.write_text-requires-in-Ok-reply_to
write_text-requires-in-Ok-reply_to g c =
    written c.in-Some.form c.deref-2.result.now c.in-Ok-reply_to.reply.text.items c.in-Ok-reply_to.reply.status c.in-Ok-reply_to.ensures

pub returns-in-Ok-reply_to-clause-cause : goal.returns-in-Ok-reply_to-clause-cause
returns-in-Ok-reply_to-clause-cause g c =
    let before = g.S.Source.input c.args.source.now in
    let now = g.S.Source.input c.read_input.new.source in
    let before' = g.K.Sink.output c.args.sink.now in
    let now' = g.K.Sink.output c.write_text-in-Ok-reply_to.new.sink in
    let said = c.in-Ok-reply_to.reply in
    let read = subst (λ (bs : List ℕ). IsReply c.in-Some.form bs said.status said.text.items) c.deref-2.ensures.value c.in-Ok-reply_to.ensures in
    let reply = subst (λ (text : List ℕ). IsReply c.in-Some.form c.in-Ok.bytes.items said.status text) (sym c.deref-in-Ok-reply_to.ensures.value) read in
    subst (λ (o : Option Command). HasCause c.write_text-in-Ok-reply_to.result o before now before' now') c.in-Some.ensures.form
    (replied c.in-Some.form before now before' now' c.in-Ok.bytes.items c.deref-in-Ok-reply_to.result.now c.in-Ok.ensures.whole said.status c.write_text-in-Ok-reply_to.result reply
    c.write_text-in-Ok-reply_to.ensures.cases c.write_text-in-Ok-reply_to.ensures.whole c.write_text-in-Ok-reply_to.ensures.fault)
