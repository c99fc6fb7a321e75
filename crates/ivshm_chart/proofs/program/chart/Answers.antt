use Rattle.ivshm_chart.proofs.Causes.{written}
use Rattle.ivshm_chart.proofs.program.chart.Goals as goal

pub write_text-requires-in-Ok-reply_to : goal.write_text-requires-in-Ok-reply_to
write_text-requires-in-Ok-reply_to g c =
    let reply = c.in-Ok-reply_to.reply in
    written c.in-Some.form.span c.deref.result.now reply.status reply.text.items reply.drawn c.in-Ok-reply_to.ensures
