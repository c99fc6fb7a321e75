use Rattle.std.proofs.Common.{ap, refl, subst}
use Rattle.std.specs.Prelude.{map, List}
use Rattle.std.specs.String.{string_bytes}
use Rattle.ivshm_cli.specs.Due.{Runs}
use Rattle.program_edge.specs.Words.{form_of}
use Rattle.ivshm_cli.proofs.Causes.{of_words, usage_runs}
use Rattle.ivshm_cli.proofs.status_of_words.Goals as goal

pub returns-in-Ok-clause-words : goal.returns-in-Ok-clause-words
returns-in-Ok-clause-words g c =
    let before = g.S.Source.input c.args.source.now in
    let now = g.S.Source.input c.ivshm.new.source in
    let before' = g.K.Sink.output c.args.sink.now in
    let now' = g.K.Sink.output c.ivshm.new.sink in
    of_words _ _ _ c.in-Ok.is (subst (λ ws. Runs (form_of (map string_bytes ws)) before now before' now' c.ivshm.new.ran c.ivshm.result) c.as_slice.ensures.value (record {
      cause = c.ivshm.ensures.cause;
      unread = λ none. ap g.S.Source.input (c.ivshm.ensures.unread none);
    }))

pub returns-in-Err-NotText-clause-not_text : goal.returns-in-Err-NotText-clause-not_text
returns-in-Err-NotText-clause-not_text g c not_text =
    usage_runs _ _ _ _ _ _ refl c.requires c.write_text.ensures.cases c.write_text.ensures.whole c.write_text.ensures.part c.write_text.ensures.fault
    c.write_text.ensures.last c.write_text.ensures.short
