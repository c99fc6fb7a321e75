use Rattle.std.proofs.Common.{ap, ◌∙◌, subst}
use Rattle.call_grammar.specs.Bursts.{ReadsBurst}
use Rattle.link_endpoint.specs.Engine.{reads_ahead}
use Rattle.ivshm_c.specs.Crossing.{access_crossed}
use Rattle.ivshm_c.proofs.calls.next_access.Goals as goal

pub returns : goal.returns
returns c = record {
  access = (
    c.next.result,
    c.order.result,
    record { access = c.next.ensures.access; reach = c.next.ensures.reach; nothing = c.next.ensures.nothing; leaves = c.next.ensures.leaves },
    record { reads = λ config end place word refines first. subst (ReadsBurst config place word) c.reads_ahead.ensures.value (c.reads_ahead.ensures.reads config end place word refines first); order = c.order.ensures },
    (c.access_crossed.ensures ∙ ap (λ n. access_crossed c.next.result n c.writes_ahead.result c.order.result) c.reads_ahead.ensures.value ∙ ap (λ n. access_crossed c.next.result (reads_ahead c.args.port.now.endpoint) n c.order.result) c.writes_ahead.ensures),
  );
}
