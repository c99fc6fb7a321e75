use Rattle.std.proofs.Common.{◌≡◌, false, sym, ap, subst, ◌∙◌}
use Rattle.std.specs.List.{list_any}
use Rattle.call_grammar.specs.Places.{is_open}
use Rattle.link_invariant.specs.LinkConfig.{config_of}
use Rattle.frame_bridge.specs.Links.{link_config, AutoEnd, Link, opened, value_in}
use Rattle.frame_bridge.specs.Refinement.{AutoEndRefines, RegionRefines, is_delivery}
use Rattle.frame_bridge.proofs.Turns.{Took, still, turned_closed, auto_end_turned, recorded_turned, words_turned}
use Rattle.frame_bridge.proofs.auto_ends.take_turn.Goals as goal

pub returns-then-not-busy-clause-auto_end : goal.returns-then-not-busy-clause-auto_end
returns-then-not-busy-clause-auto_end c = λ link refines region.
    let config = config_of link_config c.args.me in
    let auto_end : AutoEnd = opened config (link.auto_ends c.args.me) in
    let next : AutoEndRefines c.args.me auto_end c.open_next.new.auto_end = c.open_next.ensures (link.auto_ends c.args.me) refines in
    let closed : is_open auto_end.place ≡ false = sym (c.busy.ensures.open config auto_end.end auto_end.place next.end) ∙ c.if-not-busy.true in
    subst (λ (p : AutoEnd). AutoEndRefines c.args.me p c.open_next.new.auto_end)
    (still config (link.auto_ends c.args.me) closed ∙ ap (λ (l : Link). l.auto_ends c.args.me) (sym (turned_closed c.args.me link closed))) next

taken : (c : goal.After-delivers) (link : Link) → AutoEndRefines c.args.me (link.auto_ends c.args.me) c.args.auto_end.now → RegionRefines link.memory c.args.region.now →
    Took c.args.me link c.open_next.new.auto_end c.perform-value.result c.took-notes.result.items c.took-notes.new.self
taken c link refines region =
    let config = config_of link_config c.args.me in
    let auto_end : AutoEnd = opened config (link.auto_ends c.args.me) in
    let next : AutoEndRefines c.args.me auto_end c.open_next.new.auto_end = c.open_next.ensures (link.auto_ends c.args.me) refines in
    record {
      refines = next;
      opens = sym (c.busy.ensures.open config auto_end.end auto_end.place next.end) ∙ c.if-not-busy.false;
      takes = c.took-notes.ensures.steps;
      reads = c.perform-value.ensures.value link.memory region ∙ ap (value_in link.memory) (c.next-access.ensures.access config auto_end.end auto_end.place next.end);
      counts = c.took-notes.ensures.counts;
    }

pub returns-clause-auto_end : goal.returns-clause-auto_end
returns-clause-auto_end c = λ link refines region.
    auto_end_turned c.args.me link c.open_next.new.auto_end c.perform-value.result c.took-notes.result.items c.took-notes.new.self (taken c link refines region)

pub returns-clause-words : goal.returns-clause-words
returns-clause-words c = λ link refines region.
    let took = taken c link refines region in
    words_turned c.args.me link c.next-access.result c.perform-value.new.region took.opens
    (c.next-access.ensures.access (config_of link_config c.args.me) (opened (config_of link_config c.args.me) (link.auto_ends c.args.me)).end (opened (config_of link_config c.args.me) (link.auto_ends c.args.me)).place took.refines.end)
    (c.perform-value.ensures.words link.memory region)

pub returns-clause-recorded : goal.returns-clause-recorded
returns-clause-recorded c = λ link refines region.
    recorded_turned c.args.me link c.open_next.new.auto_end c.perform-value.result c.took-notes.result.items c.took-notes.new.self c.delivers.result
    (taken c link refines region) (ap (list_any is_delivery) (sym c.as_slice.ensures.value) ∙ sym c.delivers.ensures)
