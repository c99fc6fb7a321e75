use Rattle.std.proofs.Common.{◌≡◌, ◌+◌, ◌-◌, ◌++◌, ℕ, Option, List, slice_get, ap, ◌∙◌}
use Rattle.record_chart.specs.declared.arrows.Arrow.{Arrow}
use Rattle.record_chart.specs.Arrows.{arrow_to}
use Rattle.record_chart.proofs.ArrowsByLine.{all_arrows, acceptances_more, delivered_more, delivered_few, arrows_more}
use Rattle.record_chart.proofs.arrows.arrows_of.Goals as goal

pub loop-at-preserved : goal.loop-at-preserved
loop-at-preserved c =
    let line = c.index-lines-at.result in
    let lines = c.args.lines.now in
    let at : ℕ = c.loop-at.at in
    let numbers : List ℕ = c.loop-at.acceptances.items in
    let source : c.number_at-source.result ≡ slice_get numbers c.loop-at.delivered = c.number_at-source.ensures
    ∙ ap (λ (ns : List ℕ). slice_get ns c.loop-at.delivered) c.deref.ensures.value in
    let arrows : c.put_arrow.new.arrows.items ≡ c.loop-at.arrows.items ++ arrow_to c.args.peer c.args.first (at + 1) (slice_get numbers c.loop-at.delivered)
    line =
    c.in_ok-put_arrow.ensures ∙ ap (λ (s : Option ℕ). c.loop-at.arrows.items ++ arrow_to c.args.peer c.args.first (at + 1) s line) source in
    record {
      accepted = c.in_ok-put_acceptance.ensures ∙ acceptances_more (1 - c.args.peer) lines at line numbers c.loop-at-test.true c.index-lines-at.is
          c.loop-at.invariant.accepted;
      delivered = c.delivered_after-delivered.ensures
          ∙ delivered_more c.args.peer lines at line c.loop-at.delivered c.loop-at-test.true c.index-lines-at.is c.loop-at.invariant.delivered;
      few = rw c.delivered_after-delivered.ensures (delivered_few c.args.peer line c.loop-at.delivered at c.loop-at.invariant.few);
      arrows = ap (λ (as_ : List Arrow). all_arrows c.args.peer c.args.first (at + 1) as_ lines) arrows
          ∙ arrows_more c.args.peer c.args.first at c.loop-at.arrows.items lines line numbers c.loop-at.delivered c.loop-at-test.true c.index-lines-at.is
          c.loop-at.invariant.accepted c.loop-at.invariant.delivered
          ∙ c.loop-at.invariant.arrows;
    }
