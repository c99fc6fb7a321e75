use Rattle.std.proofs.Common.{[], ◌∷◌, ◌++◌, ap, sym, ◌∙◌}
use Rattle.std.specs.Prelude.{slice_index}
use Rattle.std.proofs.lemmas.Result.{on_ok_weaker}
use Rattle.simulator.specs.Log.{Counts, is_entering}
use Rattle.simulator.specs.declared.log.Log.{Log}
use Rattle.simulator.proofs.LogLines.{pushed}
use Rattle.simulator.proofs.log.Log.push.Goals as goal

pub returns : goal.returns
returns c =
    on_ok_weaker c.push.result (λ put world output past frame log.
    let marked = c.mark_before.new.self in
    let kept = c.mark_before.ensures.kept in
    let before : Counts past marked = record {
      opened = λ few p two. ap (λ (l : Log). slice_index l.opened p) kept ∙ log.counts.opened few p two;
      entering = λ p. log.counts.entering p ∙ ap (λ (l : Log). is_entering l.entering p) (sym kept);
    } in
    let counts = c.count.ensures.counts past before in
    pushed world output past c.args.line c.args.self.now marked _ frame (λ few. c.in_ok-mark_before.ensures.marks world output past log few) c.in_ok-mark_before.ensures.frames
    (c.count.ensures.version ∙ ap (λ (l : Log). l.version) kept) (c.count.ensures.honest ∙ ap (λ (l : Log). l.honest) kept)
    (record { opened = counts.opened; entering = counts.entering }) (put ∙ ap (λ ls. ls ++ c.args.line ∷ []) c.count.ensures.lines) log)
    c.push.ensures.ok
