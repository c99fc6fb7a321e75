-- The code's peer on the trajectory of the runner.
use Rattle.std.proofs.Common.{◌≡◌, ℕ, zero, suc, ◌+◌, ◌<◌, ◌≤◌, Bool, true, false, List, [], ◌∷◌, ◌++◌, length, refl, sym, ap, ◌∙◌, subst, arith, drop-cons}
use Rattle.std.specs.Prelude.{◌^◌, Option, Some, None, Result, IsErr, not, drop, slice_index}
use Rattle.std.proofs.lemmas.Bool.{lt-ltb}
use Rattle.std.proofs.lemmas.List.{drop_all}
use Rattle.atomic_table.specs.Seated.{TableId}
use Rattle.call_grammar.specs.Automatic.{Anew}
use Rattle.call_grammar.specs.Automatic as automatic
use Rattle.call_grammar.specs.Places.{PlacesFollowTrees}
use Rattle.link_endpoint.specs.Engine.{Engine}
use Rattle.link_endpoint.specs.Plan.{Plan}
use Rattle.link_endpoint.specs.declared.auto.Choice.{Choice}
use Rattle.link_endpoint.specs.declared.auto_endpoint.AutoEndpoint.{AutoEndpoint}
use Rattle.lawful_history.specs.declared.line.Line.{Line}
use Rattle.lawful_history.specs.Peers.{Auto}
use Rattle.step_lines.specs.Plans.{IsPlanOf}
use Rattle.doorbell_irq.specs.declared.route.Route.{Route}
use Rattle.ivs_base.specs.declared.NoMemory.{NoMemory}
use Rattle.record_text.specs.Parts.{Part}
use Rattle.record_text.specs.declared.own_trace.OwnTrace.{OwnTrace}
use Rattle.shared_words.specs.declared.run_setup.RunSetup.{RunSetup}
use Rattle.shared_words.specs.declared.sessions.SessionWord.{SessionWord}
use Rattle.shared_words.specs.declared.sessions.SessionWord.TheVariants.{Own, Others}
use Rattle.peer_runner.specs.declared.turns.AutoPeer.{AutoPeer}
use Rattle.shared_words.specs.PassView.{PassView}
use Rattle.shared_words.specs.RunSetups.{config_in}
use Rattle.shared_words.specs.DerivedStates.{CallAccess, MemoryOp}
use Rattle.shared_words.specs.Actions.{Action}
use Rattle.shared_words.specs.Passes.{held, IsPassOf}
use Rattle.peer_runner.specs.Turns.{Turn, all_turns, has_turn_left, spent, IsSpanSpent, later, lines_in, lines_of_turns}
use Rattle.peer_runner.specs.Runners.{Runner, initial_runner, chosen, round_on, finishes, has_finished, turn_met, restarted_on, IsThere, IsAutoPeer}
use Rattle.peer_runner.specs.Trajectories.{GoesOn, starts, follows, IsOnTrajectory, WentTo}
use Rattle.peer_runner.specs.Drives.{MayBeAuto, automatic, Did, Drove}
use Rattle.peer_runner.specs.OwnRecord.{IsTraceOf}
use Rattle.shared_words.proofs.LinkOfSetup.{clash}
use Rattle.peer_runner.proofs.AutoChoices.{Chose}
use Rattle.peer_runner.proofs.AutoTurns.{plan_cut}
use Rattle.peer_runner.proofs.TurnsAndLines.{refused_of, recorded_snoc, all_spent, all_later, IsCounted, counted_of, far_of, finished_same, there_first, plan_first, lent, did, err_free}

-- One turn more, and its lines.

of_on : (id : TableId) (key : RunSetup) (old pass : PassView) (me : ℕ) (l m : List (Action (MemoryOp CallAccess))) → IsPassOf id key old → old.from ≡ me → old.lists ≡ l ∷ [] → pass.table_id ≡ old.table_id → pass.from ≡ me → pass.lists ≡ m ∷ [] → IsPassOf id key pass
of_on id key old pass me l m of from lists same from' lists' = let inside = of.2 in let one = ap length lists in let one' = ap length lists' in (same ∙ of.0, of.1, omega arith, of.3)

pub trajectory_on : (id : TableId) (key : RunSetup) (me : ℕ) (routes : List Route) (plan : Plan) (spans : List ℕ) (r next : Runner) (old pass : PassView) (p q : AutoPeer) → IsOnTrajectory id key me routes plan spans r old p → GoesOn (config_in key me) routes r next →
    IsThere key me routes next pass q.driven.end → IsAutoPeer q next → pass.table_id ≡ old.table_id → IsOnTrajectory id key me routes plan spans next pass q
trajectory_on id key me routes plan spans r next old pass p q on goes there is same = record {
  comes = follows r next p.driven.end on.comes on.there.refines goes;
  of = of_on id key old pass me r.actions next.actions on.of on.there.from on.there.lists same there.from there.lists;
  there = there;
  is = is;
}

pub recorded_further : (me : ℕ) (so_far now : List Turn) (turn : Turn) (old new : List Line) → now ≡ so_far ++ turn ∷ [] → old ≡ lines_of_turns me so_far → new ≡ old ++ lines_in me turn → new ≡ lines_of_turns me now
recorded_further me so_far now turn old new grows recorded is = is ∙ (ap (λ ls. ls ++ lines_in me turn) recorded ∙ sym (ap (lines_of_turns me) grows ∙ recorded_snoc me so_far turn))

-- A choice changes the round alone, and not if the peer is finished.

round_still : (auto : Auto) (c : Option automatic.Choice) → finishes c ≡ true → round_on auto c ≡ auto
round_still auto None is = refl
round_still auto (Some automatic.ChoosesTick) is = absurd (clash is)
round_still auto (Some (automatic.ChoosesOffer frame)) is = absurd (clash is)
round_still auto (Some automatic.ChoosesPoll) is = absurd (clash is)
round_still auto (Some automatic.IsFinished) is = refl

round_cut : (auto : Auto) (c : Option automatic.Choice) → record (round_on auto c) { round = Anew } ≡ record auto { round = Anew }
round_cut auto None = refl
round_cut auto (Some automatic.ChoosesTick) = refl
round_cut auto (Some (automatic.ChoosesOffer frame)) = refl
round_cut auto (Some automatic.ChoosesPoll) = refl
round_cut auto (Some automatic.IsFinished) = refl

pub planned_still : (plan : Plan) (r : Runner) → has_finished r ≡ true → IsPlanOf plan (round_on r.auto (chosen r)) → IsPlanOf plan r.auto
planned_still plan r is planned = subst (IsPlanOf plan) (round_still r.auto (chosen r) is) planned

pub trajectory_still : (id : TableId) (key : RunSetup) (me : ℕ) (routes : List Route) (plan : Plan) (spans : List ℕ) (r : Runner) (pass : PassView) (p : AutoPeer) (new : AutoEndpoint) (answer : Option Choice) →
    IsOnTrajectory id key me routes plan spans r pass p → has_finished r ≡ true → Chose r p.driven new answer → IsOnTrajectory id key me routes plan spans r pass (record p { driven = new })
trajectory_still id key me routes plan spans r pass p new answer on is chose = record {
  comes = on.comes;
  of = on.of;
  there = subst (λ (e : Engine). IsThere key me routes r pass e) (sym chose.end) on.there;
  is = record { planned = planned_still new.auto r is chose.planned; looks = on.is.looks; ringing = on.is.ringing; opened = on.is.opened; met = on.is.met };
}

pub planned_cut : (plan cut : Plan) (r : Runner) → IsPlanOf plan (round_on r.auto (chosen r)) → cut ≡ record plan { round = Anew } → IsPlanOf cut (restarted_on r).auto
planned_cut plan cut r planned is = subst (λ (p : Plan). IsPlanOf p (restarted_on r).auto) (sym is)
    (subst (IsPlanOf (record plan { round = Anew })) (round_cut r.auto (chosen r)) (plan_cut plan (record r { auto = round_on r.auto (chosen r) }) planned))

-- A turn at a session word records no line.
pub met_silent : (me number : ℕ) (word : SessionWord) → lines_in me (turn_met word number) ≡ []
met_silent me number Own = refl
met_silent me number Others = refl

-- The requirements of a turn on the pass.
pub seated : (id : TableId) (key : RunSetup) (me : ℕ) (routes : List Route) (plan : Plan) (spans : List ℕ) (r : Runner) (pass : PassView) (p : AutoPeer) → IsOnTrajectory id key me routes plan spans r pass p → IsPassOf id key pass × (pass.from ≡ me) × (0 < length pass.lists)
seated id key me routes plan spans r pass p on = (on.of, on.there.from, (let one = ap length on.there.lists in omega arith))

-- A session more can be numbered, and so can a turn.
pub few_opened : (spans : List ℕ) (r : Runner) → IsCounted spans r → has_turn_left r.spans ≡ true → all_turns spans < 2 ^ 32 → r.numbers.log.opened + 1 < 2 ^ 32
few_opened spans r is left few = let count = is.count in let most = is.opened in let one = all_spent r.spans left in omega arith

-- The runner `next` has taken `taken` turns of a span of `span` turns, and `left` turns of the span
-- are left. The runner has taken `turns` turns in all, with `lines` as their lines.
pub record IsInSpan (id : TableId) (key : RunSetup) (me : ℕ) (routes : List Route) (plan : Plan) (spans : List ℕ) (span taken : ℕ) (rest : List ℕ) (next : Runner) (pass : PassView) (p : AutoPeer) (turns : ℕ) (lines : List Line) : Type 0 where
  pub on : IsOnTrajectory id key me routes plan spans next pass p
  pub left : ℕ
  pub spans_are : next.spans ≡ left ∷ rest
  pub all : left + taken ≡ span
  pub turns_are : turns ≡ length next.turns
  pub recorded : lines ≡ lines_of_turns me next.turns

-- A turn that is left.
pub left_in_span : (spans : List ℕ) (left : ℕ) (rest : List ℕ) → spans ≡ left ∷ rest → 0 < left → has_turn_left spans ≡ true
left_in_span spans left rest is some = ap has_turn_left is ∙ lt-ltb 0 left some

-- The number of the next turn.
pub few_turns : (spans : List ℕ) (r : Runner) → IsCounted spans r → has_turn_left r.spans ≡ true → length r.turns + 1 ≤ all_turns spans
few_turns spans r is left = let count = is.count in let one = all_spent r.spans left in omega arith

pub one_more : (spans : List ℕ) (r next : Runner) → IsCounted spans r → IsCounted spans next → has_turn_left r.spans ≡ true → next.spans ≡ spent r.spans → length next.turns ≡ length r.turns + 1
one_more spans r next is then' left goes = let count = is.count in let counts = then'.count in let one = all_spent r.spans left in let same = ap all_turns goes in omega arith

-- Between two spans, after this number of spans. After 0 spans, the first span is to come.
-- Otherwise the last span is spent, unless the peer is finished.
abbrev pub IsDue : List ℕ → ℕ → Runner → Type 0
IsDue spans zero r = r.spans ≡ spans
IsDue spans (suc k) r = has_finished r ≡ false → r.spans ≡ 0 ∷ drop (suc k) spans

-- The start.
pub trajectory_first : (id : TableId) (key : RunSetup) (me : ℕ) (routes : List Route) (spans : List ℕ) (pass : PassView) (p : AutoPeer) → IsPassOf id key pass → pass.from ≡ me → pass.lists ≡ [] ∷ [] → MayBeAuto key me p.driven.auto p.driven.end →
    (p.looks ≡ Some 0) × (p.ringing ≡ false) × (p.opened ≡ 0) × (p.met ≡ None) → IsOnTrajectory id key me routes p.driven.auto spans (initial_runner p.driven.auto.frames p.driven.auto.expected spans) pass p
trajectory_first id key me routes spans pass p of from lists may fresh = record {
  comes = starts;
  of = of;
  there = there_first key me routes pass p.driven.auto spans p.driven.end from lists may;
  is = record { planned = plan_first p.driven.auto may.begins; looks = fresh.0; ringing = fresh.1; opened = fresh.2; met = fresh.3 };
}

-- The spans that are left there.

span_here : (spans : List ℕ) (k : ℕ) → k < length spans → drop k spans ≡ slice_index spans k ∷ drop (suc k) spans
span_here spans k there = drop-cons spans k 0 there

-- A reset comes between two spans.
pub due_over : (spans : List ℕ) (k : ℕ) (r : Runner) → IsDue spans k r → 0 < k → k < length spans → has_finished r ≡ false → IsSpanSpent r.spans
due_over spans zero r due some there goes = absurd (omega arith)
due_over spans (suc k) r due some there goes = subst IsSpanSpent (sym (due goes ∙ ap (λ s. 0 ∷ s) (span_here spans (suc k) there))) tt

pub due_first : (spans : List ℕ) (k : ℕ) (r : Runner) → IsDue spans k r → k ≡ 0 → k < length spans → r.spans ≡ slice_index spans k ∷ drop (suc k) spans
due_first spans zero r due none there = due ∙ span_here spans zero there
due_first spans (suc k) r due none there = absurd (omega arith)

pub due_later : (spans : List ℕ) (k : ℕ) (r next : Runner) → IsDue spans k r → 0 < k → k < length spans → has_finished r ≡ false → next.spans ≡ later r.spans → next.spans ≡ slice_index spans k ∷ drop (suc k) spans
due_later spans zero r next due some there goes is = absurd (omega arith)
due_later spans (suc k) r next due some there goes is = is ∙ (ap later (due goes) ∙ span_here spans (suc k) there)

-- After the last span.
pub due_last : (spans : List ℕ) (k : ℕ) (r : Runner) → IsDue spans k r → length spans ≤ k → has_finished r ≡ false → all_turns r.spans ≡ 0
due_last spans zero r due past goes = ap all_turns (due ∙ drop_all 0 spans past)
due_last spans (suc k) r due past goes = ap all_turns (due goes ∙ ap (λ s. 0 ∷ s) (drop_all (suc k) spans past))

pub most_turns : (spans : List ℕ) (r : Runner) → IsCounted spans r → length r.turns ≤ all_turns spans
most_turns spans r is = let count = is.count in omega arith

one_reset : (spans : List ℕ) (r next : Runner) → IsCounted spans r → IsCounted spans next → IsSpanSpent r.spans → next.spans ≡ later r.spans → length next.turns ≡ length r.turns + 1
one_reset spans r next is then' over goes = let count = is.count in let counts = then'.count in let one = all_later r.spans over in let same = ap all_turns goes in omega arith

-- The peer that is driven, with its turns and lines: a runner of which this holds is there.

pub record IsAt (id : TableId) (key : RunSetup) (me : ℕ) (routes : List Route) (plan : Plan) (spans : List ℕ) (P : Runner → Type 0) (pass : PassView) (p : AutoPeer) (turns : ℕ) (lines : List Line) : Type 0 where
  pub r : Runner
  pub on : IsOnTrajectory id key me routes plan spans r pass p
  pub holds : P r
  pub turns_are : turns ≡ length r.turns
  pub recorded : lines ≡ lines_of_turns me r.turns

module _ (id : TableId) (key : RunSetup) (me : ℕ) (routes : List Route) (plan : Plan) (spans : List ℕ) where
  pub same_at : (P : Runner → Type 0) (pass pass' : PassView) (p p' : AutoPeer) (turns turns' : ℕ) (lines lines' : List Line) → pass' ≡ pass → p' ≡ p → turns' ≡ turns → lines' ≡ lines → IsAt id key me routes plan spans P pass p turns lines →
      IsAt id key me routes plan spans P pass' p' turns' lines'
  same_at P pass pass' p p' turns turns' lines lines' a b c d at = record {
    r = at.r;
    on = subst (λ h. IsOnTrajectory id key me routes plan spans at.r h p') (sym a) (subst (λ q. IsOnTrajectory id key me routes plan spans at.r pass q) (sym b) at.on);
    holds = at.holds;
    turns_are = c ∙ at.turns_are;
    recorded = d ∙ at.recorded;
  }

  counts : (r : Runner) (pass : PassView) (p : AutoPeer) → IsOnTrajectory id key me routes plan spans r pass p → IsCounted spans r
  counts r pass p on = counted_of key me routes plan spans r on.comes

  -- At a span: the first, or one after a reset.
  pub enters_first : (k : ℕ) (pass : PassView) (p : AutoPeer) (turns : ℕ) (lines : List Line) → k ≡ 0 → k < length spans → IsAt id key me routes plan spans (IsDue spans k) pass p turns lines →
      IsAt id key me routes plan spans (λ r. r.spans ≡ slice_index spans k ∷ drop (suc k) spans) pass p turns lines
  enters_first k pass p turns lines none there at = record { r = at.r; on = at.on; holds = due_first spans k at.r at.holds none there; turns_are = at.turns_are; recorded = at.recorded }

  pub enters_later : (k : ℕ) (old pass : PassView) (p q : AutoPeer) (turns : ℕ) (before lines : List Line) (went : Bool) (at : IsAt id key me routes plan spans (IsDue spans k) old p turns before) → 0 < k → k < length spans → went ≡ true →
      (next : Runner) × IsOnTrajectory id key me routes plan spans next pass q × ((lines ≡ lines_of_turns me next.turns) × WentTo (later at.r.spans) at.r next went × (has_finished at.r ≡ not went)) →
      IsAt id key me routes plan spans (λ r. r.spans ≡ slice_index spans k ∷ drop (suc k) spans) pass q (turns + 1) lines
  enters_later k old pass p q turns before lines went at some there is took = let next = took.0 in let goes = subst (WentTo (later at.r.spans) at.r next) is took.2.1 in let on = took.2.2 ∙ ap not is in record {
    r = next;
    on = took.1;
    holds = due_later spans k at.r next at.holds some there on goes;
    turns_are = ap (λ n. n + 1) at.turns_are ∙ sym (one_reset spans at.r next (counts at.r old p at.on) (counts next pass q took.1) (due_over spans k at.r at.holds some there on) goes);
    recorded = took.2.0;
  }

  -- At the end: all spans are spent, or the peer is finished.
  pub ends_spent : (k : ℕ) (pass : PassView) (p : AutoPeer) (turns : ℕ) (lines : List Line) → length spans ≤ k → IsAt id key me routes plan spans (IsDue spans k) pass p turns lines →
      IsAt id key me routes plan spans (λ r. has_finished r ≡ false → all_turns r.spans ≡ 0) pass p turns lines
  ends_spent k pass p turns lines past at = record { r = at.r; on = at.on; holds = due_last spans k at.r at.holds past; turns_are = at.turns_are; recorded = at.recorded }

  pub ends_finished : (k : ℕ) (old pass : PassView) (p q : AutoPeer) (turns : ℕ) (before lines : List Line) (went : Bool) (at : IsAt id key me routes plan spans (IsDue spans k) old p turns before) → went ≡ false →
      (next : Runner) × IsOnTrajectory id key me routes plan spans next pass q × ((lines ≡ lines_of_turns me next.turns) × WentTo (later at.r.spans) at.r next went × (has_finished at.r ≡ not went)) →
      IsAt id key me routes plan spans (λ r. has_finished r ≡ false → all_turns r.spans ≡ 0) pass q turns lines
  ends_finished k old pass p q turns before lines went at is took = let next = took.0 in let ends = subst (WentTo (later at.r.spans) at.r next) is took.2.1 in record {
    r = next;
    on = took.1;
    holds = λ goes. absurd (clash (sym goes ∙ (ap has_finished ends.0 ∙ ends.1)));
    turns_are = at.turns_are ∙ ap (λ (r : Runner). length r.turns) (sym ends.0);
    recorded = took.2.0;
  }

  -- The actions there, as it is driven.
  pub pass_at : (first pass : PassView) (p : AutoPeer) (r : Runner) → IsPassOf id key first → IsOnTrajectory id key me routes plan spans r pass p → pass ≡ held first.table_id me (r.actions ∷ [])
  pass_at first pass p r of on = lent pass me r.actions on.there.from on.there.lists ∙ ap (λ i. held i me (r.actions ∷ [])) (on.of.0 ∙ sym of.0)

  pub drove_err : PlacesFollowTrees → (first pass : PassView) (p : AutoPeer) (r : Runner) (result : Result OwnTrace NoMemory) → IsPassOf id key first → IsErr result → IsOnTrajectory id key me routes plan spans r pass p →
      (list : List (Action (MemoryOp CallAccess))) × (pass ≡ held first.table_id me (list ∷ [])) × Drove key routes me spans (automatic plan) list result
  drove_err follow first pass p r result of is on = (
    r.actions,
    pass_at first pass p r of on,
    (
      did key me routes plan spans r p.driven.end (far_of follow key me routes plan spans r on.comes) on.there.refines (refused_of follow key me routes plan spans r p.driven.end on.comes on.there.refines),
      most_turns spans r (counts r pass p on),
      err_free _ result is,
    ),
  )

  pub drove_ok : PlacesFollowTrees → (first pass : PassView) (p : AutoPeer) (turns : ℕ) (lines : List Line) (part : Part) → IsPassOf id key first → (at : IsAt id key me routes plan spans (λ r. has_finished r ≡ false → all_turns r.spans ≡ 0) pass p turns lines) →
      part.peer ≡ me → part.lines ≡ lines → part.turns ≡ turns → part.finished ≡ has_finished at.r → (list : List (Action (MemoryOp CallAccess))) × (pass ≡ held first.table_id me (list ∷ [])) ×
      ((done : Did key routes me (automatic plan) spans list) × (length done.turns ≤ all_turns spans) × IsTraceOf me (all_turns spans) done.turns done.after part)
  drove_ok follow first pass p turns lines part of at mine same_lines same_turns finishes = let r = at.r in let on = at.on in let counted = counts r pass p on in let count = counted.count in let turns_are = at.turns_are in (
    r.actions,
    pass_at first pass p r of on,
    (
      did key me routes plan spans r p.driven.end (far_of follow key me routes plan spans r on.comes) on.there.refines (refused_of follow key me routes plan spans r p.driven.end on.comes on.there.refines),
      most_turns spans r counted,
      record {
        peer = mine;
        lines = same_lines ∙ at.recorded;
        count = same_turns ∙ turns_are;
        finished = finishes ∙ finished_same follow (config_in key me) r;
        most = omega arith;
        spent = λ e. let none = at.holds (sym finishes ∙ e) in omega arith;
      },
    ),
  )

-- At the next span.
pub due_next : (spans : List ℕ) (k : ℕ) (r : Runner) → (has_finished r ≡ false → r.spans ≡ 0 ∷ drop (suc k) spans) → IsDue spans (k + 1) r
due_next spans k r due = subst (λ n. IsDue spans n r) (sym next) due
  where
    next : k + 1 ≡ suc k
    next = omega arith
