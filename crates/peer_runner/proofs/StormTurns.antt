-- A run of a storm.
use Rattle.std.proofs.Common.{◌≡◌, ℕ, zero, suc, ◌+◌, ◌<◌, ◌≤◌, Bool, true, false, List, [], ◌∷◌, ◌++◌, length, refl, sym, ap, ◌∙◌, subst, arith, length-append, drop-cons}
use Rattle.std.specs.Prelude.{Some, None, ◌-◌, ◌&&◌, if◌then◌else◌, map, drop, slice_index, Result, IsErr}
use Rattle.std.proofs.lemmas.Bool.{lt-ltb}
use Rattle.std.proofs.lemmas.List.{drop_all}
use Rattle.ivs_base.specs.declared.NoMemory.{NoMemory}
use Rattle.split_ring.specs.declared.steps.Access.{Access}
use Rattle.split_ring.specs.declared.steps.Access.TheVariants as access
use Rattle.call_grammar.specs.Steps.{Step, step_of}
use Rattle.call_grammar.specs.Calls.{EndConfig}
use Rattle.lawful_history.specs.declared.line.Line.{Line}
use Rattle.lawful_history.specs.declared.line.Line.TheVariants as line
use Rattle.lawful_history.specs.EventRecords.{access_lines, mark_line}
use Rattle.lawful_history.specs.Storm.{storm_after}
use Rattle.record_text.specs.Parts.{Part}
use Rattle.record_text.specs.OwnLines.{is_own, AreOwn}
use Rattle.record_text.specs.declared.own_trace.OwnTrace.{OwnTrace}
use Rattle.step_lines.specs.declared.storm.Storm.{Storm}
use Rattle.step_lines.specs.Storms.{IsStormOf}
use Rattle.atomic_table.specs.Seated.{TableId}
use Rattle.doorbell_irq.specs.declared.route.Route.{Route}
use Rattle.shared_words.specs.declared.run_setup.RunSetup.{RunSetup}
use Rattle.peer_runner.specs.declared.doorbell_paths.Done.{Done}
use Rattle.peer_runner.specs.declared.doorbell_paths.Done.TheVariants.{Stepped, Cleared, Rung}
use Rattle.shared_words.specs.PassView.{PassView}
use Rattle.shared_words.specs.RunSetups.{world_in, config_in, honest_of}
use Rattle.shared_words.specs.DerivedStates.{CallAccess, MemoryOp, restarted}
use Rattle.shared_words.specs.Actions.{Action, accessed}
use Rattle.shared_words.specs.PeerRoutes.{route_to}
use Rattle.peer_runner.specs.DoorbellPaths.{is_guarded, doorbell_path_in}
use Rattle.shared_words.specs.Passes.{IsPassOf, shown, added, held}
use Rattle.shared_words.specs.Rules.{front}
use Rattle.peer_runner.specs.Turns.{Turn, Restarts, Running, comes_to, all_turns, has_turn_left, spent, later, IsSpanSpent, is_below, looks_next, opens, steps_on, is_set, cleared_to, restarts_to, TakesTurn, TakesTurns, actions_in, lines_of, lines_in, lines_of_turns}
use Rattle.peer_runner.specs.Runners.{value_done, done_of, turn_of, drawn_lines, IsDone, awaits_ring, MayRingBy, made}
use Rattle.peer_runner.specs.OwnRecord.{IsTraceOf}
use Rattle.peer_runner.specs.Drives.{storm_in, storm_on, storming, Did, Drove}
use Rattle.shared_words.proofs.LinkOfSetup.{clash}
use Rattle.peer_runner.proofs.AutoTurns.{made_held, done_one}
use Rattle.peer_runner.proofs.TurnsAndLines.{takes_none, takes_snoc, actions_none, actions_on, shown_on, recorded_none, recorded_snoc, all_append, turn_own, restart_own, all_spent, all_later, err_free}

-- A step that was drawn records its access and nothing else, and its ring adds no line.
plain_lines : (p : ℕ) (a : Access) → lines_of p true a 0 [] ≡ access_lines p a 0
plain_lines p (access.Read word) = refl
plain_lines p _ = refl

done_lines_of : (p : ℕ) (a : Access) (done : Done) → lines_in p (turn_of true 0 None (step_of a 0 []) done) ≡ drawn_lines p a done
done_lines_of p (access.Read word) (Stepped value) = plain_lines p (access.Read word)
done_lines_of p (access.Write word written) (Stepped value) = plain_lines p (access.Write word written)
done_lines_of p (access.State state) (Stepped value) = plain_lines p (access.State state)
done_lines_of p (access.Ring target vector) (Stepped value) = plain_lines p (access.Ring target vector)
done_lines_of p access.Nothing (Stepped value) = plain_lines p access.Nothing
done_lines_of p (access.Read word) (Cleared found) = elim (is_set found) as (λ b. access_lines p (access.Read word) 0 ++ map (mark_line p) (if b then [] else []) ≡ access_lines p (access.Read word) 0) [ true ↦ refl | false ↦ refl ]
done_lines_of p (access.Write word written) (Cleared found) = elim (is_set found) as (λ b. access_lines p (access.Write word written) 0 ++ map (mark_line p) (if b then [] else []) ≡ access_lines p (access.Write word written) 0) [ true ↦ refl | false ↦ refl ]
done_lines_of p (access.State state) (Cleared found) = elim (is_set found) as (λ b. access_lines p (access.State state) 0 ++ map (mark_line p) (if b then [] else []) ≡ access_lines p (access.State state) 0) [ true ↦ refl | false ↦ refl ]
done_lines_of p (access.Ring target vector) (Cleared found) = elim (is_set found) as (λ b. access_lines p (access.Ring target vector) 0 ++ map (mark_line p) (if b then [] else []) ≡ access_lines p (access.Ring target vector) 0) [ true ↦ refl | false ↦ refl ]
done_lines_of p access.Nothing (Cleared found) = elim (is_set found) as (λ b. access_lines p access.Nothing 0 ++ map (mark_line p) (if b then [] else []) ≡ access_lines p access.Nothing 0) [ true ↦ refl | false ↦ refl ]
done_lines_of p a Rung = refl

pub drawn_recorded : (p : ℕ) (step : Step) (a : Access) (done : Done) → step ≡ step_of a 0 [] → drawn_lines p a done ≡ lines_in p (turn_of true 0 None step done)
drawn_recorded p step a done is = sym (ap (λ (s : Step). lines_in p (turn_of true 0 None s done)) is ∙ done_lines_of p a done)

pub drawn_access : (step : Step) (a : Access) → step ≡ step_of a 0 [] → step.access ≡ a
drawn_access step a is = ap (λ (s : Step). s.access) is

-- The storm after a turn.
pub storm_after_turn : (storm ahead new : Storm) (done : Done) → ahead ≡ record storm { at = storm_after storm.at } → new ≡ (if awaits_ring done then storm else ahead) → new ≡ record storm { at = storm_on storm.at done }
storm_after_turn storm ahead new done gone is = is ∙ by (awaits_ring done)
  where
    by : (b : Bool) → (if b then storm else ahead) ≡ record storm { at = if b then storm.at else storm_after storm.at }
    by true = refl
    by false = gone

-- A storm between two turns

abbrev pub blowing : (x : ℕ) (ringing : Bool) (opened : ℕ) (spans : List ℕ) → Running
blowing x ringing opened spans = record { peer = storming x; looks = Some 0; ringing = ringing; opened = opened; met = None; spans = spans }

-- No look comes before a step of it.
quiet_first : (config : EndConfig) (own : Route) (x : ℕ) (ringing : Bool) (opened : ℕ) (spans : List ℕ) → looks_next config own (blowing x ringing opened spans) ≡ false
quiet_first config own x ringing opened spans = elim own.enabled as (λ b. (b && is_below (Some 0) 0) ≡ false) [ true ↦ refl | false ↦ refl ]

-- The number of sessions that its State steps opened.
opened_done : (opened : ℕ) (a : Access) → Done → ℕ
opened_done opened a done = if awaits_ring done then opened else opened + opens a

cleared_blows : (x found opened : ℕ) (ringing : Bool) (spans : List ℕ) (a : Access) →
    blowing (storm_on x (Cleared found)) (is_set found) (if is_set found then opened else opened + opens a) (spent spans) ≡ cleared_to found (blowing x ringing opened spans) a (storming (storm_after x))
cleared_blows x found opened ringing spans a = elim (is_set found) as (λ b. blowing (if b then x else storm_after x) b (if b then opened else opened + opens a) (spent spans) ≡
    (if b then record (blowing x ringing opened spans) { looks = Some 0; ringing = true; spans = spent spans } else steps_on (blowing x ringing opened spans) a (storming (storm_after x)))) [ true ↦ refl | false ↦ refl ]

storm_takes : (key : RunSetup) (routes : List Route) (p x : ℕ) (ringing : Bool) (opened : ℕ) (spans : List ℕ) (done : Done) → has_turn_left spans ≡ true → IsDone ringing (is_guarded (doorbell_path_in routes (storm_in key p x).access)) done →
    TakesTurn (config_in key p) (storm_in key p) routes (blowing x ringing opened spans) (turn_of true 0 None (storm_in key p x) done) (blowing (storm_on x done) (awaits_ring done) (opened_done opened (storm_in key p x).access done) (spent spans))
unfolding opened_done
storm_takes key routes p x ringing opened spans (Stepped value) left is =
    (left, (storming (storm_after x), record { first = quiet_first (config_in key p) (route_to routes p) x ringing opened spans; rings = is.0; guards = is.1; takes = (refl, refl) }, (λ e. absurd (clash e)), refl, refl, refl))
storm_takes key routes p x ringing opened spans (Cleared found) left is =
    (left, (storming (storm_after x), record { first = quiet_first (config_in key p) (route_to routes p) x ringing opened spans; rings = is.0; guards = is.1; takes = (refl, refl) }, cleared_blows x found opened ringing spans (storm_in key p x).access))
storm_takes key routes p x ringing opened spans Rung left is =
    (left, (storming (storm_after x), record { first = quiet_first (config_in key p) (route_to routes p) x ringing opened spans; rings = is.0; guards = is.1; takes = (refl, refl) }, refl))

-- A reset drops the ring that is to come, and the storm continues with its next step.
abbrev pub storm_cut : (ringing : Bool) → ℕ → ℕ
storm_cut ringing x = if ringing then storm_after x else x

restart_blows : (x : ℕ) (ringing : Bool) (opened : ℕ) (spans : List ℕ) → blowing (storm_cut ringing x) false opened (later spans) ≡ restarts_to (blowing x ringing opened spans)
restart_blows x true opened spans = refl
restart_blows x false opened spans = refl

-- The facts of the turns so far, from the seed on.
pub record Blown (key : RunSetup) (routes : List Route) (p seed : ℕ) (spans : List ℕ) (at : ℕ) (ringing : Bool) (left : List ℕ) (list : List (Action (MemoryOp CallAccess))) (turns : List Turn) : Type 0 where
  pub opened : ℕ
  pub takes : TakesTurns (config_in key p) (storm_in key p) routes (comes_to (storming seed) spans) turns (blowing at ringing opened left)
  pub made : shown list ≡ actions_in routes turns
  pub own : AreOwn p (lines_of_turns p turns)
  pub rings : ringing ≡ true → MayRingBy routes (storm_in key p at).access list
  pub count : length turns + all_turns left ≡ all_turns spans

pub blown_first : (key : RunSetup) (routes : List Route) (p seed : ℕ) (spans : List ℕ) → Blown key routes p seed spans seed false spans [] []
blown_first key routes p seed spans = record {
  opened = 0;
  takes = takes_none (config_in key p) (storm_in key p) routes (comes_to (storming seed) spans);
  made = sym (actions_none routes);
  own = subst (AreOwn p) (sym (recorded_none p)) refl;
  rings = λ e. absurd (clash e);
  count = omega arith;
}

storm_stays : (x : ℕ) (done : Done) → awaits_ring done ≡ true → storm_on x done ≡ x
storm_stays x done held = ap (λ (b : Bool). if b then x else storm_after x) held

count_on : (turns : List Turn) (turn : Turn) (spans left next : List ℕ) → length turns + all_turns left ≡ all_turns spans → all_turns left ≡ all_turns next + 1 → length (turns ++ turn ∷ []) + all_turns next ≡ all_turns spans
count_on turns turn spans left next is one = let size = length-append turns (turn ∷ []) in omega arith

blown_on : (key : RunSetup) (routes : List Route) (p seed : ℕ) (spans : List ℕ) (at : ℕ) (ringing : Bool) (left : List ℕ) (done : Done) (list : List (Action (MemoryOp CallAccess))) (turns : List Turn) → has_turn_left left ≡ true →
    IsDone ringing (is_guarded (doorbell_path_in routes (storm_in key p at).access)) done → value_done done ≡ 0 → (awaits_ring done ≡ true → MayRingBy routes (storm_in key p at).access (list ++ done_of routes None (storm_in key p at).access done)) →
    Blown key routes p seed spans at ringing left list turns →
    Blown key routes p seed spans (storm_on at done) (awaits_ring done) (spent left) (list ++ done_of routes None (storm_in key p at).access done) (turns ++ turn_of true 0 None (storm_in key p at) done ∷ [])
blown_on key routes p seed spans at ringing left done list turns some is none may b = let step = storm_in key p at in let turn = turn_of true 0 None step done in record {
  opened = opened_done b.opened step.access done;
  takes = takes_snoc (config_in key p) (storm_in key p) routes turns turn (comes_to (storming seed) spans) (blowing at ringing b.opened left) (blowing (storm_on at done) (awaits_ring done) (opened_done b.opened step.access done) (spent left)) b.takes
      (storm_takes key routes p at ringing b.opened left done some is);
  made = actions_on routes list turns None true 0 None step.access done [] b.made ∙ ap (λ n. actions_in routes (turns ++ turn_of true 0 None (step_of step.access n []) done ∷ [])) none;
  own = subst (AreOwn p) (sym (recorded_snoc p turns turn)) (all_append (is_own p) (lines_of_turns p turns) (lines_in p turn) b.own (turn_own p true 0 None step done refl));
  rings = λ held. subst (λ x. MayRingBy routes (storm_in key p x).access (list ++ done_of routes None step.access done)) (sym (storm_stays at done held)) (may held);
  count = count_on turns turn spans left (spent left) b.count (all_spent left some);
}

pub blown_cut : (key : RunSetup) (routes : List Route) (p seed : ℕ) (spans : List ℕ) (at : ℕ) (ringing : Bool) (left : List ℕ) (list : List (Action (MemoryOp CallAccess))) (turns : List Turn) → IsSpanSpent left → Blown key routes p seed spans at ringing left list turns →
    Blown key routes p seed spans (storm_cut ringing at) false (later left) (list ++ accessed restarted ∷ []) (turns ++ Restarts ∷ [])
blown_cut key routes p seed spans at ringing left list turns over b = record {
  opened = b.opened;
  takes = takes_snoc (config_in key p) (storm_in key p) routes turns Restarts (comes_to (storming seed) spans) (blowing at ringing b.opened left) (blowing (storm_cut ringing at) false b.opened (later left)) b.takes (over, refl, restart_blows at ringing b.opened left);
  made = shown_on routes list (accessed restarted ∷ []) turns Restarts refl b.made;
  own = subst (AreOwn p) (sym (recorded_snoc p turns Restarts)) (all_append (is_own p) (lines_of_turns p turns) (lines_in p Restarts) b.own (restart_own p));
  rings = λ e. absurd (clash e);
  count = count_on turns Restarts spans left (later left) b.count (all_later left over);
}

-- The code's storm

-- The pass after a turn.
blown_pass : (key : RunSetup) (routes : List Route) (p q at : ℕ) (done : Done) (id : TableId) (old new : PassView) (list : List (Action (MemoryOp CallAccess))) → q ≡ p → new ≡ made old (done_of routes None (storm_in key q at).access done) → old ≡ held id p (list ∷ []) →
    new ≡ held id p ((list ++ done_of routes None (storm_in key p at).access done) ∷ [])
blown_pass key routes p q at done id old new list same is was = let acts = done_of routes None (storm_in key p at).access done in
    is ∙ (ap (λ k. made old (done_of routes None (storm_in key k at).access done)) same ∙ (ap (λ (h : PassView). made h acts) was ∙ made_held (held id p (list ∷ [])) list acts (done_one routes None (storm_in key p at).access done) refl))

blown_storm : (first old new : Storm) (at : ℕ) → new ≡ record old { at = at } → old ≡ record first { at = old.at } → new ≡ record first { at = new.at }
blown_storm first old new at is was = is ∙ (ap (λ (s : Storm). record s { at = at }) was ∙ ap (λ x. record first { at = x }) (sym (ap (λ (s : Storm). s.at) is)))

-- The storm that is driven, with its turns and lines; and this holds of the spans that are left.
pub record StormAt (id : TableId) (key : RunSetup) (routes : List Route) (first : Storm) (spans : List ℕ) (P : List ℕ → Type 0) (pass : PassView) (storm : Storm) (ringing : Bool) (turns : ℕ) (lines : List Line) : Type 0 where
  pub list : List (Action (MemoryOp CallAccess))
  pub taken : List Turn
  pub left : List ℕ
  pub blown : Blown key routes first.peer first.at spans storm.at ringing left list taken
  pub pass_is : pass ≡ held id first.peer (list ∷ [])
  pub storm_is : storm ≡ record first { at = storm.at }
  pub holds : P left
  pub turns_are : turns ≡ length taken
  pub recorded : lines ≡ lines_of_turns first.peer taken

-- `LeftAt` holds between two spans, after this number of spans. `LeftIn` holds in span `k`, after
-- `taken` turns of the span.
abbrev pub LeftAt : List ℕ → ℕ → List ℕ → Type 0
LeftAt spans zero left = left ≡ spans
LeftAt spans (suc k) left = left ≡ 0 ∷ drop (suc k) spans

pub record LeftIn (spans : List ℕ) (k taken : ℕ) (left : List ℕ) : Type 0 where
  pub more : ℕ
  pub are : left ≡ more ∷ drop (suc k) spans
  pub all : more + taken ≡ slice_index spans k

span_here : (spans : List ℕ) (k : ℕ) → k < length spans → drop k spans ≡ slice_index spans k ∷ drop (suc k) spans
span_here spans k there = drop-cons spans k 0 there

left_over : (spans : List ℕ) (k : ℕ) (left : List ℕ) → LeftAt spans k left → 0 < k → k < length spans → IsSpanSpent left
left_over spans zero left at some there = absurd (omega arith)
left_over spans (suc k) left at some there = subst IsSpanSpent (sym (at ∙ ap (λ s. 0 ∷ s) (span_here spans (suc k) there))) tt

left_later : (spans : List ℕ) (k : ℕ) (left : List ℕ) → LeftAt spans k left → 0 < k → k < length spans → LeftIn spans k 0 (later left)
left_later spans zero left at some there = absurd (omega arith)
left_later spans (suc k) left at some there = record { more = slice_index spans (suc k); are = ap later at ∙ span_here spans (suc k) there; all = omega arith }

pub left_first : (spans : List ℕ) (k : ℕ) (left : List ℕ) → LeftAt spans k left → k ≡ 0 → k < length spans → LeftIn spans k 0 left
left_first spans zero left at none there = record { more = slice_index spans 0; are = at ∙ span_here spans 0 there; all = omega arith }
left_first spans (suc k) left at none there = absurd (omega arith)

pub left_next : (spans : List ℕ) (k taken : ℕ) (left : List ℕ) → LeftIn spans k taken left → slice_index spans k ≤ taken → LeftAt spans (k + 1) left
left_next spans k taken left at past = subst (λ n. LeftAt spans n left) next (at.are ∙ ap (λ n. n ∷ drop (suc k) spans) none)
  where
    next : suc k ≡ k + 1
    next = omega arith

    none : at.more ≡ 0
    none = let all = at.all in omega arith

left_last : (spans : List ℕ) (k : ℕ) (left : List ℕ) → LeftAt spans k left → length spans ≤ k → all_turns left ≡ 0
left_last spans zero left at past = ap all_turns (at ∙ drop_all 0 spans past)
left_last spans (suc k) left at past = ap all_turns (at ∙ ap (λ s. 0 ∷ s) (drop_all (suc k) spans past))

left_some : (spans : List ℕ) (k taken : ℕ) (left : List ℕ) → LeftIn spans k taken left → taken < slice_index spans k → has_turn_left left ≡ true
left_some spans k taken left at some = ap has_turn_left at.are ∙ lt-ltb 0 at.more (let all = at.all in omega arith)

left_spent : (spans : List ℕ) (k taken : ℕ) (left : List ℕ) → LeftIn spans k taken left → taken < slice_index spans k → LeftIn spans k (taken + 1) (spent left)
left_spent spans k taken left at some = let all = at.all in record { more = at.more - 1; are = ap spent at.are; all = omega arith }

module _ (id : TableId) (key : RunSetup) (routes : List Route) (first : Storm) (spans : List ℕ) where
  pub storm_first : (pass : PassView) → pass ≡ held id first.peer ([] ∷ []) → (lines : List Line) → lines ≡ [] → StormAt id key routes first spans (LeftAt spans 0) pass first false 0 lines
  storm_first pass is lines none = record {
    list = [];
    taken = [];
    left = spans;
    blown = blown_first key routes first.peer first.at spans;
    pass_is = is;
    storm_is = refl;
    holds = refl;
    turns_are = refl;
    recorded = none ∙ sym (recorded_none first.peer);
  }

  pub storm_same : (P Q : List ℕ → Type 0) (pass pass' : PassView) (storm storm' : Storm) (ringing ringing' : Bool) (turns turns' : ℕ) (lines lines' : List Line) → ((left : List ℕ) → P left → Q left) → pass' ≡ pass → storm' ≡ storm → ringing' ≡ ringing → turns' ≡ turns →
      lines' ≡ lines → StormAt id key routes first spans P pass storm ringing turns lines → StormAt id key routes first spans Q pass' storm' ringing' turns' lines'
  storm_same P Q pass pass' storm storm' ringing ringing' turns turns' lines lines' goes a b c d e at = record {
    list = at.list;
    taken = at.taken;
    left = at.left;
    blown = subst (λ (s : Storm). Blown key routes first.peer first.at spans s.at ringing' at.left at.list at.taken) (sym b) (subst (λ r. Blown key routes first.peer first.at spans storm.at r at.left at.list at.taken) (sym c) at.blown);
    pass_is = a ∙ at.pass_is;
    storm_is = b ∙ (at.storm_is ∙ ap (λ (s : Storm). record first { at = s.at }) (sym b));
    holds = goes at.left at.holds;
    turns_are = d ∙ at.turns_are;
    recorded = e ∙ at.recorded;
  }

  -- The requirements of a turn.
  pub storm_seated : (P : List ℕ → Type 0) (words : TableId) (start pass : PassView) (storm : Storm) (ringing : Bool) (turns : ℕ) (lines : List Line) → IsPassOf words key start → start.table_id ≡ id → start.from ≡ first.peer → start.lists ≡ [] ∷ [] → StormAt id key routes first spans P pass storm ringing turns lines →
      IsPassOf words key pass × (pass.from ≡ storm.peer) × (0 < length pass.lists)
  storm_seated P words start pass storm ringing turns lines of same from lists at = (
    subst (IsPassOf words key) (sym at.pass_is) (sym same ∙ of.0, of.1, (let size = ap length lists in let inside = of.2 in omega arith), of.3),
    ap (λ (h : PassView). h.from) at.pass_is ∙ sym (ap (λ (s : Storm). s.peer) at.storm_is),
    (let one = ap (λ (h : PassView). length h.lists) at.pass_is in omega arith),
  )

  pub storm_draws : (P : List ℕ → Type 0) (pass : PassView) (storm : Storm) (ringing : Bool) (turns : ℕ) (lines : List Line) → IsStormOf (world_in key) first → StormAt id key routes first spans P pass storm ringing turns lines → IsStormOf (world_in key) storm
  storm_draws P pass storm ringing turns lines is at = subst (IsStormOf (world_in key)) (sym at.storm_is) (record { shape = is.shape; sizes = is.sizes; out = is.out; there = is.there; geometry = is.geometry; queue = is.queue })

  pub storm_hostile : (P : List ℕ → Type 0) (pass : PassView) (storm : Storm) (ringing : Bool) (turns : ℕ) (lines : List Line) → honest_of key first.peer ≡ false → StormAt id key routes first spans P pass storm ringing turns lines → honest_of key storm.peer ≡ false
  storm_hostile P pass storm ringing turns lines is at = ap (honest_of key) (ap (λ (s : Storm). s.peer) at.storm_is) ∙ is

  -- A ring that is to come may be made by the pass.
  pub storm_rings : (P : List ℕ → Type 0) (pass : PassView) (storm : Storm) (ringing : Bool) (turns : ℕ) (lines : List Line) → StormAt id key routes first spans P pass storm ringing turns lines → ringing ≡ true → MayRingBy routes (storm_in key storm.peer storm.at).access (front pass.lists)
  storm_rings P pass storm ringing turns lines at is = subst (λ k. MayRingBy routes (storm_in key k storm.at).access (front pass.lists)) (sym (ap (λ (s : Storm). s.peer) at.storm_is))
      (subst (λ (h : PassView). MayRingBy routes (storm_in key first.peer storm.at).access (front h.lists)) (sym at.pass_is) (at.blown.rings is))

  -- Its turns are few.
  pub storm_few : (P : List ℕ → Type 0) (pass : PassView) (storm : Storm) (ringing : Bool) (turns : ℕ) (lines : List Line) → StormAt id key routes first spans P pass storm ringing turns lines → turns ≤ all_turns spans
  storm_few P pass storm ringing turns lines at = let count = at.blown.count in let is = at.turns_are in omega arith

  -- A step
  pub storm_steps : (k n : ℕ) (pass pass' : PassView) (storm storm' : Storm) (ringing ringing' : Bool) (turns : ℕ) (lines : List Line) (done : Done) (at : StormAt id key routes first spans (LeftIn spans k n) pass storm ringing turns lines) → n < slice_index spans k →
      IsDone ringing (is_guarded (doorbell_path_in routes (storm_in key storm.peer storm.at).access)) done → value_done done ≡ 0 → pass' ≡ made pass (done_of routes None (storm_in key storm.peer storm.at).access done) → storm' ≡ record storm { at = storm_on storm.at done } →
      ringing' ≡ awaits_ring done → (awaits_ring done ≡ true → MayRingBy routes (storm_in key storm.peer storm.at).access (front pass'.lists)) →
      StormAt id key routes first spans (LeftIn spans k (n + 1)) pass' storm' ringing' (turns + 1) (lines ++ lines_in storm.peer (turn_of true 0 None (storm_in key storm.peer storm.at) done))
  storm_steps k n pass pass' storm storm' ringing ringing' turns lines done at some is none passed stormed rang may = let p = first.peer in let step = storm_in key p storm.at in let turn = turn_of true 0 None step done in
      let same : storm.peer ≡ p = ap (λ (s : Storm). s.peer) at.storm_is in
      let now = blown_pass key routes p storm.peer storm.at done id pass pass' at.list same passed at.pass_is in
      let blown = blown_on key routes p first.at spans storm.at ringing at.left done at.list at.taken (left_some spans k n at.left at.holds some) (subst (λ q. IsDone ringing (is_guarded (doorbell_path_in routes (storm_in key q storm.at).access)) done) same is) none
      (λ held. subst (λ (h : PassView). MayRingBy routes step.access (front h.lists)) now (subst (λ q. MayRingBy routes (storm_in key q storm.at).access (front pass'.lists)) same (may held))) at.blown in record {
        list = at.list ++ done_of routes None step.access done;
        taken = at.taken ++ turn ∷ [];
        left = spent at.left;
        blown = subst (λ b. Blown key routes p first.at spans storm'.at b (spent at.left) (at.list ++ done_of routes None step.access done) (at.taken ++ turn ∷ [])) (sym rang)
            (subst (λ x. Blown key routes p first.at spans x (awaits_ring done) (spent at.left) (at.list ++ done_of routes None step.access done) (at.taken ++ turn ∷ [])) (sym (ap (λ (s : Storm). s.at) stormed)) blown);
        pass_is = now;
        storm_is = blown_storm first storm storm' (storm_on storm.at done) stormed at.storm_is;
        holds = left_spent spans k n at.left at.holds some;
        turns_are = let is = at.turns_are in let size = length-append at.taken (turn ∷ []) in omega arith;
        recorded = ap (λ q. lines ++ lines_in q (turn_of true 0 None (storm_in key q storm.at) done)) same ∙ (ap (λ ls. ls ++ lines_in p turn) at.recorded ∙ sym (recorded_snoc p at.taken turn));
      }

  -- A reset
  pub storm_restarts : (k : ℕ) (pass pass' : PassView) (storm storm' : Storm) (ringing ringing' : Bool) (turns : ℕ) (lines : List Line) (at : StormAt id key routes first spans (LeftAt spans k) pass storm ringing turns lines) → 0 < k → k < length spans →
      pass' ≡ added pass (accessed restarted) → storm' ≡ record storm { at = storm_cut ringing storm.at } → ringing' ≡ false →
      StormAt id key routes first spans (LeftIn spans k 0) pass' storm' ringing' (turns + 1) (lines ++ line.Reset storm.peer ∷ [])
  storm_restarts k pass pass' storm storm' ringing ringing' turns lines at some there passed stormed rang = let p = first.peer in
      let blown = blown_cut key routes p first.at spans storm.at ringing at.left at.list at.taken (left_over spans k at.left at.holds some there) at.blown in record {
        list = at.list ++ accessed restarted ∷ [];
        taken = at.taken ++ Restarts ∷ [];
        left = later at.left;
        blown = subst (λ b. Blown key routes p first.at spans storm'.at b (later at.left) (at.list ++ accessed restarted ∷ []) (at.taken ++ Restarts ∷ [])) (sym rang)
            (subst (λ x. Blown key routes p first.at spans x false (later at.left) (at.list ++ accessed restarted ∷ []) (at.taken ++ Restarts ∷ [])) (sym (ap (λ (s : Storm). s.at) stormed)) blown);
        pass_is = passed ∙ ap (λ (h : PassView). added h (accessed restarted)) at.pass_is;
        storm_is = blown_storm first storm storm' (storm_cut ringing storm.at) stormed at.storm_is;
        holds = left_later spans k at.left at.holds some there;
        turns_are = let is = at.turns_are in let size = length-append at.taken (Restarts ∷ []) in omega arith;
        recorded = ap (λ q. lines ++ line.Reset q ∷ []) (ap (λ (s : Storm). s.peer) at.storm_is) ∙ (ap (λ ls. ls ++ lines_in p Restarts) at.recorded ∙ sym (recorded_snoc p at.taken Restarts));
      }

  -- The actions, as it is driven.
  abbrev storm_did : (P : List ℕ → Type 0) (pass : PassView) (storm : Storm) (ringing : Bool) (turns : ℕ) (lines : List Line) → honest_of key first.peer ≡ false → (at : StormAt id key routes first spans P pass storm ringing turns lines) → Did key routes first.peer (storming first.at) spans at.list
  storm_did P pass storm ringing turns lines hostile at = record {
    turns = at.taken;
    after = blowing storm.at ringing at.blown.opened at.left;
    takes = at.blown.takes;
    made = at.blown.made;
    left = λ honest. absurd (clash (sym hostile ∙ honest));
  }

  pub storm_err : (P : List ℕ → Type 0) (pass : PassView) (storm : Storm) (ringing : Bool) (turns : ℕ) (lines : List Line) (result : Result OwnTrace NoMemory) → honest_of key first.peer ≡ false → IsErr result → StormAt id key routes first spans P pass storm ringing turns lines →
      (list : List (Action (MemoryOp CallAccess))) × (pass ≡ held id first.peer (list ∷ [])) × Drove key routes first.peer spans (storming first.at) list result
  storm_err P pass storm ringing turns lines result hostile is at = (at.list, at.pass_is, (storm_did P pass storm ringing turns lines hostile at, (let count = at.blown.count in omega arith), err_free _ result is))

  pub storm_ok : (k : ℕ) (pass : PassView) (storm : Storm) (ringing : Bool) (turns : ℕ) (lines : List Line) (part : Part) → honest_of key first.peer ≡ false → length spans ≤ k → (at : StormAt id key routes first spans (LeftAt spans k) pass storm ringing turns lines) →
      part.peer ≡ storm.peer → part.lines ≡ lines → part.turns ≡ turns → part.finished ≡ false →
      (list : List (Action (MemoryOp CallAccess))) × (pass ≡ held id first.peer (list ∷ [])) × ((done : Did key routes first.peer (storming first.at) spans list) × (length done.turns ≤ all_turns spans) × IsTraceOf first.peer (all_turns spans) done.turns done.after part)
  storm_ok k pass storm ringing turns lines part hostile past at mine same_lines same_turns finishes = let count = at.blown.count in let is = at.turns_are in let none = left_last spans k at.left at.holds past in (
    at.list,
    at.pass_is,
    (
      storm_did (LeftAt spans k) pass storm ringing turns lines hostile at,
      omega arith,
      record {
        peer = mine ∙ ap (λ (s : Storm). s.peer) at.storm_is;
        lines = same_lines ∙ at.recorded;
        count = same_turns ∙ is;
        finished = finishes;
        most = omega arith;
        spent = λ e. omega arith;
      },
    ),
  )
