-- Peers of a range run: their lists and their traces.
use Rattle.std.proofs.Common.{◌≡◌, ℕ, zero, suc, ◌+◌, ◌-◌, ◌≤◌, Bool, false, List, [], ◌∷◌, ◌++◌, length, take, drop, replicate, refl, sym, ap, ◌∙◌, subst, arith, append-nil, append_assoc}
use Rattle.std.specs.Prelude.{Result, Ok, Err, IfOk}
use Rattle.std.proofs.lemmas.List.{length-replicate}
use Rattle.atomic_table.specs.Seated.{TableId}
use Rattle.ivs_base.specs.declared.frames.NoMemory.{NoMemory}
use Rattle.scenario_text.specs.Scenario.{World}
use Rattle.scenario_text.specs.Running.{has_turn}
use Rattle.lawful_history.specs.Peers.{Peer}
use Rattle.record_text.specs.declared.own_trace.OwnTrace.{OwnTrace}
use Rattle.record_text.specs.OwnParts.{part_of}
use Rattle.shared_words.specs.declared.run_setup.RunSetup.{RunSetup}
use Rattle.peer_runner.specs.declared.driving.PeerPlan.{PeerPlan}
use Rattle.shared_words.specs.PassView.{PassView}
use Rattle.shared_words.specs.RunSetups.{IsMadeFor}
use Rattle.shared_words.specs.DerivedStates.{CallAccess, MemoryOp}
use Rattle.shared_words.specs.Actions.{Action}
use Rattle.shared_words.specs.Passes.{IsPassOf, held, lower_pass, upper_pass, join_passes}
use Rattle.peer_runner.specs.Turns.{all_turns}
use Rattle.peer_runner.specs.OwnRecord.{IsTraceOf, start_of, spans_of}
use Rattle.peer_runner.specs.Drives.{starting, MayDrive, IsPlan, Did, RanIf, RanOne, RanAll, BothOk}

pub plan_may : (world : World) (key : RunSetup) (me : ℕ) (plan : PeerPlan) → IsPlan world me plan → IsMadeFor world key → MayDrive key plan.peer plan.driver
plan_may world key me plan is made = subst (λ p. MayDrive key p plan.driver) (sym is.peer) (is.driver.1 key made)

-- A peer that was driven
pub ran_one : (world : World) (key : RunSetup) (me : ℕ) (plan : PeerPlan) (list : List (Action (MemoryOp CallAccess))) (trace : OwnTrace) (traces : List OwnTrace) → IsPlan world me plan → traces ≡ trace ∷ [] →
    (did : Did key plan.routes.items plan.peer (starting plan.driver) plan.spans list) × IsTraceOf plan.peer (all_turns plan.spans) did.turns did.after (part_of trace) → RanOne world key me list traces
ran_one world key me plan list trace traces is one did =
    let P : ℕ → List ℕ → Peer → Type 0 = λ p spans start. (d : Did key plan.routes.items p start spans list) × IsTraceOf p (all_turns spans) d.turns d.after (part_of trace) in
    let here : P me (spans_of world.acts me) (start_of world.acts me) = subst (λ p. P p (spans_of world.acts me) (start_of world.acts me)) is.peer
    (subst (λ l. P plan.peer l (start_of world.acts me)) is.spans (subst (P plan.peer plan.spans) is.driver.0 did)) in
    subst (λ (b : Bool). RanIf b world key me list traces) (sym is.runs) (trace, one, plan.routes.items, is.routed, here)

pub ran_none : (world : World) (key : RunSetup) (me : ℕ) (traces : List OwnTrace) → has_turn world.acts me ≡ false → traces ≡ [] → RanOne world key me [] traces
ran_none world key me traces none empty = subst (λ (b : Bool). RanIf b world key me [] traces) (sym none) (refl, empty)

-- No peer, and one.
pub range_none : (world : World) (key : RunSetup) (from : ℕ) (traces : List OwnTrace) → traces ≡ [] → RanAll world key from [] traces
unfolding RanAll
range_none world key from traces empty = empty

pub range_one : (world : World) (key : RunSetup) (from : ℕ) (list : List (Action (MemoryOp CallAccess))) (traces : List OwnTrace) → RanOne world key from list traces → RanAll world key from (list ∷ []) traces
unfolding RanAll
range_one world key from list traces ran = (traces, [], sym (append-nil traces), ran, refl)

-- The peers of two ranges of which one begins where the other ends.
pub range_append : (world : World) (key : RunSetup) (from : ℕ) (lists more : List (List (Action (MemoryOp CallAccess)))) (traces others : List OwnTrace) → RanAll world key from lists traces → RanAll world key (from + length lists) more others → RanAll world key from (lists ++ more) (traces ++ others)
unfolding RanAll
range_append world key from [] more traces others none ran = let at : from + 0 ≡ from = omega arith in
    subst (λ ts. RanAll world key from more (ts ++ others)) (sym none) (subst (λ f. RanAll world key f more others) at ran)
range_append world key from (list ∷ lists) more traces others one ran = let at : from + suc (length lists) ≡ suc from + length lists = omega arith in (
  one.0,
  one.1 ++ others,
  ap (λ ts. ts ++ others) one.2 ∙ append_assoc one.0 one.1 others,
  one.3,
  range_append world key (suc from) lists more one.1 others one.4 (subst (λ f. RanAll world key f more others) at ran),
)

-- The pass of a range.
pub range_pass : (h : PassView) (from : ℕ) (lists : List (List (Action (MemoryOp CallAccess)))) → h.from ≡ from → h.lists ≡ lists → h ≡ held h.table_id from lists
range_pass h from lists one other = λ k. record { table_id = h.table_id; from = one k; lists = other k }

-- The two halves of a pass without actions.
take_same : {A : Type 0} (n m : ℕ) (a : A) → n ≤ m → take n (replicate m a) ≡ replicate n a
take_same zero m a le = refl
take_same (suc n) zero a le = absurd (omega arith)
take_same (suc n) (suc m) a le = ap (λ l. a ∷ l) (take_same n m a (omega arith))

drop_same : {A : Type 0} (n m : ℕ) (a : A) → n ≤ m → drop n (replicate m a) ≡ replicate (m - n) a
drop_same zero m a le = let e : m ≡ m - 0 = omega arith in ap (λ k. replicate k a) e
drop_same (suc n) zero a le = absurd (omega arith)
drop_same (suc n) (suc m) a le = let e : m - n ≡ suc m - suc n = omega arith in drop_same n m a (omega arith) ∙ ap (λ k. replicate k a) e

module _ (id : TableId) (key : RunSetup) (h : PassView) (from count half : ℕ) (le : half ≤ count) (is : IsPassOf id key h) (start : h.from ≡ from) (lists : h.lists ≡ replicate count []) where
  pub lower_whole : (low : PassView) → low ≡ lower_pass (from + half) h → (low.from ≡ from) × (low.lists ≡ replicate half [])
  lower_whole low at = let e : (from + half) - h.from ≡ half = omega arith in (
    ap (λ (x : PassView). x.from) at ∙ start,
    ap (λ (x : PassView). x.lists) at ∙ ((λ i. take (e i) (lists i)) ∙ take_same half count [] le),
  )

  pub upper_whole : (up : PassView) → up ≡ upper_pass (from + half) h → (up.from ≡ from + half) × (up.lists ≡ replicate (count - half) [])
  upper_whole up at = let e : (from + half) - h.from ≡ half = omega arith in (
    ap (λ (x : PassView). x.from) at,
    ap (λ (x : PassView). x.lists) at ∙ ((λ i. drop (e i) (lists i)) ∙ drop_same half count [] le),
  )

  size : length h.lists ≡ count
  size = ap length lists ∙ (let nil : List (Action (MemoryOp CallAccess)) = [] in length-replicate count nil)

  pub lower_of : (low : PassView) → low ≡ lower_pass (from + half) h → IsPassOf id key low
  lower_of low at = let whole = lower_whole low at in let first = whole.0 in let nil : List (Action (MemoryOp CallAccess)) = [] in let n : length low.lists ≡ half = ap length whole.1 ∙ length-replicate half nil in let all = size in let inside = is.2 in
      (ap (λ (x : PassView). x.table_id) at ∙ is.0, is.1, omega arith, is.3)

  pub upper_of : (up : PassView) → up ≡ upper_pass (from + half) h → IsPassOf id key up
  upper_of up at = let whole = upper_whole up at in let first = whole.0 in let nil : List (Action (MemoryOp CallAccess)) = [] in let n : length up.lists ≡ count - half = ap length whole.1 ∙ length-replicate (count - half) nil in let all = size in let inside = is.2 in
      (ap (λ (x : PassView). x.table_id) at ∙ is.0, is.1, omega arith, is.3)

if_ok : {A : Type 0} (P Q : A → Type 0) (r : Result A NoMemory) → ((x : A) → P x → Q x) → IfOk r P → IfOk r Q
if_ok P Q (Ok x) f is = f x is
if_ok P Q (Err e) f is = tt

pub one_ranged : {A : Type 0} (items : A → List OwnTrace) (world : World) (key : RunSetup) (from : ℕ) (list : List (Action (MemoryOp CallAccess))) (r : Result A NoMemory) → IfOk r (λ t. RanOne world key from list (items t)) → IfOk r (λ t. RanAll world key from (list ∷ []) (items t))
one_ranged items world key from list r ran = if_ok (λ t. RanOne world key from list (items t)) (λ t. RanAll world key from (list ∷ []) (items t)) r (λ t one. range_one world key from list (items t) one) ran

pub both_ranged : {A : Type 0} (items : A → List OwnTrace) (world : World) (key : RunSetup) (from half middle : ℕ) (lists more : List (List (Action (MemoryOp CallAccess)))) (first second all : Result A NoMemory) → middle ≡ from + half → length lists ≡ half →
    IfOk first (λ t. RanAll world key from lists (items t)) → IfOk second (λ t. RanAll world key middle more (items t)) → IfOk all (λ t. BothOk first second (λ a b. items t ≡ items a ++ items b)) → IfOk all (λ t. RanAll world key from (lists ++ more) (items t))
both_ranged items world key from half middle lists more (Ok a) (Ok b) (Ok t) at size one other is = let begins : middle ≡ from + length lists = at ∙ ap (λ n. from + n) (sym size) in
    subst (λ ts. RanAll world key from (lists ++ more) ts) (sym is) (range_append world key from lists more (items a) (items b) one (subst (λ f. RanAll world key f more (items b)) begins other))
both_ranged items world key from half middle lists more (Ok a) (Err e) (Ok t) at size one other is = absurd is
both_ranged items world key from half middle lists more (Err e) second (Ok t) at size one other is = absurd is
both_ranged items world key from half middle lists more first second (Err e) at size one other is = tt

pub both_pass : (id other : TableId) (from middle : ℕ) (lists more : List (List (Action (MemoryOp CallAccess)))) (low up all : PassView) → id ≡ other → low ≡ held id from lists → up ≡ held other middle more → all ≡ join_passes low up → all ≡ held id from (lists ++ more)
both_pass id other from middle lists more low up all same one two is = is ∙ λ i. join_passes (one i) (two i)
