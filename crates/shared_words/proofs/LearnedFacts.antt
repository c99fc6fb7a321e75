-- The rule at the start, and what the holder of a range of peers may learn of it.
use Rattle.std.proofs.Common.{◌≡◌, ◌≢◌, ℕ, zero, suc, ◌+◌, ◌-◌, true, ◌<◌, ◌≤◌, List, [], ◌∷◌, length, get_or, replicate, refl, sym, ap, ◌∙◌, subst, arith}
use mathlib.Core.Option.{some, some-injective, some-ne-none}
use lib.ListN.{get_elem?}
use Rattle.std.proofs.lemmas.List.{length-replicate}
use Rattle.atomic_table.specs.Table.{Me, Allows, opening}
use Rattle.atomic_table.specs.Table.Act.{keeps}
use Rattle.atomic_table.proofs.Lists.{set_again}
use Rattle.call_grammar.specs.Places.{Refusing}
use Rattle.link_invariant.specs.Runs.{RunsKeepInvariant}
use Rattle.link_invariant.specs.LinkInvariant.{HonestEndsAgree}
use Rattle.link_machine.specs.LinkMachine.{DeliversInOrder}
use Rattle.pair_sessions.specs.Numbers.{own_side, SessionsArePaired}
use Rattle.shared_words.specs.declared.run_setup.RunSetup.{RunSetup}
use Rattle.shared_words.specs.declared.view.View.{View}
use Rattle.shared_words.specs.RunSetups.{link_config_of, honest_of, IsFit}
use Rattle.shared_words.specs.DerivedStates.{CallAccess, MemoryOp, derived_state, NeverMarked}
use Rattle.shared_words.specs.SharedMemory.{OperationsMade}
use Rattle.shared_words.specs.ActionsMade as happened
use Rattle.shared_words.specs.Actions.{Action, accesses_in}
use Rattle.shared_words.specs.Interrupts.{count_in, sum_below, rings_bit, finds_bit, FollowsClears, words_at_start, AreRung}
use Rattle.atomic_table.specs.Seated.{TableId}
use Rattle.shared_words.specs.Passes.{IsPassOf, held}
use Rattle.shared_words.specs.Rules.{region, session_words, accesses_by, Memory, Fits, TableInvariant, view, initial_view, list_of, SessionsAreLearned, CarriesNone, IsLearned}
use Rattle.shared_words.proofs.SumsOfCounts.{tally_same}
use Rattle.shared_words.proofs.WordsAtStart.{start_size, start_region, start_session}
use Rattle.shared_words.proofs.ActionsMakeWords.{made_by, interrupts_by}
use Rattle.shared_words.proofs.InterruptsKept.{are_rung}
use Rattle.shared_words.proofs.ActionsKeepRule.{put_back}
use Rattle.shared_words.proofs.RunsOfEnds.{none_refuses, are_learned}
use Rattle.shared_words.proofs.RefusalMarks.{never_marked}
use Rattle.shared_words.proofs.LinkOfSetup.{is_link_config}
use Rattle.shared_words.proofs.ListsAreRuns.{reached_by}
use Rattle.shared_words.proofs.HostileOther.{carries_none}
use Rattle.shared_words.proofs.NoneIsMissed.{never_missed}
use Rattle.std.specs.Prelude.{Contains}

at_only : {A : Type 0} (a x : A) (i : ℕ) → get_elem? (a ∷ []) i ≡ some x → (i ≡ 0) × (a ≡ x)
at_only a x zero e = (refl, some-injective _ _ e)
at_only a x (suc i) e = absurd (some-ne-none x (sym e))

at_all : {A : Type 0} (n : ℕ) (a x : A) (i : ℕ) → get_elem? (replicate n a) i ≡ some x → a ≡ x
at_all zero a x i e = absurd (some-ne-none x (sym e))
at_all (suc n) a x zero e = some-injective _ _ e
at_all (suc n) a x (suc i) e = at_all n a x i e

pub starts : (key : RunSetup) → IsFit key → TableInvariant key (opening (words_at_start key) [] (initial_view key))
starts key fit = record {
  holder = λ _. 0;
  acc = λ _. [];
  fits = λ id v e. let t = at_only (initial_view key) v id e in subst (Fits key.geometry.peers (λ _. 0) (λ _. []) id) t.1 record {
    inside = let nil : List (Action (MemoryOp CallAccess)) = [] in omega (arith, length-replicate key.geometry.peers nil);
    mine = λ k lt. sym t.0;
    known = λ k l at. at_all key.geometry.peers [] l k at;
  };
  fit = fit;
  memory = record {
    sized = start_size key;
    small = λ w lt. subst (λ n. n < 4294967296) (sym (start_region key w lt)) (omega arith);
    numbers = λ p p2. subst (λ n. n < 4294967296) (sym (start_session key p)) (omega arith);
    happened = happened.starts _ _ (λ w. refl) (λ p. refl);
  };
}

-- The pass of the words that were opened.
pub opened_of : (key made : RunSetup) (t u : TableId) (me : Me ℕ View) (items : List ℕ) → IsFit key → items ≡ words_at_start key → t.words ≡ length items → u ≡ t → me ≡ (initial_view key, []) → made ≡ key →
    IsPassOf t made (held u me.0.from me.0.lists) × (me.0.from ≡ 0) × (length me.0.lists ≡ made.geometry.peers)
opened_of key made t u me items fit same words holder me_is made_is = let nil : List (Action (MemoryOp CallAccess)) = [] in let size : length (replicate key.geometry.peers nil) ≡ key.geometry.peers = length-replicate key.geometry.peers nil in
    subst (λ (k : RunSetup). IsPassOf t k (held u me.0.from me.0.lists) × (me.0.from ≡ 0) × (length me.0.lists ≡ k.geometry.peers)) (sym made_is)
    (subst (λ (m : Me ℕ View). IsPassOf t key (held u m.0.from m.0.lists) × (m.0.from ≡ 0) × (length m.0.lists ≡ key.geometry.peers)) (sym me_is)
    ((holder, words ∙ (ap length same ∙ start_size key), omega arith, fit), refl, size))

-- Each list of a pass with all peers is the one that the rule knows.
reports_all : (n : ℕ) (holder : ℕ → ℕ) (acc : ℕ → List (Action (MemoryOp CallAccess))) (id : ℕ) (lists : List (List (Action (MemoryOp CallAccess)))) → Fits n holder acc id (view 0 lists) → (p : ℕ) → p < length lists → list_of lists p ≡ acc p
reports_all n holder acc id lists f p lt = let h : p ≡ 0 + p = omega arith in sym (ap acc h ∙ f.known p (list_of lists p) (at lists p lt))
  where
    at : (l : List (List (Action (MemoryOp CallAccess)))) (k : ℕ) → k < length l → get_elem? l k ≡ some (list_of l k)
    at [] k lt = absurd (omega arith)
    at (x ∷ xs) zero lt = refl
    at (x ∷ xs) (suc k) lt = at xs k (omega arith)

-- Lists that are the same for both peers.
same_two : (key : RunSetup) (acc next : ℕ → List (MemoryOp CallAccess)) → ((p : ℕ) → p < 2 → next p ≡ acc p) → SessionsAreLearned key acc → SessionsAreLearned key next
same_two key acc next same t = record {
  deliver = λ p p2. let q2 : 1 - p < 2 = omega arith in
      subst (λ l. DeliversInOrder (own_side (derived_state key p (next p)).end) (own_side (derived_state key (1 - p) l).end) (derived_state key p (next p)).numbers.log (derived_state key (1 - p) l).numbers.log) (sym (same (1 - p) q2))
      (subst (λ l. DeliversInOrder (own_side (derived_state key p l).end) (own_side (derived_state key (1 - p) (acc (1 - p))).end) (derived_state key p l).numbers.log (derived_state key (1 - p) (acc (1 - p))).numbers.log) (sym (same p p2)) (t.deliver p p2));
  never_refuse = λ p p2. subst (λ l. ((derived_state key p l).place ≢ Refusing) × NeverMarked key p l) (sym (same p p2)) (t.never_refuse p p2);
}

-- Lists that are the same for all peers.
same_rung : (key : RunSetup) (acc next : ℕ → List (Action (MemoryOp CallAccess))) → ((p : ℕ) → p < key.geometry.peers → next p ≡ acc p) → AreRung key acc → AreRung key next
same_rung key acc next same r = record {
  rung = λ target bit lt. let a : count_in (finds_bit bit) (next target) ≡ count_in (finds_bit bit) (acc target) = ap (count_in (finds_bit bit)) (same target lt) in
      let b : sum_below key.geometry.peers (λ p. count_in (rings_bit target bit) (next p)) ≡ sum_below key.geometry.peers (λ p. count_in (rings_bit target bit) (acc p)) = tally_same key.geometry.peers _ _ (λ p l. ap (count_in (rings_bit target bit)) (same p l)) in
      let c : count_in (finds_bit bit) (acc target) ≤ sum_below key.geometry.peers (λ p. count_in (rings_bit target bit) (acc p)) = r.rung target bit lt in omega arith;
  once = λ target lt shot. subst (λ k. k ≤ 1) (sym (ap (λ l. sum_below 64 (λ bit. count_in (finds_bit bit) l)) (same target lt))) (r.once target lt shot);
  behind = λ target p lt l shot. subst (FollowsClears target) (sym (same p l)) (r.behind target p lt l shot);
}

-- And along the lists neither ever bore the mark.
never_borne : RunsKeepInvariant → HonestEndsAgree → (key : RunSetup) → IsFit key → honest_of key 0 ≡ true → honest_of key 1 ≡ true → (memory words : ℕ → ℕ) (acc : ℕ → List (MemoryOp CallAccess)) → OperationsMade key memory words acc → (p : ℕ) → p < 2 → NeverMarked key p (acc p)
never_borne whole agree key fit a b memory words acc m = never_marked key (λ memory words acc m p p2. (none_refuses whole agree key memory words acc (is_link_config key fit) a b (reached_by key fit memory words acc m) p p2).1) memory words acc m

learned_at : RunsKeepInvariant → SessionsArePaired → HonestEndsAgree → (key : RunSetup) (holder : ℕ → ℕ) (acc : ℕ → List (Action (MemoryOp CallAccess))) (words : List ℕ) (id from : ℕ) (lists : List (List (Action (MemoryOp CallAccess)))) → IsFit key → Fits key.geometry.peers holder acc id (view from lists) → Memory key words acc → IsLearned key from lists
learned_at whole paired agree key holder acc words id from lists fit f m start all = let two = fit.shape.two_peers in let operations = made_by key words acc fit m in
    let same : (p : ℕ) → p < key.geometry.peers → list_of lists p ≡ acc p = λ p lt. reports_all key.geometry.peers holder acc id lists (subst (λ k. Fits key.geometry.peers holder acc id (view k lists)) start f) p (omega arith) in record {
      pair = λ a b. same_two key (accesses_by acc) (accesses_by (list_of lists)) (λ p p2. ap accesses_in (same p (omega arith)))
          (are_learned whole paired agree key (region key words) (session_words key words) (accesses_by acc) (is_link_config key fit) a b (reached_by key fit _ _ _ operations) (never_borne whole agree key fit a b _ _ _ operations));
      woken = λ ev a b p frame p2 asked. let one = same p (omega arith) in let other = same (1 - p) (omega arith) in
          subst (λ l. ¬ Contains (derived_state key (1 - p) (accesses_in l)).wake.missed frame) (sym other)
          (never_missed (link_config_of key) (is_link_config key fit) ev (honest_of key) a b (region key words) (session_words key words) (λ q. derived_state key q (accesses_by acc q)) (reached_by key fit _ _ _ operations) p frame p2 (sym (ap (λ l. (derived_state key p (accesses_in l)).wake.asked) one) ∙ asked));
      neighbour_word = λ p p2 h other. subst (λ l. CarriesNone (derived_state key p (accesses_in l)).numbers.log) (sym (same p (omega arith))) (carries_none key (region key words) (session_words key words) (accesses_by acc) operations p h other);
      rung = same_rung key acc (list_of lists) same (are_rung key (λ w. get_or words w 0) acc (interrupts_by key words acc fit m));
    }

pub learn_allowed : RunsKeepInvariant → SessionsArePaired → HonestEndsAgree → (key : RunSetup) (slots id : ℕ) (me : Me ℕ View) (then : Me ℕ View → ℕ → Me ℕ View → Type 0) → ((n : ℕ) (t : Me ℕ View) → (t ≡ me) × IsLearned key me.0.from me.0.lists → then me n t) → Allows (TableInvariant key) slots id me 0 (λ n. n) (then me)
learn_allowed whole paired agree key slots id me then reports s k homes at fits = let was = k.fits id _ at in (
  me.0,
  keeps,
  tt,
  record {
    holder = k.holder;
    acc = k.acc;
    fits = subst (λ vs. (j : ℕ) (v : View) → get_elem? vs j ≡ some v → Fits key.geometry.peers k.holder k.acc j v) (sym (set_again s.views id me.0 at)) k.fits;
    fit = k.fit;
    memory = subst (λ ws. Memory key ws k.acc) (sym (put_back s.words 0 _ refl)) k.memory;
  },
  reports _ _ (refl, learned_at whole paired agree key k.holder k.acc s.words id me.0.from me.0.lists k.fit was k.memory),
)
