-- A memory operation of a peer leads to states of the ends' calls.
use Rattle.std.proofs.Common.{◌≡◌, ◌≢◌, ℕ, ◌-◌, ◌<◌, Bool, true, false, List, refl, sym, ap, ◌∙◌, subst}
use mathlib.Core.Logic.{dite}
use native.Mathlib.Decide.{ℕ_discrete}
use Rattle.std.specs.Prelude.{Option, Some, None}
use Rattle.split_ring.specs.declared.steps.Access.{Access}
use Rattle.call_grammar.specs.Ends.{End}
use Rattle.call_grammar.specs.Calls.{EndConfig, Call, Stop}
use Rattle.call_grammar.specs.Places.{Place, Closed, NotInRun, RingingOffer, RingingPoll, access_at, is_open}
use Rattle.link_invariant.specs.LinkConfig.{LinkConfig, config_of, IsGivenTo}
use Rattle.link_invariant.specs.Steps.{Stored, IsUntouched, ReadsMemory, MemoryAfter}
use Rattle.pair_sessions.specs.Numbers.{Numbers, IsNumbered}
use Rattle.shared_words.specs.declared.run_setup.RunSetup.{RunSetup}
use Rattle.shared_words.specs.RunSetups.{config_in, link_config_of, honest_of}
use Rattle.shared_words.specs.DerivedStates.{CallAccess, MemoryOp, called, numbered, carried, restarted, Wake, DerivedState, begun, moved, settled_place, settled, begun_if, after_access, after_memory_op, derived_state, Begins, IsNext}
use Rattle.shared_words.specs.SharedMemory.{MayStoreSession, MayLoadSession}
use Rattle.shared_words.proofs.PeersRun.{OnlyComes, Reached}
use Rattle.shared_words.proofs.PeersRun as reaches
use Rattle.shared_words.proofs.FoldOfOperations.{put, put_here, put_else, standing_snoc, stand_hostile, stands_next, Appends}
use Rattle.shared_words.proofs.LinkOfSetup.{same_config}

pub put_same : {A : Type 0} → (f : ℕ → A) (p : ℕ) (x : A) → x ≡ f p → put f p x ≡ f
put_same f p x is = λ k q. (dite (ℕ_discrete q p) (λ e. put_here f p q x e ∙ (is ∙ ap f (sym e))) (λ ne. put_else f p q x ne)) k

pub begun_numbers : (config : EndConfig) (s : DerivedState) (call : Option Call) → (begun_if config s call).numbers ≡ s.numbers
begun_numbers config s None = refl
begun_numbers config s (Some call) = refl

-- One end acts, in each state of the other.
module _ (link_config : LinkConfig) (honest : ℕ → Bool) (words : ℕ → ℕ) (st : ℕ → DerivedState) (p : ℕ) (p2 : p < 2) (hp : honest p ≡ true) where
  abbrev R : (ℕ → ℕ) → DerivedState → Type 0
  R memory s = Reached link_config honest memory words (put st p s)

  only : (s next : DerivedState) → OnlyComes (put st p s) (put st p next) p next
  only s next = record { here = put_here st p p next refl; neighbour_word = λ q ne. put_else st p q next ne ∙ sym (put_else st p q s ne) }

  begin_at : (memory : ℕ → ℕ) (s : DerivedState) (call : Call) → s.place ≡ Closed → call ≢ Stop → IsGivenTo link_config call → R memory s → R memory (begun (config_of link_config p) s call)
  begin_at memory s call closed going given k = let config = config_of link_config p in let e = put_here st p p s refl in let next = begun config s call in
      reaches.begins memory words (put st p s) (put st p next) p call k p2 hp (ap (λ (x : DerivedState). x.place) e ∙ closed) going given
      (subst (λ (x : DerivedState). OnlyComes (put st p s) (put st p next) p (begun config x call)) (sym e) (only s next))

  step_from : (memory after : ℕ → ℕ) (s : DerivedState) (value : ℕ) → is_open s.place ≡ true → ReadsMemory memory (access_at (config_of link_config p) s.place) value → MemoryAfter p memory (access_at (config_of link_config p) s.place) after →
      IsNumbered s.numbers (access_at (config_of link_config p) s.place) → R memory s → R after (moved (config_of link_config p) s value)
  step_from memory after s value goes meets leaves num k = let config = config_of link_config p in let e = sym (put_here st p p s refl) in let next = moved config s value in
      reaches.steps memory after words (put st p s) (put st p next) p value k p2 hp (subst (λ (x : DerivedState). is_open x.place ≡ true) e goes) (subst (λ (x : DerivedState). ReadsMemory memory (access_at config x.place) value) e meets)
      (subst (λ (x : DerivedState). MemoryAfter p memory (access_at config x.place) after) e leaves) (subst (λ (x : DerivedState). IsNumbered x.numbers (access_at config x.place)) e num)
      (subst (λ (x : DerivedState). OnlyComes (put st p s) (put st p next) p (moved config x value)) e (only s next))

  abbrev at : End → Place → Numbers → Wake → DerivedState
  at end place n wake = record { end = end; place = place; numbers = n; wake = wake }

  settle_at : (memory : ℕ → ℕ) (end : End) (place : Place) (n : Numbers) (wake : Wake) → R memory (at end place n wake) → R memory (at end (settled_place place) n wake)
  unfolding settled_place
  settle_at memory end RingingOffer n wake k = step_from memory memory (at end RingingOffer n wake) 0 refl tt refl tt k
  settle_at memory end RingingPoll n wake k = step_from memory memory (at end RingingPoll n wake) 0 refl tt refl tt k
  settle_at memory end NotInRun n wake k = step_from memory memory (at end NotInRun n wake) 0 refl tt refl tt k
  settle_at memory end place n wake k = k

  settle : (memory : ℕ → ℕ) (s : DerivedState) → R memory s → R memory (settled s)
  settle memory s k = settle_at memory s.end s.place s.numbers s.wake k

  -- An honest end begins its call, makes the step at its place, and rings at once if that step
  -- leads to a doorbell.
  pub on_goes : (memory after : ℕ → ℕ) (s : DerivedState) (t : CallAccess) → Begins link_config s t.begins → is_open (begun_if (config_of link_config p) s t.begins).place ≡ true →
      ReadsMemory memory (access_at (config_of link_config p) (begun_if (config_of link_config p) s t.begins).place) t.value → MemoryAfter p memory (access_at (config_of link_config p) (begun_if (config_of link_config p) s t.begins).place) after →
      IsNumbered s.numbers (access_at (config_of link_config p) (begun_if (config_of link_config p) s t.begins).place) → R memory s → R after (after_access (config_of link_config p) s t)
  on_goes memory after s t begun' goes meets leaves num k = let config = config_of link_config p in let s' = begun_if config s t.begins in
      settle after _ (step_from memory after s' t.value goes meets leaves (subst (λ (n : Numbers). IsNumbered n (access_at config s'.place)) (sym (begun_numbers config s t.begins)) num) (opened t.begins begun'))
    where
      opened : (call : Option Call) → Begins link_config s call → R memory (begun_if (config_of link_config p) s call)
      opened None b = k
      opened (Some call) b = begin_at memory s call b.0 b.1 b.2 k

-- The states to which the lists of all peers lead the ends.
abbrev pub R_of : RunSetup → (memory words : ℕ → ℕ) → (ℕ → List (MemoryOp CallAccess)) → Type 0
R_of key memory words acc = Reached (link_config_of key) (honest_of key) memory words (λ p. derived_state key p (acc p))

-- A memory operation of an honest peer moves it alone.
pub only_stands : (key : RunSetup) (acc next : ℕ → List (MemoryOp CallAccess)) (p : ℕ) (d : MemoryOp CallAccess) → honest_of key p ≡ true → Appends acc next p d →
    OnlyComes (λ q. derived_state key q (acc q)) (λ q. derived_state key q (next q)) p (after_memory_op (config_in key p) (derived_state key p (acc p)) d)
only_stands key acc next p d hp g = record { here = stands_next key p acc next d hp g; neighbour_word = λ q ne. ap (derived_state key q) (g.neighbour_word q ne) }

-- An access of an honest peer.
pub honest_access : (key : RunSetup) (memory after words : ℕ → ℕ) (acc next : ℕ → List (MemoryOp CallAccess)) (p : ℕ) (t : CallAccess) → p < 2 → honest_of key p ≡ true → IsNext key p (derived_state key p (acc p)) t.begins t.access →
    ReadsMemory memory t.access t.value → MemoryAfter p memory t.access after → Appends acc next p (called t) → R_of key memory words acc → R_of key after words next
honest_access key memory after words acc next p t p2 hp nx meets leaves grows k = let config = config_of (link_config_of key) p in let s = derived_state key p (acc p) in let st : ℕ → DerivedState = λ q. derived_state key q (acc q) in
    let same : config_in key p ≡ config = same_config key p p2 in
    let goes : is_open (begun_if config s t.begins).place ≡ true = subst (λ w. is_open (begun_if w s t.begins).place ≡ true) same nx.goes in
    let is : t.access ≡ access_at config (begun_if config s t.begins).place = nx.is ∙ ap (λ w. access_at w (begun_if w s t.begins).place) same in
    let here : derived_state key p (next p) ≡ after_access config s t = stands_next key p acc next (called t) hp grows ∙ ap (λ w. after_access w s t) same in
    let now : Reached (link_config_of key) (honest_of key) memory words (put st p s) = subst (λ (f : ℕ → DerivedState). Reached (link_config_of key) (honest_of key) memory words f) (sym (put_same st p s refl)) k in
    let then : Reached (link_config_of key) (honest_of key) after words (put st p (after_access config s t)) = on_goes (link_config_of key) (honest_of key) words st p p2 hp memory after s t nx.at_call goes
    (subst (λ (a : Access). ReadsMemory memory a t.value) is meets) (subst (λ (a : Access). MemoryAfter p memory a after) is leaves) (subst (λ (a : Access). IsNumbered s.numbers a) is nx.numbered) now in
    let all : (q : ℕ) → derived_state key q (next q) ≡ put st p (after_access config s t) q = λ q. dite (ℕ_discrete q p)
    (λ e. subst (λ x. derived_state key x (next x) ≡ after_access config s t) (sym e) here ∙ sym (put_here st p q (after_access config s t) e)) (λ ne. ap (derived_state key q) (grows.neighbour_word q ne) ∙ sym (put_else st p q (after_access config s t) ne)) in
    subst (λ (f : ℕ → DerivedState). Reached (link_config_of key) (honest_of key) after words f) (sym (λ i q. all q i)) then

-- Its store of the next number, its load of the other's, and its reset.
pub honest_store : (key : RunSetup) (memory words now : ℕ → ℕ) (acc next : ℕ → List (MemoryOp CallAccess)) (p number : ℕ) → p < 2 → MayStoreSession key p (acc p) number → Stored words now p number → Appends acc next p (numbered number) →
    R_of key memory words acc → R_of key memory now next
honest_store key memory words now acc next p number p2 may stored g k =
    reaches.stores memory words now (λ q. derived_state key q (acc q)) (λ q. derived_state key q (next q)) p k p2 may.honest may.place (subst (λ n. Stored words now p n) may.next stored) (only_stands key acc next p (numbered number) may.honest g)

pub honest_load : (key : RunSetup) (memory words : ℕ → ℕ) (acc next : ℕ → List (MemoryOp CallAccess)) (p : ℕ) → p < 2 → MayLoadSession key p (acc p) → Appends acc next p (carried (words (1 - p))) → R_of key memory words acc → R_of key memory words next
honest_load key memory words acc next p p2 may g k =
    reaches.loads memory words (λ q. derived_state key q (acc q)) (λ q. derived_state key q (next q)) p k p2 may.honest may.place (only_stands key acc next p (carried (words (1 - p))) may.honest g)

pub honest_reset : (key : RunSetup) (memory after words : ℕ → ℕ) (acc next : ℕ → List (MemoryOp CallAccess)) (p : ℕ) → p < 2 → honest_of key p ≡ true → Stored memory after p 0 → Appends acc next p restarted → R_of key memory words acc → R_of key after words next
honest_reset key memory after words acc next p p2 hp stored g k =
    reaches.resets memory after words (λ q. derived_state key q (acc q)) (λ q. derived_state key q (next q)) p k p2 hp stored (only_stands key acc next p restarted hp g)

-- A memory operation of a hostile peer leaves the words of each honest one.
pub hostile_operation : (key : RunSetup) (memory after words : ℕ → ℕ) (acc next : ℕ → List (MemoryOp CallAccess)) (p : ℕ) (d : MemoryOp CallAccess) → honest_of key p ≡ false → ((q : ℕ) → q < 2 → honest_of key q ≡ true → IsUntouched (link_config_of key) memory after q) →
    Appends acc next p d → R_of key memory words acc → R_of key after words next
hostile_operation key memory after words acc next p d hp untouched grows k =
    let all : (q : ℕ) → derived_state key q (next q) ≡ derived_state key q (acc q) = λ q. dite (ℕ_discrete q p)
    (λ e. subst (λ x. derived_state key x (next x) ≡ derived_state key x (acc x)) (sym e) (ap (derived_state key p) grows.here ∙ (standing_snoc key p (acc p) d ∙ stand_hostile key p (derived_state key p (acc p)) d hp))) (λ ne. ap (derived_state key q) (grows.neighbour_word q ne)) in
    subst (λ (f : ℕ → DerivedState). Reached (link_config_of key) (honest_of key) after words f) (sym (λ i q. all q i)) (reaches.others memory after words _ k untouched)
