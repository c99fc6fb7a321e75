-- The invariant at two moments, and the handshakes that the full fences exclude.
use Rattle.std.proofs.Common.{◌≡◌, ℕ, zero, suc, ◌-◌, ◌<◌, ◌≤◌, ◌⊎◌, inl, inr, ⊎_elim, Bool, true, false, refl, sym, ap, ◌∙◌, subst, arith}
use Rattle.std.specs.Prelude.{if◌then◌else◌}
use Rattle.split_ring.specs.declared.steps.Access.{Access}
use Rattle.split_ring.specs.declared.steps.Access.TheVariants as access
use Rattle.link_handshake.specs.declared.Phase.{Phase}
use Rattle.link_handshake.specs.declared.Phase.TheVariants.{Reset, Init, Ready, Run}
use Rattle.link_handshake.specs.declared.Move.TheVariants.{Stay}
use Rattle.link_handshake.specs.PhaseTable.{phase_move, state_of}
use Rattle.call_grammar.specs.Ends.{End}
use Rattle.call_grammar.specs.Ticks.{EndConfig}
use Rattle.call_grammar.specs.Places.{Place, Closed, ReadingOtherState, Clearing, WritingState, clear_place, tick_place, access_at, next_place}
use Rattle.link_invariant.specs.LinkConfig.{LinkConfig, IsLinkConfig, config_of}
use Rattle.link_invariant.specs.Steps.{ReadsMemory}
use Rattle.link_invariant.specs.EndInvariant.{EndInvariant}
use Rattle.link_invariant.proofs.TickSteps.{not_phase}
use Rattle.link_invariant.proofs.HandshakeOfPair.{state_at}
use Rattle.weak_orders.specs.Memory.{Moment, Action, Starts, Begins, Takes, Fences, Receives, Resets, Does, seen}
use Rattle.weak_orders.proofs.Cuts.{own_state, their_state, Cut, flip, step_cut, reset_cut, begin_cut}
use Rattle.weak_orders.proofs.Diamond.{IsTick, Looked, Clash}

-- Two moments

abbrev pub At : LinkConfig → ℕ → (m n : Moment) → Type 0
At link_config p m n = Cut link_config p m.words m.end m.place n.words n.end n.place

pub like : {link_config : LinkConfig} {p : ℕ} {x x' : ℕ → ℕ} {end end' : End} {place place' : Place} {y : ℕ → ℕ} {u : End} {w : Place} → x' ≡ x → end' ≡ end → place' ≡ place → Cut link_config p x end place y u w → Cut link_config p x' end' place' y u w
like {link_config} {p} {x} {x'} {end} {end'} {place} {place'} {y} {u} {w} e f g c = subst (λ (k : ℕ → ℕ). Cut link_config p k end' place' y u w) (sym e) (subst (λ (k : End). Cut link_config p x k place' y u w) (sym f) (subst (λ (k : Place). Cut link_config p x end k y u w) (sym g) c))

pub turn : (link_config : LinkConfig) → IsLinkConfig link_config → (p : ℕ) → p < 2 → (m n : Moment) → At link_config (1 - p) n m → At link_config p m n
turn link_config is p p2 m n c = let back : 1 - (1 - p) ≡ p = omega arith in subst (λ k. At link_config k m n) back (flip link_config is (1 - p) (omega arith) c)

pub met : (a : Access) (value : ℕ) → ((memory : ℕ → ℕ) → ReadsMemory memory a value) ⊎ ((word : ℕ) × (a ≡ access.Read word))
met (access.Read word) value = inr (word, refl)
met (access.Write at n) value = inl (λ m. tt)
met (access.State state) value = inl (λ m. tt)
met (access.Ring target vector) value = inl (λ m. tt)
met access.Nothing value = inl (λ m. tt)

-- An action of end p keeps the invariant if its load gives the word at the other's moment.
abbrev pub MeetsBy : LinkConfig → ℕ → Moment → (ℕ → ℕ) → Action → Type 0
MeetsBy link_config p old y (Takes value) = ReadsMemory (seen link_config p old.words y) (access_at (config_of link_config p) old.place) value
MeetsBy link_config p old y _ = Unit {0}

pub action_cut : (link_config : LinkConfig) → IsLinkConfig link_config → (p : ℕ) → p < 2 → (old new n : Moment) (action : Action) → Does link_config p old new action → MeetsBy link_config p old n.words action → At link_config p old n → At link_config p new n
action_cut link_config is p p2 old new n Starts d m c = absurd d
action_cut link_config is p p2 old new n (Begins call) d m c = like d.2 d.3 d.4 (begin_cut link_config is p p2 call d.0 (like refl refl (sym d.1) c))
action_cut link_config is p p2 old new n (Takes value) d m c = like refl d.2 d.3 (step_cut link_config is p p2 old.words new.words n.words old.end old.place n.end n.place value d.0 d.1 m c)
action_cut link_config is p p2 old new n Fences d m c = like d.0 d.1 d.2 c
action_cut link_config is p p2 old new n (Receives k) d m c = like d.0 d.1 d.2 c
action_cut link_config is p p2 old new n Resets d m c = like refl d.1 d.2 (reset_cut link_config is p p2 old.words new.words n.words old.end old.place n.end n.place d.0 c)

-- The handshake

cleared : (at count : ℕ) → (state_at (clear_place at count 2) ≡ 2) ⊎ (state_at (clear_place at count 2) ≡ 9)
cleared at zero = inl refl
cleared at (suc more) = inr refl

pub threes : (config : EndConfig) (mark : Bool) (phase : Phase) (value : ℕ) → state_at (tick_place config (if mark then Stay else phase_move phase value)) ≡ 3 → 2 ≤ value
threes config true phase value e = absurd (omega arith)
threes config false Reset zero e = absurd (omega arith)
threes config false Reset (suc zero) e = absurd (omega arith)
threes config false Reset (suc (suc more)) e = omega arith
threes config false Init zero e = absurd (omega arith)
threes config false Init (suc more) e = absurd (⊎_elim (λ (f : state_at (clear_place config.own config.words 2) ≡ 2). omega arith) (λ (f : state_at (clear_place config.own config.words 2) ≡ 9). omega arith) (cleared config.own config.words))
threes config false Ready zero e = absurd (omega arith)
threes config false Ready (suc zero) e = absurd (omega arith)
threes config false Ready (suc (suc more)) e = omega arith
threes config false Run zero e = absurd (omega arith)
threes config false Run (suc more) e = absurd (omega arith)

pub ones : (config : EndConfig) (mark : Bool) (phase : Phase) (value : ℕ) → state_at (tick_place config (if mark then Stay else phase_move phase value)) ≡ 1 → value ≤ 1
ones config true phase value e = absurd (omega arith)
ones config false Reset zero e = omega arith
ones config false Reset (suc zero) e = omega arith
ones config false Reset (suc (suc more)) e = absurd (omega arith)
ones config false Init zero e = omega arith
ones config false Init (suc more) e = absurd (⊎_elim (λ (f : state_at (clear_place config.own config.words 2) ≡ 2). omega arith) (λ (f : state_at (clear_place config.own config.words 2) ≡ 9). omega arith) (cleared config.own config.words))
ones config false Ready zero e = omega arith
ones config false Ready (suc zero) e = omega arith
ones config false Ready (suc (suc more)) e = absurd (omega arith)
ones config false Run zero e = omega arith
ones config false Run (suc more) e = absurd (omega arith)

-- The load of a Tick is of the other's State.
saw_three : (config : EndConfig) (place : Place) (value word : ℕ) → IsTick place → access_at config place ≡ access.Read word → next_place config place value ≡ WritingState 3 → (word ≡ config.other) × (2 ≤ value)
saw_three config (ReadingOtherState h) value word t e f = (sym (ap (λ (a : Access). word_of a) e), threes config h.mark h.phase value (ap state_at f))
  where
    word_of : Access → ℕ
    word_of (access.Read w) = w
    word_of a = 0
saw_three config Closed value word t e f = absurd (cc)
saw_three config (Clearing at more state) value word t e f = absurd (cc)
saw_three config (WritingState state) value word t e f = absurd (cc)
saw_three config place value word t e f = absurd t

saw_one : (config : EndConfig) (place : Place) (value word : ℕ) → IsTick place → access_at config place ≡ access.Read word → next_place config place value ≡ WritingState 1 → (word ≡ config.other) × (value ≤ 1)
saw_one config (ReadingOtherState h) value word t e f = (sym (ap (λ (a : Access). word_of a) e), ones config h.mark h.phase value (ap state_at f))
  where
    word_of : Access → ℕ
    word_of (access.Read w) = w
    word_of a = 0
saw_one config Closed value word t e f = absurd (cc)
saw_one config (Clearing at more state) value word t e f = absurd (cc)
saw_one config (WritingState state) value word t e f = absurd (cc)
saw_one config place value word t e f = absurd t

-- A moment of the other, from the view of end p on, at which the word has the loaded value.
abbrev pub Comes : LinkConfig → ℕ → Moment → (others : ℕ → Moment) → (now value word : ℕ) → Type 0
Comes link_config p m others now value word = (s : ℕ) × (m.view ≤ s) × (s ≤ now) × (value ≡ seen link_config p m.words (others s).words word)

-- The full fences exclude that one end is about to set RUN and the other to open a session.
pub no_clash : (link_config : LinkConfig) → IsLinkConfig link_config → (p : ℕ) → p < 2 → (A B : ℕ → Moment) (a b : ℕ) (v v' word word' : ℕ) (end' u' : End) (place' w' : Place) →
    EndInvariant link_config (seen link_config p (A a).words (B b).words) p (A a).end (A a).place → EndInvariant link_config (seen link_config p (A a).words (B b).words) (1 - p) (B b).end (B b).place →
    ((B b).fenced ≤ (A a).view) ⊎ ((A a).fenced ≤ (B b).view) →
    ((k : ℕ) → (A a).fenced ≤ k → k ≤ a → (A k).words p ≡ (A a).words p) → ((k : ℕ) → (B b).fenced ≤ k → k ≤ b → (B k).words (1 - p) ≡ (B b).words (1 - p)) →
    access_at (config_of link_config p) (A a).place ≡ access.Read word → access_at (config_of link_config (1 - p)) (B b).place ≡ access.Read word' →
    Comes link_config p (A a) B b v word → Comes link_config (1 - p) (B b) A a v' word' →
    Looked (A a).end (A a).place end' place' → Looked (B b).end (B b).place u' w' → place' ≡ next_place (config_of link_config p) (A a).place v → w' ≡ next_place (config_of link_config (1 - p)) (B b).place v' →
    Clash end' place' u' w' → ⊥
no_clash link_config is p p2 A B a b v v' word word' end' u' place' w' alone alone' f still still' e e' c c' (inr l) k g g' x = not_phase {a = Run} {b = Ready} (λ h. omega arith) l.run' x.0
no_clash link_config is p p2 A B a b v v' word word' end' u' place' w' alone alone' f still still' e e' c c' (inl l) (inr k) g g' x = not_phase {a = Run} {b = Reset} (λ h. omega arith) k.run' x.2
no_clash link_config is p p2 A B a b v v' word word' end' u' place' w' alone alone' f still still' e e' c c' (inl l) (inl k) g g' x =
    let o2 : 1 - p < 2 = omega arith in
    let back : 1 - (1 - p) ≡ p = omega arith in
    let one = saw_three (config_of link_config p) (A a).place v word l.was e (sym g ∙ x.1) in
    let two = saw_one (config_of link_config (1 - p)) (B b).place v' word' k.was e' (sym g' ∙ x.3) in
    let mine : (A a).words p ≡ 2 = sym (own_state link_config is p p2 (A a).words (B b).words) ∙ (alone.state ∙ ap state_of (sym (ap (λ (q : End). q.handshake.phase) l.same) ∙ x.0)) in
    let opposite : (B b).words (1 - p) ≡ 0 = sym (their_state link_config is p p2 (A a).words (B b).words) ∙ (alone'.state ∙ ap state_of (sym (ap (λ (q : End). q.handshake.phase) k.same) ∙ x.2)) in
    let read : v ≡ (B c.0).words (1 - p) = c.3 ∙ (ap (seen link_config p (A a).words (B c.0).words) one.0 ∙ their_state link_config is p p2 (A a).words (B c.0).words) in
    let read' : v' ≡ (A c'.0).words p = c'.3 ∙ (ap (seen link_config (1 - p) (B b).words (A c'.0).words) two.0 ∙ (their_state link_config is (1 - p) o2 (B b).words (A c'.0).words ∙ ap (A c'.0).words back)) in
    let low = one.1 in let high = two.1 in let s1 = c.1 in let s1' = c'.1 in
    ⊎_elim (λ h. let z = still' c.0 (omega arith) c.2 in let big : 2 ≤ v = low in let t : v ≡ 0 = read ∙ (z ∙ opposite) in omega arith)
    (λ h. let z = still c'.0 (omega arith) c'.2 in let t : v' ≡ 2 = read' ∙ (z ∙ mine) in omega arith) f
