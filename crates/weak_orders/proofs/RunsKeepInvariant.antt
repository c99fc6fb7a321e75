-- Each weak run keeps what `Held` states of its moments.
use Rattle.std.proofs.Common.{◌≡◌, ◌≢◌, ℕ, suc, ◌-◌, ◌<◌, ◌≤◌, ◌⊎◌, inl, inr, ⊎_elim, Bool, true, false, refl, sym, ap, ◌∙◌, subst, arith, length, ◌+◌}
use mathlib.Core.Logic.{dite}
use native.Mathlib.Decide.{ℕ_discrete}
use Rattle.std.specs.Prelude.{if◌then◌else◌}
use Rattle.split_ring.specs.declared.steps.Access.{Access}
use Rattle.split_ring.specs.declared.steps.Access.TheVariants as access
use Rattle.link_handshake.specs.declared.Phase.TheVariants.{Run}
use Rattle.link_handshake.specs.PhaseTable.{state_of}
use Rattle.call_grammar.specs.Ends.{End, fresh, end_after}
use Rattle.call_grammar.proofs.Phases.{phases}
use Rattle.link_handshake.specs.HandshakeState.{HandshakeState}
use Rattle.split_ring.specs.Layout.{word_offset, AvailIndex, UsedIndex}
use Rattle.call_grammar.specs.Calls.{Call, Tick, Stop, Offer, Poll, in_run, pending_of}
use Rattle.call_grammar.specs.Offers.{PendingOffer}
use Rattle.call_grammar.specs.Polls.{is_last}
use Rattle.call_grammar.specs.Places.{Place, Closed, WritingState, Refusing, ReadingAvailEvent, access_at, next_place, step_at, ReadingOtherState, ReadingAvailIndex, ReadingUsedIndex, NotInRun, first_place}
use Rattle.link_invariant.specs.LinkConfig.{LinkConfig, IsLinkConfig, config_of, section_of}
use Rattle.link_invariant.specs.Steps.{ReadsMemory}
use Rattle.link_invariant.specs.EndInvariant.{PlaceInvariant, EndInvariant}
use Rattle.link_invariant.specs.Pair.{IsAttached}
use Rattle.link_invariant.proofs.HandshakeOfPair.{attends_high}
use Rattle.link_invariant.proofs.PairKept.{starts_alone}
use Rattle.weak_orders.specs.Orders.{acquires, owes}
use Rattle.weak_orders.specs.Memory.{Moment, Action, Starts, Begins, Takes, Fences, Receives, Resets, Does, Knows, Loads, LoadsBy, Gives, Stores, StoresTo, access_of, is_release, FencedBy, is_own, seen}
use Rattle.weak_orders.specs.Runs.{WeakRuns, starts, goes, WeakRunsAgree, IsFirst}
use Rattle.weak_orders.proofs.Rows.{reset_releases, reset_fences, state_store_fences, refusal_fences, event_load_fences}
use Rattle.weak_orders.proofs.Cuts.{own_state, Cut, flip, their_state}
use Rattle.weak_orders.proofs.InvariantAtMoments.{At, like, met, action_cut, Comes}
use Rattle.weak_orders.proofs.Advance.{Held, Trail, Sourced, Took, Found, Reclaimed, Rung, left_read, beside}
use Rattle.weak_orders.proofs.StoresAreReleases.{IsKey, key_released}
use Rattle.weak_orders.proofs.LastAction.{Kind, kinds, event_cut, acquired, relaxed}

gives_of : (link_config : LinkConfig) (p : ℕ) (old new : Moment) (base : ℕ) (opposite : ℕ → Moment) (now v word : ℕ) (a : Access) → a ≡ access.Read word → LoadsBy link_config p old new base opposite now v a → Gives link_config p old new base opposite now word v
gives_of link_config p old new base opposite now v word a e l = let g : LoadsBy link_config p old new base opposite now v (access.Read word) = subst (λ (k : Access). LoadsBy link_config p old new base opposite now v k) e l in g

module _ (link_config : LinkConfig) (is : IsLinkConfig link_config) (pasts : ℕ → ℕ → Moment) (now : ℕ → ℕ) (held : Held link_config pasts now) (p : ℕ) (p2 : p < 2) where
  abbrev New : Moment
  New = pasts p (suc (now p))

  abbrev Old : Moment
  Old = pasts p (now p)

  -- Each store of a State or an index that the load may give is a store-release.
  is_released : (k word : ℕ) → Old.view ≤ k → k < now (1 - p) → IsKey link_config (1 - p) word → (Old.end.handshake.phase ≡ Run) ⊎ (word ≡ 1 - p) → Stores link_config (1 - p) (pasts (1 - p)) k word → is_release (pasts (1 - p) k).place (pasts (1 - p) (suc k)).action ≡ true
  is_released k word from below key runs s = by_action (pasts (1 - p) (suc k)).action s
    where
      by_action : (action : Action) → StoresTo (1 - p) (access_of link_config (1 - p) (pasts (1 - p) k).place action) word → is_release (pasts (1 - p) k).place action ≡ true
      by_action Starts s = absurd s
      by_action (Begins call) s = absurd s
      by_action Fences s = absurd s
      by_action (Receives h) s = absurd s
      by_action Resets s = reset_releases (pasts (1 - p) k).place
      by_action (Takes value) s = let b = beside link_config is pasts now held p p2 k from (omega arith) in let m = pasts (1 - p) k in
          key_released link_config is (1 - p) (omega arith) (seen link_config p Old.words m.words) m.end m.place word b.before.opposite.holds (⊎_elim (λ run. inl (b.before.from (inl run)).0) inr runs) s key

  module _ (knows : Knows link_config p Old New (suc (now p)) (pasts (1 - p)) (now (1 - p))) where
    reads_cut : (v word : ℕ) → access_at (config_of link_config p) Old.place ≡ access.Read word → Does link_config p Old New (Takes v) → Gives link_config p Old New knows.base (pasts (1 - p)) (now (1 - p)) word v → (j : ℕ) → New.view ≤ j → j ≤ now (1 - p) → Kind link_config p Old.place word → At link_config p New (pasts (1 - p) j)
    reads_cut v word e d (inl gave) j from to (inl kind) = let rises = knows.rises in let keeps = knows.keeps in acquired link_config is pasts now held p p2 New v word e d knows.base j (omega arith) (omega arith) to gave
    reads_cut v word e d (inr store) j from to (inl kind) = let rises = knows.rises in let low = store.1 in let lt = store.2 in
        let runs = kind.2 _ Old.end (beside link_config is pasts now held p p2 (store.0) (omega arith) (omega arith)).before.mine.holds in
        let took = store.5 kind.0 (is_released store.0 word (omega arith) store.2 kind.1 runs store.3) in
        acquired link_config is pasts now held p p2 New v word e d (suc store.0) j (omega arith) (omega arith) to store.4
    reads_cut v word e d (inl gave) j from to (inr (inl r)) = let rises = knows.rises in let keeps = knows.keeps in let known = knows.known in relaxed link_config is pasts now held p p2 New v word e d knows.base j r (omega arith) (omega arith) (omega arith) to gave
    reads_cut v word e d (inr store) j from to (inr (inl r)) = let rises = knows.rises in let keeps = knows.keeps in let low = store.1 in let lt = store.2 in relaxed link_config is pasts now held p p2 New v word e d (suc store.0) j r (omega arith) (omega arith) (omega arith) to store.4
    reads_cut v word e d g j from to (inr (inr event)) = let rises = knows.rises in let keeps = knows.keeps in let m = pasts (1 - p) j in
        let at : Cut link_config p Old.words Old.end (ReadingAvailEvent event.0) m.words m.end m.place = like refl refl (sym event.1) (beside link_config is pasts now held p p2 j (omega arith) to) in
        let words = left_read p Old.words New.words (access_at (config_of link_config p) Old.place) word e d.1 in
        like words (d.2 ∙ ap (λ (k : Place). end_after Old.end (step_at (config_of link_config p) k v)) event.1) (d.3 ∙ ap (λ (k : Place). next_place (config_of link_config p) k v) event.1) (event_cut link_config is p p2 Old.words m.words Old.end event.0 v m.end m.place at)

    -- The invariant at the last moment of end p and each consistent moment of the other.
    new_cut : (action : Action) → Does link_config p Old New action → Loads link_config p Old New knows.base (pasts (1 - p)) (now (1 - p)) action → (j : ℕ) → New.view ≤ j → j ≤ now (1 - p) → At link_config p New (pasts (1 - p) j)
    new_cut Starts d l j from to = absurd d
    new_cut (Begins call) d l j from to = let rises = knows.rises in let keeps = knows.keeps in action_cut link_config is p p2 Old New (pasts (1 - p) j) (Begins call) d tt (beside link_config is pasts now held p p2 j (omega arith) to)
    new_cut Fences d l j from to = let rises = knows.rises in let keeps = knows.keeps in action_cut link_config is p p2 Old New (pasts (1 - p) j) Fences d tt (beside link_config is pasts now held p p2 j (omega arith) to)
    new_cut (Receives h) d l j from to = let rises = knows.rises in let keeps = knows.keeps in action_cut link_config is p p2 Old New (pasts (1 - p) j) (Receives h) d tt (beside link_config is pasts now held p p2 j (omega arith) to)
    new_cut Resets d l j from to = let rises = knows.rises in let keeps = knows.keeps in action_cut link_config is p p2 Old New (pasts (1 - p) j) Resets d tt (beside link_config is pasts now held p p2 j (omega arith) to)
    new_cut (Takes v) d l j from to = by_met (met (access_at (config_of link_config p) Old.place) v)
      where
        by_met : ((memory : ℕ → ℕ) → ReadsMemory memory (access_at (config_of link_config p) Old.place) v) ⊎ ((w : ℕ) × (access_at (config_of link_config p) Old.place ≡ access.Read w)) → At link_config p New (pasts (1 - p) j)
        by_met (inl m) = let rises = knows.rises in let keeps = knows.keeps in action_cut link_config is p p2 Old New (pasts (1 - p) j) (Takes v) d (m (seen link_config p Old.words (pasts (1 - p) j).words)) (beside link_config is pasts now held p p2 j (omega arith) to)
        by_met (inr e) = reads_cut v e.0 e.1 d (gives_of link_config p Old New knows.base (pasts (1 - p)) (now (1 - p)) v e.0 _ e.1 l) j from to (kinds link_config p Old.place e.0 e.1)

    -- A moment of the other at which the word has the value that the action loaded.
    new_source : (action : Action) → Loads link_config p Old New knows.base (pasts (1 - p)) (now (1 - p)) action → Sourced link_config p Old (pasts (1 - p)) (now (1 - p)) action
    new_source Starts l = tt
    new_source (Begins call) l = tt
    new_source Fences l = tt
    new_source (Receives h) l = tt
    new_source Resets l = tt
    new_source (Takes v) l = λ word e. from_gives word (gives_of link_config p Old New knows.base (pasts (1 - p)) (now (1 - p)) v word _ e l)
      where
        from_gives : (word : ℕ) → Gives link_config p Old New knows.base (pasts (1 - p)) (now (1 - p)) word v → Comes link_config p Old (pasts (1 - p)) (now (1 - p)) v word
        from_gives word (inl gave) = let keeps = knows.keeps in let known = knows.known in (knows.base, knows.rises, omega arith, gave)
        from_gives word (inr store) = let rises = knows.rises in let low = store.1 in let lt = store.2 in (suc store.0, omega arith, omega arith, store.4)

    -- The same for a load of the other's State, after which the view includes that moment.
    new_took : (action : Action) → Loads link_config p Old New knows.base (pasts (1 - p)) (now (1 - p)) action → Took link_config p Old New (pasts (1 - p)) action
    new_took Starts l = tt
    new_took (Begins call) l = tt
    new_took Fences l = tt
    new_took (Receives h) l = tt
    new_took Resets l = tt
    new_took (Takes v) l = λ h at. from_gives h at (gives_of link_config p Old New knows.base (pasts (1 - p)) (now (1 - p)) v (1 - p) _ (ap (λ (k : Place). access_at (config_of link_config p) k) at) l)
      where
        from_gives : (h : HandshakeState) → Old.place ≡ ReadingOtherState h → Gives link_config p Old New knows.base (pasts (1 - p)) (now (1 - p)) (1 - p) v → (s : ℕ) × (Old.view ≤ s) × (s ≤ New.view) × (v ≡ (pasts (1 - p) s).words (1 - p))
        from_gives h at (inl gave) = (knows.base, knows.rises, knows.keeps, gave ∙ their_state link_config is p p2 Old.words (pasts (1 - p) knows.base).words)
        from_gives h at (inr store) = let rises = knows.rises in let low = store.1 in let lt = store.2 in
            (suc store.0, omega arith, store.5 (ap acquires at) (is_released store.0 (1 - p) (omega arith) store.2 (inl refl) (inr refl) store.3), store.4 ∙ their_state link_config is p p2 Old.words (pasts (1 - p) (suc store.0)).words)

    -- The same for a doorbell that the end received.
    new_rung : (action : Action) → Loads link_config p Old New knows.base (pasts (1 - p)) (now (1 - p)) action → Rung link_config p New (pasts (1 - p)) action
    new_rung Starts l = tt
    new_rung (Begins call) l = tt
    new_rung Fences l = tt
    new_rung (Receives h) l = l.1
    new_rung Resets l = tt
    new_rung (Takes v) l = tt

    -- The same for a load of the available index.
    new_found : (action : Action) → Loads link_config p Old New knows.base (pasts (1 - p)) (now (1 - p)) action → Found link_config p Old New (pasts (1 - p)) action
    new_found Starts l = tt
    new_found (Begins call) l = tt
    new_found Fences l = tt
    new_found (Receives h) l = tt
    new_found Resets l = tt
    new_found (Takes v) l = λ t last at. from_gives t last at (gives_of link_config p Old New knows.base (pasts (1 - p)) (now (1 - p)) v (section_of link_config (1 - p) + word_offset link_config.sizes AvailIndex) _ (ap (λ (k : Place). access_at (config_of link_config p) k) at) l)
      where
        from_gives : (t : ℕ) (last : Bool) → Old.place ≡ ReadingAvailIndex t last → Gives link_config p Old New knows.base (pasts (1 - p)) (now (1 - p)) (section_of link_config (1 - p) + word_offset link_config.sizes AvailIndex) v →
            (s : ℕ) × (Old.view ≤ s) × (s ≤ New.view) × (v ≡ seen link_config p Old.words (pasts (1 - p) s).words (section_of link_config (1 - p) + word_offset link_config.sizes AvailIndex))
        from_gives t last at (inl gave) = (knows.base, knows.rises, knows.keeps, gave)
        from_gives t last at (inr store) = let rises = knows.rises in let low = store.1 in let lt = store.2 in
            let view = held.views p p2 (now p) (omega arith) in
            let h : PlaceInvariant link_config (seen link_config p Old.words (pasts (1 - p) (now (1 - p))).words) p Old.end (ReadingAvailIndex t last) = subst (PlaceInvariant link_config (seen link_config p Old.words (pasts (1 - p) (now (1 - p))).words) p Old.end) at (beside link_config is pasts now held p p2 (now (1 - p)) view (omega arith)).before.mine.holds in
            (suc store.0, omega arith, store.5 (ap acquires at) (is_released store.0 _ (omega arith) store.2 (inr (inl refl)) (inl h.0) store.3), store.4)

    -- The same for a load of the used index.
    new_reclaimed : (action : Action) → Loads link_config p Old New knows.base (pasts (1 - p)) (now (1 - p)) action → Reclaimed link_config p Old New (pasts (1 - p)) action
    new_reclaimed Starts l = tt
    new_reclaimed (Begins call) l = tt
    new_reclaimed Fences l = tt
    new_reclaimed (Receives h) l = tt
    new_reclaimed Resets l = tt
    new_reclaimed (Takes v) l = λ pending freed at. from_gives pending freed at (gives_of link_config p Old New knows.base (pasts (1 - p)) (now (1 - p)) v (section_of link_config (1 - p) + word_offset link_config.sizes UsedIndex) _ (ap (λ (k : Place). access_at (config_of link_config p) k) at) l)
      where
        from_gives : (pending : PendingOffer) (freed : ℕ) → Old.place ≡ ReadingUsedIndex pending freed → Gives link_config p Old New knows.base (pasts (1 - p)) (now (1 - p)) (section_of link_config (1 - p) + word_offset link_config.sizes UsedIndex) v →
            (s : ℕ) × (Old.view ≤ s) × (s ≤ New.view) × (v ≡ seen link_config p Old.words (pasts (1 - p) s).words (section_of link_config (1 - p) + word_offset link_config.sizes UsedIndex))
        from_gives pending freed at (inl gave) = (knows.base, knows.rises, knows.keeps, gave)
        from_gives pending freed at (inr store) = let rises = knows.rises in let low = store.1 in let lt = store.2 in
            let view = held.views p p2 (now p) (omega arith) in
            let h : PlaceInvariant link_config (seen link_config p Old.words (pasts (1 - p) (now (1 - p))).words) p Old.end (ReadingUsedIndex pending freed) = subst (PlaceInvariant link_config (seen link_config p Old.words (pasts (1 - p) (now (1 - p))).words) p Old.end) at (beside link_config is pasts now held p p2 (now (1 - p)) view (omega arith)).before.mine.holds in
            (suc store.0, omega arith, store.5 (ap acquires at) (is_released store.0 _ (omega arith) store.2 (inr (inr refl)) (inl h.0) store.3), store.4)

no_false : true ≡ false → ⊥
no_false e = let g : ⊥ = cc in g

-- A step after which no fence is owed stores no State.
unfenced : (link_config : LinkConfig) (p : ℕ) (place next : Place) (s : ℕ) → owes place next ≡ false → access_at (config_of link_config p) place ≢ access.State s
unfenced link_config p (WritingState state) next s f e = no_false (sym (state_store_fences state next) ∙ f)
unfenced link_config p Refusing next s f e = no_false (sym (refusal_fences next) ∙ f)
unfenced link_config p place next s f e = cc

-- If no fence is owed after an action, it is a fence, or none was owed before and the phase stays.
frees : (link_config : LinkConfig) (p : ℕ) (old new : Moment) (action : Action) → Does link_config p old new action → new.owed ≡ false → (action ≡ Fences) ⊎ ((old.owed ≡ false) × (new.end.handshake.phase ≡ old.end.handshake.phase))
frees link_config p old new Starts d f = absurd d
frees link_config p old new (Begins call) d f = inr (sym d.5 ∙ f, ap (λ (e : End). e.handshake.phase) d.3)
frees link_config p old new (Takes v) d f = inr (d.4, ap (λ (e : End). e.handshake.phase) d.2 ∙ phases.kept old.end (step_at (config_of link_config p) old.place v) (λ s. unfenced link_config p old.place new.place s (sym d.5 ∙ f)))
frees link_config p old new Fences d f = inl refl
frees link_config p old new (Receives h) d f = inr (sym d.3 ∙ f, ap (λ (e : End). e.handshake.phase) d.1)
frees link_config p old new Resets d f = absurd (no_false (sym (reset_fences link_config p old new d) ∙ f))

-- An end before its load of the other's event owes a fence until it makes one.
not_event : (b : Bool) (x y : Place) (t : ℕ) → x ≢ ReadingAvailEvent t → y ≢ ReadingAvailEvent t → (if b then x else y) ≢ ReadingAvailEvent t
not_event true x y t f g = f
not_event false x y t f g = g

begins_apart : (link_config : LinkConfig) (p : ℕ) (end : End) (call : Call) (t : ℕ) → first_place (config_of link_config p) end call ≢ ReadingAvailEvent t
begins_apart link_config p end Tick t e = cc
begins_apart link_config p end Stop t e = cc
begins_apart link_config p end (Offer frame) t e = not_event (in_run end.handshake.phase) (ReadingUsedIndex (pending_of (config_of link_config p) end frame) end.freed) NotInRun t (λ e. cc) (λ e. cc) e
begins_apart link_config p end Poll t e = not_event (in_run end.handshake.phase) (ReadingAvailIndex (length end.delivered) (is_last (config_of link_config p) end.found_none)) NotInRun t (λ e. cc) (λ e. cc) e

event_fenced : (link_config : LinkConfig) (p : ℕ) (old new : Moment) (action : Action) (t : ℕ) → Does link_config p old new action → new.owed ≡ false → new.place ≡ ReadingAvailEvent t → (action ≡ Fences) ⊎ (((k : ℕ) × (action ≡ Receives k)) × (old.owed ≡ false) × (old.place ≡ ReadingAvailEvent t))
event_fenced link_config p old new Starts t d f e = absurd d
event_fenced link_config p old new (Begins call) t d f e = absurd (begins_apart link_config p old.end call t (sym d.4 ∙ e))
event_fenced link_config p old new (Takes v) t d f e = absurd (no_false (sym (event_load_fences old.place t) ∙ (ap (λ (k : Place). owes old.place k) (sym e) ∙ (sym d.5 ∙ f))))
event_fenced link_config p old new Fences t d f e = inl refl
event_fenced link_config p old new (Receives k) t d f e = inr ((k, refl), sym d.3 ∙ f, sym d.2 ∙ e)
event_fenced link_config p old new Resets t d f e = absurd (no_false (sym (reset_fences link_config p old new d) ∙ f))

-- An action is a fence, or the moment of the last fence stays.
fence_or : (old new : Moment) (at : ℕ) (opposite : ℕ → Moment) (now : ℕ) (action : Action) → FencedBy old new at opposite now action → (((opposite now).fenced ≤ new.view) × (new.fenced ≡ at)) ⊎ (new.fenced ≡ old.fenced)
fence_or old new at opposite now Starts f = inr f
fence_or old new at opposite now (Begins call) f = inr f
fence_or old new at opposite now (Takes v) f = inr f
fence_or old new at opposite now Fences f = inl f
fence_or old new at opposite now (Receives h) f = inr f
fence_or old new at opposite now Resets f = inr f

state_word : (link_config : LinkConfig) → IsLinkConfig link_config → (p : ℕ) → p < 2 → (m n : Moment) → At link_config p m n → m.words p ≡ state_of m.end.handshake.phase
state_word link_config is p p2 m n c = sym (own_state link_config is p p2 m.words n.words) ∙ c.before.mine.state

sourced_on : (link_config : LinkConfig) (p : ℕ) (m : Moment) (others : ℕ → Moment) (n n' : ℕ) (action : Action) → n ≤ n' → Sourced link_config p m others n action → Sourced link_config p m others n' action
sourced_on link_config p m others n n' Starts le s = tt
sourced_on link_config p m others n n' (Begins call) le s = tt
sourced_on link_config p m others n n' Fences le s = tt
sourced_on link_config p m others n n' (Receives h) le s = tt
sourced_on link_config p m others n n' Resets le s = tt
sourced_on link_config p m others n n' (Takes v) le s = λ word e. let c = s word e in let to = c.2 in (c.0, c.1, omega arith, c.3)

at_last : (P : ℕ → Type 0) (n a : ℕ) → a ≤ suc n → P (suc n) → (a ≤ n → P a) → P a
at_last P n a le last older = dite (ℕ_discrete a (suc n)) (λ e. subst P (sym e) last) (λ ne. older (omega arith))

pub pick : (p : ℕ) → p < 2 → (P : ℕ → Type 0) → P p → P (1 - p) → (r : ℕ) → r < 2 → P r
pick p p2 P a b r r2 = dite (ℕ_discrete r p) (λ e. subst P (sym e) a) (λ ne. subst P (let e : 1 - p ≡ r = omega arith in e) b)

-- One more action keeps `Held`.
module _ (link_config : LinkConfig) (is : IsLinkConfig link_config) (pasts : ℕ → ℕ → Moment) (now : ℕ → ℕ) (held : Held link_config pasts now) (p : ℕ) (p2 : p < 2) (does : Does link_config p (pasts p (now p)) (pasts p (suc (now p))) (pasts p (suc (now p))).action)
    (knows : Knows link_config p (pasts p (now p)) (pasts p (suc (now p))) (suc (now p)) (pasts (1 - p)) (now (1 - p))) where
  o2 : 1 - p < 2
  o2 = omega arith

  back : 1 - (1 - p) ≡ p
  back = omega arith

  last_cut : (j : ℕ) → (pasts p (suc (now p))).view ≤ j → j ≤ now (1 - p) → At link_config p (pasts p (suc (now p))) (pasts (1 - p) j)
  last_cut j from to = new_cut link_config is pasts now held p p2 knows (pasts p (suc (now p))).action does knows.loads j from to

  mine_cuts : (a b : ℕ) → a ≤ suc (now p) → b ≤ now (1 - p) → (pasts p a).view ≤ b → (pasts (1 - p) b).view ≤ a → At link_config p (pasts p a) (pasts (1 - p) b)
  mine_cuts a b le bq v w = at_last (λ k. (pasts p k).view ≤ b → (pasts (1 - p) b).view ≤ k → At link_config p (pasts p k) (pasts (1 - p) b)) (now p) a le (λ v w. last_cut b v bq) (λ le v w. held.cuts p p2 a b le bq v w) v w

  last_fence : (((pasts (1 - p) (now (1 - p))).fenced ≤ (pasts p (suc (now p))).view) × ((pasts p (suc (now p))).fenced ≡ suc (now p))) ⊎ ((pasts p (suc (now p))).fenced ≡ (pasts p (now p)).fenced)
  last_fence = fence_or (pasts p (now p)) (pasts p (suc (now p))) (suc (now p)) (pasts (1 - p)) (now (1 - p)) (pasts p (suc (now p))).action knows.fence

  mine_fences : (a b : ℕ) → a ≤ suc (now p) → b ≤ now (1 - p) → ((pasts (1 - p) b).fenced ≤ (pasts p a).view) ⊎ ((pasts p a).fenced ≤ (pasts (1 - p) b).view)
  mine_fences a b le bq = at_last (λ k. ((pasts (1 - p) b).fenced ≤ (pasts p k).view) ⊎ ((pasts p k).fenced ≤ (pasts (1 - p) b).view)) (now p) a le
      (⊎_elim (λ (f : ((pasts (1 - p) (now (1 - p))).fenced ≤ (pasts p (suc (now p))).view) × ((pasts p (suc (now p))).fenced ≡ suc (now p))). let k = f.0 in let l = held.low (1 - p) o2 b bq in inl (omega arith))
      (λ (e : (pasts p (suc (now p))).fenced ≡ (pasts p (now p)).fenced). let rises = knows.rises in let keeps = knows.keeps in ⊎_elim (λ h. inl (omega arith)) (λ h. inr (omega arith)) (held.fences p p2 (now p) b (omega arith) bq))
      last_fence)
      (λ le. held.fences p p2 a b le bq)

  state_stays : (pasts p (suc (now p))).end.handshake.phase ≡ (pasts p (now p)).end.handshake.phase → (pasts p (now p)).words p ≡ (pasts p (suc (now p))).words p
  state_stays f = let known = knows.known in let view = held.views p p2 (now p) (omega arith) in
      state_word link_config is p p2 (pasts p (now p)) (pasts (1 - p) (now (1 - p))) (beside link_config is pasts now held p p2 (now (1 - p)) view (omega arith)) ∙
      (ap state_of (sym f) ∙ sym (state_word link_config is p p2 (pasts p (suc (now p))) (pasts (1 - p) (now (1 - p))) (last_cut (now (1 - p)) known (omega arith))))

  mine_still : (a k : ℕ) → a ≤ suc (now p) → (pasts p a).owed ≡ false → (pasts p a).fenced ≤ k → k ≤ a → (pasts p k).words p ≡ (pasts p a).words p
  mine_still a k le = at_last (λ a. (pasts p a).owed ≡ false → (pasts p a).fenced ≤ k → k ≤ a → (pasts p k).words p ≡ (pasts p a).words p) (now p) a le
      (λ free lo hi. dite (ℕ_discrete k (suc (now p))) (λ e. ap (λ j. (pasts p j).words p) e) (λ ne. earlier free lo (omega arith)))
      (λ le free lo hi. held.still p p2 a k le free lo hi)
    where
      earlier : (pasts p (suc (now p))).owed ≡ false → (pasts p (suc (now p))).fenced ≤ k → k ≤ now p → (pasts p k).words p ≡ (pasts p (suc (now p))).words p
      earlier free lo hi = ⊎_elim
          (λ (is_fence : (pasts p (suc (now p))).action ≡ Fences). let f : FencedBy (pasts p (now p)) (pasts p (suc (now p))) (suc (now p)) (pasts (1 - p)) (now (1 - p)) Fences = subst (λ d. FencedBy (pasts p (now p)) (pasts p (suc (now p))) (suc (now p)) (pasts (1 - p)) (now (1 - p)) d) is_fence knows.fence in let at = f.1 in absurd (omega arith))
          (λ (h : ((pasts p (now p)).owed ≡ false) × ((pasts p (suc (now p))).end.handshake.phase ≡ (pasts p (now p)).end.handshake.phase)).
          ⊎_elim (λ (f : ((pasts (1 - p) (now (1 - p))).fenced ≤ (pasts p (suc (now p))).view) × ((pasts p (suc (now p))).fenced ≡ suc (now p))). let k = f.1 in absurd (omega arith)) (λ (e : (pasts p (suc (now p))).fenced ≡ (pasts p (now p)).fenced). held.still p p2 (now p) k (omega arith) h.0 (omega arith) hi ∙ state_stays h.1) last_fence)
          (frees link_config p (pasts p (now p)) (pasts p (suc (now p))) (pasts p (suc (now p))).action does free)

  mine_received : (a : ℕ) → a ≤ suc (now p) → (t k : ℕ) → (pasts p a).owed ≡ false → (pasts p a).place ≡ ReadingAvailEvent t → (pasts p a).fenced ≤ k → k ≤ a → (pasts p k).place ≡ ReadingAvailEvent t
  mine_received a le t k = at_last (λ a. (pasts p a).owed ≡ false → (pasts p a).place ≡ ReadingAvailEvent t → (pasts p a).fenced ≤ k → k ≤ a → (pasts p k).place ≡ ReadingAvailEvent t) (now p) a le
      (λ free e lo hi. dite (ℕ_discrete k (suc (now p))) (λ g. ap (λ j. (pasts p j).place) g ∙ e) (λ ne. ⊎_elim
      (λ (is_fence : (pasts p (suc (now p))).action ≡ Fences). let f : FencedBy (pasts p (now p)) (pasts p (suc (now p))) (suc (now p)) (pasts (1 - p)) (now (1 - p)) Fences = subst (λ d. FencedBy (pasts p (now p)) (pasts p (suc (now p))) (suc (now p)) (pasts (1 - p)) (now (1 - p)) d) is_fence knows.fence in let at = f.1 in absurd (omega arith))
      (λ (h : ((j : ℕ) × ((pasts p (suc (now p))).action ≡ Receives j)) × ((pasts p (now p)).owed ≡ false) × ((pasts p (now p)).place ≡ ReadingAvailEvent t)).
      let f : FencedBy (pasts p (now p)) (pasts p (suc (now p))) (suc (now p)) (pasts (1 - p)) (now (1 - p)) (Receives h.0.0) = subst (λ d. FencedBy (pasts p (now p)) (pasts p (suc (now p))) (suc (now p)) (pasts (1 - p)) (now (1 - p)) d) h.0.1 knows.fence in
      held.received p p2 (now p) (omega arith) t k h.1 h.2 (omega arith) (omega arith))
      (event_fenced link_config p (pasts p (now p)) (pasts p (suc (now p))) (pasts p (suc (now p))).action t does free e)))
      (λ le free e lo hi. held.received p p2 a le t k free e lo hi)

  mine_causal : (a : ℕ) → suc a ≤ suc (now p) → (k : ℕ) → k ≤ (pasts p (suc a)).view → (pasts (1 - p) k).view ≤ a
  mine_causal a le k = dite (ℕ_discrete a (now p))
      (λ e kv. let known = knows.known in let f = ap (λ n. (pasts p (suc n)).view) e in let v = held.views (1 - p) o2 k (omega arith) in let nn = ap now back in omega arith)
      (λ ne kv. held.causal p p2 a (omega arith) k kv)

  mine_near : (a : ℕ) → a ≤ suc (now p) → (pasts p a).fenced ≤ a
  mine_near a le = at_last (λ a. (pasts p a).fenced ≤ a) (now p) a le
      (⊎_elim (λ (f : ((pasts (1 - p) (now (1 - p))).fenced ≤ (pasts p (suc (now p))).view) × ((pasts p (suc (now p))).fenced ≡ suc (now p))). let k = f.1 in omega arith) (λ (e : (pasts p (suc (now p))).fenced ≡ (pasts p (now p)).fenced). let n = held.near p p2 (now p) (omega arith) in omega arith) last_fence)
      (λ le. held.near p p2 a le)

  mine_low : (a : ℕ) → a ≤ suc (now p) → (pasts p a).fenced ≤ (pasts p (suc (now p))).fenced
  mine_low a le = at_last (λ a. (pasts p a).fenced ≤ (pasts p (suc (now p))).fenced) (now p) a le (omega arith)
      (λ le. let l = held.low p p2 a le in let n = held.near p p2 (now p) (omega arith) in
      ⊎_elim (λ (f : ((pasts (1 - p) (now (1 - p))).fenced ≤ (pasts p (suc (now p))).view) × ((pasts p (suc (now p))).fenced ≡ suc (now p))). let k = f.1 in omega arith) (λ (e : (pasts p (suc (now p))).fenced ≡ (pasts p (now p)).fenced). omega arith) last_fence)

  mine_trail : (k : ℕ) → suc k ≤ suc (now p) → Trail link_config p (pasts p) k (pasts (1 - p)) (now (1 - p))
  mine_trail k le = dite (ℕ_discrete k (now p))
      (λ e. subst (λ k. Trail link_config p (pasts p) k (pasts (1 - p)) (now (1 - p))) (sym e) record { does = does; sourced = new_source link_config is pasts now held p p2 knows (pasts p (suc (now p))).action knows.loads; rises = (let rises = knows.rises in let keeps = knows.keeps in omega arith); took = new_took link_config is pasts now held p p2 knows (pasts p (suc (now p))).action knows.loads; found = new_found link_config is pasts now held p p2 knows (pasts p (suc (now p))).action knows.loads; reclaimed = new_reclaimed link_config is pasts now held p p2 knows (pasts p (suc (now p))).action knows.loads; rung = new_rung link_config is pasts now held p p2 knows (pasts p (suc (now p))).action knows.loads; climbs = mine_low (now p) (omega arith); fence = (λ (e : (pasts p (suc (now p))).action ≡ Fences). let f : FencedBy (pasts p (now p)) (pasts p (suc (now p))) (suc (now p)) (pasts (1 - p)) (now (1 - p)) Fences = subst (λ d. FencedBy (pasts p (now p)) (pasts p (suc (now p))) (suc (now p)) (pasts (1 - p)) (now (1 - p)) d) e knows.fence in f.1) })
      (λ ne. held.trail p p2 k (omega arith))

  pub held_on : (next : ℕ → ℕ) → next p ≡ suc (now p) → next (1 - p) ≡ now (1 - p) → Held link_config pasts next
  held_on next np nq = let nb : next (1 - (1 - p)) ≡ suc (now p) = ap next back ∙ np in record {
    cuts = pick p p2 (λ r. (a b : ℕ) → a ≤ next r → b ≤ next (1 - r) → (pasts r a).view ≤ b → (pasts (1 - r) b).view ≤ a → At link_config r (pasts r a) (pasts (1 - r) b))
        (λ a b al bl v w. mine_cuts a b (omega arith) (omega arith) v w)
        (λ a b al bl v w. subst (λ r. At link_config (1 - p) (pasts (1 - p) a) (pasts r b)) (sym back) (flip link_config is p p2 (mine_cuts b a (omega arith) (omega arith) (subst (λ r. (pasts r b).view ≤ a) back w) v)));
    views = pick p p2 (λ r. (a : ℕ) → a ≤ next r → (pasts r a).view ≤ next (1 - r))
        (λ a al. at_last (λ a. (pasts p a).view ≤ next (1 - p)) (now p) a (omega arith) (let known = knows.known in omega arith) (λ le. let v = held.views p p2 a le in omega arith))
        (λ a al. let v = held.views (1 - p) o2 a (omega arith) in let nn = ap now back in omega arith);
    fences = pick p p2 (λ r. (a b : ℕ) → a ≤ next r → b ≤ next (1 - r) → ((pasts (1 - r) b).fenced ≤ (pasts r a).view) ⊎ ((pasts r a).fenced ≤ (pasts (1 - r) b).view))
        (λ a b al bl. mine_fences a b (omega arith) (omega arith))
        (λ a b al bl. subst (λ r. ((pasts r b).fenced ≤ (pasts (1 - p) a).view) ⊎ ((pasts (1 - p) a).fenced ≤ (pasts r b).view)) (sym back) (⊎_elim inr inl (mine_fences b a (omega arith) (omega arith))));
    still = pick p p2 (λ r. (a k : ℕ) → a ≤ next r → (pasts r a).owed ≡ false → (pasts r a).fenced ≤ k → k ≤ a → (pasts r k).words r ≡ (pasts r a).words r)
        (λ a k al free lo hi. mine_still a k (omega arith) free lo hi)
        (λ a k al free lo hi. held.still (1 - p) o2 a k (omega arith) free lo hi);
    low = pick p p2 (λ r. (a : ℕ) → a ≤ next r → (pasts r a).fenced ≤ (pasts r (next r)).fenced)
        (λ a al. subst (λ n. (pasts p a).fenced ≤ (pasts p n).fenced) (sym np) (mine_low a (omega arith)))
        (λ a al. subst (λ n. (pasts (1 - p) a).fenced ≤ (pasts (1 - p) n).fenced) (sym nq) (held.low (1 - p) o2 a (omega arith)));
    alone = pick p p2 (λ r. (a : ℕ) → a ≤ next r → (y : ℕ → ℕ) × EndInvariant link_config (seen link_config r (pasts r a).words y) r (pasts r a).end (pasts r a).place)
        (λ a al. at_last (λ a. (y : ℕ → ℕ) × EndInvariant link_config (seen link_config p (pasts p a).words y) p (pasts p a).end (pasts p a).place) (now p) a (omega arith)
        (let known = knows.known in ((pasts (1 - p) (now (1 - p))).words, (last_cut (now (1 - p)) known (omega arith)).before.mine)) (λ le. held.alone p p2 a le))
        (λ a al. held.alone (1 - p) o2 a (omega arith));
    causal = pick p p2 (λ r. (a : ℕ) → suc a ≤ next r → (k : ℕ) → k ≤ (pasts r (suc a)).view → (pasts (1 - r) k).view ≤ a)
        (λ a al k kv. mine_causal a (omega arith) k kv)
        (λ a al k kv. held.causal (1 - p) o2 a (omega arith) k kv);
    received = pick p p2 (λ r. (a : ℕ) → a ≤ next r → (t k : ℕ) → (pasts r a).owed ≡ false → (pasts r a).place ≡ ReadingAvailEvent t → (pasts r a).fenced ≤ k → k ≤ a → (pasts r k).place ≡ ReadingAvailEvent t)
        (λ a al t k free e lo hi. mine_received a (omega arith) t k free e lo hi)
        (λ a al t k free e lo hi. held.received (1 - p) o2 a (omega arith) t k free e lo hi);
    near = pick p p2 (λ r. (a : ℕ) → a ≤ next r → (pasts r a).fenced ≤ a)
        (λ a al. mine_near a (omega arith))
        (λ a al. held.near (1 - p) o2 a (omega arith));
    trail = pick p p2 (λ r. (k : ℕ) → suc k ≤ next r → Trail link_config r (pasts r) k (pasts (1 - r)) (next (1 - r)))
        (λ k kl. subst (λ n. Trail link_config p (pasts p) k (pasts (1 - p)) n) (sym nq) (mine_trail k (omega arith)))
        (λ k kl. let t = held.trail (1 - p) o2 k (omega arith) in let nn = ap now back in record { does = t.does; sourced = sourced_on link_config (1 - p) (pasts (1 - p) k) (pasts (1 - (1 - p))) (now (1 - (1 - p))) (next (1 - (1 - p))) (pasts (1 - p) (suc k)).action (omega arith) t.sourced; rises = t.rises; took = t.took; found = t.found; reclaimed = t.reclaimed; rung = t.rung; climbs = t.climbs; fence = t.fence });
  }

-- The start.
blank : (b : Bool) (x y : ℕ) → x ≡ 0 → y ≡ 0 → (if b then x else y) ≡ 0
blank true x y e f = e
blank false x y e f = f

blank_seen : (link_config : LinkConfig) (p : ℕ) (x y : ℕ → ℕ) → ((w : ℕ) → x w ≡ 0) → ((w : ℕ) → y w ≡ 0) → (w : ℕ) → seen link_config p x y w ≡ 0
unfolding seen
blank_seen link_config p x y e f w = blank (is_own link_config p w) (x w) (y w) (e w) (f w)

first_cut : (link_config : LinkConfig) (p : ℕ) → p < 2 → (m n : Moment) → IsFirst m → IsFirst n → At link_config p m n
first_cut link_config p p2 m n a b = like refl a.end a.place (subst (λ (u : End). Cut link_config p m.words fresh Closed n.words u n.place) (sym b.end) (subst (λ (w : Place). Cut link_config p m.words fresh Closed n.words fresh w) (sym b.place) start))
  where
    none : (q : ℕ) → EndInvariant link_config (seen link_config p m.words n.words) q fresh Closed
    none q = starts_alone link_config (seen link_config p m.words n.words) (λ q. fresh) (λ q. Closed) (blank_seen link_config p m.words n.words a.words b.words) (λ q. refl) (λ q. refl) q

    idle : IsAttached fresh Closed → ⊥
    idle t = let high = attends_high fresh Closed t in omega arith

    start : Cut link_config p m.words fresh Closed n.words fresh Closed
    start = record {
      before = record { mine = none p; opposite = none (1 - p); mark = refl; from = λ t. absurd (idle t); back = λ t. absurd (idle t); faces = λ t. absurd (⊎_elim idle idle t) };
      calm = λ e. cc;
      opposite = (refl, λ e. cc);
    }

held_first : (link_config : LinkConfig) (pasts : ℕ → ℕ → Moment) (now : ℕ → ℕ) → ((p : ℕ) → now p ≡ 0) → ((p : ℕ) → IsFirst (pasts p 0)) → Held link_config pasts now
held_first link_config pasts now none first = record {
  cuts = λ p p2 a b al bl v w. let n = none p in let m = none (1 - p) in subst (λ k. At link_config p (pasts p k) (pasts (1 - p) b)) (let e : 0 ≡ a = omega arith in e) (subst (λ k. At link_config p (pasts p 0) (pasts (1 - p) k)) (let e : 0 ≡ b = omega arith in e) (first_cut link_config p p2 (pasts p 0) (pasts (1 - p) 0) (first p) (first (1 - p))));
  views = λ p p2 a al. let n = none p in let e : a ≡ 0 = omega arith in let v = ap (λ k. (pasts p k).view) e ∙ (first p).view in omega arith;
  fences = λ p p2 a b al bl. let m = none (1 - p) in let e : b ≡ 0 = omega arith in let v = ap (λ k. (pasts (1 - p) k).fenced) e ∙ (first (1 - p)).fenced in inl (omega arith);
  still = λ p p2 a k al free lo hi. let n = none p in ap (λ j. (pasts p j).words p) (let e : k ≡ a = omega arith in e);
  low = λ p p2 a al. let n = none p in let e : a ≡ now p = omega arith in let f = ap (λ k. (pasts p k).fenced) e in omega arith;
  alone = λ p p2 a al. let n = none p in subst (λ k. (y : ℕ → ℕ) × EndInvariant link_config (seen link_config p (pasts p k).words y) p (pasts p k).end (pasts p k).place) (let e : 0 ≡ a = omega arith in e) ((pasts (1 - p) 0).words, (first_cut link_config p p2 (pasts p 0) (pasts (1 - p) 0) (first p) (first (1 - p))).before.mine);
  causal = λ p p2 a al k kv. let n = none p in absurd (omega arith);
  received = λ p p2 a al t k free e lo hi. let n = none p in ap (λ j. (pasts p j).place) (let g : k ≡ a = omega arith in g) ∙ e;
  near = λ p p2 a al. let n = none p in let e : a ≡ 0 = omega arith in let v = ap (λ k. (pasts p k).fenced) e ∙ (first p).fenced in omega arith;
  trail = λ p p2 k kl. let n = none p in absurd (omega arith);
}

pub weak_runs_are_held : (link_config : LinkConfig) (pasts : ℕ → ℕ → Moment) (now : ℕ → ℕ) → IsLinkConfig link_config → WeakRuns link_config pasts now → Held link_config pasts now
weak_runs_are_held link_config pasts _ is (starts now none first) = held_first link_config pasts now none first
weak_runs_are_held link_config pasts _ is (goes now next p run p2 does knows np nq) = held_on link_config is pasts now (weak_runs_are_held link_config pasts now is run) p p2 does knows next np nq

pub weak_runs_agree : WeakRunsAgree
weak_runs_agree link_config pasts now is run p p2 = let h = weak_runs_are_held link_config pasts now is run in let o2 : 1 - p < 2 = omega arith in let v = h.views (1 - p) o2 (now (1 - p)) (omega arith) in let e = ap now (let b : 1 - (1 - p) ≡ p = omega arith in b) in
    let c = h.cuts p p2 (now p) (now (1 - p)) (omega arith) (omega arith) (h.views p p2 (now p) (omega arith)) (omega arith) in record {
      place = c.calm;
      mark = c.before.mark;
      session = λ a. (c.before.from a, (c.before.faces (inl a)).takes.prefix);
    }
