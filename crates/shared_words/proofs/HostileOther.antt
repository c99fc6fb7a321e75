-- An honest peer opposite to a hostile one, whose session word stays 0: no session of the honest
-- one carries a number.
use Rattle.std.proofs.Common.{◌≡◌, ℕ, ◌-◌, Bool, true, false, List, ◌∷◌, refl, sym, ap, ◌∙◌, subst}
use mathlib.Core.Logic.{dite}
use native.Mathlib.Decide.{ℕ_discrete}
use Rattle.std.specs.Prelude.{◌==◌, if◌then◌else◌, All}
use Rattle.std.proofs.lemmas.List.Elements.{All-nil, All-cons}
use Rattle.split_ring.specs.declared.steps.Access.{Access}
use Rattle.split_ring.specs.declared.steps.Access.TheVariants as access
use Rattle.call_grammar.specs.Calls.{EndConfig}
use Rattle.call_grammar.specs.Ends.{End}
use Rattle.call_grammar.specs.Places.{access_at}
use Rattle.link_machine.specs.LinkMachine.{Ended, Log, Side, ended_with}
use Rattle.pair_sessions.specs.Numbers.{Numbers, number_of, own_side, numbers_after, numbers_reset}
use Rattle.shared_words.specs.declared.run_setup.RunSetup.{RunSetup}
use Rattle.shared_words.specs.RunSetups.{config_in, honest_of}
use Rattle.shared_words.specs.DerivedStates.{CallAccess, MemoryOp, called, numbered, carried, restarted, DerivedState, begun_if, after_memory_op, derived_state}
use Rattle.shared_words.specs.SharedMemory.{OperationsMade, Appends}
use Rattle.shared_words.specs.SharedMemory as made
use Rattle.shared_words.specs.Rules.{CarriesNone}
use Rattle.shared_words.proofs.FoldOfOperations.{standing_none, stands_next}
use Rattle.shared_words.proofs.LinkOfSetup.{clash}
use Rattle.shared_words.proofs.OperationsAreRuns.{begun_numbers}

-- The session word of a hostile peer.
pub hostile_none : (key : RunSetup) (memory words : ℕ → ℕ) (acc : ℕ → List (MemoryOp CallAccess)) → OperationsMade key memory words acc → (p : ℕ) → honest_of key p ≡ false → words p ≡ 0
hostile_none key memory words acc (made.starts _ _ _ zeros nulls none) p h = nulls p
hostile_none key after words next (made.makes memory _ _ acc _ q t k lt may meets leaves g) p h = hostile_none key memory words acc k p h
hostile_none key memory now next (made.stores _ words _ acc _ q number k may stored g) p h = stored.neighbour_word p (λ e. clash (sym h ∙ (ap (honest_of key) e ∙ may.honest))) ∙ hostile_none key memory words acc k p h
hostile_none key memory words next (made.loads _ _ acc _ q k may g) p h = hostile_none key memory words acc k p h
hostile_none key after words next (made.resets memory _ _ acc _ q k lt stored g) p h = hostile_none key memory words acc k p h

-- The number that it carried, and the one that it has loaded for its next session.
record LoadsNone (n : Numbers) : Type 0 where
  log : CarriesNone n.log
  loaded : number_of n.loaded ≡ 0

ended_none : (log : Log) (side : Side) → CarriesNone log → All (λ (session : Ended). session.carried ≡ 0) (ended_with log side)
ended_none log side none = by (side.state == 3)
  where
    by : (b : Bool) → All (λ (session : Ended). session.carried ≡ 0) (if b then record { carried = log.carried; delivered = side.delivered } ∷ log.ended else log.ended)
    by true = All-cons (λ (session : Ended). session.carried ≡ 0) _ log.ended none.0 none.1
    by false = none.1

either : (b : Bool) (x y : ℕ) → x ≡ 0 → y ≡ 0 → (if b then x else y) ≡ 0
either true x y a b = a
either false x y a b = b

access_none : (n : Numbers) (end : End) (a : Access) → LoadsNone n → LoadsNone (numbers_after n end a)
access_none n end (access.State state) h = record { log = (either (state == 3) (number_of n.loaded) n.log.carried h.loaded h.log.0, ended_none n.log (own_side end) h.log); loaded = refl }
access_none n end a h = h

reset_none : (n : Numbers) (end : End) → LoadsNone n → LoadsNone (numbers_reset n end)
reset_none n end h = record { log = (h.log.0, ended_none n.log (own_side end) h.log); loaded = refl }

-- A memory operation other than a load, and a load of 0.
operation_none : (config : EndConfig) (s : DerivedState) (d : MemoryOp CallAccess) → ((number : ℕ) → d ≡ carried number → number ≡ 0) → LoadsNone s.numbers → LoadsNone (after_memory_op config s d).numbers
operation_none config s (called t) nulls h = let s' = begun_if config s t.begins in access_none s'.numbers s'.end (access_at config s'.place) (subst LoadsNone (sym (begun_numbers config s t.begins)) h)
operation_none config s (numbered number) nulls h = record { log = h.log; loaded = h.loaded }
operation_none config s (carried number) nulls h = record { log = h.log; loaded = nulls number refl }
operation_none config s restarted nulls h = reset_none s.numbers s.end h

-- By one memory operation more of any peer.
next_none : (key : RunSetup) (acc next : ℕ → List (MemoryOp CallAccess)) (q : ℕ) (d : MemoryOp CallAccess) (p : ℕ) → honest_of key p ≡ true → Appends acc next q d → (q ≡ p → (number : ℕ) → d ≡ carried number → number ≡ 0) →
    LoadsNone (derived_state key p (acc p)).numbers → LoadsNone (derived_state key p (next p)).numbers
next_none key acc next q d p h g nulls was = dite (ℕ_discrete p q)
    (λ e. let here : Appends acc next p d = subst (λ k. Appends acc next k d) (sym e) g in
    subst (λ (s : DerivedState). LoadsNone s.numbers) (sym (stands_next key p acc next d h here)) (operation_none (config_in key p) (derived_state key p (acc p)) d (nulls (sym e)) was))
    (λ ne. subst (λ l. LoadsNone (derived_state key p l).numbers) (sym (g.neighbour_word p ne)) was)

loads_none : (key : RunSetup) (memory words : ℕ → ℕ) (acc : ℕ → List (MemoryOp CallAccess)) → OperationsMade key memory words acc → (p : ℕ) → honest_of key p ≡ true → honest_of key (1 - p) ≡ false → LoadsNone (derived_state key p (acc p)).numbers
loads_none key memory words acc (made.starts _ _ _ zeros nulls none) p h other = subst (λ (s : DerivedState). LoadsNone s.numbers) (sym (ap (derived_state key p) (none p) ∙ standing_none key p))
    record { log = (refl, All-nil (λ (session : Ended). session.carried ≡ 0)); loaded = refl }
loads_none key after words next (made.makes memory _ _ acc _ q t k lt may meets leaves g) p h other = next_none key acc next q (called t) p h g (λ e number is. absurd (cc)) (loads_none key memory words acc k p h other)
loads_none key memory now next (made.stores _ words _ acc _ q n k may stored g) p h other = next_none key acc next q (numbered n) p h g (λ e number is. absurd (cc)) (loads_none key memory words acc k p h other)
loads_none key memory words next (made.loads _ _ acc _ q k may g) p h other = next_none key acc next q (carried (words (1 - q))) p h g
    (λ e number is. let same : words (1 - q) ≡ number = cc in sym same ∙ (ap (λ j. words (1 - j)) e ∙ hostile_none key memory words acc k (1 - p) other)) (loads_none key memory words acc k p h other)
loads_none key after words next (made.resets memory _ _ acc _ q k lt stored g) p h other = next_none key acc next q restarted p h g (λ e number is. absurd (cc)) (loads_none key memory words acc k p h other)

pub carries_none : (key : RunSetup) (memory words : ℕ → ℕ) (acc : ℕ → List (MemoryOp CallAccess)) → OperationsMade key memory words acc → (p : ℕ) → honest_of key p ≡ true → honest_of key (1 - p) ≡ false → CarriesNone (derived_state key p (acc p)).numbers.log
carries_none key memory words acc k p h other = (loads_none key memory words acc k p h other).log
