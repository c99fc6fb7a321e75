-- The memory operations of peers lead the honest ends to states of their calls.
use Rattle.std.proofs.Common.{◌≡◌, ◌≢◌, ℕ, ◌+◌, ◌<◌, inl, inr, Bool, true, false, List, refl, sym, ap, ◌∙◌}
use Rattle.split_ring.specs.declared.steps.Access.{Access}
use Rattle.split_ring.specs.declared.steps.Access.TheVariants as access
use Rattle.link_invariant.specs.LinkConfig.{section_of}
use Rattle.link_invariant.specs.Steps.{IsUntouched, MemoryAfter}
use Rattle.shared_words.specs.declared.run_setup.RunSetup.{RunSetup}
use Rattle.shared_words.specs.RunSetups.{link_config_of, honest_of, IsFit}
use Rattle.shared_words.specs.DerivedStates.{CallAccess, MemoryOp, called, restarted, derived_state}
use Rattle.shared_words.specs.SharedMemory.{IsOwned, OperationsMade}
use Rattle.shared_words.specs.SharedMemory as made
use Rattle.shared_words.proofs.PeersRun as reaches
use Rattle.shared_words.proofs.FoldOfOperations.{standing_none}
use Rattle.shared_words.proofs.LinkOfSetup.{clash, honest_below, apart}
use Rattle.shared_words.proofs.OperationsAreRuns.{R_of, honest_access, honest_store, honest_load, honest_reset, hostile_operation}

-- An access of one peer leaves the words of every other link peer.
untouched : (key : RunSetup) (p q : ℕ) (memory after : ℕ → ℕ) (a : Access) → IsFit key → p < key.geometry.peers → q < 2 → q ≢ p → IsOwned key p a → MemoryAfter p memory a after → IsUntouched (link_config_of key) memory after q
untouched key p q memory after (access.Write word value) fit lt q2 ne own leaves = apart key p q word value memory after fit lt q2 ne (inl own) leaves
untouched key p q memory after (access.State state) fit lt q2 ne own leaves = apart key p q p state memory after fit lt q2 ne (inr refl) leaves
untouched key p q memory after a fit lt q2 ne own leaves = record { state = ap (λ (m : ℕ → ℕ). m q) leaves; section = λ j below. ap (λ (m : ℕ → ℕ). m (section_of (link_config_of key) q + j)) leaves }

pub by_honesty : {P : Type 0} → (b : Bool) → (b ≡ true → P) → (b ≡ false → P) → P
by_honesty true f g = f refl
by_honesty false f g = g refl

-- An honest peer is no hostile one.
differs : (key : RunSetup) (p q : ℕ) → honest_of key p ≡ false → honest_of key q ≡ true → q ≢ p
differs key p q h hq e = clash (sym (ap (honest_of key) e ∙ h) ∙ hq)

-- The states to which the lists lead the ends, by their words.
pub reached_by : (key : RunSetup) → IsFit key → (memory words : ℕ → ℕ) (acc : ℕ → List (MemoryOp CallAccess)) → OperationsMade key memory words acc → R_of key memory words acc
reached_by key fit memory words acc (made.starts _ _ _ zeros nulls none) = reaches.starts _ _ _ zeros nulls (λ p. ap (derived_state key p) (none p) ∙ standing_none key p)
reached_by key fit after words next (made.makes memory _ _ acc _ p t k lt may meets leaves g) = let was = reached_by key fit memory words acc k in by_honesty (honest_of key p)
    (λ h. honest_access key memory after words acc next p t (honest_below key p h) h (may.next h) meets leaves g was)
    (λ h. hostile_operation key memory after words acc next p (called t) h (λ q q2 hq. untouched key p q memory after t.access fit lt q2 (differs key p q h hq) may.owned leaves) g was)
reached_by key fit memory now next (made.stores _ words _ acc _ p number k may stored g) =
    honest_store key memory words now acc next p number (honest_below key p may.honest) may stored g (reached_by key fit memory words acc k)
reached_by key fit memory words next (made.loads _ _ acc _ p k may g) = honest_load key memory words acc next p (honest_below key p may.honest) may g (reached_by key fit memory words acc k)
reached_by key fit after words next (made.resets memory _ _ acc _ p k lt stored g) = let was = reached_by key fit memory words acc k in by_honesty (honest_of key p)
    (λ h. honest_reset key memory after words acc next p (honest_below key p h) h stored g was)
    (λ h. hostile_operation key memory after words acc next p restarted h (λ q q2 hq. apart key p q p 0 memory after fit lt q2 (differs key p q h hq) (inr refl) stored) g was)
