-- The key of a table, and the link's configuration of its link.
use Rattle.std.proofs.Common.{◌≡◌, ◌≢◌, ℕ, zero, suc, ◌+◌, ◌*◌, ◌<◌, ◌≤◌, ◌⊎◌, inl, inr, ⊎_elim, Bool, true, false, refl, sym, ap, ◌∙◌, arith, ne_eqb}
use Rattle.std.specs.Prelude.{◌==◌, if◌then◌else◌}
use Rattle.std.proofs.Math.Nat.{mul-le-mul_right}
use Rattle.section_map.specs.Geometry.{Shape, section_start, word_count}
use Rattle.section_map.specs.MayWrite.{MayWrite}
use Rattle.link_invariant.specs.LinkConfig.{IsLinkConfig, section_of, config_of}
use Rattle.link_invariant.specs.Steps.{Stored, IsUntouched}
use Rattle.shared_words.specs.declared.run_setup.RunSetup.{RunSetup}
use Rattle.shared_words.specs.RunSetups.{config_in, link_config_of, honest_of, IsFit}

-- A link peer is the same one on the link's configuration.
pub same_section : (key : RunSetup) (p : ℕ) → p < 2 → section_start key.geometry p ≡ section_of (link_config_of key) p
same_section key zero p2 = omega arith
same_section key (suc zero) p2 = omega arith
same_section key (suc (suc p)) p2 = absurd (omega arith)

pub same_config : (key : RunSetup) (p : ℕ) → p < 2 → config_in key p ≡ config_of (link_config_of key) p
same_config key zero p2 = let a = same_section key 0 (omega arith) in let b = same_section key 1 (omega arith) in λ i. record (config_in key 0) { own = a i; other_start = b i }
same_config key (suc zero) p2 = let a = same_section key 0 (omega arith) in let b = same_section key 1 (omega arith) in λ i. record (config_in key 1) { own = b i; other_start = a i }
same_config key (suc (suc p)) p2 = absurd (omega arith)

pub is_link_config : (key : RunSetup) → IsFit key → IsLinkConfig (link_config_of key)
is_link_config key fit = record { queue = fit.queue; words = fit.out; first = let page = fit.shape.table_page in omega arith }

abbrev number : Bool → ℕ
number true = 1
number false = 0

pub clash : false ≡ true → ⊥
clash e = let h : number false ≡ number true = ap number e in omega arith

-- An honest peer is one of the link.
honest_none : (key : RunSetup) (p : ℕ) → p ≢ 0 → p ≢ 1 → honest_of key p ≡ false
honest_none key p one other = ap (λ (b : Bool). if b then key.first_is_honest else (if p == 1 then key.second_is_honest else false)) (ne_eqb p 0 one)
    ∙ ap (λ (b : Bool). if b then key.second_is_honest else false) (ne_eqb p 1 other)

pub honest_below : (key : RunSetup) (p : ℕ) → honest_of key p ≡ true → p < 2
honest_below key zero is = omega arith
honest_below key (suc zero) is = omega arith
honest_below key (suc (suc p)) is = absurd (clash (sym (honest_none key (suc (suc p)) (λ e. omega arith) (λ e. omega arith)) ∙ is))

-- The sections of two peers share no word.
abbrev pub Apart : Shape → ℕ → ℕ → Type 0
Apart g p q = (section_start g p + g.out ≤ section_start g q) ⊎ (section_start g q + g.out ≤ section_start g p)

below : (g : Shape) (p q : ℕ) → p < q → section_start g p + g.out ≤ section_start g q
below g p q lt = let h : (p + 1) * g.out ≤ q * g.out = mul-le-mul_right g.out (omega arith) in omega arith

pub apart_sections : (g : Shape) (p q : ℕ) → (p < q) ⊎ (q < p) → Apart g p q
apart_sections g p q (inl lt) = inl (below g p q lt)
apart_sections g p q (inr lt) = inr (below g q p lt)

-- A section ends in the region.
pub section_ends : (g : Shape) (p : ℕ) → p < g.peers → section_start g p + g.out ≤ word_count g
section_ends g p lt = let h : (p + 1) * g.out ≤ g.peers * g.out = mul-le-mul_right g.out (omega arith) in omega arith

-- A word that a peer stores in, or its state word, is one of the region.
pub within : (key : RunSetup) (p w : ℕ) → IsFit key → p < key.geometry.peers → MayWrite key.geometry p w ⊎ (w ≡ p) → w < word_count key.geometry
within key p w fit lt (inr e) = let states = fit.shape.states in omega arith
within key p w fit lt (inl (inr h)) = let high = h.1 in omega arith
within key p w fit lt (inl (inl h)) = let high = h.1 in let ends = section_ends key.geometry p lt in omega arith

-- And no word of another link peer.
pub apart : (key : RunSetup) (p q w n : ℕ) (memory after : ℕ → ℕ) → IsFit key → p < key.geometry.peers → q < 2 → q ≢ p → MayWrite key.geometry p w ⊎ (w ≡ p) → Stored memory after w n → IsUntouched (link_config_of key) memory after q
apart key p q w n memory after fit lt q2 ne own st = let page = fit.shape.table_page in let states = fit.shape.states in record {
  state = st.neighbour_word q (λ e. ⊎_elim (λ o. ⊎_elim (λ h. let low = h.0 in omega arith) (λ h. let low = h.0 in omega arith) o) (λ h. ne (e ∙ h)) own);
  section = λ j below. st.neighbour_word (section_of (link_config_of key) q + j) (λ e. ⊎_elim (λ o. ⊎_elim (λ h. sections j below (sym e) h.0 h.1) (λ h. let high = h.1 in let s = same_section key q q2 in omega arith) o) (λ h. let s = same_section key q q2 in omega arith) own);
}
  where
    order : (p q : ℕ) → q ≢ p → (p < q) ⊎ (q < p)
    order zero zero ne = absurd (ne refl)
    order zero (suc q) ne = inl (omega arith)
    order (suc p) zero ne = inr (omega arith)
    order (suc p) (suc q) ne = ⊎_elim (λ h. inl (omega arith)) (λ h. inr (omega arith)) (order p q (λ e. ne (ap suc e)))

    sections : (j : ℕ) → j < key.geometry.out → w ≡ section_of (link_config_of key) q + j → section_start key.geometry p ≤ w → w < section_start key.geometry p + key.geometry.out → ⊥
    sections j below is low high = let s = same_section key q q2 in ⊎_elim (λ a. omega arith) (λ a. omega arith) (apart_sections key.geometry p q (order p q ne))
