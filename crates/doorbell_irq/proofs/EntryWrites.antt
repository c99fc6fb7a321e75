-- A write to an entry of the MSI-X table.
use Rattle.std.proofs.Common.{◌≡◌, ◌≢◌, ℕ, ◌<◌, ◌≤◌, List, length, get_or, set, Some, None, sym, ◌∙◌, ap, subst, inl, inr, eq-eqb, arith}
use Rattle.std.specs.Prelude.{◌==◌, if◌then◌else◌, Result, Ok, Err, IsOk, OnOk, Option, slice_index, slice_get}
use Rattle.std.proofs.lemmas.Bool.{ne_eqb}
use Rattle.std.proofs.lemmas.Option.{slice_get-get_or, slice_get_within}
use Rattle.pci_space.specs.Fields.{Contents, merged_byte}
use Rattle.doorbell_irq.specs.DeviceRules.{Write}
use Rattle.doorbell_irq.specs.Registers.{IsWritten}
use Rattle.doorbell_irq.proofs.Lists.{slice_get-same, slice_get-set_same, slice_get-set_other, nat_cases}

-- The property of an Ok result, if the result is Ok.
pub on_ok : {T E P : Type 0} (r : Result T E) → IsOk r → OnOk r P → P
on_ok (Ok x) ok holds = holds
on_ok (Err e) ok holds = cc

module _ (entries : List Contents) (n : ℕ) where
  -- A space that is left alone.
  same_space : (offset value k : ℕ) (before after : Contents) → k ≢ n → slice_get entries k ≡ Some before → slice_get entries k ≡ Some after →
      IsWritten (if n == k then Some (record { offset = offset; width = 4; value = value }) else None) before after
  same_space offset value k before after apart one other =
      let is : before ≡ after = slice_get-same entries k before after one other in
      subst (λ (write : Option Write). IsWritten write before after)
      (sym (ap (λ b. if b then Some (record { offset = offset; width = 4; value = value }) else None) (ne_eqb n k (λ same. apart (sym same)))))
      (record { rows = ap (λ (s : Contents). s.rows) (sym is); bytes = λ i. ap (λ (s : Contents). slice_index s.bytes i) (sym is) })

  -- The entries, if none has the number.
  pub entry_left : (offset value : ℕ) → length entries ≤ n → (k : ℕ) (before after : Contents) → slice_get entries k ≡ Some before → slice_get entries k ≡ Some after →
      IsWritten (if n == k then Some (record { offset = offset; width = 4; value = value }) else None) before after
  entry_left offset value past k before after one other =
      let inside = slice_get_within entries k before one in
      same_space offset value k before after (λ same. absurd (omega arith)) one other

  -- The entries after the write.
  pub entry_set : (d entry : Contents) (offset value : ℕ) → n < length entries → entry.rows ≡ (get_or entries n d).rows →
      ((i : ℕ) → slice_index entry.bytes i ≡ merged_byte (get_or entries n d).rows offset 4 value i (slice_index (get_or entries n d).bytes i)) →
      (k : ℕ) (before after : Contents) → slice_get entries k ≡ Some before → slice_get (set entries n entry) k ≡ Some after →
      IsWritten (if n == k then Some (record { offset = offset; width = 4; value = value }) else None) before after
  entry_set d entry offset value inside rows bytes k before after one other = elim (nat_cases k n) [
    | inl same ↦ (
        let was : get_or entries n d ≡ before =
        slice_get-same entries n (get_or entries n d) before (slice_get-get_or entries n d inside) (ap (slice_get entries) (sym same) ∙ one) in
        let is : entry ≡ after =
        slice_get-same (set entries n entry) n entry after (slice_get-set_same entries n entry inside) (ap (slice_get (set entries n entry)) (sym same) ∙ other) in
        subst (λ (write : Option Write). IsWritten write before after)
        (sym (ap (λ b. if b then Some (record { offset = offset; width = 4; value = value }) else None) (eq-eqb n k (sym same))))
        (record {
          rows = ap (λ (s : Contents). s.rows) (sym is) ∙ rows ∙ ap (λ (s : Contents). s.rows) was;
          bytes = λ i. ap (λ (s : Contents). slice_index s.bytes i) (sym is) ∙ bytes i
              ∙ ap (λ (s : Contents). merged_byte s.rows offset 4 value i (slice_index s.bytes i)) was;
        })
        )
    | inr apart ↦ same_space offset value k before after apart one (sym (slice_get-set_other entries n k entry apart) ∙ other)
  ]
