use Rattle.std.proofs.Common.{◌≡◌, ◌+◌, ◌-◌, ◌%◌, List, [], ◌∷◌, ◌++◌, ap, sym, ◌∙◌, subst, arith}
use Rattle.ivs_base.specs.Numbers.{distance}
use Rattle.split_ring.specs.Ranges.{IsUsedIndex}
use Rattle.split_ring.specs.declared.steps.Note.{Note}
use Rattle.split_ring.specs.declared.steps.Note.TheVariants.{Reclaim}
use Rattle.tx_engine.specs.Sender.{Sender}
use Rattle.tx_engine.specs.Continuations.{GoesOn, full_notes}
use Rattle.tx_engine.specs.Refinement.{TakesStep}
use Rattle.tx_engine.proofs.InvariantAfterRead.{seen_written, index_kept}
use Rattle.tx_engine.proofs.Fields.{index_step}
use Rattle.tx_engine.proofs.tx.Tx.took_index.Goals as goal

pub returns-in-Ok : goal.returns-in-Ok
returns-in-Ok c =
    let here = ap (λ (s : Sender). s.place) c.self.view_is ∙ c.requires.place in
    let first : c.push.new.self.items ≡ Reclaim c.in-Ok.count ∷ [] = c.push.ensures.items ∙ ap (λ (n : List Note). n ++ Reclaim c.in-Ok.count ∷ []) c.requires.empty in
    let notes_are : c.note_full.new.notes.items ≡ Reclaim c.in-Ok.count ∷ full_notes c.offer_after_ids-self-inside.result =
    c.note_full.ensures ∙ ap (λ (n : List Note). n ++ full_notes c.offer_after_ids-self-inside.result) first in
    let freed = c.freed-freed.ensures ∙ ap (λ (s : Sender). (s.accepted + 65536 - s.in_flight) % 65536) (sym c.self.view_is) in
    let on = subst (λ l. GoesOn c.self.inside.slots l c.self.inside.length c.in-Ok.count c.offer_after_ids-self-inside.result c.offer_after_ids-self-inside.new.slots c.offer_after_ids-self-inside.new.lengths)
    c.deref_mut.ensures.value c.offer_after_ids-self-inside.ensures in
    let sized = c.offer_after_ids-self-inside.auto.lengths ∙ c.deref_mut.ensures.len in
    let index = c.high_half-index.ensures in
    let within = subst (λ n. IsUsedIndex c.freed-freed.result n c.in_flight-in_flight.result) index c.in-Ok.ensures.inside.0 in
    let count = c.in-Ok.ensures.inside.1 ∙ ap (λ n. distance c.freed-freed.result n) index in
    subst (TakesStep c.args.self.now c.args.value c.note_full.new.notes.items) (seen_written c.self.inside c.offer_after_ids-self-inside.result c.offer_after_ids-self-inside.new.slots c.offer_after_ids-self-inside.new.lengths sized)
    (index_step c.self.inside _ c.args.value c.in-Ok.count _ _ _ _ _ _ c.self.view_is c.self.invariant here freed c.in_flight-in_flight.ensures.count within count on notes_are)

pub invariant_of-self : goal.invariant_of-self
invariant_of-self c =
    let t = c.self.inside in
    let here = ap (λ (s : Sender). s.place) c.self.view_is ∙ c.requires.place in
    let on = subst (λ l. GoesOn t.slots l t.length c.in-Ok.count c.offer_after_ids-self-inside.result c.offer_after_ids-self-inside.new.slots c.offer_after_ids-self-inside.new.lengths)
    c.deref_mut.ensures.value c.offer_after_ids-self-inside.ensures in
    let within = c.in-Ok.ensures.inside.0 in
    let count = c.in-Ok.ensures.inside.1 in
    let all = c.in_flight-in_flight.ensures.count in
    index_kept t c.in-Ok.count _ _ _ (c.offer_after_ids-self-inside.auto.lengths ∙ c.deref_mut.ensures.len) c.self.invariant here (omega (arith, within, count, all)) on
