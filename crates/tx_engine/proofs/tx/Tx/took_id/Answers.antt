use Rattle.std.proofs.Common.{◌≡◌, List, ◌++◌, slice_index, ap, sym, ◌∙◌, subst, arith}
use Rattle.split_ring.specs.declared.steps.Note.{Note}
use Rattle.frame_slots.specs.Allocator.{with_freed, oldest_of}
use Rattle.frame_slots.specs.Refinement.{IsOldest}
use Rattle.tx_engine.specs.declared.place.Place.TheVariants.{ReadingUsedId}
use Rattle.tx_engine.specs.Sender.{Sender, allocator_of}
use Rattle.tx_engine.specs.Representation.{sender_of}
use Rattle.tx_engine.specs.Continuations.{GoesOn, full_notes}
use Rattle.tx_engine.proofs.Flights.{oldest_is_kept}
use Rattle.tx_engine.proofs.InvariantAfterRead.{oldest_read, seen_written, id_kept}
use Rattle.tx_engine.specs.Refinement.{TakesStep}
use Rattle.tx_engine.proofs.Fields.{place_holds, turn_is, id_step, id_refusal}
use Rattle.tx_engine.proofs.tx.Tx.took_id.Goals as goal

pub returns-in-Err : goal.returns-in-Err
returns-in-Err c =
    let here = ap (λ (s : Sender). s.place) c.self.view_is ∙ c.requires.place in
    subst (λ (s : Sender). TakesStep c.args.self.now c.args.id c.refuses.new.notes.items s) (sym c.refuses.ensures.value)
    (id_refusal c.self.inside _ c.args.more c.args.id c.oldest-oldest.result c.in-Err.refused _ c.self.view_is c.self.invariant here c.oldest-oldest.ensures c.in-Err.ensures.outside.0 c.in-Err.ensures.outside.1 c.refuses.ensures.note)

pub returns : goal.returns
returns c =
    let here = ap (λ (s : Sender). s.place) c.self.view_is ∙ c.requires.place in
    let notes_are : c.note_full.new.notes.items ≡ full_notes c.offer_after_ids-self-inside.result =
    c.note_full.ensures ∙ ap (λ (n : List Note). n ++ full_notes c.offer_after_ids-self-inside.result) c.requires.empty in
    let t = c.self.inside in
    let kept = oldest_read t c.self.invariant c.oldest-oldest.result c.index.result.now c.oldest-oldest.ensures c.index.ensures in
    let on = subst (λ l. GoesOn c.free.new.self l t.length c.args.more c.offer_after_ids-self-inside.result c.offer_after_ids-self-inside.new.slots c.offer_after_ids-self-inside.new.lengths)
    c.deref_mut.ensures.value c.offer_after_ids-self-inside.ensures in
    let sized = c.offer_after_ids-self-inside.auto.lengths ∙ c.deref_mut.ensures.len in
    subst (TakesStep c.args.self.now c.args.id c.note_full.new.notes.items) (seen_written t c.offer_after_ids-self-inside.result c.offer_after_ids-self-inside.new.slots c.offer_after_ids-self-inside.new.lengths sized)
    (id_step t _ c.args.more c.args.id c.oldest-oldest.result c.free.new.self _ _ _ _ c.self.view_is c.self.invariant here c.oldest-oldest.ensures c.in_default.ensures.inside
    (c.free.ensures ∙ ap (with_freed t.slots) kept) on notes_are)

pub free-requires : goal.free-requires
free-requires c =
    let t = c.self.inside in
    let here = ap (λ (s : Sender). s.place) c.self.view_is ∙ c.requires.place in
    let some = (place_holds t (ReadingUsedId c.args.more) c.self.invariant here).0 in
    let kept = oldest_read t c.self.invariant c.oldest-oldest.result c.index.result.now c.oldest-oldest.ensures c.index.ensures in
    subst (IsOldest t.slots) (ap (slice_index t.lengths.items) (sym c.oldest-oldest.ensures) ∙ sym kept)
    (subst (λ u. IsOldest u (slice_index t.lengths.items (oldest_of u))) (sym (turn_is t c.self.invariant)) (oldest_is_kept (allocator_of (sender_of t)) t.lengths.items c.self.invariant.sender.flight (omega (arith, some))))

pub invariant_of-self : goal.invariant_of-self
invariant_of-self c =
    let t = c.self.inside in
    let here = ap (λ (s : Sender). s.place) c.self.view_is ∙ c.requires.place in
    let kept = oldest_read t c.self.invariant c.oldest-oldest.result c.index.result.now c.oldest-oldest.ensures c.index.ensures in
    let on = subst (λ l. GoesOn c.free.new.self l t.length c.args.more c.offer_after_ids-self-inside.result c.offer_after_ids-self-inside.new.slots c.offer_after_ids-self-inside.new.lengths)
    c.deref_mut.ensures.value c.offer_after_ids-self-inside.ensures in
    id_kept t c.args.more c.free.new.self _ _ _ (c.offer_after_ids-self-inside.auto.lengths ∙ c.deref_mut.ensures.len) c.self.invariant here (c.free.ensures ∙ ap (with_freed t.slots) (kept ∙ ap (slice_index t.lengths.items) c.oldest-oldest.ensures)) on
