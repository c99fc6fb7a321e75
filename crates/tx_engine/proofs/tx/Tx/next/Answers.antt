use Rattle.std.proofs.Common.{◌+◌, ◌-◌, ◌%◌, ap, sym, ◌∙◌, subst}
use Rattle.split_ring.specs.declared.steps.Access.TheVariants.{Read, Write}
use Rattle.split_ring.specs.Layout.{word_offset, AvailEntry, UsedId, size_of}
use Rattle.tx_engine.specs.Sender.{Sender, entry_word_of}
use Rattle.tx_engine.specs.Refinement.{RefinesAt}
use Rattle.tx_engine.proofs.Accesses.{at_here, id_access, entry_access}
use Rattle.tx_engine.proofs.tx.Tx.next.Goals as goal

pub returns-in-ReadingUsedId-clause-access : goal.returns-in-ReadingUsedId-clause-access
returns-in-ReadingUsedId-clause-access c config end place refines =
    let t = c.self.inside in
    let here = subst (λ (s : Sender). RefinesAt s config end place) (sym c.self.view_is) refines in
    let read = id_access _ config end place c.in-ReadingUsedId.more c.self.invariant.sender here.made (at_here _ _ config end place c.in-ReadingUsedId.is here) in
    let freed = c.freed.ensures ∙ ap (λ (s : Sender). (s.accepted + 65536 - s.in_flight) % 65536) (sym c.self.view_is) in
    let word = c.used_id.ensures.place ∙ ap (λ n. word_offset t.queue (UsedId (n % size_of t.queue))) (c.from.ensures ∙ freed) in
    c.read-in-ReadingUsedId.ensures ∙ (ap (λ (s : Sender). Read (s.other_start + c.used_id.result)) (sym c.self.view_is) ∙ (ap (λ n. Read (t.other_start + n)) word ∙ read))

pub returns-in-WritingAvailEntry-clause-access : goal.returns-in-WritingAvailEntry-clause-access
returns-in-WritingAvailEntry-clause-access c config end place refines =
    let t = c.self.inside in
    let here = subst (λ (s : Sender). RefinesAt s config end place) (sym c.self.view_is) refines in
    let write = entry_access _ config end place c.in-WritingAvailEntry.slot c.self.invariant.sender here.made (at_here _ _ config end place c.in-WritingAvailEntry.is here) in
    let at = c.entry_word-entry.ensures.place ∙ ap (λ n. word_offset t.queue (AvailEntry (n % size_of t.queue))) c.from-in-WritingAvailEntry.ensures in
    let word = c.entry_word.ensures ∙ ap (λ (s : Sender). entry_word_of s c.in-WritingAvailEntry.slot.descriptor) (sym c.self.view_is) in
    c.write-in-WritingAvailEntry.ensures ∙ (ap (λ (s : Sender). Write (s.own + c.entry_word-entry.result) c.entry_word.result) (sym c.self.view_is)
    ∙ (ap (λ n. Write (t.own + n) c.entry_word.result) at ∙ (ap (Write (t.own + word_offset t.queue (AvailEntry (t.accepted % size_of t.queue)))) word ∙ write)))
