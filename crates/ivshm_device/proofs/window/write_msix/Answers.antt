use Rattle.std.proofs.Common.{refl, sym, subst, ◌≡◌, ◌+◌, ◌%◌, ℕ, [], ◌∷◌, ◌++◌}
use Rattle.doorbell_irq.specs.Events.{MsixWritten}
use Rattle.doorbell_irq.specs.Refinement.{Refines}
use Rattle.ivshm_device.specs.Windows.{msix_events, low_word, high_word}
use Rattle.ivshm_device.proofs.window.write_msix.Goals as goal

-- Eight aligned bytes are two words, the lower one first.
pair_events : (peer offset width value : ℕ) → width ≡ 8 → offset % 8 ≡ 0 →
    msix_events peer offset width value ≡ MsixWritten peer (offset + 4) (high_word value) ∷ MsixWritten peer offset (low_word value) ∷ []
pair_events peer offset width value wide whole = rw (wide, whole) refl

pub returns-then-width-eq4 : goal.returns-then-width-eq4
returns-then-width-eq4 c w events refines =
    subst (λ width. Refines w (msix_events c.args.peer c.args.offset width c.args.value ++ events) c.msix_write.new.self) (sym c.if-width-eq4.true)
    (subst (λ v. Refines w (MsixWritten c.args.peer c.args.offset v ∷ events) c.msix_write.new.self) c.low_word.ensures (c.msix_write.ensures.refines w events refines))

pub returns-then-offset-eq0 : goal.returns-then-offset-eq0
returns-then-offset-eq0 c w events refines =
    subst (λ more. Refines w (more ++ events) c.msix_write-then-offset-eq0-2.new.self)
    (sym (pair_events c.args.peer c.args.offset c.args.width c.args.value c.if-width-eq8.true c.if-offset-eq0.true))
    (subst (λ v. Refines w (MsixWritten c.args.peer (c.args.offset + 4) v ∷ MsixWritten c.args.peer c.args.offset (low_word c.args.value) ∷ events)
    c.msix_write-then-offset-eq0-2.new.self) c.high_word.ensures
    (c.msix_write-then-offset-eq0-2.ensures.refines w (MsixWritten c.args.peer c.args.offset (low_word c.args.value) ∷ events)
    (subst (λ v. Refines w (MsixWritten c.args.peer c.args.offset v ∷ events) c.msix_write-then-offset-eq0.new.self) c.low_word-then-offset-eq0.ensures
    (c.msix_write-then-offset-eq0.ensures.refines w events refines))))
