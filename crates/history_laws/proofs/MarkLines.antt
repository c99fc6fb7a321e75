-- The line of an access, and the side event of a mark's line.
use Rattle.std.proofs.Common.{◌≡◌, ℕ, List, ◌∷◌, refl}
use Rattle.split_ring.specs.declared.steps.Access.{Access}
use Rattle.split_ring.specs.declared.steps.Access.TheVariants as access
use Rattle.call_grammar.specs.Steps.{Mark, Saw}
use Rattle.link_machine.specs.LinkMachine.{Marked}
use Rattle.lawful_history.specs.declared.line.Line.{Line}
use Rattle.lawful_history.specs.declared.line.Line.TheVariants as line
use Rattle.lawful_history.specs.EventRecords.{mark_line}
use Rattle.history_laws.specs.SideEvents.{HasEvent, line_side_event_of}
use Rattle.history_laws.specs.Reads.{Breaks, reading_of}

-- The line of a mark has the mark as its side event, and empties the list of reads.
pub mark_is : (p : ℕ) (mark : Mark) → (line_side_event_of (mark_line p mark) ≡ HasEvent p (Marked mark)) × (reading_of (mark_line p mark) ≡ Breaks p)
mark_is p (Saw value) = (refl, refl)
mark_is p _ = (refl, refl)

-- The line of the access.
abbrev pub after_access : ℕ → Access → ℕ → List Line → List Line
after_access p (access.Read word) value past = line.Read p word value ∷ past
after_access p (access.Write word written) value past = line.Write p word written ∷ past
after_access p (access.State state) value past = line.State p state ∷ past
after_access p (access.Ring target vector) value past = line.Doorbell p target vector ∷ past
after_access p access.Nothing value past = past
