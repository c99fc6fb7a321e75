-- From a reply and how it was written to the cause of a status.
use Rattle.std.proofs.Common.{◌≡◌, ℕ, List, inl, inr, refl, sym, subst}
use Rattle.std.specs.Prelude.{Some, IsTrue, ◌⊎◌}
use Rattle.ivs_base.specs.SourceAndSink.{Input, Output, Took, SinkFailed}
use Rattle.program_edge.specs.declared.words.Command.{Command}
use Rattle.program_edge.specs.declared.exit.Status.{Status}
use Rattle.program_edge.specs.declared.exit.Status.TheVariants.{Done, Differs, Refused, WriteFault}
use Rattle.program_edge.specs.Exit.{has_reply}
use Rattle.program_edge.specs.Words.{limit_of}
use Rattle.program_edge.specs.Inputs.{HasReadToTheEnd}
use Rattle.ivshm_explain.specs.Explained.{IsReply, HasCause}

-- the status of a reply is one with a text
pub written : (form : Command) (bytes text : List ℕ) (status : Status) → IsReply form bytes status text → IsTrue (has_reply status)
written form bytes text Done reply = refl
written form bytes text Differs reply = refl
written form bytes text Refused reply = refl
written form bytes text _ reply = elim reply [ ]

module _ (form : Command) (before now : Input) (before' now' : Output) (bytes text : List ℕ) (read : HasReadToTheEnd (limit_of form) before now bytes) where
  -- a reply that was written whole
  whole : (status : Status) → IsReply form bytes status text → Took before' text now' → HasCause status (Some form) before now before' now'
  whole Done reply wrote = record { bytes = bytes; text = text; read = read; reply = reply; wrote = wrote }
  whole Differs reply wrote = record { bytes = bytes; text = text; read = read; reply = reply; wrote = wrote }
  whole Refused reply wrote = inl (record { bytes = bytes; text = text; read = read; reply = reply; wrote = wrote })
  whole _ reply wrote = elim reply [ ]

  -- A reply of which all was written, or a part.
  pub replied : (status result : Status) → IsReply form bytes status text → (result ≡ status) ⊎ (result ≡ WriteFault) → (IsTrue (has_reply result) → Took before' text now')
      → (result ≡ WriteFault → SinkFailed before' now') → HasCause result (Some form) before now before' now'
  replied status result reply cases all part =
      elim cases [
        | inl same ↦ subst (λ (s : Status). HasCause s (Some form) before now before' now') (sym same)
            (whole status reply (all (subst (λ (s : Status). IsTrue (has_reply s)) (sym same) (written form bytes text status reply))))
        | inr fault ↦ subst (λ (s : Status). HasCause s (Some form) before now before' now') (sym fault) (part fault)
      ]
