-- From a reply to the status with which its text is written.
use Rattle.std.proofs.Common.{ℕ, List, refl}
use Rattle.std.specs.Prelude.{Option, IsTrue}
use Rattle.program_edge.specs.declared.exit.Status.{Status}
use Rattle.program_edge.specs.declared.exit.Status.TheVariants.{Done, Refused}
use Rattle.program_edge.specs.Exit.{has_reply}
use Rattle.ivshm_chart.specs.declared.words.Span.{Span}
use Rattle.ivshm_chart.specs.declared.replies.Drawn.{Drawn}
use Rattle.ivshm_chart.specs.Charts.{IsReply}

-- The status of a reply is one with a text.
pub written : (span : Span) (bytes : List ℕ) (status : Status) (text : List ℕ) (drawn : Option Drawn) → IsReply span bytes status text drawn → IsTrue (has_reply status)
written span bytes Done text drawn reply = refl
written span bytes Refused text drawn reply = refl
written span bytes _ text drawn reply = elim reply [ ]
