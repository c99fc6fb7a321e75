-- The rows of a run follow one another up to its end.
use Rattle.std.proofs.Common.{◌<◌, List, [], ◌∷◌, length, refl, ap, subst, arith}
use Rattle.std.specs.Prelude.{All}
use Rattle.std.proofs.lemmas.Bool.{lt-leb}
use Rattle.std.proofs.lemmas.List.{length-append}
use Rattle.line_format.specs.Rows.{Row, row}
use Rattle.line_format.proofs.PartLaws.{no_rule}
use Rattle.line_format.proofs.ListLaws.{all_at}
use Rattle.line_format.proofs.LawsOfTexts.{IsForward}
use Rattle.line_format.proofs.RowTexts.{Along, EachJoins, Reaches, mapped_reach, rows_forward}
use Rattle.frame_bridge.specs.declared.limits.TheConstants.{MOST_FRAMES}
use Rattle.frame_bridge.specs.declared.scripts.Sent.{Sent}
use Rattle.frame_bridge.specs.declared.forms.Form.{Form}
use Rattle.frame_bridge.specs.declared.forms.Form.TheVariants.{Version, Ports, Rounds, Begin, End}
use Rattle.frame_bridge.specs.declared.positions.Position.TheVariants.{AtFrames, Ended}
use Rattle.frame_bridge.specs.Spelling.{World, row_of_sent, IsAllowed, IsWorld, rows_of, IsSpelling, line_count}
use Rattle.frame_bridge.specs.Judge.{DraftView, at_start, rules, machine, sense}
use Rattle.frame_bridge.proofs.FormsAreTable.{is_table}

-- ---- the head

-- At the frames of this run, after these.
abbrev pub at_frames : World → List Sent → DraftView
at_frames w front = record { position = AtFrames; ports = w.ports; rounds = w.rounds; sent = front }

abbrev head : World → List (Row Form)
head w = row Version (1 ∷ []) [] ∷ row Ports (w.ports ∷ []) [] ∷ row Rounds (w.rounds ∷ []) [] ∷ row Begin [] [] ∷ []

head_along : (w : World) → IsWorld w → Along rules at_start (head w) (at_frames w [])
head_along w is =
    let least = is.least in
    let most = is.most in
    let rounds = is.rounds in (
      record { values = (omega arith, omega arith, tt); bytes = refl; order = no_rule _; range = refl; peer = refl; size = refl; sizes = refl; room = refl },
      refl,
      (
        record { values = (least, most, tt); bytes = refl; order = no_rule _; range = refl; peer = refl; size = refl; sizes = refl; room = refl },
        refl,
        (
          record { values = (omega arith, rounds, tt); bytes = refl; order = no_rule _; range = refl; peer = refl; size = refl; sizes = refl; room = refl },
          refl,
          (record { values = tt; bytes = refl; order = refl; range = refl; peer = refl; size = refl; sizes = refl; room = refl }, refl, refl),
        ),
      ),
    )

-- ---- the frames

sent_joins : (w : World) → IsWorld w → EachJoins rules (at_frames w) (λ k s. row_of_sent s) w.sent
sent_joins w is front rest s all =
    let here = all_at (IsAllowed w) front rest s (subst (λ (sent : List Sent). All (IsAllowed w) sent) all is.allowed) in
    let below : length front < MOST_FRAMES = omega (arith, ap length all, length-append front (s ∷ rest), is.few) in
    record {
      follows = record { values = here.values; bytes = here.bytes; order = no_rule _; range = here.range; peer = refl; size = here.size; sizes = refl; room = rw (lt-leb MOST_FRAMES (length front) below) refl };
      gives = refl;
      continues = refl;
    }

-- ---- the whole text

abbrev pub at_end : World → DraftView
at_end w = record { position = Ended; ports = w.ports; rounds = w.rounds; sent = w.sent }

-- The rows of a run lead to its end.
spelled_reaches : (w : World) → IsWorld w → Reaches rules at_start (rows_of w) (at_end w)
spelled_reaches w is =
    mapped_reach rules at_start (head w) (at_frames w) row_of_sent w.sent (row End [] []) (at_end w) (head_along w is) (sent_joins w is)
    (record { values = tt; bytes = refl; order = refl; range = refl; peer = refl; size = refl; sizes = refl; room = refl }) refl refl

pub is_forward : IsForward machine sense IsSpelling line_count
is_forward = rows_forward rules sense rows_of IsWorld at_end is_table spelled_reaches (λ w is. refl)
