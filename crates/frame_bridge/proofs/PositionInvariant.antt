-- The invariant of the lines so far at each position. Each row that can follow preserves it.
use Rattle.std.proofs.Common.{◌≡◌, ℕ, ◌<◌, ◌≤◌, List, [], ◌∷◌, ◌++◌, length, get_or, take, map, Some, refl, sym, ap, subst, arith}
use Rattle.std.specs.Prelude.{All, slice_get}
use Rattle.std.proofs.lemmas.Bool.{leb-false}
use Rattle.std.proofs.lemmas.List.{length-append}
use Rattle.std.proofs.lemmas.List.Elements.{All-nil}
use Rattle.line_format.specs.Rows.{Row, row}
use Rattle.line_format.proofs.NumbersFit.{counted, list_1, in_range, one_alone, same_row, the_number, no_number}
use Rattle.line_format.proofs.ListLaws.{all_push}
use Rattle.line_format.proofs.PartLaws.{then_row, rows-push}
use Rattle.line_format.proofs.TestChains.{not_false, not_true, either_false}
use Rattle.line_format.proofs.RowsFollow.{CanFollow}
use Rattle.line_format.proofs.RowTexts.{Keeps, keeps_item, AreKept}
use Rattle.line_format.proofs.FormsOfRows.{same_place}
use Rattle.frame_bridge.specs.declared.limits.TheConstants.{MOST_FRAMES, MOST_ROUNDS}
use Rattle.frame_bridge.specs.declared.scripts.Sent.{Sent}
use Rattle.frame_bridge.specs.declared.forms.Form.{Form}
use Rattle.frame_bridge.specs.declared.forms.Form.TheVariants.{Version, Ports, Rounds, Begin, Frame, End}
use Rattle.frame_bridge.specs.declared.positions.Position.{Position}
use Rattle.frame_bridge.specs.declared.positions.Position.TheVariants.{AtVersion, AtPorts, AtRounds, AtBegin, AtFrames, Ended}
use Rattle.frame_bridge.specs.Table.{pieces_of}
use Rattle.frame_bridge.specs.Spelling.{World, row_of_sent, IsAllowed, IsWorld}
use Rattle.frame_bridge.specs.Judge.{DraftView, world_of_draft, ordinal_of, position_of, rules}

-- ---- the rows before a position

abbrev pub head_rows : DraftView → List (Row Form)
head_rows d = row Version (1 ∷ []) [] ∷ row Ports (d.ports ∷ []) [] ∷ row Rounds (d.rounds ∷ []) [] ∷ row Begin [] [] ∷ []

abbrev pub rows_before : Position → DraftView → List (Row Form)
rows_before AtVersion d = []
rows_before AtPorts d = take 1 (head_rows d)
rows_before AtRounds d = take 2 (head_rows d)
rows_before AtBegin d = take 3 (head_rows d)
rows_before AtFrames d = head_rows d ++ map row_of_sent d.sent
rows_before Ended d = (head_rows d ++ map row_of_sent d.sent) ++ row End [] [] ∷ []

-- ---- the invariant of a position

abbrev pub PositionHolds : Position → DraftView → Type 0
PositionHolds AtVersion d = d.sent ≡ []
PositionHolds AtPorts d = d.sent ≡ []
PositionHolds AtRounds d = (d.sent ≡ []) × (2 ≤ d.ports) × (d.ports ≤ 8)
PositionHolds AtBegin d = (d.sent ≡ []) × (2 ≤ d.ports) × (d.ports ≤ 8) × (d.rounds ≤ MOST_ROUNDS)
PositionHolds AtFrames d = IsWorld (world_of_draft d)
PositionHolds Ended d = IsWorld (world_of_draft d)

-- ---- positions

abbrev pub positions : List Position
positions = AtVersion ∷ AtPorts ∷ AtRounds ∷ AtBegin ∷ AtFrames ∷ Ended ∷ []

pub listed : (s : Position) → slice_get positions (ordinal_of s) ≡ Some s
listed AtVersion = refl
listed _ = refl

-- ---- frames

-- Whether a frame is allowed doesn't depend on the frames.
allowed-push : (w : World) (s : Sent) → All (IsAllowed w) w.sent → IsAllowed w s → All (IsAllowed (record w { sent = w.sent ++ s ∷ [] })) (w.sent ++ s ∷ [])
allowed-push w s all is = all_push (IsAllowed w) (IsAllowed (record w { sent = w.sent ++ s ∷ [] })) (λ t one. record { values = one.values; bytes = one.bytes; range = one.range; size = one.size }) w.sent s all is

abbrev Added : DraftView → Row Form → Type 0
Added d r = Keeps rules (λ x. rows_before x.position x) (λ x. PositionHolds x.position x) d r

-- The row of a frame adds the frame.
keeps_sent : (d : DraftView) → d.position ≡ AtFrames → PositionHolds AtFrames d → (s : Sent) → CanFollow rules d (row_of_sent s) → Added d (row_of_sent s)
keeps_sent d at good s can =
    let below : length d.sent < MOST_FRAMES = leb-false MOST_FRAMES (length d.sent) (not_true _ can.room) in
    let allowed : IsAllowed (world_of_draft d) s = record { values = can.values; bytes = can.bytes; range = can.range; size = can.size } in
    record {
      rows = rw at (rows-push (head_rows d) row_of_sent d.sent s (row_of_sent s) refl);
      good = rw at (record {
        least = good.least;
        most = good.most;
        rounds = good.rounds;
        allowed = allowed-push (world_of_draft d) s good.allowed allowed;
        few = omega (arith, length-append d.sent (s ∷ []), below);
      });
    }

-- ---- each form

adds : (form : Form) (ns frame : List ℕ) (d : DraftView) → d.position ≡ position_of form → PositionHolds (position_of form) d → CanFollow rules d (row form ns frame) → Added d (row form ns frame)
adds Version ns frame d at good can = record { rows = rw at (then_row [] (same_row Version _ ns frame (one_alone ns can.values) (sym can.bytes))); good = good }
adds Ports ns frame d at good can = record { rows = rw at (then_row (rows_before AtPorts d) (the_number Ports _ _ ns frame can.values can.bytes)); good = (good, (in_range 2 8 [] ns can.values).0, (in_range 2 8 [] ns can.values).1) }
adds Rounds ns frame d at good can = record { rows = rw at (then_row (rows_before AtRounds d) (the_number Rounds _ _ ns frame can.values can.bytes)); good = (good.0, good.1, good.2, (in_range 0 MOST_ROUNDS [] ns can.values).1) }
adds Begin ns frame d at good can = record {
  rows = rw (at, good.0) (then_row (rows_before AtBegin d) (no_number Begin ns frame can.values can.bytes));
  good = record { least = good.1; most = good.2; rounds = good.3; allowed = rw good.0 (All-nil _); few = rw good.0 (omega arith) };
}
adds Frame ns frame d at good can =
    let one = list_1 ns (counted (pieces_of Frame) ns can.values) in
    keeps_item rules d row_of_sent (row Frame ns frame) (record { item = record { port = get_or ns 0 0; frame = frame }; row_is = ap (λ (ms : List ℕ). row Frame ms frame) one }) (keeps_sent d at good) can
adds End ns frame d at good can = record { rows = rw at (then_row (head_rows d ++ map row_of_sent d.sent) (no_number End ns frame can.values can.bytes)); good = good }

-- A row that can follow preserves the invariant, and adds its line.
pub are_kept : AreKept rules (λ d. rows_before d.position d) (λ d. PositionHolds d.position d)
are_kept d r can good =
    let at = same_place positions ordinal_of listed (position_of r.form) d.position (not_false _ (either_false _ _ can.order).0) in
    adds r.form r.numbers r.frame d at (subst (λ (p : Position). PositionHolds p d) at good) can
