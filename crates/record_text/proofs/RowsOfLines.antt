-- Rows of history lines: each form's row is a line's, and back.
use Rattle.std.proofs.Common.{◌≡◌, ℕ, true, List, [], ◌∷◌, get_or, Some, None, refl, sym, ap}
use Rattle.line_format.specs.Forms.{Fit, FitBytes}
use Rattle.line_format.specs.Rows.{row}
use Rattle.line_format.proofs.NumbersFit.{counted, list_1, list_2, list_3, list_4}
use Rattle.lawful_history.specs.declared.line.Line.{Line}
use Rattle.lawful_history.specs.declared.line.Line.TheVariants as lines
use Rattle.split_ring.specs.declared.ranges.FieldName.{FieldName}
use Rattle.split_ring.specs.declared.ranges.FieldName.TheVariants as names
use Rattle.record_text.specs.declared.forms.LineForm.{LineForm}
use Rattle.record_text.specs.declared.forms.LineForm.TheVariants.{Read, Write, Denied, State, Doorbell, Interrupt, Lost, Reset, Idle, ConfigRead, ConfigWrite, RegisterRead, RegisterWrite, MsixRead, MsixWrite, Saw, Reclaim, Look, Full, Done, Over, Down, Accept, Deliver, Return, RefuseAvailIndex, RefuseAvailEntry, RefuseDescAddress, RefuseDescLength, RefuseDescFlags, RefuseUsedIndex, RefuseUsedId, Session, Count}
use Rattle.lawful_history.specs.Frames.{has_frame}
use Rattle.record_text.specs.Table.{pieces_of}
use Rattle.record_text.specs.LineRows.{refuse_form, row_of_line, entry_of, is_frame}

refusal-row : (field : FieldName) (peer value : ℕ) → entry_of (refuse_form field) (peer ∷ value ∷ []) [] ≡ Some (lines.Refuse peer (record { field = field; value = value }))
refusal-row names.AvailIndex peer value = refl
refusal-row _ peer value = refl

-- A line is the line of its row.
pub entry_of-row : (line : Line) → entry_of (row_of_line line).form (row_of_line line).numbers (row_of_line line).frame ≡ Some line
entry_of-row (lines.Read peer word value) = refl
entry_of-row (lines.Write peer word value) = refl
entry_of-row (lines.Denied peer word) = refl
entry_of-row (lines.State peer value) = refl
entry_of-row (lines.Doorbell peer target vector) = refl
entry_of-row (lines.Interrupt peer vector) = refl
entry_of-row (lines.Lost peer vector) = refl
entry_of-row (lines.Reset peer) = refl
entry_of-row (lines.Idle peer) = refl
entry_of-row (lines.ConfigRead peer offset width value) = refl
entry_of-row (lines.ConfigWrite peer offset width value) = refl
entry_of-row (lines.RegisterRead peer offset value) = refl
entry_of-row (lines.RegisterWrite peer offset value) = refl
entry_of-row (lines.MsixRead peer offset value) = refl
entry_of-row (lines.MsixWrite peer offset value) = refl
entry_of-row (lines.Saw peer value) = refl
entry_of-row (lines.Reclaim peer count) = refl
entry_of-row (lines.Look peer count) = refl
entry_of-row (lines.Full peer) = refl
entry_of-row (lines.Done peer) = refl
entry_of-row (lines.Over peer) = refl
entry_of-row (lines.Down peer) = refl
entry_of-row (lines.Accept peer frame) = refl
entry_of-row (lines.Deliver peer frame) = refl
entry_of-row (lines.Return peer) = refl
entry_of-row (lines.Refuse peer refused) = refusal-row refused.field peer refused.value
entry_of-row (lines.Session peer opened other) = refl

refusal_frame : (field : FieldName) → is_frame (refuse_form field) [] ≡ true
refusal_frame names.AvailIndex = refl
refusal_frame _ = refl

pub frame_is : (line : Line) → is_frame (row_of_line line).form (row_of_line line).frame ≡ has_frame line
frame_is (lines.Read peer word value) = refl
frame_is (lines.Write peer word value) = refl
frame_is (lines.Denied peer word) = refl
frame_is (lines.State peer value) = refl
frame_is (lines.Doorbell peer target vector) = refl
frame_is (lines.Interrupt peer vector) = refl
frame_is (lines.Lost peer vector) = refl
frame_is (lines.Reset peer) = refl
frame_is (lines.Idle peer) = refl
frame_is (lines.ConfigRead peer offset width value) = refl
frame_is (lines.ConfigWrite peer offset width value) = refl
frame_is (lines.RegisterRead peer offset value) = refl
frame_is (lines.RegisterWrite peer offset value) = refl
frame_is (lines.MsixRead peer offset value) = refl
frame_is (lines.MsixWrite peer offset value) = refl
frame_is (lines.Saw peer value) = refl
frame_is (lines.Reclaim peer count) = refl
frame_is (lines.Look peer count) = refl
frame_is (lines.Full peer) = refl
frame_is (lines.Done peer) = refl
frame_is (lines.Over peer) = refl
frame_is (lines.Down peer) = refl
frame_is (lines.Accept peer frame) = refl
frame_is (lines.Deliver peer frame) = refl
frame_is (lines.Return peer) = refl
frame_is (lines.Session peer opened other) = refl
frame_is (lines.Refuse peer refused) = refusal_frame refused.field

same_row : (form : LineForm) (ns ms frame : List ℕ) → ns ≡ ms → [] ≡ frame → row form ns [] ≡ row form ms frame
same_row form ns ms frame e f = rw (e, f) refl

-- The line of a row, or the count.
pub data EntryRow (form : LineForm) (ns frame : List ℕ) : Type 0 where
  IsLine : (line : Line) → entry_of form ns frame ≡ Some line → row_of_line line ≡ row form ns frame → EntryRow form ns frame
  IsCount : entry_of form ns frame ≡ None → form ≡ Count → row Count (get_or ns 0 0 ∷ []) [] ≡ row form ns frame → EntryRow form ns frame

pub entry_row : (form : LineForm) (ns frame : List ℕ) → Fit (pieces_of form) ns → FitBytes (pieces_of form) frame → EntryRow form ns frame
entry_row Read ns frame fit bytes = IsLine (lines.Read (get_or ns 0 0) (get_or ns 1 0) (get_or ns 2 0)) refl (same_row Read _ ns frame (list_3 ns (counted (pieces_of Read) ns fit)) (sym bytes))
entry_row Write ns frame fit bytes = IsLine (lines.Write (get_or ns 0 0) (get_or ns 1 0) (get_or ns 2 0)) refl (same_row Write _ ns frame (list_3 ns (counted (pieces_of Write) ns fit)) (sym bytes))
entry_row Denied ns frame fit bytes = IsLine (lines.Denied (get_or ns 0 0) (get_or ns 1 0)) refl (same_row Denied _ ns frame (list_2 ns (counted (pieces_of Denied) ns fit)) (sym bytes))
entry_row State ns frame fit bytes = IsLine (lines.State (get_or ns 0 0) (get_or ns 1 0)) refl (same_row State _ ns frame (list_2 ns (counted (pieces_of State) ns fit)) (sym bytes))
entry_row Doorbell ns frame fit bytes = IsLine (lines.Doorbell (get_or ns 0 0) (get_or ns 1 0) (get_or ns 2 0)) refl (same_row Doorbell _ ns frame (list_3 ns (counted (pieces_of Doorbell) ns fit)) (sym bytes))
entry_row Interrupt ns frame fit bytes = IsLine (lines.Interrupt (get_or ns 0 0) (get_or ns 1 0)) refl (same_row Interrupt _ ns frame (list_2 ns (counted (pieces_of Interrupt) ns fit)) (sym bytes))
entry_row Lost ns frame fit bytes = IsLine (lines.Lost (get_or ns 0 0) (get_or ns 1 0)) refl (same_row Lost _ ns frame (list_2 ns (counted (pieces_of Lost) ns fit)) (sym bytes))
entry_row Reset ns frame fit bytes = IsLine (lines.Reset (get_or ns 0 0)) refl (same_row Reset _ ns frame (list_1 ns (counted (pieces_of Reset) ns fit)) (sym bytes))
entry_row Idle ns frame fit bytes = IsLine (lines.Idle (get_or ns 0 0)) refl (same_row Idle _ ns frame (list_1 ns (counted (pieces_of Idle) ns fit)) (sym bytes))
entry_row ConfigRead ns frame fit bytes = IsLine (lines.ConfigRead (get_or ns 0 0) (get_or ns 1 0) (get_or ns 2 0) (get_or ns 3 0)) refl (same_row ConfigRead _ ns frame (list_4 ns (counted (pieces_of ConfigRead) ns fit)) (sym bytes))
entry_row ConfigWrite ns frame fit bytes = IsLine (lines.ConfigWrite (get_or ns 0 0) (get_or ns 1 0) (get_or ns 2 0) (get_or ns 3 0)) refl (same_row ConfigWrite _ ns frame (list_4 ns (counted (pieces_of ConfigWrite) ns fit)) (sym bytes))
entry_row RegisterRead ns frame fit bytes = IsLine (lines.RegisterRead (get_or ns 0 0) (get_or ns 1 0) (get_or ns 2 0)) refl (same_row RegisterRead _ ns frame (list_3 ns (counted (pieces_of RegisterRead) ns fit)) (sym bytes))
entry_row RegisterWrite ns frame fit bytes = IsLine (lines.RegisterWrite (get_or ns 0 0) (get_or ns 1 0) (get_or ns 2 0)) refl (same_row RegisterWrite _ ns frame (list_3 ns (counted (pieces_of RegisterWrite) ns fit)) (sym bytes))
entry_row MsixRead ns frame fit bytes = IsLine (lines.MsixRead (get_or ns 0 0) (get_or ns 1 0) (get_or ns 2 0)) refl (same_row MsixRead _ ns frame (list_3 ns (counted (pieces_of MsixRead) ns fit)) (sym bytes))
entry_row MsixWrite ns frame fit bytes = IsLine (lines.MsixWrite (get_or ns 0 0) (get_or ns 1 0) (get_or ns 2 0)) refl (same_row MsixWrite _ ns frame (list_3 ns (counted (pieces_of MsixWrite) ns fit)) (sym bytes))
entry_row Saw ns frame fit bytes = IsLine (lines.Saw (get_or ns 0 0) (get_or ns 1 0)) refl (same_row Saw _ ns frame (list_2 ns (counted (pieces_of Saw) ns fit)) (sym bytes))
entry_row Reclaim ns frame fit bytes = IsLine (lines.Reclaim (get_or ns 0 0) (get_or ns 1 0)) refl (same_row Reclaim _ ns frame (list_2 ns (counted (pieces_of Reclaim) ns fit)) (sym bytes))
entry_row Look ns frame fit bytes = IsLine (lines.Look (get_or ns 0 0) (get_or ns 1 0)) refl (same_row Look _ ns frame (list_2 ns (counted (pieces_of Look) ns fit)) (sym bytes))
entry_row Full ns frame fit bytes = IsLine (lines.Full (get_or ns 0 0)) refl (same_row Full _ ns frame (list_1 ns (counted (pieces_of Full) ns fit)) (sym bytes))
entry_row Done ns frame fit bytes = IsLine (lines.Done (get_or ns 0 0)) refl (same_row Done _ ns frame (list_1 ns (counted (pieces_of Done) ns fit)) (sym bytes))
entry_row Over ns frame fit bytes = IsLine (lines.Over (get_or ns 0 0)) refl (same_row Over _ ns frame (list_1 ns (counted (pieces_of Over) ns fit)) (sym bytes))
entry_row Down ns frame fit bytes = IsLine (lines.Down (get_or ns 0 0)) refl (same_row Down _ ns frame (list_1 ns (counted (pieces_of Down) ns fit)) (sym bytes))
entry_row Accept ns frame fit bytes = IsLine (lines.Accept (get_or ns 0 0) frame) refl (ap (λ (ms : List ℕ). row Accept ms frame) (list_1 ns (counted (pieces_of Accept) ns fit)))
entry_row Deliver ns frame fit bytes = IsLine (lines.Deliver (get_or ns 0 0) frame) refl (ap (λ (ms : List ℕ). row Deliver ms frame) (list_1 ns (counted (pieces_of Deliver) ns fit)))
entry_row Return ns frame fit bytes = IsLine (lines.Return (get_or ns 0 0)) refl (same_row Return _ ns frame (list_1 ns (counted (pieces_of Return) ns fit)) (sym bytes))
entry_row RefuseAvailIndex ns frame fit bytes = IsLine (lines.Refuse (get_or ns 0 0) (record { field = names.AvailIndex; value = get_or ns 1 0 })) refl (same_row RefuseAvailIndex _ ns frame (list_2 ns (counted (pieces_of RefuseAvailIndex) ns fit)) (sym bytes))
entry_row RefuseAvailEntry ns frame fit bytes = IsLine (lines.Refuse (get_or ns 0 0) (record { field = names.AvailEntry; value = get_or ns 1 0 })) refl (same_row RefuseAvailEntry _ ns frame (list_2 ns (counted (pieces_of RefuseAvailEntry) ns fit)) (sym bytes))
entry_row RefuseDescAddress ns frame fit bytes = IsLine (lines.Refuse (get_or ns 0 0) (record { field = names.DescAddress; value = get_or ns 1 0 })) refl (same_row RefuseDescAddress _ ns frame (list_2 ns (counted (pieces_of RefuseDescAddress) ns fit)) (sym bytes))
entry_row RefuseDescLength ns frame fit bytes = IsLine (lines.Refuse (get_or ns 0 0) (record { field = names.DescLength; value = get_or ns 1 0 })) refl (same_row RefuseDescLength _ ns frame (list_2 ns (counted (pieces_of RefuseDescLength) ns fit)) (sym bytes))
entry_row RefuseDescFlags ns frame fit bytes = IsLine (lines.Refuse (get_or ns 0 0) (record { field = names.DescFlags; value = get_or ns 1 0 })) refl (same_row RefuseDescFlags _ ns frame (list_2 ns (counted (pieces_of RefuseDescFlags) ns fit)) (sym bytes))
entry_row RefuseUsedIndex ns frame fit bytes = IsLine (lines.Refuse (get_or ns 0 0) (record { field = names.UsedIndex; value = get_or ns 1 0 })) refl (same_row RefuseUsedIndex _ ns frame (list_2 ns (counted (pieces_of RefuseUsedIndex) ns fit)) (sym bytes))
entry_row RefuseUsedId ns frame fit bytes = IsLine (lines.Refuse (get_or ns 0 0) (record { field = names.UsedId; value = get_or ns 1 0 })) refl (same_row RefuseUsedId _ ns frame (list_2 ns (counted (pieces_of RefuseUsedId) ns fit)) (sym bytes))
entry_row Session ns frame fit bytes = IsLine (lines.Session (get_or ns 0 0) (get_or ns 1 0) (get_or ns 2 0)) refl (same_row Session _ ns frame (list_3 ns (counted (pieces_of Session) ns fit)) (sym bytes))
entry_row Count ns frame fit bytes = IsCount refl refl (same_row Count _ ns frame (list_1 ns (counted (pieces_of Count) ns fit)) (sym bytes))
