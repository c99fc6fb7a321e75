-- The headline in full: what holds of every record that `sim` writes, law by law.
use Rattle.std.specs.Prelude.{ℕ, ◌≡◌, ◌≢◌, ◌-◌, ◌<◌, true, Some, List, [], ◌∷◌, ◌++◌, length, reverse, All}
use Rattle.split_ring.specs.Layout.{has_events, AvailIndex, UsedIndex}
use Rattle.section_map.specs.MayWrite.{MayWrite}
use Rattle.split_ring.specs.declared.ranges.Refused.{Refused}
use Rattle.ivs_base.specs.SourceAndSink.{Input, Output}
use Rattle.scenario_text.specs.Scenario.{World, is_link}
use Rattle.lawful_history.specs.declared.line.Line.{Line}
use Rattle.lawful_history.specs.declared.line.Line.TheVariants as line
use Rattle.lawful_history.specs.Memory.{WasWrittenLast}
use Rattle.lawful_history.specs.Sides.{config_of}
use Rattle.lawful_history.specs.EventRecords.{EventRecord, own}
use Rattle.lawful_history.specs.Sessions.{without_sessions}
use Rattle.lawful_history.specs.Lawful.{IsLawfulBy}
use Rattle.link_machine.specs.LinkMachine.{DeliversInOrder}
use Rattle.history_laws.specs.Calls.{MakesCalls}
use Rattle.history_laws.specs.Indexes.{IsIndexRead, IsLoneIndex}
use Rattle.history_laws.specs.Polls.{deliver_count, IsWithin}
use Rattle.history_laws.specs.SideEvents.{line_side_event_of, side_of}
use Rattle.history_laws.specs.Wake.{EventIs, LeavesEvent, GoesOn, AcceptsNothing, IsRungIn}
use Rattle.history_laws.specs.Rows.{KeepsRows}
use Rattle.history_laws.specs.Reads.{got, reads_of, IsReadFrame, IsReadBeyond}
use Rattle.history_laws.specs.Refusals.{IsRefusal}
use Rattle.history_laws.specs.Sessions.{log_of}
use Rattle.history_laws.specs.Marks.{IsNumbered}
use Rattle.history_laws.specs.Spelled.{SpellsNext}
use Rattle.trace_replay.specs.declared.verdict.Verdict.TheVariants.{Same}
use Rattle.program_edge.specs.declared.words.Command.TheVariants.{Sim, Replay}
use Rattle.program_edge.specs.declared.exit.Status.{Status}
use Rattle.program_edge.specs.declared.exit.Status.TheVariants.{Done}
use Rattle.ivshm_cli.specs.Due.{IsDue}
use Rattle.ivshm_cli.specs.Headline.{Simulates}
use Rattle.trace_replay.specs.VerdictText.{verdict_line}

-- Each look, each reclaim and each refusal of an index has a read of that index of its own, on the
-- line right before it.
pub record ReadsIndexesOnce (world : World) (history : List Line) : Type 0 where
  pub looks : (before after : List Line) (p count : ℕ) → history ≡ before ++ line.Look p count ∷ after →
      IsIndexRead (config_of world p) p (reverse before) AvailIndex (length (side_of (reverse before) p).delivered) count
  pub reclaims : (before after : List Line) (p count : ℕ) → history ≡ before ++ line.Reclaim p count ∷ after →
      IsIndexRead (config_of world p) p (reverse before) UsedIndex (side_of (reverse before) p).freed count
  pub refusals : (before after : List Line) (p : ℕ) (refused : Refused) → history ≡ before ++ line.Refuse p refused ∷ after →
      IsLoneIndex (config_of world p) p (reverse before) refused.field refused.value

-- In a link with events, a poll that found nothing leaves its peer's event index at the next frame
-- when it is done. That frame is the next that an honest other end accepts. An honest peer rings if
-- the other's event index is at the frame that it accepts. So a peer whose poll found nothing is
-- rung at the next frame.
pub record WaitingPeersAreRung (world : World) (history : List Line) : Type 0 where
  pub armed : (before after : List Line) (p : ℕ) → has_events world.queue ≡ true → history ≡ before ++ line.Look p 0 ∷ line.Done p ∷ after →
      EventIs world (reverse before) p (length (side_of (reverse before) p).delivered)
  pub next : (before after : List Line) (p : ℕ) → is_link world (1 - p) ≡ true → history ≡ before ++ line.Look p 0 ∷ after →
      length (side_of (reverse before) (1 - p)).accepted ≡ length (side_of (reverse before) p).delivered
  pub rung : (before since offer after : List Line) (p : ℕ) (frame : List ℕ) → p < 2 → is_link world (1 - p) ≡ true →
      history ≡ before ++ since ++ line.Accept (1 - p) frame ∷ offer ++ line.Over (1 - p) ∷ after →
      EventIs world (reverse before) p (length (side_of (reverse (before ++ since)) (1 - p)).accepted) →
      All (LeavesEvent world p) since → All (LeavesEvent world p) offer → All (λ found. GoesOn (1 - p) (line_side_event_of found)) offer → IsRungIn world (1 - p) offer
  pub wakes : (before since offer after : List Line) (p : ℕ) (frame : List ℕ) → has_events world.queue ≡ true → p < 2 → is_link world (1 - p) ≡ true →
      history ≡ before ++ line.Look p 0 ∷ line.Done p ∷ [] ++ since ++ line.Accept (1 - p) frame ∷ offer ++ line.Over (1 - p) ∷ after →
      All (LeavesEvent world p) since → All (λ found. AcceptsNothing (1 - p) (line_side_event_of found)) since →
      All (LeavesEvent world p) offer → All (λ found. GoesOn (1 - p) (line_side_event_of found)) offer → IsRungIn world (1 - p) offer

-- A history that keeps the laws.
pub record KeepsTheLaws (world : World) (history : List Line) : Type 0 where
  -- Each peer writes only words of its own and common sections, and reads the value written last.
  pub writes : (before after : List Line) (peer word value : ℕ) → history ≡ before ++ line.Write peer word value ∷ after → MayWrite world.geometry peer word
  pub reads : (before after : List Line) (peer word value : ℕ) → history ≡ before ++ line.Read peer word value ∷ after → WasWrittenLast before word value
  -- Each line of a link peer has its row of the link machine.
  pub rows : KeepsRows world (reverse history)
  -- The turn steps of an honest link peer since its last reset are finished calls in their order,
  -- and then a prefix of one. Each call is within its bound.
  pub calls : (entries before after : List EventRecord) (p : ℕ) → IsLawfulBy world history entries → is_link world p ≡ true → own p entries ≡ before ++ after →
      MakesCalls world p (reverse before)
  -- A delivered frame is the one read for its item, each field once and in range; an accepted one
  -- is in its peer's section.
  pub once : (before after : List Line) (p : ℕ) (frame : List ℕ) → history ≡ before ++ line.Deliver p frame ∷ after →
      IsReadFrame (config_of world p) (length (side_of (reverse before) p).delivered) (reads_of (reverse before) p) frame
  pub spelled : (before after : List Line) (p : ℕ) (frame : List ℕ) → history ≡ before ++ line.Accept p frame ∷ after
      → SpellsNext world (reverse before) p frame
  pub indexes : ReadsIndexesOnce world history
  -- Between a look and the end of its poll the number of frames delivered is the number that the
  -- look found.
  pub done : (before between after : List Line) (p count : ℕ) → history ≡ before ++ line.Look p count ∷ between ++ line.Done p ∷ after →
      All (λ found. IsWithin p (line_side_event_of found)) between → deliver_count p between ≡ count
  -- An honest link peer in RESET writes nothing to its section.
  pub quiet : (before after : List Line) (p word value : ℕ) → is_link world p ≡ true → history ≡ before ++ line.Write p word value ∷ after →
      (side_of (reverse before) p).state ≢ 0
  -- A peer that waits after a poll that found nothing is rung at the next frame.
  pub wakes : WaitingPeersAreRung world history
  -- A value read out of range refuses the link at once, by its field. Nothing else is refused, and
  -- the end stays refused until its reset.
  pub refused : (before after : List Line) (p word value : ℕ) (refused : Refused) → is_link world p ≡ true
      → history ≡ before ++ line.Read p word value ∷ after →
      IsReadBeyond (config_of world p) (side_of (reverse before) p) (reads_of (reverse before) p ++ got word value ∷ []) refused.field refused.value →
      (rest : List Line) × (after ≡ line.Refuse p refused ∷ rest)
  pub cause : (before after : List Line) (p : ℕ) (refused : Refused) → history ≡ before ++ line.Refuse p refused ∷ after →
      IsRefusal world (reverse before) p refused
      × IsReadBeyond (config_of world p) (side_of (reverse before) p) (reads_of (reverse before) p) refused.field refused.value
  pub stays : (before between after : List Line) (p value : ℕ) (refused : Refused)
      → history ≡ before ++ line.Refuse p refused ∷ between ++ line.State p value ∷ after →
      All (λ found. found ≢ line.Reset p) between → value ≡ 0
  -- Two honest link peers never refuse; at each moment each has delivered, in each session, a
  -- prefix of what the other accepted.
  pub agree : (before after : List Line) (p : ℕ) (refused : Refused) → is_link world 0 ≡ true → is_link world 1 ≡ true
      → history ≢ before ++ line.Refuse p refused ∷ after
  pub prefix : (before after : List Line) (p : ℕ) → is_link world 0 ≡ true → is_link world 1 ≡ true → p < 2 → history ≡ before ++ after →
      DeliversInOrder (side_of (reverse before) p) (side_of (reverse before) (1 - p)) (log_of (reverse before) p) (log_of (reverse before) (1 - p))

-- The lines of a record of version 2. Without the session marks they keep the laws, and each mark
-- numbers the sessions of both link peers.
pub record RecordKeepsLaws (world : World) (lines : List Line) : Type 0 where
  pub laws : KeepsTheLaws world (without_sessions lines)
  pub marks : (before after : List Line) (p opened other : ℕ) → lines ≡ before ++ line.Session p opened other ∷ after →
      IsNumbered world (reverse before) p opened other

-- Each record that `sim` wrote keeps the laws.
abbrev pub RecordsKeepTheLaws : Type 0
RecordsKeepTheLaws = (before now : Input) (before' now' : Output) → (s : Simulates before now before' now') → RecordKeepsLaws s.world s.history

-- The one text that is due to `replay` for what `sim` wrote is the line `same`. So the text of
-- `sim` is within the limit of `replay`, is not refused and never differs.
abbrev pub WrittenRecordsReplayAsSame : Type 0
WrittenRecordsReplayAsSame = (bytes text found : List ℕ) (status : Status) → IsDue (Some Sim) bytes Done text → IsDue (Some Replay) text status found →
    (status ≡ Done) × (found ≡ verdict_line Same)
