-- The notification rule in a link with events: a peer whose poll found no frame is rung at the next
-- one. Lines are listed newest first.
--
-- Source: VIRTIO 1.1 section 2.6.10, by which avail_event wants a notification; profile for the
-- order of steps.
use Rattle.std.specs.Prelude.{ℕ, ◌≡◌, ◌≢◌, ◌+◌, ◌-◌, ◌%◌, ◌<◌, true, List, [], ◌∷◌, ◌++◌, length, reverse, All}
use Rattle.section_map.specs.Geometry.{section_start}
use Rattle.split_ring.specs.Layout.{has_events, word_offset, AvailEvent}
use Rattle.split_ring.specs.Spelling.{low_half}
use Rattle.scenario_text.specs.Scenario.{World, IsWorld, is_link}
use Rattle.call_grammar.specs.Steps as mark
use Rattle.link_machine.specs.LinkMachine.{Gave, Wrote, Marked}
use Rattle.lawful_history.specs.declared.line.Line.{Line}
use Rattle.lawful_history.specs.declared.line.Line.TheVariants.{Doorbell, Accept, Look, Done, Over}
use Rattle.lawful_history.specs.Memory.{last_write, DoesNotWrite}
use Rattle.lawful_history.specs.Sides.{traffic_vector}
use Rattle.lawful_history.specs.Lawful.{IsLawful}
use Rattle.history_laws.specs.SideEvents.{LineSideEvent, HasEvent, HasNoEvent, line_side_event_of, side_of}

-- The word that holds the avail_event of peer p.
abbrev pub event_word : World → ℕ → ℕ
event_word world p = section_start world.geometry p + word_offset world.queue AvailEvent

-- After these lines the avail_event of peer p is `number`, modulo 65,536.
abbrev pub EventIs : World → List Line → (p number : ℕ) → Type 0
EventIs world past p number = low_half (last_write past (event_word world p)) ≡ number % 65536

-- The line doesn't change the avail_event of peer p.
abbrev pub LeavesEvent : World → ℕ → Line → Type 0
LeavesEvent world p line = DoesNotWrite (event_word world p) line

-- The doorbell of peer p to the other peer.
abbrev pub doorbell_of : World → ℕ → Line
doorbell_of world p = Doorbell p (1 - p) (traffic_vector world.wiring)

-- An open call of peer p stays open: the line is neither a mark of p, nor a write of its State, nor
-- its reset.
abbrev pub GoesOn : ℕ → LineSideEvent → Type 0
GoesOn p (HasEvent peer (Gave value)) = Unit {0}
GoesOn p (HasEvent peer _) = peer ≢ p
GoesOn p HasNoEvent = Unit {0}

-- One of these lines is the doorbell of peer p.
abbrev pub IsRungIn : World → ℕ → List Line → Type 0
IsRungIn world p lines = (earlier later : List Line) × (lines ≡ earlier ++ doorbell_of world p ∷ later)

-- The line is no accept of peer p and opens no session of p, which a write of State 2 does.
abbrev pub AcceptsNothing : ℕ → LineSideEvent → Type 0
AcceptsNothing p (HasEvent peer (Wrote state)) = peer ≡ p → state ≢ 2
AcceptsNothing p (HasEvent peer (Marked (mark.Accept frame))) = peer ≢ p
AcceptsNothing p (HasEvent peer _) = Unit {0}
AcceptsNothing p HasNoEvent = Unit {0}

pub record WakesAreRung : Type 0 where
  -- A finished poll that found no frame leaves its peer's avail_event at the number of the next
  -- frame to be delivered.
  pub armed : (world : World) (before after : List Line) (p : ℕ) → IsWorld world → has_events world.queue ≡ true →
      IsLawful world (before ++ Look p 0 ∷ Done p ∷ after) → EventIs world (reverse before) p (length (side_of (reverse before) p).delivered)
  -- If the other peer is honest, that is the next frame that it accepts.
  pub next : (world : World) (before after : List Line) (p : ℕ) → IsWorld world → is_link world (1 - p) ≡ true →
      IsLawful world (before ++ Look p 0 ∷ after) →
      length (side_of (reverse before) (1 - p)).accepted ≡ length (side_of (reverse before) p).delivered
  -- An honest peer rings before its offer is over if the other's avail_event is the number of the
  -- frame that it accepts.
  pub rung : (world : World) (before since offer after : List Line) (p : ℕ) (frame : List ℕ) → IsWorld world → p < 2 → is_link world (1 - p) ≡ true →
      IsLawful world (before ++ since ++ Accept (1 - p) frame ∷ offer ++ Over (1 - p) ∷ after) →
      EventIs world (reverse before) p (length (side_of (reverse (before ++ since)) (1 - p)).accepted) →
      All (LeavesEvent world p) since → All (LeavesEvent world p) offer → All (λ line. GoesOn (1 - p) (line_side_event_of line)) offer → IsRungIn world (1 - p) offer
  -- A peer's poll found no frame, and its avail_event stays. So the peer is rung at the next frame
  -- that an honest other accepts in its session.
  pub wakes : (world : World) (before since offer after : List Line) (p : ℕ) (frame : List ℕ) → IsWorld world → has_events world.queue ≡ true →
      p < 2 → is_link world (1 - p) ≡ true →
      IsLawful world (before ++ Look p 0 ∷ Done p ∷ [] ++ since ++ Accept (1 - p) frame ∷ offer ++ Over (1 - p) ∷ after) →
      All (LeavesEvent world p) since → All (λ line. AcceptsNothing (1 - p) (line_side_event_of line)) since →
      All (LeavesEvent world p) offer → All (λ line. GoesOn (1 - p) (line_side_event_of line)) offer → IsRungIn world (1 - p) offer
