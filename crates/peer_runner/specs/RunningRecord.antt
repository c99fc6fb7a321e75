-- The running record of a scenario has an own record for each running peer, by the list of its
-- actions. Of all peers, no interrupt came unrung. Of two honest link peers, each delivered in each
-- session a beginning of what the other accepted in the session carried. Each rang if the other
-- requested a doorbell. The sessions of an honest peer whose other is hostile carry none. The
-- record states no order between peers.
use Rattle.std.specs.Prelude.{ℕ, ◌≡◌, ◌+◌, ◌-◌, ◌<◌, ◌≤◌, ◌==◌, ◌&&◌, ◌||◌, Bool, true, false, if◌then◌else◌, All, Contains, List, [], ◌∷◌, ◌++◌}
use Rattle.std.specs.List.{flat_map, list_any}
use Rattle.split_ring.specs.Layout.{has_events}
use Rattle.link_handshake.specs.PhaseTable.{phase_of_state, state_of}
use Rattle.link_machine.specs.LinkMachine.{Side, initial_side, SideEvent, Wrote, WasReset, Log, no_sessions, log_after, DeliversInOrder}
use Rattle.pair_sessions.specs.Numbers.{own_side}
use Rattle.doorbell_irq.specs.DeviceRules.{is_one_shot, bytes_after}
use Rattle.doorbell_irq.specs.Routes.{is_intx}
use Rattle.lawful_history.specs.Device.{devices_of}
use Rattle.lawful_history.specs.Sides.{config_of}
use Rattle.scenario_text.specs.Scenario.{World, is_link}
use Rattle.scenario_text.specs.Running.{has_turn}
use Rattle.lawful_history.specs.declared.line.Line.{Line}
use Rattle.lawful_history.specs.declared.line.Line.TheVariants as line
use Rattle.record_text.specs.Parts.{Part, peers_of, running_peers}
use Rattle.shared_words.specs.PassView.{PassView}
use Rattle.shared_words.specs.DerivedStates.{FrameNumber, accepted_last, delivered_next, DoorbellRequest, Nowhere, Written, At, event_word, lapsed, request_after_look, DerivedState}
use Rattle.shared_words.specs.Rules.{CarriesNone}
use Rattle.shared_words.specs.Passes.{actions_of}
use Rattle.shared_words.specs.PeerRoutes.{events_of}
use Rattle.peer_runner.specs.OwnRecord.{IsOwnRecord}

-- The lines of a peer, or none if it doesn't run.
abbrev pub lines_if : ℕ → Part → List Line
lines_if p part = if part.peer == p then part.lines else []

unfoldable pub lines_by : List Part → ℕ → List Line
lines_by parts p = flat_map (lines_if p) parts

abbrev pub refuses : Line → Bool
refuses (line.Refuse peer refused) = true
refuses _ = false

-- The state of a reader of a peer's lines:
-- * * `state`: the peer's State;
-- * `accepted` and `delivered`: the frames that it accepted and delivered in its present session;
-- * `log`: the log of its sessions;
-- * * `asked`: the doorbell that it requests by its event word;
-- * `missed`: the frames of all its sessions for which it rang none;
-- * `read`: whether its last line is a read
pub record RecordReader : Type 0 where
  pub state : ℕ
  pub accepted : List (List ℕ)
  pub delivered : List (List ℕ)
  pub log : Log
  pub asked : DoorbellRequest
  pub missed : List FrameNumber
  pub read : Bool

abbrev pub initial_reader : RecordReader
initial_reader = record { state = 0; accepted = []; delivered = []; log = no_sessions; asked = Nowhere; missed = []; read = false }

-- The peer as a side of the link, by what its sessions depend on.
abbrev pub side_in : RecordReader → Side
side_in t = record initial_side { state = t.state; accepted = t.accepted; delivered = t.delivered }

-- The log after the State step or the reset `recorded`. The number that a State step with 3 carries
-- is in the next line.
abbrev pub log_in : RecordReader → SideEvent → Log
log_in t recorded = log_after t.log no_sessions (side_in t) recorded

-- A call that is over right after a read is an offer of the frame accepted last. It read an event
-- that wants no doorbell for this frame, and rang none.
abbrev pub missed_now : RecordReader → List FrameNumber
missed_now t = if t.read then t.missed ++ accepted_last t.log t.accepted ∷ [] else t.missed

-- A value that is none of the four states counts as RESET, as in the handshake. A value of 2 opens
-- a session.
abbrev pub reader_after_state : RecordReader → ℕ → RecordReader
reader_after_state t value = record {
  state = state_of (phase_of_state value);
  accepted = if value == 2 then [] else t.accepted;
  delivered = if value == 2 then [] else t.delivered;
  log = log_in t (Wrote value);
  asked = t.asked;
  missed = t.missed;
  read = false;
}

abbrev pub reader_after_reset : RecordReader → RecordReader
reader_after_reset t = record t { state = 0; log = log_in t WasReset; asked = lapsed t.asked; read = false }

abbrev pub with_carried : Log → ℕ → Log
with_carried log other = record log { carried = other }

-- `event` is the peer's own event word. If a look after a write of this word finds no frame, the
-- peer requests a doorbell at the next frame. Another mark before that look ends the poll that
-- wrote the word.
abbrev pub reader_after_line : (event : ℕ) → RecordReader → Line → RecordReader
reader_after_line event t (line.Read p word value) = record t { read = true }
reader_after_line event t (line.Write p word value) = record t { asked = if word == event then Written else t.asked; read = false }
reader_after_line event t (line.State p value) = reader_after_state t value
reader_after_line event t (line.Doorbell p target vector) = record t { read = false }
reader_after_line event t (line.Interrupt p vector) = record t { read = false }
reader_after_line event t (line.Reset p) = reader_after_reset t
reader_after_line event t (line.Session p opened other) = record t { log = with_carried t.log other; read = false }
reader_after_line event t (line.Accept p frame) = record t { accepted = t.accepted ++ frame ∷ []; asked = lapsed t.asked; read = false }
reader_after_line event t (line.Deliver p frame) = record t { delivered = t.delivered ++ frame ∷ []; asked = lapsed t.asked; read = false }
reader_after_line event t (line.Look p count) = record t { asked = request_after_look (delivered_next t.log t.delivered) t.asked count; read = false }
reader_after_line event t (line.Over p) = record t { asked = lapsed t.asked; missed = missed_now t; read = false }
reader_after_line event t other = record t { asked = lapsed t.asked; read = false }

unfoldable pub reader_after_lines : (event : ℕ) → RecordReader → List Line → RecordReader
reader_after_lines event t [] = t
reader_after_lines event t (line ∷ lines) = reader_after_lines event (reader_after_line event t line) lines

abbrev pub reader_of_lines : (event : ℕ) → List Line → RecordReader
reader_of_lines event lines = reader_after_lines event initial_reader lines

-- The state of the reader `t` is exactly the derived state `s`: its side, its log, its request and
-- its missed frames.
pub record ReaderMatches (s : DerivedState) (t : RecordReader) : Type 0 where
  pub side : side_in t ≡ own_side s.end
  pub log : t.log ≡ s.numbers.log
  pub asked : t.asked ≡ s.wake.asked
  pub missed : t.missed ≡ s.wake.missed

abbrev pub reader_of_part : World → List Part → ℕ → RecordReader
reader_of_part world parts p = reader_of_lines (event_word (config_of world p)) (lines_by parts p)

-- Of two honest peers: the sessions of each that reached RUN carry sessions of the other's by their
-- numbers, which rise. In each session the peer delivered a beginning of what the other accepted in
-- the session that it carries. Neither refused anything.
pub record ArePaired (world : World) (parts : List Part) : Type 0 where
  pub deliver : (p : ℕ) → p < 2 → DeliversInOrder (side_in (reader_of_part world parts p)) (side_in (reader_of_part world parts (1 - p))) (reader_of_part world parts p).log
      (reader_of_part world parts (1 - p)).log
  pub never_refuse : (p : ℕ) → p < 2 → list_any refuses (lines_by parts p) ≡ false

-- The sessions of an honest peer whose other is hostile carry none of the other's.
abbrev pub CarryNone : World → List Part → Type 0
CarryNone world parts = (p : ℕ) → p < 2 → is_link world p ≡ true → is_link world (1 - p) ≡ false → CarriesNone (reader_of_part world parts p).log

-- The event word of a peer, as it wrote the word last, requests a doorbell at a frame of the
-- session that it carried then. The other's offer of that frame didn't end without the doorbell.
abbrev pub AreWoken : World → List Part → Type 0
AreWoken world parts = (p : ℕ) (frame : FrameNumber) → p < 2 → (reader_of_part world parts p).asked ≡ At frame →
    ¬ Contains (reader_of_part world parts (1 - p)).missed frame

-- Interrupts, and the doorbells that may have brought them.

unfoldable pub how_many : (Line → Bool) → List Line → ℕ
how_many f [] = 0
how_many f (line ∷ lines) = (if f line then 1 else 0) + how_many f lines

abbrev pub is_interrupt : Line → Bool
is_interrupt (line.Interrupt q vector) = true
is_interrupt _ = false

abbrev pub is_interrupt_by : (vector : ℕ) → Line → Bool
is_interrupt_by vector (line.Interrupt q v) = v == vector
is_interrupt_by vector _ = false

-- A doorbell at peer P with this vector, or with any vector if all interrupts come by one line.
abbrev pub is_bell : (intx : Bool) → (p vector : ℕ) → Line → Bool
is_bell intx p vector (line.Doorbell q target v) = target == p && (intx || v == vector)
is_bell intx p vector _ = false

-- The number of these lines in parts.
unfoldable pub bells_in : (intx : Bool) → (p vector : ℕ) → List Part → ℕ
bells_in intx p vector [] = 0
bells_in intx p vector (part ∷ parts) = how_many (is_bell intx p vector) part.lines + bells_in intx p vector parts

-- For each peer and vector: the interrupts in the peer's lines are at most the doorbells in `parts`
-- that may have brought them. The lines of a peer in one-shot mode have one interrupt at most.
pub record InterruptsMatch (world : World) (parts : List Part) : Type 0 where
  pub rung : (p vector : ℕ) → p < world.geometry.peers → how_many (is_interrupt_by vector) (lines_by parts p) ≤ bells_in (is_intx world.wiring) p vector parts
  pub once : (p : ℕ) → p < world.geometry.peers → is_one_shot (bytes_after (devices_of world) (events_of world.acts) p) ≡ true →
      how_many is_interrupt (lines_by parts p) ≤ 1

-- `parts` is the record of a run of the scenario whose actions on the words are those of the pass
-- `h`.
pub record IsRunOf (world : World) (h : PassView) (parts : List Part) : Type 0 where
  pub peers : peers_of parts ≡ running_peers world
  pub own : All (λ (part : Part). IsOwnRecord world (actions_of h part.peer) part) parts
  pub idle : (p : ℕ) → has_turn world.acts p ≡ false → actions_of h p ≡ []
  pub interrupt_lines : InterruptsMatch world parts
  pub paired : is_link world 0 ≡ true → is_link world 1 ≡ true → ArePaired world parts
  pub neighbour_word : CarryNone world parts
  pub woken : has_events world.queue ≡ true → is_link world 0 ≡ true → is_link world 1 ≡ true → AreWoken world parts
