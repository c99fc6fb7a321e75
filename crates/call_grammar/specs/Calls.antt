-- The call grammar: the steps of a call of an end (profile), as a tree and as a table of lists.
use Rattle.std.specs.Prelude.{ℕ, ◌≡◌, ◌≢◌, ◌+◌, Bool, true, false, if◌then◌else◌, List, [], ◌∷◌, ◌++◌, length}
use Rattle.link_handshake.specs.declared.Phase.{Phase}
use Rattle.link_handshake.specs.declared.Phase.TheVariants.{Run}
use Rattle.split_ring.specs.declared.steps.Access.TheVariants.{Nothing}
use Rattle.split_ring.specs.Layout.{word_offset, AvailEntry}
use Rattle.call_grammar.specs.Steps.{Down, Step, step_of}
use Rattle.call_grammar.specs.Trees.{CallTree, Ended, Does, Makes}
use Rattle.link_handshake.specs.HandshakeState.{move_of}
use Rattle.call_grammar.specs.Ends.{End}
pub use Rattle.call_grammar.specs.Ticks.{EndConfig}
use Rattle.call_grammar.specs.Ticks.{tick, set_state, tick_steps, state_step}
use Rattle.call_grammar.specs.Words.{lengths_of}
use Rattle.call_grammar.specs.Offers.{PendingOffer, avail_entry_of, offer, IsOffer}
use Rattle.call_grammar.specs.Polls.{is_last, poll, IsPoll}

-- A call of an end. An Offer has the bytes of its frame.
pub data Call : Type 0 where
  Tick : Call
  Stop : Call
  Offer : (frame : List ℕ) → Call
  Poll : Call

-- Whether an offer or a poll accesses the queues in this phase: in RUN alone.
abbrev pub in_run : Phase → Bool
in_run Run = true
in_run _ = false

-- The pending offer of an end that begins to offer `frame`, the next frame of the session. The
-- neighbour word is what the end wrote last to the word of the frame's available entry.
abbrev pub pending_of : EndConfig → End → List ℕ → PendingOffer
pending_of config end frame = record {
  frame = frame;
  number = length end.accepted;
  lengths = lengths_of (end.accepted ++ frame ∷ []);
  neighbour_word = end.written (config.own + word_offset config.sizes (AvailEntry (avail_entry_of config (length end.accepted))));
}

-- An Offer or a Poll outside RUN is one step without an access.
abbrev pub down : CallTree
down = Does Nothing (Down ∷ []) Ended

-- The tree of a call that this end begins.
abbrev pub tree_of : EndConfig → End → Call → CallTree
tree_of config end Tick = tick config end
tree_of config end Stop = set_state 0
tree_of config end (Offer frame) = if in_run end.handshake.phase then offer config (pending_of config end frame) end.freed else down
tree_of config end Poll = if in_run end.handshake.phase then poll config (length end.delivered) (is_last config end.found_none) else down

-- The only step of a call that is down.
abbrev pub down_step : Step
down_step = step_of Nothing 0 (Down ∷ [])

-- The steps of an Offer or a Poll that begins in this phase. In RUN they are as `in_run` says; in
-- any other phase they are the only step of a call that is down.
abbrev pub RunsOrIsDown : Phase → Type 0 → List Step → Type 0
RunsOrIsDown Run in_run steps = in_run
RunsOrIsDown _ in_run steps = steps ≡ down_step ∷ []

-- A finished call that this end began is one of these lists of steps.
abbrev pub IsCall : EndConfig → End → Call → List Step → Type 0
IsCall config end Tick steps = (value : ℕ) × (steps ≡ tick_steps config value (move_of end.handshake value))
IsCall config end Stop steps = steps ≡ state_step 0 ∷ []
IsCall config end (Offer frame) steps = RunsOrIsDown end.handshake.phase (IsOffer config (pending_of config end frame) end.freed steps) steps
IsCall config end Poll steps = RunsOrIsDown end.handshake.phase (IsPoll config (length end.delivered) (is_last config end.found_none) steps) steps

-- A list of steps runs the tree of a call to its end exactly if it is one of the call's lists.
pub record CallsAreLists : Type 0 where
  pub listed : (config : EndConfig) (end : End) (call : Call) (steps : List Step) → Makes (tree_of config end call) steps → IsCall config end call steps
  pub made : (config : EndConfig) (end : End) (call : Call) (steps : List Step) → IsCall config end call steps → Makes (tree_of config end call) steps

-- Every call has at least one step.
abbrev pub CallsTakeAStep : Type 0
CallsTakeAStep = (config : EndConfig) (end : End) (call : Call) → tree_of config end call ≢ Ended
