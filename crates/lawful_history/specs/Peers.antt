-- A peer between two events, as the computed history stores it, and the effect of its own events.
use Rattle.std.specs.Prelude.{ℕ, ◌+◌, List, [], ◌∷◌, ◌++◌, drop}
use Rattle.call_grammar.specs.Steps.{Mark, Accept, Deliver, Step}
use Rattle.call_grammar.specs.Trees.{CallTree, Ended, Does, Reads}
use Rattle.call_grammar.specs.Ends.{End, fresh, after_reset, end_after}
use Rattle.call_grammar.specs.Calls.{EndConfig, Call, Tick, Offer, Poll, tree_of}
use Rattle.call_grammar.specs.Automatic.{Round, Anew, AfterOffer, AfterPoll, Choice, ChoosesTick, ChoosesOffer, ChoosesPoll, IsFinished, choice_of}

-- An automatic end: its frames that aren't accepted yet, the number of deliveries that it expects,
-- the number in the whole run, and its round.
pub record Auto : Type 0 where
  pub frames : List (List ℕ)
  pub expected : ℕ
  pub delivered : ℕ
  pub round : Round

-- The source of a peer's actions: the schedule, call by call, the rule of the automatic end, or a
-- storm with generator state x.
pub data Driver : Type 0 where
  Waits : Driver
  Chooses : (auto : Auto) → Driver
  Storms : (x : ℕ) → Driver

-- The peer's end of the link, the rest of its open call, the waiting calls, oldest first, and its
-- driver.
pub record Peer : Type 0 where
  pub end : End
  pub left : CallTree
  pub waiting : List Call
  pub driver : Driver

abbrev pub at_start : Peer
at_start = record { end = fresh; left = Ended; waiting = []; driver = Waits }

-- Events of a peer

-- A call is appended to the waiting calls. The frame of an Offer to an automatic end is appended to
-- its frames.
abbrev pub with_call_by : Peer → Driver → Call → Peer
with_call_by peer (Chooses auto) (Offer frame) = record peer { driver = Chooses (record auto { frames = auto.frames ++ frame ∷ [] }) }
with_call_by peer driver call = record peer { waiting = peer.waiting ++ call ∷ [] }

abbrev pub with_call : Peer → Call → Peer
with_call peer call = with_call_by peer peer.driver call

-- The peer becomes an automatic end.
abbrev pub automated : Peer → ℕ → Peer
automated peer expected = record peer { driver = Chooses (record { frames = []; expected = expected; delivered = 0; round = Anew }) }

abbrev pub stormed : Peer → ℕ → Peer
stormed peer seed = record peer { driver = Storms seed }

-- A device reset cuts the open call and drops the waiting ones. An automatic end and a storm
-- continue.
abbrev pub cut : Driver → Driver
cut Waits = Waits
cut (Chooses auto) = Chooses (record auto { round = Anew })
cut (Storms x) = Storms x

abbrev pub was_reset : Peer → Peer
was_reset peer = record { end = after_reset peer.end; left = Ended; waiting = []; driver = cut peer.driver }

-- A turn

-- The call that an automatic end chose opens.
abbrev pub with_choice : EndConfig → Peer → Auto → Choice → Peer
with_choice config peer auto ChoosesTick = record peer { left = tree_of config peer.end Tick; driver = Chooses (record auto { round = Anew }) }
with_choice config peer auto (ChoosesOffer frame) = record peer {
  left = tree_of config peer.end (Offer frame);
  driver = Chooses (record auto { round = AfterOffer });
}
with_choice config peer auto ChoosesPoll = record peer { left = tree_of config peer.end Poll; driver = Chooses (record auto { round = AfterPoll }) }
with_choice config peer auto IsFinished = peer

abbrev pub chosen : EndConfig → Peer → Driver → Peer
chosen config peer Waits = peer
chosen config peer (Chooses auto) = with_choice config peer auto (choice_of peer.end.handshake.phase auto.round auto.frames auto.delivered auto.expected)
chosen config peer (Storms x) = peer

-- If no call is open, the oldest waiting call opens, else the call that an automatic end chooses
-- (profile).
abbrev pub opened_by : EndConfig → Peer → CallTree → List Call → Peer
opened_by config peer Ended [] = chosen config peer peer.driver
opened_by config peer Ended (call ∷ waiting) = record peer { left = tree_of config peer.end call; waiting = waiting }
opened_by config peer (Does access marks rest) waiting = peer
opened_by config peer (Reads word marks rest) waiting = peer

abbrev pub opened : EndConfig → Peer → Peer
opened config peer = opened_by config peer peer.left peer.waiting

-- An accepted frame of an automatic end is removed from its frames, and its deliveries are counted.
abbrev pub counted : Auto → Mark → Auto
counted auto (Accept frame) = record auto { frames = drop 1 auto.frames }
counted auto (Deliver frame) = record auto { delivered = auto.delivered + 1 }
counted auto _ = auto

abbrev pub counted_all : Auto → List Mark → Auto
counted_all auto [] = auto
counted_all auto (mark ∷ marks) = counted_all (counted auto mark) marks

abbrev pub driver_after : Driver → List Mark → Driver
driver_after Waits marks = Waits
driver_after (Chooses auto) marks = Chooses (counted_all auto marks)
driver_after (Storms x) marks = Storms x

-- The peer after a step of its open call, of which `left` is left.
abbrev pub stepped : Peer → Step → CallTree → Peer
stepped peer step left = record peer { end = end_after peer.end step; left = left; driver = driver_after peer.driver step.marks }
