-- The link of a port: its words, a station as end 0 and the bridge's end as end 1. Each end chooses
-- its own calls (profile).
use Rattle.std.specs.Prelude.{ℕ, ◌/◌, ◌==◌, if◌then◌else◌, List, [], ◌++◌, length}
use Rattle.frame_bridge.specs.declared.limits.TheConstants.{PORT_OUT}
use Rattle.split_ring.specs.declared.sizes.TheConstants.{LEAST_MTU}
use Rattle.section_map.specs.declared.limits.TheConstants.{PAGE_WORDS}
use Rattle.split_ring.specs.declared.steps.Access.{Access}
use Rattle.split_ring.specs.declared.steps.Access.TheVariants as access
use Rattle.call_grammar.specs.Ends.{End, fresh, end_after}
use Rattle.call_grammar.specs.Calls.{EndConfig, Tick, Offer, Poll}
use Rattle.call_grammar.specs.Places.{Place, Closed, first_place, access_at, marks_at, next_place, step_at, is_open}
use Rattle.call_grammar.specs.Automatic.{Round, Anew, AfterOffer, AfterPoll, Choice, ChoosesTick, ChoosesOffer, ChoosesPoll, IsFinished, choice_of}
use Rattle.link_invariant.specs.LinkConfig.{LinkConfig, config_of}
use Rattle.link_endpoint.specs.Plan.{left_after, delivered_by}

-- A region of two peers: a State Table of one page, no common section, and sections of `PORT_OUT`
-- bytes. Each section has a queue of version 1 for the least MTU. Doorbells have vector 1.
abbrev pub link_config : LinkConfig
link_config = record { first = PAGE_WORDS; words = PORT_OUT / 4; sizes = record { version = 1; out = PORT_OUT; mtu = LEAST_MTU }; vector = 1 }

-- The number of deliveries that each end expects; more can't happen, so no end is ever finished.
abbrev pub expected : ℕ
expected = 18446744073709551615

-- An automatic end

-- The end's state, and its place in the open call. Its frames that aren't accepted yet, and its
-- round. The frames that it delivered in the whole run.
pub record AutoEnd : Type 0 where
  pub end : End
  pub place : Place
  pub frames : List (List ℕ)
  pub round : Round
  pub delivered : List (List ℕ)

abbrev pub starting : List (List ℕ) → AutoEnd
starting frames = record { end = fresh; place = Closed; frames = frames; round = Anew; delivered = [] }

-- Its choice if no call is open.
abbrev pub choice : AutoEnd → Choice
choice auto_end = choice_of auto_end.end.handshake.phase auto_end.round auto_end.frames (length auto_end.delivered) expected

abbrev pub with_choice : EndConfig → AutoEnd → Choice → AutoEnd
with_choice config auto_end ChoosesTick = record auto_end { place = first_place config auto_end.end Tick; round = Anew }
with_choice config auto_end (ChoosesOffer frame) = record auto_end { place = first_place config auto_end.end (Offer frame); round = AfterOffer }
with_choice config auto_end ChoosesPoll = record auto_end { place = first_place config auto_end.end Poll; round = AfterPoll }
with_choice config auto_end IsFinished = auto_end

-- The end with its open call, or with the call that it chooses.
abbrev pub opened : EndConfig → AutoEnd → AutoEnd
opened config auto_end = if is_open auto_end.place then auto_end else with_choice config auto_end (choice auto_end)

-- The end after the step of its open call that reads this value.
abbrev pub stepped : EndConfig → ℕ → AutoEnd → AutoEnd
stepped config value auto_end = record {
  end = end_after auto_end.end (step_at config auto_end.place value);
  place = next_place config auto_end.place value;
  frames = left_after auto_end.frames (marks_at config auto_end.place value);
  round = auto_end.round;
  delivered = auto_end.delivered ++ delivered_by (marks_at config auto_end.place value);
}

-- The link

-- The value that an access reads: the one written last, or 0.
abbrev pub value_in : (ℕ → ℕ) → Access → ℕ
value_in memory (access.Read word) = memory word
value_in memory _ = 0

-- The words after an access of end p, whose state is the word of its own number.
abbrev pub words_after : ℕ → (ℕ → ℕ) → Access → (ℕ → ℕ)
words_after p memory (access.Write word value) = λ w. if w == word then value else memory w
words_after p memory (access.State state) = λ w. if w == p then state else memory w
words_after p memory _ = memory

pub record Link : Type 0 where
  pub memory : ℕ → ℕ
  pub auto_ends : ℕ → AutoEnd

abbrev pub with_end : (ℕ → AutoEnd) → ℕ → AutoEnd → ℕ → AutoEnd
with_end auto_ends p auto_end q = if q == p then auto_end else auto_ends q

abbrev pub step_of_link : ℕ → Link → AutoEnd → Link
step_of_link p link auto_end = record {
  memory = words_after p link.memory (access_at (config_of link_config p) auto_end.place);
  auto_ends = with_end link.auto_ends p (stepped (config_of link_config p) (value_in link.memory (access_at (config_of link_config p) auto_end.place)) auto_end);
}

-- The link after a turn of end p: the next step of its open call, or of the call that it chooses. A
-- finished end makes no step.
abbrev pub turned : ℕ → Link → Link
turned p link =
    if is_open (opened (config_of link_config p) (link.auto_ends p)).place then step_of_link p link (opened (config_of link_config p) (link.auto_ends p)) else link

-- The frames that this turn delivers.
abbrev pub observed_by : ℕ → Link → List (List ℕ)
observed_by p link =
    if is_open (opened (config_of link_config p) (link.auto_ends p)).place
    then delivered_by (marks_at (config_of link_config p) (opened (config_of link_config p) (link.auto_ends p)).place
    (value_in link.memory (access_at (config_of link_config p) (opened (config_of link_config p) (link.auto_ends p)).place)))
    else []

-- The link with these frames appended to those of the bridge's end.
abbrev pub with_copies : List (List ℕ) → Link → Link
with_copies copies link = record link { auto_ends = with_end link.auto_ends 1 (record (link.auto_ends 1) { frames = (link.auto_ends 1).frames ++ copies }) }
