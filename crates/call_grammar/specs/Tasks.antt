-- The tasks of a call: each is a list of steps of the table that an end does between two reads.
use Rattle.std.specs.Prelude.{ℕ, Bool, if◌then◌else◌, List, [], ◌∷◌, ◌++◌, length}
use Rattle.call_grammar.specs.Steps.{Over, Done, Step}
use Rattle.call_grammar.specs.Ticks.{EndConfig, clear_steps, state_step}
use Rattle.call_grammar.specs.Words.{words_for}
use Rattle.call_grammar.specs.Offers.{PendingOffer, frame_write_steps, publish_steps, doorbell_step}
use Rattle.call_grammar.specs.Polls.{avail_event_write_step, return_steps}
use Rattle.call_grammar.specs.Calls.{down_step}

-- A task of an end:
-- - the State step, after a write of 0 to each own word or alone;
-- - the State step of a refusal, or the step of a call that is down;
-- - of an Offer: the writes that publish a frame, or the doorbell;
-- - of a Poll: the write of the own avail_event, the writes that return an item, with `more` items
--   left, or the doorbell.
pub data Task : Type 0 where
  WritingState : (clear : Bool) (state : ℕ) → Task
  Refusing : Task
  NotInRun : Task
  Publishing : (pending : PendingOffer) → Task
  RingingOffer : Task
  WritingAvailEvent : (taken : ℕ) → Task
  Returning : (number more entry : ℕ) → Task
  RingingPoll : Task

-- The steps of a task.
abbrev pub steps_of : EndConfig → Task → List Step
steps_of config (WritingState clear state) =
    (if clear then clear_steps config.own config.words else []) ++ state_step state ∷ []
steps_of config Refusing = state_step 0 ∷ []
steps_of config NotInRun = down_step ∷ []
steps_of config (Publishing pending) =
    frame_write_steps config pending 0 (words_for (length pending.frame)) ++ publish_steps config pending
steps_of config RingingOffer = doorbell_step config (Over ∷ []) ∷ []
steps_of config (WritingAvailEvent taken) = avail_event_write_step config taken ∷ []
steps_of config (Returning number more entry) = return_steps config number entry
steps_of config RingingPoll = doorbell_step config (Done ∷ []) ∷ []
