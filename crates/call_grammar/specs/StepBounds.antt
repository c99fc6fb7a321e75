-- The greatest number of steps of a finished call (profile). `turn` needs it, and it shows that
-- every call ends.
use Rattle.std.specs.Prelude.{ℕ, ◌≡◌, ◌+◌, ◌≤◌, Bool, true, false, if◌then◌else◌, List, [], ◌∷◌, length}
use Rattle.split_ring.specs.declared.ranges.FieldName.{FieldName}
use Rattle.split_ring.specs.declared.ranges.FieldName.TheVariants as field_name
use Rattle.split_ring.specs.Layout.{has_events, limit_of}
use Rattle.call_grammar.specs.Steps.{Mark, Deliver, Refuse, Step}
use Rattle.call_grammar.specs.Ends.{End}
use Rattle.call_grammar.specs.Words.{words_for}
use Rattle.call_grammar.specs.Ticks.{EndConfig}
use Rattle.call_grammar.specs.Calls.{Call, Tick, Stop, Offer, Poll, IsCall}

-- A refusal in an item of a poll counts 8; the refusal of an index or of an id counts 0.
abbrev pub refused_bound : FieldName → ℕ
refused_bound field_name.AvailIndex = 0
refused_bound field_name.UsedIndex = 0
refused_bound field_name.UsedId = 0
refused_bound _ = 8

-- The count of a mark for the items of a poll: a delivered frame of w words counts 8 + w, a refused
-- item 8.
abbrev pub mark_bound : Mark → ℕ
mark_bound (Deliver frame) = 8 + words_for (length frame)
mark_bound (Refuse refused) = refused_bound refused.field
mark_bound _ = 0

abbrev pub marks_bound : List Mark → ℕ
marks_bound [] = 0
marks_bound (mark ∷ marks) = mark_bound mark + marks_bound marks

abbrev pub items_bound : List Step → ℕ
items_bound [] = 0
items_bound (step ∷ steps) = marks_bound step.marks + items_bound steps

-- The bound of each call, in steps:
-- - a Tick has 2 more than the number of words of a section;
-- - a Stop has 1;
-- - an Offer of w words has the limit of frames in flight + w + 8, or + 9 in a link with events;
-- - a Poll has 2, or 4 in a link with events, and the counts of its items.
abbrev pub bound_of : EndConfig → Call → List Step → ℕ
bound_of config Tick steps = config.words + 2
bound_of config Stop steps = 1
bound_of config (Offer frame) steps = limit_of config.sizes + words_for (length frame) + (if has_events config.sizes then 9 else 8)
bound_of config Poll steps = (if has_events config.sizes then 4 else 2) + items_bound steps

-- The number of frames in flight is at most the limit.
abbrev pub HasFewInFlight : EndConfig → End → Type 0
HasFewInFlight config end = length end.accepted ≤ end.freed + limit_of config.sizes

-- A finished call meets its bound if the number of frames in flight is at most the limit.
abbrev pub CallsMeetBounds : Type 0
CallsMeetBounds = (config : EndConfig) (end : End) (call : Call) (steps : List Step) → HasFewInFlight config end → IsCall config end call steps →
    length steps ≤ bound_of config call steps

abbrev pub is_offer : Call → Bool
is_offer (Offer frame) = true
is_offer _ = false

-- A Tick, a Stop and a Poll meet their bounds for all counts.
abbrev pub OtherCallsMeetBounds : Type 0
OtherCallsMeetBounds = (config : EndConfig) (end : End) (call : Call) (steps : List Step) → is_offer call ≡ false → IsCall config end call steps →
    length steps ≤ bound_of config call steps
