-- The arrows of frames: from the line where a frame was accepted to the line where it was
-- delivered. Lines are counted from 1, and lines so far are listed newest first.
use Rattle.std.specs.Prelude.{ℕ, ◌+◌, ◌-◌, ◌==◌, ◌&&◌, nat_le, if◌then◌else◌, Bool, false, List, [], ◌∷◌, ◌++◌, length, slice_get, Option, Some, None}
use Rattle.lawful_history.specs.declared.line.Line.{Line}
use Rattle.lawful_history.specs.declared.line.Line.TheVariants.{State, Accept, Deliver}
use Rattle.record_chart.specs.declared.arrows.Arrow.{Arrow}

-- The peer writes State 2, which begins its session.
abbrev pub begins_session : ℕ → Line → Bool
begins_session peer (State writer value) = writer == peer && value == 2
begins_session peer _ = false

abbrev pub accepts : ℕ → Line → Bool
accepts peer (Accept sender frame) = sender == peer
accepts peer _ = false

abbrev pub delivers : ℕ → Line → Bool
delivers peer (Deliver receiver frame) = receiver == peer
delivers peer _ = false

-- The numbers of the lines at which a peer accepted a frame in its session, in their order, after a
-- line of this number.
abbrev pub accepted_after : (peer number : ℕ) → Line → List ℕ → List ℕ
accepted_after peer number line numbers = if begins_session peer line then [] else if accepts peer line then numbers ++ number ∷ [] else numbers

abbrev pub acceptances : (peer : ℕ) → List Line → List ℕ
acceptances peer [] = []
acceptances peer (line ∷ older) = accepted_after peer (length older + 1) line (acceptances peer older)

-- The number of frames that a peer delivered in its session, after a line.
abbrev pub delivered_after : (peer : ℕ) → Line → ℕ → ℕ
delivered_after peer line count = if begins_session peer line then 0 else if delivers peer line then count + 1 else count

abbrev pub delivery_count : (peer : ℕ) → List Line → ℕ
delivery_count peer [] = 0
delivery_count peer (line ∷ older) = delivered_after peer line (delivery_count peer older)

-- The line at which the next frame that the peer delivers was accepted: the other's acceptance with
-- the same number in its session.
abbrev pub source_of : (peer : ℕ) → List Line → Option ℕ
source_of peer older = slice_get (acceptances (1 - peer) older) (delivery_count peer older)

abbrev pub arrow_from : Option ℕ → (number : ℕ) → List Arrow
arrow_from None number = []
arrow_from (Some source) number = record { from = source; to = number } ∷ []

-- The arrow to line `number`, if the peer delivers a frame there and the frame has a source.
abbrev pub arrow_to : (peer first number : ℕ) → Option ℕ → Line → List Arrow
arrow_to peer first number source line = if delivers peer line && nat_le first number then arrow_from source number else []

-- The arrows to the deliveries of a peer in `lines`, which come after `older`, from line number
-- `first` on.
abbrev pub arrows_after : (peer first : ℕ) → (older lines : List Line) → List Arrow
arrows_after peer first older [] = []
arrows_after peer first older (line ∷ lines) = arrow_to peer first (length older + 1) (source_of peer older) line ++ arrows_after peer first (line ∷ older)
    lines

-- The arrows to the deliveries of a peer in a prefix of a history, from line number `first` on.
abbrev pub arrows_of : (peer first : ℕ) → List Line → List Arrow
arrows_of peer first lines = arrows_after peer first [] lines
