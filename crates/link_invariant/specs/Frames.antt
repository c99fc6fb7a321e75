-- The bytes of a frame.
use Rattle.std.specs.Prelude.{ℕ, ◌≡◌, ◌<◌, List, length, All}
use Rattle.call_grammar.specs.Words.{words_for, frame_in}
use Rattle.link_invariant.specs.LinkConfig.{first_words}

-- A frame that is read by its words has the bytes of the offered frame.
abbrev pub FramesComeWhole : Type 0
FramesComeWhole = (frame : List ℕ) → All (λ byte. byte < 256) frame → frame_in (length frame) (first_words frame (words_for (length frame))) ≡ frame
