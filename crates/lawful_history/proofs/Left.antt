-- A property of each frame left to an automatic end holds of the frame that it offers, and of the
-- frames left after all marks.
use Rattle.std.proofs.Common.{ℕ, Bool, true, false, List, [], ◌∷◌}
use Rattle.std.specs.Prelude.{drop, nat_le, if◌then◌else◌}
use Rattle.std.specs.List.{AllByRecursion}
use Rattle.link_handshake.specs.declared.Phase.{Phase}
use Rattle.link_handshake.specs.declared.Phase.TheVariants.{Reset, Init, Ready, Run}
use Rattle.call_grammar.specs.Steps.{Mark, Accept}
use Rattle.call_grammar.specs.Automatic.{Round, Anew, AfterOffer, AfterPoll, Choice, ChoosesOffer, IsFinished, in_phase, choice_of}
use Rattle.lawful_history.specs.Peers.{Auto, counted, counted_all}

-- The property of the offered frame, if a frame is offered.
abbrev pub HoldsOfOffer : (List ℕ → Type 0) → Choice → Type 0
HoldsOfOffer P (ChoosesOffer frame) = P frame
HoldsOfOffer P _ = Unit {0}

phase_offers : (P : List ℕ → Type 0) (phase : Phase) (round : Round) (frames : List (List ℕ)) → AllByRecursion P frames → HoldsOfOffer P (in_phase phase round frames)
phase_offers P Reset round frames all = tt
phase_offers P Init round frames all = tt
phase_offers P Ready round frames all = tt
phase_offers P Run Anew [] all = tt
phase_offers P Run Anew (frame ∷ frames) all = all.0
phase_offers P Run AfterOffer frames all = tt
phase_offers P Run AfterPoll frames all = tt

or_finished : (P : List ℕ → Type 0) (b : Bool) (choice : Choice) → HoldsOfOffer P choice → HoldsOfOffer P (if b then IsFinished else choice)
or_finished P true choice holds = tt
or_finished P false choice holds = holds

pub choice_offers : (P : List ℕ → Type 0) (phase : Phase) (round : Round) (frames : List (List ℕ)) (delivered expected : ℕ) → AllByRecursion P frames → HoldsOfOffer P (choice_of phase round frames delivered expected)
choice_offers P phase round [] delivered expected all = or_finished P (nat_le expected delivered) _ (phase_offers P phase round [] all)
choice_offers P phase round (frame ∷ frames) delivered expected all = phase_offers P phase round (frame ∷ frames) all

pub but_first : (P : List ℕ → Type 0) (frames : List (List ℕ)) → AllByRecursion P frames → AllByRecursion P (drop 1 frames)
but_first P [] all = tt
but_first P (frame ∷ frames) all = all.1

after_one : (P : List ℕ → Type 0) (auto : Auto) (mark : Mark) → AllByRecursion P auto.frames → AllByRecursion P (counted auto mark).frames
after_one P auto (Accept frame) all = but_first P auto.frames all
after_one P auto _ all = all

pub left_keeps : (P : List ℕ → Type 0) (auto : Auto) (marks : List Mark) → AllByRecursion P auto.frames → AllByRecursion P (counted_all auto marks).frames
left_keeps P auto [] all = all
left_keeps P auto (mark ∷ marks) all = left_keeps P (counted auto mark) marks (after_one P auto mark all)
