-- The rounds of an automatic end choose the same calls as its rule.
use Rattle.std.proofs.Common.{◌≡◌, ℕ, Bool, true, false, List, [], ◌∷◌, refl}
use Rattle.std.specs.Prelude.{not, nat_le, if◌then◌else◌}
use Rattle.link_handshake.specs.declared.Phase.{Phase}
use Rattle.link_handshake.specs.declared.Phase.TheVariants.{Reset, Init, Ready, Run}
use Rattle.call_grammar.specs.Calls.{in_run}
use Rattle.call_grammar.specs.Automatic.{Choice, ChoosesTick, ChoosesPoll, IsFinished, Anew, AfterOffer, AfterPoll, is_anew, was_offer, first_or_poll, in_round, in_phase, RoundsKeepTheRule}

-- A round in RUN.
in_run_by : (anew offer : Bool) (frames : List (List ℕ)) →
    in_round (if anew then Anew else if offer then AfterOffer else AfterPoll) frames ≡ (if anew then first_or_poll frames else if offer then ChoosesPoll else ChoosesTick)
in_run_by true offer [] = refl
in_run_by true offer (frame ∷ frames) = refl
in_run_by false true frames = refl
in_run_by false false frames = refl

-- A choice other than to finish.
in_phase_by : (phase : Phase) (anew offer : Bool) (frames : List (List ℕ)) →
    in_phase phase (if anew then Anew else if offer then AfterOffer else AfterPoll) frames
    ≡ (if not (in_run phase) then ChoosesTick else if anew then first_or_poll frames else if offer then ChoosesPoll else ChoosesTick)
in_phase_by Reset anew offer frames = refl
in_phase_by Init anew offer frames = refl
in_phase_by Ready anew offer frames = refl
in_phase_by Run anew offer frames = in_run_by anew offer frames

finishing : (finished : Bool) (a b : Choice) → a ≡ b → (if finished then IsFinished else a) ≡ (if finished then IsFinished else b)
finishing true a b same = refl
finishing false a b same = same

pub rounds_keep_the_rule : RoundsKeepTheRule
rounds_keep_the_rule phase before [] delivered expected = finishing (nat_le expected delivered) _ _ (in_phase_by phase (is_anew before) (was_offer before) [])
rounds_keep_the_rule phase before (frame ∷ frames) delivered expected = in_phase_by phase (is_anew before) (was_offer before) (frame ∷ frames)
