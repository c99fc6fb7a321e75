-- Answers with their causes.
use Rattle.std.proofs.Common.{◌≡◌, sym, ◌∙◌, subst, Option, Some, None}
use Rattle.ivshm_device.specs.declared.crossing.World.{World}
use Rattle.ivshm_device.specs.declared.device_state.DeviceState.{DeviceState}
use Rattle.c_status.specs.declared.status.Status.{Status}
use Rattle.c_status.specs.declared.status.Status.TheVariants.{Done, HasDevice}
use Rattle.ivshm_device.specs.Answers.{IfDone, IsNew, RefusesNew, MakesAnswered, made, has_device, refused}

-- a call is done
pub done : (status : Status) (step rest : Type 0) → status ≡ Done → step → IfDone status step rest
done status step rest is s = subst (λ x. IfDone x step rest) (sym is) s

-- what a call that is done did
pub undone : (status : Status) (step rest : Type 0) → status ≡ Done → IfDone status step rest → step
undone status step rest is s = subst (λ x. IfDone x step rest) is s

module _ (w : World) (old new : Option DeviceState) where
  pub holds_one : (state : DeviceState) → old ≡ Some state → new ≡ Some state → MakesAnswered old w HasDevice new
  holds_one state was is = subst (MakesAnswered old w HasDevice) (was ∙ sym is) (has_device (λ e. let wrong : Some state ≡ None = sym was ∙ e in absurd cc))

  pub new_one : (state : DeviceState) → old ≡ None → IsNew w state → new ≡ Some state → MakesAnswered old w Done new
  new_one state was is_new is = subst (MakesAnswered old w Done) (sym is) (made state was is_new)

  pub none_made : (status : Status) → old ≡ None → RefusesNew w status → old ≡ new → MakesAnswered old w status new
  none_made status was why is = subst (MakesAnswered old w status) is (refused status was why)
