use Rattle.std.proofs.Common.{refl, sym, subst, ◌≡◌, ◌↔◌, ℕ, List, [], ◌∷◌, ◌++◌}
use Rattle.std.specs.Prelude.{Bool, true, false, if◌then◌else◌, Result, Ok, Err, IsOk, IsTrue, OnOk, IfErr}
use Rattle.pci_space.specs.Fields.{is_access}
use Rattle.doorbell_irq.specs.DeviceView.{DeviceView}
use Rattle.doorbell_irq.specs.Events.{Devices, Event, ConfigWritten}
use Rattle.doorbell_irq.specs.Refinement.{Refines}
use Rattle.ivshm_device.specs.Windows.{low_word}
use Rattle.ivshm_device.proofs.window.write_config.Goals as goal

-- A write is one event if there is an access, and none otherwise.
one_or_none : {X E : Type 0} (result : Result X E) (b : Bool) (w : Devices) (event : Event) (events : List Event) (old new : DeviceView) →
    (IsOk result ↔ IsTrue b) → OnOk result (Refines w (event ∷ events) new) → IfErr result (λ e. new ≡ old) → Refines w events old →
    Refines w ((if b then event ∷ [] else []) ++ events) new
one_or_none (Ok x) true w event events old new allowed written refused refines = written
one_or_none (Ok x) false w event events old new allowed written refused refines = absurd (let no : false ≡ true = allowed.0 refl in cc)
one_or_none (Err e) true w event events old new allowed written refused refines = absurd (let no : false ≡ true = allowed.1 refl in cc)
one_or_none (Err e) false w event events old new allowed written refused refines = subst (Refines w events) (sym refused) refines

pub returns-then-width-le4 : goal.returns-then-width-le4
returns-then-width-le4 c w events refines =
    let value : ℕ = c.low_word.result in
    one_or_none c.config_write.result (is_access 256 c.args.offset c.args.width) w
    (ConfigWritten c.args.peer c.args.offset c.args.width (low_word c.args.value)) events c.args.devices.now c.config_write.new.self
    c.config_write.ensures.allowed
    (subst (λ (v : ℕ). OnOk c.config_write.result (Refines w (ConfigWritten c.args.peer c.args.offset c.args.width v ∷ events) c.config_write.new.self)) c.low_word.ensures
    (c.config_write.ensures.written w events refines))
    c.config_write.ensures.refused refines
