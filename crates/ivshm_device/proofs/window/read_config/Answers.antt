use Rattle.std.proofs.Common.{refl, ◌∙◌, ◌≡◌, ℕ}
use Rattle.std.specs.Prelude.{Bool, true, false, if◌then◌else◌}
use Rattle.pci_space.specs.Fields.{is_access}
use Rattle.ivshm_device.proofs.window.read_config.Goals as goal

-- A value that is read if there is an access.
if_access : (b : Bool) (x y : ℕ) → b ≡ true → x ≡ y → x ≡ (if b then y else 0)
if_access true x y holds is = is
if_access false x y holds is = absurd cc

pub returns-in-Ok : goal.returns-in-Ok
returns-in-Ok c w events refines =
    if_access (is_access 256 c.args.offset c.args.width) _ _ (c.in-Ok.ensures.allowed.0 refl) (c.from.ensures ∙ c.in-Ok.ensures.value w events refines)
