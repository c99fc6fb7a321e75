-- A line of the head is taken if the sizes that it completes fit.
use Rattle.std.proofs.Common.{◌≡◌, ℕ, true, false, [], ◌∷◌, Ok, Err, refl}
use Rattle.scenario_text.specs.declared.faults.Cause.TheVariants.{BadGeometry}
use Rattle.scenario_text.specs.declared.forms.Form.TheVariants.{Out, Mtu}
use Rattle.scenario_text.specs.declared.positions.Position.TheVariants.{AtMtu, AtWiring}
use Rattle.scenario_text.specs.Sizes.{is_geometry, is_queue}
use Rattle.scenario_text.specs.Judge.{DraftView, head_with}

pub out_fits : (d : DraftView) (out : ℕ) → is_geometry d.peers d.table d.common out ≡ true → head_with Out (out ∷ []) d ≡ Ok (record d { position = AtMtu; out = out })
out_fits d out is = rw is refl

pub out_refused : (d : DraftView) (out : ℕ) → is_geometry d.peers d.table d.common out ≡ false → head_with Out (out ∷ []) d ≡ Err BadGeometry
out_refused d out is = rw is refl

pub mtu_fits : (d : DraftView) (mtu : ℕ) → is_queue (record { version = d.version; out = d.out; mtu = mtu }) ≡ true → head_with Mtu (mtu ∷ []) d ≡ Ok (record d { position = AtWiring; mtu = mtu })
mtu_fits d mtu is = rw is refl

pub mtu_refused : (d : DraftView) (mtu : ℕ) → is_queue (record { version = d.version; out = d.out; mtu = mtu }) ≡ false → head_with Mtu (mtu ∷ []) d ≡ Err BadGeometry
mtu_refused d mtu is = rw is refl
