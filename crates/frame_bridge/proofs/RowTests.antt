-- The port of a frame's row without a fault.
use Rattle.std.proofs.Common.{◌≡◌, ℕ, ◌<◌, true, List}
use Rattle.std.specs.Prelude.{slice_index}
use Rattle.std.proofs.lemmas.Bool.{ltb-true}
use Rattle.frame_bridge.specs.declared.forms.Form.{Form}
use Rattle.frame_bridge.specs.declared.forms.Form.TheVariants.{Frame}
use Rattle.frame_bridge.specs.Judge.{DraftView, rules}

pub port_below : (d : DraftView) (form : Form) (ns : List ℕ) → form ≡ Frame → rules.is_in_range d form ns ≡ true → slice_index ns 0 < d.ports
port_below d form ns is good = ltb-true _ _ (rw is at good)
