-- The peers that a row without a fault names.
use Rattle.std.proofs.Common.{◌≡◌, ℕ, ◌<◌, ◌≤◌, true, List}
use Rattle.std.specs.Prelude.{IsTrue, slice_index}
use Rattle.scenario_text.proofs.RowTests.{below, kind}
use Rattle.port_text.specs.declared.forms.Form.{Form}
use Rattle.port_text.specs.declared.forms.Form.TheVariants.{Publish, Sample, Turn, Poke}
use Rattle.port_text.specs.Judge.{DraftView, is_act, is_sample, rules}

pub small_peer : (d : DraftView) (form : Form) (ns : List ℕ) → d.peers ≤ 8 → rules.is_its_peer d form ns ≡ true → IsTrue (is_act form) → slice_index ns 0 < 8
small_peer d Publish ns few is act = kind _ d.peers _ few is
small_peer d Sample ns few is act = kind _ d.peers _ few is
small_peer d Turn ns few is act = below _ d.peers few is
small_peer d Poke ns few is act = kind _ d.peers _ few is
small_peer d _ ns few is act = absurd cc

pub small_from : (d : DraftView) (form : Form) (ns : List ℕ) → d.peers ≤ 8 → rules.is_in_range d form ns ≡ true → IsTrue (is_sample form) → slice_index ns 1 < 8
small_from d Sample ns few is act = below _ d.peers few is
small_from d _ ns few is act = absurd cc
