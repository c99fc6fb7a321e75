-- The peer of a row without a fault, and the act of a row.
use Rattle.std.proofs.Common.{◌≡◌, ℕ, ◌+◌, ◌<◌, ◌≤◌, Bool, true, false, cond, ltb, eqb, ◌&&◌, List, Some, Ok, refl, sym, arith}
use Rattle.std.specs.Prelude.{IsTrue, slice_index}
use Rattle.std.proofs.lemmas.Bool.{le-ltb, ltb-true}
use Rattle.line_format.specs.Grammar.{added}
use Rattle.line_format.proofs.SpellingsAreRead.{both_true}
use Rattle.scenario_text.specs.declared.acts.Act.{Act}
use Rattle.scenario_text.specs.declared.forms.Form.{Form}
use Rattle.scenario_text.specs.declared.forms.Form.TheVariants.{Out, Mtu, Tick, Offer, Poll, Stop, Auto, Storm, Turn, Reset, Poke, Peek, Set, Ring, CfgRead, CfgWrite, MmioRead, MmioWrite, MsixRead, MsixWrite, Lose, Again}
use Rattle.scenario_text.specs.declared.limits.TheConstants.{MOST_ACTS}
use Rattle.scenario_text.specs.Acts.{cost, turns_of}
use Rattle.scenario_text.specs.Judge.{DraftView, fits_sizes, act_of, is_act, with_act, rules}

-- ---- the peer

pub below : (p peers : ℕ) → peers ≤ 8 → ltb p peers ≡ true → p < 8
below p peers few is = let lt : p < peers = ltb-true p peers is in omega arith

pub kind : (p peers : ℕ) (b : Bool) → peers ≤ 8 → (ltb p peers && b) ≡ true → p < 8
kind p peers b few is = below p peers few (both_true (ltb p peers) b is).0

either : (c : Bool) (p peers : ℕ) (b : Bool) → peers ≤ 8 → cond c (ltb p peers && b) (ltb p peers) ≡ true → p < 8
either true p peers b few is = kind p peers b few is
either false p peers b few is = below p peers few is

pub small_peer : (d : DraftView) (form : Form) (ns : List ℕ) → d.peers ≤ 8 → rules.is_its_peer d form ns ≡ true → IsTrue (is_act form) → slice_index ns 0 < 8
small_peer d Tick ns few is act = kind _ 2 _ (omega arith) is
small_peer d Offer ns few is act = kind _ 2 _ (omega arith) is
small_peer d Poll ns few is act = kind _ 2 _ (omega arith) is
small_peer d Stop ns few is act = kind _ 2 _ (omega arith) is
small_peer d Auto ns few is act = kind _ 2 _ (omega arith) is
small_peer d Storm ns few is act = kind _ d.peers _ few is
small_peer d Poke ns few is act = kind _ d.peers _ few is
small_peer d Peek ns few is act = kind _ d.peers _ few is
small_peer d Set ns few is act = kind _ d.peers _ few is
small_peer d MmioWrite ns few is act = either (eqb (slice_index ns 1) 16) _ d.peers _ few is
small_peer d Turn ns few is act = below _ d.peers few is
small_peer d Reset ns few is act = below _ d.peers few is
small_peer d Ring ns few is act = below _ d.peers few is
small_peer d CfgRead ns few is act = below _ d.peers few is
small_peer d CfgWrite ns few is act = below _ d.peers few is
small_peer d MmioRead ns few is act = below _ d.peers few is
small_peer d MsixRead ns few is act = below _ d.peers few is
small_peer d MsixWrite ns few is act = below _ d.peers few is
small_peer d Lose ns few is act = below _ d.peers few is
small_peer d Again ns few is act = below _ d.peers few is
small_peer d _ ns few is act = absurd cc

-- ---- the row of an act

fits : (d : DraftView) (form : Form) (ns frame : List ℕ) (act : Act) → act_of form ns frame ≡ Some act → fits_sizes d form ns ≡ true
fits d Out ns frame act is = absurd cc
fits d Mtu ns frame act is = absurd cc
fits d _ ns frame act is = refl

-- The act of a row is added if all acts still count for few enough.
pub act_added : (d e : DraftView) (form : Form) (ns frame : List ℕ) (act : Act) (turns k : ℕ) → Some act ≡ act_of form ns frame → turns ≡ turns_of d.acts → k ≡ cost act → turns + k ≤ MOST_ACTS → e ≡ with_act act d
    → added rules d form ns frame ≡ Ok e
act_added d e form ns frame act turns k is counted costs few adds =
    let of : act_of form ns frame ≡ Some act = sym is in
    let few' : turns_of d.acts + cost act ≤ MOST_ACTS = rw (← counted, ← costs) few in
    rw (fits d form ns frame act of, of, le-ltb _ _ few', adds) refl
