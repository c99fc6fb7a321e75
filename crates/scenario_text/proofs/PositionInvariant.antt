-- The invariant of the lines so far at each position. Each row that can follow preserves it.
use Rattle.std.proofs.Common.{◌≡◌, ℕ, zero, suc, ◌+◌, ◌<◌, ◌≤◌, Bool, true, false, cond, eqb, List, [], ◌∷◌, ◌++◌, length, get_or, take, map, Some, refl, sym, ap, subst, ◌∙◌, arith, ◌⊎◌, inl, inr}
use Rattle.std.specs.Prelude.{slice_get, codes, max}
use Rattle.std.proofs.lemmas.Bool.{eqb-true, ltb-false}
use Rattle.std.proofs.lemmas.List.{append-nil}
use Rattle.std.proofs.lemmas.List.Sums.{sum_by_push}
use Rattle.line_format.specs.Rows.{Row, row, flag_row, flag_rows}
use Rattle.line_format.proofs.NumbersFit.{in_range, same_row, the_number, no_number}
use Rattle.line_format.proofs.PartLaws.{then_row, rows_at, numbers-push, rows-push, still_fewer, next_number}
use Rattle.line_format.proofs.TestChains.{either_false, not_false, not_true, same_some}
use Rattle.line_format.proofs.RowsFollow.{CanFollow}
use Rattle.line_format.proofs.RowTexts.{Adds, Keeps, keeps_item, AreKept}
use Rattle.line_format.proofs.FormsOfRows.{same_place}
use Rattle.pci_space.specs.declared.wiring.Wiring.{Wiring}
use Rattle.pci_space.specs.Wiring.{IsWiring}
use Rattle.split_ring.specs.Layout.{IsVersion, IsQueue}
use Rattle.scenario_text.specs.declared.acts.Act.{Act}
use Rattle.scenario_text.specs.declared.forms.Form.{Form}
use Rattle.scenario_text.specs.declared.forms.Form.TheVariants.{Version, Peers, Table, Common, Out, Mtu, Msix, Intx, Honest, Hostile, Begin, End}
use Rattle.scenario_text.specs.declared.positions.Position.{Position}
use Rattle.scenario_text.specs.declared.positions.Position.TheVariants.{AtVersion, AtPeers, AtTable, AtCommon, AtOut, AtMtu, AtWiring, AtPeer, AtBegin, AtActs, Ended}
use Rattle.scenario_text.specs.declared.limits.TheConstants.{MOST_ACTS}
use Rattle.scenario_text.specs.Acts.{cost, turns_of}
use Rattle.scenario_text.specs.ActRows.{row_of_act}
use Rattle.scenario_text.specs.Scenario.{World, IsAllowed, AreAllowed}
use Rattle.scenario_text.specs.Spelling.{row_of_wiring}
use Rattle.scenario_text.specs.Judge.{DraftView, world_of_draft, ordinal_of, position_of, rules}
use Rattle.scenario_text.proofs.SizeTests.{HasRegion, has_region, has_queue, small_section}
use Rattle.scenario_text.proofs.RowsOfActs.{act_row, act_of-row, act_gives, allowed_act}

-- ---- the rows before a position

abbrev sizes_rows : DraftView → List (Row Form)
sizes_rows d = row Version (d.version ∷ []) [] ∷ row Peers (d.peers ∷ []) [] ∷ row Table (d.table ∷ []) [] ∷ row Common (d.common ∷ []) [] ∷ row Out (d.out ∷ []) [] ∷ row Mtu (d.mtu ∷ []) [] ∷ []

abbrev pub rows_before : Position → DraftView → List (Row Form)
rows_before s d = rows_at (sizes_rows d ++ row_of_wiring d.wiring ∷ []) (flag_rows Honest Hostile 0 d.honest) (row Begin [] []) (map row_of_act d.acts) (row End [] []) (ordinal_of s)

-- ---- the invariant of a position

pub record Clean {A : Type 0} (honest : List Bool) (acts : List A) : Type 0 where
  pub honest_none : honest ≡ []
  pub acts_none : acts ≡ []

-- The same after the version.
pub record Versioned (version : ℕ) (honest : List Bool) (acts : List Act) : Type 0 where
  pub known : IsVersion version
  pub honest_none : honest ≡ []
  pub acts_none : acts ≡ []

abbrev pub IsFew : ℕ → Type 0
IsFew peers = (2 ≤ peers) × (peers ≤ 8)

-- The head's sizes are right.
pub record Measured (version peers table common out mtu : ℕ) (wiring : Wiring) : Type 0 where
  pub few : IsFew peers
  pub region : HasRegion peers table common out
  pub queue : IsQueue (record { version = version; out = out; mtu = mtu })
  pub wired : IsWiring wiring

abbrev pub IsMeasured : DraftView → Type 0
IsMeasured d = Measured d.version d.peers d.table d.common d.out d.mtu d.wiring

-- The acts so far are a scenario's.
pub record Acted (d : DraftView) : Type 0 where
  pub flags : length d.honest ≡ d.peers
  pub allowed : AreAllowed (world_of_draft d)
  pub turns : turns_of d.acts ≤ MOST_ACTS

abbrev pub PositionHolds : Position → DraftView → Type 0
PositionHolds AtVersion d = Clean d.honest d.acts
PositionHolds AtPeers d = Versioned d.version d.honest d.acts
PositionHolds AtTable d = Versioned d.version d.honest d.acts × IsFew d.peers
PositionHolds AtCommon d = Versioned d.version d.honest d.acts × IsFew d.peers
PositionHolds AtOut d = Versioned d.version d.honest d.acts × IsFew d.peers
PositionHolds AtMtu d = Versioned d.version d.honest d.acts × IsFew d.peers × HasRegion d.peers d.table d.common d.out
PositionHolds AtWiring d = Versioned d.version d.honest d.acts × IsFew d.peers × HasRegion d.peers d.table d.common d.out × IsQueue (record { version = d.version; out = d.out; mtu = d.mtu })
PositionHolds AtPeer d = IsMeasured d × (d.acts ≡ []) × (length d.honest < d.peers)
PositionHolds AtBegin d = IsMeasured d × (d.acts ≡ []) × (length d.honest ≡ d.peers)
PositionHolds AtActs d = IsMeasured d × Acted d
PositionHolds Ended d = IsMeasured d × Acted d

abbrev pub rows_so_far : DraftView → List (Row Form)
rows_so_far d = rows_before d.position d

abbrev pub IsGood : DraftView → Type 0
IsGood d = PositionHolds d.position d

-- ---- positions

abbrev pub positions : List Position
positions = AtVersion ∷ AtPeers ∷ AtTable ∷ AtCommon ∷ AtOut ∷ AtMtu ∷ AtWiring ∷ AtPeer ∷ AtBegin ∷ AtActs ∷ Ended ∷ []

pub listed : (s : Position) → slice_get positions (ordinal_of s) ≡ Some s
listed AtVersion = refl
listed _ = refl

-- ---- acts

-- Whether an act is allowed doesn't depend on later acts.
allowed_in : (w : World) (rows_before later : List Act) (a : Act) → IsAllowed w rows_before a → IsAllowed (record w { acts = later }) rows_before a
allowed_in w rows_before later a is = record { values = is.values; bytes = is.bytes; order = is.order; range = is.range; peer = is.peer; frame = is.frame }

get_front : (xs : List Act) (a b : Act) (k : ℕ) → slice_get (xs ++ a ∷ []) k ≡ Some b → ((slice_get xs k ≡ Some b) × (take k (xs ++ a ∷ []) ≡ take k xs)) ⊎ ((a ≡ b) × (take k (xs ++ a ∷ []) ≡ xs))
get_front [] a b zero is = inr (same_some a b is, refl)
get_front [] a b (suc k) is = absurd cc
get_front (x ∷ xs) a b zero is = inl (is, refl)
get_front (x ∷ xs) a b (suc k) is =
    elim (get_front xs a b k is) [
      | inl front ↦ inl (front.0, ap (λ (t : List Act). x ∷ t) front.1)
      | inr end ↦ inr (end.0, ap (λ (t : List Act). x ∷ t) end.1)
    ]

allowed-push : (w : World) (a : Act) → AreAllowed w → IsAllowed w w.acts a → AreAllowed (record w { acts = w.acts ++ a ∷ [] })
allowed-push w a all is k b at =
    elim (get_front w.acts a b k at) [
      | inl front ↦ rw front.1 (allowed_in w (take k w.acts) (w.acts ++ a ∷ []) b (all k b front.0))
      | inr end ↦ rw (end.1, ← end.0) (allowed_in w w.acts (w.acts ++ a ∷ []) a is)
    ]

-- The row of an act adds the act.
keeps_act : (d : DraftView) → d.position ≡ AtActs → PositionHolds AtActs d → (a : Act) → CanFollow rules d (row_of_act a) → Keeps rules rows_so_far IsGood d (row_of_act a)
keeps_act d at good a can =
    let few : turns_of d.acts + cost a ≤ MOST_ACTS = ltb-false _ _ (not_true _ (rw (act_of-row a) at can.room)) in
    let allowed = allowed-push (world_of_draft d) a good.1.allowed (allowed_act d a at can) in
    subst (λ (e : DraftView). Adds rows_so_far IsGood d (row_of_act a) e) (sym (act_gives d a)) (record {
      rows = rw at (rows-push (rows_before AtBegin d ++ row Begin [] [] ∷ []) row_of_act d.acts a (row_of_act a) refl);
      good = rw at (good.0, record { flags = good.1.flags; allowed = allowed; turns = rw (sum_by_push cost d.acts a) few });
    })

-- ---- peers

-- The line of a peer adds its row. After the last peer `begin` comes next.
adds_peer : (d : DraftView) (b : Bool) (r : Row Form) → d.position ≡ AtPeer → flag_row Honest Hostile (length d.honest) b ≡ r → PositionHolds AtPeer d → (full : Bool) → eqb (length (d.honest ++ b ∷ [])) d.peers ≡ full
    → Adds rows_so_far IsGood d r (record d { position = cond full AtBegin AtPeer; honest = d.honest ++ b ∷ [] })
adds_peer d b r at e good true is = record { rows = rw at (numbers-push (sizes_rows d ++ row_of_wiring d.wiring ∷ []) (flag_row Honest Hostile) d.honest b r e); good = (good.0, good.1, eqb-true _ _ is) }
adds_peer d b r at e good false is = record { rows = rw at (numbers-push (sizes_rows d ++ row_of_wiring d.wiring ∷ []) (flag_row Honest Hostile) d.honest b r e); good = (good.0, good.1, still_fewer d.honest b d.peers good.2 is) }

-- ---- each form

adds : (form : Form) (ns frame : List ℕ) (d : DraftView) → d.position ≡ position_of form → PositionHolds (position_of form) d → CanFollow rules d (row form ns frame) → Keeps rules rows_so_far IsGood d (row form ns frame)
adds Version ns frame d at good can =
    let known = in_range 1 3 [] ns can.values in
    let itself : max 1 (get_or ns 0 0) ≡ get_or ns 0 0 = omega (arith, known.0) in
    let same : row Version (max 1 (get_or ns 0 0) ∷ []) [] ≡ row Version ns frame = ap (λ n. row Version (n ∷ []) []) itself ∙ the_number Version _ _ ns frame can.values can.bytes in
    record { rows = rw at (then_row [] same); good = record { known = (omega (arith, known.0, known.1), omega (arith, known.0, known.1)); honest_none = good.honest_none; acts_none = good.acts_none } }
adds Peers ns frame d at good can = record { rows = rw at (then_row (rows_before AtPeers d) (the_number Peers _ _ ns frame can.values can.bytes)); good = (good, in_range 2 8 [] ns can.values) }
adds Table ns frame d at good can = record { rows = rw at (then_row (rows_before AtTable d) (the_number Table _ _ ns frame can.values can.bytes)); good = good }
adds Common ns frame d at good can = record { rows = rw at (then_row (rows_before AtCommon d) (the_number Common _ _ ns frame can.values can.bytes)); good = good }
adds Out ns frame d at good can = record { rows = rw at (then_row (rows_before AtOut d) (the_number Out _ _ ns frame can.values can.bytes)); good = (good.0, good.1, has_region _ _ _ _ can.sizes) }
adds Mtu ns frame d at good can = record { rows = rw at (then_row (rows_before AtMtu d) (the_number Mtu _ _ ns frame can.values can.bytes)); good = (good.0, good.1, good.2, has_queue _ good.0.known (small_section _ _ _ _ good.2) can.sizes) }
adds Msix ns frame d at good can = record {
  rows = rw (at, good.0.honest_none) (then_row (rows_before AtWiring d) (the_number Msix _ _ ns frame can.values can.bytes));
  good = (record { few = good.1; region = good.2; queue = good.3; wired = in_range 1 64 [] ns can.values }, good.0.acts_none, omega (arith, ap length good.0.honest_none, good.1.0));
}
adds Intx ns frame d at good can = record {
  rows = rw (at, good.0.honest_none) (then_row (rows_before AtWiring d) (no_number Intx ns frame can.values can.bytes));
  good = (record { few = good.1; region = good.2; queue = good.3; wired = tt }, good.0.acts_none, omega (arith, ap length good.0.honest_none, good.1.0));
}
adds Honest ns frame d at good can = adds_peer d true _ at (same_row Honest _ ns frame (next_number (length d.honest) (codes "peer") _ ns frame can.values (either_false _ _ can.order).1) (sym can.bytes)) good _ refl
adds Hostile ns frame d at good can = adds_peer d false _ at (same_row Hostile _ ns frame (next_number (length d.honest) (codes "peer") _ ns frame can.values (either_false _ _ can.order).1) (sym can.bytes)) good _ refl
adds Begin ns frame d at good can = record {
  rows = rw (at, good.1) (append-nil (rows_before AtBegin d ++ row Begin [] [] ∷ []) ∙ then_row (rows_before AtBegin d) (no_number Begin ns frame can.values can.bytes));
  good = (good.0, record { flags = good.2; allowed = rw good.1 (λ k a is. absurd cc); turns = rw good.1 (omega arith) });
}
adds End ns frame d at good can = record { rows = rw at (then_row (rows_before AtActs d) (no_number End ns frame can.values can.bytes)); good = (good.0, record { flags = good.1.flags; allowed = good.1.allowed; turns = good.1.turns }) }
adds form ns frame d at good can = keeps_item rules d row_of_act (row form ns frame) (act_row form ns frame refl can.values can.bytes) (keeps_act d at good) can

-- A row that can follow preserves the invariant, and adds its line.
pub are_kept : AreKept rules rows_so_far IsGood
are_kept d r can good =
    let at = same_place positions ordinal_of listed (position_of r.form) d.position (not_false _ (either_false _ _ can.order).0) in
    adds r.form r.numbers r.frame d at (subst (λ (p : Position). PositionHolds p d) at good) can
