-- The rows of a schedule follow one another up to its end.
use Rattle.std.proofs.Common.{mul-le-mul_right, ◌≡◌, ℕ, ◌-◌, ◌*◌, ◌^◌, ◌<◌, ◌≤◌, Bool, true, false, cond, eqb, List, [], ◌∷◌, ◌++◌, length, Ok, refl, sym, ap, subst, arith, eq-eqb}
use Rattle.std.specs.Prelude.{All}
use Rattle.std.proofs.lemmas.Bool.{ne_eqb}
use Rattle.line_format.specs.Rows.{row, flag_row, flag_rows}
use Rattle.line_format.proofs.ListLaws.{all_at, sum_up_to}
use Rattle.line_format.proofs.PartLaws.{no_rule, IsNext}
use Rattle.line_format.proofs.TestChains.{neither}
use Rattle.line_format.proofs.LawsOfTexts.{IsForward}
use Rattle.line_format.proofs.RowTexts.{Along, Joins, EachJoins, Reaches, flags_join, numbered_then, mapped_reach, rows_forward}
use Rattle.scenario_text.proofs.SizeTests.{HasRegion, is_geometry-true}
use Rattle.scenario_text.proofs.SpelledIsRead.{quarter, region_of}
use Rattle.port_text.specs.declared.acts.Act.{Act}
use Rattle.port_text.specs.declared.forms.Form.TheVariants.{Begin, End, Honest, Hostile}
use Rattle.port_text.specs.declared.positions.Position.{Position}
use Rattle.port_text.specs.declared.positions.Position.TheVariants.{AtPeer, AtBegin, AtActs, Ended}
use Rattle.port_text.specs.Sizes.{has_port}
use Rattle.port_text.specs.declared.limits.TheConstants.{MOST_TURNS}
use Rattle.port_text.specs.Acts.{cost}
use Rattle.port_text.specs.ActRows.{row_of_act}
use Rattle.port_text.specs.Scenario.{World, IsWorld, IsAllowed}
use Rattle.port_text.specs.Spelling.{sizes_rows, rows_of, IsSpelling, line_count}
use Rattle.port_text.specs.Judge.{DraftView, world_of_draft, ordinal_of, at_start, rules, machine, sense}
use Rattle.port_text.proofs.FormsAreTable.{is_table}
use Rattle.port_text.proofs.SizeTests.{has_port-true}
use Rattle.port_text.proofs.RowsOfActs.{act_gives, follows_act}

-- At this position of the text of w, after these peers and acts.
abbrev so_far : World → Position → List Bool → List Act → DraftView
so_far w position honest acts = record { position = position; peers = w.geometry.peers; out = 4 * w.geometry.out; most = w.most; honest = honest; acts = acts }

-- ---- the head

-- With these first flags; if each peer has one, `begin` comes next.
abbrev at_peers : World → List Bool → DraftView
at_peers w front = so_far w (cond (eqb (length front) w.geometry.peers) AtBegin AtPeer) front []

-- Up to the peers.
head_along : (w : World) → IsWorld w → Along rules at_start (sizes_rows w) (at_peers w [])
head_along w is =
    let g = w.geometry in
    let region : HasRegion g.peers 4096 0 (4 * g.out) = subst (λ (table : ℕ). HasRegion g.peers (4 * table) 0 (4 * g.out)) is.table (subst (λ (common : ℕ). HasRegion g.peers (4 * g.table) (4 * common) (4 * g.out)) is.common (region_of g is.geometry)) in
    let two = is.geometry.two_peers in
    let few = is.few in
    let room = is.geometry.room in
    let section : g.out ≤ g.peers * g.out = grows g.peers g.out (omega arith) in
    let o : 4 * g.out < 2 ^ 64 = omega arith in
    let m : w.most < 2 ^ 32 = omega (arith, is.size.2) in
    let ported : has_port w.most (4 * g.out) ≡ true = has_port-true _ _ (record { size = is.size; room = omega (arith, is.room) }) in
    let open_ : eqb 0 g.peers ≡ false = ne_eqb 0 g.peers (λ none. omega arith) in (
      record { values = (omega arith, omega arith, tt); bytes = refl; order = no_rule _; range = refl; peer = refl; size = refl; sizes = refl; room = refl },
      refl,
      (
        record { values = (two, few, tt); bytes = refl; order = no_rule _; range = refl; peer = refl; size = refl; sizes = refl; room = refl },
        refl,
        (
          record { values = (omega arith, omega arith, tt); bytes = refl; order = no_rule _; range = refl; peer = refl; size = refl; sizes = is_geometry-true _ _ _ _ region; room = refl },
          refl,
          (
            record { values = (omega arith, omega arith, tt); bytes = refl; order = no_rule _; range = refl; peer = refl; size = refl; sizes = ported; room = refl },
            refl,
            rw open_ refl,
          ),
        ),
      ),
    )
  where
    grows : (p n : ℕ) → 1 ≤ p → n ≤ p * n
    grows p n le = let one : 1 * n ≤ p * n = mul-le-mul_right n le in omega arith

peer_joins : (w : World) (front : List Bool) (b : Bool) → length front ≤ 2 ^ 64 - 1 → eqb (length front) w.geometry.peers ≡ false → IsNext (length front) → Joins rules (at_peers w) (flag_row Honest Hostile) front b
peer_joins w front true small more next = record { follows = record { values = (omega arith, small, tt); bytes = refl; order = rw more next; range = refl; peer = refl; size = refl; sizes = refl; room = refl }; gives = refl; continues = neither (λ p. eqb (ordinal_of p) 7) AtBegin AtPeer _ refl refl }
peer_joins w front false small more next = record { follows = record { values = (omega arith, small, tt); bytes = refl; order = rw more next; range = refl; peer = refl; size = refl; sizes = refl; room = refl }; gives = refl; continues = neither (λ p. eqb (ordinal_of p) 7) AtBegin AtPeer _ refl refl }

-- ---- the acts

-- The sizes in bytes are those in words.
world_is : (w : World) (front : List Act) → IsWorld w → world_of_draft (so_far w AtActs w.honest front) ≡ record w { acts = front }
world_is w front is = rw (quarter w.geometry.out, is.table, is.common) refl

acts_join : (w : World) → IsWorld w → EachJoins rules (so_far w AtActs w.honest) (λ k a. row_of_act a) w.acts
acts_join w is front rest a all =
    let here = all_at (IsAllowed w) front rest a (subst (λ (acts : List Act). All (IsAllowed w) acts) all is.allowed) in
    let now : IsAllowed (record w { acts = front }) a = record { values = here.values; bytes = here.bytes; range = here.range; peer = here.peer; message = here.message } in
    let then_ : IsAllowed (world_of_draft (so_far w AtActs w.honest front)) a = subst (λ (x : World). IsAllowed x a) (sym (world_is w front is)) now in
    record { follows = follows_act (so_far w AtActs w.honest front) a refl then_ (sum_up_to cost w.acts front rest a MOST_TURNS all is.turns); gives = act_gives (so_far w AtActs w.honest front) a; continues = refl }

-- ---- the whole text

abbrev at_end : World → DraftView
at_end w = so_far w Ended w.honest w.acts

-- The rows of a schedule lead to its end.
spelled_reaches : (w : World) → IsWorld w → Reaches rules at_start (rows_of w) (at_end w)
spelled_reaches w is =
    let full : eqb (length w.honest) w.geometry.peers ≡ true = eq-eqb _ _ is.flags in
    let begins : Along rules (at_peers w w.honest) (row Begin [] [] ∷ []) (so_far w AtActs w.honest []) = (record { values = tt; bytes = refl; order = rw full refl; range = refl; peer = refl; size = refl; sizes = refl; room = refl }, refl, refl) in
    let peers = flags_join rules (at_peers w) (flag_row Honest Hostile) w.honest w.geometry.peers is.flags is.few (peer_joins w) in
    mapped_reach rules at_start ((sizes_rows w ++ flag_rows Honest Hostile 0 w.honest) ++ row Begin [] [] ∷ []) (so_far w AtActs w.honest) row_of_act w.acts (row End [] []) (at_end w)
    (numbered_then rules at_start (sizes_rows w) (at_peers w) (flag_row Honest Hostile) w.honest (row Begin [] []) (so_far w AtActs w.honest []) (head_along w is) peers begins)
    (acts_join w is) (record { values = tt; bytes = refl; order = refl; range = refl; peer = refl; size = refl; sizes = refl; room = refl }) refl refl

pub is_forward : IsForward machine sense IsSpelling line_count
is_forward = rows_forward rules sense rows_of IsWorld at_end is_table spelled_reaches (λ w is. ap (λ (x : World). Ok x) (world_is w w.acts is))
