-- The spelling of a scenario is read as the scenario.
use Rattle.std.proofs.Common.{◌≡◌, ℕ, ◌-◌, ◌*◌, ◌/◌, ◌%◌, ◌^◌, ◌<◌, ◌≤◌, Bool, true, false, cond, eqb, List, [], ◌∷◌, ◌++◌, length, take, drop, map, Some, Ok, refl, sym, ap, subst, arith, eq-eqb}
use Rattle.std.specs.Prelude.{slice_get, max}
use Rattle.std.proofs.lemmas.Bool.{ne_eqb}
use Rattle.line_format.specs.Rows.{Row, row, flag_row}
use Rattle.line_format.specs.Machine.{Leads, text_of_lines}
use Rattle.line_format.proofs.ListLaws.{sum_up_to}
use Rattle.line_format.proofs.PartLaws.{no_rule, IsNext}
use Rattle.line_format.proofs.TestChains.{neither}
use Rattle.line_format.proofs.LinesOfRows.{bare, text_is_lines}
use Rattle.line_format.proofs.LawsOfTexts.{IsForward, spelled_is_read}
use Rattle.line_format.proofs.RowTexts.{Along, along-append, Joins, EachJoins, Reaches, flags_join, numbered_then, mapped_reach, rows_lead, rows_forward}
use Rattle.section_map.specs.Geometry.{Shape, IsShape}
use Rattle.pci_space.specs.declared.wiring.Wiring.{Wiring}
use Rattle.pci_space.specs.declared.wiring.Wiring.TheVariants as wirings
use Rattle.pci_space.specs.Wiring.{IsWiring}
use Rattle.split_ring.specs.Layout.{IsVersion}
use Rattle.scenario_text.specs.declared.acts.Act.{Act}
use Rattle.scenario_text.specs.declared.forms.Form.{Form}
use Rattle.scenario_text.specs.declared.forms.Form.TheVariants.{Begin, End, Honest, Hostile}
use Rattle.scenario_text.specs.declared.positions.Position.{Position}
use Rattle.scenario_text.specs.declared.positions.Position.TheVariants.{AtPeers, AtWiring, AtPeer, AtBegin, AtActs, Ended}
use Rattle.scenario_text.specs.declared.limits.TheConstants.{MOST_ACTS}
use Rattle.scenario_text.specs.Acts.{cost}
use Rattle.scenario_text.specs.Table.{pieces_of}
use Rattle.scenario_text.specs.ActRows.{row_of_act}
use Rattle.scenario_text.specs.Sizes.{is_geometry, is_queue}
use Rattle.scenario_text.specs.Scenario.{World, IsWorld, IsAllowed}
use Rattle.scenario_text.specs.Spelling.{row_of_wiring, sizes_rows, head_rows, rows_of, spelling, IsSpelling, line_count}
use Rattle.scenario_text.specs.Judge.{DraftView, world_of_draft, ordinal_of, at_start, rules, machine, sense, answer}
use Rattle.scenario_text.proofs.FormsAreTable.{is_table}
use Rattle.scenario_text.proofs.SizeTests.{HasRegion, is_geometry-true, is_queue-true}
use Rattle.scenario_text.proofs.RowsOfActs.{act_gives, follows_act}

-- At this position of the text of w, after these peers and acts.
abbrev so_far : World → Position → List Bool → List Act → DraftView
so_far w position honest acts = record { position = position; version = w.version; peers = w.geometry.peers; table = 4 * w.geometry.table; common = 4 * w.geometry.common; out = 4 * w.geometry.out; mtu = w.queue.mtu; wiring = w.wiring; honest = honest; acts = acts }

-- ---- the head

-- At the wiring.
abbrev at_wiring : World → DraftView
at_wiring w = record (so_far w AtWiring [] []) { wiring = wirings.Intx }

after_version : (w : World) → (2 ≤ w.geometry.peers) × (w.geometry.peers ≤ 8) → 4 * w.geometry.table < 2 ^ 32 → 4 * w.geometry.common < 2 ^ 64 → 4 * w.geometry.out < 2 ^ 64 → w.queue.mtu < 2 ^ 32
    → is_geometry w.geometry.peers (4 * w.geometry.table) (4 * w.geometry.common) (4 * w.geometry.out) ≡ true → is_queue (record { version = w.version; out = 4 * w.geometry.out; mtu = w.queue.mtu }) ≡ true
    → Along rules (record at_start { position = AtPeers; version = w.version }) (drop 1 (sizes_rows w)) (at_wiring w)
after_version w few t c o m geometry queue = (
  record { values = (few.0, few.1, tt); bytes = refl; order = no_rule _; range = refl; peer = refl; size = refl; sizes = refl; room = refl },
  refl,
  (
    record { values = (omega arith, omega arith, tt); bytes = refl; order = no_rule _; range = refl; peer = refl; size = refl; sizes = refl; room = refl },
    refl,
    (
      record { values = (omega arith, omega arith, tt); bytes = refl; order = no_rule _; range = refl; peer = refl; size = refl; sizes = refl; room = refl },
      refl,
      (
        record { values = (omega arith, omega arith, tt); bytes = refl; order = no_rule _; range = refl; peer = refl; size = refl; sizes = geometry; room = refl },
        refl,
        (
          record { values = (omega arith, omega arith, tt); bytes = refl; order = no_rule _; range = refl; peer = refl; size = refl; sizes = queue; room = refl },
          refl,
          refl,
        ),
      ),
    ),
  ),
)

-- With these first flags; if each peer has one, `begin` comes next.
abbrev at_peers : World → List Bool → DraftView
at_peers w front = so_far w (cond (eqb (length front) w.geometry.peers) AtBegin AtPeer) front []

wiring_along : (w : World) → 2 ≤ w.geometry.peers → (wiring : Wiring) → w.wiring ≡ wiring → IsWiring wiring → Along rules (at_wiring w) (row_of_wiring wiring ∷ []) (at_peers w [])
wiring_along w some (wirings.Msix vectors) same is =
    (record { values = (is.0, is.1, tt); bytes = refl; order = no_rule _; range = refl; peer = refl; size = refl; sizes = refl; room = refl }, refl, rw (ne_eqb 0 w.geometry.peers (λ none. omega arith), same) refl)
wiring_along w some wirings.Intx same is =
    (record { values = tt; bytes = refl; order = no_rule _; range = refl; peer = refl; size = refl; sizes = refl; room = refl }, refl, rw (ne_eqb 0 w.geometry.peers (λ none. omega arith), same) refl)

peer_joins : (w : World) (front : List Bool) (b : Bool) → length front ≤ 2 ^ 64 - 1 → eqb (length front) w.geometry.peers ≡ false → IsNext (length front) → Joins rules (at_peers w) (flag_row Honest Hostile) front b
peer_joins w front true small more next = record { follows = record { values = (omega arith, small, tt); bytes = refl; order = rw more next; range = refl; peer = refl; size = refl; sizes = refl; room = refl }; gives = refl; continues = neither (λ p. eqb (ordinal_of p) 10) AtBegin AtPeer _ refl refl }
peer_joins w front false small more next = record { follows = record { values = (omega arith, small, tt); bytes = refl; order = rw more next; range = refl; peer = refl; size = refl; sizes = refl; room = refl }; gives = refl; continues = neither (λ p. eqb (ordinal_of p) 10) AtBegin AtPeer _ refl refl }

-- ---- the acts

pub quarter : (n : ℕ) → 4 * n / 4 ≡ n
quarter n = omega arith

-- The sizes in bytes are those in words.
pub world_is : (w : World) (front : List Act) → IsWorld w → world_of_draft (so_far w AtActs w.honest front) ≡ record w { acts = front }
world_is w front is =
    rw (quarter w.geometry.table, quarter w.geometry.common, quarter w.geometry.out, is.version, ← is.out) refl

act_at : (front : List Act) (a : Act) (rest : List Act) → slice_get (front ++ a ∷ rest) (length front) ≡ Some a
act_at [] a rest = refl
act_at (b ∷ front) a rest = act_at front a rest

front_of : (front rest : List Act) → take (length front) (front ++ rest) ≡ front
front_of [] rest = refl
front_of (b ∷ front) rest = ap (λ (t : List Act). b ∷ t) (front_of front rest)

acts_join : (w : World) → IsWorld w → EachJoins rules (so_far w AtActs w.honest) (λ k a. row_of_act a) w.acts
acts_join w is front rest a all =
    let at : slice_get w.acts (length front) ≡ Some a = rw all (act_at front a rest) in
    let here : take (length front) w.acts ≡ front = rw all (front_of front (a ∷ rest)) in
    let allowed : IsAllowed w front a = subst (λ (before : List Act). IsAllowed w before a) here (is.allowed (length front) a at) in
    let allowed' : IsAllowed (record w { acts = front }) front a = record { values = allowed.values; bytes = allowed.bytes; order = allowed.order; range = allowed.range; peer = allowed.peer; frame = allowed.frame } in
    let allowed'' : IsAllowed (world_of_draft (so_far w AtActs w.honest front)) front a = subst (λ (x : World). IsAllowed x front a) (sym (world_is w front is)) allowed' in
    record { follows = follows_act (so_far w AtActs w.honest front) a refl allowed'' (sum_up_to cost w.acts front rest a MOST_ACTS all is.turns); gives = act_gives (so_far w AtActs w.honest front) a; continues = refl }

-- ---- the whole text

whole_pages : (n : ℕ) → n % 1024 ≡ 0 → (4 * n) % 4096 ≡ 0
whole_pages n is = omega arith

pub region_of : (g : Shape) → IsShape g → HasRegion g.peers (4 * g.table) (4 * g.common) (4 * g.out)
region_of g is =
    let tables = is.table_pages in
    let commons = is.common_pages in
    let outs = is.out_pages in
    let t_some = is.table_page in
    let o_some = is.out_page in
    let states = is.states in
    let room = is.room in
    let sections : g.peers * (4 * g.out) ≡ 4 * (g.peers * g.out) = swap g.peers g.out in
    record {
      count = (is.two_peers, is.most_peers);
      table_pages = (omega arith, whole_pages g.table tables);
      common_pages = whole_pages g.common commons;
      out_pages = (omega arith, whole_pages g.out outs);
      states = omega arith;
      room = omega arith;
    }
  where
    swap : (p n : ℕ) → p * (4 * n) ≡ 4 * (p * n)
    swap p n = omega arith

abbrev pub at_end : World → DraftView
at_end w = so_far w Ended w.honest w.acts

abbrev head : World → List (Row Form)
head w = sizes_rows w ++ row_of_wiring w.wiring ∷ []

-- Up to the wiring.
head_along : (w : World) → IsWorld w → Along rules at_start (head w) (at_peers w [])
head_along w is =
    let g = w.geometry in
    let region = region_of g is.geometry in
    let room = is.geometry.room in
    let t : 4 * g.table < 2 ^ 32 = omega arith in
    let c : 4 * g.common < 2 ^ 64 = omega arith in
    let section = is.queue.section in
    let same_out = is.out in
    let o : 4 * g.out < 2 ^ 64 = omega arith in
    let most = is.queue.mtu_most in
    let m : w.queue.mtu < 2 ^ 32 = omega arith in
    let queue : is_queue (record { version = w.version; out = 4 * g.out; mtu = w.queue.mtu }) ≡ true = rw (← same_out, is.version) (is_queue-true w.queue is.queue) in
    let known : IsVersion w.version = rw is.version is.queue.known in
    let itself : w.version ≡ max 1 w.version = omega (arith, known.0) in
    let sizes : Along rules at_start (sizes_rows w) (at_wiring w) = (
      record { values = (known.0, known.1, tt); bytes = refl; order = no_rule _; range = refl; peer = refl; size = refl; sizes = refl; room = refl },
      refl,
      subst (λ v. Along rules (record at_start { position = AtPeers; version = v }) (drop 1 (sizes_rows w)) (at_wiring w)) itself (after_version w (is.geometry.two_peers, is.few) t c o m (is_geometry-true _ _ _ _ region) queue),
    ) in
    along-append rules at_start (sizes_rows w) (row_of_wiring w.wiring ∷ []) (at_wiring w) (at_peers w []) sizes (wiring_along w is.geometry.two_peers w.wiring refl is.wiring)

-- The rows of a scenario lead to its end.
spelled_reaches : (w : World) → IsWorld w → Reaches rules at_start (rows_of w) (at_end w)
spelled_reaches w is =
    let full : eqb (length w.honest) w.geometry.peers ≡ true = eq-eqb _ _ is.flags in
    let begins : Along rules (at_peers w w.honest) (row Begin [] [] ∷ []) (so_far w AtActs w.honest []) = (record { values = tt; bytes = refl; order = rw full refl; range = refl; peer = refl; size = refl; sizes = refl; room = refl }, refl, refl) in
    let peers = flags_join rules (at_peers w) (flag_row Honest Hostile) w.honest w.geometry.peers is.flags is.few (peer_joins w) in
    mapped_reach rules at_start (head_rows w ++ row Begin [] [] ∷ []) (so_far w AtActs w.honest) row_of_act w.acts (row End [] []) (at_end w)
    (numbered_then rules at_start (head w) (at_peers w) (flag_row Honest Hostile) w.honest (row Begin [] []) (so_far w AtActs w.honest []) (head_along w is) peers begins)
    (acts_join w is) (record { values = tt; bytes = refl; order = refl; range = refl; peer = refl; size = refl; sizes = refl; room = refl }) refl refl

pub is_forward : IsForward machine sense IsSpelling line_count
is_forward = rows_forward rules sense rows_of IsWorld at_end is_table spelled_reaches (λ w is. ap (λ (x : World). Ok x) (world_is w w.acts is))

-- The lines of a scenario's rows lead to its end.
pub spelled_leads : (w : World) → IsWorld w → Leads machine at_start (map (bare pieces_of) (rows_of w)) (at_end w)
spelled_leads w world = rows_lead rules is_table at_start (rows_of w) (at_end w) (spelled_reaches w world)

pub text_is : (w : World) → spelling w ≡ text_of_lines (map (bare pieces_of) (rows_of w))
text_is w = text_is_lines pieces_of (rows_of w)

pub is_answered : (w : World) (bytes : List ℕ) → IsSpelling w bytes → answer bytes ≡ Ok w
is_answered w bytes is = spelled_is_read is_forward w bytes is
