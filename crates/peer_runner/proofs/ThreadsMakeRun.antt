-- The actions of peers in threads are a run of their scenario.
use Rattle.std.proofs.Common.{◌≡◌, ◌≢◌, ℕ, zero, suc, ◌+◌, ◌-◌, ◌<◌, ◌≤◌, Bool, true, false, All, List, [], ◌∷◌, ◌++◌, length, map, refl, sym, ap, ◌∙◌, subst, arith, append-nil, eq-eqb, ne_eqb, get_or, take}
use Rattle.std.specs.Prelude.{if◌then◌else◌, filter, Contains}
use Rattle.split_ring.specs.Layout.{has_events}
use Rattle.std.specs.List.{list_any, range_with_len, AllByRecursion}
use Rattle.std.proofs.lemmas.List.{map-append}
use Rattle.std.proofs.lemmas.List.Elements.{All-from_recursion}
use Rattle.std.proofs.lemmas.Grind.{flat_map-append}
use Rattle.atomic_table.specs.Seated.{TableId}
use Rattle.scenario_text.specs.Scenario.{World}
use Rattle.scenario_text.specs.Running.{has_turn}
use Rattle.call_grammar.specs.Steps.{Step}
use Rattle.call_grammar.specs.Calls.{EndConfig}
use Rattle.link_machine.specs.LinkMachine.{Side, Log, DeliversInOrder}
use Rattle.pair_sessions.specs.Numbers.{own_side}
use Rattle.lawful_history.specs.declared.line.Line.{Line}
use Rattle.lawful_history.specs.Sides.{config_of}
use Rattle.lawful_history.specs.Storm.{storm_step}
use Rattle.record_text.specs.Parts.{Part, peers_of, running_peers}
use Rattle.record_text.specs.declared.own_trace.OwnTrace.{OwnTrace}
use Rattle.record_text.specs.OwnParts.{part_of}
use Rattle.shared_words.specs.declared.run_setup.RunSetup.{RunSetup}
use Rattle.shared_words.specs.PassView.{PassView}
use Rattle.shared_words.specs.RunSetups.{world_in, config_in, honest_of, IsMadeFor}
use Rattle.shared_words.specs.Actions.{Action, accesses_in}
use Rattle.shared_words.specs.DerivedStates.{CallAccess, MemoryOp, event_word, DerivedState, initial_derived_state, derived_state, NeverMarked}
use Rattle.doorbell_irq.specs.Routes.{is_intx}
use Rattle.shared_words.specs.Interrupts.{count_in, sum_below, rings_bit, finds_bit, AreRung}
use Rattle.shared_words.specs.Rules.{accesses_by, list_of, SessionsAreLearned, CarriesNone, NoneIsMissed, AllIsLearned, IsLearned}
use Rattle.shared_words.specs.Passes.{held, lower_pass, join_passes, shown, actions_of}
use Rattle.doorbell_irq.specs.declared.route.Route.{Route}
use Rattle.shared_words.specs.PeerRoutes.{AreRoutesOf}
use Rattle.peer_runner.specs.Turns.{Running, comes_to, all_turns, TakesTurns, lines_of_turns}
use Rattle.peer_runner.specs.OwnRecord.{IsTraceOf, start_of, spans_of, IsOwnRecord}
use Rattle.peer_runner.specs.RunningRecord.{RecordReader, initial_reader, reader_after_lines, reader_of_lines, reader_of_part, side_in, ReaderMatches, AreWoken, lines_if, lines_by, refuses, how_many, is_interrupt, is_interrupt_by, is_bell, bells_in, InterruptsMatch, ArePaired, CarryNone, IsRunOf}
use Rattle.peer_runner.specs.Drives.{storm_in, Did, HasRun, RanIf, RanOne, RanAll}
use Rattle.shared_words.proofs.FoldOfOperations.{standing_none}
use Rattle.shared_words.proofs.Actions.{accesses_none}
use Rattle.shared_words.proofs.SumsOfCounts.{weigh_none, tally_zero, tally_first}
use Rattle.peer_runner.proofs.InterruptsAreRung.{many_none, LinesFollowRings, turns_report}

-- Own records

world_from : (world : World) (key : RunSetup) → IsMadeFor world key → world_in key ≡ record (world_in key) { geometry = world.geometry; queue = world.queue; wiring = world.wiring }
world_from world key made = λ i. record (world_in key) { geometry = made.geometry i; queue = made.queue i; wiring = made.wiring i }

same_config : (world : World) (key : RunSetup) (p : ℕ) → IsMadeFor world key → config_in key p ≡ config_of world p
same_config world key p made = ap (λ (w : World). config_of w p) (world_from world key made)

same_storm : (world : World) (key : RunSetup) (p : ℕ) → IsMadeFor world key → storm_in key p ≡ storm_step world p
same_storm world key p made = ap (λ (w : World). storm_step w p) (world_from world key made)

own_record : (world : World) (key : RunSetup) (routes : List Route) (p : ℕ) (list : List (Action (MemoryOp CallAccess))) (t : OwnTrace) → IsMadeFor world key → AreRoutesOf world routes →
    (did : Did key routes p (start_of world.acts p) (spans_of world.acts p) list) × IsTraceOf p (all_turns (spans_of world.acts p)) did.turns did.after (part_of t) → IsOwnRecord world (shown list) (part_of t)
own_record world key routes p list t made routed ran = let did = ran.0 in let recorded = ran.1 in let part : Part = part_of t in
    let P : ℕ → Type 0 = λ q. TakesTurns (config_of world q) (storm_step world q) routes (comes_to (start_of world.acts q) (spans_of world.acts q)) did.turns did.after × IsTraceOf q (all_turns (spans_of world.acts q)) did.turns did.after part in
    let run : Running = comes_to (start_of world.acts p) (spans_of world.acts p) in
    let takes : TakesTurns (config_of world p) (storm_step world p) routes run did.turns did.after = subst (λ (w : EndConfig). TakesTurns w (storm_step world p) routes run did.turns did.after) (same_config world key p made)
    (subst (λ (f : ℕ → Step). TakesTurns (config_in key p) f routes run did.turns did.after) (same_storm world key p made) did.takes) in
    let both : P part.peer = subst P (sym recorded.peer) (takes, recorded) in
    record { routes = routes; routed = routed; taken = did.turns; after = did.after; takes = both.0; made = did.made; recorded = both.1 }

own_append : (world : World) (key : RunSetup) → IsMadeFor world key → (acc : ℕ → List (Action (MemoryOp CallAccess))) (from : ℕ) (list : List (Action (MemoryOp CallAccess))) (mine rest : List OwnTrace) → acc from ≡ list → RanOne world key from list mine →
    AllByRecursion (λ (part : Part). IsOwnRecord world (shown (acc part.peer)) part) (map part_of rest) → AllByRecursion (λ (part : Part). IsOwnRecord world (shown (acc part.peer)) part) (map part_of (mine ++ rest))
own_append world key made acc from list mine rest here ran all = by (has_turn world.acts from) ran
  where
    P : Part → Type 0
    P part = IsOwnRecord world (shown (acc part.peer)) part

    by : (b : Bool) → RanIf b world key from list mine → AllByRecursion P (map part_of (mine ++ rest))
    by true r = let t : OwnTrace = r.0 in let own : IsOwnRecord world (shown list) (part_of t) = own_record world key r.2 from list t made r.3 r.4 in
        let spot : acc t.peer ≡ list = ap acc r.4.1.peer ∙ here in
        subst (λ ts. AllByRecursion P (map part_of (ts ++ rest))) (sym r.1) (subst (λ l. IsOwnRecord world (shown l) (part_of t)) (sym spot) own, all)
    by false r = subst (λ ts. AllByRecursion P (map part_of (ts ++ rest))) (sym r.1) all

-- By the lists of a range of peers.
own_each : (world : World) (key : RunSetup) → IsMadeFor world key → (acc : ℕ → List (Action (MemoryOp CallAccess))) (from : ℕ) (lists : List (List (Action (MemoryOp CallAccess)))) (traces : List OwnTrace) → ((k : ℕ) → k < length lists → acc (from + k) ≡ get_or lists k []) → RanAll world key from lists traces →
    AllByRecursion (λ (part : Part). IsOwnRecord world (shown (acc part.peer)) part) (map part_of traces)
unfolding RanAll
own_each world key made acc from [] traces at none = subst (λ ts. AllByRecursion (λ (part : Part). IsOwnRecord world (shown (acc part.peer)) part) (map part_of ts)) (sym none) tt
own_each world key made acc from (list ∷ lists) traces at ran =
    let P : Part → Type 0 = λ part. IsOwnRecord world (shown (acc part.peer)) part in
    let rest = own_each world key made acc (suc from) lists ran.1 (λ k lt. let e : suc from + k ≡ from + suc k = omega arith in ap acc e ∙ at (suc k) (omega arith)) ran.4 in
    let here : acc from ≡ list = (let e : from ≡ from + 0 = omega arith in ap acc e) ∙ at 0 (omega arith) in
    subst (λ ts. AllByRecursion P (map part_of ts)) (sym ran.2) (own_append world key made acc from list ran.0 ran.1 here ran.3 rest)

-- The running peers

next_number : (from n : ℕ) → range_with_len (suc from) n ≡ range_with_len (from + 1) n
next_number from n = let e : suc from ≡ from + 1 = omega arith in ap (λ k. range_with_len k n) e

one_in : (world : World) (key : RunSetup) (from : ℕ) (list : List (Action (MemoryOp CallAccess))) (mine rest : List OwnTrace) (b : Bool) (others : List ℕ) → has_turn world.acts from ≡ b → RanIf b world key from list mine → peers_of (map part_of rest) ≡ filter (has_turn world.acts) others →
    peers_of (map part_of (mine ++ rest)) ≡ filter (has_turn world.acts) (from ∷ others)
one_in world key from list mine rest true others is r are = ap (λ ts. peers_of (map part_of (ts ++ rest))) r.1 ∙ ((λ i. r.4.1.peer i ∷ are i) ∙ sym (ap (λ (b : Bool). if b then from ∷ filter (has_turn world.acts) others else filter (has_turn world.acts) others) is))
one_in world key from list mine rest false others is r are = ap (λ ts. peers_of (map part_of (ts ++ rest))) r.1 ∙ (are ∙ sym (ap (λ (b : Bool). if b then from ∷ filter (has_turn world.acts) others else filter (has_turn world.acts) others) is))

peers_in : (world : World) (key : RunSetup) (from : ℕ) (lists : List (List (Action (MemoryOp CallAccess)))) (traces : List OwnTrace) → RanAll world key from lists traces → peers_of (map part_of traces) ≡ filter (has_turn world.acts) (range_with_len from (length lists))
unfolding RanAll
peers_in world key from [] traces none = ap (λ ts. peers_of (map part_of ts)) none
peers_in world key from (list ∷ lists) traces ran = ap (λ ts. peers_of (map part_of ts)) ran.2 ∙
    one_in world key from list ran.0 ran.1 (has_turn world.acts from) (range_with_len (from + 1) (length lists)) refl ran.3 (peers_in world key (suc from) lists ran.1 ran.4 ∙ ap (filter (has_turn world.acts)) (next_number from (length lists)))

pub peers_are : (world : World) (key : RunSetup) (lists : List (List (Action (MemoryOp CallAccess)))) (traces : List OwnTrace) (parts : List Part) → length lists ≡ world.geometry.peers → parts ≡ map part_of traces → RanAll world key 0 lists traces → peers_of parts ≡ running_peers world
peers_are world key lists traces parts size is ran = ap peers_of is ∙ (peers_in world key 0 lists traces ran ∙ ap (λ n. filter (has_turn world.acts) (range_with_len 0 n)) size)

-- A peer that doesn't run has no access.
idle_at : (world : World) (key : RunSetup) (from : ℕ) (lists : List (List (Action (MemoryOp CallAccess)))) (traces : List OwnTrace) (k : ℕ) → RanAll world key from lists traces → has_turn world.acts (from + k) ≡ false → get_or lists k [] ≡ []
unfolding RanAll
idle_at world key from [] traces k none off = refl
idle_at world key from (list ∷ lists) traces zero ran off = let e : from + 0 ≡ from = omega arith in let still : has_turn world.acts from ≡ false = ap (has_turn world.acts) (sym e) ∙ off in
    (subst (λ (b : Bool). RanIf b world key from list ran.0) still ran.3).0
idle_at world key from (list ∷ lists) traces (suc k) ran off = let e : from + suc k ≡ suc from + k = omega arith in idle_at world key (suc from) lists ran.1 k ran.4 (ap (has_turn world.acts) (sym e) ∙ off)

-- The lines of one peer

lines_none : (p : ℕ) → lines_by [] p ≡ []
unfolding lines_by
lines_none p = refl

lines_both : (xs ys : List Part) (p : ℕ) → lines_by (xs ++ ys) p ≡ lines_by xs p ++ lines_by ys p
unfolding lines_by
lines_both xs ys p = flat_map-append (lines_if p) xs ys

lines_one : (part : Part) (p : ℕ) → lines_by (part ∷ []) p ≡ lines_if p part
unfolding lines_by
lines_one part p = append-nil (lines_if p part)

lines_here : (part : Part) (p : ℕ) → part.peer ≡ p → lines_by (part ∷ []) p ≡ part.lines
lines_here part p is = lines_one part p ∙ ap (λ (b : Bool). if b then part.lines else []) (eq-eqb part.peer p is)

lines_beside : (part : Part) (p : ℕ) → part.peer ≢ p → lines_by (part ∷ []) p ≡ []
lines_beside part p isnt = lines_one part p ∙ ap (λ (b : Bool). if b then part.lines else []) (ne_eqb part.peer p isnt)

-- The facts of an honest peer by its list and its lines.
record Says (key : RunSetup) (p : ℕ) (list : List (Action (MemoryOp CallAccess))) (lines : List Line) : Type 0 where
  recorded : ReaderMatches (derived_state key p (accesses_in list)) (reader_of_lines (event_word (config_in key p)) lines)
  refused : NeverMarked key p (accesses_in list) → list_any refuses lines ≡ false

-- A peer without lines is in its first state.
nothing_recorded : (event : ℕ) → reader_of_lines event [] ≡ initial_reader
unfolding reader_after_lines
nothing_recorded event = refl

says_none : (key : RunSetup) (p : ℕ) → Says key p [] []
says_none key p = record {
  recorded = subst (λ (s : DerivedState). ReaderMatches s (reader_of_lines (event_word (config_in key p)) [])) (sym at) (subst (ReaderMatches initial_derived_state) (sym (nothing_recorded (event_word (config_in key p)))) (record { side = refl; log = refl; asked = refl; missed = refl }));
  refused = λ never. refl;
}
  where
    at : derived_state key p (accesses_in []) ≡ initial_derived_state
    at = ap (derived_state key p) accesses_none ∙ standing_none key p

one_lines : (world : World) (key : RunSetup) (p q : ℕ) (list : List (Action (MemoryOp CallAccess))) (mine : List OwnTrace) (b : Bool) → RanIf b world key q list mine → q ≢ p → lines_by (map part_of mine) p ≡ []
one_lines world key p q list mine true r ne = ap (λ ts. lines_by (map part_of ts) p) r.1 ∙ lines_beside (part_of r.0) p (λ e. ne (sym r.4.1.peer ∙ e))
one_lines world key p q list mine false r ne = ap (λ ts. lines_by (map part_of ts) p) r.1 ∙ lines_none p

own_says : (world : World) (key : RunSetup) (p : ℕ) (list : List (Action (MemoryOp CallAccess))) (mine : List OwnTrace) (b : Bool) → honest_of key p ≡ true → RanIf b world key p list mine → Says key p list (lines_by (map part_of mine) p)
own_says world key p list mine true honest r = let t : OwnTrace = r.0 in let did = r.4.0 in let recorded = r.4.1 in let left = did.left honest in
    let lines : lines_by (map part_of mine) p ≡ lines_of_turns p did.turns = ap (λ ts. lines_by (map part_of ts) p) r.1 ∙ (lines_here (part_of t) p recorded.peer ∙ recorded.lines) in
    subst (Says key p list) (sym lines) (record { recorded = left.recorded; refused = left.refused })
own_says world key p list mine false honest r = let lines : lines_by (map part_of mine) p ≡ [] = ap (λ ts. lines_by (map part_of ts) p) r.1 ∙ lines_none p in
    subst (λ l. Says key p l (lines_by (map part_of mine) p)) (sym r.0) (subst (Says key p []) (sym lines) (says_none key p))

-- Peers from one on have no lines of an earlier one.
lines_past : (world : World) (key : RunSetup) (p from : ℕ) (lists : List (List (Action (MemoryOp CallAccess)))) (traces : List OwnTrace) → p < from → RanAll world key from lists traces → lines_by (map part_of traces) p ≡ []
unfolding RanAll
lines_past world key p from [] traces lt none = ap (λ ts. lines_by (map part_of ts) p) none ∙ lines_none p
lines_past world key p from (list ∷ lists) traces lt ran = ap (λ ts. lines_by (map part_of ts) p) ran.2 ∙ (ap (λ ps. lines_by ps p) (map-append part_of ran.0 ran.1) ∙ (lines_both (map part_of ran.0) (map part_of ran.1) p
    ∙ (λ i. one_lines world key p from list ran.0 (has_turn world.acts from) ran.3 (λ e. omega arith) i ++ lines_past world key p (suc from) lists ran.1 (omega arith) ran.4 i)))

says_at : (world : World) (key : RunSetup) (from k : ℕ) (lists : List (List (Action (MemoryOp CallAccess)))) (traces : List OwnTrace) → k < length lists → honest_of key (from + k) ≡ true → RanAll world key from lists traces →
    Says key (from + k) (get_or lists k []) (lines_by (map part_of traces) (from + k))
unfolding RanAll
says_at world key from k [] traces lt honest none = absurd (omega arith)
says_at world key from zero (list ∷ lists) traces lt honest ran = let e : from ≡ from + 0 = omega arith in subst (λ p. Says key p list (lines_by (map part_of traces) p)) e
    (subst (Says key from list) (sym (ap (λ ts. lines_by (map part_of ts) from) ran.2 ∙ (ap (λ ps. lines_by ps from) (map-append part_of ran.0 ran.1) ∙ (lines_both (map part_of ran.0) (map part_of ran.1) from
    ∙ (ap (λ l. lines_by (map part_of ran.0) from ++ l) (lines_past world key from (suc from) lists ran.1 (omega arith) ran.4) ∙ append-nil (lines_by (map part_of ran.0) from))))))
    (own_says world key from list ran.0 (has_turn world.acts from) (ap (honest_of key) e ∙ honest) ran.3))
says_at world key from (suc k) (list ∷ lists) traces lt honest ran = let e : suc from + k ≡ from + suc k = omega arith in let p = from + suc k in
    let rest : Says key p (get_or lists k []) (lines_by (map part_of ran.1) p) = subst (λ q. Says key q (get_or lists k []) (lines_by (map part_of ran.1) q)) e (says_at world key (suc from) k lists ran.1 (omega arith) (ap (honest_of key) e ∙ honest) ran.4) in
    subst (Says key p (get_or lists k [])) (sym (ap (λ ts. lines_by (map part_of ts) p) ran.2 ∙ (ap (λ ps. lines_by ps p) (map-append part_of ran.0 ran.1) ∙ (lines_both (map part_of ran.0) (map part_of ran.1) p
    ∙ ap (λ l. l ++ lines_by (map part_of ran.1) p) (one_lines world key p from list ran.0 (has_turn world.acts from) ran.3 (λ e. omega arith)))))) rest

both_honest : (key : RunSetup) → honest_of key 0 ≡ true → honest_of key 1 ≡ true → (p : ℕ) → p < 2 → honest_of key p ≡ true
both_honest key a b zero lt = a
both_honest key a b (suc zero) lt = b
both_honest key a b (suc (suc p)) lt = absurd (omega arith)

says_of : (world : World) (key : RunSetup) (lists : List (List (Action (MemoryOp CallAccess)))) (traces : List OwnTrace) → 2 ≤ length lists → RanAll world key 0 lists traces → (p : ℕ) → p < 2 → honest_of key p ≡ true → Says key p (list_of lists p) (lines_by (map part_of traces) p)
says_of world key lists traces two ran p p2 honest = let e : 0 + p ≡ p = omega arith in subst (λ q. Says key q (get_or lists p []) (lines_by (map part_of traces) q)) e (says_at world key 0 p lists traces (omega arith) (ap (honest_of key) e ∙ honest) ran)

-- The own event word by the scenario and by the key that was made for it.
event_is : (world : World) (key : RunSetup) → IsMadeFor world key → (p : ℕ) → event_word (config_in key p) ≡ event_word (config_of world p)
event_is world key made p = ap event_word (same_config world key p made)

reader_matches_in : (world : World) (key : RunSetup) (parts : List Part) → IsMadeFor world key → (p : ℕ) (list : List (Action (MemoryOp CallAccess))) → Says key p list (lines_by parts p) → ReaderMatches (derived_state key p (accesses_in list)) (reader_of_part world parts p)
reader_matches_in world key parts made p list says = subst (λ event. ReaderMatches (derived_state key p (accesses_in list)) (reader_of_lines event (lines_by parts p))) (event_is world key made p) says.recorded

-- Two sides by the lines are those that their lists leave.
delivers_by : (one other : RecordReader) (s o : DerivedState) → ReaderMatches s one → ReaderMatches o other → DeliversInOrder (own_side s.end) (own_side o.end) s.numbers.log o.numbers.log → DeliversInOrder (side_in one) (side_in other) one.log other.log
delivers_by one other s o mine opposite d = subst (λ (x : Side). DeliversInOrder x (side_in other) one.log other.log) (sym mine.side) (subst (λ (x : Side). DeliversInOrder (own_side s.end) x one.log other.log) (sym opposite.side)
    (subst (λ (l : Log). DeliversInOrder (own_side s.end) (own_side o.end) l other.log) (sym mine.log) (subst (λ (l : Log). DeliversInOrder (own_side s.end) (own_side o.end) s.numbers.log l) (sym opposite.log) d)))

pairs : (world : World) (key : RunSetup) (lists : List (List (Action (MemoryOp CallAccess)))) (traces : List OwnTrace) → IsMadeFor world key → 2 ≤ length lists → honest_of key 0 ≡ true → honest_of key 1 ≡ true → RanAll world key 0 lists traces → SessionsAreLearned key (accesses_by (list_of lists)) → ArePaired world (map part_of traces)
pairs world key lists traces made two a b ran recorded = record {
  deliver = λ p p2. let q2 : 1 - p < 2 = omega arith in delivers_by _ _ (derived_state key p (accesses_in (list_of lists p))) (derived_state key (1 - p) (accesses_in (list_of lists (1 - p)))) (reader_matches_in world key (map part_of traces) made p _ (says p p2)) (reader_matches_in world key (map part_of traces) made (1 - p) _ (says (1 - p) q2)) (recorded.deliver p p2);
  never_refuse = λ p p2. (says p p2).refused (recorded.never_refuse p p2).1;
}
  where
    says : (p : ℕ) → p < 2 → Says key p (list_of lists p) (lines_by (map part_of traces) p)
    says p p2 = says_of world key lists traces two ran p p2 (both_honest key a b p p2)

wakes : (world : World) (key : RunSetup) (lists : List (List (Action (MemoryOp CallAccess)))) (traces : List OwnTrace) → IsMadeFor world key → 2 ≤ length lists → honest_of key 0 ≡ true → honest_of key 1 ≡ true → RanAll world key 0 lists traces → NoneIsMissed key (accesses_by (list_of lists)) → AreWoken world (map part_of traces)
wakes world key lists traces made two a b ran none p frame p2 asked =
    let says : (q : ℕ) → q < 2 → ReaderMatches (derived_state key q (accesses_in (list_of lists q))) (reader_of_part world (map part_of traces) q) =
    λ q q2. reader_matches_in world key (map part_of traces) made q (list_of lists q) (says_of world key lists traces two ran q q2 (both_honest key a b q q2)) in
    subst (λ l. ¬ Contains l frame) (sym (says (1 - p) (omega arith)).missed) (none p frame p2 (sym (says p p2).asked ∙ asked))

-- Opposite to a hostile peer.
carries : (world : World) (key : RunSetup) (lists : List (List (Action (MemoryOp CallAccess)))) (traces : List OwnTrace) → IsMadeFor world key → 2 ≤ length lists → RanAll world key 0 lists traces → AllIsLearned key (list_of lists) → CarryNone world (map part_of traces)
carries world key lists traces made two ran recorded p p2 one other = let honest = made.honest p ∙ one in
    subst (λ (l : Log). CarriesNone l) (sym (reader_matches_in world key (map part_of traces) made p _ (says_of world key lists traces two ran p p2 honest)).log) (recorded.neighbour_word p p2 honest (made.honest (1 - p) ∙ other))

-- Interrupts that came

-- The facts of them by a list and the lines of its peer.
record InterruptsAreFound (list : List (Action (MemoryOp CallAccess))) (lines : List Line) : Type 0 where
  each : (v : ℕ) → how_many (is_interrupt_by v) lines ≤ count_in (finds_bit v) list
  all : how_many is_interrupt lines ≤ sum_below 64 (λ v. count_in (finds_bit v) list)

bells_both : (intx : Bool) (target v : ℕ) (xs ys : List Part) → bells_in intx target v (xs ++ ys) ≡ bells_in intx target v xs + bells_in intx target v ys
unfolding bells_in
bells_both intx target v [] ys = omega arith
bells_both intx target v (x ∷ xs) ys = let e = bells_both intx target v xs ys in omega arith

bells_one : (intx : Bool) (target v : ℕ) (part : Part) → bells_in intx target v (part ∷ []) ≡ how_many (is_bell intx target v) part.lines
unfolding bells_in
bells_one intx target v part = omega arith

bells_none : (intx : Bool) (target v : ℕ) → bells_in intx target v [] ≡ 0
unfolding bells_in
bells_none intx target v = refl

own_reports : (world : World) (key : RunSetup) (p : ℕ) (list : List (Action (MemoryOp CallAccess))) (mine : List OwnTrace) (r : HasRun world key p list mine) → LinesFollowRings r.2 p list (lines_of_turns p r.4.0.turns)
own_reports world key p list mine r = let did = r.4.0 in turns_report r.2 p (config_in key p) (storm_in key p) did.turns (start_of world.acts p) (spans_of world.acts p) did.after list did.takes did.made

own_finds : (world : World) (key : RunSetup) (p : ℕ) (list : List (Action (MemoryOp CallAccess))) (mine : List OwnTrace) (b : Bool) → RanIf b world key p list mine → InterruptsAreFound list (lines_by (map part_of mine) p)
own_finds world key p list mine true r = let t : OwnTrace = r.0 in let reports = own_reports world key p list mine r in
    let lines : lines_of_turns p r.4.0.turns ≡ lines_by (map part_of mine) p = sym (ap (λ ts. lines_by (map part_of ts) p) r.1 ∙ (lines_here (part_of t) p r.4.1.peer ∙ r.4.1.lines)) in
    subst (InterruptsAreFound list) lines (record { each = reports.each; all = reports.all })
own_finds world key p list mine false r = let lines : [] ≡ lines_by (map part_of mine) p = sym (ap (λ ts. lines_by (map part_of ts) p) r.1 ∙ lines_none p) in
    subst (InterruptsAreFound list) lines (record { each = λ v. let none : how_many (is_interrupt_by v) [] ≡ 0 = many_none (is_interrupt_by v) in omega arith; all = let none : how_many is_interrupt [] ≡ 0 = many_none is_interrupt in omega arith })

finds_at : (world : World) (key : RunSetup) (from k : ℕ) (lists : List (List (Action (MemoryOp CallAccess)))) (traces : List OwnTrace) → k < length lists → RanAll world key from lists traces → InterruptsAreFound (get_or lists k []) (lines_by (map part_of traces) (from + k))
unfolding RanAll
finds_at world key from k [] traces lt none = absurd (omega arith)
finds_at world key from zero (list ∷ lists) traces lt ran = let e : from ≡ from + 0 = omega arith in subst (λ p. InterruptsAreFound list (lines_by (map part_of traces) p)) e
    (subst (InterruptsAreFound list) (sym (ap (λ ts. lines_by (map part_of ts) from) ran.2 ∙ (ap (λ ps. lines_by ps from) (map-append part_of ran.0 ran.1) ∙ (lines_both (map part_of ran.0) (map part_of ran.1) from
    ∙ (ap (λ l. lines_by (map part_of ran.0) from ++ l) (lines_past world key from (suc from) lists ran.1 (omega arith) ran.4) ∙ append-nil (lines_by (map part_of ran.0) from))))))
    (own_finds world key from list ran.0 (has_turn world.acts from) ran.3))
finds_at world key from (suc k) (list ∷ lists) traces lt ran = let e : suc from + k ≡ from + suc k = omega arith in let p = from + suc k in
    let rest : InterruptsAreFound (get_or lists k []) (lines_by (map part_of ran.1) p) = subst (λ q. InterruptsAreFound (get_or lists k []) (lines_by (map part_of ran.1) q)) e (finds_at world key (suc from) k lists ran.1 (omega arith) ran.4) in
    subst (InterruptsAreFound (get_or lists k [])) (sym (ap (λ ts. lines_by (map part_of ts) p) ran.2 ∙ (ap (λ ps. lines_by ps p) (map-append part_of ran.0 ran.1) ∙ (lines_both (map part_of ran.0) (map part_of ran.1) p
    ∙ ap (λ l. l ++ lines_by (map part_of ran.1) p) (one_lines world key p from list ran.0 (has_turn world.acts from) ran.3 (λ e. omega arith)))))) rest

-- The rings of a list are at most the doorbells of its lines.
own_bells : (world : World) (key : RunSetup) (p target v : ℕ) (list : List (Action (MemoryOp CallAccess))) (mine : List OwnTrace) (b : Bool) → target < world.geometry.peers → RanIf b world key p list mine →
    count_in (rings_bit target v) list ≤ bells_in (is_intx world.wiring) target v (map part_of mine)
own_bells world key p target v list mine true lt r = let t : OwnTrace = r.0 in let reports = own_reports world key p list mine r in
    let most : count_in (rings_bit target v) list ≤ how_many (is_bell (is_intx world.wiring) target v) (lines_of_turns p r.4.0.turns) = subst (λ x. count_in (rings_bit target v) list ≤ how_many (is_bell x target v) (lines_of_turns p r.4.0.turns)) (r.3.each target lt).intx (reports.bells target v) in
    let recorded : bells_in (is_intx world.wiring) target v (map part_of mine) ≡ how_many (is_bell (is_intx world.wiring) target v) (lines_of_turns p r.4.0.turns) =
    ap (λ ts. bells_in (is_intx world.wiring) target v (map part_of ts)) r.1 ∙ (bells_one (is_intx world.wiring) target v (part_of t) ∙ ap (how_many (is_bell (is_intx world.wiring) target v)) r.4.1.lines) in omega arith
own_bells world key p target v list mine false lt r = let none : count_in (rings_bit target v) list ≡ 0 = ap (count_in (rings_bit target v)) r.0 ∙ weigh_none (rings_bit target v) in omega arith

bells_of : (world : World) (key : RunSetup) (target v from : ℕ) (lists : List (List (Action (MemoryOp CallAccess)))) (traces : List OwnTrace) → target < world.geometry.peers → RanAll world key from lists traces →
    sum_below (length lists) (λ k. count_in (rings_bit target v) (get_or lists k [])) ≤ bells_in (is_intx world.wiring) target v (map part_of traces)
unfolding RanAll
bells_of world key target v from [] traces lt none = let e : sum_below 0 (λ k. count_in {A = MemoryOp CallAccess} (rings_bit target v) (get_or [] k [])) ≡ 0 = tally_zero 0 _ (λ p l. absurd (omega arith)) in omega arith
bells_of world key target v from (list ∷ lists) traces lt ran = let intx = is_intx world.wiring in
    let rest = bells_of world key target v (suc from) lists ran.1 lt ran.4 in let here = own_bells world key from target v list ran.0 (has_turn world.acts from) lt ran.3 in
    let sum : sum_below (suc (length lists)) (λ k. count_in (rings_bit target v) (get_or (list ∷ lists) k [])) ≡ count_in (rings_bit target v) list + sum_below (length lists) (λ k. count_in (rings_bit target v) (get_or lists k [])) = tally_first (length lists) (λ k. count_in (rings_bit target v) (get_or (list ∷ lists) k [])) in
    let all : bells_in intx target v (map part_of traces) ≡ bells_in intx target v (map part_of ran.0) + bells_in intx target v (map part_of ran.1) =
    ap (λ ts. bells_in intx target v (map part_of ts)) ran.2 ∙ (ap (bells_in intx target v) (map-append part_of ran.0 ran.1) ∙ bells_both intx target v (map part_of ran.0) (map part_of ran.1)) in omega arith

are_found : (world : World) (key : RunSetup) (lists : List (List (Action (MemoryOp CallAccess)))) (traces : List OwnTrace) → IsMadeFor world key → length lists ≡ world.geometry.peers → RanAll world key 0 lists traces → AreRung key (list_of lists) → InterruptsMatch world (map part_of traces)
are_found world key lists traces made size ran rung = record {
  rung = λ p v lt. let h = (finds p lt).each v in let few : count_in (finds_bit v) (list_of lists p) ≤ sum_below key.geometry.peers (λ q. count_in (rings_bit p v) (list_of lists q)) = rung.rung p v (there p lt) in
      let most = bells_of world key p v 0 lists traces lt ran in let same : key.geometry.peers ≡ length lists = peers ∙ sym size in
      let moved : sum_below (length lists) (λ q. count_in (rings_bit p v) (list_of lists q)) ≡ sum_below key.geometry.peers (λ q. count_in (rings_bit p v) (list_of lists q)) = ap (λ n. sum_below n (λ q. count_in (rings_bit p v) (list_of lists q))) (sym same) in omega arith;
  once = λ p lt shot. let h = (finds p lt).all in let one = rung.once p (there p lt) (made.one_shot p lt ∙ shot) in omega arith;
}
  where
    peers : key.geometry.peers ≡ world.geometry.peers
    peers = ap (λ g. g.peers) made.geometry

    there : (p : ℕ) → p < world.geometry.peers → p < key.geometry.peers
    there p lt = let e = peers in omega arith

    finds : (p : ℕ) → p < world.geometry.peers → InterruptsAreFound (list_of lists p) (lines_by (map part_of traces) p)
    finds p lt = let e : 0 + p ≡ p = omega arith in subst (λ q. InterruptsAreFound (list_of lists p) (lines_by (map part_of traces) q)) e (finds_at world key 0 p lists traces (omega arith) ran)

-- The whole run.
pub is_run : (world : World) (key : RunSetup) (h : PassView) (lists : List (List (Action (MemoryOp CallAccess)))) (traces : List OwnTrace) (parts : List Part) → IsMadeFor world key → 2 ≤ length lists → length lists ≡ world.geometry.peers → h.lists ≡ lists → parts ≡ map part_of traces →
    RanAll world key 0 lists traces → AllIsLearned key (list_of lists) → IsRunOf world h parts
is_run world key h lists traces parts made two size here is ran recorded = record {
  peers = peers_are world key lists traces parts size is ran;
  own = subst (All (λ (part : Part). IsOwnRecord world (actions_of h part.peer) part)) (sym is) (All-from_recursion (λ (part : Part). IsOwnRecord world (actions_of h part.peer) part) (map part_of traces)
      (own_each world key made (λ p. get_or h.lists p []) 0 lists traces (λ k lt. let e : 0 + k ≡ k = omega arith in ap (λ p. get_or h.lists p []) e ∙ ap (λ l. get_or l k []) here) ran));
  idle = λ p off. ap shown (ap (λ l. get_or l p []) here ∙ idle_at world key 0 lists traces p ran (let e : 0 + p ≡ p = omega arith in ap (has_turn world.acts) e ∙ off));
  interrupt_lines = subst (InterruptsMatch world) (sym is) (are_found world key lists traces made size ran recorded.rung);
  paired = λ one other. subst (ArePaired world) (sym is) (pairs world key lists traces made two (made.honest 0 ∙ one) (made.honest 1 ∙ other) ran (recorded.pair (made.honest 0 ∙ one) (made.honest 1 ∙ other)));
  neighbour_word = subst (CarryNone world) (sym is) (carries world key lists traces made two ran recorded);
  woken = λ ev one other. let a = made.honest 0 ∙ one in let b = made.honest 1 ∙ other in subst (AreWoken world) (sym is) (wakes world key lists traces made two a b ran (recorded.woken (ap has_events made.queue ∙ ev) a b));
}

-- The lists of the pass at the end.
pub whole_lists : (id : TableId) (old rest low all : PassView) (lists : List (List (Action (MemoryOp CallAccess)))) → old.from ≡ 0 → rest ≡ lower_pass 0 old → low ≡ held id 0 lists → all ≡ join_passes rest low → all.lists ≡ lists
whole_lists id old rest low all lists from rest_is low_is is =
    ap (λ (h : PassView). h.lists) is ∙ ((λ i. (rest_is i).lists ++ (low_is i).lists) ∙ (let z : 0 - old.from ≡ 0 = omega arith in ap (λ k. take k old.lists ++ lists) z))

pub recorded_whole : (key : RunSetup) (id : TableId) (pass : PassView) (lists : List (List (Action (MemoryOp CallAccess)))) → pass ≡ held id 0 lists → length lists ≡ key.geometry.peers → IsLearned key pass.from pass.lists → AllIsLearned key (list_of lists)
recorded_whole key id pass lists is size recorded = subst (λ (h : PassView). IsLearned key h.from h.lists) is recorded refl size
