-- Interrupts that running peers record, and the doorbells that brought them.
use Rattle.std.proofs.Common.{◌≡◌, ◌≢◌, ℕ, zero, suc, ◌+◌, ◌<◌, ◌≤◌, Bool, true, false, List, [], ◌∷◌, ◌++◌, refl, sym, ap, ◌∙◌, subst, arith, eq-eqb, ne_eqb}
use Rattle.std.specs.Prelude.{Option, Some, None, map, ◌==◌, ◌&&◌, ◌||◌, nat_lt, if◌then◌else◌}
use Rattle.std.specs.Int.{bit_at}
use Rattle.std.proofs.lemmas.Nat.Bits.{bit_at-lt}
use Rattle.std.proofs.lemmas.Bool.{eqb-true}
use Rattle.std.proofs.lemmas.Bool.Decides.{nat_tests}
use mathlib.Core.Logic.{dite}
use native.Mathlib.Decide.{ℕ_discrete, dec_lt}
use Rattle.split_ring.specs.declared.steps.Access.{Access}
use Rattle.split_ring.specs.declared.steps.Access.TheVariants as access
use Rattle.call_grammar.specs.Steps.{Mark, Step}
use Rattle.call_grammar.specs.Steps as mark
use Rattle.call_grammar.specs.Trees.{CallTree, Ended, Does, Reads, Goes}
use Rattle.call_grammar.specs.Calls.{EndConfig}
use Rattle.lawful_history.specs.declared.line.Line.{Line}
use Rattle.lawful_history.specs.declared.line.Line.TheVariants as line
use Rattle.lawful_history.specs.EventRecords.{access_lines, mark_line}
use Rattle.lawful_history.specs.Peers.{Driver, Waits, Chooses, Storms, Peer, opened}
use Rattle.doorbell_irq.specs.declared.route.Route.{Route}
use Rattle.doorbell_irq.specs.Routes.{bit_for, bit_rung}
use Rattle.peer_runner.specs.declared.doorbell_paths.DoorbellPath.{DoorbellPath}
use Rattle.peer_runner.specs.declared.doorbell_paths.DoorbellPath.TheVariants.{Silent, Direct, Guarded}
use Rattle.shared_words.specs.DerivedStates.{CallAccess, ObservedAccess, observed_of, MemoryOp, numbered, carried, restarted, memory_op_by}
use Rattle.shared_words.specs.Actions.{Action, accessed, rang, looked, cleared, seen_by}
use Rattle.shared_words.specs.Interrupts.{count_in, sum_below, one_if, rings_bit, finds_bit}
use Rattle.shared_words.specs.Passes.{shown}
use Rattle.shared_words.specs.PeerRoutes.{route_to}
use Rattle.peer_runner.specs.DoorbellPaths.{doorbell_path_by, doorbell_path_to, rung_by}
use Rattle.peer_runner.specs.Turns.{Turn, Looks, Makes, Clears, Rings, Stores, Loads, Enters, Restarts, Running, comes_to, TakesStep, is_set, spent, steps_on, TakesTurn, TakesTurns, acted_by, cleared_by, acted_in, actions_in, interrupt_line, interrupt_lines, is_quiet, lines_of, marks_of, lines_in, lines_of_turns}
use Rattle.peer_runner.specs.RunningRecord.{how_many, is_interrupt, is_interrupt_by, is_bell}
use Rattle.shared_words.proofs.SumsOfCounts.{weigh_none, weigh_append, weigh_one, tally_same, tally_sum, finds_looked, rings_looked}

-- Counts of lines

pub many_none : (f : Line → Bool) → how_many f [] ≡ 0
unfolding how_many
many_none f = refl

pub many_both : (f : Line → Bool) (xs ys : List Line) → how_many f (xs ++ ys) ≡ how_many f xs + how_many f ys
unfolding how_many
many_both f [] ys = omega arith
many_both f (x ∷ xs) ys = let e : how_many f (xs ++ ys) ≡ how_many f xs + how_many f ys = many_both f xs ys in omega arith

many_one : (f : Line → Bool) (x : Line) → how_many f (x ∷ []) ≡ one_if (f x)
unfolding how_many
many_one f x = omega arith

-- A line that is no interrupt.
abbrev IsSilent : List Line → Type 0
IsSilent lines = (how_many is_interrupt lines ≡ 0) × ((v : ℕ) → how_many (is_interrupt_by v) lines ≡ 0)

silent_none : IsSilent []
silent_none = (many_none is_interrupt, λ v. many_none (is_interrupt_by v))

silent_both : (xs ys : List Line) → IsSilent xs → IsSilent ys → IsSilent (xs ++ ys)
silent_both xs ys a b = (many_both is_interrupt xs ys ∙ (λ i. a.0 i + b.0 i), λ v. many_both (is_interrupt_by v) xs ys ∙ (λ i. a.1 v i + b.1 v i))

silent_if : (b : Bool) (lines : List Line) → IsSilent lines → IsSilent (if b then [] else lines)
silent_if true lines s = silent_none
silent_if false lines s = s

access_silent : (p : ℕ) (a : Access) (value : ℕ) → IsSilent (access_lines p a value)
unfolding how_many
access_silent p (access.Read word) value = (refl, λ v. refl)
access_silent p _ value = (refl, λ v. refl)

mark_silent : (p : ℕ) (m : Mark) → (is_interrupt (mark_line p m) ≡ false) × ((v : ℕ) → is_interrupt_by v (mark_line p m) ≡ false)
mark_silent p (mark.Saw value) = (refl, λ v. refl)
mark_silent p _ = (refl, λ v. refl)

marks_silent : (p : ℕ) (marks : List Mark) → IsSilent (map (mark_line p) marks)
unfolding how_many
marks_silent p [] = (refl, λ v. refl)
marks_silent p (m ∷ marks) = let rest = marks_silent p marks in let here = mark_silent p m in (λ i. one_if (here.0 i) + rest.0 i, λ v i. one_if (here.1 v i) + rest.1 v i)

session_silent : (p opened other : ℕ) → IsSilent (line.Session p opened other ∷ [])
unfolding how_many
session_silent p opened other = (refl, λ v. refl)

reset_silent : (p : ℕ) → IsSilent (line.Reset p ∷ [])
unfolding how_many
reset_silent p = (refl, λ v. refl)

step_silent : (p : ℕ) (first : Bool) (a : Access) (value : ℕ) (marks : List Mark) → IsSilent (lines_of p first a value marks)
step_silent p first a value marks = silent_if (is_quiet first a marks) (access_lines p a value ++ map (mark_line p) marks) (silent_both (access_lines p a value) (map (mark_line p) marks) (access_silent p a value) (marks_silent p marks))

-- A look records the bits that it found.

bit_found : (p n found v : ℕ) → how_many (is_interrupt_by v) (interrupt_line p n found) ≡ (if n == v then bit_at found n else 0)
bit_found p n found v = let low : bit_at found n < 2 = bit_at-lt found n in dite (ℕ_discrete (bit_at found n) 0)
    (λ e. ap (λ (b : Bool). how_many (is_interrupt_by v) (if b then [] else line.Interrupt p n ∷ [])) (eq-eqb (bit_at found n) 0 e) ∙ (many_none (is_interrupt_by v) ∙ sym (either_zero (n == v) e)))
    (λ ne. ap (λ (b : Bool). how_many (is_interrupt_by v) (if b then [] else line.Interrupt p n ∷ [])) (ne_eqb (bit_at found n) 0 ne) ∙ (many_one (is_interrupt_by v) (line.Interrupt p n) ∙ either_one (n == v) (omega arith)))
  where
    either_zero : (b : Bool) → bit_at found n ≡ 0 → (if b then bit_at found n else 0) ≡ 0
    either_zero true e = e
    either_zero false e = refl

    either_one : (b : Bool) → bit_at found n ≡ 1 → one_if b ≡ (if b then bit_at found n else 0)
    either_one true e = sym e
    either_one false e = refl

any_found : (p n found : ℕ) → how_many is_interrupt (interrupt_line p n found) ≡ bit_at found n
any_found p n found = let low : bit_at found n < 2 = bit_at-lt found n in dite (ℕ_discrete (bit_at found n) 0)
    (λ e. ap (λ (b : Bool). how_many is_interrupt (if b then [] else line.Interrupt p n ∷ [])) (eq-eqb (bit_at found n) 0 e) ∙ (many_none is_interrupt ∙ sym e))
    (λ ne. ap (λ (b : Bool). how_many is_interrupt (if b then [] else line.Interrupt p n ∷ [])) (ne_eqb (bit_at found n) 0 ne) ∙ (many_one is_interrupt (line.Interrupt p n) ∙ (let one : 1 ≡ bit_at found n = omega arith in one)))

found_most : (n p found v : ℕ) → how_many (is_interrupt_by v) (interrupt_lines n p found) ≤ (if nat_lt v n then bit_at found v else 0)
unfolding interrupt_lines
found_most zero p found v = let e : how_many (is_interrupt_by v) [] ≡ 0 = many_none (is_interrupt_by v) in omega arith
found_most (suc n) p found v = let a : how_many (is_interrupt_by v) (interrupt_lines n p found ++ interrupt_line p n found) ≡ how_many (is_interrupt_by v) (interrupt_lines n p found) + how_many (is_interrupt_by v) (interrupt_line p n found) = many_both (is_interrupt_by v) (interrupt_lines n p found) (interrupt_line p n found) in
    let d : how_many (is_interrupt_by v) (interrupt_line p n found) ≡ (if n == v then bit_at found n else 0) = bit_found p n found v in
    let was : how_many (is_interrupt_by v) (interrupt_lines n p found) ≤ (if nat_lt v n then bit_at found v else 0) = found_most n p found v in dite (ℕ_discrete n v)
    (λ e. let low : (if nat_lt v n then bit_at found v else 0) ≡ 0 = ap (λ (b : Bool). if b then bit_at found v else 0) (not_below v n (omega arith)) in
    let here : (if n == v then bit_at found n else 0) ≡ bit_at found v = ap (λ (b : Bool). if b then bit_at found n else 0) (eq-eqb n v e) ∙ ap (bit_at found) e in
    let next : (if nat_lt v (suc n) then bit_at found v else 0) ≡ bit_at found v = ap (λ (b : Bool). if b then bit_at found v else 0) (is_below v (suc n) (omega arith)) in omega arith)
    (λ ne. let here : (if n == v then bit_at found n else 0) ≡ 0 = ap (λ (b : Bool). if b then bit_at found n else 0) (ne_eqb n v ne) in
    let next : (if nat_lt v (suc n) then bit_at found v else 0) ≡ (if nat_lt v n then bit_at found v else 0) = ap (λ (b : Bool). if b then bit_at found v else 0) (same_below v n ne) in omega arith)
  where
    is_below : (a b : ℕ) → a < b → nat_lt a b ≡ true
    is_below a b lt = grind (arith, nat_tests)

    not_below : (a b : ℕ) → b ≤ a → nat_lt a b ≡ false
    not_below a b le = grind (arith, nat_tests)

    same_below : (a b : ℕ) → b ≢ a → nat_lt a (suc b) ≡ nat_lt a b
    same_below a b ne = dite (dec_lt a b) (λ lt. is_below a (suc b) (omega arith) ∙ sym (is_below a b lt)) (λ ge. not_below a (suc b) (omega arith) ∙ sym (not_below a b (omega arith)))

look_most : (p found v : ℕ) → how_many (is_interrupt_by v) (interrupt_lines 64 p found) ≤ bit_at found v
look_most p found v = cut (nat_lt v 64) (found_most 64 p found v)
  where
    cut : (b : Bool) → how_many (is_interrupt_by v) (interrupt_lines 64 p found) ≤ (if b then bit_at found v else 0) → how_many (is_interrupt_by v) (interrupt_lines 64 p found) ≤ bit_at found v
    cut true le = le
    cut false le = omega arith

found_all : (n p found : ℕ) → how_many is_interrupt (interrupt_lines n p found) ≡ sum_below n (λ b. bit_at found b)
unfolding interrupt_lines sum_below
found_all zero p found = many_none is_interrupt
found_all (suc n) p found = many_both is_interrupt (interrupt_lines n p found) (interrupt_line p n found) ∙ (λ i. found_all n p found i + any_found p n found i)

-- The looks of turns

blind_rung : (v : ℕ) (doorbell_path : DoorbellPath) (target : ℕ) → count_in {A = MemoryOp ObservedAccess} (finds_bit v) (rung_by doorbell_path target) ≡ 0
unfolding count_in finds_bit
blind_rung v Silent target = refl
blind_rung v (Direct b) target = refl
blind_rung v (Guarded b) target = refl

blind_step : (v : ℕ) (routes : List Route) (a : Access) (value : ℕ) → count_in (finds_bit v) (acted_by routes a value) ≡ 0
unfolding count_in finds_bit
blind_step v routes (access.Ring target vector) value = blind_rung v (doorbell_path_to routes target vector) target
blind_step v routes _ value = refl

blind_clear : (v : ℕ) (a : Access) (found : ℕ) → count_in {A = MemoryOp ObservedAccess} (finds_bit v) (cleared_by a found) ≡ 0
unfolding count_in finds_bit
blind_clear v (access.Read word) found = refl
blind_clear v _ found = refl

seen_look : (v found : ℕ) → count_in {A = MemoryOp ObservedAccess} (finds_bit v) (looked found ∷ []) ≡ bit_at found v
seen_look v found = weigh_one (finds_bit v) (looked found) ∙ finds_looked (MemoryOp ObservedAccess) v found

-- The lines of a turn record at most the interrupts that the turn found.
record InterruptsAreFound (lines : List Line) (acts : List (Action (MemoryOp ObservedAccess))) : Type 0 where
  each : (v : ℕ) → how_many (is_interrupt_by v) lines ≤ count_in (finds_bit v) acts
  all : how_many is_interrupt lines ≤ sum_below 64 (λ v. count_in (finds_bit v) acts)

silent_finds : (lines : List Line) (acts : List (Action (MemoryOp ObservedAccess))) → IsSilent lines → InterruptsAreFound lines acts
silent_finds lines acts s = record { each = λ v. let none : how_many (is_interrupt_by v) lines ≡ 0 = s.1 v in omega arith; all = let none = s.0 in omega arith }

turn_finds : (p : ℕ) (routes : List Route) (turn : Turn) → InterruptsAreFound (lines_in p turn) (acted_in routes turn)
turn_finds p routes (Looks found) = record {
  each = λ v. let a : how_many (is_interrupt_by v) (interrupt_lines 64 p found) ≤ bit_at found v = look_most p found v in let b : count_in {A = MemoryOp ObservedAccess} (finds_bit v) (looked found ∷ []) ≡ bit_at found v = seen_look v found in omega arith;
  all = let a : how_many is_interrupt (interrupt_lines 64 p found) ≡ sum_below 64 (λ b. bit_at found b) = found_all 64 p found in
      let b : sum_below 64 (λ v. count_in {A = MemoryOp ObservedAccess} (finds_bit v) (looked found ∷ [])) ≡ sum_below 64 (λ b. bit_at found b) = tally_same 64 _ _ (λ v lt. seen_look v found) in omega arith;
}
turn_finds p routes (Makes first step) = silent_finds (lines_in p (Makes first step)) (acted_in routes (Makes first step)) (step_silent p first step.access step.value step.marks)
turn_finds p routes (Clears step found) = silent_finds (lines_in p (Clears step found)) (acted_in routes (Clears step found)) (silent_both (access_lines p step.access step.value) (map (mark_line p) (marks_of (Clears step found))) (access_silent p step.access step.value) (marks_silent p (marks_of (Clears step found))))
turn_finds p routes (Rings step) = silent_finds (lines_in p (Rings step)) (acted_in routes (Rings step)) (marks_silent p step.marks)
turn_finds p routes (Stores number) = silent_finds [] (acted_in routes (Stores number)) silent_none
turn_finds p routes (Loads number) = silent_finds [] (acted_in routes (Loads number)) silent_none
turn_finds p routes (Enters step opened other) = silent_finds (lines_in p (Enters step opened other)) (acted_in routes (Enters step opened other)) (silent_both (access_lines p step.access step.value) (line.Session p opened other ∷ map (mark_line p) step.marks) (access_silent p step.access step.value)
    (silent_both (line.Session p opened other ∷ []) (map (mark_line p) step.marks) (session_silent p opened other) (marks_silent p step.marks)))
turn_finds p routes Restarts = silent_finds (line.Reset p ∷ []) (acted_in routes Restarts) (reset_silent p)

finds_both : (xs ys : List Line) (ls rs : List (Action (MemoryOp ObservedAccess))) → InterruptsAreFound xs ls → InterruptsAreFound ys rs → InterruptsAreFound (xs ++ ys) (ls ++ rs)
finds_both xs ys ls rs one other = record {
  each = λ v. let a : how_many (is_interrupt_by v) (xs ++ ys) ≡ how_many (is_interrupt_by v) xs + how_many (is_interrupt_by v) ys = many_both (is_interrupt_by v) xs ys in
      let b : count_in (finds_bit v) (ls ++ rs) ≡ count_in (finds_bit v) ls + count_in (finds_bit v) rs = weigh_append (finds_bit v) ls rs in let c = one.each v in let d = other.each v in omega arith;
  all = let a : how_many is_interrupt (xs ++ ys) ≡ how_many is_interrupt xs + how_many is_interrupt ys = many_both is_interrupt xs ys in
      let b : sum_below 64 (λ v. count_in (finds_bit v) (ls ++ rs)) ≡ sum_below 64 (λ v. count_in (finds_bit v) ls) + sum_below 64 (λ v. count_in (finds_bit v) rs) = tally_same 64 _ _ (λ v lt. weigh_append (finds_bit v) ls rs) ∙ tally_sum 64 (λ v. count_in (finds_bit v) ls) (λ v. count_in (finds_bit v) rs) in
      let c = one.all in let d = other.all in omega arith;
}

turns_find_interrupts : (p : ℕ) (routes : List Route) (turns : List Turn) → InterruptsAreFound (lines_of_turns p turns) (actions_in routes turns)
unfolding lines_of_turns actions_in
turns_find_interrupts p routes [] = silent_finds [] [] silent_none
turns_find_interrupts p routes (turn ∷ turns) = finds_both (lines_in p turn) (lines_of_turns p turns) (acted_in routes turn) (actions_in routes turns) (turn_finds p routes turn) (turns_find_interrupts p routes turns)

-- The rings of turns, each with its doorbell.

-- The access of the step that is to come.
abbrev first_access : CallTree → Access
first_access Ended = access.Nothing
first_access (Does a marks rest) = a
first_access (Reads word marks rest) = access.Read word

abbrev access_by : EndConfig → (ℕ → Step) → Driver → Peer → Access
access_by config storm (Storms x) peer = (storm x).access
access_by config storm _ peer = first_access (opened config peer).left

goes_by : (tree new : CallTree) (step : Step) → Goes tree step new → step.access ≡ first_access tree
goes_by Ended new step goes = absurd goes
goes_by (Does a marks rest) new step goes = ap (λ (s : Step). s.access) goes.0
goes_by (Reads word marks rest) new step goes = ap (λ (s : Step). s.access) goes.1

takes_by : (config : EndConfig) (storm : ℕ → Step) (driver : Driver) (peer after : Peer) (step : Step) → TakesStep config storm driver peer step after → step.access ≡ access_by config storm driver peer
takes_by config storm (Storms x) peer after step took = ap (λ (s : Step). s.access) took.0
takes_by config storm Waits peer after step took = goes_by (opened config peer).left took.0 step took.1
takes_by config storm (Chooses auto) peer after step took = goes_by (opened config peer).left took.0 step took.1

module _ (routes : List Route) (p target v : ℕ) (intx : Bool) (line_is : (route_to routes target).intx ≡ intx) where
  -- The number of its rings of this bit at this target.
  abbrev ringing_by : Access → ℕ
  ringing_by a = count_in (rings_bit target v) (acted_by routes a 0)

  abbrev to_come : EndConfig → (ℕ → Step) → Running → ℕ
  to_come config storm run = if run.ringing then ringing_by (access_by config storm run.peer.driver run.peer) else 0

  rung_bit : (shot : Bool) (vector b : ℕ) → (o : Option ℕ) → o ≡ Some b → (o ≡ bit_rung (route_to routes target) vector) → b ≡ bit_for (route_to routes target) vector
  rung_bit shot vector b o some is = sym (chosen (route_to routes target).enabled _ (sym is ∙ some))
    where
      chosen : (on : Bool) (rest : Bool) → (if on && rest then Some (bit_for (route_to routes target) vector) else None) ≡ Some b → bit_for (route_to routes target) vector ≡ b
      chosen true true e = cc
      chosen true false e = absurd (cc)
      chosen false rest e = absurd (cc)

  by_line : (vector b : ℕ) → b ≡ bit_for (route_to routes target) vector → one_if (b == v) ≤ one_if (intx || vector == v)
  by_line vector b is = go intx line_is
    where
      go : (i : Bool) → (route_to routes target).intx ≡ i → one_if (b == v) ≤ one_if (i || vector == v)
      go true e = few (b == v)
        where
          few : (x : Bool) → one_if x ≤ 1
          few true = omega arith
          few false = omega arith
      go false e = let same : b ≡ vector = is ∙ ap (λ (x : Bool). if x then 0 else vector) e in subst (λ k. one_if (b == v) ≤ one_if (k == v)) same (omega arith)

  way_rings : (shot : Bool) (o : Option ℕ) (vector : ℕ) → o ≡ bit_rung (route_to routes target) vector → count_in {A = MemoryOp ObservedAccess} (rings_bit target v) (rung_by (doorbell_path_by shot o) target) ≤ one_if (intx || vector == v)
  unfolding count_in rings_bit
  way_rings shot None vector is = omega arith
  way_rings true (Some b) vector is = let le = by_line vector b (rung_bit true vector b (Some b) refl is) in let e : one_if ((target == target) && (b == v)) ≡ one_if (b == v) = ap (λ (x : Bool). one_if (x && (b == v))) (eq-eqb target target refl) in omega arith
  way_rings false (Some b) vector is = let le = by_line vector b (rung_bit false vector b (Some b) refl is) in let e : one_if ((target == target) && (b == v)) ≡ one_if (b == v) = ap (λ (x : Bool). one_if (x && (b == v))) (eq-eqb target target refl) in omega arith

  other_rings : (doorbell_path : DoorbellPath) (at : ℕ) → (at == target) ≡ false → count_in {A = MemoryOp ObservedAccess} (rings_bit target v) (rung_by doorbell_path at) ≡ 0
  unfolding count_in rings_bit
  other_rings Silent at ne = refl
  other_rings (Direct b) at ne = ap (λ (x : Bool). one_if (x && (b == v)) + 0) ne
  other_rings (Guarded b) at ne = ap (λ (x : Bool). one_if (x && (b == v)) + 0) ne

  -- A doorbell's ring, and its line.
  bell_rings : (at vector : ℕ) → count_in {A = MemoryOp ObservedAccess} (rings_bit target v) (rung_by (doorbell_path_to routes at vector) at) ≤ one_if ((at == target) && (intx || vector == v))
  unfolding doorbell_path_to
  bell_rings at vector = by (at == target) refl
    where
      by : (b : Bool) → (at == target) ≡ b → count_in {A = MemoryOp ObservedAccess} (rings_bit target v) (rung_by (doorbell_path_to routes at vector) at) ≤ one_if (b && (intx || vector == v))
      by true e = let same : at ≡ target = eqb-true at target e in subst (λ k. count_in {A = MemoryOp ObservedAccess} (rings_bit target v) (rung_by (doorbell_path_to routes k vector) k) ≤ one_if (intx || vector == v)) (sym same)
          (way_rings (route_to routes target).one_shot (bit_rung (route_to routes target) vector) vector refl)
      by false e = let none : count_in {A = MemoryOp ObservedAccess} (rings_bit target v) (rung_by (doorbell_path_to routes at vector) at) ≡ 0 = other_rings (doorbell_path_to routes at vector) at e in omega arith

  step_rings : (a : Access) (value : ℕ) → count_in (rings_bit target v) (acted_by routes a value) ≡ ringing_by a
  unfolding count_in rings_bit
  step_rings (access.Read word) value = refl
  step_rings _ value = refl

  line_bells : (a : Access) (value : ℕ) → ringing_by a ≤ how_many (is_bell intx target v) (access_lines p a value)
  unfolding count_in rings_bit
  line_bells (access.Ring at vector) value = let one : how_many (is_bell intx target v) (line.Doorbell p at vector ∷ []) ≡ one_if ((at == target) && (intx || vector == v)) = many_one (is_bell intx target v) (line.Doorbell p at vector) in
      let most = bell_rings at vector in omega arith
  line_bells _ value = omega arith

  step_bells : (first : Bool) (a : Access) (value : ℕ) (marks : List Mark) → ringing_by a ≤ how_many (is_bell intx target v) (lines_of p first a value marks)
  unfolding count_in rings_bit
  step_bells first (access.Ring at vector) value marks = let here = line_bells (access.Ring at vector) value in
      let both : how_many (is_bell intx target v) (access_lines p (access.Ring at vector) value ++ map (mark_line p) marks) ≡ how_many (is_bell intx target v) (access_lines p (access.Ring at vector) value) + how_many (is_bell intx target v) (map (mark_line p) marks) =
      many_both (is_bell intx target v) (access_lines p (access.Ring at vector) value) (map (mark_line p) marks) in omega arith
  step_bells first _ value marks = omega arith

  clear_rings : (a : Access) (found : ℕ) → count_in {A = MemoryOp ObservedAccess} (rings_bit target v) (cleared_by a found) ≡ 0
  unfolding count_in rings_bit
  clear_rings (access.Read word) found = refl
  clear_rings _ found = refl

  operation_rings : (d : MemoryOp ObservedAccess) → count_in (rings_bit target v) (accessed d ∷ []) ≡ 0
  unfolding count_in rings_bit
  operation_rings d = refl

  -- A turn's rings, and those that are to come, are at most its doorbells and those that were to
  -- come.
  turn_bells : (config : EndConfig) (storm : ℕ → Step) (turn : Turn) (run after : Running) → TakesTurn config storm routes run turn after →
      count_in (rings_bit target v) (acted_in routes turn) + to_come config storm after ≤ how_many (is_bell intx target v) (lines_in p turn) + to_come config storm run
  turn_bells config storm (Looks found) run after took = let none : count_in {A = MemoryOp ObservedAccess} (rings_bit target v) (looked found ∷ []) ≡ 0 = weigh_one (rings_bit target v) (looked found) ∙ rings_looked (MemoryOp ObservedAccess) target v found in
      let same : to_come config storm after ≡ to_come config storm run = ap (to_come config storm) took.2 in omega arith
  turn_bells config storm (Makes first step) run after took = let same : to_come config storm after ≡ 0 = ap (to_come config storm) took.1.4 in let here = step_bells first step.access step.value step.marks in let rung = step_rings step.access step.value in omega arith
  turn_bells config storm (Clears step found) run after took = let rung = clear_rings step.access found in let here = line_bells step.access step.value in
      let both : how_many (is_bell intx target v) (access_lines p step.access step.value ++ map (mark_line p) (marks_of (Clears step found))) ≡ how_many (is_bell intx target v) (access_lines p step.access step.value) + how_many (is_bell intx target v) (map (mark_line p) (marks_of (Clears step found))) =
      many_both (is_bell intx target v) (access_lines p step.access step.value) (map (mark_line p) (marks_of (Clears step found))) in
      let later : to_come config storm after ≤ ringing_by step.access = subst (λ (r : Running). to_come config storm r ≤ ringing_by step.access) (sym took.1.2) (held (is_set found)) in omega arith
    where
      same : access_by config storm run.peer.driver run.peer ≡ step.access
      same = sym (takes_by config storm run.peer.driver run.peer took.1.0 step took.1.1.takes)

      held : (b : Bool) → to_come config storm (if b then record run { looks = Some 0; ringing = true; spans = spent run.spans } else steps_on run step.access took.1.0) ≤ ringing_by step.access
      held true = let e : ringing_by (access_by config storm run.peer.driver run.peer) ≡ ringing_by step.access = ap ringing_by same in omega arith
      held false = omega arith
  turn_bells config storm (Rings step) run after took = let same : to_come config storm after ≡ 0 = ap (to_come config storm) took.1.2 in let rung = step_rings step.access step.value in
      let was : to_come config storm run ≡ ringing_by step.access = ap (λ (b : Bool). if b then ringing_by (access_by config storm run.peer.driver run.peer) else 0) took.1.1.rings ∙ ap ringing_by (sym (takes_by config storm run.peer.driver run.peer took.1.0 step took.1.1.takes)) in omega arith
  turn_bells config storm (Stores number) run after took = let none : count_in (rings_bit target v) (acted_in routes (Stores number)) ≡ 0 = operation_rings (numbered number) in let same : to_come config storm after ≡ to_come config storm run = ap (to_come config storm) took.4 in omega arith
  turn_bells config storm (Loads number) run after took = let none : count_in (rings_bit target v) (acted_in routes (Loads number)) ≡ 0 = operation_rings (carried number) in let same : to_come config storm after ≡ to_come config storm run = ap (to_come config storm) took.3 in omega arith
  turn_bells config storm (Enters step opened other) run after took = let same : to_come config storm after ≡ 0 = ap (to_come config storm) took.3.2 in let here = line_bells step.access step.value in let rung = step_rings step.access step.value in
      let both : how_many (is_bell intx target v) (access_lines p step.access step.value ++ line.Session p opened other ∷ map (mark_line p) step.marks) ≡ how_many (is_bell intx target v) (access_lines p step.access step.value) + how_many (is_bell intx target v) (line.Session p opened other ∷ map (mark_line p) step.marks) =
      many_both (is_bell intx target v) (access_lines p step.access step.value) (line.Session p opened other ∷ map (mark_line p) step.marks) in omega arith
  turn_bells config storm Restarts run after took = let none : count_in (rings_bit target v) (acted_in routes Restarts) ≡ 0 = operation_rings restarted in let same : to_come config storm after ≡ 0 = ap (to_come config storm) took.2 in omega arith

  turns_bells : (config : EndConfig) (storm : ℕ → Step) (turns : List Turn) (run after : Running) → TakesTurns config storm routes run turns after → count_in (rings_bit target v) (actions_in routes turns) ≤ how_many (is_bell intx target v) (lines_of_turns p turns) + to_come config storm run
  unfolding TakesTurns actions_in lines_of_turns
  turns_bells config storm [] run after took = let none : count_in {A = MemoryOp ObservedAccess} (rings_bit target v) [] ≡ 0 = weigh_none (rings_bit target v) in omega arith
  turns_bells config storm (turn ∷ turns) run after took = let rest = turns_bells config storm turns took.0 after took.2 in let here = turn_bells config storm turn run took.0 took.1 in
      let a : count_in (rings_bit target v) (acted_in routes turn ++ actions_in routes turns) ≡ count_in (rings_bit target v) (acted_in routes turn) + count_in (rings_bit target v) (actions_in routes turns) = weigh_append (rings_bit target v) (acted_in routes turn) (actions_in routes turns) in
      let b : how_many (is_bell intx target v) (lines_in p turn ++ lines_of_turns p turns) ≡ how_many (is_bell intx target v) (lines_in p turn) + how_many (is_bell intx target v) (lines_of_turns p turns) = many_both (is_bell intx target v) (lines_in p turn) (lines_of_turns p turns) in omega arith

  pub run_bells : (config : EndConfig) (storm : ℕ → Step) (turns : List Turn) (start : Peer) (spans : List ℕ) (after : Running) → TakesTurns config storm routes (comes_to start spans) turns after → count_in (rings_bit target v) (actions_in routes turns) ≤ how_many (is_bell intx target v) (lines_of_turns p turns)
  run_bells config storm turns start spans after took = let most = turns_bells config storm turns (comes_to start spans) after took in omega arith

-- Lists are counted as they are shown.

finds_seen : (v : ℕ) (t : Action (MemoryOp CallAccess)) → finds_bit v (seen_by (memory_op_by observed_of) t) ≡ finds_bit v t
unfolding finds_bit
finds_seen v (accessed a) = refl
finds_seen v (rang at b) = refl
finds_seen v (looked found) = refl
finds_seen v (cleared at found) = refl

rings_seen : (target v : ℕ) (t : Action (MemoryOp CallAccess)) → rings_bit target v (seen_by (memory_op_by observed_of) t) ≡ rings_bit target v t
unfolding rings_bit
rings_seen target v (accessed a) = refl
rings_seen target v (rang at b) = refl
rings_seen target v (looked found) = refl
rings_seen target v (cleared at found) = refl

weigh_seen : (f : Action (MemoryOp ObservedAccess) → ℕ) (g : Action (MemoryOp CallAccess) → ℕ) → ((t : Action (MemoryOp CallAccess)) → f (seen_by (memory_op_by observed_of) t) ≡ g t) → (list : List (Action (MemoryOp CallAccess))) → count_in f (shown list) ≡ count_in g list
unfolding count_in
weigh_seen f g same [] = refl
weigh_seen f g same (t ∷ list) = λ i. same t i + weigh_seen f g same list i

-- The lines of a peer that took these turns record at most the interrupts that `list` found, and at
-- least the doorbells that `list` rang.
pub record LinesFollowRings (routes : List Route) (p : ℕ) (list : List (Action (MemoryOp CallAccess))) (lines : List Line) : Type 0 where
  pub each : (v : ℕ) → how_many (is_interrupt_by v) lines ≤ count_in (finds_bit v) list
  pub all : how_many is_interrupt lines ≤ sum_below 64 (λ v. count_in (finds_bit v) list)
  pub bells : (target v : ℕ) → count_in (rings_bit target v) list ≤ how_many (is_bell (route_to routes target).intx target v) lines

pub turns_report : (routes : List Route) (p : ℕ) (config : EndConfig) (storm : ℕ → Step) (turns : List Turn) (start : Peer) (spans : List ℕ) (after : Running) (list : List (Action (MemoryOp CallAccess))) → TakesTurns config storm routes (comes_to start spans) turns after → shown list ≡ actions_in routes turns → LinesFollowRings routes p list (lines_of_turns p turns)
turns_report routes p config storm turns start spans after list took made = let finds = turns_find_interrupts p routes turns in
    let found : (v : ℕ) → count_in (finds_bit v) (actions_in routes turns) ≡ count_in (finds_bit v) list = λ v. ap (count_in (finds_bit v)) (sym made) ∙ weigh_seen (finds_bit v) (finds_bit v) (finds_seen v) list in record {
      each = λ v. let a = finds.each v in let b : count_in (finds_bit v) (actions_in routes turns) ≡ count_in (finds_bit v) list = found v in omega arith;
      all = let a = finds.all in let b : sum_below 64 (λ v. count_in (finds_bit v) (actions_in routes turns)) ≡ sum_below 64 (λ v. count_in (finds_bit v) list) = tally_same 64 _ _ (λ v lt. found v) in omega arith;
      bells = λ target v. let a = run_bells routes p target v (route_to routes target).intx refl config storm turns start spans after took in
          let b : count_in (rings_bit target v) (actions_in routes turns) ≡ count_in (rings_bit target v) list = ap (count_in (rings_bit target v)) (sym made) ∙ weigh_seen (rings_bit target v) (rings_bit target v) (rings_seen target v) list in omega arith;
    }
