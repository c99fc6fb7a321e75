-- A step of an open call is the step of the history.
use Rattle.std.proofs.Common.{◌≡◌, ℕ, true, List, ◌++◌, refl, sym, ◌∙◌, ap, subst, append_assoc}
use Rattle.std.specs.Prelude.{Option, Some, reverse, map}
use Rattle.std.proofs.lemmas.List.{reverse-append}
use Rattle.split_ring.specs.declared.steps.Access.{Access}
use Rattle.split_ring.specs.declared.steps.Access.TheVariants as access
use Rattle.scenario_text.specs.Scenario.{World}
use Rattle.call_grammar.specs.Steps.{Mark, Step, value_given, step_of}
use Rattle.call_grammar.specs.Trees.{CallTree, Ended, Does, Reads, Goes}
use Rattle.call_grammar.specs.Places.{Place, remaining, access_at, marks_at, next_place, step_at, is_open, PlacesFollowTrees}
use Rattle.lawful_history.specs.declared.line.Line.{Line}
use Rattle.lawful_history.specs.Memory.{last_write}
use Rattle.lawful_history.specs.Sides.{config_of}
use Rattle.lawful_history.specs.EventRecords.{access_lines, mark_line, step_lines, turn_lines}
use Rattle.lawful_history.specs.Peers.{Driver, Peer, stepped}
use Rattle.lawful_history.specs.Device.{interrupts_of_access, step_interrupts}
use Rattle.lawful_history.specs.History.{step_by, moved_by}
use Rattle.simulator.specs.WorldState.{GaveLast, accessed}

-- A step by which a call continues is the computed one, if its read returned the value written
-- last.
pub by_tree : (world : World) (p : ℕ) (driver : Driver) (peer : Peer) (tree : CallTree) (step : Step) (new : CallTree) (past : List Line) → Goes tree step new →
    ((word : ℕ) → step.access ≡ access.Read word → step.value ≡ last_write past word) → (step_by world p driver tree past ≡ Some step) × (moved_by peer tree past ≡ stepped peer step new)
by_tree world p driver peer Ended step new past goes known = absurd goes
by_tree world p driver peer (Does a marks rest) step new past goes known = (ap (λ (s : Step). Some s) (sym goes.0), ap (λ (s : Step). stepped peer s rest) (sym goes.0) ∙ ap (λ (t : CallTree). stepped peer step t) (sym goes.1))
by_tree world p driver peer (Reads word marks rest) step new past goes known =
    let read : goes.0 ≡ last_write past word = sym (ap (λ (s : Step). s.value) goes.1) ∙ known word (ap (λ (s : Step). s.access) goes.1) in
    let step_is : step_of (access.Read word) (last_write past word) (marks (last_write past word)) ≡ step = ap (λ v. step_of (access.Read word) v (marks v)) (sym read) ∙ sym goes.1 in
    (ap (λ (s : Step). Some s) step_is, ap (λ (s : Step). stepped peer s (rest (last_write past word))) step_is ∙ ap (λ (t : CallTree). stepped peer step t) (ap rest (sym read) ∙ sym goes.2))

-- The line of an access depends on the value of a read alone.
same_lines : (me : ℕ) (a : Access) (value : ℕ) → access_lines me a (value_given a value) ≡ access_lines me a value
same_lines me (access.Read word) value = refl
same_lines me _ value = refl

last_of : (past : List Line) (a b : Access) (value word : ℕ) → a ≡ b → GaveLast past a value → b ≡ access.Read word → value_given b value ≡ last_write past word
last_of past (access.Read w) b value word is gave reads =
    let same : access.Read w ≡ access.Read word = is ∙ reads in
    let word_is : w ≡ word = cc in
    ap (λ x. value_given x value) reads ∙ gave ∙ ap (λ k. last_write past k) word_is
last_of past _ b value word is gave reads = absurd (cc)

-- The line of the access, the interrupts that it causes and then the marks are the lines of the
-- step.
pub lines_are : (world : World) (past : List Line) (losses : ℕ → ℕ) (me : ℕ) (a : Access) (value : ℕ) (marks : List Mark) →
    reverse (map (mark_line me) marks) ++ (reverse (accessed world past losses me a value) ++ past) ≡
    reverse (step_lines me (step_of a value marks) (step_interrupts world past losses me (Some (step_of a value marks)))) ++ past
lines_are world past losses me a value marks =
    let first = access_lines me a value in
    let brought = interrupts_of_access world past losses first in
    let recorded = map (mark_line me) marks in
    let whole : reverse recorded ++ (reverse (first ++ brought) ++ past) ≡ reverse (first ++ (brought ++ recorded)) ++ past =
    sym (append_assoc (reverse recorded) (reverse (first ++ brought)) past) ∙ ap (λ r. r ++ past) (sym (reverse-append (first ++ brought) recorded) ∙ ap reverse (append_assoc first brought recorded)) in
    whole ∙ ap (λ ls. reverse (ls ++ (interrupts_of_access world past losses ls ++ recorded)) ++ past) (sym (same_lines me a value))

-- A step that was performed, completed and recorded is the step of the history, and the peer is in
-- the state after it.
pub step_taken : PlacesFollowTrees → (world : World) (past : List Line) (losses : ℕ → ℕ) (me : ℕ) (peer : Peer) (place : Place) (a : Access) (value : ℕ) (P : List Line → Peer → Type 0) →
    remaining (config_of world me) place ≡ peer.left → is_open place ≡ true → a ≡ access_at (config_of world me) place → GaveLast past a value →
    P (reverse (map (mark_line me) (marks_at (config_of world me) place value)) ++ (reverse (accessed world past losses me a value) ++ past))
    (stepped peer (step_at (config_of world me) place value) (remaining (config_of world me) (next_place (config_of world me) place value))) →
    P (reverse (turn_lines me (step_by world me peer.driver peer.left past) (step_interrupts world past losses me (step_by world me peer.driver peer.left past))) ++ past) (moved_by peer peer.left past)
step_taken follow world past losses me peer place a value P left opens is gave holds =
    let config = config_of world me in
    let step = step_at config place value in
    let marks = marks_at config place value in
    let next = remaining config (next_place config place value) in
    let goes : Goes peer.left step next = subst (λ (t : CallTree). Goes t step next) left (follow.comes config place value opens) in
    let by = by_tree world me peer.driver peer peer.left step next past goes (λ word reads. last_of past a (access_at config place) value word is gave reads) in
    let whole : reverse (map (mark_line me) marks) ++ (reverse (accessed world past losses me a value) ++ past) ≡
    reverse (turn_lines me (step_by world me peer.driver peer.left past) (step_interrupts world past losses me (step_by world me peer.driver peer.left past))) ++ past =
    lines_are world past losses me a value marks ∙ ap (λ (b : Access). reverse (turn_lines me (Some (step_of b value marks)) (step_interrupts world past losses me (Some (step_of b value marks)))) ++ past) is
    ∙ ap (λ (w : Option Step). reverse (turn_lines me w (step_interrupts world past losses me w)) ++ past) (sym by.0) in
    subst (λ (ls : List Line). P ls (moved_by peer peer.left past)) whole (subst (λ (x : Peer). P (reverse (map (mark_line me) marks) ++ (reverse (accessed world past losses me a value) ++ past)) x) (sym by.1) holds)
