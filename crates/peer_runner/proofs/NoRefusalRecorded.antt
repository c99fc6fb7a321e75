-- A peer that never has the mark of a refusal records no refusal.
use Rattle.std.proofs.Common.{◌≡◌, ℕ, zero, suc, ◌==◌, ◌||◌, Bool, true, false, List, [], ◌∷◌, ◌++◌, map, refl, sym, ap, ◌∙◌, subst, append-nil, append_assoc}
use Rattle.std.specs.Prelude.{Some, if◌then◌else◌}
use Rattle.std.specs.Int.{bit_at}
use Rattle.std.specs.List.{list_any}
use Rattle.std.proofs.lemmas.List.Folds.{list_any-append}
use Rattle.std.proofs.lemmas.Grind.{flat_map-append}
use Rattle.split_ring.specs.declared.steps.Access.{Access}
use Rattle.split_ring.specs.declared.steps.Access.TheVariants as access
use Rattle.call_grammar.specs.Steps.{Mark, Step}
use Rattle.call_grammar.specs.Steps as mark
use Rattle.call_grammar.specs.Ends.{End, with_access, with_mark, with_marks}
use Rattle.call_grammar.specs.Calls.{EndConfig}
use Rattle.lawful_history.specs.declared.line.Line.{Line}
use Rattle.lawful_history.specs.declared.line.Line.TheVariants as line
use Rattle.lawful_history.specs.EventRecords.{access_lines, mark_line}
use Rattle.lawful_history.specs.Peers.{Driver, Waits, Chooses, Storms, Peer, opened}
use Rattle.doorbell_irq.specs.declared.route.Route.{Route}
use Rattle.shared_words.specs.declared.run_setup.RunSetup.{RunSetup}
use Rattle.shared_words.specs.DerivedStates.{CallAccess, MemoryOp, derived_state, NeverMarked}
use Rattle.peer_runner.specs.Turns.{Turn, Looks, Makes, Clears, Rings, Stores, Loads, Enters, Restarts, Running, TakesStep, TakesTurn, is_set, steps_on, spent, interrupt_line, interrupt_lines, is_quiet, lines_of, lines_in, lines_of_turns}
use Rattle.peer_runner.specs.RunningRecord.{refuses}
use Rattle.shared_words.proofs.LinkOfSetup.{clash}

-- Marks

abbrev refused_on : Mark → Bool
refused_on (mark.Refuse refused) = true
refused_on _ = false

-- An end that isn't marked after these marks wasn't before, and they have no refusal.
marks_clear : (end : End) (marks : List Mark) → (with_marks end marks).handshake.mark ≡ false → (end.handshake.mark ≡ false) × (list_any refused_on marks ≡ false)
marks_clear end [] is = (is, refl)
marks_clear end (mark.Refuse refused ∷ marks) is = let h : true ≡ false = (marks_clear (with_mark end (mark.Refuse refused)) marks is).0 in absurd (clash (sym h))
marks_clear end (m ∷ marks) is = marks_clear (with_mark end m) marks is

-- Lines

refused_line : (p : ℕ) (m : Mark) → refuses (mark_line p m) ≡ refused_on m
refused_line p (mark.Saw value) = refl
refused_line p _ = refl

refused_lines : (p : ℕ) (marks : List Mark) → list_any refuses (map (mark_line p) marks) ≡ list_any refused_on marks
refused_lines p [] = refl
refused_lines p (m ∷ marks) = λ i. (refused_line p m i || refused_lines p marks i)

access_refuses : (p : ℕ) (a : Access) (value : ℕ) → list_any refuses (access_lines p a value) ≡ false
access_refuses p (access.Read word) value = refl
access_refuses p _ value = refl

marked_refuses : (p : ℕ) (a : Access) (value : ℕ) (marks : List Mark) → list_any refused_on marks ≡ false → list_any refuses (access_lines p a value ++ map (mark_line p) marks) ≡ false
marked_refuses p a value marks none = list_any-append refuses (access_lines p a value) (map (mark_line p) marks) ∙ (λ i. (access_refuses p a value i || (refused_lines p marks ∙ none) i))

step_refuses : (p : ℕ) (first : Bool) (step : Step) → list_any refused_on step.marks ≡ false → list_any refuses (lines_of p first step.access step.value step.marks) ≡ false
step_refuses p first step none = by (is_quiet first step.access step.marks)
  where
    by : (b : Bool) → list_any refuses (if b then [] else access_lines p step.access step.value ++ map (mark_line p) step.marks) ≡ false
    by true = refl
    by false = marked_refuses p step.access step.value step.marks none

bit_refuses : (p bit found : ℕ) → list_any refuses (interrupt_line p bit found) ≡ false
bit_refuses p bit found = elim (bit_at found bit == 0) as (λ b. list_any refuses (if b then [] else line.Interrupt p bit ∷ []) ≡ false) [ true ↦ refl | false ↦ refl ]

found_refuses : (n p found : ℕ) → list_any refuses (interrupt_lines n p found) ≡ false
unfolding interrupt_lines
found_refuses zero p found = refl
found_refuses (suc n) p found = list_any-append refuses (interrupt_lines n p found) (interrupt_line p n found) ∙ (λ i. (found_refuses n p found i || bit_refuses p n found i))

-- Turns

abbrev pub IsClear : Peer → Type 0
IsClear peer = peer.end.handshake.mark ≡ false

step_clear : (config : EndConfig) (storm : ℕ → Step) → ((x : ℕ) → (storm x).marks ≡ []) → (driver : Driver) (peer after : Peer) (step : Step) → TakesStep config storm driver peer step after → IsClear after → list_any refused_on step.marks ≡ false
step_clear config storm quiet (Storms x) peer after step turn is = ap (λ (s : Step). list_any refused_on s.marks) turn.0 ∙ ap (list_any refused_on) (quiet x)
step_clear config storm quiet Waits peer after step turn is = (marks_clear (with_access (opened config peer).end step.access) step.marks (ap (λ (q : Peer). q.end.handshake.mark) (sym turn.2) ∙ is)).1
step_clear config storm quiet (Chooses auto) peer after step turn is = (marks_clear (with_access (opened config peer).end step.access) step.marks (ap (λ (q : Peer). q.end.handshake.mark) (sym turn.2) ∙ is)).1

-- A turn that leaves no mark records no refusal.
turn_clear : (config : EndConfig) (storm : ℕ → Step) → ((x : ℕ) → (storm x).marks ≡ []) → (routes : List Route) (p : ℕ) (turn : Turn) (run after : Running) → TakesTurn config storm routes run turn after → IsClear after.peer → list_any refuses (lines_in p turn) ≡ false
turn_clear config storm quiet routes p (Looks found) run after took is = found_refuses 64 p found
turn_clear config storm quiet routes p (Makes first step) run after took is = step_refuses p first step (step_clear config storm quiet run.peer.driver run.peer took.1.0 step took.1.1.takes (subst (λ (r : Running). IsClear r.peer) took.1.4 is))
turn_clear config storm quiet routes p (Clears step found) run after took is = by (is_set found) refl
  where
    recorded : Bool → List Line
    recorded b = access_lines p step.access step.value ++ map (mark_line p) (if b then [] else step.marks)

    by : (b : Bool) → is_set found ≡ b → list_any refuses (access_lines p step.access step.value ++ map (mark_line p) (if is_set found then [] else step.marks)) ≡ false
    by true set = ap (λ b. list_any refuses (recorded b)) set ∙ marked_refuses p step.access step.value [] refl
    by false set = let was : after ≡ steps_on run step.access took.1.0 = took.1.2 ∙ ap (λ (b : Bool). if b then record run { looks = Some 0; ringing = true; spans = spent run.spans } else steps_on run step.access took.1.0) set in
        ap (λ b. list_any refuses (recorded b)) set ∙ marked_refuses p step.access step.value step.marks (step_clear config storm quiet run.peer.driver run.peer took.1.0 step took.1.1.takes (subst (λ (r : Running). IsClear r.peer) was is))
turn_clear config storm quiet routes p (Rings step) run after took is = refused_lines p step.marks ∙ step_clear config storm quiet run.peer.driver run.peer took.1.0 step took.1.1.takes (subst (λ (r : Running). IsClear r.peer) took.1.2 is)
turn_clear config storm quiet routes p (Stores number) run after took is = refl
turn_clear config storm quiet routes p (Loads number) run after took is = refl
turn_clear config storm quiet routes p (Enters step opened other) run after took is = let next = took.3 in
    list_any-append refuses (access_lines p step.access step.value) (line.Session p opened other ∷ map (mark_line p) step.marks)
    ∙ (λ i. (access_refuses p step.access step.value i || (refused_lines p step.marks ∙ step_clear config storm quiet run.peer.driver run.peer next.0 step next.1.step_is.takes (subst (λ (r : Running). IsClear r.peer) next.2 is)) i))
turn_clear config storm quiet routes p Restarts run after took is = refl

-- The lines before any turn record no refusal.
pub none_refused : (key : RunSetup) (p : ℕ) (list : List (MemoryOp CallAccess)) → NeverMarked key p list → list_any refuses (lines_of_turns p []) ≡ false
unfolding lines_of_turns
none_refused key p list never = refl

-- One turn more, which did this besides.
pub refused_more : (key : RunSetup) (config : EndConfig) (storm : ℕ → Step) → ((x : ℕ) → (storm x).marks ≡ []) → (routes : List Route) (p : ℕ) (turns : List Turn) (turn : Turn) (run after : Running) (list next operations : List (MemoryOp CallAccess)) → next ≡ list ++ operations →
    TakesTurn config storm routes run turn after → (derived_state key p next).end ≡ after.peer.end → (NeverMarked key p list → list_any refuses (lines_of_turns p turns) ≡ false) →
    NeverMarked key p next → list_any refuses (lines_of_turns p (turns ++ turn ∷ [])) ≡ false
unfolding lines_of_turns
refused_more key config storm quiet routes p turns turn run after list next operations is took left was never =
    let before = was (λ front back e. never front (back ++ operations) (is ∙ (ap (λ l. l ++ operations) e ∙ append_assoc front back operations))) in
    let here = turn_clear config storm quiet routes p turn run after took (ap (λ (e : End). e.handshake.mark) (sym left) ∙ never next [] (sym (append-nil next))) in
    ap (list_any refuses) (flat_map-append (lines_in p) turns (turn ∷ [])) ∙ (list_any-append refuses (lines_of_turns p turns) (lines_in p turn ++ [])
    ∙ (λ i. (before i || (ap (list_any refuses) (append-nil (lines_in p turn)) ∙ here) i)))

-- The marks along every list that was made.
