-- A schedule has at most one lawful history.
use Rattle.std.proofs.Common.{◌≡◌, ℕ, Bool, true, false, List, [], ◌∷◌, ◌++◌, refl, sym, ◌∙◌, ap, subst, append_assoc, inl, inr, map}
use Rattle.std.specs.Prelude.{◌==◌, if◌then◌else◌, Option, Some, reverse}
use Rattle.std.specs.List.{flat_map}
use Rattle.std.proofs.lemmas.Bool.{eqb-true, eq-eqb}
use Rattle.std.proofs.lemmas.List.{reverse-append, append-nil}
use Rattle.section_map.specs.Geometry.{Shape}
use Rattle.split_ring.specs.declared.steps.Access.TheVariants as access
use Rattle.port_text.specs.Scenario.{World}
use Rattle.sampling_port.specs.Marks.{PortMark}
use Rattle.sampling_port.specs.Trees.{PortTree, Ended, Does, Reads, PortStep, port_step, Goes}
use Rattle.sampling_port.specs.Schedule.{Event, CallQueued, TurnTaken, Poked, event_peer}
use Rattle.sampling_port.specs.EventRecords.{Line, Read, Wrote, Denied, EventRecord, event_of, mark_lines, step_lines, lines_by, lines_of, own_entries}
use Rattle.sampling_port.specs.Memory.{IsConsistent, MemoryLaw, last_write}
use Rattle.sampling_port.specs.Order.{Progress, initial_progress, begins, CallStep, IsMade, EventStep, noted, IsCallSequence}
use Rattle.sampling_port.specs.Lawful.{IsLawfulBy, HasOneHistory}

-- The law holds of the older lines.
pub older_law : (g : Shape) (new old : List Line) → MemoryLaw g (new ++ old) → MemoryLaw g old
older_law g [] old law = law
older_law g (line ∷ new) old law = older_law g new old law.1

-- The law holds of the first of some new lines.
pub first_law : (g : Shape) (past : List Line) (first : Line) (others : List Line) → MemoryLaw g (reverse (first ∷ others) ++ past) → IsConsistent g first past
first_law g past first others law =
    let e : reverse (first ∷ others) ++ past ≡ reverse others ++ (first ∷ past) = ap (λ r. r ++ past) (reverse-append (first ∷ []) others) ∙ append_assoc (reverse others) (first ∷ []) past in
    let now : MemoryLaw g (reverse others ++ (first ∷ past)) = rw e at law in
    (older_law g (reverse others) (first ∷ past) now).0

read_is : (g : Shape) (past : List Line) (p word value : ℕ) (mark : Option PortMark) → MemoryLaw g (reverse (step_lines p (port_step (access.Read word) value mark)) ++ past) → value ≡ last_write past word
read_is g past p word value mark law = first_law g past (Read p word value) (mark_lines p mark) law

-- Two steps by which a call continues after the same lines are equal.
same_goes : (g : Shape) (past : List Line) (p : ℕ) (tree : PortTree) (step step' : PortStep) (new new' : PortTree) → Goes tree step new → Goes tree step' new' →
    MemoryLaw g (reverse (step_lines p step) ++ past) → MemoryLaw g (reverse (step_lines p step') ++ past) → (step ≡ step') × (new ≡ new')
same_goes g past p Ended step step' new new' goes goes' law law' = absurd goes
same_goes g past p (Does a mark rest) step step' new new' goes goes' law law' = (goes.0 ∙ sym goes'.0, goes.1 ∙ sym goes'.1)
same_goes g past p (Reads word mark rest) step step' new new' goes goes' law law' =
    let value_is : goes.0 ≡ last_write past word = read_is g past p word goes.0 (mark goes.0) (subst (λ (s : PortStep). MemoryLaw g (reverse (step_lines p s) ++ past)) goes.1 law) in
    let value_is' : goes'.0 ≡ last_write past word = read_is g past p word goes'.0 (mark goes'.0) (subst (λ (s : PortStep). MemoryLaw g (reverse (step_lines p s) ++ past)) goes'.1 law') in
    let same : goes.0 ≡ goes'.0 = value_is ∙ sym value_is' in
    (goes.1 ∙ ap (λ v. port_step (access.Read word) v (mark v)) same ∙ sym goes'.1, goes.2 ∙ ap rest same ∙ sym goes'.2)

same_goes_on : (g : Shape) (past : List Line) (p : ℕ) (peer : Progress) (tree : PortTree) (went went' : Option PortStep) (new new' : Progress) →
    ((step : PortStep) × (left : PortTree) × (went ≡ Some step) × Goes tree step left × (new ≡ record peer { left = left })) →
    ((step : PortStep) × (left : PortTree) × (went' ≡ Some step) × Goes tree step left × (new' ≡ record peer { left = left })) →
    MemoryLaw g (reverse (lines_by (TurnTaken p) went) ++ past) → MemoryLaw g (reverse (lines_by (TurnTaken p) went') ++ past) → (went ≡ went') × (new ≡ new')
same_goes_on g past p peer tree went went' new new' goes goes' law law' =
    let now : MemoryLaw g (reverse (step_lines p goes.0) ++ past) = subst (λ (w : Option PortStep). MemoryLaw g (reverse (lines_by (TurnTaken p) w) ++ past)) goes.2 law in
    let now' : MemoryLaw g (reverse (step_lines p goes'.0) ++ past) = subst (λ (w : Option PortStep). MemoryLaw g (reverse (lines_by (TurnTaken p) w) ++ past)) goes'.2 law' in
    let same = same_goes g past p tree goes.0 goes'.0 goes.1 goes'.1 goes.3 goes'.3 now now' in
    let went_is = goes.2 in
    let went_is' = goes'.2 in
    (went_is ∙ ap Some same.0 ∙ sym went_is', goes.4 ∙ ap (λ (l : PortTree). record peer { left = l }) same.1 ∙ sym goes'.4)

same_moves : (g : Shape) (past : List Line) (p : ℕ) (peer : Progress) (tree : PortTree) (went went' : Option PortStep) (new new' : Progress) → CallStep peer tree went new → CallStep peer tree went' new' →
    MemoryLaw g (reverse (lines_by (TurnTaken p) went) ++ past) → MemoryLaw g (reverse (lines_by (TurnTaken p) went') ++ past) → (went ≡ went') × (new ≡ new')
same_moves g past p peer Ended went went' new new' m m' law law' = (m.0 ∙ sym m'.0, m.1 ∙ sym m'.1)
same_moves g past p peer (Does a mark rest) went went' new new' m m' law law' = same_goes_on g past p peer (Does a mark rest) went went' new new' m m' law law'
same_moves g past p peer (Reads word mark rest) went went' new new' m m' law law' = same_goes_on g past p peer (Reads word mark rest) went went' new new' m m' law law'

-- A denied write and one that was made can't both keep the law.
same_made : (g : Shape) (past : List Line) (p word value : ℕ) (went went' : Option PortStep) → IsMade word value went → IsMade word value went' →
    MemoryLaw g (reverse (lines_by (Poked p word value) went) ++ past) → MemoryLaw g (reverse (lines_by (Poked p word value) went') ++ past) → went ≡ went'
same_made g past p word value went went' (inl is) (inl is') law law' = is ∙ sym is'
same_made g past p word value went went' (inr is) (inr is') law law' = is ∙ sym is'
same_made g past p word value went went' (inl is) (inr is') law law' =
    absurd ((first_law g past (Denied p word) [] (subst (λ (w : Option PortStep). MemoryLaw g (reverse (lines_by (Poked p word value) w) ++ past)) is' law'))
    (first_law g past (Wrote p word value) [] (subst (λ (w : Option PortStep). MemoryLaw g (reverse (lines_by (Poked p word value) w) ++ past)) is law)))
same_made g past p word value went went' (inr is) (inl is') law law' =
    absurd ((first_law g past (Denied p word) [] (subst (λ (w : Option PortStep). MemoryLaw g (reverse (lines_by (Poked p word value) w) ++ past)) is law))
    (first_law g past (Wrote p word value) [] (subst (λ (w : Option PortStep). MemoryLaw g (reverse (lines_by (Poked p word value) w) ++ past)) is' law')))

-- The result of an event after the same lines.
same_acts : (world : World) (past : List Line) (q : ℕ) (peer : Progress) (event : Event) (went went' : Option PortStep) (new new' : Progress) → EventStep world q peer event went new → EventStep world q peer event went' new' →
    MemoryLaw world.geometry (reverse (lines_by event went) ++ past) → MemoryLaw world.geometry (reverse (lines_by event went') ++ past) → (went ≡ went') × (new ≡ new')
same_acts world past q peer (CallQueued p call) went went' new new' a a' law law' = (a.0 ∙ sym a'.0, a.1 ∙ sym a'.1)
same_acts world past q peer (TurnTaken p) went went' new new' a a' law law' = same_moves world.geometry past p (begins world q peer) (begins world q peer).left went went' new new' a a' law law'
same_acts world past q peer (Poked p word value) went went' new new' a a' law law' = (same_made world.geometry past p word value went went' a.0 a'.0 law law', a.1 ∙ sym a'.1)

-- The peers with another progress for one of them.
abbrev with_peer : (ℕ → Progress) → ℕ → Progress → ℕ → Progress
with_peer peers p next q = if p == q then next else peers q

abbrev pub owner : EventRecord → ℕ
owner entry = event_peer entry.event

-- The facts known of the event records to come.
record Follows (world : World) (past : List Line) (peers : ℕ → Progress) (entries : List EventRecord) : Type 0 where
  law : MemoryLaw world.geometry (reverse (flat_map lines_of entries) ++ past)
  calls : (p : ℕ) → (end : Progress) × IsCallSequence world p (peers p) (own_entries p entries) end

-- The first of them.
record First (world : World) (past : List Line) (peers : ℕ → Progress) (entry : EventRecord) (entries : List EventRecord) : Type 0 where
  next : Progress
  acts : EventStep world (owner entry) (peers (owner entry)) entry.event entry.went next
  law : MemoryLaw world.geometry (reverse (lines_of entry) ++ past)
  rest : Follows world (reverse (lines_of entry) ++ past) (with_peer peers (owner entry) (noted next entry)) entries

pub law_splits : (g : Shape) (past : List Line) (entry : EventRecord) (entries : List EventRecord) → MemoryLaw g (reverse (flat_map lines_of (entry ∷ entries)) ++ past) →
    MemoryLaw g (reverse (flat_map lines_of entries) ++ (reverse (lines_of entry) ++ past))
law_splits g past entry entries law =
    let e : reverse (flat_map lines_of (entry ∷ entries)) ++ past ≡ reverse (flat_map lines_of entries) ++ (reverse (lines_of entry) ++ past) =
    ap (λ r. r ++ past) (reverse-append (lines_of entry) (flat_map lines_of entries)) ∙ append_assoc (reverse (flat_map lines_of entries)) (reverse (lines_of entry)) past in
    rw e at law

own_first : (entry : EventRecord) (entries : List EventRecord) → own_entries (owner entry) (entry ∷ entries) ≡ entry ∷ own_entries (owner entry) entries
own_first entry entries = rw (eq-eqb (owner entry) (owner entry) refl) refl

-- The other peers, and the peer of the first event record after it, continue with the others.
serves_on : (world : World) (peers : ℕ → Progress) (p q : ℕ) (next : Progress) (entry : EventRecord) (entries : List EventRecord) (b : Bool) → (p == q) ≡ b →
    ((end : Progress) × IsCallSequence world p next (own_entries p entries) end) →
    ((end : Progress) × IsCallSequence world q (peers q) (if b then entry ∷ own_entries q entries else own_entries q entries) end) →
    (end : Progress) × IsCallSequence world q (if b then next else peers q) (own_entries q entries) end
serves_on world peers p q next entry entries true is mine other_start = subst (λ (k : ℕ). (end : Progress) × IsCallSequence world k next (own_entries k entries) end) (eqb-true p q is) mine
serves_on world peers p q next entry entries false is mine other_start = other_start

first_of_all : (world : World) (past : List Line) (peers : ℕ → Progress) (entry : EventRecord) (entries : List EventRecord) → Follows world past peers (entry ∷ entries) → First world past peers entry entries
first_of_all world past peers entry entries f =
    let p = owner entry in
    let mine = f.calls p in
    let serves : IsCallSequence world p (peers p) (entry ∷ own_entries p entries) mine.0 = subst (λ (x : List EventRecord). IsCallSequence world p (peers p) x mine.0) (own_first entry entries) mine.1 in
    let law = law_splits world.geometry past entry entries f.law in
    record {
      next = serves.0;
      acts = serves.1;
      law = older_law world.geometry (reverse (flat_map lines_of entries)) (reverse (lines_of entry) ++ past) law;
      rest = record { law = law; calls = λ q. serves_on world peers p q (noted serves.0 entry) entry entries (p == q) refl (mine.0, serves.2) (f.calls q) };
    }

entry_is : (d d' : EventRecord) → d.event ≡ d'.event → d.went ≡ d'.went → d ≡ d'
entry_is d d' same went = ap (λ (e : Event). record { event = e; went = d.went }) same ∙ ap (λ (w : Option PortStep). record { event = d'.event; went = w }) went

same_entry : (world : World) (past : List Line) (peer : Progress) (d d' : EventRecord) (new new' : Progress) → d.event ≡ d'.event → EventStep world (owner d) peer d.event d.went new → EventStep world (owner d) peer d'.event d'.went new' →
    MemoryLaw world.geometry (reverse (lines_of d) ++ past) → MemoryLaw world.geometry (reverse (lines_of d') ++ past) → (d ≡ d') × (new ≡ new')
same_entry world past peer d d' new new' same a a' law law' =
    let acts' : EventStep world (owner d) peer d.event d'.went new' = subst (λ (e : Event). EventStep world (owner d) peer e d'.went new') (sym same) a' in
    let law'' : MemoryLaw world.geometry (reverse (lines_by d.event d'.went) ++ past) = subst (λ (e : Event). MemoryLaw world.geometry (reverse (lines_by e d'.went) ++ past)) (sym same) law' in
    let acted = same_acts world past (owner d) peer d.event d.went d'.went new new' a acts' law law'' in
    (entry_is d d' same acted.0, acted.1)

heads : (d d' : EventRecord) (ds ds' : List EventRecord) → map event_of (d ∷ ds) ≡ map event_of (d' ∷ ds') → (event_of d ≡ event_of d') × (map event_of ds ≡ map event_of ds')
heads d d' ds ds' same = (cc, cc)

same_entries : (world : World) (past : List Line) (peers : ℕ → Progress) (ds ds' : List EventRecord) → map event_of ds ≡ map event_of ds' → Follows world past peers ds → Follows world past peers ds' → ds ≡ ds'
same_entries world past peers [] [] same f f' = refl
same_entries world past peers [] (d' ∷ ds') same f f' = absurd (cc)
same_entries world past peers (d ∷ ds) [] same f f' = absurd (cc)
same_entries world past peers (d ∷ ds) (d' ∷ ds') same f f' =
    let parts = heads d d' ds ds' same in
    let owners_same : owner d' ≡ owner d = ap event_peer (sym parts.0) in
    let a = first_of_all world past peers d ds f in
    let a' = first_of_all world past peers d' ds' f' in
    let acts' : EventStep world (owner d) (peers (owner d)) d'.event d'.went a'.next = subst (λ (p : ℕ). EventStep world p (peers p) d'.event d'.went a'.next) owners_same a'.acts in
    let now = same_entry world past (peers (owner d)) d d' a.next a'.next parts.0 a.acts acts' a.law a'.law in
    let rest' : Follows world (reverse (lines_of d) ++ past) (with_peer peers (owner d) (noted a.next d)) ds' =
    subst (λ (n : Progress). Follows world (reverse (lines_of d) ++ past) (with_peer peers (owner d) (noted n d)) ds') (sym now.1)
    (subst (λ (x : EventRecord). Follows world (reverse (lines_of x) ++ past) (with_peer peers (owner x) (noted a'.next x)) ds') (sym now.0) a'.rest) in
    let tails = same_entries world (reverse (lines_of d) ++ past) (with_peer peers (owner d) (noted a.next d)) ds ds' parts.1 a.rest rest' in
    ap (λ x. x ∷ ds) now.0 ∙ ap (λ xs. d' ∷ xs) tails

follows : (world : World) (lines : List Line) (entries : List EventRecord) → IsLawfulBy world lines entries → Follows world [] (λ p. initial_progress) entries
follows world lines entries by = record { law = rw append-nil (rw (← by.recorded) at by.memory); calls = by.calls }

pub has_one_history : HasOneHistory
has_one_history world lines others lawful lawful' =
    let same = same_entries world [] (λ p. initial_progress) lawful.0 lawful'.0 (lawful.1.events ∙ sym lawful'.1.events) (follows world lines lawful.0 lawful.1) (follows world others lawful'.0 lawful'.1) in
    sym lawful.1.recorded ∙ ap (λ (entries : List EventRecord). flat_map lines_of entries) same ∙ lawful'.1.recorded
