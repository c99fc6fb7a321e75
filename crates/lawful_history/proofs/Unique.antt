-- A scenario has at most one lawful history.
use Rattle.std.proofs.Common.{◌≡◌, ℕ, ◌<◌, Bool, true, false, List, [], ◌∷◌, ◌++◌, refl, sym, ◌∙◌, ap, subst, append_assoc, inl, inr}
use Rattle.std.specs.Prelude.{◌==◌, if◌then◌else◌, Option, Some, map, reverse}
use Rattle.std.specs.List.{flat_map, AllByRecursion}
use Rattle.std.proofs.lemmas.List.{reverse-append, append-nil}
use Rattle.std.proofs.lemmas.List.Elements.{recursion_from_All}
use Rattle.section_map.specs.Geometry.{Shape}
use Rattle.split_ring.specs.declared.steps.Access.{Access}
use Rattle.split_ring.specs.declared.steps.Access.TheVariants as access
use Rattle.scenario_text.specs.Scenario.{World}
use Rattle.call_grammar.specs.Steps.{Step, step_of}
use Rattle.call_grammar.specs.Trees.{CallTree, Ended, Does, Reads, Goes}
use Rattle.lawful_history.specs.declared.line.Line.{Line}
use Rattle.lawful_history.specs.declared.line.Line.TheVariants as line
use Rattle.lawful_history.specs.Memory.{memory_effect_of, IsConsistent, MemoryLaw, last_write}
use Rattle.lawful_history.specs.Sides.{config_of}
use Rattle.lawful_history.specs.Schedule.{Event, TurnTaken, RegionAccessed, event_peer}
use Rattle.lawful_history.specs.EventRecords.{EventRecord, event_of, owner, mark_line, step_lines, turn_lines, region_access_lines, lines_by, lines_of, own}
use Rattle.lawful_history.specs.Order.{Chooser, Nobody, TheRule, TheStorm, chooser, Progress, initial_progress, begins, goes_to, IdleStep, GoesOn, CallStep, IsMade, EventStep, noted, IsCallSequence}
use Rattle.lawful_history.specs.Device.{device_lines, losses_with, DeviceRules}
use Rattle.lawful_history.specs.Lawful.{IsLawfulBy, HasOneHistory}
use Rattle.lawful_history.proofs.Owners.{is_same, own_first}

-- The older lines satisfy the law.
pub older_law : (g : Shape) (new old : List Line) → MemoryLaw g (new ++ old) → MemoryLaw g old
older_law g [] old law = law
older_law g (line ∷ new) old law = older_law g new old law.1

-- The first of the new lines satisfies the law.
pub first_law : (g : Shape) (past : List Line) (first : Line) (others : List Line) → MemoryLaw g (reverse (first ∷ others) ++ past) → IsConsistent g (memory_effect_of first) past
first_law g past first others law =
    let e : reverse (first ∷ others) ++ past ≡ reverse others ++ (first ∷ past) =
    ap (λ r. r ++ past) (reverse-append (first ∷ []) others) ∙ append_assoc (reverse others) (first ∷ []) past in
    let now : MemoryLaw g (reverse others ++ (first ∷ past)) = rw e at law in
    (older_law g (reverse others) (first ∷ past) now).0

-- The value of a step that reads.
read_is : (g : Shape) (past : List Line) (peer word value : ℕ) (others : List Line) → MemoryLaw g (reverse (line.Read peer word value ∷ others) ++ past) → value ≡ last_write past word
read_is g past peer word value others law = first_law g past (line.Read peer word value) others law

-- Event records with the same parts are equal.
entry_is : (d d' : EventRecord) → d.event ≡ d'.event → d.went ≡ d'.went → d.device ≡ d'.device → d ≡ d'
entry_is d d' same went device = ap (λ (e : Event). record { event = e; went = d.went; device = d.device }) same ∙
    ap (λ (w : Option Step). record { event = d'.event; went = w; device = d.device }) went ∙ ap (λ (l : List Line). record { event = d'.event; went = d'.went; device = l }) device

-- Two steps of a call after the same lines are equal.
same_goes : (g : Shape) (past : List Line) (peer : ℕ) (dev dev' : List Line) (tree : CallTree) (step step' : Step) (new new' : CallTree) → Goes tree step new → Goes tree step' new' →
    MemoryLaw g (reverse (step_lines peer step dev) ++ past) → MemoryLaw g (reverse (step_lines peer step' dev') ++ past) → (step ≡ step') × (new ≡ new')
same_goes g past peer dev dev' Ended step step' new new' goes goes' law law' = absurd goes
same_goes g past peer dev dev' (Does access marks rest) step step' new new' goes goes' law law' = (goes.0 ∙ sym goes'.0, goes.1 ∙ sym goes'.1)
same_goes g past peer dev dev' (Reads word marks rest) step step' new new' goes goes' law law' =
    let value_is : goes.0 ≡ last_write past word =
    read_is g past peer word goes.0 (dev ++ map (mark_line peer) (marks goes.0)) (subst (λ (s : Step). MemoryLaw g (reverse (step_lines peer s dev) ++ past)) goes.1 law) in
    let value_is' : goes'.0 ≡ last_write past word =
    read_is g past peer word goes'.0 (dev' ++ map (mark_line peer) (marks goes'.0)) (subst (λ (s : Step). MemoryLaw g (reverse (step_lines peer s dev') ++ past)) goes'.1 law') in
    let same : goes.0 ≡ goes'.0 = value_is ∙ sym value_is' in
    (goes.1 ∙ ap (λ v. step_of (access.Read word) v (marks v)) same ∙ sym goes'.1, goes.2 ∙ ap rest same ∙ sym goes'.2)

same_goes_on : (g : Shape) (past : List Line) (p : ℕ) (dev dev' : List Line) (peer : Progress) (tree : CallTree) (went went' : Option Step) (new new' : Progress) →
    GoesOn peer tree went new → GoesOn peer tree went' new' →
    MemoryLaw g (reverse (turn_lines p went dev) ++ past) → MemoryLaw g (reverse (turn_lines p went' dev') ++ past) → (went ≡ went') × (new ≡ new')
same_goes_on g past p dev dev' peer tree went went' new new' goes goes' law law' =
    let law_now : MemoryLaw g (reverse (step_lines p goes.0 dev) ++ past) = subst (λ (w : Option Step). MemoryLaw g (reverse (turn_lines p w dev) ++ past)) goes.2 law in
    let law_now' : MemoryLaw g (reverse (step_lines p goes'.0 dev') ++ past) = subst (λ (w : Option Step). MemoryLaw g (reverse (turn_lines p w dev') ++ past)) goes'.2 law' in
    let same = same_goes g past p dev dev' tree goes.0 goes'.0 goes.1 goes'.1 goes.3 goes'.3 law_now law_now' in
    let step_is : goes.0 ≡ goes'.0 = same.0 in
    let left_is : goes.1 ≡ goes'.1 = same.1 in
    let went_is = goes.2 in
    let went_is' = goes'.2 in
    (went_is ∙ ap Some step_is ∙ sym went_is', goes.4 ∙ ap (λ s. goes_to peer s goes.1) step_is ∙ ap (λ l. goes_to peer goes'.0 l) left_is ∙ sym goes'.4)

same_idles : (world : World) (p : ℕ) (peer : Progress) (chooser : Chooser) (went went' : Option Step) (new new' : Progress) → IdleStep world p peer chooser went new → IdleStep world p peer chooser went' new' →
    (went ≡ went') × (new ≡ new')
same_idles world p peer Nobody went went' new new' d d' = (d.0 ∙ sym d'.0, d.1 ∙ sym d'.1)
same_idles world p peer (TheRule expected) went went' new new' d d' = (d.0 ∙ sym d'.0, d.1 ∙ sym d'.1)
same_idles world p peer TheStorm went went' new new' d d' = (d.0 ∙ sym d'.0, d.1 ∙ sym d'.1)

same_moves : (world : World) (past : List Line) (q p : ℕ) (dev dev' : List Line) (peer : Progress) (tree : CallTree) (went went' : Option Step) (new new' : Progress) →
    CallStep world q peer tree went new → CallStep world q peer tree went' new' →
    MemoryLaw world.geometry (reverse (turn_lines p went dev) ++ past) → MemoryLaw world.geometry (reverse (turn_lines p went' dev') ++ past) → (went ≡ went') × (new ≡ new')
same_moves world past q p dev dev' peer Ended went went' new new' m m' law law' = same_idles world q peer (chooser peer.past) went went' new new' m m'
same_moves world past q p dev dev' peer (Does access marks rest) went went' new new' m m' law law' = same_goes_on world.geometry past p dev dev' peer (Does access marks rest) went went' new new' m m' law law'
same_moves world past q p dev dev' peer (Reads word marks rest) went went' new new' m m' law law' = same_goes_on world.geometry past p dev dev' peer (Reads word marks rest) went went' new new' m m' law law'

-- A denied write and a completed one don't both satisfy the law.
denied_or_made : (g : Shape) (past : List Line) (p word value : ℕ) (dev dev' : List Line) → MemoryLaw g (reverse (line.Denied p word ∷ dev) ++ past) →
    MemoryLaw g (reverse (line.Write p word value ∷ dev') ++ past) → ⊥
denied_or_made g past p word value dev dev' law law' =
    (first_law g past (line.Denied p word) dev law) (first_law g past (line.Write p word value) dev' law')

made_read : (g : Shape) (past : List Line) (p word : ℕ) (dev dev' : List Line) (went went' : Option Step) → IsMade (access.Read word) went → IsMade (access.Read word) went' →
    MemoryLaw g (reverse (region_access_lines p (access.Read word) went dev) ++ past) → MemoryLaw g (reverse (region_access_lines p (access.Read word) went' dev') ++ past) → went ≡ went'
made_read g past p word dev dev' went went' made made' law law' =
    let value_is : made.0 ≡ last_write past word = read_is g past p word made.0 (dev ++ []) (subst (λ (w : Option Step). MemoryLaw g (reverse (region_access_lines p (access.Read word) w dev) ++ past)) made.1 law) in
    let value_is' : made'.0 ≡ last_write past word = read_is g past p word made'.0 (dev' ++ []) (subst (λ (w : Option Step). MemoryLaw g (reverse (region_access_lines p (access.Read word) w dev') ++ past)) made'.1 law') in
    made.1 ∙ ap (λ v. Some (step_of (access.Read word) v [])) (value_is ∙ sym value_is') ∙ sym made'.1

made_write : (g : Shape) (past : List Line) (p word value : ℕ) (dev dev' : List Line) (went went' : Option Step) → IsMade (access.Write word value) went → IsMade (access.Write word value) went' →
    MemoryLaw g (reverse (region_access_lines p (access.Write word value) went dev) ++ past) → MemoryLaw g (reverse (region_access_lines p (access.Write word value) went' dev') ++ past) → went ≡ went'
made_write g past p word value dev dev' went went' (inl is) (inl is') law law' = is ∙ sym is'
made_write g past p word value dev dev' went went' (inr is) (inr is') law law' = is ∙ sym is'
made_write g past p word value dev dev' went went' (inl is) (inr is') law law' =
    absurd (denied_or_made g past p word value dev' (dev ++ [])
    (subst (λ (w : Option Step). MemoryLaw g (reverse (region_access_lines p (access.Write word value) w dev') ++ past)) is' law')
    (subst (λ (w : Option Step). MemoryLaw g (reverse (region_access_lines p (access.Write word value) w dev) ++ past)) is law))
made_write g past p word value dev dev' went went' (inr is) (inl is') law law' =
    absurd (denied_or_made g past p word value dev (dev' ++ [])
    (subst (λ (w : Option Step). MemoryLaw g (reverse (region_access_lines p (access.Write word value) w dev) ++ past)) is law)
    (subst (λ (w : Option Step). MemoryLaw g (reverse (region_access_lines p (access.Write word value) w dev') ++ past)) is' law'))

same_made : (g : Shape) (past : List Line) (p : ℕ) (a : Access) (dev dev' : List Line) (went went' : Option Step) → IsMade a went → IsMade a went' →
    MemoryLaw g (reverse (region_access_lines p a went dev) ++ past) → MemoryLaw g (reverse (region_access_lines p a went' dev') ++ past) → went ≡ went'
same_made g past p (access.Read word) dev dev' went went' made made' law law' = made_read g past p word dev dev' went went' made made' law law'
same_made g past p (access.Write word value) dev dev' went went' made made' law law' = made_write g past p word value dev dev' went went' made made' law law'
same_made g past p (access.State state) dev dev' went went' made made' law law' = made ∙ sym made'
same_made g past p (access.Ring target vector) dev dev' went went' made made' law law' = made ∙ sym made'
same_made g past p access.Nothing dev dev' went went' made made' law law' = made ∙ sym made'

-- The result of an event after the same lines.
same_acts : (world : World) (past : List Line) (q : ℕ) (peer : Progress) (event : Event) (dev dev' : List Line) (went went' : Option Step) (new new' : Progress) →
    EventStep world q peer event went new → EventStep world q peer event went' new' →
    MemoryLaw world.geometry (reverse (lines_by event went dev) ++ past) → MemoryLaw world.geometry (reverse (lines_by event went' dev') ++ past) → (went ≡ went') × (new ≡ new')
same_acts world past q peer (TurnTaken p) dev dev' went went' new new' a a' law law' =
    same_moves world past q p dev dev' (begins (config_of world q) peer) (begins (config_of world q) peer).left went went' new new' a a' law law'
same_acts world past q peer (RegionAccessed p a0) dev dev' went went' new new' a a' law law' = (same_made world.geometry past p a0 dev dev' went went' a.0 a'.0 law law', a.1 ∙ sym a'.1)
same_acts world past q peer _ dev dev' went went' new new' a a' law law' = (a.0 ∙ sym a'.0, a.1 ∙ sym a'.1)

-- The peers, after one of them changed.
abbrev with_peer : (ℕ → Progress) → ℕ → Progress → ℕ → Progress
with_peer peers p next q = if p == q then next else peers q

-- The facts of the event records to come.
record Follows (world : World) (past : List Line) (losses : ℕ → ℕ) (peers : ℕ → Progress) (entries : List EventRecord) : Type 0 where
  law : MemoryLaw world.geometry (reverse (flat_map lines_of entries) ++ past)
  device : DeviceRules world past losses entries
  owners : AllByRecursion (λ entry. owner entry < world.geometry.peers) entries
  calls : (p : ℕ) → p < world.geometry.peers → (end : Progress) × IsCallSequence world p (peers p) (own p entries) end

-- The first of these event records.
record First (world : World) (past : List Line) (losses : ℕ → ℕ) (peers : ℕ → Progress) (entry : EventRecord) (entries : List EventRecord) : Type 0 where
  next : Progress
  acts : EventStep world (owner entry) (peers (owner entry)) entry.event entry.went next
  law : MemoryLaw world.geometry (reverse (lines_of entry) ++ past)
  rest : Follows world (reverse (lines_of entry) ++ past) (losses_with entry.event losses) (with_peer peers (owner entry) (noted next entry)) entries

law_splits : (g : Shape) (past : List Line) (entry : EventRecord) (entries : List EventRecord) → MemoryLaw g (reverse (flat_map lines_of (entry ∷ entries)) ++ past) →
    MemoryLaw g (reverse (flat_map lines_of entries) ++ (reverse (lines_of entry) ++ past))
law_splits g past entry entries law =
    let e : reverse (flat_map lines_of (entry ∷ entries)) ++ past ≡ reverse (flat_map lines_of entries) ++ (reverse (lines_of entry) ++ past) =
    ap (λ r. r ++ past) (reverse-append (lines_of entry) (flat_map lines_of entries)) ∙ append_assoc (reverse (flat_map lines_of entries)) (reverse (lines_of entry)) past in
    rw e at law

-- The other peers, and the peer of the first event record after it, satisfy `IsCallSequence` for
-- the rest.
serves_on : (world : World) (peers : ℕ → Progress) (p q : ℕ) (next : Progress) (entry : EventRecord) (entries : List EventRecord) (b : Bool) → (p == q) ≡ b →
    ((end : Progress) × IsCallSequence world p next (own p entries) end) →
    ((end : Progress) × IsCallSequence world q (peers q) (if b then entry ∷ own q entries else own q entries) end) →
    (end : Progress) × IsCallSequence world q (if b then next else peers q) (own q entries) end
serves_on world peers p q next entry entries true is mine other_start = subst (λ (k : ℕ). (end : Progress) × IsCallSequence world k next (own k entries) end) (is_same p q is) mine
serves_on world peers p q next entry entries false is mine other_start = other_start

first_of_all : (world : World) (past : List Line) (losses : ℕ → ℕ) (peers : ℕ → Progress) (entry : EventRecord) (entries : List EventRecord) → Follows world past losses peers (entry ∷ entries) → First world past losses peers entry entries
first_of_all world past losses peers entry entries f =
    let p = owner entry in
    let mine = f.calls p f.owners.0 in
    let serves : IsCallSequence world p (peers p) (entry ∷ own p entries) mine.0 = subst (λ (x : List EventRecord). IsCallSequence world p (peers p) x mine.0) (own_first entry entries) mine.1 in
    let law = law_splits world.geometry past entry entries f.law in
    record {
      next = serves.0;
      acts = serves.1;
      law = older_law world.geometry (reverse (flat_map lines_of entries)) (reverse (lines_of entry) ++ past) law;
      rest = record {
        law = law;
        device = f.device.1;
        owners = f.owners.1;
        calls = λ q below. serves_on world peers p q (noted serves.0 entry) entry entries (p == q) refl (mine.0, serves.2) (f.calls q below);
      };
    }

-- The event records of one event after the same lines.
same_entry : (world : World) (past : List Line) (losses : ℕ → ℕ) (peer : Progress) (d d' : EventRecord) (new new' : Progress) → d.event ≡ d'.event →
    EventStep world (owner d) peer d.event d.went new → EventStep world (owner d) peer d'.event d'.went new' →
    d.device ≡ device_lines world past losses d.event d.went → d'.device ≡ device_lines world past losses d'.event d'.went →
    MemoryLaw world.geometry (reverse (lines_of d) ++ past) → MemoryLaw world.geometry (reverse (lines_of d') ++ past) → (d ≡ d') × (new ≡ new')
same_entry world past losses peer d d' new new' same a a' rules rules' law law' =
    let acts' : EventStep world (owner d) peer d.event d'.went new' = subst (λ (e : Event). EventStep world (owner d) peer e d'.went new') (sym same) a' in
    let law'' : MemoryLaw world.geometry (reverse (lines_by d.event d'.went d'.device) ++ past) = subst (λ (e : Event). MemoryLaw world.geometry (reverse (lines_by e d'.went d'.device) ++ past)) (sym same) law' in
    let acted = same_acts world past (owner d) peer d.event d.device d'.device d.went d'.went new new' a acts' law law'' in
    let device : d.device ≡ d'.device =
    rules ∙ ap (λ w. device_lines world past losses d.event w) acted.0 ∙ ap (λ e. device_lines world past losses e d'.went) same ∙ sym rules' in
    (entry_is d d' same acted.0 device, acted.1)

heads : (d d' : EventRecord) (ds ds' : List EventRecord) → map event_of (d ∷ ds) ≡ map event_of (d' ∷ ds') → (event_of d ≡ event_of d') × (map event_of ds ≡ map event_of ds')
heads d d' ds ds' same = (cc, cc)

same_entries : (world : World) (past : List Line) (losses : ℕ → ℕ) (peers : ℕ → Progress) (ds ds' : List EventRecord) → map event_of ds ≡ map event_of ds' →
    Follows world past losses peers ds → Follows world past losses peers ds' → ds ≡ ds'
same_entries world past losses peers [] [] same f f' = refl
same_entries world past losses peers [] (d' ∷ ds') same f f' = absurd (cc)
same_entries world past losses peers (d ∷ ds) [] same f f' = absurd (cc)
same_entries world past losses peers (d ∷ ds) (d' ∷ ds') same f f' =
    let parts = heads d d' ds ds' same in
    let owners_same : owner d' ≡ owner d = ap event_peer (sym parts.0) in
    let a = first_of_all world past losses peers d ds f in
    let a' = first_of_all world past losses peers d' ds' f' in
    let acts' : EventStep world (owner d) (peers (owner d)) d'.event d'.went a'.next = subst (λ (p : ℕ). EventStep world p (peers p) d'.event d'.went a'.next) owners_same a'.acts in
    let now = same_entry world past losses (peers (owner d)) d d' a.next a'.next parts.0 a.acts acts' f.device.0 f'.device.0 a.law a'.law in
    let rest' : Follows world (reverse (lines_of d) ++ past) (losses_with d.event losses) (with_peer peers (owner d) (noted a.next d)) ds' =
    subst (λ (n : Progress). Follows world (reverse (lines_of d) ++ past) (losses_with d.event losses) (with_peer peers (owner d) (noted n d)) ds') (sym now.1)
    (subst (λ (x : EventRecord). Follows world (reverse (lines_of x) ++ past) (losses_with x.event losses) (with_peer peers (owner x) (noted a'.next x)) ds') (sym now.0) a'.rest) in
    let tails = same_entries world (reverse (lines_of d) ++ past) (losses_with d.event losses) (with_peer peers (owner d) (noted a.next d)) ds ds' parts.1 a.rest rest' in
    ap (λ x. x ∷ ds) now.0 ∙ ap (λ xs. d' ∷ xs) tails

follows : (world : World) (lines : List Line) (entries : List EventRecord) → IsLawfulBy world lines entries → Follows world [] (λ p. 0) (λ p. initial_progress) entries
follows world lines entries by = record {
  law = rw append-nil (rw (← by.recorded) at by.memory);
  device = by.device;
  owners = recursion_from_All (λ (entry : EventRecord). owner entry < world.geometry.peers) entries by.owners;
  calls = by.calls;
}

pub has_one_history : HasOneHistory
has_one_history world lines others lawful lawful' =
    let same = same_entries world [] (λ p. 0) (λ p. initial_progress) lawful.0 lawful'.0 (lawful.1.events ∙ sym lawful'.1.events) (follows world lines lawful.0 lawful.1) (follows world others lawful'.0 lawful'.1) in
    sym lawful.1.recorded ∙ ap (λ (entries : List EventRecord). flat_map lines_of entries) same ∙ lawful'.1.recorded
