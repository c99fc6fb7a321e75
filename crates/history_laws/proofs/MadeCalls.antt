-- The turn steps of an honest link peer since its last reset are calls, along its own event
-- records.
use Rattle.std.proofs.Common.{◌≡◌, ◌≢◌, ℕ, ◌<◌, inl, inr, Bool, true, false, List, [], ◌∷◌, ◌++◌, refl, sym, ap, ◌∙◌, subst, arith, append_assoc}
use Rattle.std.specs.Prelude.{◌==◌, if◌then◌else◌, Option, Some, map, reverse}
use Rattle.std.specs.List.{AllByRecursion}
use Rattle.std.proofs.lemmas.List.{reverse-append, append-nil}
use Rattle.std.proofs.lemmas.List.Elements.{All-nil, All-cons}
use Rattle.scenario_text.specs.Scenario.{World, IsWorld, is_link}
use Rattle.call_grammar.specs.Steps.{Step}
use Rattle.call_grammar.specs.Trees.{CallTree, Ended, Does, Reads, Goes, GoesAlong}
use Rattle.call_grammar.specs.Ends.{End, end_after}
use Rattle.call_grammar.specs.Calls.{EndConfig, Call, tree_of}
use Rattle.call_grammar.specs.StepBounds.{HasFewInFlight}
use Rattle.link_invariant.specs.LinkConfig as pair
use Rattle.lawful_history.specs.declared.line.Line.{Line}
use Rattle.lawful_history.specs.Schedule.{Event, CallQueued, AutoStarted, StormStarted, TurnTaken, RegionAccessed, DeviceReset, DeviceAccessed, InterruptDropped, InterruptRepeated, event_peer}
use Rattle.lawful_history.specs.Sides.{config_of}
use Rattle.lawful_history.specs.EventRecords.{EventRecord, event_of, owner, own}
use Rattle.lawful_history.specs.Order.{Progress, initial_progress, EventStep, noted, IsCallSequence}
use Rattle.lawful_history.proofs.Owners.{is_same}
use Rattle.history_laws.specs.Calls.{with_step, steps_since, next_call, Begun, all_steps, InTurn, InTurns, AreFinished, AreCalls, MakesCalls, CallsEndWithinBounds}
use Rattle.history_laws.proofs.PermittedEvents.{link_config_of, IsProper, all_proper}
use Rattle.history_laws.proofs.LinkPeers.{config_is}
use Rattle.history_laws.proofs.PlacesAlong.{two_links}
use Rattle.history_laws.proofs.WholeCalls.{along_on, finished_call, open_call}
use Rattle.history_laws.proofs.OwnEntries.{MayCall, may_call_on, next_given, TakesStep, TurnIs, turn_is, Keeps, few_in_flight, keeps_at_first, keeps_begun, keeps_step, keeps_reset}

-- The calls, with the rest of the newest one

abbrev Newest : EndConfig → List Begun → CallTree → Type 0
Newest config [] left = left ≡ Ended
Newest config (begun ∷ earlier) left = HasFewInFlight config begun.at.end × GoesAlong (tree_of config begun.at.end begun.call) begun.steps left × AreFinished config earlier

record Split (world : World) (p : ℕ) (past : List EventRecord) (left : CallTree) : Type 0 where
  calls : List Begun
  steps : steps_since past ≡ all_steps calls
  turns : InTurns world p past calls
  newest : Newest (config_of world p) calls left

-- An event record without a reset changes nothing of the turns before it.
turn_on : (world : World) (p : ℕ) (past : List EventRecord) (entry : EventRecord) (begun : Begun) (earlier : List Begun) → entry.event ≢ DeviceReset p → InTurn world p past begun earlier → InTurn world p (entry ∷ past) begun earlier
turn_on world p past entry begun earlier other t = record {
  led = t.led;
  made = t.made;
  closed = t.closed;
  next = t.next;
  newer = entry ∷ t.newer;
  first = t.first;
  device = t.device;
  turn = ap (λ (k : List EventRecord). entry ∷ k) t.turn;
  kept = All-cons (λ (e : EventRecord). e.event ≢ DeviceReset p) entry t.newer other t.kept;
}

turns_on : (world : World) (p : ℕ) (past : List EventRecord) (entry : EventRecord) (calls : List Begun) → entry.event ≢ DeviceReset p → InTurns world p past calls → InTurns world p (entry ∷ past) calls
turns_on world p past entry [] other turns = tt
turns_on world p past entry (begun ∷ earlier) other turns = (turn_on world p past entry begun earlier other turns.0, turns_on world p past entry earlier other turns.1)

-- An event record without a step of a turn.
split_on : (world : World) (p : ℕ) (past : List EventRecord) (left : CallTree) (entry : EventRecord) → entry.event ≢ DeviceReset p → steps_since (entry ∷ past) ≡ steps_since past → Split world p past left → Split world p (entry ∷ past) left
split_on world p past left entry other same s = record { calls = s.calls; steps = same ∙ s.steps; turns = turns_on world p past entry s.calls other s.turns; newest = s.newest }

-- All calls are finished if none is open.
all_finished : (config : EndConfig) (calls : List Begun) → Newest config calls Ended → AreFinished config calls
all_finished config [] newest = tt
all_finished config (begun ∷ earlier) newest = (finished_call config begun newest.0 newest.1, newest.2)

abbrev turn_entry : ℕ → Step → List Line → EventRecord
turn_entry p step device = record { event = TurnTaken p; went = Some step; device = device }

turn_is_none : (p : ℕ) → TurnTaken p ≢ DeviceReset p
turn_is_none p e = absurd (cc)

-- A step of the open call.
split_step : (world : World) (p : ℕ) (past : List EventRecord) (left new : CallTree) (step : Step) (device : List Line) → Goes left step new → Split world p past left → Split world p (turn_entry p step device ∷ past) new
split_step world p past left new step device goes s = by_calls s.calls s.steps s.turns s.newest
  where
    by_calls : (calls : List Begun) → steps_since past ≡ all_steps calls → InTurns world p past calls → Newest (config_of world p) calls left → Split world p (turn_entry p step device ∷ past) new
    by_calls [] steps turns newest = let none : Goes Ended step new = subst (λ (t : CallTree). Goes t step new) newest goes in absurd none
    by_calls (begun ∷ earlier) steps turns newest =
        let entry = turn_entry p step device in
        let now : Begun = record { at = begun.at; call = begun.call; steps = begun.steps ++ step ∷ [] } in
        let t = turn_on world p past entry begun earlier (turn_is_none p) turns.0 in
        record {
          calls = now ∷ earlier;
          steps = ap (λ (k : List Step). k ++ step ∷ []) steps ∙ append_assoc (all_steps earlier) begun.steps (step ∷ []);
          turns = (record { led = t.led; made = t.made; closed = t.closed; next = t.next; newer = t.newer; first = t.first; device = t.device; turn = t.turn; kept = t.kept }, turns_on world p past entry earlier (turn_is_none p) turns.1);
          newest = (newest.0, along_on (tree_of (config_of world p) begun.at.end begun.call) left new begun.steps step newest.1 goes, newest.2);
        }

-- The first step of the next call.
split_begins : (world : World) (p : ℕ) (old : Progress) (call : Call) (new : CallTree) (step : Step) (device : List Line) → IsCallSequence world p initial_progress (reverse old.past) old → HasFewInFlight (config_of world p) old.end → old.left ≡ Ended → next_call old ≡ Some call →
    Goes (tree_of (config_of world p) old.end call) step new → Split world p old.past old.left → Split world p (turn_entry p step device ∷ old.past) new
split_begins world p old call new step device led few closed next goes s =
    let entry = turn_entry p step device in
    let config = config_of world p in
    let begun : Begun = record { at = old; call = call; steps = step ∷ [] } in
    record {
      calls = begun ∷ s.calls;
      steps = ap (λ (k : List Step). k ++ step ∷ []) s.steps;
      turns = (
        record { led = led; made = s.steps; closed = closed; next = next; newer = []; first = step; device = device; turn = refl; kept = All-nil (λ (e : EventRecord). e.event ≢ DeviceReset p) },
        turns_on world p old.past entry s.calls (turn_is_none p) s.turns,
      );
      newest = (few, (new, goes, refl), all_finished config s.calls (subst (λ (t : CallTree). Newest config s.calls t) closed s.newest));
    }

split_reset : (world : World) (p q : ℕ) (past : List EventRecord) (went : Option Step) (device : List Line) → Split world p (record { event = DeviceReset q; went = went; device = device } ∷ past) Ended
split_reset world p q past went device = record { calls = []; steps = refl; turns = tt; newest = refl }

-- The calls are whole, or the newest is open.
are_calls : (config : EndConfig) (calls : List Begun) (left : CallTree) → Newest config calls left → AreCalls config calls
are_calls config [] left newest = tt
are_calls config (begun ∷ earlier) Ended newest = (inl (finished_call config begun newest.0 newest.1), newest.2)
are_calls config (begun ∷ earlier) (Does a marks rest) newest = (inr (open_call config begun (Does a marks rest) newest.0 newest.1 (λ is. cc)), newest.2)
are_calls config (begun ∷ earlier) (Reads word marks rest) newest = (inr (open_call config begun (Reads word marks rest) newest.0 newest.1 (λ is. cc)), newest.2)

-- The event records of a peer, in order

serves_snoc : (world : World) (p : ℕ) (entries : List EventRecord) (entry : EventRecord) (old mid new : Progress) → IsCallSequence world p old entries mid → EventStep world p mid entry.event entry.went new → IsCallSequence world p old (entries ++ entry ∷ []) (noted new entry)
serves_snoc world p [] entry old mid new serves acts = (new, subst (λ (x : Progress). EventStep world p x entry.event entry.went new) serves acts, refl)
serves_snoc world p (first ∷ entries) entry old mid new serves acts = (serves.0, serves.1, serves_snoc world p entries entry (noted serves.0 first) mid new serves.2 acts)

serves_first : (world : World) (p : ℕ) (entries others : List EventRecord) (old new : Progress) → IsCallSequence world p old (entries ++ others) new → (mid : Progress) × IsCallSequence world p old entries mid
serves_first world p [] others old new serves = (old, refl)
serves_first world p (entry ∷ entries) others old new serves = let later = serves_first world p entries others (noted serves.0 entry) new serves.2 in (later.0, (serves.0, serves.1, later.1))

-- The invariant of a peer after its event records.
record Going (world : World) (p : ℕ) (peer : Progress) : Type 0 where
  led : IsCallSequence world p initial_progress (reverse peer.past) peer
  keeps : Keeps world p peer.end peer.left
  may : MayCall world peer.past
  split : Split world p peer.past peer.left

record IsOwn (world : World) (p : ℕ) (event : Event) : Type 0 where
  peer : event_peer event ≡ p
  proper : IsProper world event

module _ (world : World) (p : ℕ) (is : IsWorld world) (honest : is_link world p ≡ true) where
  below : p < 2
  below = two_links world p honest

  going_with : (old mid : Progress) (entry : EventRecord) → IsOwn world p entry.event → EventStep world p old entry.event entry.went mid → mid.past ≡ old.past → Keeps world p mid.end mid.left → Split world p (entry ∷ old.past) mid.left → Going world p old →
      Going world p (noted mid entry)
  going_with old mid entry mine acts same keeps split g = record {
    led = subst (λ (entries : List EventRecord). IsCallSequence world p initial_progress entries (noted mid entry))
        (sym (reverse-append (entry ∷ []) mid.past ∙ ap (λ (k : List EventRecord). reverse k ++ entry ∷ []) same)) (serves_snoc world p (reverse old.past) entry initial_progress old mid g.led acts);
    keeps = keeps;
    may = subst (λ (k : List EventRecord). MayCall world (entry ∷ k)) (sym same) (may_call_on world entry old.past (ap (is_link world) mine.peer ∙ honest) mine.proper g.may);
    split = subst (λ (k : List EventRecord). Split world p (entry ∷ k) mid.left) (sym same) split;
  }

  -- The peer is unchanged, except its record of the call before and of a storm.
  stays : (old mid : Progress) (entry : EventRecord) → IsOwn world p entry.event → EventStep world p old entry.event entry.went mid → entry.event ≢ DeviceReset p → steps_since (entry ∷ old.past) ≡ steps_since old.past → mid.past ≡ old.past → mid.end ≡ old.end → mid.left ≡ old.left →
      Going world p old → Going world p (noted mid entry)
  stays old mid entry mine acts other none same end_is left_is g =
      going_with old mid entry mine acts same
      (subst (λ (e : End). Keeps world p e mid.left) (sym end_is) (subst (λ (t : CallTree). Keeps world p old.end t) (sym left_is) g.keeps))
      (subst (λ (t : CallTree). Split world p (entry ∷ old.past) t) (sym left_is) (split_on world p old.past old.left entry other none g.split)) g

  own_config : config_of world p ≡ pair.config_of (link_config_of world) p
  own_config = config_is world p below

  -- A step of this call, which satisfies the end's invariant and extends the list of calls.
  takes : (old mid : Progress) (q : ℕ) (went : Option Step) (device : List Line) (tree : CallTree) → IsOwn world p (TurnTaken q) → EventStep world p old (TurnTaken q) went mid → Keeps world p old.end tree → (t : TakesStep tree old went mid) →
      Split world p (turn_entry p t.step device ∷ old.past) t.left → Going world p old → Going world p (noted mid (record { event = TurnTaken q; went = went; device = device }))
  takes old mid q went device tree mine acts keeps t split g =
      going_with old mid (record { event = TurnTaken q; went = went; device = device }) mine acts t.past_is
      (subst (λ (e : End). Keeps world p e mid.left) (sym t.end_is) (subst (λ (k : CallTree). Keeps world p (end_after old.end t.step) k) (sym t.left_is) (keeps_step world p old.end tree t.left t.step is below t.goes keeps)))
      (subst (λ (k : CallTree). Split world p (record { event = TurnTaken q; went = went; device = device } ∷ old.past) k) (sym t.left_is)
      (subst (λ (w : Option Step). Split world p (record { event = TurnTaken q; went = w; device = device } ∷ old.past) t.left) (sym t.is)
      (subst (λ (k : ℕ). Split world p (record { event = TurnTaken k; went = Some t.step; device = device } ∷ old.past) t.left) (sym mine.peer) split))) g

  turned_going : (old mid : Progress) (q : ℕ) (went : Option Step) (device : List Line) → IsOwn world p (TurnTaken q) → EventStep world p old (TurnTaken q) went mid → Going world p old → TurnIs (config_of world p) old went mid →
      Going world p (noted mid (record { event = TurnTaken q; went = went; device = device })) × (mid.past ≡ old.past)
  turned_going old mid q went device mine acts g (inl idle) = (
    stays old mid (record { event = TurnTaken q; went = went; device = device }) mine acts (λ e. absurd (cc)) (ap (λ (w : Option Step). with_step (TurnTaken q) w (steps_since old.past)) idle.0)
        (ap (λ (x : Progress). x.past) idle.1) (ap (λ (x : Progress). x.end) idle.1) (ap (λ (x : Progress). x.left) idle.1) g,
    ap (λ (x : Progress). x.past) idle.1,
  )
  turned_going old mid q went device mine acts g (inr (inl b)) =
      let keeps = keeps_begun world p old.end b.call is (next_given world old b.call g.may b.next) (subst (λ (t : CallTree). Keeps world p old.end t) b.closed g.keeps) in
      let same = subst (λ (w : EndConfig). Keeps world p old.end (tree_of w old.end b.call)) (sym own_config) keeps in (
        takes old mid q went device (tree_of (config_of world p) old.end b.call) mine acts same b.takes
            (split_begins world p old b.call b.takes.left b.takes.step device g.led (few_in_flight world p old.end old.left g.keeps) b.closed b.next b.takes.goes g.split) g,
        b.takes.past_is,
      )
  turned_going old mid q went device mine acts g (inr (inr t)) =
      (takes old mid q went device old.left mine acts g.keeps t (split_step world p old.past old.left t.left t.step device t.goes g.split) g, t.past_is)

  -- An event without a step of a turn.
  calm_going : (old mid : Progress) (entry : EventRecord) → IsOwn world p entry.event → EventStep world p old entry.event entry.went mid → entry.event ≢ DeviceReset p → steps_since (entry ∷ old.past) ≡ steps_since old.past → mid ≡ old → Going world p old →
      Going world p (noted mid entry) × (mid.past ≡ old.past)
  calm_going old mid entry mine acts other none same g = (
    stays old mid entry mine acts other none (ap (λ (x : Progress). x.past) same) (ap (λ (x : Progress). x.end) same) (ap (λ (x : Progress). x.left) same) g,
    ap (λ (x : Progress). x.past) same,
  )

  going_on : (old mid : Progress) (event : Event) (went : Option Step) (device : List Line) → IsOwn world p event → EventStep world p old event went mid → Going world p old →
      Going world p (noted mid (record { event = event; went = went; device = device })) × (mid.past ≡ old.past)
  going_on old mid (CallQueued q call) went device mine acts g = calm_going old mid (record { event = CallQueued q call; went = went; device = device }) mine acts (λ e. absurd (cc)) refl acts.1 g
  going_on old mid (AutoStarted q expected) went device mine acts g = (
    stays old mid (record { event = AutoStarted q expected; went = went; device = device }) mine acts (λ e. absurd (cc)) refl
        (ap (λ (x : Progress). x.past) acts.1) (ap (λ (x : Progress). x.end) acts.1) (ap (λ (x : Progress). x.left) acts.1) g,
    ap (λ (x : Progress). x.past) acts.1,
  )
  going_on old mid (StormStarted q seed) went device mine acts g = (
    stays old mid (record { event = StormStarted q seed; went = went; device = device }) mine acts (λ e. absurd (cc)) refl
        (ap (λ (x : Progress). x.past) acts.1) (ap (λ (x : Progress). x.end) acts.1) (ap (λ (x : Progress). x.left) acts.1) g,
    ap (λ (x : Progress). x.past) acts.1,
  )
  going_on old mid (TurnTaken q) went device mine acts g = turned_going old mid q went device mine acts g (turn_is world p old went mid g.may.calm acts)
  going_on old mid (RegionAccessed q a) went device mine acts g = calm_going old mid (record { event = RegionAccessed q a; went = went; device = device }) mine acts (λ e. absurd (cc)) refl acts.1 g
  going_on old mid (DeviceReset q) went device mine acts g = (
    going_with old mid (record { event = DeviceReset q; went = went; device = device }) mine acts (ap (λ (x : Progress). x.past) acts.1)
        (subst (λ (x : Progress). Keeps world p x.end x.left) (sym acts.1) (keeps_reset world p old.end old.left is below g.keeps))
        (subst (λ (x : Progress). Split world p (record { event = DeviceReset q; went = went; device = device } ∷ old.past) x.left) (sym acts.1) (split_reset world p q old.past went device)) g,
    ap (λ (x : Progress). x.past) acts.1,
  )
  going_on old mid (DeviceAccessed q a) went device mine acts g = calm_going old mid (record { event = DeviceAccessed q a; went = went; device = device }) mine acts (λ e. absurd (cc)) refl acts.1 g
  going_on old mid (InterruptDropped q) went device mine acts g = calm_going old mid (record { event = InterruptDropped q; went = went; device = device }) mine acts (λ e. absurd (cc)) refl acts.1 g
  going_on old mid (InterruptRepeated q vector) went device mine acts g = calm_going old mid (record { event = InterruptRepeated q vector; went = went; device = device }) mine acts (λ e. absurd (cc)) refl acts.1 g

  all_going : (entries : List EventRecord) (old new : Progress) → AllByRecursion (λ entry. IsOwn world p entry.event) entries → IsCallSequence world p old entries new → Going world p old → Going world p new × (new.past ≡ reverse entries ++ old.past)
  all_going [] old new own serves g = (subst (Going world p) (sym serves) g, ap (λ (x : Progress). x.past) serves)
  all_going (entry ∷ entries) old new own serves g =
      let first = going_on old serves.0 entry.event entry.went entry.device own.0 serves.1 g in
      let later = all_going entries (noted serves.0 entry) new own.1 serves.2 first.0 in
      (later.0, later.1 ∙ (ap (λ (k : List EventRecord). reverse entries ++ (entry ∷ k)) first.1 ∙ (sym (append_assoc (reverse entries) (entry ∷ []) old.past) ∙ ap (λ (k : List EventRecord). k ++ old.past) (sym (reverse-append (entry ∷ []) entries)))))

  going_at_first : Going world p initial_progress
  going_at_first = record {
    led = refl;
    keeps = keeps_at_first world p;
    may = record { asked = tt; frames = tt; calm = tt };
    split = record { calls = []; steps = refl; turns = tt; newest = refl };
  }

-- The event records of a peer among those of all

mapped : (P : Event → Type 0) (entries : List EventRecord) → AllByRecursion P (map event_of entries) → AllByRecursion (λ entry. P entry.event) entries
mapped P [] all = tt
mapped P (entry ∷ entries) all = (all.0, mapped P entries all.1)

owned_by : (world : World) (p : ℕ) (entry : EventRecord) (entries : List EventRecord) (b : Bool) → (owner entry == p) ≡ b → IsProper world entry.event → AllByRecursion (λ e. IsOwn world p e.event) (own p entries) →
    AllByRecursion (λ e. IsOwn world p e.event) (if b then entry ∷ own p entries else own p entries)
owned_by world p entry entries true same proper all = (record { peer = is_same (owner entry) p same; proper = proper }, all)
owned_by world p entry entries false same proper all = all

owned : (world : World) (p : ℕ) (entries : List EventRecord) → AllByRecursion (λ entry. IsProper world entry.event) entries → AllByRecursion (λ entry. IsOwn world p entry.event) (own p entries)
owned world p [] all = tt
owned world p (entry ∷ entries) all = owned_by world p entry entries (owner entry == p) refl all.0 (owned world p entries all.1)

first_of_all : (P : EventRecord → Type 0) (entries others : List EventRecord) → AllByRecursion P (entries ++ others) → AllByRecursion P entries
first_of_all P [] others all = tt
first_of_all P (entry ∷ entries) others all = (all.0, first_of_all P entries others all.1)

pub calls_end_within_bounds : CallsEndWithinBounds
calls_end_within_bounds world lines entries before after p is by honest cut =
    let peers = is.geometry.two_peers in let two = two_links world p honest in
    let all = by.calls p (omega arith) in
    let mid = serves_first world p before after initial_progress all.0 (subst (λ (k : List EventRecord). IsCallSequence world p initial_progress k all.0) cut all.1) in
    let events = subst (AllByRecursion (IsProper world)) (sym by.events) (all_proper world is) in
    let mine = first_of_all (λ (entry : EventRecord). IsOwn world p entry.event) before after (subst (AllByRecursion (λ entry. IsOwn world p entry.event)) cut (owned world p entries (mapped (IsProper world) entries events))) in
    let g = all_going world p is honest before initial_progress mid.0 mine mid.1 (going_at_first world p is honest) in
    let s = g.0.split in
    subst (MakesCalls world p) (g.1 ∙ append-nil (reverse before)) (record { calls = s.calls; steps = s.steps; turns = s.turns; ends = are_calls (config_of world p) s.calls mid.0.left s.newest })
