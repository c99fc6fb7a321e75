-- The history that is computed is lawful.
use Rattle.std.proofs.Common.{◌⊎◌, ◌≡◌, ℕ, zero, suc, ◌+◌, ◌<◌, ◌≤◌, Bool, true, false, List, [], ◌∷◌, ◌++◌, length, drop, replicate, refl, sym, ◌∙◌, ap, subst, arith, append_assoc, inl, inr, map}
use Rattle.std.specs.Prelude.{◌==◌, if◌then◌else◌, Option, Some, None, reverse, slice_get, slice_index, slice_set}
use Rattle.std.specs.List.{flat_map, AllByRecursion}
use Rattle.std.proofs.lemmas.Bool.{eqb-true}
use Rattle.std.proofs.lemmas.Bool.Decides.{nat_tests}
use Rattle.std.proofs.lemmas.Grind.{common_steps}
use Rattle.std.proofs.lemmas.List.{reverse-append, reverse-reverse, append-nil, length-append}
use Rattle.section_map.specs.Geometry.{Shape}
use Rattle.section_map.specs.MayWrite.{MayWrite}
use Rattle.split_ring.specs.declared.steps.Access.{Access}
use Rattle.split_ring.specs.declared.steps.Access.TheVariants as access
use Rattle.port_text.specs.declared.limits.TheConstants.{MOST_TURNS}
use Rattle.port_text.specs.Scenario.{World}
use Rattle.std.proofs.lemmas.List.Concat.{flat_map-cons}
use Rattle.sampling_port.specs.declared.notes.PortField.TheVariants.{Sequence, Length}
use Rattle.sampling_port.specs.declared.notes.PortNote.TheVariants as note
use Rattle.sampling_port.specs.declared.place.Place.{Place}
use Rattle.sampling_port.specs.declared.place.Place.TheVariants as place
use Rattle.sampling_port.specs.Marks.{PortMark, marked}
use Rattle.sampling_port.specs.Trees.{PortTree, Ended, Does, Reads, PortStep, port_step, Goes}
use Rattle.sampling_port.specs.Views.{PortView, IsPort, IsPlace, is_open, is_busy, access_at, note_at, from_at, port_after, closed, got, left, left_at}
use Rattle.sampling_port.specs.Laws.{PortsFollowCalls, step_of_port}
use Rattle.sampling_port.specs.Schedule.{PortCall, Publish, Sample, Event, CallQueued, TurnTaken, Poked, event_peer, schedule}
use Rattle.sampling_port.specs.EventRecords.{Line, EventRecord, event_of, mark_lines, step_lines, lines_by, lines_of, own_entries}
use Rattle.sampling_port.specs.Memory.{MemoryLaw}
use Rattle.sampling_port.specs.Order.{asked_for, mark_of_step, published_with, published_in, last_with, last_got, Progress, initial_progress, tree_of, begins_by, begins, CallStep, EventStep, noted, IsCallSequence}
use Rattle.sampling_port.specs.History.{PeerState, HistoryState, opening, met, opened, opened_by, met_by, may_write, step_in, peer_state_in, entry_of, after_event, run, initial_state, HistoryIsLawful}
use Rattle.sampling_port.specs.Simulator.{IsPermittedEvent, IsPermittedCall}
use Rattle.sampling_port.proofs.RecordedLines.{may_of, may_true}
use Rattle.sampling_port.proofs.OneMoreEvent.{Kept, opened_kept, kept_on, fresh_kept, there_below, all_there, few_events}
use Rattle.sampling_port.proofs.CallsArePermitted.{length_place_most}

-- The effect of a step on the numbers of a port

-- A port's numbers are those of its own event records.
pub record Keeps (world : World) (me : ℕ) (peer_state : PeerState) (peer : Progress) : Type 0 where
  pub left_is : peer.left ≡ left peer_state.port
  pub waiting : peer_state.waiting ≡ drop peer.begun (asked_for peer.past)
  pub begun : peer.begun ≤ length (asked_for peer.past)
  pub published : peer_state.port.published ≡ published_in peer.past
  pub lasts : (from : ℕ) → from < 8 → slice_index peer_state.port.lasts from ≡ last_got from peer.past

-- The numbers by a mark.
pub record Numbers (old new : PortView) (mark : Option PortMark) : Type 0 where
  pub published : new.published ≡ published_with mark old.published
  pub lasts : (from : ℕ) → from < 8 → slice_index new.lasts from ≡ last_with from mark (slice_index old.lasts from)

numbers_first : (port : PortView) (from value : ℕ) (hand : List ℕ) (b c : Bool) →
    Numbers port (if b then closed port else if c then closed port else record port { place = place.AtLength from value })
    (marked from hand (if b then Some (note.Refuse Sequence value) else if c then Some note.Nothing else None))
numbers_first port from value hand true c = record { published = refl; lasts = λ f few. refl }
numbers_first port from value hand false true = record { published = refl; lasts = λ f few. refl }
numbers_first port from value hand false false = record { published = refl; lasts = λ f few. refl }

numbers_length : (port new : PortView) (from value : ℕ) (hand : List ℕ) (b : Bool) → new.published ≡ port.published → new.lasts ≡ port.lasts →
    Numbers port (if b then new else closed port) (marked from hand (if b then None else Some (note.Refuse Length value)))
numbers_length port new from value hand true same lasts = record { published = same; lasts = λ f few. rw lasts refl }
numbers_length port new from value hand false same lasts = record { published = refl; lasts = λ f few. refl }

set_last : (lasts : List ℕ) (from number f : ℕ) → from < length lasts → slice_index (slice_set lasts from number) f ≡ (if from == f then number else slice_index lasts f)
set_last lasts from number f below = grind (arith, common_steps, nat_tests)

numbers_second : (port : PortView) (from sequence value : ℕ) (b : Bool) → from < 8 → length port.lasts ≡ 8 →
    Numbers port (if b then got port from sequence else closed port) (marked from port.hand (if b then Some (note.Got sequence) else Some (note.Again sequence value)))
numbers_second port from sequence value true few eight = record { published = refl; lasts = λ f below. set_last port.lasts from sequence f (omega arith) }
numbers_second port from sequence value false few eight = record { published = refl; lasts = λ f below. refl }

pub numbers_after : (port : PortView) (p : Place) (value : ℕ) → IsPort port → IsPlace port p → Numbers port (port_after port p value) (marked (from_at p) port.hand (note_at port p value))
numbers_after port (place.AtSequence from) value is there = numbers_first port from value port.hand _ _
numbers_after port (place.AtLength from sequence) value is there = numbers_length port _ from value port.hand _ refl refl
numbers_after port (place.AtSecond from sequence) value is there = numbers_second port from sequence value _ (omega (arith, is.few, there)) is.lasts
numbers_after port _ value is there = record { published = refl; lasts = λ f few. refl }

-- A call begins

busy_begins : (world : World) (me : ℕ) (peer : Progress) (port : PortView) (p : Place) → is_open p ≡ true → begins_by world me peer (left_at port p) ≡ peer
busy_begins world me peer port place.Closed opens = absurd cc
busy_begins world me peer port _ opens = refl

closed_left : (port : PortView) (p : Place) → is_open p ≡ false → left_at port p ≡ Ended
closed_left port place.Closed shut = refl
closed_left port _ shut = absurd cc

-- The calls after the first ones.
none_left : {A : Type 0} (xs : List A) (n : ℕ) → [] ≡ drop n xs → slice_get xs n ≡ None
none_left [] n is = refl
none_left (x ∷ xs) zero is = absurd (cc)
none_left (x ∷ xs) (suc n) is = none_left xs n is

one_left : {A : Type 0} (xs ys : List A) (y : A) (n : ℕ) → y ∷ ys ≡ drop n xs → (slice_get xs n ≡ Some y) × (ys ≡ drop (n + 1) xs) × (n < length xs)
one_left [] ys y zero is = absurd (cc)
one_left [] ys y (suc n) is = absurd (cc)
one_left (x ∷ xs) ys y zero is = (cc, cc, omega arith)
one_left (x ∷ xs) ys y (suc n) is = let t = one_left xs ys y n is in (t.0, subst (λ (k : ℕ). ys ≡ drop k (x ∷ xs)) (more n) t.1, omega (arith, t.2))
  where
    more : (n : ℕ) → suc (n + 1) ≡ suc n + 1
    more n = omega arith

-- The tree of a call that is opened.
opens_tree : (world : World) (me : ℕ) (port : PortView) (past : List EventRecord) (call : PortCall) → PortsFollowCalls → port.shape ≡ world.geometry → port.me ≡ me → port.most ≡ world.most → world.geometry.peers ≤ 8 → IsPermittedCall world call →
    port.published ≡ published_in past → ((from : ℕ) → from < 8 → slice_index port.lasts from ≡ last_got from past) → tree_of world me past call ≡ left (opening port call)
opens_tree world me port past (Publish message) follow shape me_is most few given published lasts = sym (follow.publishes port message ∙ (rw (shape, me_is, most, published) refl))
opens_tree world me port past (Sample from) follow shape me_is most few given published lasts = sym (follow.samples port from ∙ (rw (shape, most, lasts from (omega (arith, given))) refl))

begun_keeps : PortsFollowCalls → (world : World) (me n : ℕ) (peer_state : PeerState) (peer : Progress) (b : Bool) (waiting : List PortCall) → world.geometry.peers ≤ 8 → is_busy peer_state.port ≡ b → peer_state.waiting ≡ waiting → Kept world me n peer_state →
    Keeps world me peer_state peer → Keeps world me (opened_by peer_state b waiting) (begins world me peer)
begun_keeps follow world me n peer_state peer true waiting eight busy all kept keeps =
    let same : begins world me peer ≡ peer = ap (λ (t : PortTree). begins_by world me peer t) keeps.left_is ∙ busy_begins world me peer peer_state.port peer_state.port.place busy in
    subst (λ (x : Progress). Keeps world me peer_state x) (sym same) keeps
begun_keeps follow world me n peer_state peer false [] eight busy all kept keeps =
    let ended : peer.left ≡ Ended = keeps.left_is ∙ closed_left peer_state.port peer_state.port.place busy in
    let none : slice_get (asked_for peer.past) peer.begun ≡ None = none_left (asked_for peer.past) peer.begun (sym all ∙ keeps.waiting) in
    let same : begins world me peer ≡ peer = rw (ended, none) refl in
    subst (λ (x : Progress). Keeps world me peer_state x) (sym same) keeps
begun_keeps follow world me n peer_state peer false (call ∷ waiting) eight busy all kept keeps =
    let ended : peer.left ≡ Ended = keeps.left_is ∙ closed_left peer_state.port peer_state.port.place busy in
    let next = one_left (asked_for peer.past) waiting call peer.begun (sym all ∙ keeps.waiting) in
    let given : AllByRecursion (IsPermittedCall world) (call ∷ waiting) = subst (λ (cs : List PortCall). AllByRecursion (IsPermittedCall world) cs) all kept.waiting in
    let begun : Progress = record peer { left = tree_of world me peer.past call; begun = peer.begun + 1 } in
    let same : begins world me peer ≡ begun = rw (ended, next.0) refl in
    subst (λ (x : Progress). Keeps world me (record { port = opening peer_state.port call; waiting = waiting }) x) (sym same) (record {
      left_is = opens_tree world me peer_state.port peer.past call follow kept.shape kept.me_is kept.most eight given.0 keeps.published keeps.lasts;
      waiting = next.1;
      begun = omega (arith, next.2);
      published = published_open call;
      lasts = λ from few. lasts_open from call ∙ keeps.lasts from few;
    })
  where
    published_open : (call : PortCall) → (opening peer_state.port call).published ≡ published_in peer.past
    published_open (Publish message) = keeps.published
    published_open (Sample from) = keeps.published

    lasts_open : (from : ℕ) (call : PortCall) → slice_index (opening peer_state.port call).lasts from ≡ slice_index peer_state.port.lasts from
    lasts_open from (Publish message) = refl
    lasts_open from (Sample q) = refl

-- A turn

moves_of : (peer : Progress) (tree : PortTree) (step : PortStep) (new : PortTree) → Goes tree step new → CallStep peer tree (Some step) (record peer { left = new })
moves_of peer Ended step new goes = absurd goes
moves_of peer (Does a mark rest) step new goes = (step, new, refl, goes, refl)
moves_of peer (Reads word mark rest) step new goes = (step, new, refl, goes, refl)

-- The step of the open call, or none.
turn_moves : PortsFollowCalls → (world : World) (me n : ℕ) (peer_state : PeerState) (peer : Progress) (past : List Line) (b : Bool) → is_busy peer_state.port ≡ b → Kept world me n peer_state → Keeps world me peer_state peer →
    (mid : Progress) × CallStep peer peer.left (if b then Some (step_of_port peer_state.port (met_by past peer_state.port)) else None) mid
    × Keeps world me (record { port = if b then port_after peer_state.port peer_state.port.place (met_by past peer_state.port) else peer_state.port; waiting = peer_state.waiting })
    (noted mid (record { event = TurnTaken me; went = if b then Some (step_of_port peer_state.port (met_by past peer_state.port)) else None }))
turn_moves follow world me n peer_state peer past true busy kept keeps =
    let value = met_by past peer_state.port in
    let goes = follow.comes peer_state.port value busy in
    let new = left (port_after peer_state.port peer_state.port.place value) in
    let numbers = numbers_after peer_state.port peer_state.port.place value kept.port kept.port.place in (
      record peer { left = new },
      moves_of peer peer.left (step_of_port peer_state.port value) new (subst (λ (t : PortTree). Goes t (step_of_port peer_state.port value) new) (sym keeps.left_is) goes),
      record {
        left_is = refl;
        waiting = keeps.waiting;
        begun = keeps.begun;
        published = numbers.published ∙ ap (λ k. published_with (step_of_port peer_state.port value).mark k) keeps.published;
        lasts = λ from few. numbers.lasts from few ∙ ap (λ k. last_with from (step_of_port peer_state.port value).mark k) (keeps.lasts from few);
      },
    )
turn_moves follow world me n peer_state peer past false busy kept keeps =
    let ended : peer.left ≡ Ended = keeps.left_is ∙ closed_left peer_state.port peer_state.port.place busy in (
      peer,
      subst (λ (t : PortTree). CallStep peer t None peer) (sym ended) (refl, refl),
      record { left_is = keeps.left_is; waiting = keeps.waiting; begun = keeps.begun; published = keeps.published; lasts = keeps.lasts },
    )

-- An event

drop-snoc : {A : Type 0} (xs : List A) (x : A) (n : ℕ) → n ≤ length xs → drop n xs ++ x ∷ [] ≡ drop n (xs ++ x ∷ [])
drop-snoc xs x zero few = refl
drop-snoc [] x (suc n) few = absurd (omega arith)
drop-snoc (y ∷ xs) x (suc n) few = drop-snoc xs x n (omega arith)

poked_made : (word value : ℕ) (b : Bool) → ((if b then Some (port_step (access.Write word value) 0 None) else None) ≡ Some (port_step (access.Write word value) 0 None)) ⊎ ((if b then Some (port_step (access.Write word value) 0 None) else None) ≡ None)
poked_made word value true = inl refl
poked_made word value false = inr refl

poked_quiet : (word value : ℕ) (b : Bool) → mark_of_step (if b then Some (port_step (access.Write word value) 0 None) else None) ≡ None
poked_quiet word value true = refl
poked_quiet word value false = refl

-- An event of a peer's own is in order, and preserves the invariant of its peer state.
pub event_keeps : PortsFollowCalls → (world : World) (n : ℕ) (peer_state : PeerState) (peer : Progress) (past : List Line) (event : Event) → world.geometry.peers ≤ 8 → n < 4000001 → Kept world (event_peer event) n peer_state →
    Keeps world (event_peer event) peer_state peer →
    (mid : Progress) × EventStep world (event_peer event) peer event (step_in world.geometry peer_state past event) mid
    × Keeps world (event_peer event) (peer_state_in peer_state past event) (noted mid (record { event = event; went = step_in world.geometry peer_state past event }))
event_keeps follow world n peer_state peer past (CallQueued p call) eight small kept keeps = (
  peer,
  (refl, refl),
  record {
    left_is = keeps.left_is;
    waiting = ap (λ (ws : List PortCall). ws ++ call ∷ []) keeps.waiting ∙ drop-snoc (asked_for peer.past) call peer.begun keeps.begun;
    begun = omega (arith, keeps.begun, length-append (asked_for peer.past) (call ∷ []));
    published = keeps.published;
    lasts = keeps.lasts;
  },
)
event_keeps follow world n peer_state peer past (TurnTaken p) eight small kept keeps =
    turn_moves follow world p n (opened peer_state) (begins world p peer) past _ refl (opened_kept world p n peer_state _ _ refl refl small kept) (begun_keeps follow world p n peer_state peer _ _ eight refl refl kept keeps)
event_keeps follow world n peer_state peer past (Poked p word value) eight small kept keeps =
    let quiet = poked_quiet word value (may_write world.geometry p word) in (
      peer,
      (poked_made word value (may_write world.geometry p word), refl),
      record {
        left_is = keeps.left_is;
        waiting = keeps.waiting;
        begun = keeps.begun;
        published = rw quiet keeps.published;
        lasts = λ from few. rw quiet (keeps.lasts from few);
      },
    )

-- The memory law

-- The accesses of ports that need a reason.
abbrev Fine : Shape → ℕ → Access → Type 0
Fine g me (access.Write word value) = MayWrite g me word
Fine g me _ = Unit {0}

marked_law : (g : Shape) (me : ℕ) (lines : List Line) (mark : Option PortMark) (past : List Line) → (lines ≡ [] → MemoryLaw g past) → ((line : Line) → lines ≡ line ∷ [] → MemoryLaw g (line ∷ past)) → length lines ≤ 1 →
    MemoryLaw g (reverse (lines ++ mark_lines me mark) ++ past)
marked_law g me [] None past none one few = none refl
marked_law g me [] (Some mark) past none one few = (tt, none refl)
marked_law g me (line ∷ []) None past none one few = one line refl
marked_law g me (line ∷ []) (Some mark) past none one few = (tt, one line refl)
marked_law g me (line ∷ next ∷ more) mark past none one few = absurd (omega arith)

step_law : (g : Shape) (me : ℕ) (a : Access) (mark : Option PortMark) (past : List Line) → Fine g me a → MemoryLaw g past → MemoryLaw g (reverse (step_lines me (port_step a (met past a) mark)) ++ past)
step_law g me (access.Read word) None past fine law = (refl, law)
step_law g me (access.Read word) (Some mark) past fine law = (tt, (refl, law))
step_law g me (access.Write word value) None past fine law = (fine, law)
step_law g me (access.Write word value) (Some mark) past fine law = (tt, (fine, law))
step_law g me (access.State state) None past fine law = law
step_law g me (access.State state) (Some mark) past fine law = (tt, law)
step_law g me (access.Ring target vector) None past fine law = law
step_law g me (access.Ring target vector) (Some mark) past fine law = (tt, law)
step_law g me access.Nothing None past fine law = law
step_law g me access.Nothing (Some mark) past fine law = (tt, law)

-- A port writes its own section alone.
pub fine_at : (port : PortView) (p : Place) → IsPort port → IsPlace port p → Fine port.shape port.me (access_at port p)
fine_at port place.Closed is there = tt
fine_at port place.WritingLength is there =
    let most = length_place_most port.most (port.published + 1) in
    let size = is.size in
    let room = is.room in
    inl (omega arith, omega arith)
fine_at port (place.WritingWord at more) is there =
    let most = length_place_most port.most (port.published + 1) in
    let size = is.size in
    let four = is.size.0 in
    let room = is.room in
    let words = there.0 in
    let hand = is.hand in
    inl (omega arith, omega arith)
fine_at port place.WritingSequence is there = let page = is.shaped.out_page in inl (omega arith, omega arith)
fine_at port (place.AtSequence from) is there = tt
fine_at port (place.AtLength from sequence) is there = tt
fine_at port (place.AtWord from sequence bytes at more) is there = tt
fine_at port (place.AtSecond from sequence) is there = tt

turn_law : (world : World) (me n : ℕ) (peer_state : PeerState) (past : List Line) (b : Bool) → is_busy peer_state.port ≡ b → Kept world me n peer_state → MemoryLaw world.geometry past →
    MemoryLaw world.geometry (reverse (lines_by (TurnTaken me) (if b then Some (step_of_port peer_state.port (met_by past peer_state.port)) else None)) ++ past)
turn_law world me n peer_state past true busy kept law =
    let fine = fine_at peer_state.port peer_state.port.place kept.port kept.port.place in
    step_law world.geometry me (access_at peer_state.port peer_state.port.place) _ past (subst (λ (g : Shape). Fine g me (access_at peer_state.port peer_state.port.place)) kept.shape (subst (λ (m : ℕ). Fine peer_state.port.shape m (access_at peer_state.port peer_state.port.place)) kept.me_is fine)) law
turn_law world me n peer_state past false busy kept law = (tt, law)

poke_law : (g : Shape) (peer word value : ℕ) (past : List Line) (b : Bool) → may_write g peer word ≡ b → MemoryLaw g past → MemoryLaw g (reverse (lines_by (Poked peer word value) (if b then Some (port_step (access.Write word value) 0 None) else None)) ++ past)
poke_law g peer word value past true is law = (may_of g peer word is, law)
poke_law g peer word value past false is law = ((λ may. never (sym is ∙ may_true g peer word may)), law)
  where
    never : false ≡ true → ⊥
    never e = cc

pub event_law : (world : World) (n : ℕ) (peer_state : PeerState) (past : List Line) (event : Event) → n < 4000001 → Kept world (event_peer event) n peer_state → MemoryLaw world.geometry past →
    MemoryLaw world.geometry (reverse (lines_by event (step_in world.geometry peer_state past event)) ++ past)
event_law world n peer_state past (CallQueued p call) small kept law = law
event_law world n peer_state past (TurnTaken p) small kept law = turn_law world p n (opened peer_state) past _ refl (opened_kept world p n peer_state _ _ refl refl small kept) law
event_law world n peer_state past (Poked p word value) small kept law = poke_law world.geometry p word value past _ refl law

-- The whole history

abbrev pub entries_of : World → List Event → HistoryState → List EventRecord
entries_of world [] so_far = []
entries_of world (event ∷ events) so_far = entry_of world.geometry so_far event ∷ entries_of world events (after_event world.geometry so_far event)

abbrev pub AreKept : World → ℕ → HistoryState → Type 0
AreKept world n so_far = (p : ℕ) → p < world.geometry.peers → Kept world p n (so_far.peer_states p)

pub kept_one : (world : World) (n : ℕ) (so_far : HistoryState) (event : Event) → n < MOST_TURNS → IsPermittedEvent world event → AreKept world n so_far → AreKept world (n + 1) (after_event world.geometry so_far event)
kept_one world n so_far event small there kept = λ p below. kept_on world world.geometry (event ∷ []) n so_far (omega arith) (there, tt) kept p below

record Found (world : World) (events : List Event) (so_far : HistoryState) : Type 0 where
  scheduled : map event_of (entries_of world events so_far) ≡ events
  lines : reverse (flat_map lines_of (entries_of world events so_far)) ++ so_far.past ≡ (run world.geometry events so_far).past
  law : MemoryLaw world.geometry (run world.geometry events so_far).past

lines_go : (s new : List Line) (past all : List Line) → reverse new ++ (reverse s ++ past) ≡ all → reverse (s ++ new) ++ past ≡ all
lines_go s new past all is = ap (λ r. r ++ past) (reverse-append s new) ∙ append_assoc (reverse new) (reverse s) past ∙ is

found : (world : World) (events : List Event) (n : ℕ) (so_far : HistoryState) → n + length events ≤ MOST_TURNS → AllByRecursion (IsPermittedEvent world) events → AreKept world n so_far → MemoryLaw world.geometry so_far.past → Found world events so_far
found world [] n so_far few there kept law = record { scheduled = refl; lines = refl; law = law }
found world (event ∷ events) n so_far few there kept law =
    let now = event_law world n (so_far.peer_states (event_peer event)) so_far.past event (omega arith) (kept (event_peer event) (there_below world event there.0)) law in
    let rest = found world events (n + 1) (after_event world.geometry so_far event) (omega arith) there.1 (kept_one world n so_far event (omega arith) there.0 kept) now in
    record {
      scheduled = ap (λ es. event ∷ es) rest.scheduled;
      lines = ap (λ (ls : List Line). reverse ls ++ so_far.past) (flat_map-cons lines_of (entry_of world.geometry so_far event) (entries_of world events (after_event world.geometry so_far event)))
          ∙ lines_go (lines_of (entry_of world.geometry so_far event)) (flat_map lines_of (entries_of world events (after_event world.geometry so_far event))) so_far.past _ rest.lines;
      law = rest.law;
    }

-- The event records of a peer from an event on.
serves_from : PortsFollowCalls → (world : World) (n : ℕ) (so_far : HistoryState) (event : Event) (others : List EventRecord) (q : ℕ) (peer : Progress) → world.geometry.peers ≤ 8 → n < MOST_TURNS → IsPermittedEvent world event → AreKept world n so_far → Keeps world q (so_far.peer_states q) peer →
    ((next : Progress) → Keeps world q ((after_event world.geometry so_far event).peer_states q) next → (end : Progress) × IsCallSequence world q next (own_entries q others) end) → (b : Bool) → (event_peer event == q) ≡ b →
    (end : Progress) × IsCallSequence world q peer (if b then entry_of world.geometry so_far event ∷ own_entries q others else own_entries q others) end
serves_from follow world n so_far event others q peer eight small there kept keeps rest true is =
    let p = event_peer event in
    let same : p ≡ q = eqb-true p q is in
    let mine : Keeps world p (so_far.peer_states p) peer = subst (λ (k : ℕ). Keeps world k (so_far.peer_states k) peer) (sym same) keeps in
    let on = event_keeps follow world n (so_far.peer_states p) peer so_far.past event eight (omega arith) (kept p (there_below world event there)) mine in
    let here : Keeps world q (peer_state_in (so_far.peer_states p) so_far.past event) (noted on.0 (entry_of world.geometry so_far event)) = subst (λ (k : ℕ). Keeps world k (peer_state_in (so_far.peer_states p) so_far.past event) (noted on.0 (entry_of world.geometry so_far event))) same on.2 in
    let then_ : Keeps world q ((after_event world.geometry so_far event).peer_states q) (noted on.0 (entry_of world.geometry so_far event)) = rw is here in
    let others_served = rest (noted on.0 (entry_of world.geometry so_far event)) then_ in
    (others_served.0, (on.0, subst (λ (k : ℕ). EventStep world k peer event (step_in world.geometry (so_far.peer_states p) so_far.past event) on.0) same on.1, others_served.1))
serves_from follow world n so_far event others q peer eight small there kept keeps rest false is = rest peer (rw is keeps)

served : PortsFollowCalls → (world : World) (events : List Event) (n : ℕ) (so_far : HistoryState) (q : ℕ) (peer : Progress) → world.geometry.peers ≤ 8 → n + length events ≤ MOST_TURNS → AllByRecursion (IsPermittedEvent world) events → AreKept world n so_far →
    Keeps world q (so_far.peer_states q) peer → (end : Progress) × IsCallSequence world q peer (own_entries q (entries_of world events so_far)) end
served follow world [] n so_far q peer eight few there kept keeps = (peer, refl)
served follow world (event ∷ events) n so_far q peer eight few there kept keeps =
    serves_from follow world n so_far event (entries_of world events (after_event world.geometry so_far event)) q peer eight (omega arith) there.0 kept keeps
    (λ next on. served follow world events (n + 1) (after_event world.geometry so_far event) q next eight (omega arith) there.1 (kept_one world n so_far event (omega arith) there.0 kept) on) (event_peer event == q) refl

fresh_keeps : (world : World) (p : ℕ) → Keeps world p ((initial_state world).peer_states p) initial_progress
fresh_keeps world p = record { left_is = refl; waiting = refl; begun = omega arith; published = refl; lasts = λ from few. none from }
  where
    none : (from : ℕ) → slice_index (replicate 8 0) from ≡ 0
    none from = grind (arith, common_steps)

pub history_is_lawful : PortsFollowCalls → HistoryIsLawful
history_is_lawful follow world is =
    let events = schedule world.acts in
    let so_far = initial_state world in
    let few : 0 + length events ≤ MOST_TURNS = few_events world is in
    let there = all_there world is in
    let kept : AreKept world 0 so_far = λ p below. fresh_kept world p is below in
    let f = found world events 0 so_far few there kept tt in
    let entries = entries_of world events so_far in (
      entries,
      record {
        events = f.scheduled;
        recorded = sym (reverse-reverse (flat_map lines_of entries)) ∙ ap reverse (sym (append-nil (reverse (flat_map lines_of entries))) ∙ f.lines);
        memory = rw reverse-reverse f.law;
        calls = λ p. served follow world events 0 so_far p initial_progress is.few few there kept (fresh_keeps world p);
      },
    )
