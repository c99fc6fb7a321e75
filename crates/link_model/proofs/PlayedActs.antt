-- The turns and acts that an expected run plays.
use Rattle.std.proofs.Common.{◌≡◌, ℕ, zero, suc, ◌<◌, ◌+◌, ◌-◌, List, [], ◌∷◌, ◌++◌, length, get_or, take, drop, replicate, refl, sym, ◌∙◌, ap, subst, arith, append_assoc}
use Rattle.std.proofs.lemmas.Grind.{common_steps}
use Rattle.std.proofs.lemmas.List.{append-nil, length-append}
use Rattle.std.proofs.Math.Seq.{drop-cons}
use Rattle.scenario_text.specs.declared.acts.Act.{Act}
use Rattle.scenario_text.specs.declared.acts.Act.TheVariants as act
use Rattle.lawful_history.specs.declared.line.Line.{Line}
use Rattle.lawful_history.specs.Schedule.{Event, TurnTaken, events_of, schedule}
use Rattle.simulator.specs.Log.{Output, no_output}
use Rattle.simulator.specs.Simulator.{Happens, PlaysAct, RunsTo, kept_lines}
use Rattle.simulator.specs.declared.simulator.Simulator.{Simulator}
use Rattle.simulator.proofs.OneMoreEvent.{schedule_more, one_act, act_at, below_peers}
use Rattle.link_model.specs.declared.expected_run.ExpectedRun.{ExpectedRun}
use Rattle.link_model.specs.ExpectedRun.{world_in, IsPlayed, IsAlong}

one_turn : (events : List Event) (turn : Event) (left : ℕ) → 0 < left → (events ++ turn ∷ []) ++ replicate (left - 1) turn ≡ events ++ replicate left turn
one_turn events turn zero some = absurd (omega arith)
one_turn events turn (suc n) some = let less : suc n - 1 ≡ n = omega arith in rw less (append_assoc events (turn ∷ []) (replicate n turn))

-- A turn is played
pub turn_played : (output : Output) (c : ExpectedRun) (s : Simulator) → 0 < c.left → Happens (TurnTaken c.peer) c.simulator s → IsPlayed output c → IsPlayed output (record c { simulator = s; left = c.left - 1 })
turn_played output c s some happens played = record {
  events = played.events ++ TurnTaken c.peer ∷ [];
  version = played.version;
  runs = happens (world_in c) output played.events (played.peer some) played.runs;
  at = played.at;
  scheduled = one_turn played.events (TurnTaken c.peer) c.left some ∙ played.scheduled;
  peer = λ more. played.peer some;
}

-- If no turn is left, the events are those of the acts so far.
pub no_turns : (events acts : List Event) (turn : Event) (left : ℕ) → left ≡ 0 → events ++ replicate left turn ≡ acts → events ≡ acts
no_turns events acts turn left none scheduled = sym (append-nil events) ∙ ap (λ n. events ++ replicate n turn) (sym none) ∙ scheduled

-- An act is played.
pub act_played : (output : Output) (c : ExpectedRun) (a : Act) (s : Simulator) → c.left ≡ 0 → c.at < length (world_in c).acts → a ≡ get_or (world_in c).acts c.at a → PlaysAct a c.simulator s → IsPlayed output c →
    IsPlayed output (record c { simulator = s; at = c.at + 1 })
act_played output c a s none inside is plays played =
    let world = world_in c in
    let before = no_turns played.events _ (TurnTaken c.peer) c.left none played.scheduled in
    let allowed = act_at world c.at a played.runs.after.is_world inside is in
    record {
      events = schedule (take (c.at + 1) world.acts);
      version = played.version;
      runs = one_act world output world.acts c.at a s inside is (plays world output (schedule (take c.at world.acts)) allowed (subst (λ (es : List Event). RunsTo world output es c.simulator) before played.runs));
      at = omega arith;
      scheduled = ap (λ n. schedule (take (c.at + 1) world.acts) ++ replicate n (TurnTaken c.peer)) none ∙ append-nil (schedule (take (c.at + 1) world.acts));
      peer = λ some. absurd (omega arith);
    }

-- Turns are noted.
pub turns_noted : (output : Output) (c : ExpectedRun) (p k : ℕ) → c.left ≡ 0 → c.at < length (world_in c).acts → act.Turn p k ≡ get_or (world_in c).acts c.at (act.Turn p k) → IsPlayed output c →
    IsPlayed output (record c { at = c.at + 1; peer = p; left = k })
turns_noted output c p k none inside is played =
    let world = world_in c in
    let before = no_turns played.events _ (TurnTaken c.peer) c.left none played.scheduled in
    let allowed = act_at world c.at (act.Turn p k) played.runs.after.is_world inside is in
    record {
      events = played.events;
      version = played.version;
      runs = played.runs;
      at = omega arith;
      scheduled = ap (λ es. es ++ replicate k (TurnTaken p)) before ∙ sym (schedule_more world.acts c.at (act.Turn p k) inside is);
      peer = λ some. below_peers p world.geometry.peers allowed.1.peer;
    }

-- The events of the acts from here on.
pub one_act_less : (acts : List Act) (at : ℕ) (a : Act) → at < length acts → a ≡ get_or acts at a → length (schedule (drop at acts)) ≡ length (events_of a) + length (schedule (drop (at + 1) acts))
one_act_less acts at a inside is =
    let here : drop at acts ≡ a ∷ drop (at + 1) acts = grind (arith, common_steps, drop-cons acts at a inside, is) in
    ap (λ (xs : List Act). length (schedule xs)) here ∙ length-append (events_of a) (schedule (drop (at + 1) acts))

-- An expected run at its start.
pub at_first : (c : ExpectedRun) → RunsTo (world_in c) (no_output c.version) [] c.simulator → c.at ≡ 0 → c.left ≡ 0 → c.passed ≡ 0 → IsAlong [] c
at_first c runs at left passed = record {
  output = no_output c.version;
  played = record {
    events = [];
    version = refl;
    runs = runs;
    at = omega arith;
    scheduled = ap (λ n. replicate n (TurnTaken c.peer)) left ∙ ap (λ n. schedule (take n (world_in c).acts)) (sym at);
    peer = λ some. absurd (omega arith);
  };
  passed = omega arith;
  taken = ap (λ n. take n (kept_lines c.simulator)) passed;
}

-- If none of the lines that the simulator keeps was taken, more of them may come.
pub played_on : (lines : List Line) (c c' : ExpectedRun) (along : IsAlong lines c) → c.passed ≡ 0 → c'.passed ≡ c.passed → IsPlayed along.output c' → IsAlong lines c'
played_on lines c c' along none same played = record {
  output = along.output;
  played = played;
  passed = omega arith;
  taken = ap (λ n. along.output.drained ++ take n (kept_lines c'.simulator)) (same ∙ none) ∙ ap (λ n. along.output.drained ++ take n (kept_lines c.simulator)) (sym none) ∙ along.taken;
}
