-- Each event of a scenario is permitted to its peer. Calls and automatic ends belong to honest link
-- peers, storms and accesses outside calls to the others.
use Rattle.std.proofs.Common.{◌≡◌, ℕ, zero, suc, ◌+◌, ◌<◌, Bool, true, false, List, [], ◌∷◌, ◌++◌, refl, arith, replicate}
use Rattle.std.specs.Prelude.{slice_get, Some, nat_lt, ◌&&◌, ◌==◌, not, if◌then◌else◌, length}
use Rattle.std.specs.List.{AllByRecursion}
use Rattle.std.proofs.lemmas.Bool.Decides.{nat_tests}
use Rattle.std.proofs.lemmas.List.Elements.{All-from_recursion}
use Rattle.line_format.specs.Forms.{FitBytes}
use Rattle.section_map.specs.Geometry.{section_start}
use Rattle.split_ring.specs.declared.steps.Access.{Access}
use Rattle.split_ring.specs.declared.steps.Access.TheVariants as access
use Rattle.scenario_text.specs.declared.acts.Act.{Act}
use Rattle.scenario_text.specs.declared.acts.Act.TheVariants.{Tick, Offer, Poll, Stop, Auto, Storm, Turn, Poke, Peek, Set, MmioWrite}
use Rattle.scenario_text.specs.Scenario.{World, IsWorld, is_link, is_its_peer, is_frame_size}
use Rattle.scenario_text.specs.Table.{pieces_of}
use Rattle.scenario_text.specs.ActRows.{row_of_act}
use Rattle.scenario_text.proofs.ActNumbers.{bytes_recursion, frame_least, frame_most}
use Rattle.link_invariant.specs.LinkConfig.{LinkConfig, IsLinkConfig, IsGivenTo}
use Rattle.lawful_history.specs.Sides.{traffic_vector}
use Rattle.lawful_history.specs.Schedule.{Event, CallQueued, AutoStarted, StormStarted, TurnTaken, RegionAccessed, register_event, events_of, schedule}

-- The configuration of the scenario's link.
abbrev pub link_config_of : World → LinkConfig
link_config_of world = record { first = section_start world.geometry 0; words = world.geometry.out; sizes = world.queue; vector = traffic_vector world.wiring }

-- An access outside a call: any peer may ring a doorbell, and only peers that aren't honest link
-- peers may make another access.
abbrev pub MayAct : Bool → Access → Type 0
MayAct honest (access.Read word) = honest ≡ false
MayAct honest (access.Write word written) = honest ≡ false
MayAct honest (access.State state) = honest ≡ false
MayAct honest (access.Ring target vector) = Unit {0}
MayAct honest access.Nothing = Unit {0}

abbrev pub IsProper : World → Event → Type 0
IsProper world (CallQueued p call) = (is_link world p ≡ true) × IsGivenTo (link_config_of world) call
IsProper world (AutoStarted p expected) = is_link world p ≡ true
IsProper world (StormStarted p seed) = is_link world p ≡ false
IsProper world (RegionAccessed p a) = MayAct (is_link world p) a
IsProper world _ = Unit {0}

not_link : (p peers : ℕ) (flag : Bool) → (nat_lt p peers && not flag) ≡ true → (nat_lt p 2 && flag) ≡ false
not_link p peers flag is = grind (arith, nat_tests)

turns_proper : (P : Event → Type 0) (p steps : ℕ) (others : List Event) → P (TurnTaken p) → AllByRecursion P others → AllByRecursion P (replicate steps (TurnTaken p) ++ others)
turns_proper P p zero others here all = all
turns_proper P p (suc steps) others here all = (here, turns_proper P p steps others here all)

state_proper : (p peers : ℕ) (at flag : Bool) → at ≡ true → (if at then nat_lt p peers && not flag else nat_lt p peers) ≡ true → (nat_lt p 2 && flag) ≡ false
state_proper p peers true flag here is = not_link p peers flag is
state_proper p peers false flag here is = absurd (cc)

register_proper : (world : World) (p offset value : ℕ) (b c : Bool) → (offset == 0x10) ≡ b → (offset == 0x0C) ≡ c → (b ≡ true → is_link world p ≡ false) → IsProper world (register_event p offset value)
register_proper world p offset value true c is is' hostile = rw is (hostile refl)
register_proper world p offset value false true is is' hostile = rw (is, is') tt
register_proper world p offset value false false is is' hostile = rw (is, is') tt

act_proper : (world : World) (act : Act) (others : List Event) → is_its_peer world (row_of_act act).form (row_of_act act).numbers ≡ true →
    is_frame_size world (row_of_act act).form (length (row_of_act act).frame) ≡ true → FitBytes (pieces_of (row_of_act act).form) (row_of_act act).frame →
    AllByRecursion (IsProper world) others → AllByRecursion (IsProper world) (events_of act ++ others)
act_proper world (Tick p) others is frame bytes all = ((is, tt), all)
act_proper world (Offer p f) others is frame bytes all =
    ((is, record { least = frame_least (length f) (world.queue.mtu + 18) frame; most = frame_most (length f) (world.queue.mtu + 18) frame; bytes = All-from_recursion (λ (byte : ℕ). byte < 256) f (bytes_recursion f bytes) }), all)
act_proper world (Poll p) others is frame bytes all = ((is, tt), all)
act_proper world (Stop p) others is frame bytes all = ((is, tt), all)
act_proper world (Auto p expect) others is frame bytes all = (is, all)
act_proper world (Storm p seed) others is frame bytes all = (not_link p _ _ is, all)
act_proper world (Turn p steps) others is frame bytes all = turns_proper (IsProper world) p steps others tt all
act_proper world (Poke p word value) others is frame bytes all = (not_link p _ _ is, all)
act_proper world (Peek p word) others is frame bytes all = (not_link p _ _ is, all)
act_proper world (Set p value) others is frame bytes all = (not_link p _ _ is, all)
act_proper world (MmioWrite p offset value) others is frame bytes all = (register_proper world p offset value _ _ refl refl (λ here. state_proper p _ (offset == 16) _ here is), all)
act_proper world _ others is frame bytes all = (tt, all)

acts_proper : (world : World) (acts : List Act) →
    ((k : ℕ) (act : Act) → slice_get acts k ≡ Some act → is_its_peer world (row_of_act act).form (row_of_act act).numbers ≡ true) →
    ((k : ℕ) (act : Act) → slice_get acts k ≡ Some act → is_frame_size world (row_of_act act).form (length (row_of_act act).frame) ≡ true) →
    ((k : ℕ) (act : Act) → slice_get acts k ≡ Some act → FitBytes (pieces_of (row_of_act act).form) (row_of_act act).frame) →
    AllByRecursion (IsProper world) (schedule acts)
acts_proper world [] is frame bytes = tt
acts_proper world (act ∷ acts) is frame bytes =
    act_proper world act (schedule acts) (is 0 act refl) (frame 0 act refl) (bytes 0 act refl) (acts_proper world acts (λ k a at. is (suc k) a at) (λ k a at. frame (suc k) a at) (λ k a at. bytes (suc k) a at))

pub all_proper : (world : World) → IsWorld world → AllByRecursion (IsProper world) (schedule world.acts)
all_proper world is = acts_proper world world.acts (λ k act at. (is.allowed k act at).peer) (λ k act at. (is.allowed k act at).frame) (λ k act at. (is.allowed k act at).bytes)

pub is_link_config : (world : World) → IsWorld world → IsLinkConfig (link_config_of world)
is_link_config world is = let table = is.geometry.table_page in record { queue = is.queue; words = is.out; first = omega arith }
