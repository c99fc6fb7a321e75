-- Each event of a scenario belongs to a peer, and its call is permitted.
use Rattle.std.proofs.Common.{◌≡◌, ℕ, zero, suc, ◌<◌, ◌≤◌, Bool, true, false, List, [], ◌∷◌, ◌++◌, refl, arith, replicate}
use Rattle.std.specs.Prelude.{slice_get, Some, nat_lt, nat_le, ◌&&◌, ◌==◌, if◌then◌else◌, length}
use Rattle.std.specs.List.{AllByRecursion}
use Rattle.std.proofs.lemmas.Bool.Decides.{nat_tests}
use Rattle.scenario_text.specs.declared.acts.Act.{Act}
use Rattle.scenario_text.specs.declared.acts.Act.TheVariants.{Tick, Offer, Poll, Stop, Auto, Storm, Turn, Poke, Peek, Set, MmioWrite}
use Rattle.scenario_text.specs.Scenario.{World, IsWorld, is_its_peer, is_frame_size}
use Rattle.scenario_text.specs.ActRows.{row_of_act}
pub use Rattle.lawful_history.specs.Permitted.{IsPermittedEvent}
use Rattle.lawful_history.specs.Schedule.{Event, CallQueued, TurnTaken, event_peer, register_event, events_of, schedule}

link_below : (p : ℕ) (peers : ℕ) (flag : Bool) → 2 ≤ peers → (nat_lt p 2 && flag) ≡ true → p < peers
link_below p peers flag two is = grind (arith, nat_tests)

peer_below : (p : ℕ) (peers : ℕ) → nat_lt p peers ≡ true → p < peers
peer_below p peers is = grind (arith, nat_tests)

hostile_below : (p : ℕ) (peers : ℕ) (flag : Bool) → (nat_lt p peers && flag) ≡ true → p < peers
hostile_below p peers flag is = grind (arith, nat_tests)

either_below : (p : ℕ) (peers : ℕ) (at flag : Bool) → (if at then nat_lt p peers && flag else nat_lt p peers) ≡ true → p < peers
either_below p peers true flag is = hostile_below p peers flag is
either_below p peers false flag is = peer_below p peers is

turns_there : (P : Event → Type 0) (p steps : ℕ) (others : List Event) → P (TurnTaken p) → AllByRecursion P others → AllByRecursion P (replicate steps (TurnTaken p) ++ others)
turns_there P p zero others here all = all
turns_there P p (suc steps) others here all = (here, turns_there P p steps others here all)

pub there_below : (world : World) (event : Event) → IsPermittedEvent world event → event_peer event < world.geometry.peers
there_below world (CallQueued p call) there = there.0
there_below world _ there = there

frame_given : (size most : ℕ) → (nat_le 14 size && nat_le size most) ≡ true → (14 ≤ size) × (size ≤ most)
frame_given size most is = (grind (arith, nat_tests), grind (arith, nat_tests))

register_there : (world : World) (p offset value : ℕ) (b c : Bool) → (offset == 0x10) ≡ b → (offset == 0x0C) ≡ c → p < world.geometry.peers → IsPermittedEvent world (register_event p offset value)
register_there world p offset value true c is is' below = rw is below
register_there world p offset value false true is is' below = rw (is, is') below
register_there world p offset value false false is is' below = rw (is, is') below

pub act_there : (world : World) (act : Act) (others : List Event) → 2 ≤ world.geometry.peers → is_its_peer world (row_of_act act).form (row_of_act act).numbers ≡ true →
    is_frame_size world (row_of_act act).form (length (row_of_act act).frame) ≡ true → AllByRecursion (IsPermittedEvent world) others → AllByRecursion (IsPermittedEvent world) (events_of act ++ others)
act_there world (Tick p) others two is frame all = ((link_below p _ _ two is, tt), all)
act_there world (Offer p bytes) others two is frame all = ((link_below p _ _ two is, frame_given (length bytes) _ frame), all)
act_there world (Poll p) others two is frame all = ((link_below p _ _ two is, tt), all)
act_there world (Stop p) others two is frame all = ((link_below p _ _ two is, tt), all)
act_there world (Auto p expect) others two is frame all = (link_below p _ _ two is, all)
act_there world (Storm p seed) others two is frame all = (hostile_below p _ _ is, all)
act_there world (Turn p steps) others two is frame all = turns_there (IsPermittedEvent world) p steps others (peer_below p _ is) all
act_there world (Poke p word value) others two is frame all = (hostile_below p _ _ is, all)
act_there world (Peek p word) others two is frame all = (hostile_below p _ _ is, all)
act_there world (Set p value) others two is frame all = (hostile_below p _ _ is, all)
act_there world (MmioWrite p offset value) others two is frame all = (register_there world p offset value _ _ refl refl (either_below p _ (offset == 16) _ is), all)
act_there world _ others two is frame all = (peer_below _ _ is, all)

acts_there : (world : World) (acts : List Act) → 2 ≤ world.geometry.peers →
    ((k : ℕ) (act : Act) → slice_get acts k ≡ Some act → is_its_peer world (row_of_act act).form (row_of_act act).numbers ≡ true) →
    ((k : ℕ) (act : Act) → slice_get acts k ≡ Some act → is_frame_size world (row_of_act act).form (length (row_of_act act).frame) ≡ true) →
    AllByRecursion (IsPermittedEvent world) (schedule acts)
acts_there world [] two is frame = tt
acts_there world (act ∷ acts) two is frame = act_there world act (schedule acts) two (is 0 act refl) (frame 0 act refl) (acts_there world acts two (λ k a at. is (suc k) a at) (λ k a at. frame (suc k) a at))

pub all_there : (world : World) → IsWorld world → AllByRecursion (IsPermittedEvent world) (schedule world.acts)
all_there world is = acts_there world world.acts is.geometry.two_peers (λ k act at. (is.allowed k act at).peer) (λ k act at. (is.allowed k act at).frame)
