-- The actions of peers that aren't honest link peers, and the acts of any peer outside its calls.
use Rattle.std.proofs.Common.{◌≡◌, ℕ, ◌<◌, Bool, true, false, List, [], ◌∷◌, ◌++◌, refl, sym, ◌∙◌, ap, subst}
use Rattle.std.specs.Prelude.{if◌then◌else◌, Option, Some, None, reverse}
use Rattle.std.specs.List.{AllByRecursion}
use Rattle.section_map.specs.MayWrite.{MayWrite, may_write}
use Rattle.split_ring.specs.declared.steps.Access.{Access}
use Rattle.split_ring.specs.declared.steps.Access.TheVariants as access
use Rattle.scenario_text.specs.Scenario.{World, IsWorld, is_link}
use Rattle.call_grammar.specs.Steps.{Step, step_of}
use Rattle.call_grammar.specs.Trees.{CallTree, Ended}
use Rattle.call_grammar.specs.Ends.{End}
use Rattle.call_grammar.specs.Calls.{EndConfig, Call}
use Rattle.call_grammar.specs.Places.{Place}
use Rattle.lawful_history.specs.declared.line.Line.{Line}
use Rattle.lawful_history.specs.declared.line.Line.TheVariants as line
use Rattle.lawful_history.specs.Memory.{MemoryLaw, last_write}
use Rattle.lawful_history.specs.Sides.{config_of}
use Rattle.lawful_history.specs.Storm.{drawn_access, draw, next_number}
use Rattle.lawful_history.specs.EventRecords.{step_lines, turn_lines, region_access_lines}
use Rattle.lawful_history.specs.Peers.{Driver, Waits, Chooses, Storms, Peer, chosen, opened_by, opened}
use Rattle.lawful_history.specs.History.{driven_step, step_by, acted_step, turn_step}
use Rattle.lawful_history.proofs.Unique.{first_law}
use Rattle.history_laws.proofs.PermittedEvents.{MayAct}
use Rattle.history_laws.proofs.LinkPlaces.{Stands, IsQuiet, Alike, quiet_lines, stands_alike, first_after, answers}
use Rattle.history_laws.proofs.OtherLines.{read_stands, write_stands, state_stands, reset_stands}
use Rattle.history_laws.proofs.QueuedCalls.{DriverSuits, Suits}
use Rattle.history_laws.proofs.Unrung.{line_is}

-- Lines of which all except the first are quiet.
pub after_first : (world : World) (line : Line) (lines past : List Line) (ends : ℕ → End) (places : ℕ → Place) → AllByRecursion IsQuiet lines → Stands world (line ∷ past) ends places → Stands world (reverse (line ∷ lines) ++ past) ends places
after_first world line lines past ends places quiet s =
    subst (λ (after : List Line). Stands world after ends places) (sym (first_after line lines past)) (stands_alike world (line ∷ past) (reverse lines ++ (line ∷ past)) ends places (quiet_lines world lines (line ∷ past) quiet) s)

pub quiet_stands : (world : World) (lines past : List Line) (ends : ℕ → End) (places : ℕ → Place) → AllByRecursion IsQuiet lines → Stands world past ends places → Stands world (reverse lines ++ past) ends places
quiet_stands world lines past ends places quiet s = stands_alike world past (reverse lines ++ past) ends places (quiet_lines world lines past quiet) s

-- A line without a side event that changes no word.
silent_stands : (world : World) (line : Line) (past : List Line) (ends : ℕ → End) (places : ℕ → Place) → Alike world past (line ∷ past) → Stands world past ends places → Stands world (line ∷ past) ends places
silent_stands world line past ends places alike s = stands_alike world past (line ∷ past) ends places alike s

quiet_end : (device : List Line) → AllByRecursion IsQuiet device → AllByRecursion IsQuiet (device ++ [])
quiet_end [] quiet = tt
quiet_end (line ∷ device) quiet = (quiet.0, quiet_end device quiet.1)

-- An access of a peer that isn't an honest link peer. Its writes are to words that it may write,
-- because the memory law holds.
pub other_stands : (world : World) (past device : List Line) (ends : ℕ → End) (places : ℕ → Place) (p : ℕ) (a : Access) (value : ℕ) → IsWorld world → p < world.geometry.peers → is_link world p ≡ false → AllByRecursion IsQuiet device →
    MemoryLaw world.geometry (reverse (step_lines p (step_of a value []) device) ++ past) → Stands world past ends places → Stands world (reverse (step_lines p (step_of a value []) device) ++ past) ends places
other_stands world past device ends places p (access.Read word) value is few no_link quiet law s =
    after_first world (line.Read p word value) (device ++ []) past ends places (quiet_end device quiet) (read_stands world past p word value ends places is no_link s)
other_stands world past device ends places p (access.Write word written) value is few no_link quiet law s =
    let may : MayWrite world.geometry p word = first_law world.geometry past (line.Write p word written) (device ++ []) law in
    after_first world (line.Write p word written) (device ++ []) past ends places (quiet_end device quiet) (write_stands world past p word written ends places is no_link may s)
other_stands world past device ends places p (access.State state) value is few no_link quiet law s =
    after_first world (line.State p state) (device ++ []) past ends places (quiet_end device quiet) (state_stands world past p state ends places is few no_link s)
other_stands world past device ends places p (access.Ring target vector) value is few no_link quiet law s =
    quiet_stands world (line.Doorbell p target vector ∷ device ++ []) past ends places (record { apart = refl; silent = refl; passes = refl }, quiet_end device quiet) s
other_stands world past device ends places p access.Nothing value is few no_link quiet law s = quiet_stands world (device ++ []) past ends places (quiet_end device quiet) s

-- A turn of such a peer is a step of its storm, or idle

stormy_stands : (world : World) (past device : List Line) (ends : ℕ → End) (places : ℕ → Place) (p : ℕ) (driver : Driver) → IsWorld world → p < world.geometry.peers → is_link world p ≡ false → AllByRecursion IsQuiet device →
    MemoryLaw world.geometry (reverse (turn_lines p (driven_step world p driver) device) ++ past) → Stands world past ends places → Stands world (reverse (turn_lines p (driven_step world p driver) device) ++ past) ends places
stormy_stands world past device ends places p Waits is few no_link quiet law s = quiet_stands world (line.Idle p ∷ device) past ends places (record { apart = refl; silent = refl; passes = refl }, quiet) s
stormy_stands world past device ends places p (Chooses auto) is few no_link quiet law s = quiet_stands world (line.Idle p ∷ device) past ends places (record { apart = refl; silent = refl; passes = refl }, quiet) s
stormy_stands world past device ends places p (Storms x) is few no_link quiet law s =
    other_stands world past device ends places p (drawn_access world p (draw (next_number x)) (draw (next_number (next_number x))) (draw (next_number (next_number (next_number x))))) 0 is few no_link quiet law s

chosen_same : (world : World) (config : EndConfig) (peer : Peer) (honest : Bool) (driver : Driver) → honest ≡ false → DriverSuits world honest driver → chosen config peer driver ≡ peer
chosen_same world config peer honest Waits no_link suits = refl
chosen_same world config peer honest (Chooses auto) no_link suits = let f : true ≡ false = sym suits.0 ∙ no_link in absurd (cc)
chosen_same world config peer honest (Storms x) no_link suits = refl

opened_same : (world : World) (config : EndConfig) (peer : Peer) (honest : Bool) → honest ≡ false → Suits world honest peer → opened config peer ≡ peer
opened_same world config peer honest no_link s =
    let idle = s.idle no_link in
    ap (λ (t : CallTree). opened_by config peer t peer.waiting) idle.0 ∙ (ap (λ (w : List Call). opened_by config peer Ended w) idle.1 ∙ chosen_same world config peer honest peer.driver no_link s.driver)

step_same : (world : World) (p : ℕ) (peer : Peer) (past : List Line) (honest : Bool) → honest ≡ false → Suits world honest peer → turn_step world p peer past ≡ driven_step world p peer.driver
step_same world p peer past honest no_link s =
    ap (λ (x : Peer). step_by world p x.driver x.left past) (opened_same world (config_of world p) peer honest no_link s) ∙ ap (λ (t : CallTree). step_by world p peer.driver t past) (s.idle no_link).0

pub other_turn_stands : (world : World) (past device : List Line) (ends : ℕ → End) (places : ℕ → Place) (p : ℕ) (peer : Peer) → IsWorld world → p < world.geometry.peers → is_link world p ≡ false → AllByRecursion IsQuiet device → Suits world (is_link world p) peer →
    MemoryLaw world.geometry (reverse (turn_lines p (turn_step world p peer past) device) ++ past) → Stands world past ends places → Stands world (reverse (turn_lines p (turn_step world p peer past) device) ++ past) ends places
other_turn_stands world past device ends places p peer is few no_link quiet suits law s =
    let e = step_same world p peer past (is_link world p) no_link suits in
    subst (λ (went : Option Step). Stands world (reverse (turn_lines p went device) ++ past) ends places) (sym e)
    (stormy_stands world past device ends places p peer.driver is few no_link quiet (subst (λ (went : Option Step). MemoryLaw world.geometry (reverse (turn_lines p went device) ++ past)) e law) s)

-- An access outside a call

write_acted : (world : World) (past device : List Line) (ends : ℕ → End) (places : ℕ → Place) (p word value : ℕ) (b : Bool) → IsWorld world → p < world.geometry.peers → is_link world p ≡ false → AllByRecursion IsQuiet device →
    MemoryLaw world.geometry (reverse (region_access_lines p (access.Write word value) (if b then Some (step_of (access.Write word value) 0 []) else None) device) ++ past) → Stands world past ends places →
    Stands world (reverse (region_access_lines p (access.Write word value) (if b then Some (step_of (access.Write word value) 0 []) else None) device) ++ past) ends places
write_acted world past device ends places p word value true is few no_link quiet law s = other_stands world past device ends places p (access.Write word value) 0 is few no_link quiet law s
write_acted world past device ends places p word value false is few no_link quiet law s =
    after_first world (line.Denied p word) device past ends places quiet (silent_stands world (line.Denied p word) past ends places (record { memory = refl; sides = refl; reads = refl; unrung = λ q place was. line_is world q place (line.Denied p word) past (λ accept. let e = accept.1 in cc) was; settled = λ settled. tt; fine = λ settled old. ((tt, tt, answers world past (line.Denied p word) settled, tt), old) }) s)

pub acted_stands : (world : World) (past device : List Line) (ends : ℕ → End) (places : ℕ → Place) (p : ℕ) (a : Access) → IsWorld world → p < world.geometry.peers → MayAct (is_link world p) a → AllByRecursion IsQuiet device →
    MemoryLaw world.geometry (reverse (region_access_lines p a (acted_step world p a past) device) ++ past) → Stands world past ends places → Stands world (reverse (region_access_lines p a (acted_step world p a past) device) ++ past) ends places
acted_stands world past device ends places p (access.Read word) is few may quiet law s = other_stands world past device ends places p (access.Read word) (last_write past word) is few may quiet law s
acted_stands world past device ends places p (access.Write word value) is few may quiet law s = write_acted world past device ends places p word value (may_write world.geometry p word) is few may quiet law s
acted_stands world past device ends places p (access.State state) is few may quiet law s = other_stands world past device ends places p (access.State state) 0 is few may quiet law s
acted_stands world past device ends places p (access.Ring target vector) is few may quiet law s =
    quiet_stands world (line.Doorbell p target vector ∷ device ++ []) past ends places (record { apart = refl; silent = refl; passes = refl }, quiet_end device quiet) s
acted_stands world past device ends places p access.Nothing is few may quiet law s = quiet_stands world (device ++ []) past ends places (quiet_end device quiet) s

pub other_reset_stands : (world : World) (past device : List Line) (ends : ℕ → End) (places : ℕ → Place) (p : ℕ) → IsWorld world → p < world.geometry.peers → is_link world p ≡ false → AllByRecursion IsQuiet device → Stands world past ends places →
    Stands world (reverse (line.Reset p ∷ device) ++ past) ends places
other_reset_stands world past device ends places p is few no_link quiet s = after_first world (line.Reset p) device past ends places quiet (reset_stands world past p ends places is few no_link s)
