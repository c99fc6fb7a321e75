use Rattle.std.proofs.Common.{◌≡◌, ℕ, List, [], ◌∷◌, ◌++◌, ◌∙◌, ap, refl, sym, subst}
use Rattle.scenario_text.specs.declared.acts.Act.{Act}
use Rattle.scenario_text.specs.declared.acts.Act.TheVariants as act
use Rattle.split_ring.specs.declared.steps.Access.TheVariants as access
use Rattle.call_grammar.specs.Calls as calls
use Rattle.lawful_history.specs.Schedule.{CallQueued, AutoStarted, RegionAccessed, DeviceReset, DeviceAccessed, InterruptDropped, InterruptRepeated, ReadsConfig, WritesConfig, ReadsRegister, ReadsMsix, WritesMsix, register_event, events_of}
use Rattle.simulator.specs.Simulator.{RunsTo, IsAct}
use Rattle.simulator.proofs.OneMoreEvent.{call_linked, hostile_unlinked, act_fits, played_on, played, played_turns}
use Rattle.simulator.proofs.simulator.Simulator.act.Goals as goal

pub ask-requires : goal.ask-requires
ask-requires c =
    let world = c.requires.0 in
    let allowed : IsAct world (act.Tick c.in-Tick.peer) = subst (λ (a : Act). IsAct world a) c.in-Tick.is c.requires.4 in
    call_linked world c.requires.1 c.requires.2 c.args.self.now c.in-Tick.peer c.requires.3 allowed.1.peer

pub ask-requires-in-Offer : goal.ask-requires-in-Offer
ask-requires-in-Offer c =
    let world = c.requires.0 in
    let allowed : IsAct world (act.Offer c.in-Offer.peer c.in-Offer.frame) = subst (λ (a : Act). IsAct world a) c.in-Offer.is c.requires.4 in
    call_linked world c.requires.1 c.requires.2 c.args.self.now c.in-Offer.peer c.requires.3 allowed.1.peer

pub ask-requires-in-Poll : goal.ask-requires-in-Poll
ask-requires-in-Poll c =
    let world = c.requires.0 in
    let allowed : IsAct world (act.Poll c.in-Poll.peer) = subst (λ (a : Act). IsAct world a) c.in-Poll.is c.requires.4 in
    call_linked world c.requires.1 c.requires.2 c.args.self.now c.in-Poll.peer c.requires.3 allowed.1.peer

pub ask-requires-in-Stop : goal.ask-requires-in-Stop
ask-requires-in-Stop c =
    let world = c.requires.0 in
    let allowed : IsAct world (act.Stop c.in-Stop.peer) = subst (λ (a : Act). IsAct world a) c.in-Stop.is c.requires.4 in
    call_linked world c.requires.1 c.requires.2 c.args.self.now c.in-Stop.peer c.requires.3 allowed.1.peer

pub automate-requires : goal.automate-requires
automate-requires c =
    let world = c.requires.0 in
    let allowed : IsAct world (act.Auto c.in-Auto.peer c.in-Auto.expect) = subst (λ (a : Act). IsAct world a) c.in-Auto.is c.requires.4 in
    call_linked world c.requires.1 c.requires.2 c.args.self.now c.in-Auto.peer c.requires.3 allowed.1.peer

pub returns-in-Tick : goal.returns-in-Tick
returns-in-Tick c = played c.ask.result c.args.act.now (act.Tick c.in-Tick.peer) (CallQueued c.in-Tick.peer calls.Tick) c.args.self.now c.ask.new.self c.in-Tick.is refl c.ask.ensures

pub returns-in_ok-frame-in-Offer : goal.returns-in_ok-frame-in-Offer
returns-in_ok-frame-in-Offer c =
    let same : c.in-Offer.frame ≡ c.in_ok-frame-in-Offer.frame = sym (c.in_ok-frame-in-Offer.ensures ∙ c.bytes.ensures) in
    played c.ask-in-Offer.result c.args.act.now (act.Offer c.in-Offer.peer c.in-Offer.frame) (CallQueued c.in-Offer.peer (calls.Offer c.in_ok-frame-in-Offer.frame)) c.args.self.now c.ask-in-Offer.new.self c.in-Offer.is
    (ap (λ (f : List ℕ). CallQueued c.in-Offer.peer (calls.Offer f) ∷ []) same) c.ask-in-Offer.ensures

pub returns-in-Poll : goal.returns-in-Poll
returns-in-Poll c = played c.ask-in-Poll.result c.args.act.now (act.Poll c.in-Poll.peer) (CallQueued c.in-Poll.peer calls.Poll) c.args.self.now c.ask-in-Poll.new.self c.in-Poll.is refl c.ask-in-Poll.ensures

pub returns-in-Stop : goal.returns-in-Stop
returns-in-Stop c = played c.ask-in-Stop.result c.args.act.now (act.Stop c.in-Stop.peer) (CallQueued c.in-Stop.peer calls.Stop) c.args.self.now c.ask-in-Stop.new.self c.in-Stop.is refl c.ask-in-Stop.ensures

pub returns-in-Reset : goal.returns-in-Reset
returns-in-Reset c = played c.reset.result c.args.act.now (act.Reset c.in-Reset.peer) (DeviceReset c.in-Reset.peer) c.args.self.now c.reset.new.self c.in-Reset.is refl c.reset.ensures

pub returns-in-Poke : goal.returns-in-Poke
returns-in-Poke c = played c.poke.result c.args.act.now (act.Poke c.in-Poke.peer c.in-Poke.word c.in-Poke.value) (RegionAccessed c.in-Poke.peer (access.Write c.in-Poke.word c.in-Poke.value)) c.args.self.now c.poke.new.self c.in-Poke.is refl c.poke.ensures

pub returns-in-Peek : goal.returns-in-Peek
returns-in-Peek c = played c.peek.result c.args.act.now (act.Peek c.in-Peek.peer c.in-Peek.word) (RegionAccessed c.in-Peek.peer (access.Read c.in-Peek.word)) c.args.self.now c.peek.new.self c.in-Peek.is refl c.peek.ensures

pub returns-in-Set : goal.returns-in-Set
returns-in-Set c = played c.set.result c.args.act.now (act.Set c.in-Set.peer c.in-Set.value) (RegionAccessed c.in-Set.peer (access.State c.in-Set.value)) c.args.self.now c.set.new.self c.in-Set.is refl c.set.ensures

pub returns-in-Ring : goal.returns-in-Ring
returns-in-Ring c = played c.ring.result c.args.act.now (act.Ring c.in-Ring.peer c.in-Ring.target c.in-Ring.vector) (RegionAccessed c.in-Ring.peer (access.Ring c.in-Ring.target c.in-Ring.vector)) c.args.self.now c.ring.new.self c.in-Ring.is refl c.ring.ensures

pub returns-in-CfgRead : goal.returns-in-CfgRead
returns-in-CfgRead c = played c.read_config.result c.args.act.now (act.CfgRead c.in-CfgRead.peer c.in-CfgRead.offset c.in-CfgRead.width) (DeviceAccessed c.in-CfgRead.peer (ReadsConfig c.in-CfgRead.offset c.in-CfgRead.width)) c.args.self.now c.read_config.new.self c.in-CfgRead.is refl c.read_config.ensures

pub returns-in-CfgWrite : goal.returns-in-CfgWrite
returns-in-CfgWrite c = played c.write_config.result c.args.act.now (act.CfgWrite c.in-CfgWrite.peer c.in-CfgWrite.offset c.in-CfgWrite.width c.in-CfgWrite.value) (DeviceAccessed c.in-CfgWrite.peer (WritesConfig c.in-CfgWrite.offset c.in-CfgWrite.width c.in-CfgWrite.value)) c.args.self.now c.write_config.new.self c.in-CfgWrite.is refl c.write_config.ensures

pub returns-in-MmioRead : goal.returns-in-MmioRead
returns-in-MmioRead c = played c.read_register.result c.args.act.now (act.MmioRead c.in-MmioRead.peer c.in-MmioRead.offset) (DeviceAccessed c.in-MmioRead.peer (ReadsRegister c.in-MmioRead.offset)) c.args.self.now c.read_register.new.self c.in-MmioRead.is refl c.read_register.ensures

pub returns-in-MmioWrite : goal.returns-in-MmioWrite
returns-in-MmioWrite c = played c.write_register.result c.args.act.now (act.MmioWrite c.in-MmioWrite.peer c.in-MmioWrite.offset c.in-MmioWrite.value) (register_event c.in-MmioWrite.peer c.in-MmioWrite.offset c.in-MmioWrite.value) c.args.self.now c.write_register.new.self c.in-MmioWrite.is refl c.write_register.ensures

pub returns-in-MsixRead : goal.returns-in-MsixRead
returns-in-MsixRead c = played c.read_msix.result c.args.act.now (act.MsixRead c.in-MsixRead.peer c.in-MsixRead.offset) (DeviceAccessed c.in-MsixRead.peer (ReadsMsix c.in-MsixRead.offset)) c.args.self.now c.read_msix.new.self c.in-MsixRead.is refl c.read_msix.ensures

pub returns-in-MsixWrite : goal.returns-in-MsixWrite
returns-in-MsixWrite c = played c.write_msix.result c.args.act.now (act.MsixWrite c.in-MsixWrite.peer c.in-MsixWrite.offset c.in-MsixWrite.value) (DeviceAccessed c.in-MsixWrite.peer (WritesMsix c.in-MsixWrite.offset c.in-MsixWrite.value)) c.args.self.now c.write_msix.new.self c.in-MsixWrite.is refl c.write_msix.ensures

pub returns-in-Again : goal.returns-in-Again
returns-in-Again c = played c.repeat.result c.args.act.now (act.Again c.in-Again.peer c.in-Again.vector) (InterruptRepeated c.in-Again.peer c.in-Again.vector) c.args.self.now c.repeat.new.self c.in-Again.is refl c.repeat.ensures

pub returns-in-Auto : goal.returns-in-Auto
returns-in-Auto c = played_on c.args.act.now (act.Auto c.in-Auto.peer c.in-Auto.expect) (AutoStarted c.in-Auto.peer c.in-Auto.expect) c.args.self.now c.automate.new.self c.in-Auto.is refl c.automate.ensures

pub returns-in-Lose : goal.returns-in-Lose
returns-in-Lose c = played_on c.args.act.now (act.Lose c.in-Lose.peer) (InterruptDropped c.in-Lose.peer) c.args.self.now c.lose.new.self c.in-Lose.is refl c.lose.ensures

pub returns-in-Turn : goal.returns-in-Turn
returns-in-Turn c = played_turns c.turns.result c.args.act.now c.in-Turn.peer c.in-Turn.steps c.args.self.now c.turns.new.self c.in-Turn.is c.turns.ensures

pub returns-in-Storm : goal.returns-in-Storm
returns-in-Storm c = λ world output events allowed runs.
    let here : IsAct world (act.Storm c.in-Storm.peer c.in-Storm.seed) = subst (λ (a : Act). IsAct world a) c.in-Storm.is allowed in
    let fits = act_fits world (act.Storm c.in-Storm.peer c.in-Storm.seed) runs.after.is_world here in
    subst (λ (a : Act). RunsTo world output (events ++ events_of a) c.storm.new.self) (sym c.in-Storm.is)
    (c.storm.ensures world output events fits.0 (hostile_unlinked c.in-Storm.peer world.geometry.peers _ here.1.peer) runs)
