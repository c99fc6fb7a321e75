use Rattle.std.proofs.Common.{◌≤◌, List, sym, ap, subst, ◌∙◌}
use Rattle.std.proofs.lemmas.Result.{IfOk-weaker}
use Rattle.scenario_text.specs.declared.limits.TheConstants.{MOST_ACTS}
use Rattle.scenario_text.specs.Scenario.{World, IsWorld}
use Rattle.frame_capture.specs.declared.packets.Packet.{Packet}
use Rattle.frame_capture.specs.Feed.{offered_frames, act_count, feed_world, IsTooLarge}
use Rattle.frame_capture.proofs.FeedIsScenario.{feed_is_world, feed_made, too_many, not_too_large}
use Rattle.frame_capture.proofs.feeding.scenario_of.Goals as goal

pub returns-in_default-clause-large : goal.returns-in_default-clause-large
returns-in_default-clause-large c = λ e. subst (λ (ps : List Packet). IsTooLarge (feed_world c.args.peer (offered_frames ps))) c.items-packets.ensures
    (too_many c.args.peer (offered_frames c.items-packets.result.now) c.in_default.ensures.many)

pub link_scenario-requires : goal.link_scenario-requires
link_scenario-requires c =
    let frames = offered_frames c.items-packets.result.now in
    subst (λ (w : World). IsWorld w) (sym (feed_made c.in_ok-acts.acts c.args.peer frames c.in_ok-acts.ensures.acts))
    (feed_is_world c.args.peer frames c.requires c.in_ok-acts.ensures.frames c.in-Some.ensures.few)

pub returns-clause-made : goal.returns-clause-made
returns-clause-made c =
    c.in_ok-link_scenario.ensures ∙ feed_made c.in_ok-acts.acts c.args.peer (offered_frames c.items-packets.result.now) c.in_ok-acts.ensures.acts
    ∙ ap (λ (ps : List Packet). feed_world c.args.peer (offered_frames ps)) c.items-packets.ensures

pub returns-clause-fits : goal.returns-clause-fits
returns-clause-fits c =
    not_too_large c.args.peer (offered_frames c.args.capture.now.packets) c.requires (subst (λ (ps : List Packet). act_count (offered_frames ps) ≤ MOST_ACTS) c.items-packets.ensures c.in-Some.ensures.few)
