use Rattle.std.proofs.Common.{List, ◌≡◌, ◌∙◌, sym, ap, subst, Ok}
use Rattle.scenario_text.specs.Spelling.{world_of}
use Rattle.lawful_history.specs.declared.line.Line.{Line}
use Rattle.lawful_history.specs.Sessions.{recorded_in}
use Rattle.lawful_history.specs.Lawful.{IsLawfulIn}
use Rattle.record_text.specs.Spelling.{Record, spelling}
use Rattle.sim_world.specs.RecordWriting.{lawful_record}
use Rattle.trace_replay.specs.declared.verdict.Verdict.{Verdict}
use Rattle.trace_replay.specs.Verdict.{IsVerdict}
use Rattle.program_edge.specs.declared.words.Command.TheVariants.{Renew}
use Rattle.ivshm_cli.specs.declared.replies.Reply.{Reply}
use Rattle.ivshm_cli.specs.Replay.{Spells, IsRenewed}
use Rattle.ivshm_cli.specs.Forms.{Replies}
use Rattle.ivshm_cli.proofs.replies.renewed.Goals as goal

pub returns-in-Same-clause-verdict : goal.returns-in-Same-clause-verdict
returns-in-Same-clause-verdict c =
    let bytes = c.args.bytes.now in
    let trace = c.in_ok-trace.trace in
    let text = c.in_ok-simulate_text-in-Same.field-0.items in
    let world = world_of trace.scenario in
    let recorded : IsLawfulIn world trace.version trace.lines = subst (λ (v : Verdict). IsVerdict world trace.version trace.lines v) c.in-Same.is c.in_ok-replay.ensures in
    let again : IsLawfulIn world 2 (lawful_record 2 world).lines = c.in_ok-simulate_text-in-Same.ensures.lawful in
    let lines : (lawful_record 2 world).lines ≡ recorded_in world 2 recorded.0 =
    again.2 ∙ ap (recorded_in world 2) (sym (c.one_history.ensures world recorded.0 again.0 recorded.1 again.1)) in
    let is : lawful_record 2 world ≡ record { version = 2; world = world; lines = recorded_in world 2 recorded.0 } =
    ap (λ (ls : List Line). record { version = 2; world = world; lines = ls }) lines in
    let renewed : IsRenewed bytes text = record {
      world = world;
      version = trace.version;
      history = recorded.0;
      spelled = subst (λ (ls : List Line). Spells bytes world trace.version ls) recorded.2 c.in_ok-trace.ensures.spelled;
      lawful = recorded.1;
      printed = c.in_ok-simulate_text-in-Same.ensures.spelled.1 ∙ ap spelling is;
      again = c.in_ok-simulate_text-in-Same.ensures.again ∙ ap (λ (r : Record). Ok r) is;
    } in
    subst (λ (r : Reply). Replies Renew bytes r.status r.text.items) (sym c.done.ensures) renewed
