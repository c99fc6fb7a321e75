use Rattle.std.proofs.Common.{sym, ap, ◌∙◌}
use Rattle.std.specs.Result.{is_ok}
use Rattle.scenario_text.specs.Drafts.{draft_view}
use Rattle.scenario_text.proofs.SizeTests.{queue_is}
use Rattle.scenario_text.proofs.HeadLines.{mtu_fits, mtu_refused}
use Rattle.scenario_text.proofs.drafts.Draft.add_mtu.Goals as goal

pub returns-in_default : goal.returns-in_default
returns-in_default c = mtu_refused (draft_view c.args.self.now) c.args.mtu (sym (queue_is _ c.of_version.result c.args.self.now.known c.args.self.now.section c.of_version.ensures.queue c.of_version.ensures.fault) ∙ ap is_ok c.in_default.is)

pub returns : goal.returns
returns c = mtu_fits (draft_view c.args.self.now) c.args.mtu (sym (queue_is _ c.of_version.result c.args.self.now.known c.args.self.now.section c.of_version.ensures.queue c.of_version.ensures.fault) ∙ ap is_ok c.in-Ok.is)
