use Rattle.std.proofs.Common.{sym, ap, ◌∙◌}
use Rattle.std.specs.Result.{is_ok}
use Rattle.scenario_text.specs.Drafts.{draft_view}
use Rattle.scenario_text.proofs.SizeTests.{geometry_is}
use Rattle.scenario_text.proofs.HeadLines.{out_fits, out_refused}
use Rattle.scenario_text.proofs.drafts.Draft.add_out.Goals as goal

pub returns-in_default : goal.returns-in_default
returns-in_default c = out_refused (draft_view c.args.self.now) c.args.out (sym (geometry_is _ _ _ _ c.new.result c.new.ensures.made c.new.ensures.shape c.new.ensures.pages c.new.ensures.fault) ∙ ap is_ok c.in_default.is)

pub returns : goal.returns
returns c = out_fits (draft_view c.args.self.now) c.args.out (sym (geometry_is _ _ _ _ c.new.result c.new.ensures.made c.new.ensures.shape c.new.ensures.pages c.new.ensures.fault) ∙ ap is_ok c.in-Ok.is)
