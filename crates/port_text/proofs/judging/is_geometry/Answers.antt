use Rattle.std.proofs.Common.{◌∙◌}
use Rattle.scenario_text.proofs.SizeTests.{geometry_is}
use Rattle.port_text.proofs.judging.is_geometry.Goals as goal

pub returns : goal.returns
returns c = c.is_ok.ensures.value ∙ geometry_is _ _ _ _ c.new.result c.new.ensures.made c.new.ensures.shape c.new.ensures.pages c.new.ensures.fault
