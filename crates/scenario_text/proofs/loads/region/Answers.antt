use Rattle.std.proofs.Common.{◌≡◌, true, false, sym, ap, ◌∙◌}
use Rattle.std.specs.Result.{is_ok}
use Rattle.scenario_text.proofs.SizeTests.{geometry_is}
use Rattle.scenario_text.proofs.loads.region.Goals as goal

pub unreachable-requires : goal.unreachable-requires
unreachable-requires c =
    let ok = geometry_is _ _ _ _ c.new.result c.new.ensures.made c.new.ensures.shape c.new.ensures.pages c.new.ensures.fault ∙ c.requires in
    let no : false ≡ true = sym (ap is_ok c.in-Err.is) ∙ ok in
    cc
