use Rattle.std.proofs.Common.{◌∙◌, ap}
use Rattle.scenario_text.specs.Spelling.{spelling}
use Rattle.ivshm_cli.proofs.captures.fed.Goals as goal

pub returns-in-Ok-clause-text : goal.returns-in-Ok-clause-text
returns-in-Ok-clause-text c = record {
  feeds = record { capture = c.in_ok-capture.capture; file = c.in_ok-capture.ensures.file; fits = c.in-Ok.ensures.fits };
  printed = c.in_ok-print-in-Ok.ensures ∙ ap spelling c.in-Ok.ensures.made;
}
