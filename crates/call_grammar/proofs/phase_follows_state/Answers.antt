use Rattle.call_grammar.proofs.Phases.{phases}
use Rattle.call_grammar.proofs.phase_follows_state.Goals as goal

pub returns : goal.returns
returns c = phases
