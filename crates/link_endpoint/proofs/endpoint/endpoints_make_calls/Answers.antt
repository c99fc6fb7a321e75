use Rattle.link_endpoint.proofs.CallsOfEndpoint.{endpoints_run}
use Rattle.link_endpoint.proofs.endpoint.endpoints_make_calls.Goals as goal

pub returns : goal.returns
returns c = endpoints_run
