-- The meaning of the fields of an automatic end.
use Rattle.std.specs.Prelude.{◌≤◌}
use Rattle.call_grammar.specs.Automatic.{Round}
use Rattle.call_grammar.specs.Automatic as laws
use Rattle.link_endpoint.specs.declared.auto.Auto.TheInside.{Inside}
use Rattle.link_endpoint.specs.declared.auto.Round as auto
use Rattle.link_endpoint.specs.declared.auto.Round.TheVariants.{Anew, AfterOffer, AfterPoll}
use Rattle.link_endpoint.specs.Plan.{Plan}

abbrev pub round_of : auto.Round → Round
round_of Anew = laws.Anew
round_of AfterOffer = laws.AfterOffer
round_of AfterPoll = laws.AfterPoll

abbrev pub plan_of : Inside → Plan
plan_of i = record { frames = i.frames.items; expected = i.expected; delivered = i.delivered; round = round_of i.round }

-- The number of deliveries counted is at most the number expected.
abbrev pub IsPlan : Inside → Type 0
IsPlan i = i.delivered ≤ i.expected
