use Rattle.link_endpoint.proofs.endpoint.Endpoint.took_into.Goals as goal

pub returns-in-Clearing-clause-steps : goal.returns-in-Clearing-clause-steps
returns-in-Clearing-clause-steps c = rw (c.requires.empty) (c.took_clear.ensures.steps c.args.value)

pub returns-in-WritingState-clause-steps : goal.returns-in-WritingState-clause-steps
returns-in-WritingState-clause-steps c = c.took_set.ensures.steps c.args.value

pub returns-in-Refusing-clause-steps : goal.returns-in-Refusing-clause-steps
returns-in-Refusing-clause-steps c = c.took_refusal.ensures.steps c.args.value

pub returns-in-NotInRun-clause-steps : goal.returns-in-NotInRun-clause-steps
returns-in-NotInRun-clause-steps c = c.took_down.ensures.steps c.args.value

pub returns-in-Clearing-clause-refuses : goal.returns-in-Clearing-clause-refuses
returns-in-Clearing-clause-refuses c = rw (c.requires.empty) ((c.took_clear.ensures.leaving c.args.value).refuses)

pub returns-in-Clearing-clause-leaves : goal.returns-in-Clearing-clause-leaves
returns-in-Clearing-clause-leaves c = rw (c.requires.empty) ((c.took_clear.ensures.leaving c.args.value).leaves)

pub returns-in-Clearing-clause-keeps : goal.returns-in-Clearing-clause-keeps
returns-in-Clearing-clause-keeps c = (c.took_clear.ensures.leaving c.args.value).keeps

pub returns-in-Clearing-clause-stays : goal.returns-in-Clearing-clause-stays
returns-in-Clearing-clause-stays c = rw (c.requires.empty) ((c.took_clear.ensures.leaving c.args.value).stays)

pub returns-in-WritingState-clause-refuses : goal.returns-in-WritingState-clause-refuses
returns-in-WritingState-clause-refuses c = (c.took_set.ensures.leaving c.args.value).refuses

pub returns-in-WritingState-clause-leaves : goal.returns-in-WritingState-clause-leaves
returns-in-WritingState-clause-leaves c = (c.took_set.ensures.leaving c.args.value).leaves

pub returns-in-WritingState-clause-keeps : goal.returns-in-WritingState-clause-keeps
returns-in-WritingState-clause-keeps c = (c.took_set.ensures.leaving c.args.value).keeps

pub returns-in-WritingState-clause-stays : goal.returns-in-WritingState-clause-stays
returns-in-WritingState-clause-stays c = (c.took_set.ensures.leaving c.args.value).stays

pub returns-in-Refusing-clause-refuses : goal.returns-in-Refusing-clause-refuses
returns-in-Refusing-clause-refuses c = (c.took_refusal.ensures.leaving c.args.value).refuses

pub returns-in-Refusing-clause-leaves : goal.returns-in-Refusing-clause-leaves
returns-in-Refusing-clause-leaves c = (c.took_refusal.ensures.leaving c.args.value).leaves

pub returns-in-Refusing-clause-keeps : goal.returns-in-Refusing-clause-keeps
returns-in-Refusing-clause-keeps c = (c.took_refusal.ensures.leaving c.args.value).keeps

pub returns-in-Refusing-clause-stays : goal.returns-in-Refusing-clause-stays
returns-in-Refusing-clause-stays c = (c.took_refusal.ensures.leaving c.args.value).stays

pub returns-in-NotInRun-clause-refuses : goal.returns-in-NotInRun-clause-refuses
returns-in-NotInRun-clause-refuses c = (c.took_down.ensures.leaving c.args.value).refuses

pub returns-in-NotInRun-clause-leaves : goal.returns-in-NotInRun-clause-leaves
returns-in-NotInRun-clause-leaves c = (c.took_down.ensures.leaving c.args.value).leaves

pub returns-in-NotInRun-clause-keeps : goal.returns-in-NotInRun-clause-keeps
returns-in-NotInRun-clause-keeps c = (c.took_down.ensures.leaving c.args.value).keeps

pub returns-in-NotInRun-clause-stays : goal.returns-in-NotInRun-clause-stays
returns-in-NotInRun-clause-stays c = (c.took_down.ensures.leaving c.args.value).stays
