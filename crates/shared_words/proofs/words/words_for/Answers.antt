use Rattle.std.proofs.Common.{rules, [], ◌≡◌, subst, sym}
use Rattle.atomic_table.specs.Table.{opening}
use Rattle.scenario_text.specs.Spelling.{world_of}
use Rattle.shared_words.specs.declared.run_setup.RunSetup.{RunSetup}
use Rattle.shared_words.specs.Interrupts.{words_at_start}
use Rattle.shared_words.specs.RunSetups.{IsMadeFor}
use Rattle.shared_words.specs.Rules.{TableInvariant, initial_view}
use Rattle.shared_words.proofs.LearnedFacts.{starts, opened_of}
use Rattle.shared_words.proofs.words.words_for.Goals as goal

pub of_words-requires : goal.of_words-requires
of_words-requires c = let key = c.of-key.result in let same : c.as_slice-2.result.now ≡ words_at_start key = search rules in
    subst (λ ws. TableInvariant key (opening ws [] (initial_view key))) (sym same) (starts key c.of-key.ensures.fit)

pub returns-clause-whole : goal.returns-clause-whole
returns-clause-whole c = let key = c.of-key.result in let e = c.in_ok-table.ensures in let same : c.as_slice-2.result.now ≡ words_at_start key = search rules in
    let opened = opened_of key _ _ _ _ c.as_slice-2.result.now c.of-key.ensures.fit same e.0 e.2 e.4 e.5 in
    (subst (λ (k : RunSetup). IsMadeFor (world_of c.args.scenario.now) k) (sym e.5) c.of-key.ensures.made, opened.0, opened.1, opened.2)
