use Rattle.std.proofs.Common.{rules, ◌≡◌, ◌∙◌, subst, arith}
use mathlib.Core.Option.{none}
use Rattle.atomic_table.specs.Table.{step}
use Rattle.atomic_table.specs.Seated.{TableId}
use Rattle.shared_words.specs.declared.view.View.{View}
use Rattle.shared_words.specs.PassView.{PassView}
use Rattle.shared_words.specs.Rules.{IsLearned, learns}
use Rattle.shared_words.proofs.LearnedFacts.{learn_allowed}
use Rattle.shared_words.proofs.words.learn_by.Goals as goal

abbrev held_of : TableId → View → PassView
held_of t v = record { table_id = t; from = v.from; lists = v.lists }

pub load-requires : goal.load-requires
load-requires g c = let slots = c.args.words.now.shared.table_id.slots in let page = c.requires.of.3.shape.table_page in
    (search rules, omega arith, learn_allowed c.runs_keep_the_invariant.ensures c.sessions_are_paired.ensures c.honest_ends_agree.ensures _ _ _ _ (g.M.Play.then (step slots 0 0 0 none)) (λ n t h. (c.requires.reports _ _ _ _).1 h))

pub returns : goal.returns
returns g c = let key = c.args.words.now.shared.key in let learned : learns key (step c.args.words.now.shared.table_id.slots 0 0 0 none) c.pass.inside.seat.me c.load.result c.load.new.seat.me = (c.requires.reports _ _ _ _).0 c.load.ensures.2 in record {
  same = let same : held_of c.load.new.seat.table_id c.load.new.seat.me.0 ≡ held_of c.pass.inside.seat.table_id c.pass.inside.seat.me.0 = λ k. held_of (c.load.ensures.0 k) ((learned.0 k).0) in same ∙ c.pass.view_is;
  learned = subst (λ (h : PassView). IsLearned key h.from h.lists) c.pass.view_is learned.1;
}
