use Rattle.std.proofs.Common.{◌≡◌, Err, [], ◌∷◌, sym, ◌∙◌, subst, rules, arith, true, false, Ok, length-set}
use Rattle.std.proofs.lemmas.List.{get_or-replicate, length-replicate}
use Rattle.pci_space.specs.Walk.{pointer_at, FollowsList, nothing_listed}
use Rattle.pci_space.specs.Walk.FollowsList.{ends, is_low, loops, fails, continues}
use Rattle.pci_space.proofs.PointerMarks.{falls, marks_on}
use Rattle.pci_space.proofs.capabilities.follow_list.Goals as goal

pub loop-p-init : goal.loop-p-init
loop-p-init c = record {
  small = c.pointer-p.ensures.small;
  marks = length-replicate 256 false;
  after = ([], λ q small. get_or-replicate 256 q false false small, λ last h. subst (λ p. FollowsList c.args.bytes.now [] p nothing_listed last) c.pointer-p.ensures.is h);
}

pub returns-then-p-lt64 : goal.returns-then-p-lt64
returns-then-p-lt64 c = let b = c.loop-p.invariant.after in b.2 _ (is_low b.0 c.loop-p.p c.loop-p.so_far c.loop-p-test.true (search rules))

pub returns-then-met-p : goal.returns-then-met-p
returns-then-met-p c = let b = c.loop-p.invariant.after in
    let met = sym (b.1 c.loop-p.p (omega arith)) ∙ c.if-met-p.true in
    b.2 _ (loops b.0 c.loop-p.p c.loop-p.so_far (search rules) met)

pub returns-in_err-so_far : goal.returns-in_err-so_far
returns-in_err-so_far c = let b = c.loop-p.invariant.after in
    let unseen = sym (b.1 c.loop-p.p (omega arith)) ∙ c.if-met-p.false in
    let gives : Err c.in_err-so_far.field-0.0 ≡ c.from_residual.result = search rules in
    subst (λ last. FollowsList c.args.bytes.now [] (pointer_at c.args.bytes.now 0x34) nothing_listed last) gives
    (b.2 _ (fails b.0 c.loop-p.p c.loop-p.so_far c.in_err-so_far.field-0.0 (search rules) unseen (sym c.with_capability.ensures ∙ c.in_err-so_far.was)))

pub loop-p-smaller : goal.loop-p-smaller
loop-p-smaller c = falls c.loop-p.met c.loop-p.p (search rules) c.if-met-p.false

pub loop-p-preserved : goal.loop-p-preserved
loop-p-preserved c = let b = c.loop-p.invariant.after in
    let unseen = sym (b.1 c.loop-p.p (omega arith)) ∙ c.if-met-p.false in
    record {
      small = c.pointer-p-in-loop-p.ensures.small;
      marks = length-set c.loop-p.met c.loop-p.p true ∙ c.loop-p.invariant.marks;
      after = (
        c.loop-p.p ∷ b.0,
        marks_on c.loop-p.met b.0 c.loop-p.p (search rules) b.1,
        λ last h. b.2 last (continues b.0 c.loop-p.p c.loop-p.so_far c.in_ok-so_far.so_far last (search rules) unseen (sym c.with_capability.ensures ∙ c.in_ok-so_far.was)
            (subst (λ p. FollowsList c.args.bytes.now (c.loop-p.p ∷ b.0) p c.in_ok-so_far.so_far last) c.pointer-p-in-loop-p.ensures.is h)),
      );
    }

pub returns : goal.returns
returns c = let b = c.loop-p.invariant.after in b.2 _ (subst (λ p. FollowsList c.args.bytes.now b.0 p c.loop-p.so_far (Ok c.loop-p.so_far)) (sym c.loop-p-test.false) (ends b.0 c.loop-p.so_far))
