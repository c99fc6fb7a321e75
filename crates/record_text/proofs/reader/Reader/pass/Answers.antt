use Rattle.std.proofs.Common.{ℕ, List, ◌++◌, length, ap, refl, sym, ◌∙◌, arith, length-append}
use Rattle.record_text.specs.Growing.{history_text}
use Rattle.record_text.proofs.ReaderContinues.{are_few, passed}
use Rattle.record_text.proofs.reader.Reader.pass.Goals as goal

pub overflow_add-self : goal.overflow_add-self
overflow_add-self c =
    let text = c.as_slice.ensures.value ∙ c.in_ok-put_lines.ensures.put ∙ ap (λ (t : List ℕ). t ++ history_text c.args.lines.now) c.clear.ensures.items in
    let rest = c.in-Some.ensures.rest ∙ ap (λ (t : List ℕ). t ++ c.in-Some.rest.now) text in
    let size = ap length rest ∙ length-append (history_text c.args.lines.now) c.in-Some.rest.now in
    omega (arith, size, are_few c.args.lines.now, c.args.self.now.few)

pub overflow_add-self-2 : goal.overflow_add-self-2
overflow_add-self-2 c =
    let text = c.as_slice.ensures.value ∙ c.in_ok-put_lines.ensures.put ∙ ap (λ (t : List ℕ). t ++ history_text c.args.lines.now) c.clear.ensures.items in
    let rest = c.in-Some.ensures.rest ∙ ap (λ (t : List ℕ). t ++ c.in-Some.rest.now) text in
    let size = ap length rest ∙ length-append (history_text c.args.lines.now) c.in-Some.rest.now in
    omega (arith, size, are_few c.args.lines.now, c.args.self.now.few, c.args.self.now.counted)

pub invariant_of-self-2 : goal.invariant_of-self-2
invariant_of-self-2 c =
    let text = c.as_slice.ensures.value ∙ c.in_ok-put_lines.ensures.put ∙ ap (λ (t : List ℕ). t ++ history_text c.args.lines.now) c.clear.ensures.items in
    let rest = c.in-Some.ensures.rest ∙ ap (λ (t : List ℕ). t ++ c.in-Some.rest.now) text in
    let size = ap length rest ∙ length-append (history_text c.args.lines.now) c.in-Some.rest.now in
    record {
      few = omega (arith, size, are_few c.args.lines.now, c.args.self.now.few);
      counted = omega (arith, c.args.self.now.counted);
    }

pub returns-clause-past : goal.returns-clause-past
returns-clause-past c = λ bytes version world before is.
    let lines = c.args.lines.now in
    let text = c.as_slice.ensures.value ∙ c.in_ok-put_lines.ensures.put ∙ ap (λ (t : List ℕ). t ++ history_text lines) c.clear.ensures.items in
    let rest = c.in-Some.ensures.rest ∙ ap (λ (t : List ℕ). t ++ c.in-Some.rest.now) text in
    record {
      comes = passed version world before lines c.args.self.now.number c.args.self.now.rest.now c.in-Some.rest.now _ c.in_ok-put_lines.ensures.fits c.requires is.comes rest;
      count = omega (arith, is.count, length-append before lines);
    }

pub returns-clause-shorter : goal.returns-clause-shorter
returns-clause-shorter c = λ is.
    let text = c.as_slice.ensures.value ∙ c.in_ok-put_lines.ensures.put ∙ ap (λ (t : List ℕ). t ++ history_text c.args.lines.now) c.clear.ensures.items in
    let rest = c.in-Some.ensures.rest ∙ ap (λ (t : List ℕ). t ++ c.in-Some.rest.now) text in
    let size = ap length rest ∙ length-append (history_text c.args.lines.now) c.in-Some.rest.now in
    omega (arith, size, are_few c.args.lines.now)

pub returns-clause-exact : goal.returns-clause-exact
returns-clause-exact c =
    let text = c.as_slice.ensures.value ∙ c.in_ok-put_lines.ensures.put ∙ ap (λ (t : List ℕ). t ++ history_text c.args.lines.now) c.clear.ensures.items in
    let rest = c.in-Some.ensures.rest ∙ ap (λ (t : List ℕ). t ++ c.in-Some.rest.now) text in
    (λ _. (c.in-Some.rest.now, rest), λ _. refl)

pub returns-in_default-clause-exact : goal.returns-in_default-clause-exact
returns-in_default-clause-exact c =
    let text = c.as_slice.ensures.value ∙ c.in_ok-put_lines.ensures.put ∙ ap (λ (t : List ℕ). t ++ history_text c.args.lines.now) c.clear.ensures.items in
    (λ is. absurd cc, λ begins. absurd (c.in_default.ensures.none refl begins.0 (begins.1 ∙ ap (λ (t : List ℕ). t ++ begins.0) (sym text))))
