use Rattle.std.proofs.Common.{◌≡◌, ◌/◌, replicate, take, subst, sym, ap, ◌∙◌, rules, arith}
use Rattle.split_ring.specs.Layout.{size_of, limit_of}
use Rattle.frame_slots.specs.Allocator.{initial_allocator}
use Rattle.tx_engine.specs.Sender.{Sender, IsSender}
use Rattle.tx_engine.specs.Refinement.{RefinesAt, IsMadeFor}
use Rattle.call_grammar.specs.Places as laws
use Rattle.tx_engine.proofs.InvariantAfterRead.{begun_is, fresh_is, fresh_stands}
use Rattle.tx_engine.proofs.tx.Tx.reset.Goals as goal

pub invariant_of-self : goal.invariant_of-self
invariant_of-self c =
    let t = c.self.inside in
    let kept = c.self.invariant in
    let lengths : c.fill.new.self.items ≡ replicate (limit_of t.queue) 0 = c.fill.ensures.items (λ y is. is) ∙ ap (λ n. replicate n 0) (let n = t.lengths.ok.0 in let e = kept.sender.lengths in omega arith) in
    let entries : c.fill-2.new.self.items ≡ replicate (size_of t.queue / 2) 0 = c.fill-2.ensures.items (λ y is. is) ∙ ap (λ n. replicate n 0) (let n = t.entries.ok.0 in let e = kept.sender.entries in omega arith) in
    record {
      sender = subst IsSender (begun_is t.queue t.own t.other_start t.target t.vector (take t.length t.buffer.items) c.reset.new.self c.fill.new.self.items c.fill-2.new.self.items (c.reset.ensures ∙ ap initial_allocator kept.slots) lengths entries)
          (fresh_is t.queue t.own t.other_start t.target t.vector (take t.length t.buffer.items) kept.sender.queue kept.sender.own_room kept.sender.their_room);
      slots = search rules;
      buffer = kept.buffer;
      length = kept.length;
    }

pub returns-clause-refines : goal.returns-clause-refines
returns-clause-refines c = λ config end made fresh.
    let t = c.self.inside in
    let kept = c.self.invariant in
    let lengths : c.fill.new.self.items ≡ replicate (limit_of t.queue) 0 = c.fill.ensures.items (λ y is. is) ∙ ap (λ n. replicate n 0) (let n = t.lengths.ok.0 in let e = kept.sender.lengths in omega arith) in
    let entries : c.fill-2.new.self.items ≡ replicate (size_of t.queue / 2) 0 = c.fill-2.ensures.items (λ y is. is) ∙ ap (λ n. replicate n 0) (let n = t.entries.ok.0 in let e = kept.sender.entries in omega arith) in
    let seen = subst (λ (s : Sender). IsMadeFor s config) (sym c.self.view_is) made in
    subst (λ (s : Sender). RefinesAt s config end laws.Closed)
    (begun_is t.queue t.own t.other_start t.target t.vector (take t.length t.buffer.items) c.reset.new.self c.fill.new.self.items c.fill-2.new.self.items (c.reset.ensures ∙ ap initial_allocator kept.slots) lengths entries)
    (fresh_stands t.queue t.own t.other_start t.target t.vector (take t.length t.buffer.items) config end (record { sizes = seen.sizes; own = seen.own; other_start = seen.other_start; target = seen.target; vector = seen.vector }) fresh)
