use Rattle.std.proofs.Common.{◌≡◌, ◌∙◌, ap, sym, subst, rules, arith, ℕ}
use Rattle.section_map.specs.Geometry.{Shape}
use Rattle.split_ring.specs.Layout.{Sizes, IsQueue}
use Rattle.call_grammar.specs.Ends.{fresh}
use Rattle.call_grammar.specs.Calls.{EndConfig}
use Rattle.call_grammar.specs.Places as places
use Rattle.link_endpoint.specs.declared.place.Call.TheVariants.{Stop}
use Rattle.link_endpoint.specs.Engine.{Engine, fresh_engine, config_of}
use Rattle.link_endpoint.specs.Refinement.{RefinesAt}
use Rattle.ivshm_c.specs.declared.device.Found.{Found}
use Rattle.ivshm_c.specs.EndStates.{Begins, IsStarted}
use Rattle.ivshm_c.specs.Sizes.{shape_found, sizes_found}
use Rattle.ivshm_c.specs.Answers.{IsNew, bad_peer, bad_version, bad_vector, bad_sizes, no_memory}
use Rattle.ivshm_c.proofs.calls.made.Goals as goal

-- A Stop begins at a new end of this geometry and this queue.
is_started : (config same : EndConfig) (before new : Engine) → config ≡ same → before ≡ fresh_engine config → RefinesAt before config fresh places.Closed → Begins Stop before new → IsStarted same new
is_started config same before new is made refines begins = subst (λ (c : EndConfig). IsStarted c new) is (record {
  refines = begins.refines config fresh refines;
  begins = subst (λ (e : Engine). Begins Stop e new) made begins;
})

-- The geometry and the queue are those of the sizes that were found.
same_config : (found : Found) (version peers me mtu vector : ℕ) (shape : Shape) (queue : Sizes) → shape ≡ shape_found found peers → queue ≡ sizes_found found version mtu →
    config_of shape queue me vector ≡ config_of (shape_found found peers) (sizes_found found version mtu) me vector
same_config found version peers me mtu vector shape queue shaped queued =
    ap (λ (s : Shape). config_of s queue me vector) shaped ∙ ap (λ (q : Sizes). config_of (shape_found found peers) q me vector) queued

pub returns-in-Ok-new-2-clause-made : goal.returns-in-Ok-new-2-clause-made
returns-in-Ok-new-2-clause-made c =
    let a = c.args in
    subst (IsNew a.found.now a.version a.peers a.me a.mtu a.vector) (sym c.in-Ok-new-2.ensures.ok) (
      is_started _ _ _ _ (same_config a.found.now a.version a.peers a.me a.mtu a.vector _ _ c.in-Ok.ensures.shape.0 c.in-Ok.ensures.queue.0) c.in-Ok-new.ensures.value c.in-Ok-new.ensures.refines c.of.ensures.begins,
      c.of.ensures.outcome,
      c.of.ensures.counts,
    )

pub returns-then-me-gt1-clause-refused : goal.returns-then-me-gt1-clause-refused
returns-then-me-gt1-clause-refused c = bad_peer c.if-me-gt1.true

pub returns-then-not-contains-clause-refused : goal.returns-then-not-contains-clause-refused
returns-then-not-contains-clause-refused c = bad_version c.if-me-gt1.false (λ known. search rules)

pub returns-then-vector-gt65535-clause-refused : goal.returns-then-vector-gt65535-clause-refused
returns-then-vector-gt65535-clause-refused c = bad_vector c.if-me-gt1.false (search rules) (omega arith)

pub returns-in-Err-clause-refused : goal.returns-in-Err-clause-refused
returns-in-Err-clause-refused c =
    bad_sizes c.in-Err.status (record { one_of_two = c.if-me-gt1.false; known = search rules; has_16_bits = omega arith }) c.in-Err.ensures.fault

pub returns-in_default-clause-refused : goal.returns-in_default-clause-refused
returns-in_default-clause-refused c = no_memory record {
  numbers = record { one_of_two = c.if-me-gt1.false; known = search rules; has_16_bits = omega arith };
  sizes = c.in-Ok.ensures.sizes;
  queue = subst IsQueue c.in-Ok.ensures.queue.0 c.in-Ok.ensures.queue.1;
}

pub returns-clause-refused : goal.returns-clause-refused
returns-clause-refused c = no_memory record {
  numbers = record { one_of_two = c.if-me-gt1.false; known = search rules; has_16_bits = omega arith };
  sizes = c.in-Ok.ensures.sizes;
  queue = subst IsQueue c.in-Ok.ensures.queue.0 c.in-Ok.ensures.queue.1;
}
