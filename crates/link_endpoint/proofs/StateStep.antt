-- The State step of a Tick or a Stop.
use Rattle.std.proofs.Common.{◌≡◌, ◌≢◌, ℕ, ◌+◌, ◌<◌, [], ◌∷◌, subst, refl, sym, arith}
use Rattle.std.proofs.lemmas.Grind.{common_steps}
use Rattle.split_ring.specs.Layout.{size_of, word_offset, AvailEntry}
use Rattle.split_ring.specs.declared.steps.Note.TheVariants as note
use Rattle.split_ring.proofs.QueuesAreLaidOut.{queues_are_laid_out}
use Rattle.link_handshake.specs.PhaseTable.{phase_of_state}
use Rattle.link_handshake.specs.declared.Phase.TheVariants.{Ready}
use Rattle.call_grammar.specs.Ends.{End, end_after}
use Rattle.call_grammar.specs.Calls.{EndConfig}
use Rattle.call_grammar.specs.Places as places
use Rattle.call_grammar.specs.Permitted.{HasSections}
use Rattle.tx_engine.specs.Refinement as tx
use Rattle.rx_engine.specs.Refinement as rx
use Rattle.link_endpoint.specs.declared.place.Place.TheVariants.{Closed, WritingState}
use Rattle.link_endpoint.specs.Engine.{Engine, delivered, offered}
use Rattle.link_endpoint.specs.Refinement.{RefinesAt, IsClearBefore, IdleRefinesAt, Takes}
use Rattle.link_endpoint.proofs.EndByPlace.{at_place}

-- The words of the available entries are inside the section.
entry_inside : (config : EndConfig) → HasSections config → (k : ℕ) → k < size_of config.sizes → word_offset config.sizes (AvailEntry k) < config.words
entry_inside config has k below = let inside = (queues_are_laid_out config.sizes has.queue).inside (AvailEntry k) below in let words = has.words in omega arith

-- A session opens over a section whose words are all 0.
fresh_after : (config : EndConfig) (end : End) (value : ℕ) → HasSections config → IsClearBefore config end (config.own + config.words) → tx.IsFreshSession config (end_after end (places.step_at config (places.WritingState 2) value))
fresh_after config end value has clear = record {
  accepted = grind arith;
  freed = grind arith;
  blank = λ k below. let inside = entry_inside config has k below in clear (config.own + word_offset config.sizes (AvailEntry k)) (omega arith) (omega arith);
}

opened : (old new : Engine) (value : ℕ) (config : EndConfig) (end : End) (place : places.Place) → HasSections old.config →
    old.place ≡ WritingState 2 →
    ((config : EndConfig) (end : End) → tx.IsMadeFor old.sender config → tx.IsFreshSession config end → tx.RefinesAt new.sender config end places.Closed) →
    ((config : EndConfig) (end : End) → rx.IsMadeFor old.receiver config → rx.IsFreshSession end → rx.RefinesAt new.receiver config end places.Closed) →
    RefinesAt old config end place → IdleRefinesAt new config (end_after end (places.step_at config (places.WritingState 2) value))
opened old new value config end place has sets sender receiver refines =
    let a = at_place (WritingState 2) old config end place sets refines in
    let here : HasSections config = subst HasSections (sym refines.made) has in
    record {
      sender = sender config _ a.2.sender.made (fresh_after config end value here (a.1.opens (refl)));
      receiver = receiver config _ a.2.receiver.made (grind (arith, common_steps));
    }

-- A State step opens a session.
pub opens_session : (old new : Engine) (value : ℕ) → HasSections old.config →
    old.place ≡ WritingState 2 →
    new ≡ record old { phase = Ready; place = Closed; sender = new.sender; receiver = new.receiver } →
    ((config : EndConfig) (end : End) → tx.IsMadeFor old.sender config → tx.IsFreshSession config end → tx.RefinesAt new.sender config end places.Closed) →
    ((config : EndConfig) (end : End) → rx.IsMadeFor old.receiver config → rx.IsFreshSession end → rx.RefinesAt new.receiver config end places.Closed) →
    delivered new ≡ delivered old → offered new ≡ offered old → Takes old value (note.Over ∷ []) new
opens_session old new value has sets new_is sender receiver frame kept = record {
  marks = λ config end place refines. let a = at_place (WritingState 2) old config end place sets refines in grind (arith, common_steps);
  marked = λ config end place refines. let a = at_place (WritingState 2) old config end place sets refines in grind (arith, common_steps);
  frames = grind (arith, common_steps);
  refines = λ config end place refines.
      let a = at_place (WritingState 2) old config end place sets refines in
      let rests = opened old new value config end place has sets sender receiver refines in
      grind (arith, common_steps);
  delivered = λ config end place refines. let a = at_place (WritingState 2) old config end place sets refines in grind (arith, common_steps);
  config = grind (arith, common_steps);
  refused = grind (arith, common_steps);
  offered = kept;
  down = grind (arith, common_steps);
}

-- A State step opens no session.
pub sets_other : (old new : Engine) (state value : ℕ) →
    old.place ≡ WritingState state → state ≢ 2 →
    new ≡ record old { phase = phase_of_state state; place = Closed } →
    Takes old value (note.Over ∷ []) new
sets_other old new state value sets other new_is = grind (arith, common_steps)
