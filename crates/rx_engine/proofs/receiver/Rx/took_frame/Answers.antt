use Rattle.std.proofs.Common.{◌≡◌, ℕ, ◌*◌, [], ◌∷◌, subst, arith}
use Rattle.call_grammar.specs.Bursts.{StepsThrough}
use Rattle.rx_engine.specs.Refinement.{StaysOpen, TakesStep}
use Rattle.rx_engine.proofs.FrameBursts.{gives_on}
use Rattle.rx_engine.proofs.receiver.Rx.took_frame.Goals as goal

pub returns-clause-steps : goal.returns-clause-steps
returns-clause-steps c = record {
  read = c.took_frame_words.new.self;
  given = c.gave_element.new.self;
  reads = λ values words_are. subst (λ n. StepsThrough StaysOpen c.args.self.now values n c.took_frame_words.new.self) (c.took_frame_words.ensures.delivers (omega arith)) (c.took_frame_words.ensures.steps values words_are);
  frame = c.took_frame_words.ensures.frame (omega arith) (omega arith);
  element = λ config end place refines. gives_on c.took_frame_words.new.self config end place _ c.in-ReadingFrameWord.entry c.in-ReadingFrameWord.more c.in-ReadingFrameWord.entry 8 (c.took_frame_words.ensures.last (omega arith)) (omega arith) (omega arith) (omega arith) refines (c.element_word-element.ensures.first config end place refines);
  gives = c.gave_element.ensures.steps;
  index = λ config end place refines. (c.next_index-returned.ensures.index config end place refines, c.next_index-returned.ensures.kind config end place refines);
  returns = λ value. (subst (λ n. TakesStep c.gave_element.new.self value n c.wrote_index.new.self) c.wrote_index.ensures.note (c.wrote_index.ensures.steps value), c.wrote_index.ensures.open);
}
