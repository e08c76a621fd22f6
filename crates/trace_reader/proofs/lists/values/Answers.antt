use Rattle.trace_reader.specs.Guess.{value}
use Rattle.trace_reader.proofs.Eaches.{each_more, each_none}
use Rattle.trace_reader.proofs.lists.values.Goals as goal

pub loop-word-preserved : goal.loop-word-preserved
loop-word-preserved c = each_more value (λ w. w.now) _ _ c.args.words.now c.loop-word.word-index _ _ _ c.loop-word-test.true c.loop-word.invariant c.in-Some.ensures c.in_ok-push-in-Some.ensures.items

pub returns-in-None : goal.returns-in-None
returns-in-None c = each_none value (λ w. w.now) _ c.args.words.now c.loop-word.word-index _ _ c.loop-word-test.true c.loop-word.invariant c.in-None.ensures
