use Rattle.trace_reader.specs.Numbers.{number}
use Rattle.trace_reader.proofs.Eaches.{each_more, each_none}
use Rattle.trace_reader.proofs.lists.numbers.Goals as goal

pub loop-word-preserved : goal.loop-word-preserved
loop-word-preserved c = each_more number (λ w. w.now) _ _ c.args.words.now c.loop-word.word-index _ _ _ c.loop-word-test.true c.loop-word.invariant c.in-Some.ensures c.in_ok-push-in-Some.ensures.items

pub returns-in-None : goal.returns-in-None
returns-in-None c = each_none number (λ w. w.now) _ c.args.words.now c.loop-word.word-index _ _ c.loop-word-test.true c.loop-word.invariant c.in-None.ensures
