use Rattle.std.proofs.Common.{ap}
use Rattle.bench_script.specs.Orders.{known}
use Rattle.bench_script.proofs.Fronts.{begins_so}
use Rattle.bench_script.proofs.words.keyword_named.Goals as goal

pub returns-in-Some : goal.returns-in-Some
returns-in-Some c = ap known (c.in-Some.ensures (begins_so c.args.word.now c.in-len1-up.len_at_least))

pub returns-in-None : goal.returns-in-None
returns-in-None c = ap known (c.in-None.ensures (begins_so c.args.word.now c.in-len1-up.len_at_least))
