use Rattle.std.proofs.Common.{ap}
use Rattle.bench_top.proofs.Promised.{empty_keeps}
use Rattle.bench_top.proofs.top.no_memory.Goals as goal

pub returns-clause-keeps : goal.returns-clause-keeps
returns-clause-keeps c devices judgement = empty_keeps devices judgement c.empty.result.entries (ap (λ w. w.entries) c.empty.ensures)
