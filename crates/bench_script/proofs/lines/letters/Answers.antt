use Rattle.std.proofs.Common.{refl}
use Rattle.bench_script.proofs.lines.letters.Goals as goal

pub returns-clause-table : goal.returns-clause-table
returns-clause-table c = refl
