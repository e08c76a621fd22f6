use Rattle.mcal_bench.proofs.Endings.{ended_exact, ended_known, ended_nothing, ended_on_some, ended_read, ended_write}
use Rattle.mcal_bench.proofs.ended_on.Goals as goal

pub returns-clause-exact : goal.returns-clause-exact
returns-clause-exact g c = λ r s m. ended_exact _ _ c.bench.ensures c.from.ensures c.requires r s m

pub returns-clause-on_some : goal.returns-clause-on_some
returns-clause-on_some g c = λ r s m. ended_on_some _ _ c.bench.ensures c.from.ensures c.requires r s m

pub returns-clause-known : goal.returns-clause-known
returns-clause-known g c = ended_known _ _ c.bench.ensures c.from.ensures

pub returns-clause-read : goal.returns-clause-read
returns-clause-read g c = λ e. ended_read _ _ c.bench.ensures c.from.ensures e

pub returns-clause-write : goal.returns-clause-write
returns-clause-write g c = λ e. ended_write _ _ c.bench.ensures c.from.ensures e

pub returns-clause-nothing : goal.returns-clause-nothing
returns-clause-nothing g c = λ e. ended_nothing _ _ c.bench.ensures c.from.ensures e
