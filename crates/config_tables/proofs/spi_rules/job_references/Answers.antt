use Rattle.std.proofs.Common.{arith, ◌≡◌, take}
use Rattle.std.proofs.lemmas.Grind.{common_steps}
use Rattle.config_tables.proofs.spi_rules.job_references.Goals as goal

pub returns-clause-refer : goal.returns-clause-refer
returns-clause-refer c = let e : take c.loop-number.number c.args.sequences.now ≡ c.args.sequences.now = grind (arith, common_steps) in rw e at c.loop-number.invariant.refer
