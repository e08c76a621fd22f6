use Rattle.std.proofs.Common.{◌≤◌, sym, subst, arith}
use Rattle.spi_driver.specs.laws.bookkeeping.ModuleBounds.{steps_few}
use Rattle.spi_driver.proofs.frames.SpiDriverCaller.call_steps.Goals as goal

pub returns-clause-few : goal.returns-clause-few
returns-clause-few c = subst (λ n. n ≤ 66656) (sym c.most_steps.ensures) (let k = steps_few c.args.self.now.table c.requires.fits c.args.call.now in omega (arith, k))
