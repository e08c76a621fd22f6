use Rattle.std.proofs.Common.{arith, subst, sym}
use Rattle.gpt_driver.specs.Fits.{fits_of}
use Rattle.module_machines.specs.gpt.Table.{FitsGpt}
use Rattle.base_tests.proofs.Board.{within_limits, sound_timers}
use Rattle.base_tests.proofs.limit.ends.Goals as goal

pub run_within-requires-clause-fits : goal.run_within-requires-clause-fits
run_within-requires-clause-fits c = subst FitsGpt (sym c.new-driver.ensures) (fits_of c.default_board-config.result.gpt (sound_timers c.default_board-config.result.gpt c.default_board-config.ensures.valid.gpt))

pub run_within-requires-clause-script : goal.run_within-requires-clause-script
run_within-requires-clause-script c = record { lines = (omega (arith, c.init-first.ensures.line), (omega (arith, c.init-first.ensures.line, c.init-second.ensures.line), tt)); built = (c.init-first.ensures.order, (c.init-second.ensures.order, tt)); few = omega arith }

pub run_within-requires-clause-config : goal.run_within-requires-clause-config
run_within-requires-clause-config c = within_limits c.default_board-config.result c.default_board-config.ensures.valid

pub run_within-requires-clause-wired : goal.run_within-requires-clause-wired
run_within-requires-clause-wired c = tt

pub run_within-requires-clause-offered : goal.run_within-requires-clause-offered
run_within-requires-clause-offered c = (c.init-first.ensures.offered, (c.init-second.ensures.offered, tt))
