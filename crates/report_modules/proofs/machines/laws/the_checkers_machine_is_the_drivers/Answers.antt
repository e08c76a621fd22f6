use mathlib.Core.Path.{subst}
use Rattle.std.proofs.Common.{refl, sym}
use Rattle.script_runner.specs.Scripts.{IsRun}
use Rattle.report_modules.specs.machines.Bench.{Bench}
use Rattle.report_modules.proofs.Systems.{benches_are_one, is_system}
use Rattle.report_modules.proofs.machines.laws.the_checkers_machine_is_the_drivers.Goals as goal

pub returns-clause-machine : goal.returns-clause-machine
returns-clause-machine c config = refl

pub returns-clause-same : goal.returns-clause-same
returns-clause-same c config = is_system config

pub returns-clause-ours : goal.returns-clause-ours
returns-clause-ours c config chip script journal run = subst (λ (b : Bench _). IsRun b.setting chip b.call_of script journal) (sym (benches_are_one config)) run

pub returns-clause-theirs : goal.returns-clause-theirs
returns-clause-theirs c config chip script journal run = subst (λ (b : Bench _). IsRun b.setting chip b.call_of script journal) (benches_are_one config) run
