use Rattle.std.proofs.Common.{◌≡◌, ◌∙◌, false, sym, true}
use Rattle.sweep_trials.proofs.Stopping.{memory_so}
use Rattle.sweep_top.specs.Reported.{IsAtLimit}
use Rattle.sweep_top.specs.Reported.IsAtLimit.{NoScript}
use Rattle.sweep_top.proofs.board.BoardRuns.run.Goals as goal

pub returns-then-not-may_run-clause-stopped : goal.returns-then-not-may_run-clause-stopped
returns-then-not-may_run-clause-stopped c = NoScript (λ s. let never : true ≡ false = sym (c.may_run.ensures.only s) ∙ c.if-not-may_run.true in absurd (cc))

pub returns-in_err-config-clause-stopped : goal.returns-in_err-config-clause-stopped
returns-in_err-config-clause-stopped c = memory_so (IsAtLimit c.args.self.now.configuration.now c.args.script.now) c.from_residual.result c.in_err-config.field-0.0 c.from_residual.ensures.1 c.in_err-config.ensures.memory

pub returns-clause-stopped : goal.returns-clause-stopped
returns-clause-stopped c = c.run_on.ensures.stopped c.args.self.now.configuration.now c.in_ok-config.ensures.read
