use Rattle.std.proofs.Common.{◌≡◌, false, vec_len}
use Rattle.script_runner.specs.Runs.{IsSameRun}
use Rattle.script_runner.proofs.within.obey_all.Given as goal

abbrev pub invariant-loop-at : goal.invariant-loop-at
invariant-loop-at g l = IsSameRun l.fn.engine l.engine × (l.engine.obeyed ≡ l.at) × (l.engine.too_long ≡ false) × (vec_len l.rack ≡ l.engine.chip.devices)
