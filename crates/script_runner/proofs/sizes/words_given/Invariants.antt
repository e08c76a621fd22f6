use Rattle.std.proofs.Common.{◌≡◌, ◌≤◌, ◌*◌, take}
use Rattle.script_runner.specs.Scripts.{words_given}
use Rattle.script_runner.proofs.sizes.words_given.Given as goal

abbrev pub invariant-loop-directive : goal.invariant-loop-directive
invariant-loop-directive l = (l.given ≡ words_given (take l.directive-index l.script)) × (l.given ≤ 64 * l.directive-index)
