use Rattle.std.proofs.Common.{◌≡◌, ◌≤◌, ◌*◌, take}
use Rattle.script_runner.specs.Scripts.{script_bound, words_given}
use Rattle.script_runner.proofs.sizes.sizes_of.Given as goal

abbrev pub invariant-loop-directive : goal.invariant-loop-directive
invariant-loop-directive g l =
    (l.steps ≡ script_bound (g.M.Module.spec l.driver).setting (g.M.Caller.call_of l.driver) (take l.directive-index l.script)) × (l.steps ≤ 66656 * l.directive-index)
    × (l.words ≡ words_given (take l.directive-index l.script)) × (l.words ≤ 64 * l.directive-index)
