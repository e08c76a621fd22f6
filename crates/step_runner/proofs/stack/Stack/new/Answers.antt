use Rattle.std.proofs.Common.{rules, ◌≡◌, [], reverse, take, subst, sym}
use Rattle.step_runner.specs.Stands.{Stands}
use Rattle.step_runner.proofs.Runs.{stands-first}
use Rattle.step_runner.proofs.stack.Stack.new.Goals as goal

pub returns-clause-stands : goal.returns-clause-stands
returns-clause-stands g c driver first fits is wired =
    let empty : reverse (take 0 c.in_ok-places.places.items) ≡ [] = search rules in
    subst (λ x. Stands (g.M.Module.spec driver) first first x []) (sym empty) (stands-first (g.M.Module.spec driver) g.M.Frame.Routine.move_of g.M.Frame.Routine.left g.M.Frame.Routine.gave (g.met.M.Module.laws driver fits) first is wired)
