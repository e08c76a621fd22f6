use Rattle.std.proofs.Common.{◌≡◌, map, take}
use Rattle.mcal_base.specs.declared.directive.Argument.TheVariants.{Number}
use Rattle.bench_generator.proofs.orders.asks.Given as goal

abbrev pub invariant-loop-number : goal.invariant-loop-number
invariant-loop-number l = l.arguments ≡ map (λ n. Number n) (take l.number-index l.numbers)
