use Rattle.std.proofs.Common.{refl}
use Rattle.bench_generator.proofs.Eights.{eight_after, eight_at_start}
use Rattle.bench_generator.proofs.orders.order_of.Goals as goal

pub returns-then-number-gt8 : goal.returns-then-number-gt8
returns-then-number-gt8 c = rw (c.repeated.ensures, c.value_of-value.ensures, c.analog_of.ensures, eight_after c.args.seed c.args.number c.if-number-gt8.true) refl

pub returns-else-number-gt8 : goal.returns-else-number-gt8
returns-else-number-gt8 c = rw (c.opening.ensures, c.value_of-value.ensures, eight_at_start c.args.seed c.args.number c.if-number-gt8.false) refl
