use Rattle.shapes_on_chip.proofs.Steps.{order_left}
use Rattle.shapes_on_chip.proofs.order_elsewhere.Goals as goal

pub returns : goal.returns
returns c = order_left
