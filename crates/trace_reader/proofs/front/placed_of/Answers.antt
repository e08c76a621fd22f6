use Rattle.std.specs.Prelude.{◌++◌, codes, decimal}
use Rattle.trace_reader.proofs.Fronts.{either_spells}
use Rattle.trace_reader.proofs.front.placed_of.Goals as goal

pub returns-then-unit-lt256 : goal.returns-then-unit-lt256
returns-then-unit-lt256 c = either_spells (λ w. w.now) (codes "A" ++ decimal c.args.unit) c.args.text.now _ _ c.or.result c.or.ensures c.result_of.ensures c.list_of.ensures
