use Rattle.std.proofs.Common.{refl}
use Rattle.std.specs.Prelude.{codes}
use Rattle.trace_reader.proofs.Fronts.{placed_here}
use Rattle.trace_reader.proofs.front.result_of.Goals as goal

pub returns : goal.returns
returns c = placed_here c.args.unit c.in_ok-place.place (codes ".RESULT") c.args.text.now c.in_ok-rest.rest.now c.in_ok-place.rest.now _ c.in_ok-rest.ensures c.in_ok-place.ensures.text refl (c.ranges.unit.fits, c.in_ok-place.ensures.small)
