use Rattle.std.proofs.Common.{refl}
use Rattle.std.specs.Prelude.{codes}
use Rattle.trace_reader.proofs.Fronts.{ends_with}
use Rattle.trace_reader.proofs.front.direction_clear.Goals as goal

pub returns : goal.returns
returns c = ends_with (codes "D") (codes ".DIRCLR") c.args.text.now c.in_ok-rest.rest.now c.in_ok-half.rest.now c.in_ok-half.half _ c.in_ok-rest.ensures c.in_ok-half.ensures.text refl c.in_ok-half.ensures.fits
