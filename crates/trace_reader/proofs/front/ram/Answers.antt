use Rattle.std.proofs.Common.{[], refl}
use Rattle.std.specs.Prelude.{codes}
use Rattle.trace_reader.proofs.Fronts.{ends_with}
use Rattle.trace_reader.proofs.front.ram.Goals as goal

pub returns : goal.returns
returns c = ends_with (codes "R") [] c.args.text.now c.args.text.now c.in_ok-word.rest.now c.in_ok-word.word _ refl c.in_ok-word.ensures.text refl c.in_ok-word.ensures.fits
