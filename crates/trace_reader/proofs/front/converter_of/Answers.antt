use Rattle.std.proofs.Common.{refl}
use Rattle.std.specs.Prelude.{◌++◌, codes, decimal}
use Rattle.trace_reader.proofs.Fronts.{no_names, one_more}
use Rattle.trace_reader.proofs.front.converter_of.Goals as goal

pub returns-in-Some : goal.returns-in-Some
returns-in-Some c =
    c.in-Some.ensures.spells (codes "A" ++ decimal c.args.unit)
    (one_more refl c.ranges.unit.fits (one_more refl c.ranges.unit.fits (one_more refl c.ranges.unit.fits (one_more refl c.ranges.unit.fits (one_more refl c.ranges.unit.fits no_names)))))
