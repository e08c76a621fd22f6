use Rattle.std.proofs.Common.{refl}
use Rattle.std.specs.Prelude.{codes}
use Rattle.trace_reader.proofs.Fronts.{named_of, no_names, one_more}
use Rattle.trace_reader.proofs.front.flip.Goals as goal

pub returns : goal.returns
returns c =
    named_of (λ w. w.now) (codes "F") c.args.text.now c.in_ok-p.rest.now c.in_ok-p.p _ c.first_named.result c.in_ok-p.ensures c.first_named.ensures
    (one_more refl c.in_ok-p.ensures.fits no_names)
