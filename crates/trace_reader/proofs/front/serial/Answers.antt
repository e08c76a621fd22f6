use Rattle.std.proofs.Common.{refl}
use Rattle.std.specs.Prelude.{codes}
use Rattle.trace_reader.proofs.Fronts.{named_of, no_names, one_more}
use Rattle.trace_reader.proofs.front.serial.Goals as goal

pub returns : goal.returns
returns c =
    named_of (λ w. w.now) (codes "S") c.args.text.now c.in_ok-n.rest.now c.in_ok-n.n _ c.first_named.result c.in_ok-n.ensures c.first_named.ensures
    (one_more refl c.in_ok-n.ensures.fits (one_more refl c.in_ok-n.ensures.fits (one_more refl c.in_ok-n.ensures.fits (one_more refl c.in_ok-n.ensures.fits (one_more refl c.in_ok-n.ensures.fits (one_more refl c.in_ok-n.ensures.fits (one_more refl c.in_ok-n.ensures.fits no_names)))))))
