use Rattle.std.proofs.Common.{refl}
use Rattle.std.specs.Prelude.{codes}
use Rattle.trace_reader.proofs.Fronts.{named, named_of, no_names, one_more}
use Rattle.trace_reader.proofs.front.pulse.Goals as goal

pub returns-in-Some : goal.returns-in-Some
returns-in-Some c =
    named_of (λ w. w.now) (codes "P") c.args.text.now c.in-Some.rest.now c.in-Some.n _ c.first_named.result c.in-Some.ensures c.first_named.ensures
    (one_more refl c.in-Some.ensures.fits (one_more refl c.in-Some.ensures.fits (one_more refl c.in-Some.ensures.fits (one_more refl c.in-Some.ensures.fits (one_more refl c.in-Some.ensures.fits (one_more refl c.in-Some.ensures.fits no_names))))))

pub returns-in-None : goal.returns-in-None
returns-in-None c =
    named (λ w. w.now) (codes "P") c.args.text.now _ c.first_named-in-None.result c.first_named-in-None.ensures
    (one_more refl tt (one_more refl tt no_names))
