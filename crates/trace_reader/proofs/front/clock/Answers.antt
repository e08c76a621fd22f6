use Rattle.std.proofs.Common.{refl}
use Rattle.std.specs.Prelude.{codes}
use Rattle.trace_reader.proofs.Fronts.{named, no_names, one_more}
use Rattle.trace_reader.proofs.front.clock.Goals as goal

pub returns : goal.returns
returns c =
    named (λ w. w.now) (codes "M") c.args.text.now _ c.first_named.result c.first_named.ensures
    (one_more refl tt (one_more refl tt (one_more refl tt (one_more refl tt (one_more refl tt no_names)))))
