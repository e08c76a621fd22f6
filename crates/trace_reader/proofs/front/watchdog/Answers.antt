use Rattle.std.proofs.Common.{refl}
use Rattle.std.specs.Prelude.{codes}
use Rattle.trace_reader.proofs.Fronts.{named, no_names, one_more}
use Rattle.trace_reader.proofs.front.watchdog.Goals as goal

pub returns : goal.returns
returns c =
    named (λ w. w.now) (codes "W") c.args.text.now _ c.first_named.result c.first_named.ensures
    (one_more refl tt no_names)
