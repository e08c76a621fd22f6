use Rattle.std.proofs.Common.{refl}
use Rattle.std.specs.Prelude.{◌++◌, codes, decimal}
use Rattle.trace_reader.proofs.Fronts.{behind_number, named, no_names, one_more, spelled_from}
use Rattle.trace_reader.proofs.front.converter.Goals as goal

pub returns-in-Some : goal.returns-in-Some
returns-in-Some c =
    spelled_from (λ w. w.now) (codes "A") c.args.text.now (codes "A" ++ decimal c.in-Some.unit) c.in-Some.rest.now c.converter_of.result (behind_number (codes "A") c.args.text.now c.in-Some.rest.now c.in-Some.unit c.in-Some.ensures) c.converter_of.ensures

pub returns-in-None : goal.returns-in-None
returns-in-None c =
    named (λ w. w.now) (codes "A") c.args.text.now _ c.first_named.result c.first_named.ensures
    (one_more refl tt (one_more refl tt (one_more refl tt no_names)))
