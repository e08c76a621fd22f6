-- The newest frame and what it was begun for are gone.
use Rattle.std.proofs.Common.{arith, map, ◌∙◌, ap}
use Rattle.std.proofs.lemmas.List.{length-map}
use Rattle.audit_subject.specs.Origins.{origin_of}
use Rattle.report_steps.proofs.MoveLaws.{removed_first, without_is}
use Rattle.report_steps.proofs.single.leaves.Goals as goal

pub remove-requires : goal.remove-requires
remove-requires g c =
    let begun = rw (← c.auditor.view_is) at c.requires.begun in
    omega (arith, begun, length-map c.auditor.inside.origins.items origin_of)

pub returns : goal.returns
returns g c =
    without_is _ _ c.auditor.view_is _ _ c.end.ensures (ap (λ xs. map origin_of xs) c.remove.ensures.items ∙ removed_first origin_of c.auditor.inside.origins.items)
