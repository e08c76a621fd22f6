use Rattle.std.proofs.Common.{refl}
use Rattle.std.specs.Prelude.{codes}
use Rattle.trace_reader.proofs.Fronts.{either_spells, named_of, no_names, one_more}
use Rattle.trace_reader.proofs.front.pin.Goals as goal

pub returns-in-Some : goal.returns-in-Some
returns-in-Some c =
    named_of (λ w. w.now) (codes "D") c.args.text.now c.in-Some.rest.now c.in-Some.p _ c.first_named.result c.in-Some.ensures c.first_named.ensures
    (one_more refl c.in-Some.ensures.fits no_names)

pub returns-in-None : goal.returns-in-None
returns-in-None c =
    either_spells (λ w. w.now) (codes "D") c.args.text.now _ _ c.or-in-None-2.result c.or-in-None-2.ensures
    (either_spells (λ w. w.now) (codes "D") c.args.text.now _ _ c.or-in-None.result c.or-in-None.ensures
    (either_spells (λ w. w.now) (codes "D") c.args.text.now _ _ c.or.result c.or.ensures c.out_set.ensures c.out_clear.ensures)
    c.direction_set.ensures)
    c.direction_clear.ensures
