use Rattle.audit_converters.proofs.Terms.{Kept, option_map, round_as, set_units, skip_units, Stands, subst, sym, with_round}
use Rattle.audit_converters.proofs.groups.Groups.set_round.Goals as goal

pub returns-then-unit-lt2-clause-is : goal.returns-then-unit-lt2-clause-is
returns-then-unit-lt2-clause-is c s h =
    let v = subst (λ (k : Kept). Stands k s) (sym c.self.view_is) h in
    record { initialised = v.initialised; groups = v.groups; units = set_units c.self.inside.units s c.args.unit c.args.round c.self.invariant.1 c.if-unit-lt2.true v.units; marks = v.marks; requests = v.requests }

pub returns-else-unit-lt2-clause-is : goal.returns-else-unit-lt2-clause-is
returns-else-unit-lt2-clause-is c s h =
    let v = subst (λ (k : Kept). Stands k s) (sym c.self.view_is) h in
    let r = option_map round_as c.args.round in
    subst (λ (k : Kept). Stands k (with_round s c.args.unit r)) c.self.view_is (record { initialised = v.initialised; groups = v.groups; units = skip_units c.self.inside.units s c.args.unit r c.self.invariant.1 c.if-unit-lt2.false v.units; marks = v.marks; requests = v.requests })
