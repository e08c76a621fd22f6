use Rattle.audit_converters.proofs.Terms.{ap, arith, get_or_past, Kept, length, None, option_map, round_as, Stands, subst, sym, ◌∙◌, ◌≡◌}
use Rattle.audit_converters.proofs.groups.Groups.round.Goals as goal

pub returns-then-unit-lt2 : goal.returns-then-unit-lt2
returns-then-unit-lt2 c s h = (subst (λ (k : Kept). Stands k s) (sym c.self.view_is) h).units c.args.unit

pub returns-else-unit-lt2 : goal.returns-else-unit-lt2
returns-else-unit-lt2 c s h =
    let size : length c.self.inside.units ≡ 2 = c.self.invariant.1 in
    sym (ap (λ r. option_map round_as r) (get_or_past c.self.inside.units c.args.unit None (omega (arith, size, c.if-unit-lt2.false)))) ∙ (subst (λ (k : Kept). Stands k s) (sym c.self.view_is) h).units c.args.unit
