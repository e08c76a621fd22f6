use Rattle.audit_converters.proofs.Terms.{ap, arith, blank, false, get_or_default, get_or_past, Group, group_as, Idle, Kept, length, None, Stands, subst, sym, [], ◌∙◌, ◌≡◌}
use Rattle.audit_converters.proofs.groups.Groups.at.Goals as goal

pub returns-then-number-lt16-clause-is : goal.returns-then-number-lt16-clause-is
returns-then-number-lt16-clause-is c s h =
    let xs = c.self.inside.groups in
    let size : length xs ≡ 16 = c.self.invariant.0 in
    let none : Group = record { status = Idle; chosen = None; notification = false; trigger = false; count = 0; newest = record { items = []; count = 0 }; waiting = None } in
    ap group_as (get_or_default xs c.args.number none blank (omega (arith, size, c.if-number-lt16.true))) ∙ (subst (λ (k : Kept). Stands k s) (sym c.self.view_is) h).groups c.args.number

pub returns-else-number-lt16-clause-is : goal.returns-else-number-lt16-clause-is
returns-else-number-lt16-clause-is c s h =
    let size : length c.self.inside.groups ≡ 16 = c.self.invariant.0 in
    sym (ap group_as (get_or_past c.self.inside.groups c.args.number blank (omega (arith, size, c.if-number-lt16.false)))) ∙ (subst (λ (k : Kept). Stands k s) (sym c.self.view_is) h).groups c.args.number
