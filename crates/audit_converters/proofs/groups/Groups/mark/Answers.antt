use Rattle.audit_converters.proofs.Terms.{arith, false, get_or_past, Kept, length, Stands, subst, sym, ◌∙◌, ◌≡◌}
use Rattle.audit_converters.proofs.groups.Groups.mark.Goals as goal

pub returns-then-input-lt4 : goal.returns-then-input-lt4
returns-then-input-lt4 c s h = (subst (λ (k : Kept). Stands k s) (sym c.self.view_is) h).marks c.args.input

pub returns-else-input-lt4 : goal.returns-else-input-lt4
returns-else-input-lt4 c s h =
    let size : length c.self.inside.marks ≡ 4 = c.self.invariant.2 in
    sym (get_or_past c.self.inside.marks c.args.input false (omega (arith, size, c.if-input-lt4.false))) ∙ (subst (λ (k : Kept). Stands k s) (sym c.self.view_is) h).marks c.args.input
