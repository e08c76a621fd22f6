use Rattle.audit_converters.proofs.Terms.{ap, cond, first_of, sym, ◌∙◌}
use Rattle.audit_converters.proofs.groups.Groups.first_of.Goals as goal

pub returns-then-comes_before : goal.returns-then-comes_before
returns-then-comes_before c s h =
    sym (ap (first_of c.args.table.now s c.args.group) c.in-Some.is ∙ ap (λ b. cond b c.in-Some.other c.args.group) (sym (c.comes_before.ensures s h) ∙ c.if-comes_before.true))
