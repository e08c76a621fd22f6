use Rattle.audit_converters.proofs.Terms.{any_here, any_next, any_none, group_of, is_on, is_under_way, refl, sym, ◌&&◌, ◌∙◌}
use Rattle.audit_converters.proofs.groups.Groups.is_taken.Goals as goal

pub loop-group-init : goal.loop-group-init
loop-group-init c s h = refl

pub loop-group-preserved : goal.loop-group-preserved
loop-group-preserved c s h = c.loop-group.invariant s h ∙ any_next (λ g. is_on c.args.unit (group_of c.args.table.now g) && is_under_way s g) c.loop-group.group c.loop-group-test.true (sym (c.takes.ensures s h) ∙ c.if-takes.false)

pub returns-then-takes : goal.returns-then-takes
returns-then-takes c s h = sym (c.loop-group.invariant s h ∙ any_here (λ g. is_on c.args.unit (group_of c.args.table.now g) && is_under_way s g) c.loop-group.group c.loop-group-test.true (sym (c.takes.ensures s h) ∙ c.if-takes.true))

pub returns : goal.returns
returns c s h = sym (c.loop-group.invariant s h ∙ any_none (λ g. is_on c.args.unit (group_of c.args.table.now g) && is_under_way s g) c.loop-group.group c.loop-group-test.false)
