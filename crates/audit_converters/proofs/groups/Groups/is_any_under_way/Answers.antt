use Rattle.audit_converters.proofs.Terms.{any_here, any_next, any_none, is_under_way, refl, sym, ◌∙◌}
use Rattle.audit_converters.proofs.groups.Groups.is_any_under_way.Goals as goal

pub loop-group-init : goal.loop-group-init
loop-group-init c s h = refl

pub loop-group-preserved : goal.loop-group-preserved
loop-group-preserved c s h = c.loop-group.invariant s h ∙ any_next (is_under_way s) c.loop-group.group c.loop-group-test.true (sym (c.is_under_way.ensures s h) ∙ c.if-is_under_way.false)

pub returns-then-is_under_way : goal.returns-then-is_under_way
returns-then-is_under_way c s h = sym (c.loop-group.invariant s h ∙ any_here (is_under_way s) c.loop-group.group c.loop-group-test.true (sym (c.is_under_way.ensures s h) ∙ c.if-is_under_way.true))

pub returns : goal.returns
returns c s h = sym (c.loop-group.invariant s h ∙ any_none (is_under_way s) c.loop-group.group c.loop-group-test.false)
