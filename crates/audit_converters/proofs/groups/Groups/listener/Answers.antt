use Rattle.audit_converters.proofs.Terms.{listener_here, listener_next, listener_none, refl, sym, ◌∙◌}
use Rattle.audit_converters.proofs.groups.Groups.listener.Goals as goal

pub loop-group-init : goal.loop-group-init
loop-group-init c s h = refl

pub loop-group-preserved : goal.loop-group-preserved
loop-group-preserved c s h = c.loop-group.invariant s h ∙ listener_next c.args.table.now s c.args.input c.loop-group.group c.loop-group-test.true (sym (c.listens.ensures s h) ∙ c.if-listens.false)

pub returns-then-listens : goal.returns-then-listens
returns-then-listens c s h = sym (c.loop-group.invariant s h ∙ listener_here c.args.table.now s c.args.input c.loop-group.group c.loop-group-test.true (sym (c.listens.ensures s h) ∙ c.if-listens.true))

pub returns : goal.returns
returns c s h = sym (c.loop-group.invariant s h ∙ listener_none c.args.table.now s c.args.input c.loop-group.group c.loop-group-test.false)
