use Rattle.audit_converters.proofs.Terms.{any_here, any_next, any_none, nat_lt, rank_of, refl, sym, waits_for, ◌&&◌, ◌∙◌}
use Rattle.audit_converters.proofs.groups.Groups.is_outranked.Goals as goal

pub loop-other-init : goal.loop-other-init
loop-other-init c s h = refl

pub loop-other-preserved : goal.loop-other-preserved
loop-other-preserved c s h = c.loop-other.invariant s h ∙ any_next (λ o. waits_for c.args.table.now s c.args.unit o && nat_lt (rank_of c.args.table.now c.args.group) (rank_of c.args.table.now o)) c.loop-other.other c.loop-other-test.true (sym (c.outranks.ensures s h) ∙ c.if-outranks.false)

pub returns-then-outranks : goal.returns-then-outranks
returns-then-outranks c s h = sym (c.loop-other.invariant s h ∙ any_here (λ o. waits_for c.args.table.now s c.args.unit o && nat_lt (rank_of c.args.table.now c.args.group) (rank_of c.args.table.now o)) c.loop-other.other c.loop-other-test.true (sym (c.outranks.ensures s h) ∙ c.if-outranks.true))

pub returns : goal.returns
returns c s h = sym (c.loop-other.invariant s h ∙ any_none (λ o. waits_for c.args.table.now s c.args.unit o && nat_lt (rank_of c.args.table.now c.args.group) (rank_of c.args.table.now o)) c.loop-other.other c.loop-other-test.false)
