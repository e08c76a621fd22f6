use Rattle.audit_converters.proofs.Terms.{ap, cond, first_of, Some, sym, ◌∙◌}
use Rattle.audit_converters.proofs.groups.Groups.next_of.Goals as goal

pub returns-then-waits_for : goal.returns-then-waits_for
returns-then-waits_for c s h =
    ap Some (c.first_of.ensures s h)
    ∙ sym (ap (λ b. cond b (Some (first_of c.args.table.now s c.args.group c.args.behind)) c.args.behind) (sym (c.waits_for.ensures s h) ∙ c.if-waits_for.true))

pub returns-else-waits_for : goal.returns-else-waits_for
returns-else-waits_for c s h =
    sym (ap (λ b. cond b (Some (first_of c.args.table.now s c.args.group c.args.behind)) c.args.behind) (sym (c.waits_for.ensures s h) ∙ c.if-waits_for.false))
