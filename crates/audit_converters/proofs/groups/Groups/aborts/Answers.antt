use Rattle.audit_converters.proofs.Terms.{aborts_by, ap, cond, None, option_map, round_as, Some, sym, ◌∙◌}
use Rattle.audit_converters.proofs.groups.Groups.aborts.Goals as goal

pub returns-then-is_abortable : goal.returns-then-is_abortable
returns-then-is_abortable c w s at h =
    sym (ap (aborts_by c.args.table.now w s c.args.unit) (sym (c.round.ensures s h) ∙ ap (λ r. option_map round_as r) c.in-Some.is)
    ∙ ap (λ b. cond b (Some (round_as c.in-Some.round)) None) (sym (c.is_abortable.ensures w s at h) ∙ c.if-is_abortable.true))

pub returns-else-is_abortable : goal.returns-else-is_abortable
returns-else-is_abortable c w s at h =
    sym (ap (aborts_by c.args.table.now w s c.args.unit) (sym (c.round.ensures s h) ∙ ap (λ r. option_map round_as r) c.in-Some.is)
    ∙ ap (λ b. cond b (Some (round_as c.in-Some.round)) None) (sym (c.is_abortable.ensures w s at h) ∙ c.if-is_abortable.false))

pub returns-in-None : goal.returns-in-None
returns-in-None c w s at h = sym (ap (aborts_by c.args.table.now w s c.args.unit) (sym (c.round.ensures s h) ∙ ap (λ r. option_map round_as r) c.in-None.is))
