use Rattle.audit_converters.proofs.Terms.{ap, cond, group_at, group_busy, is_idle, is_start_busy, not, sym, ◌∙◌}
use Rattle.audit_converters.proofs.groups.Groups.is_group_busy.Goals as goal

pub returns-then-sets_up : goal.returns-then-sets_up
returns-then-sets_up c s h =
    let d = c.args.table.now in
    let g = c.args.group in
    c.is_working.ensures s h
    ∙ sym (group_busy d s g c.args.call ∙ ap (λ b. cond b (not (is_idle (group_at s g).status)) (is_start_busy d s g)) (sym c.sets_up.ensures ∙ c.if-sets_up.true))

pub returns-else-sets_up : goal.returns-else-sets_up
returns-else-sets_up c s h =
    let d = c.args.table.now in
    let g = c.args.group in
    c.is_start_busy.ensures s h
    ∙ sym (group_busy d s g c.args.call ∙ ap (λ b. cond b (not (is_idle (group_at s g).status)) (is_start_busy d s g)) (sym c.sets_up.ensures ∙ c.if-sets_up.false))
