use Rattle.audit_converters.proofs.Terms.{ap, cond, is_done, is_trigger_line, mark_at, round_at, sym, ◌&&◌, ◌-◌, ◌∙◌}
use Rattle.audit_converters.proofs.groups.Groups.waits.Goals as goal

pub returns-then-is_unit_line : goal.returns-then-is_unit_line
returns-then-is_unit_line c w s at h =
    let d = c.args.table.now in
    let l = c.args.line in
    c.is_done.ensures w s at h
    ∙ (ap (λ u. is_done d w (round_at s u)) c.saturating_sub.ensures
    ∙ sym (ap (λ b. cond b (is_done d w (round_at s (l - 24))) (is_trigger_line l && mark_at s (l - 28))) (sym c.is_unit_line.ensures ∙ c.if-is_unit_line.true)))

pub returns-else-is_unit_line : goal.returns-else-is_unit_line
returns-else-is_unit_line c w s at h =
    let d = c.args.table.now in
    let l = c.args.line in
    c.both.ensures
    ∙ (ap (λ b. b && c.mark-marked.result) c.is_trigger_line.ensures
    ∙ (ap (λ b. is_trigger_line l && b) (c.mark-marked.ensures s h ∙ ap (mark_at s) c.saturating_sub-else-is_unit_line.ensures)
    ∙ sym (ap (λ b. cond b (is_done d w (round_at s (l - 24))) (is_trigger_line l && mark_at s (l - 28))) (sym c.is_unit_line.ensures ∙ c.if-is_unit_line.false))))
