use Rattle.audit_serial.proofs.Terms.{ap, carried_at, cond, None, state_of, sym, unit_of_sequence, ◌∙◌}
use Rattle.audit_serial.proofs.serials.Serials.carrying.Goals as goal

pub returns-then-carries_none : goal.returns-then-carries_none
returns-then-carries_none c =
    let m = c.args.self.now in
    let d = m.configured.table in
    let s = state_of m in
    sym (ap (λ b. cond b None (carried_at s (unit_of_sequence d c.args.sequence))) (sym c.carries_none.ensures ∙ c.if-carries_none.true))

pub returns-else-carries_none : goal.returns-else-carries_none
returns-else-carries_none c =
    let m = c.args.self.now in
    let d = m.configured.table in
    let s = state_of m in
    c.carrying.ensures
    ∙ (ap (carried_at s) c.unit_of.ensures
    ∙ sym (ap (λ b. cond b None (carried_at s (unit_of_sequence d c.args.sequence))) (sym c.carries_none.ensures ∙ c.if-carries_none.false)))
