use Rattle.audit_serial.proofs.Terms.{ap, cond, next_by, None, run_at, state_of, sym, ◌∙◌}
use Rattle.audit_serial.proofs.serials.Serials.next_on.Goals as goal

pub returns-then-is_off : goal.returns-then-is_off
returns-then-is_off c =
    let m = c.args.self.now in
    let d = m.configured.table in
    let s = state_of m in
    sym (ap (λ b. cond b None (next_by d s c.args.unit (run_at s c.args.unit))) (sym c.is_off.ensures ∙ c.if-is_off.true))

pub returns-else-is_off : goal.returns-else-is_off
returns-else-is_off c =
    let m = c.args.self.now in
    let d = m.configured.table in
    let s = state_of m in
    c.next_of.ensures ∙ sym (ap (λ b. cond b None (next_by d s c.args.unit (run_at s c.args.unit))) (sym c.is_off.ensures ∙ c.if-is_off.false))
