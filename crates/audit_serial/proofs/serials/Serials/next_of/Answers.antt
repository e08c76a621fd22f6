use Rattle.audit_serial.proofs.Terms.{is_free, not_free, run_at, state_of, sym, ◌∙◌}
use Rattle.audit_serial.proofs.serials.Serials.next_of.Goals as goal

pub returns-then-runs : goal.returns-then-runs
returns-then-runs c =
    let m = c.args.self.now in
    let d = m.configured.table in
    let s = state_of m in
    not_free d s c.args.unit (run_at s c.args.unit) (sym c.runs.ensures ∙ c.if-runs.true)

pub returns-else-runs : goal.returns-else-runs
returns-else-runs c =
    let m = c.args.self.now in
    let d = m.configured.table in
    let s = state_of m in
    c.next_on.ensures ∙ is_free d s c.args.unit (run_at s c.args.unit) (sym c.runs.ensures ∙ c.if-runs.false)
