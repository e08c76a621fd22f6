use Rattle.audit_serial.proofs.Terms.{ap, cond, None, run_of, served, Some, state_of, sym, unit_of, ◌∙◌}
use Rattle.audit_serial.proofs.serials.Serials.serve.Goals as goal

pub returns-in_ok-served-clause-is : goal.returns-in_ok-served-clause-is
returns-in_ok-served-clause-is c w time =
    let m = c.args.self.now in
    let s = state_of m in
    let line = unit_of c.args.line in
    ap (λ x. Some x) (c.in_ok-served.ensures.is w time)
    ∙ sym (ap (λ b. cond b (Some (served m.configured.table w s line c.args.received (run_of s line))) None) (sym (c.ready.ensures w time) ∙ c.if-ready.true))

pub returns-else-ready-clause-is : goal.returns-else-ready-clause-is
returns-else-ready-clause-is c w time =
    let m = c.args.self.now in
    let s = state_of m in
    let line = unit_of c.args.line in
    sym (ap (λ b. cond b (Some (served m.configured.table w s line c.args.received (run_of s line))) None) (sym (c.ready.ensures w time) ∙ c.if-ready.false))
