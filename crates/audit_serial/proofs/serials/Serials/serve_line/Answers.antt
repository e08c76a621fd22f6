use Rattle.audit_serial.proofs.Terms.{came, IfOk, run_of, served, state_of, subst, sym, ◌∙◌, ◌≡◌}
use Rattle.audit_serial.proofs.serials.Serials.serve_line.Goals as goal

pub returns-in-Some-clause-is : goal.returns-in-Some-clause-is
returns-in-Some-clause-is c w time =
    let m = c.args.self.now in
    let known = sym c.unit_of_line.ensures ∙ c.in-Some.is in
    subst (λ o. IfOk c.serve_unit.result (λ served_now. came (state_of c.serve_unit.new.self) served_now ≡ served m.configured.table w (state_of m) o c.args.received (run_of (state_of m) o))) (sym known) (c.serve_unit.ensures.is w time)

pub returns-in-None-clause-is : goal.returns-in-None-clause-is
returns-in-None-clause-is c w time =
    let m = c.args.self.now in
    let known = sym c.unit_of_line.ensures ∙ c.in-None.is in
    subst (λ o. came (state_of m) c.nothing.result ≡ served m.configured.table w (state_of m) o c.args.received (run_of (state_of m) o)) (sym known) (c.nothing.ensures (state_of m))
