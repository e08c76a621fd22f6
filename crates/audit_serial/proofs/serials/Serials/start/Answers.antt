use Rattle.audit_serial.proofs.Terms.{ap, IfOk-weaker, start_of, state_of, sym, ◌∙◌}
use Rattle.audit_serial.proofs.serials.Serials.start.Goals as goal

pub returns-in-Some-clause-is : goal.returns-in-Some-clause-is
returns-in-Some-clause-is c w time =
    let m = c.args.self.now in
    let d = m.configured.table in
    let s = state_of m in
    IfOk-weaker c.start_on.result _ _ (λ b e. e ∙ sym (ap (λ o. start_of d w s o c.args.by c.args.received) (sym c.number_of.ensures ∙ c.in-Some.is))) (c.start_on.ensures.is w time)

pub returns-in-None-clause-is : goal.returns-in-None-clause-is
returns-in-None-clause-is c w time =
    let m = c.args.self.now in
    let d = m.configured.table in
    let s = state_of m in
    sym (ap (λ o. start_of d w s o c.args.by c.args.received) (sym c.number_of.ensures ∙ c.in-None.is))
