use Rattle.audit_serial.proofs.Terms.{act_by, ap, arith, IfOk-weaker, QueueKept, Some, state_of, sym, ◌∙◌}
use Rattle.audit_serial.proofs.serials.Serials.act.Goals as goal

pub returns-in-Some-clause-is : goal.returns-in-Some-clause-is
returns-in-Some-clause-is c w committed time =
    let m = c.args.self.now in
    let d = m.configured.table in
    let s = state_of m in
    let known = sym c.sent_by.ensures ∙ c.in-Some.is in
    IfOk-weaker c.end_sending.result _ _ (λ told e. e ∙ sym (ap (act_by d w s c.args.call) known)) (c.end_sending.ensures.is w time)

pub returns-in_ok-told-in-None-clause-is : goal.returns-in_ok-told-in-None-clause-is
returns-in_ok-told-in-None-clause-is c w committed time =
    let m = c.args.self.now in
    let d = m.configured.table in
    let s = state_of m in
    ap (λ x. Some x) c.in_ok-told-in-None.ensures.is ∙ sym (ap (act_by d w s c.args.call) (sym c.sent_by.ensures ∙ c.in-None.is))

pub returns-in-Some-clause-events : goal.returns-in-Some-clause-events
returns-in-Some-clause-events c =
    IfOk-weaker c.end_sending.result _ _ (λ told e. let same = ap (λ (q : QueueKept). q.events) e in omega (arith, same)) c.end_sending.ensures.queue
