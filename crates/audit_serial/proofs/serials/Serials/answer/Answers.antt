use Rattle.audit_serial.proofs.Terms.{acts_by, ap, IfOk-weaker, outcome, state_of, sym, tells_error, ◌∙◌}
use Rattle.audit_serial.proofs.serials.Serials.answer.Goals as goal

pub returns-in-Some-clause-is : goal.returns-in-Some-clause-is
returns-in-Some-clause-is c =
    let m = c.args.self.now in
    let d = m.configured.table in
    let s = state_of m in
    ap (λ t. outcome s t) (c.with_error.ensures ∙ ap (λ a. tells_error a c.in-Some.error) c.refused.ensures)
    ∙ sym (ap (acts_by d s c.args.call) (sym c.error.ensures ∙ c.in-Some.is))

pub returns-in-None-clause-is : goal.returns-in-None-clause-is
returns-in-None-clause-is c =
    let m = c.args.self.now in
    let d = m.configured.table in
    let s = state_of m in
    IfOk-weaker c.work.result _ _ (λ told e. e ∙ sym (ap (acts_by d s c.args.call) (sym c.error.ensures ∙ c.in-None.is))) c.work.ensures.is
