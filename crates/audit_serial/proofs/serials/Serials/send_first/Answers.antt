use Rattle.audit_serial.proofs.Terms.{ap, sent_first, Some, state_of, sym, ◌∙◌}
use Rattle.audit_serial.proofs.serials.Serials.send_first.Goals as goal

pub returns-in-Some-clause-is : goal.returns-in-Some-clause-is
returns-in-Some-clause-is c w time =
    let m = c.args.self.now in
    sym (ap (λ o. sent_first m.configured.table w (state_of m) c.args.unit c.args.received c.args.sequence o) (sym c.sending_error.ensures ∙ c.in-Some.is))

pub returns-in_ok-begun-in-None-clause-is : goal.returns-in_ok-begun-in-None-clause-is
returns-in_ok-begun-in-None-clause-is c w time =
    let m = c.args.self.now in
    ap (λ x. Some x) (c.in_ok-begun-in-None.ensures.is w time)
    ∙ sym (ap (λ o. sent_first m.configured.table w (state_of m) c.args.unit c.args.received c.args.sequence o) (sym c.sending_error.ensures ∙ c.in-None.is))
