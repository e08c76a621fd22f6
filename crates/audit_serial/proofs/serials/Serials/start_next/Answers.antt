use Rattle.audit_serial.proofs.Terms.{ap, option_map, pending_as, Some, start_by, state_of, sym, ◌∙◌}
use Rattle.audit_serial.proofs.serials.Serials.start_next.Goals as goal

pub returns-in_ok-begun-in-Some-clause-is : goal.returns-in_ok-begun-in-Some-clause-is
returns-in_ok-begun-in-Some-clause-is c w time =
    let m = c.args.self.now in
    let known = sym (ap (option_map pending_as) c.in-Some.is) ∙ c.next_on.ensures in
    ap (λ x. Some x) (c.in_ok-begun-in-Some.ensures.is w time) ∙ ap (λ o. start_by m.configured.table w (state_of m) (Some c.args.unit) c.args.received o) known

pub returns-in-None-clause-is : goal.returns-in-None-clause-is
returns-in-None-clause-is c w time =
    let m = c.args.self.now in
    let known = sym (ap (option_map pending_as) c.in-None.is) ∙ c.next_on.ensures in
    ap (λ o. start_by m.configured.table w (state_of m) (Some c.args.unit) c.args.received o) known
