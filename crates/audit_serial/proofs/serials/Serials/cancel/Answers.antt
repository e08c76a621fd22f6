use Rattle.audit_serial.proofs.Terms.{ap, cancelled, IfOk-weaker, option_map, outcome, pending_as, state_of, sym, ◌∙◌}
use Rattle.audit_serial.proofs.serials.Serials.cancel.Goals as goal

pub returns-in-Some-clause-is : goal.returns-in-Some-clause-is
returns-in-Some-clause-is c =
    let m = c.args.self.now in
    let d = m.configured.table in
    let s = state_of m in
    IfOk-weaker c.cancel_pending.result _ _ (λ told e. e ∙ ap (cancelled d s) (sym (ap (option_map pending_as) c.in-Some.is) ∙ c.find.ensures)) c.cancel_pending.ensures.is

pub returns-in-None-clause-is : goal.returns-in-None-clause-is
returns-in-None-clause-is c =
    let m = c.args.self.now in
    let d = m.configured.table in
    let s = state_of m in
    ap (λ t. outcome s t) c.nothing.ensures ∙ ap (cancelled d s) (sym (ap (option_map pending_as) c.in-None.is) ∙ c.find.ensures)
