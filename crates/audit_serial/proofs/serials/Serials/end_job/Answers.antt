use Rattle.audit_serial.proofs.Terms.{ap, IfOk-weaker, option_map, outcome, over_by, pending_as, state_of, sym, ◌∙◌}
use Rattle.audit_serial.proofs.serials.Serials.end_job.Goals as goal

pub returns-in-Some-clause-is : goal.returns-in-Some-clause-is
returns-in-Some-clause-is c =
    let m = c.args.self.now in
    let d = m.configured.table in
    let s = state_of m in
    IfOk-weaker c.end_job_of.result _ _ (λ told e. e ∙ sym (ap (λ o. over_by d s c.args.failed (option_map pending_as o)) c.in-Some.is)) c.end_job_of.ensures.is

pub returns-in-None-clause-is : goal.returns-in-None-clause-is
returns-in-None-clause-is c =
    let m = c.args.self.now in
    let d = m.configured.table in
    let s = state_of m in
    ap (λ t. outcome s t) c.nothing.ensures ∙ sym (ap (λ o. over_by d s c.args.failed (option_map pending_as o)) c.in-None.is)
