use Rattle.audit_serial.proofs.Terms.{ap, Configured, IfOk-weaker, next_job, pending_as, result_by, sequence_after, SpiJobOk, SpiState, state_of, with_item, ◌∙◌}
use Rattle.audit_serial.proofs.serials.Serials.end_job_of.Goals as goal

pub returns-clause-is : goal.returns-clause-is
returns-clause-is c =
    let m = c.args.self.now in
    let d = m.configured.table in
    let s = state_of m in
    let p = pending_as c.args.entry in
    let f = c.args.failed in
    let ends = c.ends_by-ends.result in
    let after =
    c.in_ok-set_job.ensures.state
    ∙ (ap (λ j. record s { job_results = with_item SpiJobOk s.job_results j c.job_result.result }) c.next_job-job.ensures
    ∙ ap (λ r. record s { job_results = with_item SpiJobOk s.job_results (next_job d p) r }) c.job_result.ensures) in
    IfOk-weaker c.go_past.result _ _ (λ told e.
    e
    ∙ (ap (λ (k : Configured). sequence_after k.table (state_of c.set_job.new.self) p ends) c.set_job.ensures.table
    ∙ (ap (λ (t : SpiState). sequence_after d t p ends) after
    ∙ ap (λ o. sequence_after d (record s { job_results = with_item SpiJobOk s.job_results (next_job d p) (result_by f) }) p o) c.ends_by-ends.ensures))) c.go_past.ensures.is
