use Rattle.audit_serial.proofs.Terms.{after_last, after_results, ap, IfOk-weaker, next_job, pending_as, SpiJobOk, SpiState, state_of, with_item, ◌∙◌}
use Rattle.audit_serial.proofs.serials.Serials.finish_job.Goals as goal

pub returns-clause-state : goal.returns-clause-state
returns-clause-state c =
    let m = c.args.self.now in
    let d = m.configured.table in
    let s = state_of m in
    let p = pending_as c.args.entry in
    let f = c.args.failed in
    IfOk-weaker c.set_job.result _ _ (λ _ e.
    e
    ∙ (ap (λ (t : SpiState). record t { job_results = with_item SpiJobOk t.job_results c.next_job-job.result c.job_result.result }) c.in_ok-take_last.ensures.state
    ∙ (ap (λ rs. record (after_last s c.args.run f) { job_results = with_item SpiJobOk rs c.next_job-job.result c.job_result.result }) (after_results s c.args.run f)
    ∙ (ap (λ j. record (after_last s c.args.run f) { job_results = with_item SpiJobOk s.job_results j c.job_result.result }) c.next_job-job.ensures
    ∙ ap (λ r. record (after_last s c.args.run f) { job_results = with_item SpiJobOk s.job_results (next_job d p) r }) c.job_result.ensures)))) c.set_job.ensures.state
