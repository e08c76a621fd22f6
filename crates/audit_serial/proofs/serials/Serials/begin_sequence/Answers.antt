use Rattle.audit_serial.proofs.Terms.{all_get, ap, carries_job, Configured, IfOk-weaker, jobs_of, pending_as, sequence_begun, SpiJobQueued, SpiState, state_of, ◌∙◌, ◌≡◌}
use Rattle.audit_serial.proofs.serials.Serials.begin_sequence.Goals as goal

pub returns-clause-is : goal.returns-clause-is
returns-clause-is c w time =
    let m = c.args.self.now in
    let d = m.configured.table in
    let s = state_of m in
    let q = c.args.sequence in
    let table = c.queue_jobs.ensures.table ∙ c.set_sequence.ensures.table in
    let begun_now : state_of c.queue_jobs.new.self ≡ sequence_begun d s q =
    c.in_ok-queue_jobs.ensures.state
    ∙ (ap (λ (k : Configured). record (state_of c.set_sequence.new.self) { job_results = all_get SpiJobQueued (jobs_of k.table q) (state_of c.set_sequence.new.self).job_results }) c.set_sequence.ensures.table
    ∙ ap (λ (t : SpiState). record t { job_results = all_get SpiJobQueued (jobs_of d q) t.job_results }) c.in_ok-set_sequence.ensures.state) in
    IfOk-weaker c.carry_job.result _ _ (λ b e.
    e
    ∙ (ap (λ (k : Configured). carries_job k.table w (state_of c.queue_jobs.new.self) c.args.unit c.args.received (pending_as c.requested-entry.result)) table
    ∙ (ap (λ (t : SpiState). carries_job d w t c.args.unit c.args.received (pending_as c.requested-entry.result)) begun_now
    ∙ ap (λ p. carries_job d w (sequence_begun d s q) c.args.unit c.args.received p) c.requested-entry.ensures))) (c.carry_job.ensures.is w time)
