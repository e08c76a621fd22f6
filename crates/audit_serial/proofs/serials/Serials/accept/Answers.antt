use Rattle.audit_serial.proofs.Terms.{all_get, ap, Configured, IfOk-weaker, jobs_of, SpiJobQueued, SpiSeqOk, SpiSeqPending, SpiState, state_of, with_item, ◌∙◌}
use Rattle.audit_serial.proofs.serials.Serials.accept.Goals as goal

pub returns-clause-state : goal.returns-clause-state
returns-clause-state c =
    let d = c.args.self.now.configured.table in
    let q = c.args.sequence in
    IfOk-weaker c.queue_jobs.result _ _ (λ x e.
    e
    ∙ (ap (λ (k : Configured). record (state_of c.set_sequence.new.self) { job_results = all_get SpiJobQueued (jobs_of k.table q) (state_of c.set_sequence.new.self).job_results }) (c.set_sequence.ensures.table ∙ c.push.ensures.table)
    ∙ (ap (λ (t : SpiState). record t { job_results = all_get SpiJobQueued (jobs_of d q) t.job_results }) c.in_ok-set_sequence.ensures.state
    ∙ ap (λ (t : SpiState). record t { sequence_results = with_item SpiSeqOk t.sequence_results q SpiSeqPending; job_results = all_get SpiJobQueued (jobs_of d q) t.job_results }) c.in_ok-push.ensures.state))) c.queue_jobs.ensures.state
