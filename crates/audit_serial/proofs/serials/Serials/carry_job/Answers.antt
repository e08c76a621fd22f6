use Rattle.audit_serial.proofs.Terms.{[], ap, begun, carries_on, Configured, IfOk-weaker, job_begun, job_words, next_job, pending_as, SpiJobOk, SpiJobPending, SpiState, state_of, sym, with_item, ◌∙◌, ◌≡◌}
use Rattle.audit_serial.proofs.serials.Serials.carry_job.Goals as goal

pub returns-clause-is : goal.returns-clause-is
returns-clause-is c w time =
    let m = c.args.self.now in
    let d = m.configured.table in
    let s = state_of m in
    let p = pending_as c.args.entry in
    let n = c.args.received in
    let job = c.next_job-job.ensures in
    let begun_now : state_of c.set_job.new.self ≡ job_begun d s p =
    c.in_ok-set_job.ensures.state ∙ ap (λ j. record s { job_results = with_item SpiJobOk s.job_results j SpiJobPending }) job in
    let words : job_words c.set_job.new.self.configured.table (state_of c.set_job.new.self) c.next_job-job.result ≡ job_words d s (next_job d p) =
    ap (λ (k : Configured). job_words k.table (state_of c.set_job.new.self) c.next_job-job.result) c.set_job.ensures.table
    ∙ (ap (λ (t : SpiState). job_words d t c.next_job-job.result) begun_now ∙ ap (job_words d s) job) in
    let run = c.in_ok-run.ensures ∙ (ap (λ ws. begun c.args.now n p.sequence ws []) words ∙ ap (λ t. begun t n p.sequence (job_words d s (next_job d p)) []) (sym time)) in
    IfOk-weaker c.carry_on.result _ _ (λ b e.
    e
    ∙ (ap (λ (k : Configured). carries_on k.table (state_of c.set_job.new.self) c.args.unit n p c.in_ok-run.run') c.set_job.ensures.table
    ∙ (ap (λ (t : SpiState). carries_on d t c.args.unit n p c.in_ok-run.run') begun_now
    ∙ ap (λ r. carries_on d (job_begun d s p) c.args.unit n p r) run))) c.carry_on.ensures.is
