use Rattle.audit_serial.proofs.Terms.{[], ap, begins_on, begun, Configured, IfOk-weaker, job_started, job_words, next_job, pending_as, Some, SpiJobOk, SpiJobPending, SpiState, state_by, state_of, sym, with_item, ◌∙◌, ◌≡◌}
use Rattle.audit_serial.proofs.serials.Serials.start_job.Goals as goal

pub returns-clause-is : goal.returns-clause-is
returns-clause-is c w time =
    let m = c.args.self.now in
    let d = m.configured.table in
    let s = state_of m in
    let p = pending_as c.args.entry in
    let n = c.args.received in
    let job = c.next_job-job.ensures in
    let queue = ap (λ q. state_by m.mode m.channels m.job_results.items m.sequence_results.items q m.units) c.change.ensures in
    let started_now : state_of c.set_job.new.self ≡ job_started d s p =
    c.in_ok-set_job.ensures.state
    ∙ (ap (λ (t : SpiState). record t { job_results = with_item SpiJobOk t.job_results c.next_job-job.result SpiJobPending }) queue
    ∙ ap (λ j. record (job_started d s p) { job_results = with_item SpiJobOk s.job_results j SpiJobPending }) job) in
    let words : job_words c.set_job.new.self.configured.table (state_of c.set_job.new.self) c.next_job-job.result ≡ job_words d s (next_job d p) =
    ap (λ (k : Configured). job_words k.table (state_of c.set_job.new.self) c.next_job-job.result) c.set_job.ensures.table
    ∙ (ap (λ (t : SpiState). job_words d t c.next_job-job.result) started_now ∙ ap (job_words d s) job) in
    let run = c.in_ok-run.ensures ∙ (ap (λ ws. begun c.args.now n p.sequence ws []) words ∙ ap (λ t. begun t n p.sequence (job_words d s (next_job d p)) []) (sym time)) in
    IfOk-weaker c.begin_word.result _ _ (λ b e.
    e
    ∙ (ap (λ (k : Configured). begins_on k.table (state_of c.set_job.new.self) c.args.unit n (Some p) c.in_ok-run.run') c.set_job.ensures.table
    ∙ (ap (λ (t : SpiState). begins_on d t c.args.unit n (Some p) c.in_ok-run.run') started_now
    ∙ ap (λ r. begins_on d (job_started d s p) c.args.unit n (Some p) r) run))) c.begin_word.ensures.is
