use Rattle.audit_serial.proofs.Terms.{after_sequences, answers, ap, Carrying, Configured, given_back, job_done, named, outcome, pending_as, sent_free, sequence_over, sequence_result_by, SpiSeqOk, SpiState, state_of, with_item, ◌+◌, ◌∙◌, ◌≡◌}
use Rattle.audit_serial.proofs.serials.Serials.end_taken.Goals as goal

pub returns-clause-is : goal.returns-clause-is
returns-clause-is c =
    let m = c.args.self.now in
    let d = m.configured.table in
    let s = state_of m in
    let p = pending_as c.args.entry in
    let run = c.args.run in
    let x : Carrying = record { entry = p; run = run } in
    let f = c.has_failed-failed.result in
    let q = c.args.entry.sequence in
    let n = c.args.entry.next + 1 in
    let r = c.sequence_result.result in
    let done : SpiState = job_done d s x f in
    let second : state_of c.set_sequence.new.self ≡ record done { sequence_results = with_item SpiSeqOk done.sequence_results q r } =
    c.in_ok-set_sequence.ensures.state ∙ ap (λ (t : SpiState). record t { sequence_results = with_item SpiSeqOk t.sequence_results q r }) c.in_ok-finish_job.ensures.state in
    let third : state_of c.restore_jobs.new.self ≡ sequence_over d s x f =
    c.in_ok-restore_jobs.ensures.state
    ∙ (ap (λ (k : Configured). record (state_of c.set_sequence.new.self) { job_results = given_back k.table p n (state_of c.set_sequence.new.self).job_results }) (c.set_sequence.ensures.table ∙ c.finish_job.ensures.table)
    ∙ (ap (λ (t : SpiState). record t { job_results = given_back d p n t.job_results }) second
    ∙ (ap (λ a. record done { sequence_results = with_item SpiSeqOk done.sequence_results q a; job_results = given_back d p n done.job_results }) c.sequence_result.ensures
    ∙ ap (λ rs. record done { sequence_results = with_item SpiSeqOk rs q (sequence_result_by f); job_results = given_back d p n done.job_results }) (after_sequences s run f)))) in
    let told = c.with_answer.ensures ∙ ap answers (c.named.ensures ∙ ap named c.sending_answer.ensures) in
    ap (λ (t : SpiState). outcome t c.with_answer.result) third
    ∙ (ap (λ t. outcome (sequence_over d s x f) t) told ∙ ap (λ b. sent_free d s x b) c.has_failed-failed.ensures)
