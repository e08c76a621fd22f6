use Rattle.audit_serial.proofs.Terms.{ap, append-nil, changed, ended, gives, goes_to_next, job_notice, next_job, option_to_list, outcome, pending_as, sequence_after, SpiState, state_by, state_of, sym, ◌++◌, ◌+◌, ◌∙◌}
use Rattle.audit_serial.proofs.serials.Serials.go_past.Goals as goal

pub returns-in_ok-end-in-Some-clause-is : goal.returns-in_ok-end-in-Some-clause-is
returns-in_ok-end-in-Some-clause-is c =
    let m = c.args.self.now in
    let d = m.configured.table in
    let s = state_of m in
    let p = pending_as c.args.entry in
    let first = c.job_notice-first.ensures ∙ ap (job_notice d) c.next_job.ensures in
    let told =
    c.with_notices.ensures
    ∙ ap gives
    (c.both_notices.ensures
    ∙ (ap (λ ns. ns ++ option_to_list c.sequence_notice-second.result) first ∙ ap (λ ns. job_notice d (next_job d p) ++ ns) c.sequence_notice-second.ensures)) in
    ap (λ (t : SpiState). outcome t c.with_notices.result) c.in_ok-end-in-Some.ensures.state
    ∙ (ap (λ t. outcome (ended d s p (p.next + 1) c.in-Some.name) t) told ∙ sym (ap (sequence_after d s p) c.in-Some.is))

pub returns-in-None-clause-is : goal.returns-in-None-clause-is
returns-in-None-clause-is c =
    let m = c.args.self.now in
    let d = m.configured.table in
    let s = state_of m in
    let p = pending_as c.args.entry in
    let first = c.job_notice-first.ensures ∙ ap (job_notice d) c.next_job.ensures in
    let told = c.with_notices-in-None.ensures ∙ ap gives (c.both_notices-in-None.ensures ∙ (append-nil (option_to_list c.job_notice-first.result) ∙ first)) in
    ap (λ q. outcome (state_by m.mode m.channels m.job_results.items m.sequence_results.items q m.units) c.with_notices-in-None.result) c.change.ensures
    ∙ (ap (λ t. outcome (record s { pending = changed p.sequence goes_to_next s.pending }) t) told ∙ sym (ap (sequence_after d s p) c.in-None.is))
