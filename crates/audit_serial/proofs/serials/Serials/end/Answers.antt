use Rattle.audit_serial.proofs.Terms.{ap, Configured, given_back, IfOk-weaker, pending_as, SpiSeqOk, SpiState, state_by, state_of, with_item, ◌∙◌}
use Rattle.audit_serial.proofs.serials.Serials.end.Goals as goal

pub returns-clause-state : goal.returns-clause-state
returns-clause-state c =
    let m = c.args.self.now in
    let d = m.configured.table in
    let p = pending_as c.args.entry in
    let n = c.args.from in
    let removed = ap (λ q. state_by m.mode m.channels m.job_results.items m.sequence_results.items q m.units) c.remove.ensures in
    IfOk-weaker c.restore_jobs.result _ _ (λ x e.
    e
    ∙ (ap (λ (k : Configured). record (state_of c.set_sequence.new.self) { job_results = given_back k.table p n (state_of c.set_sequence.new.self).job_results }) c.set_sequence.ensures.table
    ∙ (ap (λ (t : SpiState). record t { job_results = given_back d p n t.job_results }) c.in_ok-set_sequence.ensures.state
    ∙ ap (λ (t : SpiState). record t { sequence_results = with_item SpiSeqOk t.sequence_results p.sequence c.args.name; job_results = given_back d p n t.job_results }) removed))) c.restore_jobs.ensures.state
