use Rattle.audit_serial.proofs.Terms.{after_last, ap, Configured, find, IfOk-weaker, is_of, option_map, over_by, pending_as, SpiState, state_of, ◌∙◌}
use Rattle.audit_serial.proofs.serials.Serials.end_run.Goals as goal

pub returns-clause-is : goal.returns-clause-is
returns-clause-is c w u n =
    let m = c.args.self.now in
    let d = m.configured.table in
    let s = state_of m in
    let run = c.args.run in
    let f = c.has_failed-failed.result in
    let o = option_map pending_as c.find-entry.result in
    let entry = c.find-entry.ensures ∙ ap (λ q. find (is_of q) s.pending) c.sequence.ensures in
    IfOk-weaker c.end_job.result _ _ (λ told e.
    e
    ∙ (ap (λ (k : Configured). over_by k.table (state_of c.take_last.new.self) f o) c.take_last.ensures.table
    ∙ (ap (λ (t : SpiState). over_by d t f o) c.in_ok-take_last.ensures.state
    ∙ (ap (λ b. over_by d (after_last s run b) b o) c.has_failed-failed.ensures
    ∙ ap (λ p. over_by d (after_last s run run.transfer.failed) run.transfer.failed p) entry)))) c.end_job.ensures.is
