use Rattle.audit_serial.proofs.Terms.{ap, begins, carries_job, Carrying, Configured, false, further_job, IfOk, IfOk-weaker, job_done, pending_as, sent_on, SpiState, state_of, subst, sym, ◌∙◌, ◌≡◌}
use Rattle.audit_serial.proofs.serials.Serials.send_taken.Goals as goal

pub following-next-requires : goal.following-next-requires
following-next-requires c =
    further_job c.args.self.now.configured.table (record { entry = pending_as c.args.entry; run = c.args.run }) c.requires (sym c.goes_on.ensures ∙ c.if-goes_on.false)

pub returns-then-goes_on-clause-is : goal.returns-then-goes_on-clause-is
returns-then-goes_on-clause-is c w time =
    let m = c.args.self.now in
    subst (λ b. IfOk c.send_same.result (λ x. begins (state_of c.send_same.new.self) x ≡ sent_on m.configured.table w (state_of m) c.args.unit c.args.received (record { entry = pending_as c.args.entry; run = c.args.run }) b))
    (sym c.if-goes_on.true ∙ c.goes_on.ensures) (c.send_same.ensures.is w time)

pub returns-in_ok-finish_job-clause-is : goal.returns-in_ok-finish_job-clause-is
returns-in_ok-finish_job-clause-is c w time =
    let m = c.args.self.now in
    let d = m.configured.table in
    let s = state_of m in
    let x : Carrying = record { entry = pending_as c.args.entry; run = c.args.run } in
    let u = c.args.unit in
    let n = c.args.received in
    IfOk-weaker c.carry_job.result _ _ (λ b e.
    e
    ∙ (ap (λ (k : Configured). carries_job k.table w (state_of c.finish_job.new.self) u n (pending_as c.following-next.result)) c.finish_job.ensures.table
    ∙ (ap (λ (t : SpiState). carries_job d w t u n (pending_as c.following-next.result)) c.in_ok-finish_job.ensures.state
    ∙ (ap (λ p. carries_job d w (job_done d s x false) u n p) c.following-next.ensures
    ∙ ap (λ b. sent_on d w s u n x b) (sym c.if-goes_on.false ∙ c.goes_on.ensures))))) (c.carry_job.ensures.is w time)
