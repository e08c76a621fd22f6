use Rattle.audit_serial.proofs.Terms.{all_get, ap, IfOk-weaker, SpiJobQueued, state_by, ◌∙◌}
use Rattle.audit_serial.proofs.serials.Serials.queue_jobs.Goals as goal

pub returns-clause-state : goal.returns-clause-state
returns-clause-state c =
    let m = c.args.self.now in
    IfOk-weaker c.all_get.result _ _ (λ _ e.
    ap (λ js. state_by m.mode m.channels js m.sequence_results.items m.queue m.units)
    (e ∙ ap (λ ks. all_get SpiJobQueued ks m.job_results.items) (c.jobs_listed.ensures.is ∙ c.job_list-list.ensures))) c.all_get.ensures
