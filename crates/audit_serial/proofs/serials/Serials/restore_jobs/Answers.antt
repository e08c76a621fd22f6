use Rattle.audit_serial.proofs.Terms.{ap, drop, IfOk-weaker, jobs_of, state_by, with_results, ◌∙◌}
use Rattle.audit_serial.proofs.serials.Serials.restore_jobs.Goals as goal

pub returns-clause-state : goal.returns-clause-state
returns-clause-state c =
    let m = c.args.self.now in
    let n = c.args.from in
    IfOk-weaker c.give_back.result _ _ (λ x e.
    ap (λ js. state_by m.mode m.channels js m.sequence_results.items m.queue m.units)
    (e
    ∙ (ap (λ ks. with_results (drop n ks) (drop n c.results.result.now) m.job_results.items) (c.jobs_listed.ensures.is ∙ c.job_list-list.ensures)
    ∙ ap (λ xs. with_results (drop n (jobs_of m.configured.table c.args.entry.sequence)) (drop n xs) m.job_results.items) c.results.ensures))) c.give_back.ensures
