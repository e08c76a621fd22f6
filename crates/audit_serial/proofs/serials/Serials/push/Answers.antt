use Rattle.audit_serial.proofs.Terms.{[], ap, IfOk-weaker, job_result, map, requested, state_by, state_of, ◌++◌, ◌+◌, ◌∙◌, ◌∷◌}
use Rattle.audit_serial.proofs.serials.Serials.push.Goals as goal

pub returns-clause-state : goal.returns-clause-state
returns-clause-state c =
    let m = c.args.self.now in
    let q = c.args.sequence in
    IfOk-weaker c.request.result _ _ (λ _ e.
    ap (λ k. state_by m.mode m.channels m.job_results.items m.sequence_results.items k m.units) e
    ∙ (ap (λ rs. record (state_of m) { pending = m.queue.entries ++ requested q (m.queue.requests + 1) (map (job_result rs) c.jobs_listed.result.now) ∷ []; requests = m.queue.requests + 1 }) c.deref.ensures.value
    ∙ ap (λ js. record (state_of m) { pending = m.queue.entries ++ requested q (m.queue.requests + 1) (map (job_result m.job_results.items) js) ∷ []; requests = m.queue.requests + 1 }) (c.jobs_listed.ensures.is ∙ c.job_list-list.ensures))) c.request.ensures
