use Rattle.audit_serial.proofs.Terms.{ap, job_result, map, requested, ◌∙◌}
use Rattle.audit_serial.proofs.serials.Serials.requested.Goals as goal

pub returns : goal.returns
returns c =
    let m = c.args.self.now in
    let q = c.args.sequence in
    c.requested.ensures.is
    ∙ (ap (λ rs. requested q 0 (map (job_result rs) c.jobs_listed.result.now)) c.deref.ensures.value
    ∙ ap (λ js. requested q 0 (map (job_result m.job_results.items) js)) (c.jobs_listed.ensures.is ∙ c.job_list-list.ensures))
