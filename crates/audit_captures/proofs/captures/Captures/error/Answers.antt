use Rattle.std.proofs.Common.{ap, ◌∙◌, not}
use Rattle.mcal_base.specs.det_errors.Rows.{first_error}
use Rattle.module_machines.specs.icu.Checks.{service_of, facts_by}
use Rattle.module_machines.specs.icu.Machine.{is_on}
use Rattle.audit_captures.specs.Stands.{CapturesKept}
use Rattle.audit_captures.proofs.captures.Captures.error.Goals as goal

pub returns : goal.returns
returns c s h =
    let call = c.args.call in
    c.first_error.ensures
    ∙ (ap (λ x. first_error x c.facts-facts.result.holds) c.service.ensures
    ∙ (ap (λ hs. first_error (service_of call) hs) c.facts-facts.ensures
    ∙ (ap (λ q. first_error (service_of call) (facts_by c.self.inside.driver call (not c.self.inside.initialised) q)) (c.is_on.ensures s h)
    ∙ (ap (λ (k : CapturesKept). first_error (service_of call) (facts_by k.driver call (not k.initialised) (is_on s call))) c.self.view_is
    ∙ ap (λ q. first_error (service_of call) (facts_by c.args.self.now.driver call (not q) (is_on s call))) h.initialised))))
