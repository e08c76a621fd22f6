use Rattle.std.proofs.Common.{ap, ◌∙◌, not}
use Rattle.mcal_base.specs.det_errors.Rows.{first_error}
use Rattle.module_machines.specs.pwm.Checks.{service_of, facts_by}
use Rattle.audit_pulses.specs.Stands.{Kept}
use Rattle.audit_pulses.proofs.pulses.Pulses.error.Goals as goal

pub returns : goal.returns
returns c =
    let call = c.args.call in
    c.first_error.ensures
    ∙ (ap (λ x. first_error x c.facts-facts.result.holds) c.service.ensures
    ∙ (ap (λ hs. first_error (service_of call) hs) c.facts-facts.ensures
    ∙ ap (λ (k : Kept). first_error (service_of call) (facts_by k.driver call (not k.state.initialised))) c.self.view_is))
