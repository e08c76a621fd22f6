use Rattle.std.proofs.Common.{ap, ◌∙◌, not}
use Rattle.mcal_base.specs.det_errors.Rows.{first_error}
use Rattle.module_machines.specs.mcu.Checks.{service_of, facts_by}
use Rattle.module_machines.specs.mcu.Machine.{is_locked}
use Rattle.audit_clock.specs.ClockStands.{ClockKept}
use Rattle.audit_clock.proofs.clock.Clock.error.Goals as goal

pub returns : goal.returns
returns c w at =
    let call = c.args.call in
    c.first_error.ensures
    ∙ (ap (λ x. first_error x c.facts-facts.result.holds) c.service.ensures
    ∙ (ap (λ hs. first_error (service_of call) hs) c.facts-facts.ensures
    ∙ (ap (λ q. first_error (service_of call) (facts_by c.self.inside.driver.table call (not c.self.inside.initialised) (not q))) (c.is_locked.ensures w at)
    ∙ ap (λ (k : ClockKept). first_error (service_of call) (facts_by k.driver call (not k.initialised) (not (is_locked w k.pll)))) c.self.view_is)))
