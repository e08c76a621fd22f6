use Rattle.std.proofs.Common.{ap, ◌∙◌, is_some, not}
use Rattle.mcal_base.specs.det_errors.Rows.{first_error}
use Rattle.module_machines.specs.wdg.Checks.{service_of, facts_by}
use Rattle.audit_clock.specs.WatchdogKept.{WatchdogKept}
use Rattle.audit_clock.proofs.watchdog.Watchdog.error.Goals as goal

pub returns : goal.returns
returns c =
    let call = c.args.call in
    c.first_error.ensures
    ∙ (ap (λ x. first_error x c.facts-facts.result.holds) c.service.ensures
    ∙ (ap (λ hs. first_error (service_of call) hs) c.facts-facts.ensures
    ∙ (ap (λ q. first_error (service_of call) (facts_by c.self.inside.driver call q)) c.is_off.ensures
    ∙ ap (λ (k : WatchdogKept). first_error (service_of call) (facts_by k.driver call (not (is_some c.args.self.now.state.mode)))) c.self.view_is)))
