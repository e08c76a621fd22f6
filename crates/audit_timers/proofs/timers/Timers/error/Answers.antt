use Rattle.std.proofs.Common.{ap, ◌∙◌, sym, refl, false, []}
use Rattle.run_model.specs.World.{World}
use Rattle.mcal_base.specs.det_errors.Rows.{first_error}
use Rattle.module_machines.specs.gpt.Checks.{service_of, facts_by}
use Rattle.module_machines.specs.gpt.Machine.{is_off, is_asleep, is_busy}
use Rattle.audit_timers.specs.Stands.{Kept}
use Rattle.audit_timers.proofs.Errors.{takes-what}
use Rattle.audit_timers.proofs.timers.Timers.error.Goals as goal

pub returns-clause-is : goal.returns-clause-is
returns-clause-is c w at =
    let call = c.args.call in
    let d = c.args.self.now.driver in
    let s = c.args.self.now.state in
    c.first_error.ensures
    ∙ (ap (λ x. first_error x c.facts-facts.result.holds) c.service.ensures
    ∙ (ap (λ hs. first_error (service_of call) hs) c.facts-facts.ensures
    ∙ (ap (λ e. first_error (service_of call) (facts_by e call c.is_off.result c.is_asleep.result c.busy.result)) (ap (λ (k : Kept). k.driver) c.self.view_is)
    ∙ (ap (λ q. first_error (service_of call) (facts_by d call q c.is_asleep.result c.busy.result)) c.is_off.ensures
    ∙ (ap (λ q. first_error (service_of call) (facts_by d call (is_off s.mode) q c.busy.result)) c.is_asleep.ensures
    ∙ ap (λ q. first_error (service_of call) (facts_by d call (is_off s.mode) (is_asleep s.mode) q)) (c.busy.ensures w at))))))

pub returns-clause-takes : goal.returns-clause-takes
returns-clause-takes c e =
    let w : World = record { osc = 0; now = c.args.now; levels = λ p. false; samples = []; devices = 0 } in
    let s = c.args.self.now.state in
    takes-what c.args.self.now.driver c.args.call (is_off s.mode) (is_asleep s.mode) (is_busy c.args.self.now.driver w s c.args.call) (sym (returns-clause-is c w refl) ∙ e)
