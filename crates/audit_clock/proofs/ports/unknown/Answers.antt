use Rattle.std.proofs.Common.{ap, ◌∙◌, []}
use Rattle.mcal_base.specs.det_errors.Rows.{first_error}
use Rattle.run_model.specs.Machine.{answers, tells_error}
use Rattle.module_machines.specs.dio.Checks.{answer_refused, unknown}
use Rattle.audit_clock.proofs.ports.unknown.Goals as goal

pub returns-in-Some : goal.returns-in-Some
returns-in-Some c =
    c.with_error.ensures
    ∙ ap (λ a. tells_error a c.in-Some.error) c.refused-answer.ensures
    ∙ ap (λ e. record { answer = answer_refused c.args.call; error = e; notices = [] }) (c.in-Some.ensures ∙ ap (λ x. first_error x unknown) c.service.ensures)

pub returns-in-None : goal.returns-in-None
returns-in-None c =
    c.with_answer.ensures
    ∙ ap answers c.refused-answer.ensures
    ∙ ap (λ e. record { answer = answer_refused c.args.call; error = e; notices = [] }) (c.in-None.ensures ∙ ap (λ x. first_error x unknown) c.service.ensures)
