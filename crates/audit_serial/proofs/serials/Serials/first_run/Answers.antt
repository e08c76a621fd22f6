use Rattle.audit_serial.proofs.Terms.{[], ap, begun, ◌∙◌}
use Rattle.audit_serial.proofs.serials.Serials.first_run.Goals as goal

pub returns : goal.returns
returns c =
    c.begun.ensures ∙ ap (λ ws. begun c.args.now c.args.received c.args.sequence ws []) c.in_ok-words.ensures
