use Rattle.audit_converters.proofs.Terms.{ap, facts_by, first_error, service_of, ◌∙◌}
use Rattle.audit_converters.proofs.groups.Groups.error.Goals as goal

pub returns : goal.returns
returns c s h =
    let call = c.args.call in
    c.first_error.ensures
    ∙ (ap (λ x. first_error x c.facts-facts.result.holds) c.service.ensures
    ∙ (ap (λ hs. first_error (service_of call) hs) c.facts-facts.ensures
    ∙ ap (λ x. first_error (service_of call) (facts_by c.args.table.now call x)) (c.circumstances.ensures s h)))
