use Rattle.audit_converters.proofs.Terms.{listed, None, Some, Stands, subst, with_round, with_waiting}
use Rattle.audit_converters.proofs.groups.Groups.abort_round.Goals as goal

pub returns-clause-is : goal.returns-clause-is
returns-clause-is c w s at took h =
    let r = c.args.round in
    subst (λ vs. Stands c.set_round.new.self (with_round (with_waiting s r.group (Some (record { number = r.request.number; kept = vs }))) c.args.unit None)) (c.kept_values.ensures w at took)
    (c.set_round.ensures.is (with_waiting s r.group (Some (record { number = r.request.number; kept = listed c.kept_values.result }))) (c.set_waiting.ensures.is s h))
