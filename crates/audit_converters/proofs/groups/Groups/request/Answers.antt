use Rattle.audit_converters.proofs.Terms.{Some, Stands, subst, with_waiting, [], ◌+◌}
use Rattle.audit_converters.proofs.groups.Groups.request.Goals as goal

pub returns-clause-is : goal.returns-clause-is
returns-clause-is c s h =
    subst (λ n. Stands c.set_waiting.new.self (record (with_waiting s c.args.group (Some (record { number = n; kept = [] }))) { requests = s.requests + 1 })) (c.next_number-number.ensures.number s h)
    (c.set_waiting.ensures.is (record s { requests = s.requests + 1 }) (c.next_number-number.ensures.is s h))
