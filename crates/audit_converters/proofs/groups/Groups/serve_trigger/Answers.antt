use Rattle.audit_converters.proofs.Terms.{false, requested_unless_turn, Stands, subst, with_mark}
use Rattle.audit_converters.proofs.groups.Groups.serve_trigger.Goals as goal

pub returns-clause-is : goal.returns-clause-is
returns-clause-is c s h =
    let m = with_mark s c.args.input false in
    subst (λ g. Stands c.request_unless_turn.new.self (requested_unless_turn m g)) (c.listener-listener.ensures s h) (c.request_unless_turn.ensures.is m (c.set_mark.ensures.is s h))
