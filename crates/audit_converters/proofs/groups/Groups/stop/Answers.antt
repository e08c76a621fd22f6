use Rattle.audit_converters.proofs.Terms.{ap, false, group_at, GroupKept, with_group, without_turn}
use Rattle.adc_machine.specs.Groups.{Idle}
use Rattle.audit_converters.proofs.groups.Groups.stop.Goals as goal

pub returns-clause-is : goal.returns-clause-is
returns-clause-is c s h =
    let g = c.args.group in
    let x = record (group_at s g) { status = Idle; notification = false } in
    let quiet = with_group s g x in
    c.switch_off.ensures.is (without_turn quiet g) (c.drop_turn.ensures.is quiet (c.set.ensures.is s x h (ap (λ (y : GroupKept). record y { status = Idle; notification = false }) (c.at-found.ensures.is s h))))
