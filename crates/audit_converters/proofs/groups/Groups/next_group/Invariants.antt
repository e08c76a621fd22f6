use Rattle.audit_converters.proofs.Terms.{AdcState, from_group, next_among, Stands, ◌-◌, ◌≡◌}
use Rattle.audit_converters.proofs.groups.Groups.next_group.Given as goal

abbrev pub invariant-loop-place : goal.invariant-loop-place
invariant-loop-place l = (s : AdcState) → Stands l.self s → l.next ≡ next_among l.table s l.unit (from_group (16 - l.place))
