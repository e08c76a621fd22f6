use Rattle.audit_converters.proofs.Terms.{AdcState, from_group, listener, listener_among, Stands, ◌≡◌}
use Rattle.audit_converters.proofs.groups.Groups.listener.Given as goal

abbrev pub invariant-loop-group : goal.invariant-loop-group
invariant-loop-group l = (s : AdcState) → Stands l.self s → listener l.table s l.input ≡ listener_among l.table s l.input (from_group l.group)
