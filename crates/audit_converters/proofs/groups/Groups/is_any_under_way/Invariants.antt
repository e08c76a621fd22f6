use Rattle.audit_converters.proofs.Terms.{AdcState, all_groups, from_group, is_under_way, list_any, Stands, ◌≡◌}
use Rattle.audit_converters.proofs.groups.Groups.is_any_under_way.Given as goal

abbrev pub invariant-loop-group : goal.invariant-loop-group
invariant-loop-group l = (s : AdcState) → Stands l.self s → list_any (is_under_way s) all_groups ≡ list_any (is_under_way s) (from_group l.group)
