use Rattle.audit_converters.proofs.Terms.{AdcState, all_groups, from_group, group_of, is_on, is_under_way, list_any, Stands, ◌&&◌, ◌≡◌}
use Rattle.audit_converters.proofs.groups.Groups.is_taken.Given as goal

abbrev pub invariant-loop-group : goal.invariant-loop-group
invariant-loop-group l = (s : AdcState) → Stands l.self s → list_any (λ g. is_on l.unit (group_of l.table g) && is_under_way s g) all_groups ≡ list_any (λ g. is_on l.unit (group_of l.table g) && is_under_way s g) (from_group l.group)
