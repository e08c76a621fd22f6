use Rattle.audit_converters.proofs.Terms.{AdcState, all_groups, from_group, list_any, nat_lt, rank_of, Stands, waits_for, ◌&&◌, ◌≡◌}
use Rattle.audit_converters.proofs.groups.Groups.is_outranked.Given as goal

abbrev pub invariant-loop-other : goal.invariant-loop-other
invariant-loop-other l = (s : AdcState) → Stands l.self s → list_any (λ o. waits_for l.table s l.unit o && nat_lt (rank_of l.table l.group) (rank_of l.table o)) all_groups ≡ list_any (λ o. waits_for l.table s l.unit o && nat_lt (rank_of l.table l.group) (rank_of l.table o)) (from_group l.other)
