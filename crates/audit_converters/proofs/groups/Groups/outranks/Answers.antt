use Rattle.audit_converters.proofs.Terms.{ap, nat_lt, rank_of, waits_for, ◌&&◌, ◌∙◌}
use Rattle.audit_converters.proofs.groups.Groups.outranks.Goals as goal

pub returns : goal.returns
returns c s h =
    let d = c.args.table.now in
    let o = c.args.other in
    c.both.ensures
    ∙ (ap (λ b. b && nat_lt c.rank-own.result c.rank-its.result) (c.waits_for-waits.ensures s h)
    ∙ (ap (λ n. waits_for d s c.args.unit o && nat_lt n c.rank-its.result) c.rank-own.ensures
    ∙ ap (λ n. waits_for d s c.args.unit o && nat_lt (rank_of d c.args.group) n) c.rank-its.ensures))
