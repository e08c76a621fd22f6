use Rattle.audit_converters.proofs.Terms.{ap, group_at, GroupKept, nat_lt, number_in, rank_of, ◌&&◌, ◌==◌, ◌||◌, ◌∙◌}
use Rattle.audit_converters.proofs.groups.Groups.comes_before.Goals as goal

pub returns : goal.returns
returns c s h =
    let d = c.args.table.now in
    let g = c.args.group in
    let o = c.args.other in
    c.precedes.ensures
    ∙ (ap (λ n. nat_lt c.rank-2.result n || (n == c.rank-2.result && nat_lt c.number_in-number.result c.number_in-other_number.result)) c.rank.ensures
    ∙ (ap (λ n. nat_lt n (rank_of d g) || (rank_of d g == n && nat_lt c.number_in-number.result c.number_in-other_number.result)) c.rank-2.ensures
    ∙ (ap (λ n. nat_lt (rank_of d o) (rank_of d g) || (rank_of d g == rank_of d o && nat_lt n c.number_in-other_number.result)) (c.number_in-number.ensures ∙ ap (λ (x : GroupKept). number_in x.waiting) (c.at.ensures.is s h))
    ∙ ap (λ n. nat_lt (rank_of d o) (rank_of d g) || (rank_of d g == rank_of d o && nat_lt (number_in (group_at s g).waiting) n)) (c.number_in-other_number.ensures ∙ ap (λ (x : GroupKept). number_in x.waiting) (c.at-2.ensures.is s h)))))
