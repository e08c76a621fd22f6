use Rattle.audit_converters.proofs.Terms.{AdcState, after_round, ap, group_at, group_of, GroupKept, is_continuous, is_full, length, listed, None, same_results, Stands, subst, with_group, with_round, with_round_of, with_values, ◌+◌, ◌∙◌}
use Rattle.audit_converters.proofs.groups.Groups.serve_round.Goals as goal

pub returns-clause-is : goal.returns-clause-is
returns-clause-is c s h =
    let d = c.args.table.now in
    let g = c.args.round.group in
    let k = group_of d g in
    let x = group_at s g in
    let vs = listed c.args.values in
    let free : AdcState = with_round s c.args.unit None in
    let ended : AdcState = with_group free g (with_values k x vs) in
    let results = with_round_of k (length x.rounds) g x.chosen vs s.results in
    let stored : AdcState = record ended { results = results } in
    subst (λ b. Stands c.after_round.new.self (after_round d stored g c.args.round.request.number b (is_continuous k))) (c.is_full-full.ensures ∙ ap (λ (y : GroupKept). is_full k (y.count + 1)) (c.at-found.ensures.is s h))
    (c.after_round.ensures.is stored (same_results c.end_round.new.self ended results (c.end_round.ensures.is free (c.set_round.ensures.is s h))))
