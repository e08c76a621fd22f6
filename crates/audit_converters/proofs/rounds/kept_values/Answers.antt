use Rattle.audit_converters.proofs.Terms.{ap, cond, ended_values, group_of, round_as, sym, [], ◌∙◌}
use Rattle.audit_converters.proofs.rounds.kept_values.Goals as goal

pub returns-then-suspends : goal.returns-then-suspends
returns-then-suspends c w at took =
    let k = group_of c.args.table.now c.args.round.group in
    c.ended_values.ensures w at took ∙ sym (ap (λ b. cond b (ended_values w k (round_as c.args.round)) []) (sym c.suspends.ensures ∙ c.if-suspends.true))

pub returns-else-suspends : goal.returns-else-suspends
returns-else-suspends c w at took =
    let k = group_of c.args.table.now c.args.round.group in
    sym (ap (λ b. cond b (ended_values w k (round_as c.args.round)) []) (sym c.suspends.ensures ∙ c.if-suspends.false))
