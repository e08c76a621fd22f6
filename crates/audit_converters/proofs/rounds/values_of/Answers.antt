use Rattle.audit_converters.proofs.Terms.{ap, arith, finish_of, group_of, inputs_left, le_known, length, levels_from, round_as, take, take_all, ◌++◌, ◌∙◌}
use Rattle.audit_converters.proofs.rounds.values_of.Goals as goal

pub values_with-requires : goal.values_with-requires
values_with-requires c =
    let past = le_known (finish_of (group_of c.args.table.now c.args.round.group) (round_as c.args.round)) c.args.now c.requires in
    record { few = omega (arith, c.left-rest.ensures.is); time = omega (arith, c.left-rest.ensures.is, past) }

pub returns : goal.returns
returns c w took =
    let r = round_as c.args.round in
    let left = inputs_left (group_of c.args.table.now c.args.round.group) r in
    c.values_with.ensures w took
    ∙ ap (λ xs. r.request.kept ++ levels_from w.samples r.start xs) (ap (λ n. take n left) c.left-rest.ensures.is ∙ take_all (length left) left (omega arith))
