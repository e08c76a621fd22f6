use Rattle.audit_converters.proofs.Terms.{ap, arith, ended_fits, group_of, inputs_left, levels_from, min, round_as, sym, take, take_within, ◌++◌, ◌-◌, ◌/◌, ◌∙◌}
use Rattle.audit_converters.proofs.rounds.ended_values.Goals as goal

pub values_with-requires : goal.values_with-requires
values_with-requires c =
    let e = c.min-ended.ensures in
    record { few = omega (arith, e, c.left-rest.ensures.is); time = ended_fits c.args.round.start c.args.now c.min-ended.result c.saturating_sub-passed.result c.left-rest.result c.saturating_sub-passed.ensures e (omega arith) (omega arith) }

pub returns : goal.returns
returns c w at took =
    let r = round_as c.args.round in
    let left = inputs_left (group_of c.args.table.now c.args.round.group) r in
    c.values_with.ensures w took
    ∙ ap (λ xs. r.request.kept ++ levels_from w.samples r.start xs)
    (ap (λ n. take n left) (c.min-ended.ensures ∙ (ap (λ n. min (n / 4) c.left-rest.result) (c.saturating_sub-passed.ensures ∙ ap (λ n. n - r.start) (sym at)) ∙ ap (min ((w.now - r.start) / 4)) c.left-rest.ensures.is))
    ∙ take_within ((w.now - r.start) / 4) left)
