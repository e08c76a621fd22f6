use Rattle.audit_converters.proofs.Terms.{ap, arith, inputs_left, left_within, length, levels_from, levels_none, levels_past, listed, range_is, range_length, round_as, subst, sym, take, ◌++◌, ◌<◌, ◌∙◌, ◌≡◌, ◌≤◌}
use Rattle.audit_converters.proofs.rounds.values_with.Goals as goal

pub with_levels-requires : goal.with_levels-requires
with_levels-requires c =
    let r = round_as c.args.round in
    let k = c.in-Some.found.now in
    let inputs = c.as_slice-inputs.result.now in
    let had = c.len-had.result in
    let few = subst (λ o. c.args.ended ≤ length (inputs_left o r)) (sym c.in-Some.ensures) c.requires.few in
    let there : had < length inputs = omega (arith, c.if-from-count.true) in
    let within = left_within inputs k.inputs had (length r.request.kept) c.args.ended c.as_slice-inputs.ensures.items c.len-had.ensures.is there few in
    let size = range_length inputs had c.args.ended within in
    record { room = omega (arith, size, within, c.len-had.ensures.is, c.as_slice-inputs.ensures.within); time = omega (arith, size, c.requires.time) }

pub slice_bounds-with_levels-end : goal.slice_bounds-with_levels-end
slice_bounds-with_levels-end c =
    let r = round_as c.args.round in
    let k = c.in-Some.found.now in
    let inputs = c.as_slice-inputs.result.now in
    let had = c.len-had.result in
    let few = subst (λ o. c.args.ended ≤ length (inputs_left o r)) (sym c.in-Some.ensures) c.requires.few in
    let there : had < length inputs = omega (arith, c.if-from-count.true) in
    omega (arith, left_within inputs k.inputs had (length r.request.kept) c.args.ended c.as_slice-inputs.ensures.items c.len-had.ensures.is there few)

pub returns-then-from-count : goal.returns-then-from-count
returns-then-from-count c w took =
    let r = round_as c.args.round in
    let k = c.in-Some.found.now in
    subst (λ o. listed c.with_levels.result ≡ r.request.kept ++ levels_from w.samples r.start (take c.args.ended (inputs_left o r))) c.in-Some.ensures
    (c.with_levels.ensures w.samples took ∙ ap (λ xs. r.request.kept ++ levels_from w.samples r.start xs) (range_is c.as_slice-inputs.result.now k.inputs c.len-had.result (length r.request.kept) c.args.ended c.as_slice-inputs.ensures.items c.len-had.ensures.is))

pub returns-else-from-count : goal.returns-else-from-count
returns-else-from-count c w took =
    let r = round_as c.args.round in
    let k = c.in-Some.found.now in
    subst (λ o. listed c.args.round.request.kept ≡ r.request.kept ++ levels_from w.samples r.start (take c.args.ended (inputs_left o r))) c.in-Some.ensures
    (levels_past w.samples r.start c.args.ended (length r.request.kept) k.inputs r.request.kept (omega (arith, c.if-from-count.false, ap length c.as_slice-inputs.ensures.items, c.len-had.ensures.is)))

pub returns-in-None : goal.returns-in-None
returns-in-None c w took =
    let r = round_as c.args.round in
    subst (λ o. listed c.args.round.request.kept ≡ r.request.kept ++ levels_from w.samples r.start (take c.args.ended (inputs_left o r))) c.in-None.ensures
    (levels_none w.samples r.start c.args.ended (length r.request.kept) r.request.kept)
