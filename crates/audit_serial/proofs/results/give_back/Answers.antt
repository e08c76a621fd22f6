use Rattle.audit_serial.proofs.Terms.{EOk, ap, arith, drop, given_from, none_given, one_given, sym, with_results, ◌+◌, ◌∙◌}
use Rattle.audit_serial.proofs.results.give_back.Goals as goal

pub loop-place-init : goal.loop-place-init
loop-place-init c =
    let js = c.args.jobs.now in
    let xs = c.args.had.now in
    ap (λ n. with_results (drop n js) (drop n xs) c.args.results.now.items) c.min-first.ensures ∙ given_from c.args.from c.min-end.result js xs c.args.results.now.items c.min-end.ensures

pub loop-place-preserved : goal.loop-place-preserved
loop-place-preserved c =
    let k = c.loop-place.place in
    let js = c.args.jobs.now in
    let xs = c.args.had.now in
    let less = c.loop-place-test.true in
    ap (with_results (drop (k + 1) js) (drop (k + 1) xs)) c.in_ok-set_item.ensures
    ∙ (sym (one_given k js xs c.loop-place.results.items 0 EOk (omega (arith, less, c.min-end.ensures)) (omega (arith, less, c.min-end.ensures))) ∙ c.loop-place.invariant)

pub returns : goal.returns
returns c =
    let k = c.loop-place.place in
    sym (none_given k c.args.jobs.now c.args.had.now c.loop-place.results.items (omega (arith, c.loop-place-test.false, c.min-end.ensures))) ∙ c.loop-place.invariant
