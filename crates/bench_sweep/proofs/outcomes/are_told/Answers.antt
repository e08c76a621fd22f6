use Rattle.std.proofs.Common.{◌∙◌, sym, arith}
use Rattle.bench_sweep.proofs.Telling.{told_all, told_off, told_on}
use Rattle.bench_sweep.proofs.outcomes.are_told.Goals as goal

pub loop-place-preserved : goal.loop-place-preserved
loop-place-preserved c =
    c.loop-place.invariant ∙ told_on c.args.told.now c.args.others.now c.loop-place.place c.index-told-place.result c.index-others-place.result c.loop-place-test.true (omega arith) c.index-told-place.is c.index-others-place.is (sym c.is_told.ensures ∙ c.if-not-is_told.false)

pub returns-then-not-is_told : goal.returns-then-not-is_told
returns-then-not-is_told c =
    sym (c.loop-place.invariant ∙ told_off c.args.told.now c.args.others.now c.loop-place.place c.index-told-place.result c.index-others-place.result c.loop-place-test.true (omega arith) c.index-told-place.is c.index-others-place.is (sym c.is_told.ensures ∙ c.if-not-is_told.true))

pub returns : goal.returns
returns c = sym (c.loop-place.invariant ∙ told_all c.args.told.now c.args.others.now c.loop-place.place c.loop-place-test.false (omega arith))
