use Rattle.std.proofs.Common.{◌≡◌, length, arith, append-nil}
use Rattle.std.proofs.lemmas.Grind.{common_steps}
use Rattle.std.proofs.lemmas.List.Elements.{All-same}
use Rattle.bench_sweep.proofs.Placed.{places_are_by}
use Rattle.bench_sweep.specs.Places as spec
use Rattle.bench_sweep.proofs.places.places_in.Goals as goal

pub returns-clause-by : goal.returns-clause-by
returns-clause-by c = λ l.
    let e : c.loop-number.all.items ≡ spec.places c.args.block.now c.args.steps.now = grind (arith, common_steps, c.loop-number.invariant, c.loop-number-test.false, append-nil c.loop-number.all.items) in
    All-same (spec.IsBy (length c.args.block.now)) c.loop-number.all.items (spec.places c.args.block.now c.args.steps.now) e (places_are_by c.args.block.now c.args.steps.now l)
