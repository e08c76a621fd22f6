use Rattle.std.proofs.Common.{vec_len, arith}
use Rattle.bench_sweep.specs.Places.{places}
use Rattle.sweep_trials.proofs.Putting.{place_by, place_listed}
use Rattle.sweep_trials.proofs.opened.Opened.place.Goals as goal

pub returns-clause-is : goal.returns-clause-is
returns-clause-is c =
    let s = c.args.self.now in
    place_listed (places s.block.items s.steps.items) s.all.items (vec_len s.all) c.args.number _ s.each (omega (arith, s.all.ok.0)) (omega arith) c.index.ensures

pub returns-clause-by : goal.returns-clause-by
returns-clause-by c =
    let s = c.args.self.now in
    place_by (vec_len s.block) s.all.items (vec_len s.all) c.args.number _ s.by (omega (arith, s.all.ok.0)) (omega arith) c.index.ensures
