use Rattle.std.proofs.Common.{length}
use Rattle.run_model.specs.Packing.{items_of}
use Rattle.bench_report.specs.Numbers.{Each}
use Rattle.trace_promises.specs.Numbers.{ItemBrings}
use Rattle.trace_promises.proofs.laws.levels_fit.Given as goal

abbrev pub invariant-loop-rest : goal.invariant-loop-rest
invariant-loop-rest l =
    let rests = l.lists.rests.now in
    Each ItemBrings (items_of rests l.rest) → Each ItemBrings (items_of rests l.lists.items.now)

abbrev pub decreases-loop-rest : goal.decreases-loop-rest
decreases-loop-rest l = length l.rest
