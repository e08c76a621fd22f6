use Rattle.std.proofs.Common.{length}
use Rattle.run_model.specs.Packing.{items_of}
use Rattle.bench_report.specs.Numbers.{Each}
use Rattle.trace_promises.specs.traces.Numbers.{ItemFits}
use Rattle.trace_promises.proofs.traces.numbers.items_fit.Given as goal

abbrev pub invariant-loop-rest : goal.invariant-loop-rest
invariant-loop-rest l =
    let rests = l.lists.rests.now in
    Each ItemFits (items_of rests l.rest) → Each ItemFits (items_of rests l.lists.items.now)

abbrev pub decreases-loop-rest : goal.decreases-loop-rest
decreases-loop-rest l = length l.rest
