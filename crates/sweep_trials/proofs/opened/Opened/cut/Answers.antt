use Rattle.bench_sweep.specs.Places.{places}
use Rattle.sweep_trials.proofs.Putting.{cut_on, cut_up}
use Rattle.sweep_trials.proofs.opened.Opened.cut.Goals as goal

pub returns-clause-up : goal.returns-clause-up
returns-clause-up c =
    let s = c.args.self.now in
    cut_up s.block.items (places s.block.items s.steps.items) c.args.place c.place-place.result c.cut_block.result c.place-place.ensures.is (rw c.deref.ensures.value at c.cut_block.ensures.up)

pub returns-clause-on : goal.returns-clause-on
returns-clause-on c =
    let s = c.args.self.now in
    cut_on s.block.items s.steps.items (places s.block.items s.steps.items) c.args.place c.place-place.result c.cut_block.result c.place-place.ensures.is (rw (c.deref.ensures.value, c.deref-2.ensures.value) at c.cut_block.ensures.on)
