use Rattle.sweep_top.proofs.Watched.{watched_next}
use Rattle.run_model.specs.Packing.{item_of}
use Rattle.sweep_top.specs.Reported as spec
use Rattle.sweep_top.proofs.seeing.waiting_among.Goals as goal

pub loop-kept-preserved : goal.loop-kept-preserved
loop-kept-preserved c = watched_next (λ k. spec.wait_on (item_of c.args.lists.now.rests.now k)) c.args.lists.now.items.now c.loop-kept.kept-index _ c.loop-kept.lines.items c.keep_wait.new.lines.items c.loop-kept-test.true c.loop-kept.invariant (rw c.item.ensures at c.in_ok-keep_wait.ensures)
