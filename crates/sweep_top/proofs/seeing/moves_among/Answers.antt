use Rattle.std.proofs.Common.{map}
use Rattle.std.specs.Prelude.{string_bytes}
use Rattle.sweep_top.proofs.Watched.{watched_next}
use Rattle.run_model.specs.Packing.{item_of}
use Rattle.sweep_top.specs.Reported as spec
use Rattle.sweep_top.proofs.seeing.moves_among.Goals as goal

pub loop-kept-preserved : goal.loop-kept-preserved
loop-kept-preserved c = watched_next (λ k. spec.move_on (item_of c.args.lists.now.rests.now k)) c.args.lists.now.items.now c.loop-kept.kept-index _ (map string_bytes c.loop-kept.moves.items) (map string_bytes c.keep_move.new.moves.items) c.loop-kept-test.true c.loop-kept.invariant (rw c.item.ensures at c.in_ok-keep_move.ensures)
