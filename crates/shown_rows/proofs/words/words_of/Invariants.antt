use Rattle.std.proofs.Common.{◌≡◌}
use Rattle.mcal_drivers.specs.Setting.{SystemState}
use Rattle.run_model.specs.World.{World}
use Rattle.shown_rows.specs.Words.{words}
use Rattle.shown_rows.proofs.words.words_of.Given as goal

abbrev pub invariant-loop-number : goal.invariant-loop-number
invariant-loop-number g l = (w : World) (s : SystemState) → g.R.ShownBoard.shows l.run w s → l.values.items ≡ words s l.words l.first l.number
