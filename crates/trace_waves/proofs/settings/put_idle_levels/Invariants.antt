use Rattle.std.proofs.Common.{◌≡◌}
use Rattle.trace_waves.specs.Board.{put_all}
use Rattle.trace_waves.specs.Settings as spec
use Rattle.trace_waves.proofs.settings.put_idle_levels.Given as goal

abbrev pub invariant-loop-level : goal.invariant-loop-level
invariant-loop-level l = l.board ≡ put_all l.initial.board (spec.idle_levels l.at l.level)
