use Rattle.std.proofs.Common.{◌≡◌}
use Rattle.trace_waves.specs.Board.{put_all}
use Rattle.trace_waves.specs.Settings as spec
use Rattle.trace_waves.proofs.settings.put_idle_lines.Given as goal

abbrev pub invariant-loop-line : goal.invariant-loop-line
invariant-loop-line l = l.board ≡ put_all l.initial.board (spec.idle_lines l.at l.line)
