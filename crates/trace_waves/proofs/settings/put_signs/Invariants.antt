use Rattle.std.proofs.Common.{◌≡◌, length}
use Rattle.trace_waves.specs.Board.{put_all}
use Rattle.trace_waves.specs.Settings as spec
use Rattle.trace_waves.proofs.settings.put_signs.Given as goal

abbrev pub invariant-loop-rest : goal.invariant-loop-rest
invariant-loop-rest l = record {
  board : put_all l.initial.board (spec.settings l.clock spec.nothing l.signs) ≡ put_all l.board (spec.settings l.clock l.before l.rest);
  before : spec.behind_all spec.nothing l.signs ≡ spec.behind_all l.before l.rest;
}

abbrev pub decreases-loop-rest : goal.decreases-loop-rest
decreases-loop-rest l = length l.rest
