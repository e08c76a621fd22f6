use Rattle.std.proofs.Common.{◌≡◌, length}
use Rattle.trace_lanes.specs.Board.{put_all}
use Rattle.trace_lanes.specs.Drawn as spec
use Rattle.trace_lanes.proofs.draw.put_signs.Given as goal

abbrev pub invariant-loop-rest : goal.invariant-loop-rest
invariant-loop-rest l = record {
  board : put_all l.initial.board (spec.strokes l.initial.page_state l.signs) ≡ put_all l.board (spec.strokes l.page_state l.rest);
  page_state : spec.behind_all l.initial.page_state l.signs ≡ spec.behind_all l.page_state l.rest;
}

abbrev pub decreases-loop-rest : goal.decreases-loop-rest
decreases-loop-rest l = length l.rest
