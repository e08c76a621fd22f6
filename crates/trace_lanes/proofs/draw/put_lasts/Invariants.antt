use Rattle.std.proofs.Common.{◌≡◌, take}
use Rattle.std.specs.Prelude.{flat_map}
use Rattle.trace_lanes.specs.Board.{put_all}
use Rattle.trace_lanes.specs.Drawn.{last}
use Rattle.trace_lanes.proofs.draw.put_lasts.Given as goal

abbrev pub invariant-loop-level : goal.invariant-loop-level
invariant-loop-level l = l.board ≡ put_all l.initial.board (flat_map (last l.end) (take l.level-index l.levels))
