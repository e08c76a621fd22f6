use Rattle.std.proofs.Common.{List, Option, ◌∙◌, ap, arith}
use Rattle.std.specs.Prelude.{flat_map}
use Rattle.std.proofs.lemmas.List.{take_all}
use Rattle.trace_lanes.specs.Board.{put_all}
use Rattle.trace_lanes.specs.Drawn.{last}
use Rattle.trace_lanes.specs.declared.page_state.Level.{Level}
use Rattle.trace_lanes.proofs.Steps.{put_more}
use Rattle.trace_lanes.proofs.draw.put_lasts.Goals as goal

pub loop-level-preserved : goal.loop-level-preserved
loop-level-preserved c =
    put_more (last c.args.end) c.args.board.now c.loop-level.board c.put_last.new.board c.args.levels.now c.loop-level.level-index _ c.loop-level-test.true c.loop-level.invariant c.in_ok-put_last.ensures

pub returns : goal.returns
returns c = c.loop-level.invariant ∙ ap (λ (levels : List (Option Level)). put_all c.args.board.now (flat_map (last c.args.end) levels)) (take_all c.loop-level.level-index c.args.levels.now (omega arith))
