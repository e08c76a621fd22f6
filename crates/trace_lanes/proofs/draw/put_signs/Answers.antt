use Rattle.std.proofs.Common.{◌∙◌}
use Rattle.trace_lanes.proofs.Steps.{stroke_rest, behind_rest}
use Rattle.trace_lanes.proofs.draw.put_signs.Goals as goal

pub loop-rest-preserved : goal.loop-rest-preserved
loop-rest-preserved c = record {
  board =
      c.loop-rest.invariant.board
      ∙ stroke_rest c.loop-rest.board c.put_next.new.board c.loop-rest.page_state c.put_next.new.page_state c.loop-rest.rest.now _ c.in-len1-up.len_at_least c.in_ok-put_next.ensures.page_state c.in_ok-put_next.ensures.board;
  page_state = c.loop-rest.invariant.page_state ∙ behind_rest c.loop-rest.page_state c.put_next.new.page_state c.loop-rest.rest.now _ c.in-len1-up.len_at_least c.in_ok-put_next.ensures.page_state;
}
