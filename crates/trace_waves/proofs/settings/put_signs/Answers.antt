use Rattle.std.proofs.Common.{◌∙◌}
use Rattle.trace_waves.proofs.Setting.{set_rest, behind_rest}
use Rattle.trace_waves.proofs.settings.put_signs.Goals as goal

pub loop-rest-preserved : goal.loop-rest-preserved
loop-rest-preserved c = record {
  board =
      c.loop-rest.invariant.board
      ∙ set_rest c.args.clock c.loop-rest.board c.put_sign.new.board c.loop-rest.before c.behind-before.result c.loop-rest.rest.now _ c.in-len1-up.len_at_least c.behind-before.ensures c.in_ok-put_sign.ensures;
  before = c.loop-rest.invariant.before ∙ behind_rest c.loop-rest.before c.behind-before.result c.loop-rest.rest.now _ c.in-len1-up.len_at_least c.behind-before.ensures;
}
