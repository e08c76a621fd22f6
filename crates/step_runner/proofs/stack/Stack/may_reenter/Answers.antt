use Rattle.std.proofs.Common.{◌∙◌}
use Rattle.step_runner.proofs.KeptLemmas.{reenter-items}
use Rattle.step_runner.proofs.stack.Stack.may_reenter.Goals as goal

pub returns : goal.returns
returns g c = c.none_blocks.ensures ∙ reenter-items c.args.class.now c.lying.result.now c.args.self.now.frames c.lying.ensures
