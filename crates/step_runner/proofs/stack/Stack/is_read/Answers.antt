use Rattle.std.proofs.Common.{◌∙◌}
use Rattle.step_runner.proofs.KeptLemmas.{read-items}
use Rattle.step_runner.proofs.stack.Stack.is_read.Goals as goal

pub returns : goal.returns
returns g c = c.one_reads.ensures ∙ read-items c.args.channel c.lying.result.now c.args.self.now.frames c.lying.ensures
