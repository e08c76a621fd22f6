use Rattle.step_runner.proofs.KeptLemmas.{full-tags_under}
use Rattle.step_runner.proofs.stack.Stack.is_full.Goals as goal

pub returns-clause-tags : goal.returns-clause-tags
returns-clause-tags g c = full-tags_under c.args.self.now.frames c.depth.result c.depth.ensures
