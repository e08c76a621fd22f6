use Rattle.board_promises.proofs.Within.{generated_within}
use Rattle.board_promises.proofs.generator.ends_within_the_limit.Goals as goal

pub returns : goal.returns
returns c = generated_within
