use Rattle.machine_laws.proofs.JobsLeft.{fewer_ends}
use Rattle.machine_laws.proofs.WordsLeft.{fewer_servings}
use Rattle.machine_laws.proofs.serial.alone.left_alone_ends.Goals as goal

pub returns-clause-jobs : goal.returns-clause-jobs
returns-clause-jobs _ d q s p history ends there left stays = fewer_ends d q s p stays there left

pub returns-clause-words : goal.returns-clause-words
returns-clause-words _ d u s r history servings runs on some = fewer_servings d u s r on runs some
