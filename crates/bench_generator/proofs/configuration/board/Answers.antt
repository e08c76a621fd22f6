use Rattle.bench_generator.proofs.Validity.{board_is_valid}
use Rattle.bench_generator.proofs.configuration.board.Goals as goal

pub returns-clause-valid : goal.returns-clause-valid
returns-clause-valid c = rw c.all_modules.ensures board_is_valid
