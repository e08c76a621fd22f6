use Rattle.mcal_config.proofs.Board.{board_is_valid}
use Rattle.mcal_config.proofs.bare.default_board.Goals as goal

pub returns-clause-valid : goal.returns-clause-valid
returns-clause-valid c = rw c.all_modules.ensures board_is_valid
