-- The laws are proved over the definitions.
use Rattle.spi_machine.specs.Bounds.{spi_setting}
use Rattle.board_promises.proofs.Promises.{serial_keeps, journal_says}
use Rattle.board_promises.proofs.whole_runs.journals.serial_journals.Goals as goal

pub returns-clause-ends : goal.returns-clause-ends
returns-clause-ends c = serial_keeps

pub returns-clause-frames : goal.returns-clause-frames
returns-clause-frames c d = journal_says (spi_setting d)
