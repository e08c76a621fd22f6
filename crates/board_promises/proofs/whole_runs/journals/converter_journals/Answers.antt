-- The laws are proved over the definitions.
use Rattle.adc_machine.specs.Bounds.{adc_setting}
use Rattle.board_promises.proofs.Promises.{converter_keeps, journal_says}
use Rattle.board_promises.proofs.whole_runs.journals.converter_journals.Goals as goal

pub returns-clause-rounds : goal.returns-clause-rounds
returns-clause-rounds c = converter_keeps

pub returns-clause-frames : goal.returns-clause-frames
returns-clause-frames c d = journal_says (adc_setting d)
