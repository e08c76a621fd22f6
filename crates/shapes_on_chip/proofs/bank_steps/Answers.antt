use Rattle.shapes_on_chip.proofs.Steps.{fill_step, newest_step, kept_step, banks_left}
use Rattle.shapes_on_chip.proofs.bank_steps.Goals as goal

pub returns-clause-fill : goal.returns-clause-fill
returns-clause-fill c = fill_step

pub returns-clause-newest : goal.returns-clause-newest
returns-clause-newest c = newest_step

pub returns-clause-kept : goal.returns-clause-kept
returns-clause-kept c = kept_step

pub returns-clause-elsewhere : goal.returns-clause-elsewhere
returns-clause-elsewhere c = banks_left
