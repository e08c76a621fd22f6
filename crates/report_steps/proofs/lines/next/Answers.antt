-- A line that is read is the front of the block.
use Rattle.report_steps.proofs.LinesLaws.{advances_told}
use Rattle.report_steps.proofs.lines.next.Goals as goal

pub returns-in-Ok-clause-on : goal.returns-in-Ok-clause-on
returns-in-Ok-clause-on c = advances_told c.args.report.now c.take_told.new.self c.in-Ok.told c.in-Ok.ensures.number c.in-Ok.ensures.told c.in-Ok.ensures.taken
