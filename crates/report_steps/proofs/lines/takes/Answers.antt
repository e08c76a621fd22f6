-- A line that is printed again is the front of the block.
use Rattle.bench_report.specs.Lines.{line_of}
use Rattle.report_steps.proofs.LinesLaws.{takes_line}
use Rattle.report_steps.proofs.lines.takes.Goals as goal

pub returns-in-Ok : goal.returns-in-Ok
returns-in-Ok c = takes_line c.args.report.now c.takes.new.self (line_of c.args.line) c.in-Ok.right c.in-Ok.ensures.number c.requires.numbers c.in-Ok.ensures.right c.in-Ok.ensures.taken
