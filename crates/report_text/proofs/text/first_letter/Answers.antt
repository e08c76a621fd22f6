-- The lines of ends begin with a letter of their own.
use Rattle.std.proofs.Common.{ap}
use Rattle.bench_report.specs.Lines.{line_of, line_text}
use Rattle.report_text.proofs.text.first_letter.Goals as goal

pub returns-in-Returns : goal.returns-in-Returns
returns-in-Returns c = (_, ap (λ l. line_text (line_of l)) c.in-Returns.is)

pub returns-in-Leaves : goal.returns-in-Leaves
returns-in-Leaves c = (_, ap (λ l. line_text (line_of l)) c.in-Leaves.is)
