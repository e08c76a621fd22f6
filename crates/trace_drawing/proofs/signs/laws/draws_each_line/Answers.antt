use Rattle.trace_forms.proofs.EscapeLaws.{escaped_reads}
use Rattle.trace_drawing.proofs.Balance.{is_drawing}
use Rattle.trace_drawing.proofs.signs.laws.draws_each_line.Goals as goal

pub returns : goal.returns
returns c = record { shows = is_drawing; reads = escaped_reads }
