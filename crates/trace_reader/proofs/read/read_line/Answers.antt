use Rattle.std.proofs.Common.{sym}
use Rattle.trace_reader.proofs.read.read_line.Goals as goal

pub returns-in-Some : goal.returns-in-Some
returns-in-Some c = sym c.in-Some.ensures
