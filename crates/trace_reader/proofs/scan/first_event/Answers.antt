use Rattle.std.proofs.Common.{refl}
use Rattle.trace_reader.proofs.scan.first_event.Goals as goal

pub returns-in-None : goal.returns-in-None
returns-in-None c = record { text = refl; number = tt }
