use Rattle.std.proofs.Common.{arith}
use Rattle.audit_pulses.proofs.Bounds.{begun-later}
use Rattle.audit_pulses.specs.Stands.{output_of}
use Rattle.audit_pulses.proofs.pulse.Pulse.forgotten.Goals as goal

pub returns-clause-fits : goal.returns-clause-fits
returns-clause-fits c = (begun-later (output_of c.args.self.output) c.args.self.since c.args.now c.requires.1 c.requires.0, omega arith)
