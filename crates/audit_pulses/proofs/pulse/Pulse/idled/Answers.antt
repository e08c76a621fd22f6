use Rattle.std.proofs.Common.{sym, subst, arith}
use Rattle.module_machines.specs.pwm.Units.{IsBegun}
use Rattle.audit_pulses.specs.Stands.{output_of}
use Rattle.audit_pulses.proofs.pulse.Pulse.idled.Goals as goal

pub returns-clause-fits : goal.returns-clause-fits
returns-clause-fits c = (subst (λ o. IsBegun (output_of o) c.put_out.result.since) (sym c.put_out.ensures.output) tt, omega (arith, c.put_out.ensures.since))
