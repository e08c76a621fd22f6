use Rattle.std.proofs.Common.{ap, sym, subst, ◌∙◌, arith}
use Rattle.module_machines.specs.pwm.Units.{IsBegun}
use Rattle.module_machines.specs.pwm.laws.Relation.{with_new_begun}
use Rattle.audit_pulses.specs.Stands.{output_of}
use Rattle.audit_pulses.proofs.pulse.Pulse.set_to.Goals as goal

pub returns-clause-fits : goal.returns-clause-fits
returns-clause-fits c =
    let put = c.put_out.ensures in
    let begun = with_new_begun (output_of c.args.self.output) c.args.self.since c.args.now c.args.period c.absolute.result c.requires.0 c.requires.1 in
    (subst (λ t. IsBegun (output_of c.put_out.result.output) t) (sym put.since) (subst (λ o. IsBegun o c.args.now) (sym (ap output_of put.output ∙ c.with_new-output.ensures)) begun), omega (arith, put.since))
