use Rattle.std.proofs.Common.{ap, ◌∙◌, true}
use Rattle.chip_blocks.specs.pulses.Pulses.{changed_between}
use Rattle.module_machines.specs.pwm.Units.{chosen, output_in}
use Rattle.module_machines.specs.pwm.laws.Relation.{chosen_same}
use Rattle.audit_pulses.specs.Stands.{output_of}
use Rattle.audit_pulses.proofs.output.Output.turns.Goals as goal

pub returns : goal.returns
returns c =
    let e = c.args.edge in
    let high = c.args.polarity in
    let o = output_of c.args.self in
    c.chosen.ensures
    ∙ (ap (λ q. chosen e q c.changed-falls.result) c.changed-rises.ensures
    ∙ (ap (λ q. chosen e (changed_between true (output_in high o) c.args.after c.args.now) q) c.changed-falls.ensures
    ∙ chosen_same e high o c.args.after c.args.now c.requires))
