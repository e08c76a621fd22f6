use Rattle.std.proofs.Common.{◌-◌, ap, sym, ◌∙◌}
use Rattle.chip_blocks.specs.pulses.Regime.{regime_level, turns_to}
use Rattle.module_machines.specs.pwm.Output as machine
use Rattle.module_machines.specs.pwm.Units.{regime_in}
use Rattle.module_machines.specs.pwm.laws.Relation.{regime_same}
use Rattle.audit_pulses.specs.Stands.{regime_of}
use Rattle.audit_pulses.proofs.output.turns_at.Goals as goal

pub returns : goal.returns
returns c =
    let r = regime_of c.args.regime in
    let n = regime_of c.args.came in
    let high = c.args.high in
    c.turns_to.ensures
    ∙ ap (λ q. turns_to c.args.to q c.level-2.result) (c.level.ensures ∙ ap (machine.regime_level high r) c.saturating_sub-last.ensures ∙ sym (regime_same high r (n.start - 1)))
    ∙ ap (turns_to c.args.to (regime_level (regime_in high r) (n.start - 1))) (c.level-2.ensures ∙ sym (regime_same high n n.start))
