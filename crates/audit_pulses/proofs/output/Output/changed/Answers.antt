use Rattle.std.proofs.Common.{◌≡◌, ℕ, ◌+◌, ◌-◌, ap, sym, subst, ◌∙◌, arith}
use Rattle.chip_blocks.specs.pulses.Pulses.{changed_between}
use Rattle.chip_blocks.specs.pulses.Regime.{changed_by_turn}
use Rattle.module_machines.specs.pwm.Units.{output_in, regime_in}
use Rattle.audit_pulses.specs.Stands.{output_of, regime_of}
use Rattle.audit_pulses.specs.declared.output.Output.{Output}
use Rattle.audit_pulses.proofs.output.Output.changed.Goals as goal

begun_same : (begun period : ℕ) → begun ≡ begun + period - period
begun_same begun period = omega arith

pub returns-in-GivesWay : goal.returns-in-GivesWay
returns-in-GivesWay c =
    let r = c.in-GivesWay.regime in
    let n = c.in-GivesWay.next in
    let a = c.args in
    subst (λ (o : Output). c.changed_by_turn.result ≡ changed_between a.to (output_in a.high (output_of o)) a.after a.now) (sym c.in-GivesWay.is)
    (c.changed_by_turn.ensures
    ∙ ap (λ b. changed_by_turn a.to (regime_in a.high (regime_of r)) (record { begun = b; wave = record { period = n.period; duty = n.duty; high = a.high } }) a.after a.now) (begun_same n.begun r.period))
