use Rattle.std.proofs.Common.{◌≡◌, ◌<◌, ◌∙◌, sym, ap, subst, length, slice_index_or, false}
use Rattle.std.specs.Prelude.{◌==◌, if◌then◌else◌}
use Rattle.module_machines.specs.port.Machine as spec
use Rattle.audit_clock.specs.PinStands.{state_of}
use Rattle.audit_clock.specs.declared.pin_state.PinState.{PinState}
use Rattle.mcal_base.specs.declared.config.port.PortPinDirection.TheVariants.{In}
use Rattle.mcal_base.specs.declared.config.port.PortPinMode.TheVariants.{Adc}
use Rattle.audit_clock.proofs.Places.{set_at}
use Rattle.audit_clock.proofs.pins.Pins.set.Goals as goal

pub returns-then-number-lt64-clause-pins : goal.returns-then-number-lt64-clause-pins
returns-then-number-lt64-clause-pins c p lt =
    let blank : PinState = record { direction = In; mode = Adc; latch = false } in
    let size : length c.self.inside.pins ≡ 64 = c.self.invariant in
    set_at state_of c.self.inside.pins c.args.number p c.args.state blank (subst (λ m. c.args.number < m) (sym size) c.if-number-lt64.true) ∙ ap (λ ys. if p == c.args.number then state_of c.args.state else slice_index_or ys p spec.untouched) (ap (λ r. r.pins) c.self.view_is)
