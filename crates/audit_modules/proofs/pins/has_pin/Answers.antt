use Rattle.std.proofs.Common.{ap, ◌∙◌}
use Rattle.audit_frames.proofs.Deciding.{no, worded}
use Rattle.module_machines.specs.port.Machine.{PinState, is_out}
use Rattle.audit_modules.proofs.Below.{fails, same_values}
use Rattle.audit_modules.proofs.pins.has_pin.Goals as goal

pub returns-then-not-is_same-clause-is : goal.returns-then-not-is_same-clause-is
returns-then-not-is_same-clause-is c s h =
    let st = c.state-state.ensures s h in
    no (λ x. fails c.is_same.result (same_values c.is_same.result c.latch.result c.state-state.result.latch _ _ c.latch.ensures.latch (ap (λ (y : PinState). y.latch) st) c.is_same.ensures) c.if-not-is_same.true x.latch)

pub returns-then-not-is_same-2-clause-is : goal.returns-then-not-is_same-2-clause-is
returns-then-not-is_same-2-clause-is c s h =
    let st = c.state-state.ensures s h in
    no (λ x. fails c.is_same-2.result (same_values c.is_same-2.result c.is_out.result c.is_out-2.result _ _ c.is_out.ensures (c.is_out-2.ensures ∙ ap (λ (y : PinState). is_out y.direction) st) c.is_same-2.ensures) c.if-not-is_same-2.true x.direction)

pub returns-clause-is : goal.returns-clause-is
returns-clause-is c s h =
    let st = c.state-state.ensures s h in
    let latch = same_values c.is_same.result c.latch.result c.state-state.result.latch _ _ c.latch.ensures.latch (ap (λ (y : PinState). y.latch) st) c.is_same.ensures in
    let direction = same_values c.is_same-2.result c.is_out.result c.is_out-2.result _ _ c.is_out.ensures (c.is_out-2.ensures ∙ ap (λ (y : PinState). is_out y.direction) st) c.is_same-2.ensures in
    let mode = same_values c.is_same_mode.result c.mode.result c.state-state.result.mode _ _ c.mode.ensures (ap (λ (y : PinState). y.mode) st) c.is_same_mode.ensures in
    worded (λ e. record { direction = direction.says c.if-not-is_same-2.false; mode = e; latch = latch.says c.if-not-is_same.false }) (λ x. x.mode) mode
