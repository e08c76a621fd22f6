use Rattle.std.proofs.Common.{◌≡◌, ℕ, ◌<◌, ◌∙◌, sym, ap, subst, length, slice_index_or, nat_lt, false, map}
use Rattle.std.specs.Prelude.{if◌then◌else◌}
use Rattle.module_machines.specs.port.Machine as spec
use Rattle.audit_clock.specs.PinStands.{state_of, turned}
use Rattle.module_machines.specs.port.Table.{pin_of}
use Rattle.audit_clock.specs.declared.pin_state.PinState.{PinState}
use Rattle.mcal_base.specs.declared.config.port.PortPinDirection.TheVariants.{In}
use Rattle.mcal_base.specs.declared.config.port.PortPinMode.TheVariants.{Adc}
use Rattle.audit_clock.proofs.Places.{made_next, not_below}
use Rattle.audit_clock.proofs.pins.Pins.turn.Goals as goal

pub loop-number-preserved : goal.loop-number-preserved
loop-number-preserved c =
    let v = c.self.view_is in
    let k = c.loop-number.invariant in
    let n = c.loop-number.number in
    let xs = c.self.inside.pins in
    let old : ℕ → spec.PinState = λ p. slice_index_or c.args.self.now.pins p spec.untouched in
    let made : ℕ → spec.PinState = λ p. turned c.args.by (pin_of c.args.self.now.driver p) (old p) in
    let blank : PinState = record { direction = In; mode = Adc; latch = false } in
    let pins : map state_of xs ≡ c.loop-number.self.pins = ap (λ r. r.pins) v in
    let driver : c.self.inside.driver ≡ c.args.self.now.driver = ap (λ r. r.driver) v ∙ k.0 in
    let size : length xs ≡ 64 = c.self.invariant in
    let there : n < length xs = subst (λ m. n < m) (sym size) c.loop-number-test.true in
    let before : (p : ℕ) → p < length xs → slice_index_or (map state_of xs) p (state_of blank) ≡ (if nat_lt p n then made p else old p) = λ p lt. ap (λ ys. slice_index_or ys p spec.untouched) pins ∙ k.2 p (subst (λ m. p < m) size lt) in
    let here : slice_index_or c.loop-number.self.pins n spec.untouched ≡ old n = k.2 n c.loop-number-test.true ∙ not_below n (made n) (old n) in
    let is : state_of c.turned-state.result ≡ made n = c.turned-state.ensures ∙ ap (λ o. turned c.args.by o (state_of c.at.result)) (c.pin.ensures ∙ ap (λ d. pin_of d n) driver) ∙ ap (λ s. turned c.args.by (pin_of c.args.self.now.driver n) s) (c.at.ensures ∙ here) in
    (driver, ap (λ r. r.initialised) v ∙ k.1, λ p lt. made_next state_of made old xs n c.turned-state.result blank there before is p (subst (λ m. p < m) (sym size) lt))
