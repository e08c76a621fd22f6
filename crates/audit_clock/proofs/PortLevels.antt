-- The levels that are kept are the machine's.
use Rattle.std.proofs.Common.{◌≡◌, ℕ, ◌+◌, ◌*◌, ◌<◌, Bool, Option, ap, sym, ◌∙◌, arith}
use Rattle.std.specs.Prelude.{slice_index_or, None, false}
use Rattle.module_machines.specs.dio.Machine.{port_value}
use Rattle.module_machines.specs.port.Machine.{PinState, PortState, level_at, level_of, pin_at}
use Rattle.run_model.specs.World.{World}
use Rattle.audit_clock.specs.PinStands.{PinsKept, StandsFor}
use Rattle.audit_clock.specs.PortPins.{IsAround, kept_level, kept_value, pins_seeing}
use Rattle.audit_clock.specs.declared.around.Around.{Around}
use Rattle.audit_clock.proofs.PortPlaces.{same_bits}

module _ (kept : PinsKept) (x : Around) (w : World) (s : PortState) (outputs : ℕ → Option Bool) (around : IsAround x w outputs) (stands : StandsFor kept s) where
  pub level_same : (p : ℕ) → p < 64 → kept_level kept x p ≡ level_at w s p (outputs p)
  level_same p lt =
      ap (λ (k : PinState). level_of k (slice_index_or x.levels p false) (slice_index_or x.outputs p None)) (stands.pins p lt)
      ∙ ap (λ b. level_of (pin_at s p) b (slice_index_or x.outputs p None)) (sym (around.levels p lt))
      ∙ ap (level_of (pin_at s p) (w.levels p)) (sym (around.outputs p lt))

  pub value_same : (q : ℕ) → q < 8 → kept_value kept x q ≡ port_value (pins_seeing outputs) w s q
  value_same q few = same_bits (λ k. kept_level kept x (8 * q + k)) (λ k. level_at w s (8 * q + k) (outputs (8 * q + k))) 8 (λ k lt. level_same (8 * q + k) (omega (arith, lt)))
