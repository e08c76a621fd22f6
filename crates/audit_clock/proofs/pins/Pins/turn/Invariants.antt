use Rattle.std.proofs.Common.{◌≡◌, ℕ, ◌<◌, slice_index_or, nat_lt}
use Rattle.std.specs.Prelude.{if◌then◌else◌}
use Rattle.module_machines.specs.port.Machine as spec
use Rattle.audit_clock.specs.PinStands.{turned}
use Rattle.module_machines.specs.port.Table.{pin_of}
use Rattle.audit_clock.proofs.pins.Pins.turn.Given as goal

abbrev pub invariant-loop-number : goal.invariant-loop-number
invariant-loop-number l = (l.self.driver ≡ l.initial.self.driver) × (l.self.initialised ≡ l.initial.self.initialised)
    × ((p : ℕ) → p < 64 → slice_index_or l.self.pins p spec.untouched ≡ (if nat_lt p l.number then turned l.fn.by (pin_of l.initial.self.driver p) (slice_index_or l.initial.self.pins p spec.untouched) else slice_index_or l.initial.self.pins p spec.untouched))
