use Rattle.std.proofs.Common.{◌≡◌, ℕ, ◌/◌, ◌%◌, ◌<◌, ◌==◌, ◌&&◌, nat_lt, slice_index_or}
use Rattle.std.specs.Prelude.{if◌then◌else◌}
use Rattle.module_machines.specs.port.Machine.{untouched}
use Rattle.audit_clock.specs.PinStands.{latched}
use Rattle.audit_clock.proofs.pins.Pins.put.Given as goal

abbrev pub invariant-loop-place : goal.invariant-loop-place
invariant-loop-place l = record {
  pins : (p : ℕ) → p < 64 → slice_index_or l.self.pins p untouched ≡ (if l.fn.port == p / 8 && nat_lt (p % 8) l.place then latched l.fn.word (p % 8) (slice_index_or l.initial.self.pins p untouched) else slice_index_or l.initial.self.pins p untouched);
  driver : l.self.driver ≡ l.initial.self.driver;
  initialised : l.self.initialised ≡ l.initial.self.initialised;
}
