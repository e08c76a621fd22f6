use Rattle.std.proofs.Common.{◌≡◌, ℕ, ◌<◌, ◌≤◌, max, slice_index_or}
use Rattle.std.specs.Prelude.{if◌then◌else◌}
use Rattle.audit_clock.specs.ClockStands.{is_between}
use Rattle.audit_clock.proofs.clock.Clock.fill.Given as goal

abbrev pub invariant-loop-place : goal.invariant-loop-place
invariant-loop-place l = record {
  ram : (k : ℕ) → k < 512 → slice_index_or l.self.ram k 0 ≡ (if is_between l.fn.start l.place k then l.fn.value else slice_index_or l.initial.self.ram k 0);
  within : l.place ≤ max l.fn.start l.fn.end;
  others : l.self ≡ record l.initial.self { ram = l.self.ram };
}
