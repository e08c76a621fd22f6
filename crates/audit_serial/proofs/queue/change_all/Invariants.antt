use Rattle.std.proofs.Common.{◌≡◌, length, map}
use Rattle.audit_serial.specs.Queued.{changed_by}
use Rattle.audit_serial.proofs.Indexed.{changed_to}
use Rattle.audit_serial.specs.Words.{pending_as}
use Rattle.audit_serial.proofs.queue.change_all.Given as goal

abbrev pub invariant-loop-place : goal.invariant-loop-place
invariant-loop-place l = record {
  is : map pending_as l.entries.items ≡ changed_to (λ k. changed_by l.sequence l.change) l.place (map pending_as l.initial.entries.items);
  size : length l.entries.items ≡ length l.initial.entries.items;
}
