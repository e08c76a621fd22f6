use Rattle.std.proofs.Common.{◌≡◌, replicate}
use Rattle.audit_serial.proofs.buffers.refill.Given as goal

abbrev pub invariant-loop-place : goal.invariant-loop-place
invariant-loop-place l = l.words.items ≡ replicate l._place l.value
