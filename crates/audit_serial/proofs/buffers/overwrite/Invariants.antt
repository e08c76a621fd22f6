use Rattle.std.proofs.Common.{◌≡◌, ◌++◌, drop, take}
use Rattle.audit_serial.proofs.buffers.overwrite.Given as goal

abbrev pub invariant-loop-place : goal.invariant-loop-place
invariant-loop-place l = l.words.items ≡ take l.place l.by ++ drop l.place l.initial.words.items
