use Rattle.std.proofs.Common.{◌≡◌, ◌==◌, drop}
use Rattle.std.specs.List.{list_any}
use Rattle.audit_serial.proofs.options.has.Given as goal

abbrev pub invariant-loop-each : goal.invariant-loop-each
invariant-loop-each l = list_any (λ k. k == l.number) l.numbers ≡ list_any (λ k. k == l.number) (drop l.each-index l.numbers)
