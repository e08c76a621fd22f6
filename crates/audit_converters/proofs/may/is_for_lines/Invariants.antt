use Rattle.std.proofs.Common.{◌≡◌}
use Rattle.std.specs.List.{list_all}
use Rattle.audit_converters.proofs.Lines.{from_line, own_or_clear}
use Rattle.audit_converters.proofs.may.is_for_lines.Given as goal

abbrev pub invariant-loop-line : goal.invariant-loop-line
invariant-loop-line l = list_all (own_or_clear l.value) (from_line 0) ≡ list_all (own_or_clear l.value) (from_line l.line)
