-- The lines so far.
use Rattle.std.proofs.Common.{◌≡◌}
use Rattle.mcal_base.specs.Bits.{bits_of}
use Rattle.report_auditor.proofs.served.used_lines.Given as goal

abbrev pub invariant-loop-line : goal.invariant-loop-line
invariant-loop-line g l = l.found ≡ bits_of (g.P.Part.member (g.P.Part.table l.part)).lines l.line
