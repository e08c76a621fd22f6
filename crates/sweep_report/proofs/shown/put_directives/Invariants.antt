use Rattle.std.proofs.Common.{◌≡◌, ◌++◌, length}
use Rattle.std.specs.Prelude.{string_bytes}
use Rattle.sweep_report.specs.Place.{directives_text}
use Rattle.sweep_report.proofs.shown.put_directives.Given as goal

abbrev pub invariant-loop-directives : goal.invariant-loop-directives
invariant-loop-directives l = string_bytes l.initial.text ++ directives_text l.script l.fn.directives l.fn.lines ≡ string_bytes l.text ++ directives_text l.script l.directives l.lines

abbrev pub decreases-loop-directives : goal.decreases-loop-directives
decreases-loop-directives l = length l.directives
