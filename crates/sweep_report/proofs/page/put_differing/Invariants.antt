use Rattle.std.proofs.Common.{◌≡◌, ◌++◌, drop}
use Rattle.std.specs.Prelude.{string_bytes}
use Rattle.sweep_report.specs.Page as spec
use Rattle.sweep_report.proofs.page.put_differing.Given as goal

abbrev pub invariant-loop-told : goal.invariant-loop-told
invariant-loop-told l = string_bytes l.initial.text ++ spec.differing_text l.swept.outcomes.items l.groups l.fn.told ≡ string_bytes l.text ++ spec.differing_text l.swept.outcomes.items l.groups (drop l.told-index l.fn.told)
