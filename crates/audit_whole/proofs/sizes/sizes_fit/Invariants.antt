use Rattle.std.proofs.Common.{ℕ, ◌<◌}
use Rattle.module_machines.specs.icu.Machine.{IcuState}
use Rattle.audit_captures.specs.Stands.{StandsFor}
use Rattle.audit_whole.specs.Sizes.{SizeFits}
use Rattle.audit_whole.proofs.sizes.sizes_fit.Given as goal

abbrev pub invariant-loop-number : goal.invariant-loop-number
invariant-loop-number l = (s : IcuState) → StandsFor l.captures s → (n : ℕ) → n < l.number → SizeFits l.config s n
