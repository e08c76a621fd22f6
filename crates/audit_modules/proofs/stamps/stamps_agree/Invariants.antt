use Rattle.std.proofs.Common.{ℕ, ◌<◌}
use Rattle.module_machines.specs.icu.Machine.{IcuState}
use Rattle.audit_captures.specs.Stands.{StandsFor}
use Rattle.audit_modules.specs.Agrees.{StampsIf}
use Rattle.audit_modules.proofs.stamps.stamps_agree.Given as goal

-- the stamps of the channels so far are the machine's
abbrev pub invariant-loop-channel : goal.invariant-loop-channel
invariant-loop-channel l = (s : IcuState) → StandsFor l.captures s → (k : ℕ) → k < l.channel → StampsIf l.captures.driver l.bus s k
