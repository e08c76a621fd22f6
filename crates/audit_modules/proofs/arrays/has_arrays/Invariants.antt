use Rattle.std.proofs.Common.{ℕ, ◌<◌}
use Rattle.audit_modules.specs.Agrees.{HoldsDestination, HoldsSource}
use Rattle.audit_serial.specs.Stands.{state_of}
use Rattle.audit_modules.proofs.arrays.has_arrays.Given as goal

-- the places so far have the machine's words
abbrev pub invariant-loop-place : goal.invariant-loop-place
invariant-loop-place l = (i : ℕ) → i < l.place → HoldsSource l.bus (state_of l.serials) l.channel i × HoldsDestination l.bus (state_of l.serials) l.channel i
