use Rattle.std.proofs.Common.{refl}
use Rattle.audit_clock.proofs.Places.{get_or-replicate_same}
use Rattle.audit_clock.proofs.clock.Clock.reset.Goals as goal

pub returns-clause-is : goal.returns-clause-is
returns-clause-is c = record { initialised = refl; rate = refl; pll = refl; reason = refl; mode = refl; ram = λ k lt. get_or-replicate_same 512 k 0 }
