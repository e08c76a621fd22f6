-- The place of the lowest 1.
use Rattle.std.proofs.Common.{◌==◌, ap, arith, w64}
use Rattle.std.proofs.lemmas.Nat.Bits.{bit_at-trailing_zeros}
use Rattle.report_auditor.proofs.served.lowest.Goals as goal

pub returns-clause-within : goal.returns-clause-within
returns-clause-within c = (bit_at-trailing_zeros w64 c.args.mask c.requires.some (omega arith)).0

pub returns-clause-set : goal.returns-clause-set
returns-clause-set c = ap (λ n. n == 1) ((bit_at-trailing_zeros w64 c.args.mask c.requires.some (omega arith)).1)
