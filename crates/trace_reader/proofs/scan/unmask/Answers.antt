use Rattle.std.proofs.Common.{ap, arith}
use Rattle.std.specs.Prelude.{List, ℕ, codes, ◌++◌}
use Rattle.trace_reader.proofs.scan.unmask.Goals as goal

pub returns : goal.returns
returns c = record { text = ap (λ (bs : List ℕ). codes "u" ++ bs) c.in_ok-rest.ensures; numbers = tt; value = omega arith }
