use Rattle.std.proofs.Common.{ap}
use Rattle.std.specs.Prelude.{List, ℕ, codes, ◌++◌}
use Rattle.trace_reader.proofs.Scanning.{writes}
use Rattle.trace_reader.proofs.scan.write.Goals as goal

pub returns : goal.returns
returns c = writes _ c.in_ok-rest.rest.now c.in_ok-register.rest.now c.in_ok-register.register c.in_ok-register.value (ap (λ (bs : List ℕ). codes "w" ++ bs) c.in_ok-rest.ensures) c.in_ok-register.ensures
