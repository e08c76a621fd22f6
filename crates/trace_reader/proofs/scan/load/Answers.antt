use Rattle.std.proofs.Common.{ap}
use Rattle.std.specs.Prelude.{List, ℕ, codes, ◌++◌}
use Rattle.trace_reader.proofs.Scanning.{loads}
use Rattle.trace_reader.proofs.scan.load.Goals as goal

pub returns : goal.returns
returns c = loads _ c.in_ok-rest.rest.now c.in_ok-place.rest.now c.in_ok-place.place c.in_ok-place.value (ap (λ (bs : List ℕ). codes "l" ++ bs) c.in_ok-rest.ensures) c.in_ok-place.ensures
