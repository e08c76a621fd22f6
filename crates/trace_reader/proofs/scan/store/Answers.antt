use Rattle.std.proofs.Common.{ap}
use Rattle.std.specs.Prelude.{List, ℕ, codes, ◌++◌}
use Rattle.trace_reader.proofs.Scanning.{stores}
use Rattle.trace_reader.proofs.scan.store.Goals as goal

pub returns : goal.returns
returns c = stores _ c.in_ok-rest.rest.now c.in_ok-place.rest.now c.in_ok-place.place c.in_ok-place.value (ap (λ (bs : List ℕ). codes "s" ++ bs) c.in_ok-rest.ensures) c.in_ok-place.ensures
