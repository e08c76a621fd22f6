use Rattle.std.proofs.Common.{◌≡◌, length}
use Rattle.run_model.specs.Packing.{entries_in}
use Rattle.mcal_system.specs.Wires.{untold, with_all}
use Rattle.mcal_system.proofs.wires.exchanges_of.Given as goal

-- what the items that are left add to what was told comes to the whole
abbrev pub invariant-loop-rest : goal.invariant-loop-rest
invariant-loop-rest l = with_all l.unit (entries_in l.lists l.rest) l.told ≡ with_all l.unit l.journal.entries untold

abbrev pub decreases-loop-rest : goal.decreases-loop-rest
decreases-loop-rest l = length l.rest
