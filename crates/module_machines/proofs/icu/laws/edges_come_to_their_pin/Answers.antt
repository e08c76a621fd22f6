use Rattle.module_machines.proofs.of_icu.EdgeLaws.{edge_comes, edge_passes, no_edge}
use Rattle.module_machines.proofs.icu.laws.edges_come_to_their_pin.Goals as goal

pub returns-clause-own : goal.returns-clause-own
returns-clause-own c = edge_comes

pub returns-clause-others : goal.returns-clause-others
returns-clause-others c = edge_passes

pub returns-clause-unchanged : goal.returns-clause-unchanged
returns-clause-unchanged c = no_edge
