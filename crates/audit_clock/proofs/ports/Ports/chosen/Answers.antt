use Rattle.std.proofs.Common.{sym, ◌∙◌}
use Rattle.module_machines.specs.dio.Table.{pins_of}
use Rattle.audit_clock.proofs.PortPlaces.{low_port}
use Rattle.audit_clock.proofs.ports.Ports.chosen.Goals as goal

pub returns-clause-few : goal.returns-clause-few
returns-clause-few c x is = low_port c.self.inside.driver c.self.invariant c.args.call x (sym c.pins_of.ensures ∙ is)
