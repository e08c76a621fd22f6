use Rattle.spi_machine.specs.declared.table.SpiTable.{SpiTable}
use Rattle.audit_frames.proofs.Deciding.{worded}
use Rattle.audit_machines.specs.System.{Tables}
use Rattle.audit_whole.specs.laws.Joins.{rest_from, rest_to}
use Rattle.audit_whole.proofs.agreeing.agrees_at_rest.Goals as goal

pub returns : goal.returns
returns c w s h =
    let host = c.args.modules.now.host in
    let t : Tables SpiTable = (((host.first.first.first.driver, host.first.first.second.driver), (host.first.second.first.driver, host.first.second.second.driver)), ((host.second.first.first.driver, host.second.first.second.driver), (host.second.second.first.table, host.second.second.second.configured.table))) in
    worded (rest_to t c.args.bus.now w s) (rest_from t c.args.bus.now w s) (c.rests.ensures s h)
