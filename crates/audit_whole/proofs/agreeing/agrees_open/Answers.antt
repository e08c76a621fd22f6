use Rattle.std.proofs.Common.{List, map, ◌∙◌}
use Rattle.run_model.specs.Frame.{Origin}
use Rattle.spi_machine.specs.declared.table.SpiTable.{SpiTable}
use Rattle.audit_frames.proofs.Deciding.{no, worded}
use Rattle.audit_machines.specs.System.{Tables}
use Rattle.audit_modules.proofs.Below.{fails}
use Rattle.audit_subject.specs.Origins.{origin_of}
use Rattle.audit_whole.specs.Whole.{AnyCall, keeps_pins_busy}
use Rattle.audit_whole.specs.laws.Joins.{any_map, open_arrays, open_outputs, open_to}
use Rattle.audit_whole.proofs.agreeing.agrees_open.Goals as goal

pub returns-then-not-outputs_stand : goal.returns-then-not-outputs_stand
returns-then-not-outputs_stand c w s at h =
    let host = c.args.modules.now.host in
    let t : Tables SpiTable = (((host.first.first.first.driver, host.first.first.second.driver), (host.first.second.first.driver, host.first.second.second.driver)), ((host.second.first.first.driver, host.second.first.second.driver), (host.second.second.first.table, host.second.second.second.configured.table))) in
    let os : List (Origin AnyCall) = map origin_of c.args.origins.now in
    let busy = c.pins_are_busy.ensures ∙ any_map keeps_pins_busy origin_of c.args.origins.now in
    no (λ x. fails c.outputs_stand.result (c.outputs_stand.ensures w s at h) c.if-not-outputs_stand.true (open_outputs t c.args.bus.now w s os c.pins_are_busy.result busy x))

pub returns : goal.returns
returns c w s at h =
    let host = c.args.modules.now.host in
    let t : Tables SpiTable = (((host.first.first.first.driver, host.first.first.second.driver), (host.first.second.first.driver, host.first.second.second.driver)), ((host.second.first.first.driver, host.second.first.second.driver), (host.second.second.first.table, host.second.second.second.configured.table))) in
    let os : List (Origin AnyCall) = map origin_of c.args.origins.now in
    let busy = c.pins_are_busy.ensures ∙ any_map keeps_pins_busy origin_of c.args.origins.now in
    worded
    (λ y. open_to t c.args.bus.now w s os c.pins_are_busy.result busy ((c.outputs_stand.ensures w s at h).says c.if-not-outputs_stand.false) y)
    (λ x. open_arrays t c.args.bus.now w s os c.pins_are_busy.result busy x)
    (c.arrays_stand.ensures s h)
