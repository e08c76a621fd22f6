use Rattle.std.proofs.Common.{◌∙◌, ap, subst, sym}
use Rattle.mcal_base.specs.declared.module_name.ModuleName.{ModuleName}
use Rattle.spi_machine.specs.declared.table.SpiTable.{SpiTable}
use Rattle.audit_frames.specs.Decides.{Decides}
use Rattle.audit_frames.proofs.Deciding.{worded}
use Rattle.audit_machines.specs.System.{Tables}
use Rattle.audit_modules.specs.Agrees.{Shows}
use Rattle.audit_subject.specs.Origins.{origin_of}
use Rattle.audit_whole.specs.Whole.{module_by}
use Rattle.audit_whole.specs.laws.Joins.{shows_from, shows_to}
use Rattle.audit_whole.proofs.agreeing.agrees_at.Goals as goal

pub returns-in-Call : goal.returns-in-Call
returns-in-Call c s h =
    let host = c.args.modules.now.host in
    let t : Tables SpiTable = (((host.first.first.first.driver, host.first.first.second.driver), (host.first.second.first.driver, host.first.second.second.driver)), ((host.second.first.first.driver, host.second.first.second.driver), (host.second.second.first.table, host.second.second.second.configured.table))) in
    let o = origin_of c.args.origin.now in
    let same = c.module_of.ensures ∙ ap (λ k. module_by t (origin_of k)) (sym c.in-Call.is) in
    let e = subst (λ (m : ModuleName). Decides c.shows.result (Shows m t c.args.notice c.args.bus.now s)) same (c.shows.ensures s h) in
    worded (shows_to t c.args.notice c.args.bus.now s o) (shows_from t c.args.notice c.args.bus.now s o) e

pub returns-in-Line : goal.returns-in-Line
returns-in-Line c s h =
    let host = c.args.modules.now.host in
    let t : Tables SpiTable = (((host.first.first.first.driver, host.first.first.second.driver), (host.first.second.first.driver, host.first.second.second.driver)), ((host.second.first.first.driver, host.second.first.second.driver), (host.second.second.first.table, host.second.second.second.configured.table))) in
    let o = origin_of c.args.origin.now in
    let same = c.owner.ensures ∙ ap (λ k. module_by t (origin_of k)) (sym c.in-Line.is) in
    let e = subst (λ (m : ModuleName). Decides c.shows-in-Line.result (Shows m t c.args.notice c.args.bus.now s)) same (c.shows-in-Line.ensures s h) in
    worded (shows_to t c.args.notice c.args.bus.now s o) (shows_from t c.args.notice c.args.bus.now s o) e
