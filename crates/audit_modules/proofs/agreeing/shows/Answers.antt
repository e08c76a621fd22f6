use Rattle.std.proofs.Common.{ℕ, subst, sym}
use Rattle.std.specs.List.{Contains}
use Rattle.chip_model.specs.Chip.{word_of}
use Rattle.mcal_base.specs.declared.module_name.ModuleName.{ModuleName}
use Rattle.spi_machine.specs.Bounds.{HoldsArrays, channels_named}
use Rattle.spi_machine.specs.State.{SpiState}
use Rattle.spi_machine.specs.declared.table.SpiTable.{SpiTable}
use Rattle.audit_frames.specs.Decides.{Decides}
use Rattle.audit_machines.specs.System.{Tables}
use Rattle.audit_modules.specs.Agrees.{Shows}
use Rattle.audit_modules.proofs.Joining.{shows_nothing}
use Rattle.audit_modules.proofs.agreeing.shows.Goals as goal

pub returns-in-Icu : goal.returns-in-Icu
returns-in-Icu c s h =
    let host = c.args.modules.now.host in
    let t : Tables SpiTable = (((host.first.first.first.driver, host.first.first.second.driver), (host.first.second.first.driver, host.first.second.second.driver)), ((host.second.first.first.driver, host.second.first.second.driver), (host.second.second.first.table, host.second.second.second.configured.table))) in
    subst (λ (m : ModuleName). Decides c.stamps_stand.result (Shows m t c.args.notice c.args.bus.now s)) (sym c.in-Icu.is) (c.stamps_stand.ensures s.1.0.1 h.1.0.1)

pub returns-in-Adc : goal.returns-in-Adc
returns-in-Adc c s h =
    let host = c.args.modules.now.host in
    let t : Tables SpiTable = (((host.first.first.first.driver, host.first.first.second.driver), (host.first.second.first.driver, host.first.second.second.driver)), ((host.second.first.first.driver, host.second.first.second.driver), (host.second.second.first.table, host.second.second.second.configured.table))) in
    subst (λ (m : ModuleName). Decides c.results_stand.result (Shows m t c.args.notice c.args.bus.now s)) (sym c.in-Adc.is) (c.results_stand.ensures s.1.1.0 h.1.1.0)

pub returns-in-Spi : goal.returns-in-Spi
returns-in-Spi c s h =
    let host = c.args.modules.now.host in
    let t : Tables SpiTable = (((host.first.first.first.driver, host.first.first.second.driver), (host.first.second.first.driver, host.first.second.second.driver)), ((host.second.first.first.driver, host.second.first.second.driver), (host.second.second.first.table, host.second.second.second.configured.table))) in
    let d = c.args.modules.now.host.second.second.second.configured.table in
    let e = subst (λ (x : SpiState). Decides c.named_have_arrays.result ((k : ℕ) → Contains (channels_named d c.args.notice) k → HoldsArrays (word_of c.args.bus.now) d x k)) h.1.1.1 c.named_have_arrays.ensures in
    subst (λ (m : ModuleName). Decides c.named_have_arrays.result (Shows m t c.args.notice c.args.bus.now s)) (sym c.in-Spi.is) e

pub returns-in_default : goal.returns-in_default
returns-in_default c s h =
    let host = c.args.modules.now.host in
    let t : Tables SpiTable = (((host.first.first.first.driver, host.first.first.second.driver), (host.first.second.first.driver, host.first.second.second.driver)), ((host.second.first.first.driver, host.second.first.second.driver), (host.second.second.first.table, host.second.second.second.configured.table))) in
    shows_nothing c.args.owner t c.args.notice c.args.bus.now s c.in_default.not-Icu c.in_default.not-Adc c.in_default.not-Spi
