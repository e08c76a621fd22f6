-- Each aspect is looked at by its module's part.
use Rattle.std.proofs.Common.{◌≡◌, ℕ, Bool, false, subst, sym}
use Rattle.std.specs.Bool.{OnTrue}
use Rattle.std.proofs.lemmas.Bool.{OnTrue_from}
use Rattle.chip_model.specs.Chip.{Chip, word_of}
use Rattle.chip_blocks.specs.units.Pins as pins
use Rattle.module_machines.specs.pwm.Bounds.{OutputsAgree}
use Rattle.module_machines.specs.pwm.Machine.{PwmState}
use Rattle.run_model.specs.World.{World}
use Rattle.spi_machine.specs.Bounds.{HoldsArrays}
use Rattle.spi_machine.specs.State.{SpiState}
use Rattle.spi_machine.specs.declared.table.SpiTable.{SpiTable}
use Rattle.audit_frames.specs.Decides.{Decides}
use Rattle.audit_machines.specs.System.{SystemState, Tables}
use Rattle.audit_modules.specs.Agrees.{PinsUnless}
use Rattle.audit_whole.specs.Aspects.{agrees}
use Rattle.audit_whole.specs.declared.aspects.Aspect.{Aspect}
use Rattle.audit_whole.specs.declared.aspects.Aspect.TheVariants.{Outputs, Pins, Ram, Stamps, Results, Arrays}
use Rattle.audit_whole.proofs.agreeing.agrees_in.Goals as goal

-- what is seen of an aspect is seen of the one that was asked
of_this : (t : Tables SpiTable) (chip : Chip) (w : World) (s : SystemState SpiState) (b : Bool) (asked is : Aspect) → asked ≡ is → OnTrue b (agrees is t chip w s) → OnTrue b (agrees asked t chip w s)
of_this t chip w s b asked is e h = subst (λ (a : Aspect). OnTrue b (agrees a t chip w s)) (sym e) h

pub returns-in-Outputs : goal.returns-in-Outputs
returns-in-Outputs c w s at h =
    let host = c.args.modules.now.host in
    let t : Tables SpiTable = (((host.first.first.first.driver, host.first.first.second.driver), (host.first.second.first.driver, host.first.second.second.driver)), ((host.second.first.first.driver, host.second.first.second.driver), (host.second.second.first.table, host.second.second.second.configured.table))) in
    let e = subst (λ (x : PwmState). Decides c.outputs_agree.result (OutputsAgree host.second.first.first.driver c.args.bus.now.pulses w x)) h.1.0.0 (c.outputs_agree.ensures w at.now) in
    of_this t c.args.bus.now w s c.outputs_agree.result c.args.aspect Outputs c.in-Outputs.is (OnTrue_from c.outputs_agree.result _ e.says)

pub returns-in-Pins : goal.returns-in-Pins
returns-in-Pins c w s at h =
    let host = c.args.modules.now.host in
    let t : Tables SpiTable = (((host.first.first.first.driver, host.first.first.second.driver), (host.first.second.first.driver, host.first.second.second.driver)), ((host.second.first.first.driver, host.second.first.second.driver), (host.second.second.first.table, host.second.second.second.configured.table))) in
    let e = subst (λ (b : pins.Pins). Decides c.pins_stand.result (PinsUnless false b s.0.1.0)) c.pins.ensures (c.pins_stand.ensures s.0.1.0 h.0.1.0) in
    of_this t c.args.bus.now w s c.pins_stand.result c.args.aspect Pins c.in-Pins.is (OnTrue_from c.pins_stand.result _ e.says)

pub returns-in-Ram : goal.returns-in-Ram
returns-in-Ram c w s at h =
    let host = c.args.modules.now.host in
    let t : Tables SpiTable = (((host.first.first.first.driver, host.first.first.second.driver), (host.first.second.first.driver, host.first.second.second.driver)), ((host.second.first.first.driver, host.second.first.second.driver), (host.second.second.first.table, host.second.second.second.configured.table))) in
    of_this t c.args.bus.now w s c.ram_agrees.result c.args.aspect Ram c.in-Ram.is (OnTrue_from c.ram_agrees.result _ (c.ram_agrees.ensures s.0.0.0 h.0.0.0).says)

pub returns-in-Stamps : goal.returns-in-Stamps
returns-in-Stamps c w s at h =
    let host = c.args.modules.now.host in
    let t : Tables SpiTable = (((host.first.first.first.driver, host.first.first.second.driver), (host.first.second.first.driver, host.first.second.second.driver)), ((host.second.first.first.driver, host.second.first.second.driver), (host.second.second.first.table, host.second.second.second.configured.table))) in
    of_this t c.args.bus.now w s c.stamps_agree.result c.args.aspect Stamps c.in-Stamps.is (OnTrue_from c.stamps_agree.result _ (c.stamps_agree.ensures s.1.0.1 h.1.0.1).says)

pub returns-in-Results : goal.returns-in-Results
returns-in-Results c w s at h =
    let host = c.args.modules.now.host in
    let t : Tables SpiTable = (((host.first.first.first.driver, host.first.first.second.driver), (host.first.second.first.driver, host.first.second.second.driver)), ((host.second.first.first.driver, host.second.first.second.driver), (host.second.second.first.table, host.second.second.second.configured.table))) in
    of_this t c.args.bus.now w s c.results_agree.result c.args.aspect Results c.in-Results.is (OnTrue_from c.results_agree.result _ (c.results_agree.ensures s.1.1.0 h.1.1.0).says)

pub returns-in-Arrays : goal.returns-in-Arrays
returns-in-Arrays c w s at h =
    let host = c.args.modules.now.host in
    let t : Tables SpiTable = (((host.first.first.first.driver, host.first.first.second.driver), (host.first.second.first.driver, host.first.second.second.driver)), ((host.second.first.first.driver, host.second.first.second.driver), (host.second.second.first.table, host.second.second.second.configured.table))) in
    let e = subst (λ (x : SpiState). Decides c.arrays_agree.result ((k : ℕ) → HoldsArrays (word_of c.args.bus.now) host.second.second.second.configured.table x k)) h.1.1.1 c.arrays_agree.ensures in
    of_this t c.args.bus.now w s c.arrays_agree.result c.args.aspect Arrays c.in-Arrays.is (OnTrue_from c.arrays_agree.result _ e.says)
