use Rattle.std.proofs.Common.{ℕ, subst}
use Rattle.chip_model.specs.Chip.{word_of}
use Rattle.chip_blocks.specs.units.Pins as pins
use Rattle.module_machines.specs.port.Bounds.{PinsAgree}
use Rattle.spi_machine.specs.Bounds.{HoldsArrays}
use Rattle.spi_machine.specs.State.{SpiState}
use Rattle.audit_frames.specs.Decides.{Decides}
use Rattle.audit_frames.proofs.Deciding.{no, worded}
use Rattle.audit_modules.proofs.Below.{fails}
use Rattle.audit_modules.proofs.agreeing.rests.Goals as goal

pub returns-then-not-ram_agrees : goal.returns-then-not-ram_agrees
returns-then-not-ram_agrees c s h = no (λ x. fails c.ram_agrees.result (c.ram_agrees.ensures s.0.0.0 h.0.0.0) c.if-not-ram_agrees.true x.ram)

pub returns-then-not-pins_agree : goal.returns-then-not-pins_agree
returns-then-not-pins_agree c s h =
    let e = subst (λ (b : pins.Pins). Decides c.pins_agree.result (PinsAgree b s.0.1.0)) c.pins.ensures (c.pins_agree.ensures.agree s.0.1.0 h.0.1.0) in
    no (λ x. fails c.pins_agree.result e c.if-not-pins_agree.true x.pins)

pub returns-then-not-stamps_agree : goal.returns-then-not-stamps_agree
returns-then-not-stamps_agree c s h = no (λ x. fails c.stamps_agree.result (c.stamps_agree.ensures s.1.0.1 h.1.0.1) c.if-not-stamps_agree.true x.stamps)

pub returns-then-not-results_agree : goal.returns-then-not-results_agree
returns-then-not-results_agree c s h = no (λ x. fails c.results_agree.result (c.results_agree.ensures s.1.1.0 h.1.1.0) c.if-not-results_agree.true x.results)

pub returns : goal.returns
returns c s h =
    let e = subst (λ (b : pins.Pins). Decides c.pins_agree.result (PinsAgree b s.0.1.0)) c.pins.ensures (c.pins_agree.ensures.agree s.0.1.0 h.0.1.0) in
    let f = subst (λ (x : SpiState). Decides c.arrays_agree.result ((k : ℕ) → HoldsArrays (word_of c.args.bus.now) c.args.modules.now.host.second.second.second.configured.table x k)) h.1.1.1 c.arrays_agree.ensures in
    worded
    (λ y. record {
      ram = (c.ram_agrees.ensures s.0.0.0 h.0.0.0).says c.if-not-ram_agrees.false;
      pins = e.says c.if-not-pins_agree.false;
      stamps = (c.stamps_agree.ensures s.1.0.1 h.1.0.1).says c.if-not-stamps_agree.false;
      results = (c.results_agree.ensures s.1.1.0 h.1.1.0).says c.if-not-results_agree.false;
      arrays = y;
    })
    (λ x. x.arrays)
    f
