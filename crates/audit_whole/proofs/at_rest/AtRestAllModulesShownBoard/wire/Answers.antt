use Rattle.std.proofs.Common.{◌≡◌, subst}
use Rattle.std.specs.Prelude.{IfOk}
use Rattle.shown_rows.specs.Wires.{pairs}
use Rattle.spi_machine.specs.State.{SpiState, wire_at}
use Rattle.audit_whole.proofs.at_rest.AtRestAllModulesShownBoard.wire.Goals as goal

pub returns : goal.returns
returns c w s h =
    let k = rw (← c.self.view_is) at h in
    subst (λ (x : SpiState). IfOk c.exchanges.result (λ words. pairs words.items ≡ wire_at x c.args.unit)) k.1.1.1.1 c.exchanges.ensures
