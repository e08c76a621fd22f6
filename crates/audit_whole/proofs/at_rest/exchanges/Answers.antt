use Rattle.std.proofs.Common.{◌≤◌, length, ◌∙◌, arith}
use Rattle.std.proofs.lemmas.List.{take_all}
use Rattle.spi_machine.specs.State.{wire_at}
use Rattle.audit_serial.specs.Stands.{state_of}
use Rattle.audit_whole.proofs.ShownLaws.{wire_more}
use Rattle.audit_whole.proofs.at_rest.exchanges.Goals as goal

pub loop-place-preserved : goal.loop-place-preserved
loop-place-preserved c = wire_more (wire_at (state_of c.args.serials.now) c.args.unit) c.loop-place.place _ _ _ c.in_ok-push.ensures.items c.loop-place.invariant c.exchange.ensures

pub returns : goal.returns
returns c =
    let words = wire_at (state_of c.args.serials.now) c.args.unit in
    let end : length words ≤ c.loop-place.place =
    let over = c.loop-place-test.false in
    let bound = c.wire_len-place-end.ensures in
    omega (arith, over, bound) in
    c.loop-place.invariant ∙ take_all c.loop-place.place words end
