use Rattle.std.proofs.Common.{ap, subst}
use Rattle.std.proofs.Math.Nat.{le_trans}
use Rattle.audit_clock.specs.PinStands.{StandsFor}
use Rattle.audit_clock.specs.PortPins.{IsAround}
use Rattle.audit_machines.proofs.GuestLaws.{gives_lifted}
use Rattle.audit_machines.specs.Guest.{output_at}
use Rattle.audit_machines.proofs.pin_calls.act_on.Goals as goal

pub returns-clause-gives : goal.returns-clause-gives
returns-clause-gives g c w s at stands =
    let m = c.args.modules.now in
    let pulses = m.second.first.first in
    let outputs = c.args.outputs.now in
    let around = subst (λ x. IsAround c.around-around.result w (output_at pulses.driver outputs w x)) stands.1.0.0 (c.around-around.ensures w at) in
    gives_lifted pulses.driver outputs w s (StandsFor c.act.new.pins) _ c.act.result c.args.ports.now c.args.call (λ x pins. ((stands.0.0, (pins, stands.0.1.1)), stands.1))
    (c.act.ensures.is w s.0.1.0 (output_at pulses.driver outputs w s.1.0.0) around stands.0.1.0)

pub returns-clause-fits : goal.returns-clause-fits
returns-clause-fits g c o a =
    let m = c.args.modules.now in
    let x = c.args.outside.now in
    let f = c.requires.fits in (
      (g.met.C.Part.later m.first.first x o f.0.0 a, (tt, g.met.T.Part.later m.first.second.second x o f.0.1.1 a)),
      ((le_trans f.1.0.0 a.time, g.met.K.Part.later m.second.first.second x o f.1.0.1 a), g.met.R.Part.later m.second.second x o f.1.1 a),
    )

pub returns-clause-table : goal.returns-clause-table
returns-clause-table g c =
    let m = c.args.modules.now in
    ap (λ d. ((g.C.Part.table m.first.first, (d, g.T.Part.table m.first.second.second)), ((m.second.first.first.driver, g.K.Part.table m.second.first.second), g.R.Part.table m.second.second))) c.act.ensures.driver
