use Rattle.std.proofs.Common.{◌+◌, ◌∷◌, subst, sym}
use Rattle.run_model.specs.World.{world_after}
use Rattle.audit_base.specs.Inputs.{Took}
use Rattle.audit_base.specs.Outside.{IsWorld}
use Rattle.audit_base.proofs.outside.Outside.move_by.Goals as goal

pub returns-in-Tick-clause-world : goal.returns-in-Tick-clause-world
returns-in-Tick-clause-world c w at =
    subst (λ order. IsWorld c.tick.new.self (world_after w c.args.rate order)) (sym c.in-Tick.is)
    (c.tick.ensures.world w (record { osc = at.osc; now = at.now; levels = at.levels; samples = at.samples }))

pub returns-in_ok-take-in-Analog-clause-world : goal.returns-in_ok-take-in-Analog-clause-world
returns-in_ok-take-in-Analog-clause-world c w at =
    let x = c.in-Analog in
    subst (λ order. IsWorld (record c.args.self.now { samples = c.take.new.self; told = c.args.self.now.told + 1 }) (world_after w c.args.rate order)) (sym x.is)
    (record {
      osc = at.osc;
      now = at.now;
      levels = at.levels;
      samples = subst (λ now. Took c.take.new.self (record { input = x.input; since = now; value = x.value } ∷ w.samples)) (sym at.now) (c.in_ok-take-in-Analog.ensures w.samples at.samples);
    })
