use Rattle.std.proofs.Common.{arith}
use Rattle.sweep_trials.proofs.Putting.{some_place}
use Rattle.sweep_trials.proofs.opened.Opened.count.Goals as goal

pub returns-clause-some : goal.returns-clause-some
returns-clause-some c =
    let s = c.args.self.now in
    some_place s.block.items s.steps.items s.all.items c.len.result s.each (omega (arith, s.all.ok.0))
