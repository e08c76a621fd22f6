use Rattle.std.proofs.Common.{arith}
use Rattle.sweep_trials.proofs.Naming.{within_all}
use Rattle.sweep_trials.proofs.opened.Opened.name.Goals as goal

pub returns-then-len-place : goal.returns-then-len-place
returns-then-len-place c = λ p h. absurd (omega (arith, within_all c.args.self.now c.args.place p h, c.if-len-place.true, c.len.ensures, c.args.self.now.all.ok.0))
