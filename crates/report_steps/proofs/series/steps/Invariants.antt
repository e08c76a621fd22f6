use Rattle.std.proofs.Common.{◌-◌}
use Rattle.report_steps.proofs.LoopLaws.{SoGoes}
use Rattle.report_steps.proofs.series.steps.Given as goal

abbrev pub invariant-steps : goal.invariant-steps
invariant-steps g l = SoGoes g.P.Whole.agrees g.P.Subject.setting g.P.Part.table g.P.Part.stands g.P.Part.fits g.P.Whole.within g.P.Part.ticks l.reach l.initial.auditor l.auditor l.initial.report l.report l.count l.silent

abbrev pub decreases-steps : goal.decreases-steps
decreases-steps g l = 18446744073709551615 - l.count
