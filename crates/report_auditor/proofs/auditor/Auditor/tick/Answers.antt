-- A tick is never held.
use Rattle.std.proofs.Common.{◌+◌, refl, arith}
use Rattle.report_auditor.proofs.SoundLaws.{as_many}
use Rattle.report_auditor.proofs.auditor.Auditor.tick.Goals as goal

pub returns-clause-comes : goal.returns-clause-comes
returns-clause-comes g c t p stands served = c.happens.ensures.comes t p stands served refl

pub returns-clause-ready : goal.returns-clause-ready
returns-clause-ready g c given ready = c.happens.ensures.ready given (as_many g.P.Part.fits g.P.Whole.within g.P.Part.ticks c.args.self.now given (0 + given) (omega arith) ready)
