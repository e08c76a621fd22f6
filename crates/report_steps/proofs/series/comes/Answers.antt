-- A step that came is one that was made.
use Rattle.std.proofs.Common.{subst}
use Rattle.std.specs.Option.{IfSome}
use Rattle.report_text.specs.Unread.{own_text}
use Rattle.report_auditor.specs.Auditing.{IsReady, Stands}
use Rattle.report_steps.specs.StepRules.{MakesStep}
use Rattle.report_steps.proofs.series.comes.Goals as goal

pub returns-in-Some-clause-comes : goal.returns-in-Some-clause-comes
returns-in-Some-clause-comes g c t p stands served =
    subst (λ x. MakesStep (g.P.Subject.setting t) p c.args.read.now (Stands g.P.Whole.agrees g.P.Subject.setting g.P.Part.table g.P.Part.stands t c.step.new.auditor) c.args.report.now.number (own_text c.args.report.now) (own_text c.step.new.report) x) c.in-Some.is
    (c.in_ok-made.ensures.makes t p stands served)

pub returns-in-Some-clause-ready : goal.returns-in-Some-clause-ready
returns-in-Some-clause-ready g c given ready = subst (λ x. IfSome x (λ _. IsReady g.P.Part.fits g.P.Whole.within g.P.Part.ticks given c.step.new.auditor)) c.in-Some.is (c.in_ok-made.ensures.ready given ready)

pub returns-in-None-clause-comes : goal.returns-in-None-clause-comes
returns-in-None-clause-comes g c t p stands served =
    subst (λ x. MakesStep (g.P.Subject.setting t) p c.args.read.now (Stands g.P.Whole.agrees g.P.Subject.setting g.P.Part.table g.P.Part.stands t c.step.new.auditor) c.args.report.now.number (own_text c.args.report.now) (own_text c.step.new.report) x) c.in-None.is
    (c.in_ok-made.ensures.makes t p stands served)
