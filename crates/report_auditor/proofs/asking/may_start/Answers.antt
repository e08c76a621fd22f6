-- A frame that has not acted may start a unit for its call.
use Rattle.std.proofs.Common.{true, Option, sym, subst}
use Rattle.mcal_base.specs.declared.answer.Answer.{Answer}
use Rattle.run_model.specs.Legal.{StartsUncalled}
use Rattle.audit_frames.specs.Decides.{Decides}
use Rattle.audit_frames.proofs.Deciding.{yes}
use Rattle.report_auditor.proofs.HearLaws.{starts_for_none}
use Rattle.report_auditor.proofs.asking.may_start.Goals as goal

pub returns-in-Some : goal.returns-in-Some
returns-in-Some g c w s at stands =
    let mac = (g.S.Part.member (g.S.Part.table c.args.subject.now)).machine in
    subst (λ (x : Option Answer). Decides c.starts_uncalled.result (StartsUncalled mac w s c.args.unit x)) (sym c.in-Some.ensures) (starts_for_none mac w s c.args.unit c.in-Some.field-0.now c.starts_uncalled.result (λ received. c.starts_uncalled.ensures w s received c.requires.fits at stands))

pub returns-in-None : goal.returns-in-None
returns-in-None g c w s at stands =
    let mac = (g.S.Part.member (g.S.Part.table c.args.subject.now)).machine in
    subst (λ (x : Option Answer). Decides true (StartsUncalled mac w s c.args.unit x)) (sym c.in-None.ensures) (yes tt)
