-- What is known after the look is so in the same moment.
use Rattle.std.proofs.Common.{sym, subst}
use Rattle.report_auditor.proofs.auditor.Auditor.is_served.Goals as goal

pub is_right-requires-clause-fits : goal.is_right-requires-clause-fits
is_right-requires-clause-fits g c = subst (λ v. g.P.Part.fits v.parts v.outside) (sym c.looks.ensures.same) c.requires.fits

pub is_right-requires-clause-within : goal.is_right-requires-clause-within
is_right-requires-clause-within g c = subst (λ v. g.P.Whole.within v.parts) (sym c.looks.ensures.same) c.requires.within

pub returns-clause-served : goal.returns-clause-served
returns-clause-served g c t p stands = c.is_right.ensures.served t p (c.looks.ensures.stands t p stands)
