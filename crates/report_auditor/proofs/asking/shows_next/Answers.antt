-- A notice of a serving is looked at.
use Rattle.std.proofs.Common.{not, sym, ◌∙◌, ap}
use Rattle.mcal_base.specs.facts.Truths.{off_on}
use Rattle.audit_frames.proofs.Deciding.{worded, yes}
use Rattle.report_auditor.proofs.HearLaws.{not_off}
use Rattle.report_auditor.proofs.asking.shows_next.Goals as goal

pub returns-in-None : goal.returns-in-None
returns-in-None g c s stands = rw c.in-None.is (yes tt)

pub returns-then-not-owing : goal.returns-then-not-owing
returns-then-not-owing g c s stands = rw c.in-Some.is (yes (λ on. off_on (sym (ap not on) ∙ c.if-not-owing.true)))

pub returns-else-not-owing : goal.returns-else-not-owing
returns-else-not-owing g c s stands = rw c.in-Some.is (worded (λ h on. h) (λ f. f (not_off c.in-Some.owing.served c.if-not-owing.false)) (c.agrees_at.ensures s stands))
