-- With the mask closed and a frame under way nothing is asked.
use Rattle.std.proofs.Common.{◌≡◌, true, refl, sym, ◌∙◌, ap, option_copied}
use Rattle.chip_model.specs.Chip.{is_masked}
use Rattle.mcal_base.specs.facts.Truths.{on_off}
use Rattle.report_auditor.proofs.ServedLaws.{works}
use Rattle.report_auditor.proofs.auditor.Auditor.is_shut.Goals as goal

pub returns-in-Some : goal.returns-in-Some
returns-in-Some g c t p stands =
    let s = rw (← c.self.view_is) at stands in
    let closed : is_masked p.moment.chip ≡ true = sym (ap is_masked s.chip) ∙ (sym c.masked.ensures ∙ c.if-not-masked.false) in
    ((λ off. on_off (sym closed ∙ off)), (works (g.P.Subject.setting t) p.moment c.self.inside.frames _ p.moment.opens (ap option_copied (sym c.in-Some.is) ∙ c.top.ensures) s.frames).says refl)
