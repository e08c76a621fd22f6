-- Where the mask is open, lines and outputs agree.
use Rattle.std.proofs.Common.{◌≡◌, true, false, sym, ◌∙◌, ap}
use Rattle.chip_model.specs.Chip.{is_masked}
use Rattle.audit_frames.proofs.Deciding.{no, worded, yes}
use Rattle.mcal_base.specs.facts.Truths.{on_off}
use Rattle.report_auditor.proofs.ServedParts.{fails, opened, outputs_by}
use Rattle.report_auditor.proofs.auditor.Auditor.is_open_right.Goals as goal

pub returns-then-masked : goal.returns-then-masked
returns-then-masked g c t p stands =
    let s = rw (← c.self.view_is) at stands in
    let closed : is_masked p.moment.chip ≡ true = sym (ap is_masked s.chip) ∙ (sym c.masked.ensures ∙ c.if-masked.true) in
    yes (λ off. on_off (sym closed ∙ off))

pub returns-then-not-lines_agree : goal.returns-then-not-lines_agree
returns-then-not-lines_agree g c t p stands =
    let s = rw (← c.self.view_is) at stands in
    let unmasked : is_masked p.moment.chip ≡ false = sym (ap is_masked s.chip) ∙ (sym c.masked.ensures ∙ c.if-masked.false) in
    no (λ h. fails c.lines_agree.result (c.lines_agree.ensures t p stands) c.if-not-lines_agree.true (h unmasked).lines)

pub returns-then-knows_open : goal.returns-then-knows_open
returns-then-knows_open g c t p stands =
    let s = rw (← c.self.view_is) at stands in
    let lines = (c.lines_agree.ensures t p stands).says c.if-not-lines_agree.false in
    let outputs = opened g.P.Whole.agrees g.P.Subject.setting g.P.Part.table g.P.Part.stands g.P.Part.member g.met.P.Subject.member_is t _ p s g.met.P.Whole.opens (sym c.knows_open.ensures ∙ c.if-knows_open.true) in
    yes (λ off. record { lines = lines; outputs = outputs })

pub returns : goal.returns
returns g c t p stands =
    let s = rw (← c.self.view_is) at stands in
    let fits = rw (← c.self.view_is) at c.requires.fits in
    let unmasked : is_masked p.moment.chip ≡ false = sym (ap is_masked s.chip) ∙ (sym c.masked.ensures ∙ c.if-masked.false) in
    let lines = (c.lines_agree.ensures t p stands).says c.if-not-lines_agree.false in
    let outputs = outputs_by g.P.Whole.agrees g.P.Subject.setting g.P.Part.table g.P.Part.stands g.P.Part.member g.met.P.Subject.member_is t _ p s c.agrees_open.result
    (rw c.as_slice-origins.ensures.value at (c.agrees_open.ensures p.moment.world p.moment.state fits s.world s.state)) in
    worded (λ h off. record { lines = lines; outputs = h }) (λ h. (h unmasked).outputs) outputs
