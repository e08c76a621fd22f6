-- Steps one after another, as far as the directive reaches.
use Rattle.std.proofs.Common.{sym, ◌∙◌, subst}
use Rattle.std.proofs.lemmas.Bool.{OnTrue_from}
use Rattle.audit_base.proofs.Products.{if_ok}
use Rattle.report_text.specs.Unread.{own_text}
use Rattle.report_auditor.specs.Auditing.{IsReady, Stands}
use Rattle.report_steps.specs.Going.{ComesNext, OnRight, ok_where}
use Rattle.report_steps.specs.Lines.{TakesLines}
use Rattle.report_steps.proofs.LinesLaws.{advances_on}
use Rattle.report_steps.proofs.LoopLaws.{SoGoes, again, last_one, none_yet, reset, resets_all, wrong}
use Rattle.report_steps.proofs.series.steps.Goals as goal

pub steps-init : goal.steps-init
steps-init g c = none_yet g.P.Whole.agrees g.P.Subject.setting g.P.Part.table g.P.Part.stands g.P.Part.fits g.P.Whole.within g.P.Part.ticks c.args.reach c.args.auditor.now c.args.report.now

pub step_or_reset-requires : goal.step_or_reset-requires
step_or_reset-requires g c = record { ready = c.steps.invariant.ready 0 c.requires.ready }

pub returns-in-Wrong-clause-steps : goal.returns-in-Wrong-clause-steps
returns-in-Wrong-clause-steps g c t p stands served =
    wrong g.P.Whole.agrees g.P.Subject.setting g.P.Part.table g.P.Part.stands g.P.Part.fits g.P.Whole.within g.P.Part.ticks c.args.reach c.args.auditor.now c.args.report.now c.steps.auditor c.step_or_reset.new.auditor c.steps.report c.step_or_reset.new.report c.steps.count c.steps.silent c.steps.invariant
    (λ u q h s. subst (λ x. ComesNext (g.P.Subject.setting u) q (Stands g.P.Whole.agrees g.P.Subject.setting g.P.Part.table g.P.Part.stands u c.step_or_reset.new.auditor) c.steps.report c.step_or_reset.new.report x) c.in-Wrong.is (c.in_ok-step_or_reset.ensures.came u q h s))
    t p stands served (own_text c.step_or_reset.new.report)

pub returns-in-Wrong-clause-on : goal.returns-in-Wrong-clause-on
returns-in-Wrong-clause-on g c = advances_on c.args.report.now c.steps.report c.step_or_reset.new.report c.steps.invariant.on c.in_ok-step_or_reset.ensures.on

pub returns-in-Reset-clause-steps : goal.returns-in-Reset-clause-steps
returns-in-Reset-clause-steps g c t p stands served =
    reset g.P.Whole.agrees g.P.Subject.setting g.P.Part.table g.P.Part.stands g.P.Part.fits g.P.Whole.within g.P.Part.ticks c.args.reach c.args.auditor.now c.args.report.now c.steps.auditor c.step_or_reset.new.auditor c.steps.report c.step_or_reset.new.report c.steps.count c.steps.silent c.steps.invariant
    (λ u q h s. subst (λ x. ComesNext (g.P.Subject.setting u) q (Stands g.P.Whole.agrees g.P.Subject.setting g.P.Part.table g.P.Part.stands u c.step_or_reset.new.auditor) c.steps.report c.step_or_reset.new.report x) c.in-Reset.is (c.in_ok-step_or_reset.ensures.came u q h s))
    t p stands served

pub returns-in-Reset-clause-ready : goal.returns-in-Reset-clause-ready
returns-in-Reset-clause-ready g c given ready = subst (λ x. OnRight x (IsReady g.P.Part.fits g.P.Whole.within g.P.Part.ticks given c.step_or_reset.new.auditor)) c.in-Reset.is (c.in_ok-step_or_reset.ensures.ready given (c.steps.invariant.ready given ready))

pub returns-in-Reset-clause-on : goal.returns-in-Reset-clause-on
returns-in-Reset-clause-on g c = advances_on c.args.report.now c.steps.report c.step_or_reset.new.report c.steps.invariant.on c.in_ok-step_or_reset.ensures.on

pub says_reset-requires : goal.says_reset-requires
says_reset-requires g c = record { ready = subst (λ x. OnRight x (IsReady g.P.Part.fits g.P.Whole.within g.P.Part.ticks 0 c.step_or_reset.new.auditor)) c.in-Step.is (c.in_ok-step_or_reset.ensures.ready 0 (c.steps.invariant.ready 0 c.requires.ready)) }

pub returns-then-resets-clause-steps : goal.returns-then-resets-clause-steps
returns-then-resets-clause-steps g c t p stands served =
    resets_all g.P.Whole.agrees g.P.Subject.setting g.P.Part.table g.P.Part.stands g.P.Part.fits g.P.Whole.within g.P.Part.ticks c.args.reach c.args.auditor.now c.args.report.now c.steps.auditor c.step_or_reset.new.auditor c.steps.report c.step_or_reset.new.report c.steps.count c.steps.silent c.steps.invariant
    c.in-Step.made
    (λ u q h s. subst (λ x. ComesNext (g.P.Subject.setting u) q (Stands g.P.Whole.agrees g.P.Subject.setting g.P.Part.table g.P.Part.stands u c.step_or_reset.new.auditor) c.steps.report c.step_or_reset.new.report x) c.in-Step.is (c.in_ok-step_or_reset.ensures.came u q h s))
    _ c.in_ok-count.ensures c.in_ok-step_or_reset.ensures.on
    c.says_reset.result c.says_reset.new.auditor c.says_reset.new.report (sym c.resets.ensures ∙ c.if-resets.true) c.says_reset.ensures.resets t p stands served

pub returns-then-resets-clause-ready : goal.returns-then-resets-clause-ready
returns-then-resets-clause-ready g c given ready = c.says_reset.ensures.ready given (subst (λ x. OnRight x (IsReady g.P.Part.fits g.P.Whole.within g.P.Part.ticks given c.step_or_reset.new.auditor)) c.in-Step.is (c.in_ok-step_or_reset.ensures.ready given (c.steps.invariant.ready given ready)))

pub returns-then-resets-clause-on : goal.returns-then-resets-clause-on
returns-then-resets-clause-on g c = if_ok c.says_reset.result (λ right on. advances_on c.args.report.now c.step_or_reset.new.report c.says_reset.new.report (advances_on c.args.report.now c.steps.report c.step_or_reset.new.report c.steps.invariant.on c.in_ok-step_or_reset.ensures.on) on) c.says_reset.ensures.on

pub returns-then-is_last-clause-steps : goal.returns-then-is_last-clause-steps
returns-then-is_last-clause-steps g c t p stands served =
    if_ok c.says_done.result (λ right taken. last_one g.P.Whole.agrees g.P.Subject.setting g.P.Part.table g.P.Part.stands g.P.Part.fits g.P.Whole.within g.P.Part.ticks c.args.reach c.args.auditor.now c.args.report.now c.steps.auditor c.step_or_reset.new.auditor c.steps.report c.step_or_reset.new.report c.steps.count c.steps.silent c.steps.invariant
    c.in-Step.made
    (λ u q h s. subst (λ x. ComesNext (g.P.Subject.setting u) q (Stands g.P.Whole.agrees g.P.Subject.setting g.P.Part.table g.P.Part.stands u c.step_or_reset.new.auditor) c.steps.report c.step_or_reset.new.report x) c.in-Step.is (c.in_ok-step_or_reset.ensures.came u q h s))
    _ c.in_ok-count.ensures c.in_ok-step_or_reset.ensures.on
    right c.says_done.new.report (sym c.resets.ensures ∙ c.if-resets.false) (sym c.is_last.ensures ∙ c.if-is_last.true)
    (subst (λ b. TakesLines right (ok_where b) c.step_or_reset.new.report c.says_done.new.report) c.keeps_silent-silent.ensures taken) t p stands served) c.says_done.ensures.says

pub returns-then-is_last-clause-ready : goal.returns-then-is_last-clause-ready
returns-then-is_last-clause-ready g c given ready =
    if_ok c.says_done.result (λ right on. OnTrue_from right _ (λ e. subst (λ x. OnRight x (IsReady g.P.Part.fits g.P.Whole.within g.P.Part.ticks given c.step_or_reset.new.auditor)) c.in-Step.is (c.in_ok-step_or_reset.ensures.ready given (c.steps.invariant.ready given ready)))) c.says_done.ensures.on

pub returns-then-is_last-clause-on : goal.returns-then-is_last-clause-on
returns-then-is_last-clause-on g c = if_ok c.says_done.result (λ right on. advances_on c.args.report.now c.step_or_reset.new.report c.says_done.new.report (advances_on c.args.report.now c.steps.report c.step_or_reset.new.report c.steps.invariant.on c.in_ok-step_or_reset.ensures.on) on) c.says_done.ensures.on

pub steps-preserved : goal.steps-preserved
steps-preserved g c =
    subst (λ b. SoGoes g.P.Whole.agrees g.P.Subject.setting g.P.Part.table g.P.Part.stands g.P.Part.fits g.P.Whole.within g.P.Part.ticks c.args.reach c.args.auditor.now c.step_or_reset.new.auditor c.args.report.now c.step_or_reset.new.report c.in_ok-count.count b) (sym c.keeps_silent-silent.ensures)
    (again g.P.Whole.agrees g.P.Subject.setting g.P.Part.table g.P.Part.stands g.P.Part.fits g.P.Whole.within g.P.Part.ticks c.args.reach c.args.auditor.now c.args.report.now c.steps.auditor c.step_or_reset.new.auditor c.steps.report c.step_or_reset.new.report c.steps.count c.steps.silent c.steps.invariant
    c.in-Step.made
    (λ u q h s. subst (λ x. ComesNext (g.P.Subject.setting u) q (Stands g.P.Whole.agrees g.P.Subject.setting g.P.Part.table g.P.Part.stands u c.step_or_reset.new.auditor) c.steps.report c.step_or_reset.new.report x) c.in-Step.is (c.in_ok-step_or_reset.ensures.came u q h s))
    _ c.in_ok-count.ensures c.in_ok-step_or_reset.ensures.on
    (sym c.resets.ensures ∙ c.if-resets.false) (sym c.is_last.ensures ∙ c.if-is_last.false)
    (λ given ready. subst (λ x. OnRight x (IsReady g.P.Part.fits g.P.Whole.within g.P.Part.ticks given c.step_or_reset.new.auditor)) c.in-Step.is (c.in_ok-step_or_reset.ensures.ready given ready)))
