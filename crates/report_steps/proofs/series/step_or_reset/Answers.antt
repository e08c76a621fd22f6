-- What comes is what the next line tells.
use Rattle.std.proofs.Common.{sym, ◌∙◌, ap, subst}
use Rattle.std.proofs.lemmas.Bool.{OnTrue_at}
use Rattle.audit_base.proofs.Products.{if_ok, if_ok_both}
use Rattle.report_text.specs.Unread.{Unread, after_told, own_text}
use Rattle.report_auditor.specs.Auditing.{Stands}
use Rattle.report_steps.specs.Going.{MakesAwaited, ResetCame, RunsOutRight, step_in}
use Rattle.report_steps.specs.StepRules.{MakesStep}
use Rattle.report_steps.proofs.ComeLaws.{few_opens}
use Rattle.report_steps.proofs.LinesLaws.{advances_on}
use Rattle.report_steps.proofs.NextLaws.{comes_at_once, comes_awaiting, none_next, was_reset, wasnt_reset}
use Rattle.report_steps.proofs.TellsLaws.{no_reset, no_step, no_wait, nothing, tells_reset, tells_step, tells_wait}
use Rattle.report_steps.proofs.series.step_or_reset.Goals as goal

pub returns-in-Some-told_step-clause-came : goal.returns-in-Some-told_step-clause-came
returns-in-Some-told_step-clause-came g c t p stands served =
    let own = g.P.Subject.setting t in
    let S = Stands g.P.Whole.agrees g.P.Subject.setting g.P.Part.table g.P.Part.stands t c.comes.new.auditor in
    let r = c.args.report.now in
    let s = c.in-Some-told_step.step in
    let told = tells_step _ c.in-Some.told (sym c.in_ok-told.ensures.told ∙ c.in-Some.is) s (sym c.told_step.ensures ∙ c.in-Some-told_step.is) in
    let taken = c.in_ok-told.ensures.taken ∙ ap (λ x. after_told r x) (c.in_ok-told.ensures.told ∙ told) in
    let few = few_opens own _ p.moment.opens stands.frames c.requires.ready.sound.few in
    if_ok_both c.comes.result
    (λ came makes never. comes_at_once own p S r c.in_ok-told.ensures.number few s told came c.comes.new.report never
    (subst (λ (u : Unread). MakesStep own p s S u.number (own_text u) (own_text c.comes.new.report) (step_in came)) taken makes))
    (c.comes.ensures.comes t p stands served) c.comes.ensures.never

pub returns-in-Some-told_wait-clause-came : goal.returns-in-Some-told_wait-clause-came
returns-in-Some-told_wait-clause-came g c t p stands served =
    let own = g.P.Subject.setting t in
    let S = Stands g.P.Whole.agrees g.P.Subject.setting g.P.Part.table g.P.Part.stands t c.waits.new.auditor in
    let r = c.args.report.now in
    let n = c.in-Some-told_wait.ticks in
    let told = tells_wait _ c.in-Some.told (sym c.in_ok-told.ensures.told ∙ c.in-Some.is) n (sym c.told_wait.ensures ∙ c.in-Some-told_wait.is) in
    let taken = c.in_ok-told.ensures.taken ∙ ap (λ x. after_told r x) (c.in_ok-told.ensures.told ∙ told) in
    let few = few_opens own _ p.moment.opens stands.frames c.requires.ready.sound.few in
    if_ok_both c.waits.result
    (λ came makes never. comes_awaiting own p S r c.in_ok-told.ensures.number few n told came c.waits.new.report never
    (subst (λ (u : Unread). MakesAwaited own p n S u.number (own_text u) (own_text c.waits.new.report) (step_in came)) taken makes))
    (c.waits.ensures.waits t p stands served) c.waits.ensures.never

pub returns-in-Some-told_step-clause-on : goal.returns-in-Some-told_step-clause-on
returns-in-Some-told_step-clause-on g c = if_ok c.comes.result (λ came on. advances_on c.args.report.now c.next.new.report c.comes.new.report c.in_ok-told.ensures.on on) c.comes.ensures.on

pub returns-in-Some-told_wait-clause-on : goal.returns-in-Some-told_wait-clause-on
returns-in-Some-told_wait-clause-on g c = if_ok c.waits.result (λ came on. advances_on c.args.report.now c.next.new.report c.waits.new.report c.in_ok-told.ensures.on on) c.waits.ensures.on

pub returns-in_default-clause-came : goal.returns-in_default-clause-came
returns-in_default-clause-came g c t p stands served =
    let own = g.P.Subject.setting t in
    let nothing_told = nothing _ (sym c.in_ok-told.ensures.told ∙ c.in_default.is) in
    none_next own p (Stands g.P.Whole.agrees g.P.Subject.setting g.P.Part.table g.P.Part.stands t c.args.auditor.now) c.args.report.now c.in_ok-told.ensures.number (few_opens own _ p.moment.opens stands.frames c.requires.ready.sound.few) (λ s e. nothing_told _ e) (λ n e. nothing_told _ e) (λ n e. nothing_told _ e)

pub returns-in_default-clause-on : goal.returns-in_default-clause-on
returns-in_default-clause-on g c = c.in_ok-told.ensures.on

pub returns-in_default-told_reset-clause-came : goal.returns-in_default-told_reset-clause-came
returns-in_default-told_reset-clause-came g c t p stands served =
    let own = g.P.Subject.setting t in
    let is = sym c.in_ok-told.ensures.told ∙ c.in-Some.is in
    none_next own p (Stands g.P.Whole.agrees g.P.Subject.setting g.P.Part.table g.P.Part.stands t c.args.auditor.now) c.args.report.now c.in_ok-told.ensures.number (few_opens own _ p.moment.opens stands.frames c.requires.ready.sound.few)
    (no_step _ c.in-Some.told is (sym c.told_step.ensures ∙ c.in_default-told_step.is)) (no_wait _ c.in-Some.told is (sym c.told_wait.ensures ∙ c.in_default-told_wait.is)) (no_reset _ c.in-Some.told is (sym c.told_reset.ensures ∙ c.in_default-told_reset.is))

pub returns-in_default-told_reset-clause-on : goal.returns-in_default-told_reset-clause-on
returns-in_default-told_reset-clause-on g c = c.in_ok-told.ensures.on

pub returns-then-not-right-clause-came : goal.returns-then-not-right-clause-came
returns-then-not-right-clause-came g c t p stands served =
    let own = g.P.Subject.setting t in
    let n = c.in-Some-told_reset.dropped in
    let S = Stands g.P.Whole.agrees g.P.Subject.setting g.P.Part.table g.P.Part.stands t c.runs_out.new.auditor in
    wasnt_reset own p S c.args.report.now c.in_ok-told.ensures.number (few_opens own _ p.moment.opens stands.frames c.requires.ready.sound.few) n (tells_reset _ c.in-Some.told (sym c.in_ok-told.ensures.told ∙ c.in-Some.is) n (sym c.told_reset.ensures ∙ c.in-Some-told_reset.is))
    (subst (λ b. RunsOutRight own p n S b) c.if-not-right.true (c.in_ok-right.ensures.out t p stands served))

pub returns-then-not-right-clause-on : goal.returns-then-not-right-clause-on
returns-then-not-right-clause-on g c = c.in_ok-told.ensures.on

pub returns-clause-came : goal.returns-clause-came
returns-clause-came g c t p stands served =
    let own = g.P.Subject.setting t in
    let r = c.args.report.now in
    let n = c.in-Some-told_reset.dropped in
    let S = Stands g.P.Whole.agrees g.P.Subject.setting g.P.Part.table g.P.Part.stands t c.runs_out.new.auditor in
    let told = tells_reset _ c.in-Some.told (sym c.in_ok-told.ensures.told ∙ c.in-Some.is) n (sym c.told_reset.ensures ∙ c.in-Some-told_reset.is) in
    let taken = c.in_ok-told.ensures.taken ∙ ap (λ x. after_told r x) (c.in_ok-told.ensures.told ∙ told) in
    subst (λ (u : Unread). ResetCame own p S r u) (sym taken)
    (was_reset own p S r c.in_ok-told.ensures.number (few_opens own _ p.moment.opens stands.frames c.requires.ready.sound.few) n told (subst (λ b. RunsOutRight own p n S b) c.if-not-right.false (c.in_ok-right.ensures.out t p stands served)))

pub returns-clause-ready : goal.returns-clause-ready
returns-clause-ready g c given ready = OnTrue_at c.if-not-right.false (c.in_ok-right.ensures.ready given ready)

pub returns-clause-on : goal.returns-clause-on
returns-clause-on g c = c.in_ok-told.ensures.on
