-- A step comes behind its wait.
use Rattle.std.proofs.Common.{arith, sym, ◌∙◌, ap, subst}
use Rattle.std.proofs.lemmas.Bool.{OnTrue_at}
use Rattle.mcal_base.specs.declared.directive.Order.TheVariants.{Tick}
use Rattle.run_model.specs.Moment.{Happens}
use Rattle.audit_base.proofs.Products.{if_ok, if_ok_both}
use Rattle.report_text.specs.reading.Steps.{Comes}
use Rattle.report_text.specs.Unread.{Unread, after_told, own_text}
use Rattle.report_auditor.specs.Auditing.{Stands}
use Rattle.report_auditor.specs.Deeds.{Judges}
use Rattle.report_steps.specs.Going.{step_in, waited_to}
use Rattle.report_steps.specs.StepRules.{MakesStep}
use Rattle.report_steps.proofs.BehindLaws.{behind_ticks, no_step, not_right, not_ticked}
use Rattle.report_steps.proofs.ComeLaws.{fails, few_opens}
use Rattle.report_steps.proofs.LinesLaws.{advances_on}
use Rattle.report_steps.proofs.TellsLaws.{nothing, tells_step}
use Rattle.report_steps.proofs.TellsLaws as tells
use Rattle.report_steps.proofs.series.waits.Goals as goal

pub returns-in_default-clause-waits : goal.returns-in_default-clause-waits
returns-in_default-clause-waits g c t p stands served =
    no_step (g.P.Subject.setting t) p c.args.ticks (Stands g.P.Whole.agrees g.P.Subject.setting g.P.Part.table g.P.Part.stands t c.args.auditor.now) c.args.report.now c.in_ok-told.ensures.number (few_opens (g.P.Subject.setting t) _ p.moment.opens stands.frames c.requires.ready.sound.few) (own_text c.args.report.now) (λ s e. nothing _ (sym c.in_ok-told.ensures.told ∙ c.in_default.is) _ e)

pub returns-in_default-clause-on : goal.returns-in_default-clause-on
returns-in_default-clause-on g c = c.in_ok-told.ensures.on

pub returns-in_default-told_step-clause-waits : goal.returns-in_default-told_step-clause-waits
returns-in_default-told_step-clause-waits g c t p stands served =
    no_step (g.P.Subject.setting t) p c.args.ticks (Stands g.P.Whole.agrees g.P.Subject.setting g.P.Part.table g.P.Part.stands t c.args.auditor.now) c.args.report.now c.in_ok-told.ensures.number (few_opens (g.P.Subject.setting t) _ p.moment.opens stands.frames c.requires.ready.sound.few) (own_text c.args.report.now)
    (tells.no_step _ c.in-Some.told (sym c.in_ok-told.ensures.told ∙ c.in-Some.is) (sym c.told_step.ensures ∙ c.in_default-told_step.is))

pub returns-in_default-told_step-clause-on : goal.returns-in_default-told_step-clause-on
returns-in_default-told_step-clause-on g c = c.in_ok-told.ensures.on

pub returns-then-not-waits_right-clause-waits : goal.returns-then-not-waits_right-clause-waits
returns-then-not-waits_right-clause-waits g c t p stands served =
    not_right (g.P.Subject.setting t) p c.args.ticks (Stands g.P.Whole.agrees g.P.Subject.setting g.P.Part.table g.P.Part.stands t c.args.auditor.now) c.args.report.now c.in_ok-told.ensures.number (few_opens (g.P.Subject.setting t) _ p.moment.opens stands.frames c.requires.ready.sound.few) c.in-Some-told_step.step (tells_step _ c.in-Some.told (sym c.in_ok-told.ensures.told ∙ c.in-Some.is) c.in-Some-told_step.step (sym c.told_step.ensures ∙ c.in-Some-told_step.is)) (own_text c.args.report.now)
    (fails c.waits_right.result (c.waits_right.ensures t p stands) c.if-not-waits_right.true)

pub returns-then-not-came-clause-waits : goal.returns-then-not-came-clause-waits
returns-then-not-came-clause-waits g c t p stands served =
    not_ticked (g.P.Subject.setting t) p c.args.ticks (Stands g.P.Whole.agrees g.P.Subject.setting g.P.Part.table g.P.Part.stands t c.args.auditor.now) c.args.report.now c.in_ok-told.ensures.number (few_opens (g.P.Subject.setting t) _ p.moment.opens stands.frames c.requires.ready.sound.few) c.in-Some-told_step.step (tells_step _ c.in-Some.told (sym c.in_ok-told.ensures.told ∙ c.in-Some.is) c.in-Some-told_step.step (sym c.told_step.ensures ∙ c.in-Some-told_step.is)) (own_text c.args.report.now)
    (subst (λ b. Judges b (Comes (g.P.Subject.setting t) p.moment (Happens (Tick c.args.ticks))) (Stands g.P.Whole.agrees g.P.Subject.setting g.P.Part.table g.P.Part.stands t c.tick.new.self (waited_to (g.P.Subject.setting t) p c.args.ticks))) c.if-not-came.true (c.in_ok-came.ensures.comes t p stands served))

pub returns-then-not-waits_right-clause-on : goal.returns-then-not-waits_right-clause-on
returns-then-not-waits_right-clause-on g c = c.in_ok-told.ensures.on

pub returns-then-not-came-clause-on : goal.returns-then-not-came-clause-on
returns-then-not-came-clause-on g c = c.in_ok-told.ensures.on

pub comes-requires : goal.comes-requires
comes-requires g c = record { ready = OnTrue_at c.if-not-came.false (c.in_ok-came.ensures.ready 0 c.requires.ready) }

pub returns-clause-waits : goal.returns-clause-waits
returns-clause-waits g c t p stands served =
    let own = g.P.Subject.setting t in
    let S = Stands g.P.Whole.agrees g.P.Subject.setting g.P.Part.table g.P.Part.stands t c.comes.new.auditor in
    let r = c.args.report.now in
    let n = c.args.ticks in
    let s = c.in-Some-told_step.step in
    let told = tells_step _ c.in-Some.told (sym c.in_ok-told.ensures.told ∙ c.in-Some.is) s (sym c.told_step.ensures ∙ c.in-Some-told_step.is) in
    let taken = c.in_ok-told.ensures.taken ∙ ap (λ x. after_told r x) (c.in_ok-told.ensures.told ∙ told) in
    let few = few_opens own _ p.moment.opens stands.frames c.requires.ready.sound.few in
    let ticked = subst (λ b. Judges b (Comes own p.moment (Happens (Tick n))) (Stands g.P.Whole.agrees g.P.Subject.setting g.P.Part.table g.P.Part.stands t c.tick.new.self (waited_to own p n))) c.if-not-came.false (c.in_ok-came.ensures.comes t p stands served) in
    if_ok_both c.comes.result
    (λ came makes never. behind_ticks own p n S r c.in_ok-told.ensures.number few s told came c.comes.new.report never ((c.waits_right.ensures t p stands).says c.if-not-waits_right.false) (omega (arith, c.ranges.ticks)) ticked.0
    (subst (λ (u : Unread). MakesStep own (waited_to own p n) s S u.number (own_text u) (own_text c.comes.new.report) (step_in came)) taken makes))
    (c.comes.ensures.comes t (waited_to own p n) ticked.1 ticked.0.served) c.comes.ensures.never

pub returns-clause-ready : goal.returns-clause-ready
returns-clause-ready g c given ready = c.comes.ensures.ready given (OnTrue_at c.if-not-came.false (c.in_ok-came.ensures.ready given ready))

pub returns-clause-on : goal.returns-clause-on
returns-clause-on g c = if_ok c.comes.result (λ came on. advances_on c.args.report.now c.next.new.report c.comes.new.report c.in_ok-told.ensures.on on) c.comes.ensures.on
