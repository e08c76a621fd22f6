-- The watchdog's time ends in a wait, where its ticks come and the reset behind them.
use Rattle.std.proofs.Common.{sym, ◌∙◌, subst}
use Rattle.std.proofs.lemmas.Bool.{OnTrue_at}
use Rattle.mcal_base.specs.declared.directive.Order.TheVariants.{Tick}
use Rattle.run_model.specs.Moment.{Happens}
use Rattle.audit_base.proofs.Products.{if_ok}
use Rattle.report_text.specs.reading.Steps.{Comes}
use Rattle.report_auditor.specs.Auditing.{Stands}
use Rattle.report_auditor.specs.Deeds.{Judges}
use Rattle.report_auditor.proofs.ServedParts.{as_run}
use Rattle.report_steps.specs.Going.{waited_to}
use Rattle.report_steps.proofs.ComeLaws.{depth_is}
use Rattle.report_steps.proofs.OutLaws.{as_left, no_ticks, no_time, no_wait, other_frames, runs_out, short_left}
use Rattle.report_steps.proofs.series.runs_out.Goals as goal

pub depth-requires : goal.depth-requires
depth-requires g c = record { few = c.requires.ready.sound.few }

pub resets-requires : goal.resets-requires
resets-requires g c = record { ready = OnTrue_at c.if-not-came.false (c.in_ok-came.ensures.ready 0 c.requires.ready) }

pub returns-in_default-clause-out : goal.returns-in_default-clause-out
returns-in_default-clause-out g c t p stands served =
    let s = rw (← c.auditor.view_is) at stands in
    no_time (g.P.Subject.setting t) p c.args.dropped (Stands g.P.Whole.agrees g.P.Subject.setting g.P.Part.table g.P.Part.stands t c.args.auditor.now) (sym (sym c.in_default.is ∙ as_run g.P.Whole.agrees g.P.Subject.setting g.P.Part.table g.P.Part.stands g.P.Part.member g.met.P.Subject.member_is t _ p s (λ mac. mac.expires p.moment.world p.moment.state) c.expires.result (c.expires.ensures p.moment.world p.moment.state s.world s.state)))

pub returns-then-dropped-depth-clause-out : goal.returns-then-dropped-depth-clause-out
returns-then-dropped-depth-clause-out g c t p stands served =
    other_frames (g.P.Subject.setting t) p c.args.dropped (Stands g.P.Whole.agrees g.P.Subject.setting g.P.Part.table g.P.Part.stands t c.args.auditor.now) (λ e. c.if-dropped-depth.true (e ∙ (depth_is (g.P.Subject.setting t) _ p.moment.opens stands.frames ∙ sym c.depth.ensures)))

pub returns-then-not-ends_waiting-clause-out : goal.returns-then-not-ends_waiting-clause-out
returns-then-not-ends_waiting-clause-out g c t p stands served =
    no_wait (g.P.Subject.setting t) p c.args.dropped (Stands g.P.Whole.agrees g.P.Subject.setting g.P.Part.table g.P.Part.stands t c.args.auditor.now) (g.met.P.Whole.waits t) c.ends_waiting.result (c.ends_waiting.ensures.ends t p stands) c.if-not-ends_waiting.true

pub returns-then-not-came-clause-out : goal.returns-then-not-came-clause-out
returns-then-not-came-clause-out g c t p stands served =
    let s = rw (← c.auditor.view_is) at stands in
    let expires = sym c.in-Some.is ∙ as_run g.P.Whole.agrees g.P.Subject.setting g.P.Part.table g.P.Part.stands g.P.Part.member g.met.P.Subject.member_is t _ p s (λ mac. mac.expires p.moment.world p.moment.state) c.expires.result (c.expires.ensures p.moment.world p.moment.state s.world s.state) in
    let short = short_left ((g.P.Subject.setting t).machine.expires p.moment.world p.moment.state) c.in-Some.left (sym expires) (c.ends_waiting.ensures.few c.if-not-ends_waiting.false t p stands) in
    no_ticks (g.P.Subject.setting t) p c.args.dropped (Stands g.P.Whole.agrees g.P.Subject.setting g.P.Part.table g.P.Part.stands t c.args.auditor.now) c.in-Some.left (sym expires)
    (subst (λ n. Comes (g.P.Subject.setting t) p.moment (Happens (Tick n)) → ⊥) (c.min-left.ensures ∙ as_left c.in-Some.left short)
    (subst (λ b. Judges b (Comes (g.P.Subject.setting t) p.moment (Happens (Tick c.min-left.result))) (Stands g.P.Whole.agrees g.P.Subject.setting g.P.Part.table g.P.Part.stands t c.tick.new.self (waited_to (g.P.Subject.setting t) p c.min-left.result))) c.if-not-came.true (c.in_ok-came.ensures.comes t p stands served)))

pub returns-clause-out : goal.returns-clause-out
returns-clause-out g c t p stands served =
    let s = rw (← c.auditor.view_is) at stands in
    let own = g.P.Subject.setting t in
    let expires = sym c.in-Some.is ∙ as_run g.P.Whole.agrees g.P.Subject.setting g.P.Part.table g.P.Part.stands g.P.Part.member g.met.P.Subject.member_is t _ p s (λ mac. mac.expires p.moment.world p.moment.state) c.expires.result (c.expires.ensures p.moment.world p.moment.state s.world s.state) in
    let short = short_left (own.machine.expires p.moment.world p.moment.state) c.in-Some.left (sym expires) (c.ends_waiting.ensures.few c.if-not-ends_waiting.false t p stands) in
    let ticks = subst (λ n. Comes own p.moment (Happens (Tick n)) × Stands g.P.Whole.agrees g.P.Subject.setting g.P.Part.table g.P.Part.stands t c.tick.new.self (waited_to own p n)) (c.min-left.ensures ∙ as_left c.in-Some.left short)
    (subst (λ b. Judges b (Comes own p.moment (Happens (Tick c.min-left.result))) (Stands g.P.Whole.agrees g.P.Subject.setting g.P.Part.table g.P.Part.stands t c.tick.new.self (waited_to own p c.min-left.result))) c.if-not-came.false (c.in_ok-came.ensures.comes t p stands served)) in
    if_ok c.resets.result
    (λ right judged. runs_out own p c.args.dropped (Stands g.P.Whole.agrees g.P.Subject.setting g.P.Part.table g.P.Part.stands t c.resets.new.self) c.in-Some.left (sym expires) right ((c.ends_waiting.ensures.ends t p stands).says c.if-not-ends_waiting.false)
    (c.if-dropped-depth.false ∙ (c.depth.ensures ∙ sym (depth_is own _ p.moment.opens stands.frames))) short ticks.0 judged)
    (c.resets.ensures.comes t (waited_to own p c.in-Some.left) ticks.1 ticks.0.served)

pub returns-clause-ready : goal.returns-clause-ready
returns-clause-ready g c given ready = c.resets.ensures.ready given (OnTrue_at c.if-not-came.false (c.in_ok-came.ensures.ready given ready))
