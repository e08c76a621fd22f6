-- A show prints its rows.
use Rattle.std.proofs.Common.{sym, ◌∙◌, ap}
use Rattle.std.proofs.lemmas.Bool.{OnTrue_from}
use Rattle.std.proofs.lemmas.Result.{IfOk-weaker}
use Rattle.bench_report.specs.Lines.{Done}
use Rattle.bench_report.specs.Shown.{rows_text}
use Rattle.irq_control.specs.declared.held.Held.TheVariants.{Frames}
use Rattle.report_auditor.specs.Auditing.{Stands}
use Rattle.report_text.specs.Unread.{own_text}
use Rattle.report_audit.proofs.KindLaws.{held_show, none_open, rows_show, some_open}
use Rattle.report_audit.proofs.ShowLaws.{none_shown, rows_none, rows_there, shown_on, some_shown}
use Rattle.report_audit.proofs.TakeLaws.{held_ready, held_takes, line_on}
use Rattle.report_audit.proofs.directives.show.Goals as goal

pub returns-then-not-none-clause-show : goal.returns-then-not-none-clause-show
returns-then-not-none-clause-show g c t p stands served =
    let s = rw (← c.auditor.view_is) at stands in
    let own = g.P.Subject.setting t in
    let some = some_open own _ p.moment.opens s.frames (λ e. c.if-not-none.true (c.depth-none.ensures ∙ e)) in
    IfOk-weaker c.stays.result _ _
    (λ right h. held_show own p (Stands g.P.Whole.agrees g.P.Subject.setting g.P.Part.table g.P.Part.stands t c.stays.new.auditor) right c.args.report.now.number (own_text c.args.report.now) (own_text c.stays.new.report) (g.P.Whole.showing c.args.configuration.now) c.args.what some
    (held_takes g.P.Whole.agrees g.P.Subject.setting g.P.Part.table g.P.Part.stands t right Frames _ c.stays.new.auditor c.args.report.now c.stays.new.report p h stands))
    c.stays.ensures.stays

pub returns-then-not-none-clause-ready : goal.returns-then-not-none-clause-ready
returns-then-not-none-clause-ready g c given ready =
    IfOk-weaker c.stays.result _ _ (λ right h. OnTrue_from right _ (λ e. held_ready g.P.Part.fits g.P.Whole.within g.P.Part.ticks given right Frames _ c.stays.new.auditor c.args.report.now c.stays.new.report h ready)) c.stays.ensures.stays

pub returns-then-not-none-clause-on : goal.returns-then-not-none-clause-on
returns-then-not-none-clause-on g c t p stands = c.stays.ensures.on

pub shown-requires-clause-table : goal.shown-requires-clause-table
shown-requires-clause-table g c = rw (← c.auditor.view_is) at c.requires.table

pub returns-then-is_empty-clause-show : goal.returns-then-is_empty-clause-show
returns-then-is_empty-clause-show g c t p stands served =
    let s = rw (← c.auditor.view_is) at stands in
    let own = g.P.Subject.setting t in
    let none = none_open own _ p.moment.opens s.frames (sym c.depth-none.ensures ∙ c.if-not-none.false) in
    let text = c.as_str-lines.ensures.value ∙ (c.in-Ok.ensures p.moment.world p.moment.state s.world s.state ∙ ap (λ n. rows_text n (g.P.Whole.showing c.args.configuration.now p.moment.world p.moment.state c.args.what)) (sym c.requires.number)) in
    let empty = rows_none c.args.report.now (g.P.Whole.showing c.args.configuration.now p.moment.world p.moment.state c.args.what) c.as_str-lines.result.now text (sym c.is_empty.ensures ∙ c.if-is_empty.true) in
    IfOk-weaker c.takes.result _ _
    (λ right h. rows_show own p _ right c.args.report.now.number (own_text c.args.report.now) (own_text c.takes.new.report) (g.P.Whole.showing c.args.configuration.now) c.args.what none
    (none_shown c.args.report.now (g.P.Whole.showing c.args.configuration.now p.moment.world p.moment.state c.args.what) c.as_str-lines.result.now text p _ empty right c.takes.new.report stands h))
    c.takes.ensures

pub returns-then-is_empty-clause-ready : goal.returns-then-is_empty-clause-ready
returns-then-is_empty-clause-ready g c given ready =
    IfOk-weaker c.takes.result _ _ (λ right h. OnTrue_from right _ (λ e. ready)) c.takes.ensures

pub returns-then-is_empty-clause-on : goal.returns-then-is_empty-clause-on
returns-then-is_empty-clause-on g c t p stands = IfOk-weaker c.takes.result _ _ (λ right h. line_on right Done c.args.report.now c.takes.new.report h) c.takes.ensures

pub returns-clause-show : goal.returns-clause-show
returns-clause-show g c t p stands served =
    let s = rw (← c.auditor.view_is) at stands in
    let own = g.P.Subject.setting t in
    let none = none_open own _ p.moment.opens s.frames (sym c.depth-none.ensures ∙ c.if-not-none.false) in
    let text = c.as_str-lines.ensures.value ∙ (c.in-Ok.ensures p.moment.world p.moment.state s.world s.state ∙ ap (λ n. rows_text n (g.P.Whole.showing c.args.configuration.now p.moment.world p.moment.state c.args.what)) (sym c.requires.number)) in
    let some = rows_there c.args.report.now (g.P.Whole.showing c.args.configuration.now p.moment.world p.moment.state c.args.what) c.as_str-lines.result.now text (sym c.is_empty.ensures ∙ c.if-is_empty.false) in
    rows_show own p _ c.takes_text.result c.args.report.now.number (own_text c.args.report.now) (own_text c.takes_text.new.self) (g.P.Whole.showing c.args.configuration.now) c.args.what none
    (some_shown c.args.report.now (g.P.Whole.showing c.args.configuration.now p.moment.world p.moment.state c.args.what) c.as_str-lines.result.now text p _ some c.takes_text.result c.takes_text.new.self c.takes_text.ensures.right c.takes_text.ensures.taken stands)

pub returns-clause-ready : goal.returns-clause-ready
returns-clause-ready g c given ready = OnTrue_from c.takes_text.result _ (λ e. ready)

pub returns-clause-on : goal.returns-clause-on
returns-clause-on g c t p stands =
    let s = rw (← c.auditor.view_is) at stands in
    let text = c.as_str-lines.ensures.value ∙ (c.in-Ok.ensures p.moment.world p.moment.state s.world s.state ∙ ap (λ n. rows_text n (g.P.Whole.showing c.args.configuration.now p.moment.world p.moment.state c.args.what)) (sym c.requires.number)) in
    shown_on c.args.report.now (g.P.Whole.showing c.args.configuration.now p.moment.world p.moment.state c.args.what) c.as_str-lines.result.now text c.takes_text.result c.takes_text.new.self c.takes_text.ensures.right c.takes_text.ensures.taken
