-- The line of a frame's end is taken, and counted.
use Rattle.std.proofs.Common.{true, false, [], ◌∷◌, refl, sym, ◌∙◌, ap, subst}
use Rattle.std.specs.Prelude.{option_copied}
use Rattle.bench_report.specs.Lines.{line_of}
use Rattle.report_steps.specs.Lines.{TakesLine}
use Rattle.report_steps.specs.StepParts.{counting, end_by}
use Rattle.report_steps.proofs.EndLaws.{answer_fits, end_counted, lines_are, lines_counted, no_answer, no_line_by, no_top, none_counted, took_end}
use Rattle.report_steps.proofs.LinesLaws.{advances_line, advances_none}
use Rattle.report_steps.proofs.single.ends.Goals as goal

pub returns-in_default-clause-ends : goal.returns-in_default-clause-ends
returns-in_default-clause-ends g c = rw (← c.auditor.view_is) (no_top c.args.event c.args.told.now _ c.args.report.now (sym c.top.ensures ∙ ap (λ x. option_copied x) c.in_default.is))

pub returns-in_default-clause-counted : goal.returns-in_default-clause-counted
returns-in_default-clause-counted g c = none_counted _

pub returns-in_default-clause-fits : goal.returns-in_default-clause-fits
returns-in_default-clause-fits g c = rw (← c.auditor.view_is) (no_answer c.args.event c.args.told.now _ (sym c.top.ensures ∙ ap (λ x. option_copied x) c.in_default.is))

pub returns-in_default-clause-on : goal.returns-in_default-clause-on
returns-in_default-clause-on g c = advances_none c.args.report.now

pub returns-in_default-end_line-clause-ends : goal.returns-in_default-end_line-clause-ends
returns-in_default-end_line-clause-ends g c =
    rw (← c.auditor.view_is)
    (no_line_by c.args.event c.args.told.now _ c.in-Some.frame.now (sym c.top.ensures ∙ ap (λ x. option_copied x) c.in-Some.is) _ (ap (λ y. y.task) c.terms.ensures) _ c.answer_by.ensures
    [] (λ frames. rw c.in_default-end_line.is at (c.end_line.ensures.line frames)) refl c.args.report.now)

pub returns-in_default-end_line-clause-counted : goal.returns-in_default-end_line-clause-counted
returns-in_default-end_line-clause-counted g c = none_counted _

pub returns-in_default-end_line-clause-fits : goal.returns-in_default-end_line-clause-fits
returns-in_default-end_line-clause-fits g c =
    rw (← c.auditor.view_is)
    (answer_fits c.args.event c.args.told.now _ c.in-Some.frame.now (sym c.top.ensures ∙ ap (λ x. option_copied x) c.in-Some.is) _ (ap (λ y. y.task) c.terms.ensures) _ c.answer_by.ensures c.end_line.ensures.fits)

pub returns-in_default-end_line-clause-on : goal.returns-in_default-end_line-clause-on
returns-in_default-end_line-clause-on g c = advances_none c.args.report.now

pub takes-requires : goal.takes-requires
takes-requires g c = record { numbers = c.in-Some-end_line.ensures.numbers }

pub returns-then-not-right-clause-ends : goal.returns-then-not-right-clause-ends
returns-then-not-right-clause-ends g c =
    let line = line_of c.in-Some-end_line.line in
    rw (← c.auditor.view_is)
    (took_end c.args.event c.args.told.now _ line false c.args.report.now c.takes.new.report
    (lines_are c.args.event c.args.told.now _ c.in-Some.frame.now (sym c.top.ensures ∙ ap (λ x. option_copied x) c.in-Some.is) _ (ap (λ y. y.task) c.terms.ensures) _ c.answer_by.ensures (line ∷ []) c.in-Some-end_line.ensures.line)
    (subst (λ b. TakesLine b line c.args.report.now c.takes.new.report) c.if-not-right.true c.in_ok-right.ensures))

pub returns-then-not-right-clause-counted : goal.returns-then-not-right-clause-counted
returns-then-not-right-clause-counted g c = none_counted _

pub returns-then-not-right-clause-fits : goal.returns-then-not-right-clause-fits
returns-then-not-right-clause-fits g c =
    rw (← c.auditor.view_is)
    (answer_fits c.args.event c.args.told.now _ c.in-Some.frame.now (sym c.top.ensures ∙ ap (λ x. option_copied x) c.in-Some.is) _ (ap (λ y. y.task) c.terms.ensures) _ c.answer_by.ensures c.end_line.ensures.fits)

pub returns-then-not-right-clause-on : goal.returns-then-not-right-clause-on
returns-then-not-right-clause-on g c = advances_line c.in_ok-right.right (line_of c.in-Some-end_line.line) c.args.report.now c.takes.new.report c.in_ok-right.ensures

pub returns-clause-ends : goal.returns-clause-ends
returns-clause-ends g c =
    let line = line_of c.in-Some-end_line.line in
    rw (← c.auditor.view_is)
    (took_end c.args.event c.args.told.now _ line true c.args.report.now c.takes.new.report
    (lines_are c.args.event c.args.told.now _ c.in-Some.frame.now (sym c.top.ensures ∙ ap (λ x. option_copied x) c.in-Some.is) _ (ap (λ y. y.task) c.terms.ensures) _ c.answer_by.ensures (line ∷ []) c.in-Some-end_line.ensures.line)
    (subst (λ b. TakesLine b line c.args.report.now c.takes.new.report) c.if-not-right.false c.in_ok-right.ensures))

pub returns-clause-counted : goal.returns-clause-counted
returns-clause-counted g c =
    lines_counted _ c.args.auditor.now c.auditor.view_is (end_by c.auditor.inside.frames c.args.event c.args.told.now) c.counts.new.tally
    (end_counted c.args.event c.args.told.now _ c.in-Some.frame.now (sym c.top.ensures ∙ ap (λ x. option_copied x) c.in-Some.is) _ (ap (λ y. y.task) c.terms.ensures) _ c.answer_by.ensures (line_of c.in-Some-end_line.line) c.in-Some-end_line.ensures.line
    _ _ c.in_ok-counts.ensures)
    ∙ ap (λ v. counting (end_by v.frames c.args.event c.args.told.now) c.args.auditor.now) c.auditor.view_is

pub returns-clause-fits : goal.returns-clause-fits
returns-clause-fits g c =
    rw (← c.auditor.view_is)
    (answer_fits c.args.event c.args.told.now _ c.in-Some.frame.now (sym c.top.ensures ∙ ap (λ x. option_copied x) c.in-Some.is) _ (ap (λ y. y.task) c.terms.ensures) _ c.answer_by.ensures c.end_line.ensures.fits)

pub returns-clause-on : goal.returns-clause-on
returns-clause-on g c = advances_line c.in_ok-right.right (line_of c.in-Some-end_line.line) c.args.report.now c.takes.new.report c.in_ok-right.ensures
