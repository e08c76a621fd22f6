-- Lines behind a step's own are taken, and the step is made.
use Rattle.std.proofs.Common.{true, false, sym, ◌∙◌, ap, subst}
use Rattle.std.proofs.lemmas.Bool.{OnTrue_at}
use Rattle.bench_report.specs.Numbers.{AnswerFits}
use Rattle.bench_report.specs.Report.{move_lines}
use Rattle.report_text.specs.Unread.{own_text}
use Rattle.report_auditor.specs.Auditing.{Stands}
use Rattle.report_auditor.specs.ChipRules.{sends_right}
use Rattle.report_steps.specs.Lines.{TakesLines}
use Rattle.report_steps.specs.StepParts.{TakesEnd, end_answer}
use Rattle.report_steps.proofs.GoesLaws.{made, moves_from, still_from, wrong_line, wrong_moment, wrong_move, wrong_word}
use Rattle.report_steps.proofs.LeftLaws.{as_many_still, goes_sound}
use Rattle.report_steps.proofs.LinesLaws.{advances_none, advances_on}
use Rattle.report_steps.proofs.single.goes_on.Goals as goal

pub move_fits-requires : goal.move_fits-requires
move_fits-requires g c = record { there = c.requires.there }

pub returns-then-not-sends_right-clause-makes : goal.returns-then-not-sends_right-clause-makes
returns-then-not-sends_right-clause-makes g c t p o os opens now early at heard =
    let h = rw (← c.auditor.view_is) at heard in
    wrong_word g.P.Whole.agrees g.P.Subject.setting g.P.Part.table g.P.Part.stands t p o os opens c.args.read.now c.args.event at now early _ c.args.heard.now h (Stands g.P.Whole.agrees g.P.Subject.setting g.P.Part.table g.P.Part.stands t c.args.auditor.now) c.args.report.now.number (own_text c.args.report.now) (own_text c.args.report.now) (sym c.sends_right.ensures ∙ c.if-not-sends_right.true)

pub returns-then-not-sends_right-clause-on : goal.returns-then-not-sends_right-clause-on
returns-then-not-sends_right-clause-on g c = advances_none c.args.report.now

pub returns-then-not-said-clause-makes : goal.returns-then-not-said-clause-makes
returns-then-not-said-clause-makes g c t p o os opens now early at heard =
    wrong_line g.P.Whole.agrees g.P.Subject.setting g.P.Part.table g.P.Part.stands t p o os opens c.args.read.now c.args.event at now early c.args.auditor.now c.args.heard.now heard (Stands g.P.Whole.agrees g.P.Subject.setting g.P.Part.table g.P.Part.stands t c.args.auditor.now) c.args.report.now c.says.new.report (own_text c.says.new.report)
    (subst (λ b. TakesLines b (move_lines c.args.read.now.made) c.args.report.now c.says.new.report) c.if-not-said.true c.in_ok-said.ensures.says)

pub returns-then-not-said-clause-on : goal.returns-then-not-said-clause-on
returns-then-not-said-clause-on g c = c.in_ok-said.ensures.on

pub makes-requires-clause-counted : goal.makes-requires-clause-counted
makes-requires-clause-counted g c =
    as_many_still c.args.auditor.now c.says.new.auditor c.ends.new.auditor c.args.read.now c.args.event c.args.heard.now c.in_ok-ended.ended c.in_ok-said.ensures.counted c.in_ok-ended.ensures.counted c.requires.sound.counted

pub returns-then-not-right-clause-makes : goal.returns-then-not-right-clause-makes
returns-then-not-right-clause-makes g c t p o os opens now early at heard =
    wrong_move g.P.Whole.agrees g.P.Subject.setting g.P.Part.table g.P.Part.stands t p o os opens c.args.read.now c.args.event at now early c.args.auditor.now c.args.heard.now heard c.args.report.now c.says.new.report c.ends.new.report c.in_ok-ended.ended
    (subst (λ b. TakesLines b (move_lines c.args.read.now.made) c.args.report.now c.says.new.report) c.if-not-said.false c.in_ok-said.ensures.says)
    (subst (λ y. TakesEnd y.frames c.args.event c.args.heard.now.told c.in_ok-ended.ended c.says.new.report c.ends.new.report) c.in_ok-said.ensures.counted c.in_ok-ended.ensures.ends)
    (Stands g.P.Whole.agrees g.P.Subject.setting g.P.Part.table g.P.Part.stands t c.args.auditor.now) (own_text c.ends.new.report) c.makes.new.auditor
    (moves_from c.args.auditor.now c.says.new.auditor c.ends.new.auditor c.makes.new.auditor c.args.read.now c.args.event c.args.heard.now c.in_ok-ended.ended c.in_ok-right.right false c.if-not-right.true c.in_ok-said.ensures.counted c.in_ok-ended.ensures.counted c.in_ok-right.ensures.moves)

pub returns-then-not-right-clause-on : goal.returns-then-not-right-clause-on
returns-then-not-right-clause-on g c = advances_on c.args.report.now c.says.new.report c.ends.new.report c.in_ok-said.ensures.on c.in_ok-ended.ensures.on

pub makes-requires-clause-there : goal.makes-requires-clause-there
makes-requires-clause-there g c = c.requires.there

pub is_served-requires-clause-fits : goal.is_served-requires-clause-fits
is_served-requires-clause-fits g c =
    (goes_sound c.args.auditor.now c.says.new.auditor c.ends.new.auditor c.args.read.now c.args.event c.args.heard.now c.in_ok-ended.ended c.in_ok-said.ensures.counted c.in_ok-ended.ensures.counted g.P.Part.fits g.P.Whole.within 0 c.makes.new.auditor c.in_ok-right.right c.requires.sound c.requires.now c.in_ok-right.ensures.moves c.if-not-right.false).can_tell

pub is_served-requires-clause-within : goal.is_served-requires-clause-within
is_served-requires-clause-within g c =
    (goes_sound c.args.auditor.now c.says.new.auditor c.ends.new.auditor c.args.read.now c.args.event c.args.heard.now c.in_ok-ended.ended c.in_ok-said.ensures.counted c.in_ok-ended.ensures.counted g.P.Part.fits g.P.Whole.within 0 c.makes.new.auditor c.in_ok-right.right c.requires.sound c.requires.now c.in_ok-right.ensures.moves c.if-not-right.false).in_limits

pub returns-then-not-is_served-clause-makes : goal.returns-then-not-is_served-clause-makes
returns-then-not-is_served-clause-makes g c t p o os opens now early at heard =
    wrong_moment g.P.Whole.agrees g.P.Subject.setting g.P.Part.table g.P.Part.stands t p o os opens c.args.read.now c.args.event at now early c.args.auditor.now c.args.heard.now heard c.args.report.now c.says.new.report c.ends.new.report c.in_ok-ended.ended
    (subst (λ b. TakesLines b (move_lines c.args.read.now.made) c.args.report.now c.says.new.report) c.if-not-said.false c.in_ok-said.ensures.says)
    (subst (λ y. TakesEnd y.frames c.args.event c.args.heard.now.told c.in_ok-ended.ended c.says.new.report c.ends.new.report) c.in_ok-said.ensures.counted c.in_ok-ended.ensures.ends)
    c.makes.new.auditor
    (moves_from c.args.auditor.now c.says.new.auditor c.ends.new.auditor c.makes.new.auditor c.args.read.now c.args.event c.args.heard.now c.in_ok-ended.ended c.in_ok-right.right true c.if-not-right.false c.in_ok-said.ensures.counted c.in_ok-ended.ensures.counted c.in_ok-right.ensures.moves)
    (sym (ap (λ v. sends_right v.chip c.args.heard.now.begins c.args.read.now.made) c.auditor.view_is) ∙ (sym c.sends_right.ensures ∙ c.if-not-sends_right.false))
    c.move_fits.ensures c.values_fit.ensures.value c.values_fit.ensures.received c.event_fits.ensures
    (subst (λ y. AnswerFits (end_answer y.frames c.args.event c.args.heard.now.told)) c.in_ok-said.ensures.counted c.in_ok-ended.ensures.fits)
    (still_from g.P.Whole.agrees g.P.Subject.setting g.P.Part.table t c.args.auditor.now c.says.new.auditor c.ends.new.auditor c.makes.new.auditor c.args.read.now c.args.event c.args.heard.now c.in_ok-ended.ended c.in_ok-said.ensures.counted c.in_ok-ended.ensures.counted heard.kept_of (OnTrue_at c.if-not-right.false c.in_ok-right.ensures.seen))
    (Stands g.P.Whole.agrees g.P.Subject.setting g.P.Part.table g.P.Part.stands t c.is_served.new.self) c.is_served.result (λ q kept. c.is_served.ensures.served t q kept) c.if-not-is_served.true

pub returns-then-not-is_served-clause-on : goal.returns-then-not-is_served-clause-on
returns-then-not-is_served-clause-on g c = advances_on c.args.report.now c.says.new.report c.ends.new.report c.in_ok-said.ensures.on c.in_ok-ended.ensures.on

pub returns-clause-makes : goal.returns-clause-makes
returns-clause-makes g c t p o os opens now early at heard =
    made g.P.Whole.agrees g.P.Subject.setting g.P.Part.table g.P.Part.stands t p o os opens c.args.read.now c.args.event at now early c.args.auditor.now c.args.heard.now heard c.args.report.now c.says.new.report c.ends.new.report c.in_ok-ended.ended
    (subst (λ b. TakesLines b (move_lines c.args.read.now.made) c.args.report.now c.says.new.report) c.if-not-said.false c.in_ok-said.ensures.says)
    (subst (λ y. TakesEnd y.frames c.args.event c.args.heard.now.told c.in_ok-ended.ended c.says.new.report c.ends.new.report) c.in_ok-said.ensures.counted c.in_ok-ended.ensures.ends)
    c.makes.new.auditor
    (moves_from c.args.auditor.now c.says.new.auditor c.ends.new.auditor c.makes.new.auditor c.args.read.now c.args.event c.args.heard.now c.in_ok-ended.ended c.in_ok-right.right true c.if-not-right.false c.in_ok-said.ensures.counted c.in_ok-ended.ensures.counted c.in_ok-right.ensures.moves)
    (sym (ap (λ v. sends_right v.chip c.args.heard.now.begins c.args.read.now.made) c.auditor.view_is) ∙ (sym c.sends_right.ensures ∙ c.if-not-sends_right.false))
    c.move_fits.ensures c.values_fit.ensures.value c.values_fit.ensures.received c.event_fits.ensures
    (subst (λ y. AnswerFits (end_answer y.frames c.args.event c.args.heard.now.told)) c.in_ok-said.ensures.counted c.in_ok-ended.ensures.fits)
    (still_from g.P.Whole.agrees g.P.Subject.setting g.P.Part.table t c.args.auditor.now c.says.new.auditor c.ends.new.auditor c.makes.new.auditor c.args.read.now c.args.event c.args.heard.now c.in_ok-ended.ended c.in_ok-said.ensures.counted c.in_ok-ended.ensures.counted heard.kept_of (OnTrue_at c.if-not-right.false c.in_ok-right.ensures.seen))
    (Stands g.P.Whole.agrees g.P.Subject.setting g.P.Part.table g.P.Part.stands t c.is_served.new.self) c.is_served.result (λ q kept. c.is_served.ensures.served t q kept) c.if-not-is_served.false (λ q kept. c.is_served.ensures.stands t q kept)

pub returns-clause-ready : goal.returns-clause-ready
returns-clause-ready g c given sound = record {
  sound = c.is_served.ensures.sound given (goes_sound c.args.auditor.now c.says.new.auditor c.ends.new.auditor c.args.read.now c.args.event c.args.heard.now c.in_ok-ended.ended c.in_ok-said.ensures.counted c.in_ok-ended.ensures.counted g.P.Part.fits g.P.Whole.within given c.makes.new.auditor c.in_ok-right.right sound c.requires.now c.in_ok-right.ensures.moves c.if-not-right.false);
  rate = OnTrue_at c.if-not-is_served.false c.is_served.ensures.rate;
}

pub returns-clause-on : goal.returns-clause-on
returns-clause-on g c = advances_on c.args.report.now c.says.new.report c.ends.new.report c.in_ok-said.ensures.on c.in_ok-ended.ensures.on
