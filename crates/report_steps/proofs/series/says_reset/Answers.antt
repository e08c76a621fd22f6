-- The line of a reset comes, and the reset.
use Rattle.std.proofs.Common.{arith, sym, ◌∙◌, subst}
use Rattle.bench_report.specs.Lines.{Restarts}
use Rattle.audit_base.proofs.Products.{if_ok}
use Rattle.report_text.specs.Unread.{own_text}
use Rattle.report_auditor.specs.Auditing.{Stands}
use Rattle.report_steps.specs.Lines.{TakesLine}
use Rattle.report_steps.proofs.ComeLaws.{depth_is}
use Rattle.report_steps.proofs.LinesLaws.{advances_line, if_any}
use Rattle.report_steps.proofs.LoopLaws.{no_line, with_reset}
use Rattle.report_steps.proofs.series.says_reset.Goals as goal

pub depth-requires : goal.depth-requires
depth-requires g c = record { few = c.requires.ready.sound.few }

pub takes-requires : goal.takes-requires
takes-requires g c = record { numbers = omega (arith, c.depth.ensures, c.requires.ready.sound.few) }

pub returns-then-not-said-clause-resets : goal.returns-then-not-said-clause-resets
returns-then-not-said-clause-resets g c t p stands served =
    no_line (g.P.Subject.setting t) p c.args.reason (Stands g.P.Whole.agrees g.P.Subject.setting g.P.Part.table g.P.Part.stands t c.args.auditor.now) c.args.report.now c.takes.new.report c.depth.result (c.depth.ensures ∙ sym (depth_is (g.P.Subject.setting t) _ p.moment.opens stands.frames))
    (subst (λ b. TakesLine b (Restarts c.args.reason c.depth.result) c.args.report.now c.takes.new.report) c.if-not-said.true c.in_ok-said.ensures) (own_text c.takes.new.report)

pub returns-clause-resets : goal.returns-clause-resets
returns-clause-resets g c t p stands served =
    if_ok c.resets.result (λ right judged. with_reset (g.P.Subject.setting t) p c.args.reason _ c.args.report.now c.takes.new.report c.depth.result (c.depth.ensures ∙ sym (depth_is (g.P.Subject.setting t) _ p.moment.opens stands.frames)) right
    (subst (λ b. TakesLine b (Restarts c.args.reason c.depth.result) c.args.report.now c.takes.new.report) c.if-not-said.false c.in_ok-said.ensures) judged) (c.resets.ensures.comes t p stands served)

pub returns-then-not-said-clause-on : goal.returns-then-not-said-clause-on
returns-then-not-said-clause-on g c = advances_line c.in_ok-said.said (Restarts c.args.reason c.depth.result) c.args.report.now c.takes.new.report c.in_ok-said.ensures

pub returns-clause-ready : goal.returns-clause-ready
returns-clause-ready g c given ready = c.resets.ensures.ready given ready

pub returns-clause-on : goal.returns-clause-on
returns-clause-on g c = if_any c.resets.result (advances_line c.in_ok-said.said (Restarts c.args.reason c.depth.result) c.args.report.now c.takes.new.report c.in_ok-said.ensures)
