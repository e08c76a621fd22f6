-- An act answers; else the frame's answer stays.
use Rattle.std.proofs.Common.{Some, sym, ◌∙◌, ap}
use Rattle.report_steps.proofs.EndLaws.{acts_answer, copied_is, keeps_answer}
use Rattle.report_steps.proofs.single.answer_by.Goals as goal

pub returns-then-is_act : goal.returns-then-is_act
returns-then-is_act c = ap (λ x. Some x) c.answer.ensures ∙ sym (acts_answer c.args.frame.now.answer c.args.event c.args.told.now.answer (sym c.is_act.ensures ∙ c.if-is_act.true))

pub returns-else-is_act : goal.returns-else-is_act
returns-else-is_act c = copied_is _ c.answer-else-is_act.result c.args.frame.now.answer c.answer-else-is_act.ensures ∙ sym (keeps_answer c.args.frame.now.answer c.args.event c.args.told.now.answer (sym c.is_act.ensures ∙ c.if-is_act.false))
