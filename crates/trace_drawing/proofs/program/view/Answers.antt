use Rattle.std.proofs.Common.{◌∙◌, sym}
use Rattle.trace_drawing.proofs.Judging.{front_of, usage_judged, usage_status, ends_on, many_is, so_many}
use Rattle.trace_drawing.proofs.program.view.Goals as goal

pub returns-in_default-clause-refused : goal.returns-in_default-clause-refused
returns-in_default-clause-refused g c = λ e s. usage_status _ _ _ _ _ (rw c.as_bytes.ensures.value at c.finish.ensures.concludes) s c.finish.ensures.remembers

pub returns-in_default-clause-front : goal.returns-in_default-clause-front
returns-in_default-clause-front g c = λ s. front_of _ _ _ _ _ _ _ _ _ (usage_judged _ _ (sym c.form_of.ensures ∙ c.in_default.is)) (rw c.as_bytes.ensures.value at c.finish.ensures.concludes) s

pub returns-in-Err-TooLong-clause-on_some : goal.returns-in-Err-TooLong-clause-on_some
returns-in-Err-TooLong-clause-on_some g c = λ r s m. ends_on _ (so_many 268435457).0 _ _ _ _ _ _ (many_is _ c.in-Some.form (sym c.form_of.ensures ∙ c.in-Some.is)) c.refuse-in-Err-TooLong.ensures s m
