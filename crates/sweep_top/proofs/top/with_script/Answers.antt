use Rattle.std.proofs.Common.{◌∙◌, sym, subst}
use Rattle.std.specs.Prelude.{Result}
use Rattle.sweep_top.specs.Reads.{SweepFile}
use Rattle.sweep_top.specs.Sweeps.{EndsSo}
use Rattle.sweep_top.specs.declared.ends.SweepEnd.{SweepEnd}
use Rattle.sweep_top.proofs.Reading.{config_refused, marks_read, marks_refused, refused_at}
use Rattle.sweep_top.proofs.top.with_script.Goals as goal

pub returns-in-Err : goal.returns-in-Err
returns-in-Err g c = λ m. refused_at c.args.asked _ _ (config_refused c.args.configuration.now c.args.script.now _ (c.in-Err.ensures m))

pub returns-in-Ok-marks_of : goal.returns-in-Ok-marks_of
returns-in-Ok-marks_of g c = subst (λ (r : Result SweepFile SweepEnd). EndsSo c.args.asked r c.with_marks.result) (sym (marks_read c.args.configuration.now c.args.script.now _ c.in-Ok-marks_of.marks c.in-Ok.ensures (sym c.marks_of.ensures ∙ c.in-Ok-marks_of.is))) c.with_marks.ensures

pub returns-in-Err-marks_of : goal.returns-in-Err-marks_of
returns-in-Err-marks_of g c = λ m. refused_at c.args.asked _ _ (marks_refused c.args.configuration.now c.args.script.now _ _ c.in-Ok.ensures (sym c.marks_of.ensures ∙ c.in-Err-marks_of.is))
