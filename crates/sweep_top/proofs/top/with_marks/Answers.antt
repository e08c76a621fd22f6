use Rattle.std.proofs.Common.{sym, subst}
use Rattle.std.specs.Prelude.{Result}
use Rattle.sweep_top.specs.Reads.{SweepFile}
use Rattle.sweep_top.specs.Sweeps.{EndsSo}
use Rattle.sweep_top.specs.declared.ends.SweepEnd.{SweepEnd}
use Rattle.sweep_top.proofs.Reading.{directives_refused, parts_read, parts_refused, refused_at}
use Rattle.sweep_top.proofs.top.with_marks.Goals as goal

pub returns-in-Err : goal.returns-in-Err
returns-in-Err g c = λ m. refused_at c.args.asked _ _ (directives_refused c.args.configuration.now c.args.script.now c.args.marks _ (c.in-Err.ensures m))

pub returns-in-Ok-parts_of : goal.returns-in-Ok-parts_of
returns-in-Ok-parts_of g c = subst (λ (r : Result SweepFile SweepEnd). EndsSo c.args.asked r c.with_parts.result) (sym (parts_read c.args.configuration.now c.args.script.now c.args.marks c.in-Ok.directives.items _ c.in-Ok.ensures (rw c.deref.ensures.value at c.in-Ok-parts_of.ensures.is))) c.with_parts.ensures

pub returns : goal.returns
returns g c = λ m. refused_at c.args.asked _ _ (parts_refused c.args.configuration.now c.args.script.now c.args.marks c.in-Ok.directives.items _ c.in-Ok.ensures (rw c.deref.ensures.value at c.in-Err-parts_of.ensures.is))
