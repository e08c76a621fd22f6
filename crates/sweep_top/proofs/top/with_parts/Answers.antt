use Rattle.std.proofs.Common.{sym, subst}
use Rattle.std.specs.Prelude.{Result}
use Rattle.bench_sweep.specs.Parts.{pieces_of}
use Rattle.sweep_top.specs.Reads.{SweepFile}
use Rattle.sweep_top.specs.Sweeps.{EndsSo}
use Rattle.sweep_top.specs.declared.ends.SweepEnd.{SweepEnd}
use Rattle.sweep_top.proofs.Reading.{reactions_read, reactions_refused, refused_at}
use Rattle.sweep_top.proofs.top.with_parts.Goals as goal

pub returns-in-Ok : goal.returns-in-Ok
returns-in-Ok g c = subst (λ (r : Result SweepFile SweepEnd). EndsSo c.args.asked r c.sweep_read.result) (sym (reactions_read c.args.configuration.now c.args.script.now c.args.marks (pieces_of c.args.parts) c.in-Ok.reactions.items c.in-Ok.ensures)) (rw c.deref.ensures.value at c.sweep_read.ensures)

pub returns-in-Err : goal.returns-in-Err
returns-in-Err g c = λ m. refused_at c.args.asked _ _ (reactions_refused c.args.configuration.now c.args.script.now c.args.marks (pieces_of c.args.parts) _ (c.in-Err.ensures m))
