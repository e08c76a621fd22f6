use Rattle.std.proofs.Common.{◌∙◌, Err, ap, arith, refl, vec_len}
use Rattle.bench_top.proofs.Calling.{hung_so, told_nothing, told_printed}
use Rattle.bench_top.proofs.top.conclude.Goals as goal

pub returns-in-Err-Refused-clause-concludes : goal.returns-in-Err-Refused-clause-concludes
returns-in-Err-Refused-clause-concludes g c = rw (c.read_whole.ensures.refused c.in-Err-Refused.refusal (c.in-Err-Refused.is ∙ ap (λ e. Err e) c.in-Err-Refused.field-0-is) c.args.task) (rw c.in-Err-Refused.field-0-is at (c.refuse.ensures (vec_len c.args.rack.now)))

pub returns-in-Err-Refused-clause-told : goal.returns-in-Err-Refused-clause-told
returns-in-Err-Refused-clause-told g c = told_printed (vec_len c.args.rack.now) _ _ _ _ (c.refuse.ensures (vec_len c.args.rack.now)) (hung_so _ c.args.rack.now.items (vec_len c.args.rack.now) (omega arith))

pub returns-in-Err-NoMemory-clause-told : goal.returns-in-Err-NoMemory-clause-told
returns-in-Err-NoMemory-clause-told g c = told_nothing (vec_len c.args.rack.now) _ _ _ c.no_memory.ensures.journal (hung_so _ c.args.rack.now.items (vec_len c.args.rack.now) (omega arith)) refl
