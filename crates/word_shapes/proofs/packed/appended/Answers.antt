-- A word has room for eight places.
use Rattle.std.proofs.Common.{arith}
use Rattle.word_shapes.proofs.PackingLaws.{unit_bound, unit_positive, product_bound, appended_bound}
use Rattle.word_shapes.proofs.packed.appended.Goals as goal

pub pow-unit-requires : goal.pow-unit-requires
pow-unit-requires c = let le = unit_bound c.args.place c.requires.place in omega arith

pub nonzero_rem-result : goal.nonzero_rem-result
nonzero_rem-result c = rw c.pow-unit.ensures (unit_positive c.args.place)

pub overflow_mul-result : goal.overflow_mul-result
overflow_mul-result c = rw c.pow-unit.ensures (let lt = product_bound c.args.word c.args.place c.args.entry c.requires.place c.requires.entry in omega arith)

pub overflow_add-result : goal.overflow_add-result
overflow_add-result c = rw c.pow-unit.ensures (let lt = appended_bound c.args.word c.args.place c.args.entry c.requires.place c.requires.entry in omega arith)
