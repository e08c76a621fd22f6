use Rattle.std.proofs.Common.{arith}
use Rattle.mcal_base.proofs.Places.{placed, alone}
use Rattle.mcal_base.proofs.layout.place.Goals as goal

pub start-requires : goal.start-requires
start-requires c = (placed c.args._config.now c.args.array c.args.index c.requires.limits c.requires.there).exists

pub overflow_add-result : goal.overflow_add-result
overflow_add-result c =
    let p = placed c.args._config.now c.args.array c.args.index c.requires.limits c.requires.there in
    omega (arith, p.inside, c.start.ensures.room)

pub returns-clause-below : goal.returns-clause-below
returns-clause-below c =
    let p = placed c.args._config.now c.args.array c.args.index c.requires.limits c.requires.there in
    omega (arith, p.inside, c.start.ensures.room)

pub returns-clause-alone : goal.returns-clause-alone
returns-clause-alone c other k lt e =
    let p = placed c.args._config.now c.args.array c.args.index c.requires.limits c.requires.there in
    let q = placed c.args._config.now other k c.requires.limits lt in
    alone c.args.array c.args.index other k p q (rw (← c.start.ensures.word) e)
