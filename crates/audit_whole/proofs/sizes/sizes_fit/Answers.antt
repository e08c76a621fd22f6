use Rattle.std.proofs.Common.{arith}
use Rattle.audit_whole.specs.Sizes.{SizeFits}
use Rattle.audit_whole.proofs.sizes.sizes_fit.Goals as goal
use borrow.Author.Count.{below_more}

pub loop-number-preserved : goal.loop-number-preserved
loop-number-preserved c s h = below_more (λ n. SizeFits c.args.config.now s n) c.loop-number.number (c.loop-number.invariant s h) (c.size_fits.ensures s h c.if-not-size_fits.false)

pub returns : goal.returns
returns c s h e n lt = let over = c.loop-number-test.false in c.loop-number.invariant s h n (omega (arith, lt, over))
