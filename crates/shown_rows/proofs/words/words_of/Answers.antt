use Rattle.std.proofs.Common.{◌+◌, ◌∙◌, arith}
use Rattle.shown_rows.proofs.Places.{fewer_places}
use Rattle.shown_rows.proofs.Rows.{words_more}
use Rattle.shown_rows.proofs.words.words_of.Goals as goal

pub word-requires : goal.word-requires
word-requires g c = record { there = fewer_places (g.R.ShownBoard.configured c.args.run.now) c.args.words (c.args.first + c.loop-number.number + 1) (c.args.first + c.args.size) (omega (arith, c.loop-number-test.true)) c.requires.inside }

pub loop-number-preserved : goal.loop-number-preserved
loop-number-preserved g c w s h = c.in_ok-push.ensures.items ∙ words_more s c.args.words c.args.first c.loop-number.number _ _ (c.loop-number.invariant w s h) (c.word.ensures w s h)
