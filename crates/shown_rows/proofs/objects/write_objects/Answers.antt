use Rattle.std.proofs.Common.{◌≡◌, ◌∙◌, arith}
use Rattle.shown_rows.specs.Objects.{count, object_rows}
use Rattle.shown_rows.proofs.Rows.{numbers_more, numbers_all}
use Rattle.shown_rows.proofs.objects.write_objects.Goals as goal

pub loop-number-preserved : goal.loop-number-preserved
loop-number-preserved g c w s h =
    let config = g.R.ShownBoard.configured c.args.run.now in
    c.in_ok-write_object.ensures w s h ∙ numbers_more _ _ c.args.line c.loop-number.number (object_rows config w s c.args.objects) (c.loop-number.invariant w s h)

pub returns : goal.returns
returns g c w s h =
    let config = g.R.ShownBoard.configured c.args.run.now in
    let all = c.count-number-end.ensures in
    let end : c.loop-number.number ≡ count c.args.objects = omega (arith, c.loop-number.auto.number-end, c.loop-number-test.false, all) in
    c.loop-number.invariant w s h ∙ numbers_all _ c.args.line config w s c.args.objects c.loop-number.number end
