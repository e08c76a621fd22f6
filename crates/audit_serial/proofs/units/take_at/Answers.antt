use Rattle.audit_serial.proofs.Terms.{ap, arith, get_or_read, item_set, None, set-get_or, slice_set, sym, ◌∙◌}
use Rattle.audit_serial.proofs.units.take_at.Goals as goal

pub returns-then-place-len-clause-was : goal.returns-then-place-len-clause-was
returns-then-place-len-clause-was g c =
    let xs = c.args.items.now.items in
    c.replace.ensures.value ∙ get_or_read xs c.args.place c.index_mut.result.now (omega (arith, c.args.items.now.ok.0)) c.index_mut.ensures.value None

pub returns-then-place-len-clause-is : goal.returns-then-place-len-clause-is
returns-then-place-len-clause-is g c there =
    let xs = c.args.items.now.items in
    ap (slice_set xs c.args.place) c.replace.ensures.after ∙ item_set None xs c.args.place None (omega (arith, c.args.items.now.ok.0))

pub returns-then-place-len-clause-none : goal.returns-then-place-len-clause-none
returns-then-place-len-clause-none g c none =
    let xs = c.args.items.now.items in
    let here = get_or_read xs c.args.place c.index_mut.result.now (omega (arith, c.args.items.now.ok.0)) c.index_mut.ensures.value None in
    ap (slice_set xs c.args.place) (c.replace.ensures.after ∙ (sym none ∙ (c.replace.ensures.value ∙ here))) ∙ set-get_or xs c.args.place None
