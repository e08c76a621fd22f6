use Rattle.std.proofs.Common.{◌≡◌, ◌∙◌, ap}
use Rattle.bench_sweep.specs.Outcomes.{told_in}
use Rattle.bench_sweep.proofs.Printed.{added_new, added_ok, before_line, found_at, not_there, there}
use Rattle.bench_sweep.proofs.outcomes.Outcome.tell.Goals as goal

pub returns-then-is_at : goal.returns-then-is_at
returns-then-is_at c =
    let ts = c.args.self.now.told.items in
    let at : c.place_of-place.result ≡ before_line c.args.line ts = c.place_of-place.ensures ∙ found_at c.args.line ts in
    added_ok c.args.line c.args.text.now ts c.place_of-place.result c.index_mut.result.now c.add.new.self c.add.result at
    (there c.args.line ts c.place_of-place.result c.index_mut.result.now (c.is_at.ensures.0 c.if-is_at.true) c.index_mut.ensures.value)
    c.add.ensures.line c.add.ensures.text

pub returns : goal.returns
returns c =
    let ts = c.args.self.now.told.items in
    let at : c.place_of-place.result ≡ before_line c.args.line ts = c.place_of-place.ensures ∙ found_at c.args.line ts in
    ap told_in c.in_ok-insert.ensures.items
    ∙ added_new c.args.line c.args.text.now ts c.place_of-place.result _ at (not_there c.is_at.result _ c.is_at.ensures.1 c.if-is_at.false) c.in_ok-add.ensures.line (rw c.new.ensures.bytes at c.in_ok-add.ensures.text)
