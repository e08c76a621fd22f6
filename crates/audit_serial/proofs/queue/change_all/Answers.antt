use Rattle.audit_serial.proofs.Terms.{ap, arith, changed_all, changed_by, item_changed, item_left, IsWithin, length, length-map, length-set, map, Pending, pending_as, refl, slice_index_or, within_at, ◌<◌, ◌∙◌, ◌≤◌}
use Rattle.audit_serial.proofs.queue.change_all.Goals as goal

pub loop-place-init : goal.loop-place-init
loop-place-init c = record { is = refl; size = refl }

pub changed-requires : goal.changed-requires
changed-requires c =
    let k = c.loop-place.place in
    let es = c.loop-place.entries.items in
    let ys = map pending_as c.args.entries.now.items in
    let r = c.index.result.now in
    let here = c.loop-place.invariant in
    let lt : k < length es = omega (arith, here.size, c.loop-place-test.true, c.args.entries.now.ok.0) in
    let small : k < length ys = omega (arith, lt, here.size, length-map c.args.entries.now.items pending_as) in
    let within : (slice_index_or ys k (pending_as r)).next ≤ c.args.events = within_at (IsWithin c.args.events) ys k (pending_as r) small c.requires.within in
    let same = ap (λ (p : Pending). p.next) (item_left pending_as (λ i. changed_by c.args.sequence c.args.change) es ys k r lt c.index.ensures here.is) in
    omega (arith, within, same, c.requires.room)

pub loop-place-preserved : goal.loop-place-preserved
loop-place-preserved c =
    let k = c.loop-place.place in
    let es = c.loop-place.entries.items in
    let ys = map pending_as c.args.entries.now.items in
    let here = c.loop-place.invariant in
    let lt : k < length es = omega (arith, here.size, c.loop-place-test.true, c.args.entries.now.ok.0) in
    record {
      is = item_changed pending_as (λ i. changed_by c.args.sequence c.args.change) es ys k c.index.result.now c.changed.result lt c.index.ensures here.is c.changed.ensures;
      size = length-set es k c.changed.result ∙ here.size;
    }

pub returns : goal.returns
returns c =
    let k = c.loop-place.place in
    let ys = map pending_as c.args.entries.now.items in
    let all : length ys ≤ k = omega (arith, c.loop-place-test.false, c.args.entries.now.ok.0, length-map c.args.entries.now.items pending_as) in
    c.loop-place.invariant.is ∙ changed_all (changed_by c.args.sequence c.args.change) k ys all
