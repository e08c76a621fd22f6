use Rattle.audit_serial.proofs.Terms.{arith, item_set, length, padded_more, padded_none, ◌<◌, ◌∙◌, ◌≤◌}
use Rattle.audit_serial.proofs.numbered.set_item.Goals as goal

pub grows-init : goal.grows-init
grows-init g c = padded_none c.args.first c.args.items.now.items c.args.number

pub grows-preserved : goal.grows-preserved
grows-preserved g c =
    let xs = c.grows.items.items in
    let le : length xs ≤ c.args.number = omega (arith, c.grows-test.true, c.grows.items.ok.0) in
    padded_more c.args.first c.args.items.now.items xs c.push.new.self.items c.args.number c.in_ok-push.ensures.items le c.grows.invariant

pub returns : goal.returns
returns g c =
    let xs = c.grows.items.items in
    let lt : c.args.number < length xs = omega (arith, c.grows-test.false, c.grows.items.ok.0) in
    item_set c.args.first xs c.args.number c.args.item lt ∙ c.grows.invariant.sets c.args.item
