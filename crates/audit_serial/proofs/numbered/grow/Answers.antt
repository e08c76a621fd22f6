use Rattle.audit_serial.proofs.Terms.{[], ap, arith, grown_from, length, padded_more, padded_none, ◌++◌, ◌<◌, ◌∙◌, ◌∷◌, ◌≤◌}
use Rattle.audit_serial.proofs.numbered.grow.Goals as goal

pub grows-init : goal.grows-init
grows-init g c = padded_none g.T.Blank.blank c.args.items.now.items c.args.number

pub grows-preserved : goal.grows-preserved
grows-preserved g c =
    let xs = c.grows.items.items in
    let le : length xs ≤ c.args.number = omega (arith, c.grows-test.true, c.grows.items.ok.0) in
    padded_more g.T.Blank.blank c.args.items.now.items xs c.push.new.self.items c.args.number (c.in_ok-push.ensures.items ∙ ap (λ x. xs ++ x ∷ []) c.blank.ensures) le c.grows.invariant

pub returns : goal.returns
returns g c =
    let xs = c.grows.items.items in
    let lt : c.args.number < length xs = omega (arith, c.grows-test.false, c.grows.items.ok.0) in
    grown_from g.T.Blank.blank c.args.items.now.items xs c.args.number lt c.grows.invariant
