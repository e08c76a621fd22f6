use Rattle.audit_serial.proofs.Terms.{ap, None, slice_index_or, UnitsKept, with_item, ◌∙◌}
use Rattle.audit_serial.proofs.units.Units.take_carried.Goals as goal

pub returns-clause-was : goal.returns-clause-was
returns-clause-was c = c.take_at.ensures.was ∙ ap (λ (k : UnitsKept). slice_index_or k.carried c.args.unit None) c.self.view_is

pub returns-clause-is : goal.returns-clause-is
returns-clause-is c there =
    let v : UnitsKept = record { runs = c.self.inside.runs.items; carried = c.self.inside.carried.items; wires = c.self.inside.wires.items } in
    ap (λ xs. record v { carried = xs }) (c.take_at.ensures.is there) ∙ ap (λ (k : UnitsKept). record k { carried = with_item None k.carried c.args.unit None }) c.self.view_is

pub returns-clause-none : goal.returns-clause-none
returns-clause-none c none =
    let v : UnitsKept = record { runs = c.self.inside.runs.items; carried = c.self.inside.carried.items; wires = c.self.inside.wires.items } in
    ap (λ xs. record v { carried = xs }) (c.take_at.ensures.none none) ∙ c.self.view_is
