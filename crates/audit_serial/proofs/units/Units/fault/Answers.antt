use Rattle.audit_serial.proofs.Terms.{ap, faulted_carrying, faulted_run, get_or_read, None, slice_index_or, slice_set, UnitsKept, with_item, ◌∙◌}
use Rattle.audit_serial.proofs.units.Units.fault.Goals as goal

pub returns : goal.returns
returns c =
    let u = c.args.unit in
    let t = c.args.now in
    let rs = c.self.inside.runs.items in
    let xs = c.self.inside.carried.items in
    let runs = c.in_ok-grow.ensures in
    let carried = c.in_ok-grow-2.ensures in
    let run = get_or_read c.grow.new.items.items u c.index_mut.result.now runs.there c.index_mut.ensures.value None ∙ runs.same in
    let held = get_or_read c.grow-2.new.items.items u c.index_mut-2.result.now carried.there c.index_mut-2.ensures.value None ∙ carried.same in
    let v : UnitsKept = record { runs = c.self.inside.runs.items; carried = c.self.inside.carried.items; wires = c.self.inside.wires.items } in
    ap (λ ys. record v { runs = ys; carried = slice_set c.grow-2.new.items.items u c.fault_carried.new.carried })
    (runs.sets c.fault_run.new.run ∙ ap (with_item None rs u) (c.fault_run.ensures ∙ ap (faulted_run t) run))
    ∙ (ap (λ ys. record v { runs = with_item None rs u (faulted_run t (slice_index_or rs u None)); carried = ys })
    (carried.sets c.fault_carried.new.carried ∙ ap (with_item None xs u) (c.fault_carried.ensures ∙ ap (faulted_carrying t) held))
    ∙ ap (λ (k : UnitsKept). record k {
      runs = with_item None k.runs u (faulted_run t (slice_index_or k.runs u None));
      carried = with_item None k.carried u (faulted_carrying t (slice_index_or k.carried u None));
    }) c.self.view_is)
