use Rattle.audit_serial.proofs.Terms.{ap, IfOk-weaker, JobWord, None, shown_on, Some, UnitsKept, with_item, ◌∙◌}
use Rattle.audit_serial.proofs.units.Units.put_run.Goals as goal

pub returns : goal.returns
returns c =
    let u = c.args.unit in
    let n = c.args.received in
    let shown = c.in_ok-show.ensures ∙ ap (λ (y : JobWord). record c.args.self.now { wires = shown_on c.args.self.now.wires u n y }) c.word.ensures in
    let v : UnitsKept = record { runs = c.self.inside.runs.items; carried = c.self.inside.carried.items; wires = c.self.inside.wires.items } in
    IfOk-weaker c.put.result _ _ (λ _ e.
    ap (λ xs. record v { runs = xs }) e
    ∙ (ap (λ (k : UnitsKept). record k { runs = with_item None k.runs u (Some c.args.run) }) (c.self.view_is ∙ shown))) c.put.ensures
