use Rattle.audit_serial.proofs.Terms.{[], ap, get_or_read, IfOk-weaker, shown_on, slice_index_or, UnitsKept, with_item, word_as, ◌++◌, ◌∙◌, ◌∷◌}
use Rattle.audit_serial.proofs.units.Units.show.Goals as goal

pub returns : goal.returns
returns c =
    let u = c.args.unit in
    let ws = c.self.inside.wires.items in
    let grown = c.in_ok-grow.ensures in
    let here = get_or_read c.grow.new.items.items u c.index_mut.result.now grown.there c.index_mut.ensures.value [] ∙ grown.same in
    let v : UnitsKept = record { runs = c.self.inside.runs.items; carried = c.self.inside.carried.items; wires = c.self.inside.wires.items } in
    IfOk-weaker c.push.result _ _ (λ _ e.
    ap (λ xs. record v { wires = xs })
    (grown.sets c.push.new.self
    ∙ ap (λ x. with_item [] ws u x) (e ∙ (ap (λ xs. xs ++ (c.args.word.sent, c.shown.result) ∷ []) here ∙ ap (λ y. slice_index_or ws u [] ++ (c.args.word.sent, y) ∷ []) c.shown.ensures)))
    ∙ ap (λ (k : UnitsKept). record k { wires = shown_on k.wires u c.args.received (word_as c.args.word) }) c.self.view_is) c.push.ensures
