use Rattle.audit_serial.proofs.Terms.{ap, arith, get_or_past, get_or_read, None, slice_index_or, sym, UnitsKept, ◌∙◌}
use Rattle.audit_serial.proofs.units.Units.run.Goals as goal

pub returns-then-place-len : goal.returns-then-place-len
returns-then-place-len c =
    let xs = c.self.inside.runs.items in
    c.as_ref.ensures.value
    ∙ (get_or_read xs c.args.unit c.index.result.now (omega (arith, c.self.inside.runs.ok.0)) c.index.ensures None
    ∙ ap (λ (k : UnitsKept). slice_index_or k.runs c.args.unit None) c.self.view_is)

pub returns-else-place-len : goal.returns-else-place-len
returns-else-place-len c =
    let xs = c.self.inside.runs.items in
    sym (get_or_past xs c.args.unit None (omega (arith, c.self.inside.runs.ok.0))) ∙ ap (λ (k : UnitsKept). slice_index_or k.runs c.args.unit None) c.self.view_is
