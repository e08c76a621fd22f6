use Rattle.audit_serial.proofs.Terms.{ap, begun_of, outcome_with, served_free, Some, state_of, sym, ◌∙◌}
use Rattle.audit_serial.proofs.serials.Serials.serve_run.Goals as goal

pub returns-in_ok-begun-clause-is : goal.returns-in_ok-begun-clause-is
returns-in_ok-begun-clause-is c w time =
    let m = c.args.self.now in
    ap (λ t. outcome_with (state_of c.go_on.new.self) t (Some (begun_of c.in_ok-begun.begun))) c.nothing.ensures
    ∙ (c.in_ok-begun.ensures.is w time
    ∙ ap (λ b. served_free m.configured.table w (state_of m) c.args.unit c.args.received c.args.run b) (sym c.if-goes_on.true ∙ c.goes_on.ensures))

pub returns-in_ok-told-clause-is : goal.returns-in_ok-told-clause-is
returns-in_ok-told-clause-is c w time =
    let m = c.args.self.now in
    c.in_ok-told.ensures.is w c.args.unit c.args.received
    ∙ ap (λ b. served_free m.configured.table w (state_of m) c.args.unit c.args.received c.args.run b) (sym c.if-goes_on.false ∙ c.goes_on.ensures)
