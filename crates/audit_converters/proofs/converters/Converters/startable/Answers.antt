use Rattle.audit_converters.proofs.Terms.{ap, ConvertersKept, Some, StandsFor, startable_on, subst, sym, ◌∙◌}
use Rattle.audit_converters.proofs.converters.Converters.startable.Goals as goal

pub returns-in-Some : goal.returns-in-Some
returns-in-Some c w s at h =
    let v = subst (λ (k : ConvertersKept). StandsFor k s) (sym c.self.view_is) h in
    c.is_startable.ensures w s at v.groups
    ∙ (ap (λ (k : ConvertersKept). startable_on k.table w s (Some c.in-Some.unit)) c.self.view_is
    ∙ ap (startable_on c.args.self.now.table w s) (sym c.in-Some.is ∙ c.number_of.ensures))

pub returns-in-None : goal.returns-in-None
returns-in-None c w s at h = ap (startable_on c.args.self.now.table w s) (sym c.in-None.is ∙ c.number_of.ensures)
