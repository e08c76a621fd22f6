use Rattle.audit_converters.proofs.Terms.{ComesIf, None, refl, Some, Stands, starting, subst, sym, ◌∙◌}
use Rattle.audit_converters.proofs.groups.Groups.start.Goals as goal

pub returns-in-Some-clause-is : goal.returns-in-Some-clause-is
returns-in-Some-clause-is c w s at h =
    subst (λ g. ComesIf (Stands c.start_round.new.self) (Some c.nothing.result) (starting w s c.args.unit g)) (sym c.in-Some.is ∙ c.starts.ensures s h)
    (record { told = c.nothing.ensures; wordless = refl; kept = c.start_round.ensures.is w s at h })

pub returns-in-None-clause-is : goal.returns-in-None-clause-is
returns-in-None-clause-is c w s at h = subst (λ g. ComesIf (Stands c.args.self.now) None (starting w s c.args.unit g)) (sym c.in-None.is ∙ c.starts.ensures s h) tt
