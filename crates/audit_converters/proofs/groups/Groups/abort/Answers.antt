use Rattle.audit_converters.proofs.Terms.{aborting, ap, ComesIf, None, option_map, refl, round_as, Some, Stands, subst, sym, ◌∙◌}
use Rattle.audit_converters.proofs.groups.Groups.abort.Goals as goal

pub returns-in-Some-clause-is : goal.returns-in-Some-clause-is
returns-in-Some-clause-is c w s at took h =
    subst (λ r. ComesIf (Stands c.abort_round.new.self) (Some c.nothing.result) (aborting c.args.table.now w s c.args.unit r)) (ap (λ r. option_map round_as r) (sym c.in-Some.is) ∙ c.aborts.ensures w s at h)
    (record { told = c.nothing.ensures; wordless = refl; kept = c.abort_round.ensures.is w s at took h })

pub returns-in-None-clause-is : goal.returns-in-None-clause-is
returns-in-None-clause-is c w s at took h =
    subst (λ r. ComesIf (Stands c.args.self.now) None (aborting c.args.table.now w s c.args.unit r)) (ap (λ r. option_map round_as r) (sym c.in-None.is) ∙ c.aborts.ensures w s at h) tt
