use Rattle.audit_converters.proofs.Terms.{acts_by, ap, Gives, refl, Stands, subst, sym, tells_error, ◌∙◌}
use Rattle.audit_converters.proofs.groups.Groups.act.Goals as goal

pub returns-in-Some-clause-is : goal.returns-in-Some-clause-is
returns-in-Some-clause-is c s h =
    subst (λ e. Gives (Stands c.args.self.now) c.with_error.result (acts_by c.args.table.now s c.args.call e)) (sym c.in-Some.is ∙ c.error.ensures s h)
    (record { told = c.with_error.ensures ∙ ap (λ a. tells_error a c.in-Some.error) c.refused.ensures; wordless = refl; kept = h })

pub returns-in-None-clause-is : goal.returns-in-None-clause-is
returns-in-None-clause-is c s h =
    subst (λ e. Gives (Stands c.work.new.self) c.work.result (acts_by c.args.table.now s c.args.call e)) (sym c.in-None.is ∙ c.error.ensures s h) (c.work.ensures.is s h)
