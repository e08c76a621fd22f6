use Rattle.audit_converters.proofs.Terms.{Gives, refl, Stands, subst, sym, work}
use Rattle.audit_converters.proofs.groups.Groups.work.Goals as goal

pub returns-in-Init-clause-is : goal.returns-in-Init-clause-is
returns-in-Init-clause-is c s h =
    subst (λ call. Gives (Stands c.open.new.self) c.nothing.result (work c.args.table.now s call)) (sym c.in-Init.is) (record { told = c.nothing.ensures; wordless = refl; kept = c.open.ensures.is s h })

pub returns-in-DeInit-clause-is : goal.returns-in-DeInit-clause-is
returns-in-DeInit-clause-is c s h =
    subst (λ call. Gives (Stands c.close.new.self) c.nothing-in-DeInit.result (work c.args.table.now s call)) (sym c.in-DeInit.is) (record { told = c.nothing-in-DeInit.ensures; wordless = refl; kept = c.close.ensures.is s h })

pub returns-in-Group-clause-is : goal.returns-in-Group-clause-is
returns-in-Group-clause-is c s h = subst (λ call. Gives (Stands c.work_on.new.self) c.work_on.result (work c.args.table.now s call)) (sym c.in-Group.is) (c.work_on.ensures.is s h)
