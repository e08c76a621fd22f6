use Rattle.audit_base.proofs.Products.{comes_both}
use Rattle.audit_base.proofs.both.BothPart.reset.Goals as goal

pub returns-clause-comes : goal.returns-clause-comes
returns-clause-comes g c w s stands =
    comes_both (g.A.Part.stands c.reset.new.self) (g.B.Part.stands c.reset-2.new.self) _ _ (c.reset.ensures.comes w s.0 stands.0) (c.reset-2.ensures.comes w s.1 stands.1)
