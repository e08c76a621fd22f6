use Rattle.audit_base.proofs.Products.{comes_both, if_ok}
use Rattle.audit_base.proofs.both.BothPart.moved.Goals as goal

pub returns-clause-comes : goal.returns-clause-comes
returns-clause-comes g c w s at stands =
    if_ok c.moved-2.result (λ x h. comes_both (g.A.Part.stands c.moved.new.self) (g.B.Part.stands c.moved-2.new.self) _ _ (c.in_ok-moved.ensures.comes w s.0 at stands.0) h) (c.moved-2.ensures.comes w s.1 at stands.1)

pub returns-clause-fits : goal.returns-clause-fits
returns-clause-fits g c = if_ok c.moved-2.result (λ x h o a. (c.in_ok-moved.ensures.fits o a, h o a)) c.moved-2.ensures.fits
