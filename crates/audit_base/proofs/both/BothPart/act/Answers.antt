use Rattle.std.proofs.Common.{subst, sym}
use Rattle.std.specs.Prelude.{IfOk}
use Rattle.run_model.specs.Machine.{Acts}
use Rattle.audit_base.proofs.Products.{Stand, follows_first, follows_second, if_ok}
use Rattle.audit_base.specs.Deeds.{Follows}
use Rattle.audit_base.specs.Product.{happens}
use Rattle.audit_base.proofs.both.BothPart.act.Goals as goal

pub returns-in-Left-clause-follows : goal.returns-in-Left-clause-follows
returns-in-Left-clause-follows g c w s committed at times stands =
    let m = c.args.self.now in
    let a = g.A.Part in
    let b = g.B.Part in
    let p = a.stands c.act.new.self in
    let q = b.stands m.second in
    subst (λ call. IfOk c.act.result (λ d. Follows (Stand p q) s d (happens (a.member (a.table m.first)) (b.member (b.table m.second)) w s (Acts call committed)))) (sym c.in-Left.is)
    (if_ok c.act.result (λ d h. follows_first p q s.0 s.1 d _ stands.1 h) (c.act.ensures.follows w s.0 committed at times stands.0))

pub returns-in-Right-clause-follows : goal.returns-in-Right-clause-follows
returns-in-Right-clause-follows g c w s committed at times stands =
    let m = c.args.self.now in
    let a = g.A.Part in
    let b = g.B.Part in
    let p = a.stands m.first in
    let q = b.stands c.act-in-Right.new.self in
    subst (λ call. IfOk c.act-in-Right.result (λ d. Follows (Stand p q) s d (happens (a.member (a.table m.first)) (b.member (b.table m.second)) w s (Acts call committed)))) (sym c.in-Right.is)
    (if_ok c.act-in-Right.result (λ d h. follows_second p q s.0 s.1 d _ stands.0 h) (c.act-in-Right.ensures.follows w s.1 committed at times stands.1))

pub returns-in-Left-clause-fits : goal.returns-in-Left-clause-fits
returns-in-Left-clause-fits g c =
    if_ok c.act.result (λ d h o a. (h o a, g.met.B.Part.later c.args.self.now.second c.args.outside.now o c.requires.fits.1 a)) c.act.ensures.fits

pub returns-in-Right-clause-fits : goal.returns-in-Right-clause-fits
returns-in-Right-clause-fits g c =
    if_ok c.act-in-Right.result (λ d h o a. (g.met.A.Part.later c.args.self.now.first c.args.outside.now o c.requires.fits.0 a, h o a)) c.act-in-Right.ensures.fits
