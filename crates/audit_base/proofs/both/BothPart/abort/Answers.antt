use Rattle.std.proofs.Common.{subst}
use Rattle.run_model.specs.Machine.{Aborts}
use Rattle.audit_base.proofs.Products.{if_ok, starts_first, starts_second}
use Rattle.audit_base.specs.Deeds.{Follows}
use Rattle.audit_base.proofs.both.BothPart.abort.Goals as goal

pub returns-in-Some-clause-follows : goal.returns-in-Some-clause-follows
returns-in-Some-clause-follows g c w s at stands =
    let m = c.args.self.now in
    let a = g.A.Part in
    let b = g.B.Part in
    let p = a.stands c.abort.new.self in
    let x = (a.member (a.table m.first)).machine in
    starts_first p (b.stands m.second) s.0 s.1 c.in-Some.done (x.happens w s.0 (Aborts c.args.unit)) _ stands.1
    (subst (λ d. Follows p s.0 d (x.happens w s.0 (Aborts c.args.unit))) c.in-Some.is (c.in_ok-found.ensures.follows w s.0 at stands.0))

pub returns-in-None-clause-follows : goal.returns-in-None-clause-follows
returns-in-None-clause-follows g c w s at stands =
    let m = c.args.self.now in
    let a = g.A.Part in
    let b = g.B.Part in
    let p = a.stands c.abort.new.self in
    let q = b.stands c.abort-in-None.new.self in
    let x = (a.member (a.table m.first)).machine in
    let y = (b.member (b.table m.second)).machine in
    let refused = subst (λ d. Follows p s.0 d (x.happens w s.0 (Aborts c.args.unit))) c.in-None.is (c.in_ok-found.ensures.follows w s.0 at stands.0) in
    let second = c.abort-in-None.ensures.follows w s.1 at stands.1 in
    if_ok c.abort-in-None.result (λ d h. starts_second p q s.0 s.1 d (x.happens w s.0 (Aborts c.args.unit)) _ refused h) second

pub returns-in-Some-clause-fits : goal.returns-in-Some-clause-fits
returns-in-Some-clause-fits g c o a = (c.in_ok-found.ensures.fits o a, g.met.B.Part.later c.args.self.now.second c.args.outside.now o c.requires.fits.1 a)

pub returns-in-None-clause-fits : goal.returns-in-None-clause-fits
returns-in-None-clause-fits g c = if_ok c.abort-in-None.result (λ d h o a. (c.in_ok-found.ensures.fits o a, h o a)) c.abort-in-None.ensures.fits
