use Rattle.std.proofs.Common.{cond, subst}
use Rattle.std.specs.Prelude.{IfOk}
use Rattle.run_model.specs.Machine.{Serves}
use Rattle.audit_base.proofs.Products.{Stand, follows_first, follows_second, if_ok}
use Rattle.audit_base.specs.Deeds.{Follows}
use Rattle.audit_base.specs.Product.{lifted}
use Rattle.audit_base.proofs.both.BothPart.serve.Goals as goal

pub returns-then-has_line-clause-follows : goal.returns-then-has_line-clause-follows
returns-then-has_line-clause-follows g c w s at stands =
    let m = c.args.self.now in
    let a = g.A.Part in
    let b = g.B.Part in
    let p = a.stands c.serve.new.self in
    let q = b.stands m.second in
    subst (λ ours. IfOk c.serve.result (λ d. Follows (Stand p q) s d (cond ours (lifted (λ x. (x, s.1)) ((a.member (a.table m.first)).machine.happens w s.0 (Serves c.args.line c.args.received))) (lifted (λ y. (s.0, y)) ((b.member (b.table m.second)).machine.happens w s.1 (Serves c.args.line c.args.received)))))) c.if-has_line.ensures
    (if_ok c.serve.result (λ d h. follows_first p q s.0 s.1 d _ stands.1 h) (c.serve.ensures.follows w s.0 at stands.0))

pub returns-else-has_line-clause-follows : goal.returns-else-has_line-clause-follows
returns-else-has_line-clause-follows g c w s at stands =
    let m = c.args.self.now in
    let a = g.A.Part in
    let b = g.B.Part in
    let p = a.stands m.first in
    let q = b.stands c.serve-else-has_line.new.self in
    subst (λ ours. IfOk c.serve-else-has_line.result (λ d. Follows (Stand p q) s d (cond ours (lifted (λ x. (x, s.1)) ((a.member (a.table m.first)).machine.happens w s.0 (Serves c.args.line c.args.received))) (lifted (λ y. (s.0, y)) ((b.member (b.table m.second)).machine.happens w s.1 (Serves c.args.line c.args.received)))))) c.if-has_line.ensures
    (if_ok c.serve-else-has_line.result (λ d h. follows_second p q s.0 s.1 d _ stands.0 h) (c.serve-else-has_line.ensures.follows w s.1 at stands.1))

pub returns-then-has_line-clause-fits : goal.returns-then-has_line-clause-fits
returns-then-has_line-clause-fits g c =
    if_ok c.serve.result (λ d h o a. (h o a, g.met.B.Part.later c.args.self.now.second c.args.outside.now o c.requires.fits.1 a)) c.serve.ensures.fits

pub returns-else-has_line-clause-fits : goal.returns-else-has_line-clause-fits
returns-else-has_line-clause-fits g c =
    if_ok c.serve-else-has_line.result (λ d h o a. (g.met.A.Part.later c.args.self.now.first c.args.outside.now o c.requires.fits.0 a, h o a)) c.serve-else-has_line.ensures.fits
