use Rattle.std.proofs.Common.{subst}
use Rattle.std.specs.Prelude.{IfOk, option_copied}
use Rattle.run_model.specs.Machine.{Starts}
use Rattle.audit_base.proofs.Products.{if_ok, starts_first, starts_second}
use Rattle.audit_base.specs.Deeds.{Follows}
use Rattle.audit_base.specs.Product.{first_call, second_call}
use Rattle.audit_base.proofs.both.BothPart.start.Goals as goal

pub returns-in-Some-clause-follows : goal.returns-in-Some-clause-follows
returns-in-Some-clause-follows g c w s at stands =
    let m = c.args.self.now in
    let a = g.A.Part in
    let b = g.B.Part in
    let p = a.stands c.start.new.self in
    let x = (a.member (a.table m.first)).machine in
    starts_first p (b.stands m.second) s.0 s.1 c.in-Some.done (x.happens w s.0 (Starts c.args.unit (first_call (option_copied c.args.by)) c.args.received)) _ stands.1
    (subst (λ d. Follows p s.0 d (x.happens w s.0 (Starts c.args.unit (first_call (option_copied c.args.by)) c.args.received))) c.in-Some.is (subst (λ by. Follows p s.0 c.in_ok-found.found (x.happens w s.0 (Starts c.args.unit by c.args.received))) c.first_call.ensures (c.in_ok-found.ensures.follows w s.0 at stands.0)))

pub returns-in-None-clause-follows : goal.returns-in-None-clause-follows
returns-in-None-clause-follows g c w s at stands =
    let m = c.args.self.now in
    let a = g.A.Part in
    let b = g.B.Part in
    let p = a.stands c.start.new.self in
    let q = b.stands c.start-in-None.new.self in
    let x = (a.member (a.table m.first)).machine in
    let y = (b.member (b.table m.second)).machine in
    let refused = subst (λ d. Follows p s.0 d (x.happens w s.0 (Starts c.args.unit (first_call (option_copied c.args.by)) c.args.received))) c.in-None.is (subst (λ by. Follows p s.0 c.in_ok-found.found (x.happens w s.0 (Starts c.args.unit by c.args.received))) c.first_call.ensures (c.in_ok-found.ensures.follows w s.0 at stands.0)) in
    let second = subst (λ by. IfOk c.start-in-None.result (λ d. Follows q s.1 d (y.happens w s.1 (Starts c.args.unit by c.args.received)))) c.second_call.ensures (c.start-in-None.ensures.follows w s.1 at stands.1) in
    if_ok c.start-in-None.result (λ d h. starts_second p q s.0 s.1 d (x.happens w s.0 (Starts c.args.unit (first_call (option_copied c.args.by)) c.args.received)) _ refused h) second

pub returns-in-Some-clause-fits : goal.returns-in-Some-clause-fits
returns-in-Some-clause-fits g c o a = (c.in_ok-found.ensures.fits o a, g.met.B.Part.later c.args.self.now.second c.args.outside.now o c.requires.fits.1 a)

pub returns-in-None-clause-fits : goal.returns-in-None-clause-fits
returns-in-None-clause-fits g c = if_ok c.start-in-None.result (λ d h o a. (c.in_ok-found.ensures.fits o a, h o a)) c.start-in-None.ensures.fits
