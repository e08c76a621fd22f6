use Rattle.std.proofs.Common.{◌∙◌, ap, None, subst, sym}
use Rattle.std.specs.Prelude.{IfOk, option_copied, option_map}
use Rattle.run_model.specs.Frame.{outcome_of}
use Rattle.audit_base.specs.Outside.{IsWorld}
use Rattle.audit_machines.specs.Happens.{Takes, act_of, reported_by, times_by}
use Rattle.audit_machines.specs.Requests.{call_of}
use Rattle.audit_machines.proofs.machines.Machines.act_by.Goals as goal

pub returns-in-Some-clause-takes : goal.returns-in-Some-clause-takes
returns-in-Some-clause-takes g c w s at stands =
    let p = g.P.Part in
    let old = c.args.self.now in
    let m = (p.member (p.table old.modules)).machine in
    let times = times_by old.places c.args.times.now in
    subst (λ r. IfOk c.act.result (λ took. Takes (λ x. IsWorld c.act.new.self.outside w × p.stands c.act.new.self.modules x) s took (reported_by m (option_map call_of r)) (outcome_of m w s (act_of (option_map call_of r) times)))) (sym (ap option_copied c.in-Some.is) ∙ c.request_in.ensures)
    (c.act.ensures.takes w s at stands)

pub returns-in-None-clause-takes : goal.returns-in-None-clause-takes
returns-in-None-clause-takes g c w s at stands =
    let p = g.P.Part in
    let old = c.args.self.now in
    let m = (p.member (p.table old.modules)).machine in
    let times = times_by old.places c.args.times.now in
    subst (λ r. Takes (λ x. IsWorld c.refuse.new.self.outside w × p.stands c.refuse.new.self.modules x) s c.refuse.result (reported_by m (option_map call_of r)) (outcome_of m w s (act_of (option_map call_of r) times))) (sym (ap option_copied c.in-None.is) ∙ c.request_in.ensures)
    (subst (λ t. Takes (λ x. IsWorld c.refuse.new.self.outside w × p.stands c.refuse.new.self.modules x) s t (reported_by m None) None) (sym c.refuse.ensures.refused)
    (c.refuse.ensures.world w at, subst (λ x. p.stands x s) (sym c.refuse.ensures.modules) stands))
