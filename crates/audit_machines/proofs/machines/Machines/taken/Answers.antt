use Rattle.std.proofs.Common.{subst, sym}
use Rattle.std.specs.Prelude.{IfOk}
use Rattle.run_model.specs.Frame.{outcome_of}
use Rattle.audit_base.specs.Outside.{IsWorld}
use Rattle.audit_machines.specs.Happens.{Takes, act_of, called, deed_of, report, reported_by, times_by, world_by}
use Rattle.audit_machines.proofs.machines.Machines.taken.Goals as goal

pub returns-in-Hw-clause-takes : goal.returns-in-Hw-clause-takes
returns-in-Hw-clause-takes g c w s at stands =
    let p = g.P.Part in
    let old = c.args.self.now in
    let m = (p.member (p.table old.modules)).machine in
    subst (λ h. IfOk c.move_by.result (λ took. Takes (λ x. IsWorld c.move_by.new.self.outside (world_by w (m.rate s) h) × p.stands c.move_by.new.self.modules x) s took (report m h) (outcome_of m w s (deed_of old.places h)))) (sym c.in-Hw.is) (c.move_by.ensures.takes w s at stands)

pub returns-in-Act-clause-takes : goal.returns-in-Act-clause-takes
returns-in-Act-clause-takes g c w s at stands =
    let p = g.P.Part in
    let old = c.args.self.now in
    let m = (p.member (p.table old.modules)).machine in
    let d = c.in-Act.directive in
    subst (λ h. IfOk c.act_by.result (λ took. Takes (λ x. IsWorld c.act_by.new.self.outside (world_by w (m.rate s) h) × p.stands c.act_by.new.self.modules x) s took (report m h) (outcome_of m w s (deed_of old.places h)))) (sym c.in-Act.is)
    (subst (λ times. IfOk c.act_by.result (λ took. Takes (λ x. IsWorld c.act_by.new.self.outside w × p.stands c.act_by.new.self.modules x) s took (reported_by m (called d)) (outcome_of m w s (act_of (called d) (times_by old.places times))))) c.as_slice.ensures.items (c.act_by.ensures.takes w s at stands))

pub returns-in-Serve-clause-takes : goal.returns-in-Serve-clause-takes
returns-in-Serve-clause-takes g c w s at stands =
    let p = g.P.Part in
    let old = c.args.self.now in
    let m = (p.member (p.table old.modules)).machine in
    subst (λ h. IfOk c.serve.result (λ took. Takes (λ x. IsWorld c.serve.new.self.outside (world_by w (m.rate s) h) × p.stands c.serve.new.self.modules x) s took (report m h) (outcome_of m w s (deed_of old.places h)))) (sym c.in-Serve.is) (c.serve.ensures.takes w s at stands)

pub returns-in-Start-clause-takes : goal.returns-in-Start-clause-takes
returns-in-Start-clause-takes g c w s at stands =
    let p = g.P.Part in
    let old = c.args.self.now in
    let m = (p.member (p.table old.modules)).machine in
    subst (λ h. IfOk c.start.result (λ took. Takes (λ x. IsWorld c.start.new.self.outside (world_by w (m.rate s) h) × p.stands c.start.new.self.modules x) s took (report m h) (outcome_of m w s (deed_of old.places h)))) (sym c.in-Start.is) (c.start.ensures.takes w s at stands)

pub returns-in-Abort-clause-takes : goal.returns-in-Abort-clause-takes
returns-in-Abort-clause-takes g c w s at stands =
    let p = g.P.Part in
    let old = c.args.self.now in
    let m = (p.member (p.table old.modules)).machine in
    subst (λ h. IfOk c.abort.result (λ took. Takes (λ x. IsWorld c.abort.new.self.outside (world_by w (m.rate s) h) × p.stands c.abort.new.self.modules x) s took (report m h) (outcome_of m w s (deed_of old.places h)))) (sym c.in-Abort.is) (c.abort.ensures.takes w s at stands)

pub returns-in-Reset-clause-takes : goal.returns-in-Reset-clause-takes
returns-in-Reset-clause-takes g c w s at stands =
    let p = g.P.Part in
    let old = c.args.self.now in
    let m = (p.member (p.table old.modules)).machine in
    subst (λ h. Takes (λ x. IsWorld c.reset.new.self.outside (world_by w (m.rate s) h) × p.stands c.reset.new.self.modules x) s c.reset.result (report m h) (outcome_of m w s (deed_of old.places h))) (sym c.in-Reset.is) (c.reset.ensures.takes w s at stands)
