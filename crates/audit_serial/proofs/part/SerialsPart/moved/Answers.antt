use Rattle.std.proofs.Common.{◌≡◌, refl, subst, sym}
use Rattle.std.specs.Prelude.{IfOk}
use Rattle.mcal_base.specs.declared.directive.Order.TheVariants.{Fill, SpiFault}
use Rattle.run_model.specs.Machine.{Moves, tells_nothing}
use Rattle.spi_machine.specs.Machine.{happens}
use Rattle.audit_base.proofs.Products.{if_ok}
use Rattle.audit_base.specs.Comes.{Comes}
use Rattle.audit_serial.specs.Stands.{state_of}
use Rattle.audit_serial.proofs.part.SerialsPart.moved.Goals as goal

pub returns-in-Fill-clause-comes : goal.returns-in-Fill-clause-comes
returns-in-Fill-clause-comes c w s at stands =
    let x = state_of c.fill.new.self in
    let k = c.args.self.now in
    subst (λ order. IfOk c.fill.result (λ u. Comes (λ z. x ≡ z) tells_nothing (happens k.configured.table w s (Moves order)))) (sym c.in-Fill.is)
    (subst (λ y. IfOk c.fill.result (λ u. Comes (λ z. x ≡ z) tells_nothing (happens k.configured.table w y (Moves (Fill c.in-Fill.channel c.in-Fill.words))))) stands
    (if_ok c.fill.result (λ u e. subst (Comes (λ z. x ≡ z) tells_nothing) e (record { told = refl; wordless = refl; kept = refl })) (c.fill.ensures.is w c.in-Fill.words (sym c.as_slice.ensures.items))))

pub returns-in-SpiFault-clause-comes : goal.returns-in-SpiFault-clause-comes
returns-in-SpiFault-clause-comes c w s at stands =
    let x = state_of c.fault.new.self in
    let k = c.args.self.now in
    subst (λ order. IfOk c.fault.result (λ u. Comes (λ z. x ≡ z) tells_nothing (happens k.configured.table w s (Moves order)))) (sym c.in-SpiFault.is)
    (subst (λ y. IfOk c.fault.result (λ u. Comes (λ z. x ≡ z) tells_nothing (happens k.configured.table w y (Moves (SpiFault c.in-SpiFault.unit))))) stands
    (if_ok c.fault.result (λ u e. subst (Comes (λ z. x ≡ z) tells_nothing) e (record { told = refl; wordless = refl; kept = refl })) (c.fault.ensures.is w at.now)))
