use Rattle.std.proofs.Common.{◌≡◌, length, List, Option, ap, arith}
use Rattle.std.proofs.lemmas.Grind.{common_steps}
use Rattle.adc_machine.specs.declared.table.Group.{Group}
use Rattle.adc_machine.proofs.Small.{link, no_more}
use Rattle.adc_machine.proofs.table.AdcTable.copied.Goals as goal

pub returns : goal.returns
returns c =
    let gs : List (Option Group) = c.args.self.now.groups in
    let all : length gs ≡ 16 = grind (arith, common_steps) in
    ap (λ (xs : List (Option Group)). record c.args.self.now { groups = xs }) (
    link gs 0 c.same.result c.index-self-0.result _ (omega (arith, all)) c.same.ensures
    (link gs 1 c.same-2.result c.index-self-1.result _ (omega (arith, all)) c.same-2.ensures
    (link gs 2 c.same-3.result c.index-self-2.result _ (omega (arith, all)) c.same-3.ensures
    (link gs 3 c.same-4.result c.index-self-3.result _ (omega (arith, all)) c.same-4.ensures
    (link gs 4 c.same-5.result c.index-self-4.result _ (omega (arith, all)) c.same-5.ensures
    (link gs 5 c.same-6.result c.index-self-5.result _ (omega (arith, all)) c.same-6.ensures
    (link gs 6 c.same-7.result c.index-self-6.result _ (omega (arith, all)) c.same-7.ensures
    (link gs 7 c.same-8.result c.index-self-7.result _ (omega (arith, all)) c.same-8.ensures
    (link gs 8 c.same-9.result c.index-self-8.result _ (omega (arith, all)) c.same-9.ensures
    (link gs 9 c.same-10.result c.index-self-9.result _ (omega (arith, all)) c.same-10.ensures
    (link gs 10 c.same-11.result c.index-self-10.result _ (omega (arith, all)) c.same-11.ensures
    (link gs 11 c.same-12.result c.index-self-11.result _ (omega (arith, all)) c.same-12.ensures
    (link gs 12 c.same-13.result c.index-self-12.result _ (omega (arith, all)) c.same-13.ensures
    (link gs 13 c.same-14.result c.index-self-13.result _ (omega (arith, all)) c.same-14.ensures
    (link gs 14 c.same-15.result c.index-self-14.result _ (omega (arith, all)) c.same-15.ensures
    (link gs 15 c.same-16.result c.index-self-15.result _ (omega (arith, all)) c.same-16.ensures
    (no_more gs 16 (omega (arith, all)))))))))))))))))))
