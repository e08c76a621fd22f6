-- The list of the configured groups' numbers is as long as there are such groups.
use Rattle.std.proofs.Common.{ℕ, zero, suc, ◌≡◌, ◌+◌, true, false, if◌then◌else◌, is_some, List, ◌∷◌, length, ap, refl, ◌∙◌, arith}
use Rattle.adc_machine.specs.Table.{group_of}
use Rattle.adc_machine.specs.declared.table.AdcTable.{AdcTable}
use Rattle.adc_groups.specs.laws.services.InitSteps.{configured_from, many_from}
use Rattle.adc_groups.proofs.service.listed.ListedTable.many.Goals as goal

many_listed : (d : AdcTable) (n g : ℕ) → length (configured_from d n g) ≡ many_from d n g
many_listed d zero g = refl
many_listed d (suc n) g = elim (is_some (group_of d g)) as (λ q. length (if q then g ∷ configured_from d n (g + 1) else configured_from d n (g + 1)) ≡ (if q then 1 + many_from d n (g + 1) else many_from d n (g + 1)))
    [ true ↦ (let e = many_listed d n (g + 1) in omega (arith, e)) | false ↦ many_listed d n (g + 1) ]

pub returns-clause-is : goal.returns-clause-is
returns-clause-is c =
    let d = c.self.inside.table in
    c.len.ensures.count ∙ (ap (λ (xs : List ℕ). length xs) c.self.invariant ∙ (many_listed d 16 0 ∙ ap (λ z. many_from z 16 0) c.self.view_is))
