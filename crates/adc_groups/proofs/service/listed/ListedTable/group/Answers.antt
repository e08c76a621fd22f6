-- The list has at each place the configured group of that place.
use Rattle.std.proofs.Common.{ℕ, ◌≡◌, ◌+◌, ◌-◌, ◌==◌, Bool, true, false, zero, suc, if◌then◌else◌, is_some, List, ◌∷◌, slice_index_or, ap, refl, sym, ◌∙◌, arith}
use Rattle.std.proofs.lemmas.Bool.Decides.{nat_tests}
use Rattle.adc_machine.specs.Table.{group_of}
use Rattle.adc_machine.specs.declared.table.AdcTable.{AdcTable}
use Rattle.adc_groups.specs.laws.services.InitSteps.{configured_from, nth_from}
use Rattle.adc_groups.proofs.service.listed.ListedTable.group.Goals as goal

nth_listed : (d : AdcTable) (n g i : ℕ) → slice_index_or (configured_from d n g) i 16 ≡ nth_from d n g i
nth_listed d zero g i = refl
nth_listed d (suc n) g i = by (λ k. nth_listed d n (g + 1) k) (is_some (group_of d g)) i
  where
    by : ((k : ℕ) → slice_index_or (configured_from d n (g + 1)) k 16 ≡ nth_from d n (g + 1) k) → (q : Bool) (i : ℕ)
        → slice_index_or (if q then g ∷ configured_from d n (g + 1) else configured_from d n (g + 1)) i 16 ≡ (if q then (if i == 0 then g else nth_from d n (g + 1) (i - 1)) else nth_from d n (g + 1) i)
    by rest true zero = refl
    by rest true (suc i) =
        let off : (suc i == 0) ≡ false = grind (arith, nat_tests) in
        let back : i ≡ suc i - 1 = omega arith in
        rest i ∙ (ap (λ k. nth_from d n (g + 1) k) back ∙ ap (λ b. if b then g else nth_from d n (g + 1) (suc i - 1)) (sym off))
    by rest false i = rest i

pub returns : goal.returns
returns c =
    let d = c.self.inside.table in
    let i = c.args.place in
    c.number_at.ensures
    ∙ (ap (λ (xs : List ℕ). slice_index_or xs i 16) (c.as_slice.ensures.items ∙ c.self.invariant)
    ∙ (nth_listed d 16 0 i ∙ ap (λ z. nth_from z 16 0 i) c.self.view_is))
