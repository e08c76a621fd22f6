-- A configured group's number comes behind those so far; the numbers from the next group on are left.
use Rattle.std.proofs.Common.{ℕ, ◌≡◌, ◌+◌, ◌-◌, ◌<◌, ◌≤◌, Bool, true, false, suc, if◌then◌else◌, is_some, List, [], ◌∷◌, ◌++◌, length, ap, subst, sym, ◌∙◌, arith}
use Rattle.std.proofs.lemmas.List.{append_assoc, length-append}
use Rattle.adc_machine.specs.Table.{group_of}
use Rattle.adc_machine.specs.declared.table.AdcTable.{AdcTable}
use Rattle.adc_groups.specs.laws.services.InitSteps.{configured_from}
use Rattle.adc_groups.proofs.service.listed.configured.Goals as goal
use Rattle.adc_groups.proofs.service.listed.configured.Goals.{then-is_there, else-is_there}

first : (d : AdcTable) (n : ℕ) → n < 16 → (q : Bool) → is_some (group_of d n) ≡ q → configured_from d (16 - n) n ≡ (if q then n ∷ configured_from d (16 - (n + 1)) (n + 1) else configured_from d (16 - (n + 1)) (n + 1))
first d n lt q e =
    let left : 16 - n ≡ suc (16 - (n + 1)) = omega (arith, lt) in
    ap (λ k. configured_from d k n) left ∙ ap (λ b. if b then n ∷ configured_from d (16 - (n + 1)) (n + 1) else configured_from d (16 - (n + 1)) (n + 1)) e

pub loop-number-preserved : goal.loop-number-preserved
loop-number-preserved c =
    let d = c.args.table.now in
    let n = c.loop-number.number in
    let xs = c.loop-number.numbers in
    let few = c.loop-number.invariant.few in
    let rest = c.loop-number.invariant.rest in
    let lt : n < 16 = c.loop-number-test.true in
    elim c.if-is_there.branch [
      | then-is_there w ↦ (
          let is : c.if-is_there.numbers ≡ xs ++ n ∷ [] = w.numbers-is ∙ w.push.ensures in
          let length_is : length (xs ++ n ∷ []) ≡ length xs + 1 = length-append xs (n ∷ []) in
          record {
            few = subst (λ (ys : List ℕ). length ys ≤ n + 1) (sym is) (omega (arith, few, length_is));
            rest = subst (λ (ys : List ℕ). ys ++ configured_from d (16 - (n + 1)) (n + 1) ≡ configured_from d 16 0) (sym is)
                (append_assoc xs (n ∷ []) (configured_from d (16 - (n + 1)) (n + 1)) ∙ (ap (λ ys. xs ++ ys) (sym (first d n lt true (sym c.is_there.ensures ∙ w.if-is_there.true))) ∙ rest));
          })
      | else-is_there w ↦ record {
        few = subst (λ (ys : List ℕ). length ys ≤ n + 1) (sym w.numbers-is) (omega (arith, few));
        rest = subst (λ (ys : List ℕ). ys ++ configured_from d (16 - (n + 1)) (n + 1) ≡ configured_from d 16 0) (sym w.numbers-is)
            (ap (λ ys. xs ++ ys) (sym (first d n lt false (sym c.is_there.ensures ∙ w.if-is_there.false))) ∙ rest);
      }
    ]
