use Rattle.std.proofs.Common.{ℕ, ◌≡◌, ◌+◌, List, [], ◌∷◌, ◌++◌, map, length, ◌∙◌, ap, sym, arith}
use Rattle.std.proofs.lemmas.List.FromFn.{map-range_with_len_more, length-map-range_with_len}
use Rattle.std.specs.List.{range_with_len}
use Rattle.mcal_base.specs.declared.register.Reg.TheVariants.{ConverterList}
use Rattle.adc_groups.specs.declared.making.WindowWrite.{WindowWrite}
use Rattle.adc_groups.specs.declared.making.WindowWrite.TheVariants.{Write}
use Rattle.adc_groups.specs.laws.services.Decisions.{list_deed}
use Rattle.adc_groups.proofs.service.turn.lists.Goals as goal

pub loop-at-preserved : goal.loop-at-preserved
loop-at-preserved c =
    let n = c.loop-at.at in
    let f = list_deed c.args.table.now c.args.unit c.args.group c.args.kept in
    let is : c.push.new.self ≡ map f (range_with_len 0 (n + 1)) =
    c.push.ensures
    ∙ ap (λ (xs : List WindowWrite). xs ++ Write (ConverterList c.args.unit n) c.listed-inputs.result ∷ []) c.loop-at.invariant.0
    ∙ ap (λ (v : ℕ). map f (range_with_len 0 n) ++ Write (ConverterList c.args.unit n) v ∷ []) c.listed-inputs.ensures
    ∙ sym (map-range_with_len_more f 0 n n (omega arith)) in
    (is, ap (λ (xs : List WindowWrite). length xs) is ∙ length-map-range_with_len f 0 (n + 1))
