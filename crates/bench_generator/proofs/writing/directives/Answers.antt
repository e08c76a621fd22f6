use Rattle.std.proofs.Common.{ℕ, ◌≡◌, ◌+◌, ◌++◌, [], ◌∷◌, List, map, ◌∙◌, ap, sym, arith}
use Rattle.std.proofs.lemmas.List.FromFn.{map-range_with_len_more}
use Rattle.std.specs.List.{range_with_len}
use Rattle.mcal_base.specs.declared.directive.Directive.{Directive}
use Rattle.mcal_base.specs.declared.directive.Order.{Order}
use Rattle.bench_generator.specs.Generated.{directive_of, generated}
use Rattle.bench_generator.proofs.writing.directives.Goals as goal

pub loop-before-preserved : goal.loop-before-preserved
loop-before-preserved c =
    let n = c.loop-before.before in
    let f = directive_of c.args.seed in
    c.in_ok-push.ensures.items
    ∙ ap (λ (xs : List Directive). xs ++ (record { line = n + 1; order = c.order_of.result }) ∷ []) c.loop-before.invariant
    ∙ ap (λ (o : Order). map f (range_with_len 1 n) ++ (record { line = n + 1; order = o }) ∷ []) c.order_of.ensures
    ∙ sym (map-range_with_len_more f 1 n (n + 1) (omega arith))

pub returns : goal.returns
unfolding generated
returns c =
    let end : c.loop-before.before ≡ c.args.count = omega (arith, c.loop-before-test.false, c.loop-before.auto.before-end) in
    c.loop-before.invariant ∙ ap (λ (n : ℕ). map (directive_of c.args.seed) (range_with_len 1 n)) end
