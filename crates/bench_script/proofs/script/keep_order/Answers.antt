use Rattle.std.proofs.Common.{◌≡◌, ◌∙◌, ◌++◌, ◌∷◌, [], List, arith, ap, refl, length, false, true}
use Rattle.std.specs.Prelude.{nat_lt}
use Rattle.std.proofs.lemmas.Bool.Decides.{nat_tests}
use Rattle.mcal_base.specs.declared.directive.Directive.{Directive}
use Rattle.bench_script.specs.Orders.{keyword_of}
use Rattle.bench_script.proofs.Rest.{kept_there, order_read, order_too_many}
use Rattle.bench_script.proofs.script.keep_order.Goals as goal

pub returns-then-place-eq-MOST_DIRECTIVES-clause-keeps : goal.returns-then-place-eq-MOST_DIRECTIVES-clause-keeps
returns-then-place-eq-MOST_DIRECTIVES-clause-keeps c =
    let full : nat_lt (length c.args.directives.now.items) 50000 ≡ false = grind (arith, nat_tests, c.len-place.ensures, c.if-place-eq-MOST_DIRECTIVES.true) in
    rw c.in_ok-one_too_many.ensures (order_too_many (Unit {0}) _ _ _ _ full)

pub returns-clause-keeps : goal.returns-clause-keeps
returns-clause-keeps c =
    let below : nat_lt (length c.args.directives.now.items) 50000 ≡ true = grind (arith, nat_tests, c.requires, c.len-place.ensures, c.if-place-eq-MOST_DIRECTIVES.false) in
    let place : c.len-place.result ≡ length c.args.directives.now.items = omega (arith, c.len-place.ensures) in
    let first : Directive = record { line = c.args.number; order = c.in_ok-order.order } in
    let pushed : c.push_reserved.new.self.items ≡ c.args.directives.now.items ++ first ∷ [] = c.push_reserved.ensures.items ∙ ap (λ (xs : List Directive). xs ++ first ∷ []) c.reserve.ensures.items in
    let there = kept_there c.args.directives.now.items c.push_reserved.new.self.items c.len-place.result first c.index_mut.result.now place pushed c.index_mut.ensures.value in
    let keyword : keyword_of c.index_mut.result.now.order ≡ c.args.keyword = ap (λ (d : Directive). keyword_of d.order) there ∙ c.in_ok-order.ensures in
    let read = rw keyword at c.read_numbered.ensures in
    order_read (Unit {0}) c.read_numbered.result c.args.directives.now.items c.push_reserved.new.self.items c.args.number c.len-place.result first c.index_mut.result.now c.read_numbered.new.order _ read below place pushed refl c.index_mut.ensures.value
