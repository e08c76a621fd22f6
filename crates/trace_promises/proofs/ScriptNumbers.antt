-- A script that was read has numbers of 32 bits.
use Rattle.std.proofs.Common.{◌≡◌, ℕ, ◌+◌, ◌==◌, ◌≤◌, List, [], ◌∷◌, length, inl, inr, sym, subst, arith}
use Rattle.std.specs.Prelude.{Ok}
use Rattle.std.specs.List.{slice_split}
use Rattle.std.specs.Str.Lines.{lines}
use Rattle.std.proofs.lemmas.List.Splits.{length-slice_split}
use Rattle.std.proofs.lemmas.List.Sums.{count_by-le-length}
use Rattle.mcal_base.specs.declared.directive.Directive.{Directive}
use Rattle.mcal_base.specs.declared.directive.Order.{Order}
use Rattle.mcal_base.specs.declared.directive.Order.TheVariants.{Enter, Serve}
use Rattle.bench_script.proofs.Whole.{script_is}
use Rattle.bench_script.specs.Productions.{HoldsOrder, HoldDirectives}
use Rattle.bench_script.specs.Script.{script}
use Rattle.bench_top.proofs.Scripts.{lines_few}
use Rattle.trace_promises.specs.traces.Numbers.{OrderFits, DirectiveFits}
use Rattle.bench_report.specs.Numbers.{Each}

order_fits : (line : List ℕ) (order : Order) → HoldsOrder line order → OrderFits order
order_fits line (Enter n) h = let most = h.is.given.number.below in omega (arith, most)
order_fits line (Serve n) h = let most = h.is.given.number.below in omega (arith, most)
order_fits line _ h = tt

directives_fit : (n : ℕ) (ls : List (List ℕ)) (ds : List Directive) → n + length ls ≤ 4294967296 → HoldDirectives n ls ds → Each DirectiveFits ds
directives_fit n [] [] le h = tt
directives_fit n [] (d ∷ ds) le h = absurd h
directives_fit n (line ∷ ls) ds le (inl h) = directives_fit (n + 1) ls ds (omega (arith, le)) h.1
directives_fit n (line ∷ ls) ds le (inr h) =
    subst (λ (xs : List Directive). Each DirectiveFits xs) (sym h.2) ((omega (arith, le), order_fits line h.0 h.3), directives_fit (n + 1) ls h.1 (omega (arith, le)) h.4)

pub script_fits : (text : List ℕ) (ds : List Directive) → length text ≤ 1048576 → script text ≡ Ok ds → Each DirectiveFits ds
script_fits text ds few h =
    let all = lines_few (slice_split (λ b. b == 10) text) in
    let parts = length-slice_split (λ b. b == 10) text in
    let feeds = count_by-le-length (λ b. b == 10) text in
    directives_fit 1 (lines text) ds (omega (arith, all, parts, feeds, few)) (script_is text ds h).hold
