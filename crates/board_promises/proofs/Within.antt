-- The bounds of all frames that a generated script begins come to no more than the most steps of a run.
use Rattle.std.proofs.Common.{◌≡◌, ℕ, zero, suc, ◌+◌, ◌-◌, ◌*◌, ◌%◌, ◌<◌, ◌≤◌, List, [], ◌∷◌, ◌++◌, refl, ap, ◌∙◌, arith, map}
use Rattle.std.specs.Prelude.{get_or, Some}
use Rattle.std.specs.List.{range_with_len}
use Rattle.std.proofs.lemmas.List.{map-append}
use Rattle.mcal_base.specs.declared.directive.Directive.{Directive}
use Rattle.mcal_base.specs.declared.directive.Order.{Order}
use Rattle.mcal_base.specs.declared.directive.Order.TheVariants.{Tick}
use Rattle.run_model.specs.Script.{beginnings_of}
use Rattle.script_runner.specs.Standing.{bounds_of}
use Rattle.mcal_system.specs.Runs.{bound_of}
use Rattle.mcal_system.specs.Setting.{system_setting, call_of}
use Rattle.bench_generator.specs.Board.{board}
use Rattle.bench_generator.specs.Generated.{value_of, repeated, order_of, directive_of, generated}
use Rattle.bench_generator.proofs.Eights.{eight_after}

-- ---- sums

-- the most steps of the frames that an order begins
bound_at : Order → ℕ
bound_at order = bounds_of (system_setting board) (beginnings_of call_of (Some order))

bound-append : (xs ys : List Directive) → bound_of board (xs ++ ys) ≡ bound_of board xs + bound_of board ys
bound-append [] ys = omega arith
bound-append (x ∷ xs) ys = let more = bound-append xs ys in omega (arith, more)

range-append : (a m n : ℕ) → range_with_len a (m + n) ≡ range_with_len a m ++ range_with_len (a + m) n
range-append a zero n =
    let none : zero + n ≡ n = omega arith in
    let here : a ≡ a + zero = omega arith in
    ap (λ (k : ℕ). range_with_len a k) none ∙ ap (λ (b : ℕ). range_with_len b n) here
range-append a (suc m) n =
    let one : suc m + n ≡ suc (m + n) = omega arith in
    let next : a + 1 + m ≡ a + suc m = omega arith in
    ap (λ (k : ℕ). range_with_len a k) one ∙ ap (λ (xs : List ℕ). a ∷ xs) (range-append (a + 1) m n) ∙ ap (λ (b : ℕ). range_with_len a (suc m) ++ range_with_len b n) next

-- so many directives from a number on
from_number : (seed number count : ℕ) → List Directive
from_number seed number count = map (directive_of seed) (range_with_len number count)

more : (seed a m n : ℕ) → bound_of board (from_number seed a (m + n)) ≡ bound_of board (from_number seed a m) + bound_of board (from_number seed (a + m) n)
unfolding from_number
more seed a m n =
    ap (λ (xs : List ℕ). bound_of board (map (directive_of seed) xs)) (range-append a m n)
    ∙ ap (λ (ds : List Directive). bound_of board ds) (map-append (directive_of seed) (range_with_len a m) (range_with_len (a + m) n))
    ∙ bound-append (map (directive_of seed) (range_with_len a m)) (map (directive_of seed) (range_with_len (a + m) n))

-- ---- the eight at the start

at_start : (seed : ℕ) → bound_of board (from_number seed 1 8) ≡ 528
unfolding from_number board system_setting call_of
at_start seed = refl

-- ---- a round of eight

-- the order at a place of a round
placed : (seed k j number : ℕ) → number ≡ 9 + 8 * k + j → j < 8 → order_of seed number ≡ get_or (repeated (value_of seed) ((seed + number) % 4096)) j (Tick 1)
placed seed k j number is few =
    let place : (number - 1) % 8 ≡ j = omega (arith, is, few) in
    ap (λ (os : List Order). get_or os ((number - 1) % 8) (Tick 1)) (eight_after seed number (omega (arith, is)))
    ∙ ap (λ (i : ℕ). get_or (repeated (value_of seed) ((seed + number) % 4096)) i (Tick 1)) place

-- the bounds of the orders of a round
weight : (value analog j : ℕ) → ℕ
weight value analog j = bound_at (get_or (repeated value analog) j (Tick 1))

weights : (v0 v1 v2 v3 v4 v5 v6 v7 value : ℕ) → weight value v0 0 + (weight value v1 1 + (weight value v2 2 + (weight value v3 3 + (weight value v4 4 + (weight value v5 5 + (weight value v6 6 + (weight value v7 7 + 0))))))) ≡ 384
unfolding weight bound_at board system_setting call_of
weights v0 v1 v2 v3 v4 v5 v6 v7 value = refl

weighed : (seed k j number : ℕ) → number ≡ 9 + 8 * k + j → j < 8 → bound_at (order_of seed number) ≡ weight (value_of seed) ((seed + number) % 4096) j
unfolding weight
weighed seed k j number is few = ap (λ (o : Order). bound_at o) (placed seed k j number is few)

round : (seed k a : ℕ) → a ≡ 9 + 8 * k → bound_of board (from_number seed a 8) ≡ 384
unfolding from_number bound_at
round seed k a is =
    let x = (seed + a) % 4096 in
    let w0 = weighed seed k 0 a (omega (arith, is)) (omega arith) in
    let w1 = weighed seed k 1 (a + 1) (omega (arith, is)) (omega arith) in
    let w2 = weighed seed k 2 (a + 1 + 1) (omega (arith, is)) (omega arith) in
    let w3 = weighed seed k 3 (a + 1 + 1 + 1) (omega (arith, is)) (omega arith) in
    let w4 = weighed seed k 4 (a + 1 + 1 + 1 + 1) (omega (arith, is)) (omega arith) in
    let w5 = weighed seed k 5 (a + 1 + 1 + 1 + 1 + 1) (omega (arith, is)) (omega arith) in
    let w6 = weighed seed k 6 (a + 1 + 1 + 1 + 1 + 1 + 1) (omega (arith, is)) (omega arith) in
    let w7 = weighed seed k 7 (a + 1 + 1 + 1 + 1 + 1 + 1 + 1) (omega (arith, is)) (omega arith) in
    let all = weights ((seed + a) % 4096) ((seed + (a + 1)) % 4096) ((seed + (a + 1 + 1)) % 4096) ((seed + (a + 1 + 1 + 1)) % 4096) ((seed + (a + 1 + 1 + 1 + 1)) % 4096) ((seed + (a + 1 + 1 + 1 + 1 + 1)) % 4096) ((seed + (a + 1 + 1 + 1 + 1 + 1 + 1)) % 4096) ((seed + (a + 1 + 1 + 1 + 1 + 1 + 1 + 1)) % 4096) (value_of seed) in
    omega (arith, w0, w1, w2, w3, w4, w5, w6, w7, all)

rounds : (seed k n : ℕ) → bound_of board (from_number seed (9 + 8 * k) (8 * n)) ≡ 384 * n
unfolding from_number
rounds seed k zero = refl
rounds seed k (suc n) =
    let one : 8 * suc n ≡ 8 + 8 * n = omega arith in
    let next : 9 + 8 * k + 8 ≡ 9 + 8 * (k + 1) = omega arith in
    let parts : bound_of board (from_number seed (9 + 8 * k) (8 * suc n)) ≡ bound_of board (from_number seed (9 + 8 * k) 8) + bound_of board (from_number seed (9 + 8 * k + 8) (8 * n)) =
    ap (λ (m : ℕ). bound_of board (from_number seed (9 + 8 * k) m)) one ∙ more seed (9 + 8 * k) 8 (8 * n) in
    let here = round seed k (9 + 8 * k) (omega arith) in
    let later : bound_of board (from_number seed (9 + 8 * k + 8) (8 * n)) ≡ 384 * n = ap (λ (a : ℕ). bound_of board (from_number seed a (8 * n))) next ∙ rounds seed (k + 1) n in
    omega (arith, parts, here, later)

-- ---- the whole script

whole : (seed : ℕ) → bound_of board (from_number seed 1 (8 + 8 * 2499)) ≡ 960144
whole seed =
    let parts = more seed 1 8 (8 * 2499) in
    let start = at_start seed in
    let later = rounds seed 0 2499 in
    omega (arith, parts, start, later)

pub generated_within : (seed count : ℕ) → count ≤ 20000 → bound_of board (generated seed count) ≤ 1000000
unfolding from_number generated
generated_within seed count few =
    let parts = more seed 1 count (20000 - count) in
    let end : count + (20000 - count) ≡ 20000 = omega (arith, few) in
    let all : bound_of board (from_number seed 1 (count + (20000 - count))) ≡ 960144 = ap (λ (n : ℕ). bound_of board (from_number seed 1 n)) end ∙ whole seed in
    omega (arith, parts, all)
