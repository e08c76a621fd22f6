-- Generated scripts may be run.
use Rattle.std.proofs.Common.{◌≡◌, ℕ, zero, suc, ◌+◌, ◌-◌, ◌%◌, ◌<◌, ◌≤◌, Bool, true, false, List, [], ◌∷◌, refl, cond, arith, map, length}
use Rattle.std.specs.Prelude.{◌&&◌, nat_lt, nat_le, get_or}
use Rattle.std.specs.List.{range_with_len, list_all}
use Rattle.std.proofs.lemmas.Bool.Decides.{nat_tests}
use Rattle.std.proofs.lemmas.List.FromFn.{length-map-range_with_len}
use Rattle.mcal_base.specs.declared.directive.Order.{Order}
use Rattle.mcal_base.specs.declared.directive.Order.TheVariants.{Tick}
use Rattle.script_runner.specs.Scripts.{LinesRise, AllBuilt, IsScript, is_offered, AllOffered}
use Rattle.script_runner.specs.Standing.{is_built}
use Rattle.mcal_system.specs.Setting.{has_service}
use Rattle.bench_generator.specs.Generated.{value_of, opening, repeated, eight_of, order_of, directive_of, generated}

-- ---- each order is one of the eight, or a tick

one_of : (p : Order → Bool) (os : List Order) (d : Order) (i : ℕ) → list_all p os ≡ true → p d ≡ true → p (get_or os i d) ≡ true
one_of p [] d i all h = h
one_of p (o ∷ os) d zero all h = first (p o) (list_all p os) all
  where
    first : (a b : Bool) → (a && b) ≡ true → a ≡ true
    first true b e = refl
    first false b e = absurd cc
one_of p (o ∷ os) d (suc i) all h = one_of p os d i (rest (p o) (list_all p os) all) h
  where
    rest : (a b : Bool) → (a && b) ≡ true → b ≡ true
    rest true b e = e
    rest false b e = absurd cc

eight_all : (p : Order → Bool) (b : Bool) (xs ys : List Order) → list_all p xs ≡ true → list_all p ys ≡ true → list_all p (cond b xs ys) ≡ true
eight_all p true xs ys hx hy = hx
eight_all p false xs ys hx hy = hy

-- ---- what is built and offered

value_few : (seed : ℕ) → nat_le (value_of seed) 1000000 ≡ true
value_few seed = let few : value_of seed ≤ 1000000 = omega arith in grind (arith, nat_tests)

built_after : (b : Bool) (value analog : ℕ) → nat_le value 1000000 ≡ b → b ≡ true → list_all is_built (repeated value analog) ≡ true
built_after true value analog h e = rw h refl
built_after false value analog h e = absurd cc

order_built : (seed number : ℕ) → is_built (order_of seed number) ≡ true
order_built seed number = one_of is_built (eight_of seed number) (Tick 1) ((number - 1) % 8)
    (eight_all is_built (nat_lt 8 number) (repeated (value_of seed) ((seed + number) % 4096)) (opening (value_of seed)) (built_after true (value_of seed) ((seed + number) % 4096) (value_few seed) refl) refl) refl

order_offered : (seed number : ℕ) → is_offered has_service (order_of seed number) ≡ true
unfolding has_service
order_offered seed number = one_of (is_offered has_service) (eight_of seed number) (Tick 1) ((number - 1) % 8)
    (eight_all (is_offered has_service) (nat_lt 8 number) (repeated (value_of seed) ((seed + number) % 4096)) (opening (value_of seed)) refl refl) refl

-- ---- a script

lines_rise : (seed low number count : ℕ) → low < number → LinesRise low (map (directive_of seed) (range_with_len number count))
lines_rise seed low number zero h = tt
lines_rise seed low number (suc count) h = (h, lines_rise seed number (number + 1) count (omega arith))

all_built : (seed number count : ℕ) → AllBuilt (map (directive_of seed) (range_with_len number count))
all_built seed number zero = tt
all_built seed number (suc count) = (order_built seed number, all_built seed (number + 1) count)

all_offered : (seed number count : ℕ) → AllOffered has_service (map (directive_of seed) (range_with_len number count))
all_offered seed number zero = tt
all_offered seed number (suc count) = (order_offered seed number, all_offered seed (number + 1) count)

-- ---- the laws

pub generated_length : (seed count : ℕ) → length (generated seed count) ≡ count
unfolding generated
generated_length seed count = length-map-range_with_len (directive_of seed) 1 count

pub generated_is_script : (seed count : ℕ) → count ≤ 20000 → IsScript (generated seed count)
unfolding generated
generated_is_script seed count few = record {
  lines = lines_rise seed 0 1 count (omega arith);
  built = all_built seed 1 count;
  few = let is = length-map-range_with_len (directive_of seed) 1 count in omega (arith, few, is);
}

pub generated_offered : (seed count : ℕ) → AllOffered has_service (generated seed count)
unfolding generated
generated_offered seed count = all_offered seed 1 count
