-- The eight among which a directive stands.
use Rattle.std.proofs.Common.{◌≡◌, ◌+◌, ◌%◌, ◌<◌, ◌≤◌, ℕ, Bool, true, false, cond, ap, arith}
use Rattle.std.specs.Prelude.{nat_lt}
use Rattle.std.proofs.lemmas.Bool.Decides.{nat_tests}
use Rattle.bench_generator.specs.Generated.{value_of, opening, repeated, eight_of}

pub eight_after : (seed number : ℕ) → 8 < number → eight_of seed number ≡ repeated (value_of seed) ((seed + number) % 4096)
eight_after seed number h =
    let e : nat_lt 8 number ≡ true = grind (arith, nat_tests) in
    ap (λ (b : Bool). cond b (repeated (value_of seed) ((seed + number) % 4096)) (opening (value_of seed))) e

pub eight_at_start : (seed number : ℕ) → number ≤ 8 → eight_of seed number ≡ opening (value_of seed)
eight_at_start seed number h =
    let e : nat_lt 8 number ≡ false = grind (arith, nat_tests) in
    ap (λ (b : Bool). cond b (repeated (value_of seed) ((seed + number) % 4096)) (opening (value_of seed))) e
