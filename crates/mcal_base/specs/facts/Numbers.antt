-- Numbers and their tests.
use Rattle.std.proofs.Common.{◌≡◌, ◌≢◌, ◌⊎◌, ℕ, suc, ◌<◌, ◌≤◌, ◌==◌, nat_lt, true, false, arith}
use Rattle.std.proofs.lemmas.Bool.Decides.{nat_tests}

pub eq_self : (n : ℕ) → n == n ≡ true
eq_self n = grind (arith, nat_tests)

pub eq_is : (m n : ℕ) → m == n ≡ true → m ≡ n
eq_is m n e = grind (arith, nat_tests)

pub eq_from : (m n : ℕ) → m ≡ n → m == n ≡ true
eq_from m n e = grind (arith, nat_tests)

pub eq_isnt : (m n : ℕ) → m == n ≡ false → m ≢ n
eq_isnt m n e = grind (arith, nat_tests)

pub eq_other : (m n : ℕ) → m ≢ n → m == n ≡ false
eq_other m n ne = grind (arith, nat_tests, ne)

pub eq_turned : (m n : ℕ) → m ≢ n → n == m ≡ false
eq_turned m n ne = grind (arith, nat_tests, ne)

pub same_or_other : (m n : ℕ) → (m ≡ n) ⊎ (m ≢ n)
same_or_other m n = grind arith

pub lt_from : (m n : ℕ) → m < n → nat_lt m n ≡ true
lt_from m n e = grind (arith, nat_tests)

pub lt_is : (m n : ℕ) → nat_lt m n ≡ true → m < n
lt_is m n e = grind (arith, nat_tests)

pub lt_since : (m n : ℕ) → n ≤ m → nat_lt m n ≡ false
lt_since m n e = grind (arith, nat_tests)

pub lt_isnt : (m n : ℕ) → nat_lt m n ≡ false → n ≤ m
lt_isnt m n e = grind (arith, nat_tests)

pub lt_itself : (n : ℕ) → nat_lt n n ≡ false
lt_itself n = grind (arith, nat_tests)

pub lt_next : (n : ℕ) → nat_lt n (suc n) ≡ true
lt_next n = grind (arith, nat_tests)

pub lt_zero : (n : ℕ) → nat_lt n 0 ≡ false
lt_zero n = grind (arith, nat_tests)

pub zero_from : (n : ℕ) → n ≡ 0 → n == 0 ≡ true
zero_from n e = grind (arith, nat_tests)

pub positive : (n : ℕ) → n == 0 ≡ false → 0 < n
positive n e = grind (arith, nat_tests)

pub isnt_zero : (n : ℕ) → 0 < n → n == 0 ≡ false
isnt_zero n e = grind (arith, nat_tests)

pub le_since : (m n : ℕ) → n ≡ m → m ≤ n
le_since m n e = omega (arith, e)
