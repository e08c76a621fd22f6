-- What the words of a command line are of, and what numbers stand in them.
use Rattle.std.proofs.Common.{◌≡◌, ℕ, ◌≤◌, Bool, true, false, List, [], ◌∷◌, Option, Some, None, refl, arith, length, map}
use Rattle.std.specs.Prelude.{◌&&◌, bytes_eq, codes, if◌then◌else◌, option_map}
use Rattle.std.specs.Str.Parse.{digits_value}
use Rattle.std.proofs.lemmas.Bool.Decides.{nat_tests}
use Rattle.bench_top.specs.Words.{form_of, is_between, is_decimal, generated_of, number_between}
use Rattle.bench_top.specs.declared.words.Form.TheVariants.{File, Gen, Audit}
use Rattle.bench_top.specs.declared.words.Printing.TheVariants.{Plain, Traced, Tail}
use Rattle.bench_top.specs.declared.words.Task.TheVariants.{Check, Run}

-- four words and more are of no form
pub many_words : {A : Type 0} (f : A → List ℕ) (words : List A) → 4 ≤ length words → None ≡ form_of (map f words)
many_words f [] h = absurd (omega (arith, h))
many_words f (a ∷ []) h = absurd (omega (arith, h))
many_words f (a ∷ b ∷ []) h = absurd (omega (arith, h))
many_words f (a ∷ b ∷ c ∷ []) h = absurd (omega (arith, h))
many_words f (a ∷ b ∷ c ∷ d ∷ words) h = refl

-- a number lies where it may
within_by : (least most n k : ℕ) (decimal inside : Bool) → is_between least most k ≡ inside → (if decimal && inside then Some k else None) ≡ Some n → n ≤ most
within_by least most n k true true e h = let same : k ≡ n = cc in let le : k ≤ most = grind (arith, nat_tests, e) in omega (arith, same, le)
within_by least most n k true false e h = cc
within_by least most n k false inside e h = cc

within : (least most : ℕ) (word : List ℕ) (n : ℕ) → number_between least most word ≡ Some n → n ≤ most
within least most word n h = within_by least most n (digits_value 10 word) (is_decimal word) (is_between least most (digits_value 10 word)) refl h

generated_by : (a b : Option ℕ) (seed count : ℕ) → generated_of a b ≡ Some (Gen seed count) → b ≡ Some count
generated_by (Some x) (Some y) seed count h = let same : Gen x y ≡ Gen seed count = cc in let e : y ≡ count = cc in rw e refl
generated_by (Some x) None seed count h = cc
generated_by None b seed count h = cc

-- only three words ask for a generated bench
one_not : (check run audit : Bool) (seed count : ℕ) → (if check then Some (File Check) else if run then Some (File (Run Plain)) else if audit then Some Audit else None) ≡ Some (Gen seed count) → ⊥
one_not true run audit seed count h = cc
one_not false true audit seed count h = cc
one_not false false true seed count h = cc
one_not false false false seed count h = cc

two_not : (run trace : Bool) (seed count : ℕ) → (if run then (if trace then Some (File (Run Traced)) else None) else None) ≡ Some (Gen seed count) → ⊥
two_not true true seed count h = cc
two_not true false seed count h = cc
two_not false trace seed count h = cc

tail_not : (lines : Option ℕ) (seed count : ℕ) → option_map (λ n. File (Run (Tail n))) lines ≡ Some (Gen seed count) → ⊥
tail_not (Some n) seed count h = cc
tail_not None seed count h = cc

three_by : (run tail gen : Bool) (lines a b : Option ℕ) (seed count : ℕ) →
    (if run then (if tail then option_map (λ n. File (Run (Tail n))) lines else None) else if gen then generated_of a b else None) ≡ Some (Gen seed count) → b ≡ Some count
three_by true true gen lines a b seed count h = absurd (tail_not lines seed count h)
three_by true false gen lines a b seed count h = cc
three_by false tail true lines a b seed count h = generated_by a b seed count h
three_by false tail false lines a b seed count h = cc

-- it has so many directives at most
pub generated_within : (words : List (List ℕ)) (seed count : ℕ) → form_of words ≡ Some (Gen seed count) → count ≤ 20000
generated_within [] seed count h = cc
generated_within (word ∷ []) seed count h = absurd (one_not (bytes_eq word (codes "check")) (bytes_eq word (codes "run")) (bytes_eq word (codes "audit")) seed count h)
generated_within (word ∷ option ∷ []) seed count h = absurd (two_not (bytes_eq word (codes "run")) (bytes_eq option (codes "--trace")) seed count h)
generated_within (word ∷ first ∷ second ∷ []) seed count h =
    within 8 20000 second count
    (three_by (bytes_eq word (codes "run")) (bytes_eq first (codes "--tail")) (bytes_eq word (codes "gen")) (number_between 1 10000 second) (number_between 0 4294967295 first) (number_between 8 20000 second) seed count h)
generated_within (a ∷ b ∷ c ∷ d ∷ words) seed count h = cc
