-- What a word may spell: only what passes a test that the word passes.
use Rattle.std.proofs.Common.{◌≡◌, ℕ, List, [], ◌∷◌, Option, Some, Bool, true, false, refl, ap, cond}
use Rattle.std.specs.Prelude.{bytes_eq}
use Rattle.std.specs.List.{filter}
use Rattle.std.proofs.lemmas.Slice.Eq.{bytes_eq-Decides}
use Rattle.bench_script.specs.Words.{named}

-- words that one test tells apart are unequal
unlike_if : (p : List ℕ → Bool) (xs ys : List ℕ) (b : Bool) → bytes_eq xs ys ≡ b → p ys ≡ true → p xs ≡ false → bytes_eq xs ys ≡ false
unlike_if p xs ys true e t f = let same : p xs ≡ p ys = ap p ((bytes_eq-Decides xs ys).0 e) in cc
unlike_if p xs ys false e t f = e

-- so what fails a test that a word passes need not be looked at
alike_more : {T : Type 0} (spelling : T → List ℕ) (p : List ℕ → Bool) (x : T) (xs : List T) (word : List ℕ) (b : Bool) → p word ≡ true → p (spelling x) ≡ b → named spelling xs word ≡ named spelling (filter (λ y. p (spelling y)) xs) word → named spelling (x ∷ xs) word ≡ named spelling (filter (λ y. p (spelling y)) (x ∷ xs)) word
alike_more spelling p x xs word true t e ih = rw e (ap (λ (o : Option _). cond (bytes_eq (spelling x) word) (Some x) o) ih)
alike_more spelling p x xs word false t e ih = let no = unlike_if p (spelling x) word _ refl t e in rw (e, no) ih

pub alike : {T : Type 0} (spelling : T → List ℕ) (p : List ℕ → Bool) (xs : List T) (word : List ℕ) → p word ≡ true → named spelling xs word ≡ named spelling (filter (λ y. p (spelling y)) xs) word
alike spelling p [] word t = refl
alike spelling p (x ∷ xs) word t = alike_more spelling p x xs word (p (spelling x)) t refl (alike spelling p xs word t)
