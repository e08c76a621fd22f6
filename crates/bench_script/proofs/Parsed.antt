-- What is read is in the grammar, and what is in the grammar is read.
use Rattle.std.proofs.Common.{◌≡◌, ℕ, ◌≤◌, List, [], ◌∷◌, length, Option, Some, None, Bool, true, false, refl, ◌∙◌, ap, subst, arith, le-leb, cond}
use Rattle.std.specs.Prelude.{Result, Ok, Err, bytes_eq, nat_le, ◌&&◌}
use Rattle.std.proofs.lemmas.Bool.{and_parts, leb-true}
use Rattle.std.proofs.lemmas.Bool.Decides.{nat_tests}
use Rattle.std.proofs.lemmas.Slice.Eq.{bytes_eq-Decides}
use Rattle.bench_script.specs.Numbers.{numeral, up_to, number_up_to}
use Rattle.bench_script.specs.Orders.{known, choice, one, pair, two, numbers, row, several}
use Rattle.bench_script.specs.Productions.{IsNumber, AreNumbers, IsOne, IsTwo, IsRow}
use Rattle.bench_script.specs.Steps.{◌>>=◌}
use Rattle.bench_script.specs.Words.{named}
use Rattle.bench_script.specs.declared.fault.LineFault.TheVariants as faults

-- a step that is followed by another
pub bind_ok : {A B E : Type 0} (r : Result A E) (f : A → Result B E) (y : B) → (r >>= f) ≡ Ok y → (x : A) × (r ≡ Ok x) × (f x ≡ Ok y)
bind_ok (Ok x) f y h = (x, refl, h)
bind_ok (Err e) f y h = cc

-- numbers
ranged : (m most n : ℕ) → cond (nat_le m most) (Ok m) (Err faults.Number) ≡ Ok n → (m ≡ n) × (n ≤ most)
ranged m most n h = grind (arith, nat_tests)

up_to_is : (most n : ℕ) (word : List ℕ) (o : Option ℕ) → numeral word ≡ o → up_to most o ≡ Ok n → IsNumber most n word
up_to_is most n word None e h = cc
up_to_is most n word (Some m) e h = let r = ranged m most n h in record { spelled = e ∙ ap (λ (k : ℕ). Some k) r.0; below = r.1 }

pub number_is : (most n : ℕ) (word : List ℕ) → number_up_to most word ≡ Ok n → IsNumber most n word
number_is most n word h = up_to_is most n word (numeral word) refl h

pub number_again : (most n : ℕ) (word : List ℕ) → IsNumber most n word → number_up_to most word ≡ Ok n
number_again most n word h = rw h.spelled (rw (le-leb n most h.below) refl)

pub one_is : (most n : ℕ) (words : List (List ℕ)) → one most words ≡ Ok n → IsOne most n words
one_is most n [] h = cc
one_is most n (word ∷ []) h = record { word = word; spelled = refl; number = number_is most n word h }
one_is most n (word ∷ next ∷ words) h = cc

pub one_again : (most n : ℕ) (words : List (List ℕ)) → IsOne most n words → one most words ≡ Ok n
one_again most n words h = ap (one most) h.spelled ∙ number_again most n h.word h.number

pair_is : (most most_next : ℕ) (p : ℕ × ℕ) (word next : List ℕ) → pair most most_next word next ≡ Ok p → IsTwo most most_next p.0 p.1 (word ∷ next ∷ [])
pair_is most most_next p word next h =
    let a = bind_ok (number_up_to most word) (λ (m : ℕ). number_up_to most_next next >>= (λ (n : ℕ). Ok (m, n))) p h in
    let b = bind_ok (number_up_to most_next next) (λ (n : ℕ). Ok (a.0, n)) p a.2 in
    let e : (a.0, b.0) ≡ p = cc in
    subst (λ (q : ℕ × ℕ). IsTwo most most_next q.0 q.1 (word ∷ next ∷ [])) e (record { word = word; next = next; spelled = refl; number = number_is most a.0 word a.1; number_next = number_is most_next b.0 next b.1 })

pub two_is : (most most_next : ℕ) (p : ℕ × ℕ) (words : List (List ℕ)) → two most most_next words ≡ Ok p → IsTwo most most_next p.0 p.1 words
two_is most most_next p [] h = cc
two_is most most_next p (word ∷ []) h = cc
two_is most most_next p (word ∷ next ∷ []) h = pair_is most most_next p word next h
two_is most most_next p (word ∷ next ∷ third ∷ words) h = cc

pub two_again : (most most_next m n : ℕ) (words : List (List ℕ)) → IsTwo most most_next m n words → two most most_next words ≡ Ok (m, n)
two_again most most_next m n words h = ap (two most most_next) h.spelled ∙ rw (number_again most m h.word h.number, number_again most_next n h.next h.number_next)

pub numbers_is : (most : ℕ) (ns : List ℕ) (words : List (List ℕ)) → numbers most words ≡ Ok ns → AreNumbers most ns words
numbers_is most ns [] h = let e : [] ≡ ns = cc in subst (λ (xs : List ℕ). AreNumbers most xs []) e tt
numbers_is most ns (word ∷ words) h =
    let a = bind_ok (number_up_to most word) (λ (n : ℕ). numbers most words >>= (λ (others : List ℕ). Ok (n ∷ others))) ns h in
    let b = bind_ok (numbers most words) (λ (others : List ℕ). Ok (a.0 ∷ others)) ns a.2 in
    let e : a.0 ∷ b.0 ≡ ns = cc in
    subst (λ (xs : List ℕ). AreNumbers most xs (word ∷ words)) e (number_is most a.0 word a.1, numbers_is most b.0 words b.1)

pub numbers_again : (most : ℕ) (ns : List ℕ) (words : List (List ℕ)) → AreNumbers most ns words → numbers most words ≡ Ok ns
numbers_again most [] [] h = refl
numbers_again most [] (word ∷ words) h = absurd h
numbers_again most (n ∷ ns) [] h = absurd h
numbers_again most (n ∷ ns) (word ∷ words) h = rw (number_again most n word h.0, numbers_again most ns words h.1)

row_is : (most most_next : ℕ) (p : ℕ × List ℕ) (word : List ℕ) (words : List (List ℕ)) (b : Bool) → (nat_le 1 (length words) && nat_le (length words) 64) ≡ b → cond b (row most most_next word words) (Err faults.Count) ≡ Ok p → IsRow most most_next p.0 p.1 (word ∷ words)
row_is most most_next p word words false e h = cc
row_is most most_next p word words true e h =
    let counts : (nat_le 1 (length words) ≡ true) × (nat_le (length words) 64 ≡ true) = and_parts _ _ e in
    let a = bind_ok (number_up_to most word) (λ (m : ℕ). numbers most_next words >>= (λ (others : List ℕ). Ok (m, others))) p h in
    let b = bind_ok (numbers most_next words) (λ (others : List ℕ). Ok (a.0, others)) p a.2 in
    let e : (a.0, b.0) ≡ p = cc in
    subst (λ (q : ℕ × List ℕ). IsRow most most_next q.0 q.1 (word ∷ words)) e (record { word = word; others = words; spelled = refl; number = number_is most a.0 word a.1; numbers = numbers_is most_next b.0 words b.1; some = leb-true _ _ counts.0; few = leb-true _ _ counts.1 })

pub several_is : (most most_next : ℕ) (p : ℕ × List ℕ) (words : List (List ℕ)) → several most most_next words ≡ Ok p → IsRow most most_next p.0 p.1 words
several_is most most_next p [] h = cc
several_is most most_next p (word ∷ words) h = row_is most most_next p word words _ refl h

pub several_again : (most most_next n : ℕ) (ns : List ℕ) (words : List (List ℕ)) → IsRow most most_next n ns words → several most most_next words ≡ Ok (n, ns)
several_again most most_next n ns words h = ap (several most most_next) h.spelled ∙ rw (le-leb 1 (length h.others) h.some, le-leb (length h.others) 64 h.few, number_again most n h.word h.number, numbers_again most_next ns h.others h.numbers)

-- words out of some choices
found_more : {T : Type 0} (spelling : T → List ℕ) (word : List ℕ) (y : T) (ys : List T) (x : T) (b : Bool) → bytes_eq (spelling y) word ≡ b → cond b (Some y) (named spelling ys word) ≡ Some x → (named spelling ys word ≡ Some x → spelling x ≡ word) → spelling x ≡ word
found_more spelling word y ys x true e h ih = let s : y ≡ x = cc in let spelled : spelling y ≡ word = (bytes_eq-Decides (spelling y) word).0 e in subst (λ z. spelling z ≡ word) s spelled
found_more spelling word y ys x false e h ih = ih h

found_is : {T : Type 0} (spelling : T → List ℕ) (xs : List T) (word : List ℕ) (x : T) → named spelling xs word ≡ Some x → spelling x ≡ word
found_is spelling [] word x h = cc
found_is spelling (y ∷ ys) word x h = found_more spelling word y ys x _ refl h (found_is spelling ys word x)

known_is : {T : Type 0} (o : Option T) (x : T) → known o ≡ Ok x → o ≡ Some x
known_is None x h = cc
known_is (Some y) x h = cc

pub choice_is : {T : Type 0} (spelling : T → List ℕ) (xs : List T) (word : List ℕ) (x : T) → choice spelling xs word ≡ Ok x → spelling x ≡ word
choice_is spelling xs word x h = found_is spelling xs word x (known_is _ x h)
