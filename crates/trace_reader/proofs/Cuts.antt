-- Where a text is cut at the first byte that passes.
use Rattle.std.proofs.Common.{◌≡◌, ℕ, ◌+◌, ◌-◌, ◌<◌, ◌≤◌, List, [], ◌∷◌, length, get_or, take, drop, Some, None, Bool, true, false, refl, ◌∙◌, ap, sym, arith, cond}
use Rattle.std.specs.Prelude.{◌==◌, nat_lt, not, option_map, if◌then◌else◌}
use Rattle.std.specs.List.{slice_split, position, position_or_len}
use Rattle.std.proofs.lemmas.Bool.{false≢true}
use Rattle.std.proofs.lemmas.Bool.Decides.{nat_tests}
use Rattle.std.proofs.lemmas.List.{take_rest}
use Rattle.std.proofs.lemmas.List.Splits.{slice_split_first}
use Rattle.std.proofs.lemmas.List.Sums.{position_or_len_is}
use Rattle.bench_report.specs.declared.rows.Value.TheVariants as values
use Rattle.trace_reader.specs.Guess.{pair, value, value_at}
use Rattle.trace_reader.specs.Numbers.{number, rest}
use Rattle.trace_reader.proofs.Digits.{none}

split_none_case : (p : ℕ → Bool) (x : ℕ) (xs : List ℕ) (b : Bool) → p x ≡ b → (if b then false else none p xs) ≡ true → (none p xs ≡ true → slice_split p xs ≡ xs ∷ []) → slice_split p (x ∷ xs) ≡ (x ∷ xs) ∷ []
split_none_case p x xs true e h ih = absurd (false≢true h)
split_none_case p x xs false e h ih = rw (e, ih h) refl

split_none : (p : ℕ → Bool) (xs : List ℕ) → none p xs ≡ true → slice_split p xs ≡ xs ∷ []
split_none p [] h = refl
split_none p (x ∷ xs) h = split_none_case p x xs (p x) refl h (λ g. split_none p xs g)

all_pass_case : (p : ℕ → Bool) (x : ℕ) (xs : List ℕ) (b : Bool) → p x ≡ b → length (x ∷ xs) ≤ cond (not b) (1 + position_or_len p xs) 0 → (length xs ≤ position_or_len p xs → none p xs ≡ true) → (if b then false else none p xs) ≡ true
all_pass_case p x xs true e h ih = absurd (omega arith)
all_pass_case p x xs false e h ih = let less : length xs ≤ position_or_len p xs = omega arith in ih less

all_pass : (p : ℕ → Bool) (xs : List ℕ) → length xs ≤ position_or_len p xs → none p xs ≡ true
all_pass p [] h = refl
all_pass p (x ∷ xs) h = all_pass_case p x xs (p x) refl h (λ g. all_pass p xs g)

some_case : (m n k : ℕ) (b : Bool) → nat_lt m n ≡ b → cond b (Some m) None ≡ Some k → (m ≡ k) × (m < n)
some_case m n k b e h = grind (arith, nat_tests)

none_case : (m n : ℕ) (b : Bool) → nat_lt m n ≡ b → cond b (Some m) None ≡ None → n ≤ m
none_case m n b e h = grind (arith, nat_tests)

-- cut at the first that passes
pub cut_here : (p : ℕ → Bool) (text : List ℕ) (k : ℕ) → position p text ≡ Some k → slice_split p text ≡ take k text ∷ slice_split p (drop (k + 1) text)
cut_here p text k h =
    let place = some_case (position_or_len p text) (length text) k _ refl h in
    slice_split_first p text 0 place.1 ∙ ap (λ (n : ℕ). take n text ∷ slice_split p (drop (n + 1) text)) place.0

-- none passes
pub cut_nowhere : (p : ℕ → Bool) (text : List ℕ) → position p text ≡ None → slice_split p text ≡ text ∷ []
cut_nowhere p text h = split_none p text (all_pass p text (none_case (position_or_len p text) (length text) _ refl h))

-- the rest of a text from its first byte on that passes
pub rest_from : (p : ℕ → Bool) (text : List ℕ) (k : ℕ) → k ≡ position_or_len p text → take (length text - k) (drop k text) ≡ rest p text
rest_from p text k h = take_rest text k ∙ ap (λ (n : ℕ). drop n text) h

-- the first place that passes: one before which none does
pub passes_here : (p : ℕ → Bool) (text : List ℕ) (k : ℕ) → k < length text → ((i : ℕ) → i < k → p (get_or text i 0) ≡ false) → p (get_or text k 0) ≡ true → k ≡ position_or_len p text
passes_here p text k within before here = sym (position_or_len_is p text k 0 (omega arith) before (λ l. here))

pub passes_nowhere : (p : ℕ → Bool) (text : List ℕ) → ((i : ℕ) → i < length text → p (get_or text i 0) ≡ false) → length text ≡ position_or_len p text
passes_nowhere p text before = sym (position_or_len_is p text (length text) 0 (omega arith) before (λ l. absurd (omega arith)))

-- the same as the code takes slices
pub cut_slices : (p : ℕ → Bool) (text : List ℕ) (k : ℕ) → position p text ≡ Some k → slice_split p text ≡ take k text ∷ slice_split p (take (length text - (k + 1)) (drop (k + 1) text))
cut_slices p text k h = cut_here p text k h ∙ ap (λ (ts : List ℕ). take k text ∷ slice_split p ts) (sym (take_rest text (k + 1)))

pub pair_there : (word : List ℕ) (k : ℕ) → Some k ≡ position (λ b. b == 47) word → pair (take k word) (take (length word - (k + 1)) (drop (k + 1) word)) ≡ value word
pair_there word k h = ap (pair (take k word)) (take_rest word (k + 1)) ∙ ap (value_at word) h

pub one_there : (word : List ℕ) → None ≡ position (λ b. b == 47) word → option_map (λ n. values.One n) (number word) ≡ value word
one_there word h = ap (value_at word) h
