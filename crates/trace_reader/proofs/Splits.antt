-- Where a text is cut at its spaces, and a word between letters and digits.
use Rattle.std.proofs.Common.{◌≡◌, ℕ, List, [], ◌∷◌, ◌++◌, length, Bool, true, false, refl, ◌∙◌, ap, append_assoc, sym, arith}
use Rattle.std.specs.Prelude.{◌==◌, ◌||◌, codes, if◌then◌else◌}
use Rattle.std.specs.List.{position_or_len}
use Rattle.std.proofs.lemmas.Bool.{false≢true}
use Rattle.std.proofs.lemmas.List.{take_at, drop_at, append-nil}
use Rattle.trace_reader.specs.Numbers.{front, rest}
use Rattle.trace_reader.specs.Guess.{words_of}
use Rattle.trace_reader.proofs.Digits.{none, starts}

-- a space
abbrev pub sp : ℕ → Bool
sp b = b == 32

-- a space or a line feed
abbrev pub blank : ℕ → Bool
blank b = (b == 32) || (b == 10)

less_case : (p : ℕ → Bool) (x : ℕ) (xs : List ℕ) (others a b : Bool) → p x ≡ a → (a ≡ true → b ≡ true) → (if b then false else others) ≡ true → (others ≡ true → none p xs ≡ true) → none p (x ∷ xs) ≡ true
less_case p x xs others true true e f h ih = absurd (false≢true h)
less_case p x xs others true false e f h ih = absurd (false≢true (f refl))
less_case p x xs others false true e f h ih = absurd (false≢true h)
less_case p x xs others false false e f h ih = rw e (ih h)

-- where none passes a test, none passes a narrower one
none_less : (p q : ℕ → Bool) → ((b : ℕ) → p b ≡ true → q b ≡ true) → (xs : List ℕ) → none q xs ≡ true → none p xs ≡ true
none_less p q all [] h = refl
none_less p q all (x ∷ xs) h = less_case p x xs (none q xs) (p x) (q x) refl (all x) h (λ g. none_less p q all xs g)

or_true : (b : Bool) → (b || true) ≡ true
or_true true = refl
or_true false = refl

space_blank : (b : ℕ) → (b == 32) ≡ true → ((b == 32) || (b == 10)) ≡ true
space_blank b h = rw h refl

feed_blank : (b : ℕ) → (b == 10) ≡ true → ((b == 32) || (b == 10)) ≡ true
feed_blank b h = rw h (or_true (b == 32))

-- a text without both is one without each
pub spaceless : (xs : List ℕ) → none blank xs ≡ true → none sp xs ≡ true
spaceless xs h = none_less sp blank space_blank xs h

pub feedless : (xs : List ℕ) → none blank xs ≡ true → none (λ b. b == 10) xs ≡ true
feedless xs h = none_less (λ b. b == 10) blank feed_blank xs h

-- empty, or begins with a space
abbrev pub spaced : List ℕ → Bool
spaced [] = true
spaced (b ∷ bs) = b == 32

-- the words behind a word, in what begins with the space behind it
abbrev pub tail_words : List ℕ → List (List ℕ)
tail_words [] = []
tail_words (b ∷ bs) = words_of bs

front_case : (x : ℕ) (xs s : List ℕ) (b : Bool) → (x == 32) ≡ b → (if b then false else none sp xs) ≡ true → (none sp xs ≡ true → words_of (xs ++ s) ≡ xs ∷ tail_words s) → words_of (x ∷ (xs ++ s)) ≡ (x ∷ xs) ∷ tail_words s
front_case x xs s true e h ih = absurd (false≢true h)
front_case x xs s false e h ih = rw (e, ih h) refl

-- the first word
pub front_word : (xs s : List ℕ) → none sp xs ≡ true → spaced s ≡ true → words_of (xs ++ s) ≡ xs ∷ tail_words s
front_word [] [] h k = refl
front_word [] (b ∷ bs) h k = rw k refl
front_word (x ∷ xs) s h k = front_case x xs s (x == 32) refl h (λ g. front_word xs s g k)

-- the only word
pub one_word : (xs : List ℕ) → none sp xs ≡ true → words_of xs ≡ xs ∷ []
one_word xs h = ap words_of (sym (append-nil xs)) ∙ front_word xs [] h refl

-- two words
pub two_words : (a b s : List ℕ) → none sp a ≡ true → none sp b ≡ true → spaced s ≡ true → words_of ((a ++ (codes " " ++ b)) ++ s) ≡ a ∷ b ∷ tail_words s
two_words a b s ha hb k = ap words_of (append_assoc a (codes " " ++ b) s) ∙ (front_word a (codes " " ++ (b ++ s)) ha refl ∙ ap (λ (ws : List (List ℕ)). a ∷ ws) (front_word b s hb k))

-- ---- letters and digits

place_case : (p : ℕ → Bool) (x : ℕ) (xs s : List ℕ) (b : Bool) → p x ≡ b → (if b then false else none p xs) ≡ true → (none p xs ≡ true → position_or_len p (xs ++ s) ≡ length xs) → position_or_len p (x ∷ (xs ++ s)) ≡ length (x ∷ xs)
place_case p x xs s true e h ih = absurd (false≢true h)
place_case p x xs s false e h ih = rw (e, ih h) (omega arith)

pub place_at : (p : ℕ → Bool) (xs s : List ℕ) → none p xs ≡ true → starts p s ≡ true → position_or_len p (xs ++ s) ≡ length xs
place_at p [] [] h k = refl
place_at p [] (b ∷ bs) h k = rw k refl
place_at p (x ∷ xs) s h k = place_case p x xs s (p x) refl h (λ g. place_at p xs s g k)

pub front_at : (p : ℕ → Bool) (xs s : List ℕ) → none p xs ≡ true → starts p s ≡ true → front p (xs ++ s) ≡ xs
front_at p xs s h k = rw (place_at p xs s h k) (take_at xs s _ refl)

pub rest_at : (p : ℕ → Bool) (xs s : List ℕ) → none p xs ≡ true → starts p s ≡ true → rest p (xs ++ s) ≡ s
rest_at p xs s h k = rw (place_at p xs s h k) (drop_at xs s _ refl)

pub front_all : (p : ℕ → Bool) (xs : List ℕ) → none p xs ≡ true → front p xs ≡ xs
front_all p xs h = ap (front p) (sym (append-nil xs)) ∙ front_at p xs [] h refl

pub rest_all : (p : ℕ → Bool) (xs : List ℕ) → none p xs ≡ true → rest p xs ≡ []
rest_all p xs h = ap (rest p) (sym (append-nil xs)) ∙ rest_at p xs [] h refl
