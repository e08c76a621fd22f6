-- A choice is the waiting entry of highest rank, among equal ranks the first.
use Rattle.std.proofs.Common.{◌≡◌, ℕ, ◌<◌, ◌≤◌, Bool, true, false, List, [], ◌∷◌, ◌++◌, refl, sym, ◌∙◌, ap, subst, arith, ◌⊎◌, inl, inr}
use Rattle.std.proofs.lemmas.Bool.{cases_Bool, cases_lt, lt-ltb, le-ltb, true≢false}
use Rattle.word_shapes.specs.Order.{Entry, AllBelow, none, rank, over, choice, AllWaiting, IsChoice}

-- ---- one entry before a choice

abbrev Taken : List ℕ → Entry → ℕ → Type 0
Taken ranks x best = (over ranks x best ≡ x.number) × (x.waits ≡ true) × (best < none → rank ranks best ≤ rank ranks x.number)

abbrev Left : List ℕ → Entry → ℕ → Type 0
Left ranks x best = (over ranks x best ≡ best) × (x.waits ≡ true → (best < none) × (rank ranks x.number < rank ranks best))

over-tests : (ranks : List ℕ) (x : Entry) (best : ℕ) → x.waits ≡ true → (best < none) ⊎ (none ≤ best) → (rank ranks x.number < rank ranks best) ⊎ (rank ranks best ≤ rank ranks x.number)
    → Taken ranks x best ⊎ Left ranks x best
over-tests ranks x best w (inl lt) (inl lower) = inr (rw (w, lt-ltb best none lt, lt-ltb (rank ranks x.number) (rank ranks best) lower) refl, λ _. (lt, lower))
over-tests ranks x best w (inl lt) (inr high) = inl (rw (w, lt-ltb best none lt, le-ltb (rank ranks x.number) (rank ranks best) high) refl, w, λ _. high)
over-tests ranks x best w (inr ge) _ = inl (rw (w, le-ltb best none ge) refl, w, λ lt. absurd (omega arith))

over-cases : (ranks : List ℕ) (x : Entry) (best : ℕ) → (x.waits ≡ true) ⊎ (x.waits ≡ false) → Taken ranks x best ⊎ Left ranks x best
over-cases ranks x best (inl w) = over-tests ranks x best w (cases_lt best none) (cases_lt (rank ranks x.number) (rank ranks best))
over-cases ranks x best (inr w) = inr (rw w refl, λ e. absurd (true≢false (sym e ∙ w)))

either_way : (ranks : List ℕ) (x : Entry) (best : ℕ) → Taken ranks x best ⊎ Left ranks x best
either_way ranks x best = over-cases ranks x best (cases_Bool x.waits)

-- ---- a whole order

all-then : (P Q : Entry → Type 0) (xs : List Entry) → ((x : Entry) → P x → Q x) → AllWaiting P xs → AllWaiting Q xs
all-then P Q [] f h = tt
all-then P Q (x ∷ xs) f h = (λ w. f x (h.0 w), all-then P Q xs f h.1)

abbrev Within : List ℕ → ℕ → Entry → Type 0
Within ranks n x = (n < none) × (rank ranks x.number ≤ rank ranks n)

-- each waiting entry ranks no higher than the choice
pub choice-bounds : (ranks : List ℕ) (xs : List Entry) → AllBelow xs → AllWaiting (Within ranks (choice ranks xs)) xs
choice-bounds ranks [] below = tt
choice-bounds ranks (x ∷ xs) below =
    let best = choice ranks xs in
    let All = λ (n : ℕ). AllWaiting (Within ranks n) (x ∷ xs) in
    elim (either_way ranks x best) [
      | inl t ↦ (let small = below.0 in subst All (sym t.0)
          (λ _. (small, omega arith), all-then (Within ranks best) (Within ranks x.number) xs (λ y h. (small, (let lt = h.0 in let le = h.1 in let up = t.2 lt in omega arith))) (choice-bounds ranks xs below.1)))
      | inr l ↦ subst All (sym l.0) (λ w. (let p = l.1 w in (p.0, (let lt = p.1 in omega arith))), choice-bounds ranks xs below.1)
    ]

pub choice-none : (ranks : List ℕ) (xs : List Entry) → AllBelow xs → choice ranks xs ≡ none → AllWaiting (λ x. ⊥) xs
choice-none ranks xs below e = all-then (Within ranks (choice ranks xs)) (λ x. ⊥) xs (λ x h. (let lt = h.0 in omega arith)) (choice-bounds ranks xs below)

pub none-choice : (ranks : List ℕ) (xs : List Entry) → AllWaiting (λ x. ⊥) xs → choice ranks xs ≡ none
none-choice ranks [] h = refl
none-choice ranks (x ∷ xs) h =
    elim (either_way ranks x (choice ranks xs)) [ inl t ↦ absurd (h.0 t.1) | inr l ↦ l.0 ∙ none-choice ranks xs h.1 ]

as_waiting : (x : Entry) → x.waits ≡ true → ◌≡◌ {A = Entry} x (record { number = x.number; waits = true })
as_waiting x w = ap (λ (b : Bool). let y : Entry = record { number = x.number; waits = b } in y) w

pub choice-is : (ranks : List ℕ) (xs : List Entry) → AllBelow xs → choice ranks xs < none → IsChoice ranks xs (choice ranks xs)
choice-is ranks [] below lt = absurd (omega arith)
choice-is ranks (x ∷ xs) below lt =
    let best = choice ranks xs in
    elim (either_way ranks x best) [
      | inl t ↦ rw t.0 (record {
        before = [];
        after = xs;
        is = ap (λ y. y ∷ xs) (as_waiting x t.1);
        below = tt;
        within = all-then (Within ranks best) (λ y. rank ranks y.number ≤ rank ranks x.number) xs (λ y h. (let up = t.2 h.0 in let le = h.1 in omega arith)) (choice-bounds ranks xs below.1);
      })
      | inr l ↦ (let rest = choice-is ranks xs below.1 (let e = l.0 in omega arith) in rw l.0 (record {
        before = x ∷ rest.before;
        after = rest.after;
        is = ap (λ ys. x ∷ ys) rest.is;
        below = (λ w. (l.1 w).1, rest.below);
        within = rest.within;
      }))
    ]

-- a choice waits, so what holds of all that wait holds of it
choice-all : (ranks : List ℕ) (P : ℕ → Type 0) (xs : List Entry) → AllWaiting (λ x. P x.number) xs → choice ranks xs < none → P (choice ranks xs)
choice-all ranks P [] h lt = absurd (omega arith)
choice-all ranks P (x ∷ xs) h lt =
    elim (either_way ranks x (choice ranks xs)) [
      | inl t ↦ rw t.0 (h.0 t.1)
      | inr l ↦ rw l.0 (choice-all ranks P xs h.1 (let e = l.0 in omega arith))
    ]

first-choice : (ranks : List ℕ) (n : ℕ) (after : List Entry) → AllWaiting (λ x. rank ranks x.number ≤ rank ranks n) after → choice ranks (record { number = n; waits = true } ∷ after) ≡ n
first-choice ranks n after h =
    let x : Entry = record { number = n; waits = true } in
    elim (either_way ranks x (choice ranks after)) [
      | inl t ↦ t.0
      | inr l ↦ (let p = l.1 refl in let lt = p.1 in let le = choice-all ranks (λ k. rank ranks k ≤ rank ranks n) after h p.0 in absurd (omega arith))
    ]

later-choice : (ranks : List ℕ) (n : ℕ) (before after : List Entry) → n < none → AllWaiting (λ x. rank ranks x.number < rank ranks n) before
    → AllWaiting (λ x. rank ranks x.number ≤ rank ranks n) after → choice ranks (before ++ record { number = n; waits = true } ∷ after) ≡ n
later-choice ranks n [] after lt below within = first-choice ranks n after within
later-choice ranks n (x ∷ xs) after lt below within =
    let e = later-choice ranks n xs after lt below.1 within in
    elim (either_way ranks x (choice ranks (xs ++ record { number = n; waits = true } ∷ after))) [
      | inl t ↦ (let lower = below.0 t.1 in let up = t.2 (rw e lt) in let up2 : rank ranks n ≤ rank ranks x.number = subst (λ k. rank ranks k ≤ rank ranks x.number) e up in absurd (omega arith))
      | inr l ↦ l.0 ∙ e
    ]

-- there is no other choice
pub choice-only : (ranks : List ℕ) (xs : List Entry) (n : ℕ) → n < none → IsChoice ranks xs n → choice ranks xs ≡ n
choice-only ranks xs n lt h = ap (choice ranks) h.is ∙ later-choice ranks n h.before h.after lt h.below h.within
