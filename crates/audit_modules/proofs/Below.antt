-- Tests of all numbers below one, and of all items of a list.
use Rattle.std.proofs.Common.{◌≡◌, ℕ, zero, suc, ◌+◌, ◌<◌, ◌≤◌, ◌==◌, Bool, true, false, List, [], ◌∷◌, length, get_or, slice_index_or, sym, ◌∙◌, subst, arith, ◌⊎◌, inl, inr}
use Rattle.std.specs.List.{Contains, flat_map}
use Rattle.std.proofs.lemmas.List.Elements.{All-contains, All-from_get_or, Contains-get_or, Contains-append_left, Contains-append_right, Contains-append_cases, Contains-push}
use Rattle.mcal_base.specs.facts.Numbers.{eq_is, eq_from}
use Rattle.mcal_base.specs.facts.Truths.{off_on}
use Rattle.audit_frames.specs.Decides.{Decides}
use Rattle.audit_frames.proofs.Deciding.{yes, no, worded}
use borrow.Author.Count.{below_more}

-- ---- one test

pub holds : {P : Type 0} (b : Bool) → Decides b P → b ≡ true → P
holds b d e = d.says e

pub fails : {P : Type 0} (b : Bool) → Decides b P → b ≡ false → P → ⊥
fails b d e p = off_on (sym e ∙ d.shows p)

-- ---- the numbers below one

-- each before the last one passes, and it too
pub one_more : (P : ℕ → Type 0) (n : ℕ) (b : Bool) → ((k : ℕ) → k < n → P k) → Decides b (P n) → b ≡ true → (k : ℕ) → k < n + 1 → P k
one_more P n b before d e = below_more P n before (d.says e)

-- all pass
pub all_pass : (P : ℕ → Type 0) (n end : ℕ) → end ≤ n → ((k : ℕ) → k < n → P k) → Decides true ((k : ℕ) → k < end → P k)
all_pass P n end le each = yes (λ k lt. each k (omega (arith, lt, le)))

-- one fails
pub one_fails : (P : ℕ → Type 0) (n end : ℕ) (b : Bool) → n < end → Decides b (P n) → b ≡ false → Decides false ((k : ℕ) → k < end → P k)
one_fails P n end b lt d e = no (λ each. fails b d e (each n lt))

-- ---- the items of a list

-- the items by their places, and those that it contains
pub listed : (P : ℕ → Type 0) (xs : List ℕ) (b : Bool) → Decides b ((k : ℕ) → k < length xs → P (get_or xs k 0)) → Decides b ((c : ℕ) → Contains xs c → P c)
listed P xs b d = worded (λ f c h. All-contains P xs c (All-from_get_or P xs 0 f) h) (λ g k lt. g (get_or xs k 0) (Contains-get_or xs k 0 lt)) d

-- an item of one of several lists is one of them joined
joined_in : (f : ℕ → List ℕ) (xs : List ℕ) (k j c : ℕ) → k < length xs → slice_index_or xs k j ≡ j → Contains (f j) c → Contains (flat_map f xs) c
joined_in f [] k j c lt e h = absurd (omega (arith, lt))
joined_in f (x ∷ xs) zero j c lt e h = Contains-append_left (f x) (flat_map f xs) c (subst (λ y. Contains (f y) c) (sym e) h)
joined_in f (x ∷ xs) (suc k) j c lt e h = Contains-append_right (f x) (flat_map f xs) c (joined_in f xs k j c (omega (arith, lt)) e h)

-- what holds of the items of each of several lists holds of those of them joined
joined_all : (f : ℕ → List ℕ) (P : ℕ → Type 0) (xs : List ℕ) → ((j : ℕ) → Contains xs j → (c : ℕ) → Contains (f j) c → P c) → (c : ℕ) → Contains (flat_map f xs) c → P c
joined_all f P [] each c h = let lt = h.1 in absurd (omega (arith, lt))
joined_all f P (x ∷ xs) each c h = by (Contains-append_cases (f x) (flat_map f xs) c h) (joined_all f P xs (λ j m. each j (Contains-append_right (x ∷ []) xs j m)) c)
  where
    by : Contains (f x) c ⊎ Contains (flat_map f xs) c → (Contains (flat_map f xs) c → P c) → P c
    by (inl here) more = each x (Contains-append_left (x ∷ []) xs x (Contains-push [] x)) c here
    by (inr there) more = more there

pub joined : (f : ℕ → List ℕ) (P : ℕ → Type 0) (xs : List ℕ) (b : Bool) → Decides b ((j : ℕ) → Contains xs j → (c : ℕ) → Contains (f j) c → P c) → Decides b ((c : ℕ) → Contains (flat_map f xs) c → P c)
joined f P xs b d = worded (joined_all f P xs) (λ g j m c h. g c (joined_in f xs m.0 j c m.1 m.2 h)) d

-- ---- two values

-- words are compared
pub same_words : (a b x y : ℕ) → a ≡ x → b ≡ y → Decides (a == b) (x ≡ y)
same_words a b x y p q = record { says = λ e. sym p ∙ (eq_is a b e ∙ q); shows = λ e. eq_from a b (p ∙ (e ∙ sym q)) }

-- values are compared that are these
pub same_values : {A : Type 0} (r : Bool) (a b x y : A) → a ≡ x → b ≡ y → Decides r (a ≡ b) → Decides r (x ≡ y)
same_values r a b x y p q d = worded (λ e. sym p ∙ (e ∙ q)) (λ e. p ∙ (e ∙ sym q)) d
