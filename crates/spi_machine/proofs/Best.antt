-- The best entry of a list: no other one precedes it.
use Rattle.std.proofs.Common.{◌≡◌, ◌≢◌, ◌≤◌, ◌<◌, ◌⊎◌, inl, inr, sym, ◌∙◌, ℕ, suc, Bool, true, false, cond, ◌&&◌, ◌||◌, nat_lt, ◌==◌, List, [], ◌∷◌, Option, Some, None, refl, arith}
use Rattle.std.specs.Prelude.{Contains, filter, if◌then◌else◌}
use Rattle.std.specs.List.{AllByRecursion}
use Rattle.std.proofs.lemmas.Bool.Decides.{nat_tests}
use Rattle.mcal_base.specs.facts.Options.{some_is}
use Rattle.mcal_base.specs.facts.Numbers.{same_or_other}
use Rattle.spi_machine.specs.Promised.{IsNext, Yields, ToStarted, ToPriority, ToEarlier, HasPriorities}
use Rattle.spi_machine.specs.Pending.{Pending, is_for, keeps_unit, priority_of, next_job, rank, precedes, better, best, next_on}
use Rattle.spi_machine.specs.declared.table.SpiTable.{SpiTable}

-- ---- the order, of ranks and requests

turned : (a b i j : ℕ) → (nat_lt b a || (a == b && nat_lt i j)) ≡ true → (nat_lt a b || (b == a && nat_lt j i)) ≡ false
turned a b i j h = grind (arith, nat_tests)

itself : (a i : ℕ) → (nat_lt a a || (a == a && nat_lt i i)) ≡ false
itself a i = grind (arith, nat_tests)

through : (a b c i j k : ℕ) → (nat_lt b a || (a == b && nat_lt i j)) ≡ false → (nat_lt c b || (b == c && nat_lt j k)) ≡ false
    → (nat_lt c a || (a == c && nat_lt i k)) ≡ false
through a b c i j k h g = grind (arith, nat_tests)

-- ---- the best one

-- none of these, where they are for the unit, precedes the entry
abbrev NonePrecedes : SpiTable → ℕ → List Pending → Pending → Type 0
NonePrecedes d u ps p = AllByRecursion (λ q. is_for d u q ≡ true → precedes d q p ≡ false) ps

-- one of these is for the unit, and none precedes it
record IsBest (d : SpiTable) (u : ℕ) (ps : List Pending) (p : Pending) : Type 0 where
  among : Contains ps p
  on : is_for d u p ≡ true
  first : NonePrecedes d u ps p

-- what is for the unit, with one more entry in front
abbrev kept : SpiTable → ℕ → Bool → Pending → List Pending → List Pending
kept d u b q ps = cond b (q ∷ filter (is_for d u) ps) (filter (is_for d u) ps)

-- none is for the unit
none_for_by : (d : SpiTable) (u : ℕ) (p q : Pending) (ps : List Pending) (b : Bool) → is_for d u q ≡ b → best d (kept d u b q ps) ≡ None
    → (next_on d u ps ≡ None → NonePrecedes d u ps p) → (is_for d u q ≡ true → precedes d q p ≡ false) × NonePrecedes d u ps p
none_for_by d u p q ps true e h rest = absurd (cc h)
none_for_by d u p q ps false e h rest = (λ t. absurd (cc (e, t)), rest h)

none_for : (d : SpiTable) (u : ℕ) (p : Pending) (ps : List Pending) → next_on d u ps ≡ None → NonePrecedes d u ps p
none_for d u p [] h = tt
none_for d u p (q ∷ ps) h = none_for_by d u p q ps (is_for d u q) refl h (none_for d u p ps)

-- what isn't preceded by one that precedes another isn't preceded by that
none_through : (d : SpiTable) (u : ℕ) (p q : Pending) (ps : List Pending) → precedes d p q ≡ false → NonePrecedes d u ps p → NonePrecedes d u ps q
none_through d u p q [] e h = tt
none_through d u p q (x ∷ ps) e h = (λ t. through (rank d x) (rank d p) (rank d q) x.request p.request q.request (h.0 t) e, none_through d u p q ps e h.1)

among_further : (ps : List Pending) (q p : Pending) → Contains ps p → Contains (q ∷ ps) p
among_further ps q p (k, within, is) = (suc k, omega (arith, within), is)

among_first : (ps : List Pending) (q : Pending) → Contains (q ∷ ps) q
among_first ps q = (0, omega arith, refl)

-- an entry for the unit in front of the best of the others
beats : (d : SpiTable) (u : ℕ) (q b p : Pending) (ps : List Pending) (first : Bool) → is_for d u q ≡ true → IsBest d u ps b → precedes d b q ≡ first
    → cond first b q ≡ p → IsBest d u (q ∷ ps) p
beats d u q b p ps true e next r h = rw (← h) (record {
  among = among_further ps q b next.among;
  on = next.on;
  first = (λ _. turned (rank d b) (rank d q) b.request q.request r, next.first);
})
beats d u q b p ps false e next r h = rw (← h) (record {
  among = among_first ps q;
  on = e;
  first = (λ _. itself (rank d q) q.request, none_through d u b q ps r next.first);
})

joins : (d : SpiTable) (u : ℕ) (q p : Pending) (ps : List Pending) (o : Option Pending) → is_for d u q ≡ true → next_on d u ps ≡ o
    → ((b : Pending) → next_on d u ps ≡ Some b → IsBest d u ps b) → better d q o ≡ p → IsBest d u (q ∷ ps) p
joins d u q p ps None e o rest h = rw (← h) (record {
  among = among_first ps q;
  on = e;
  first = (λ _. itself (rank d q) q.request, none_for d u q ps o);
})
joins d u q p ps (Some b) e o rest h = beats d u q b p ps (precedes d b q) e (rest b o) refl h

next_by : (d : SpiTable) (u : ℕ) (q p : Pending) (ps : List Pending) (b : Bool) → is_for d u q ≡ b → best d (kept d u b q ps) ≡ Some p
    → ((b : Pending) → next_on d u ps ≡ Some b → IsBest d u ps b) → IsBest d u (q ∷ ps) p
next_by d u q p ps true e h rest = joins d u q p ps (next_on d u ps) e refl rest (some_is (better d q (next_on d u ps)) p h)
next_by d u q p ps false e h rest =
    let next : IsBest d u ps p = rest p h in
    record { among = among_further ps q p next.among; on = next.on; first = (λ t. absurd (cc (e, t)), next.first) }

-- the next one is the best of those for the unit
next_best : (d : SpiTable) (u : ℕ) (ps : List Pending) (p : Pending) → next_on d u ps ≡ Some p → IsBest d u ps p
next_best d u [] p h = absurd (cc h)
next_best d u (q ∷ ps) p h = next_by d u q p ps (is_for d u q) refl h (next_best d u ps)

-- ---- in the words of sequences

both-keep : (i j : ℕ) → (nat_lt 4 4 || (4 == 4 && nat_lt i j)) ≡ false → j ≤ i
both-keep i j h = grind (h, arith, nat_tests)

one-keeps : (b i j : ℕ) → (nat_lt b 4 || (4 == b && nat_lt i j)) ≡ false → b ≤ 3 → ⊥
one-keeps b i j h fit = grind (h, fit, arith, nat_tests)

equals : (a b i j : ℕ) → (nat_lt b a || (a == b && nat_lt i j)) ≡ false → a ≡ b → j ≤ i
equals a b i j h e = grind (h, e, arith, nat_tests)

lower : (a b i j : ℕ) → (nat_lt b a || (a == b && nat_lt i j)) ≡ false → a ≢ b → a < b
lower a b i j h ne = grind (h, ne, arith, nat_tests)

-- the ranks of two, by whether each keeps its unit
abbrev rank_by : Bool → ℕ → ℕ
rank_by keeps priority = if keeps then 4 else priority

neither-keeps : (d : SpiTable) (q p : Pending) → keeps_unit d q ≡ false → keeps_unit d p ≡ false
    → (nat_lt (priority_of d p) (priority_of d q) || (priority_of d q == priority_of d p && nat_lt q.request p.request)) ≡ false
    → (priority_of d q ≡ priority_of d p) ⊎ (priority_of d q ≢ priority_of d p) → Yields d q p
neither-keeps d q p e f h (inl at) = ToEarlier (f ∙ sym e) (inr at) (equals (priority_of d q) (priority_of d p) q.request p.request h at)
neither-keeps d q p e f h (inr ne) = ToPriority f e (lower (priority_of d q) (priority_of d p) q.request p.request h ne)

yields-by : (d : SpiTable) (q p : Pending) (a b : Bool) → keeps_unit d q ≡ a → keeps_unit d p ≡ b → priority_of d p ≤ 3
    → (nat_lt (rank_by b (priority_of d p)) (rank_by a (priority_of d q)) || (rank_by a (priority_of d q) == rank_by b (priority_of d p) && nat_lt q.request p.request)) ≡ false
    → Yields d q p
yields-by d q p true true e f fit h = ToEarlier (f ∙ sym e) (inl e) (both-keep q.request p.request h)
yields-by d q p true false e f fit h = absurd (one-keeps (priority_of d p) q.request p.request h fit)
yields-by d q p false true e f fit h = ToStarted f e
yields-by d q p false false e f fit h = neither-keeps d q p e f h (same_or_other (priority_of d q) (priority_of d p))

all-yield : (d : SpiTable) (u : ℕ) (p : Pending) (ps : List Pending) → HasPriorities d → NonePrecedes d u ps p → AllByRecursion (λ q. is_for d u q ≡ true → Yields d q p) ps
all-yield d u p [] fit h = tt
all-yield d u p (q ∷ ps) fit h =
    ((λ t. yields-by d q p (keeps_unit d q) (keeps_unit d p) refl refl (fit (next_job d p)) (h.0 t)), all-yield d u p ps fit h.1)

pub next_is : (d : SpiTable) (u : ℕ) (ps : List Pending) (p : Pending) → HasPriorities d → next_on d u ps ≡ Some p → IsNext d u ps p
next_is d u ps p fit h =
    let best : IsBest d u ps p = next_best d u ps p h in
    record { among = best.among; on = best.on; first = all-yield d u p ps fit best.first }
