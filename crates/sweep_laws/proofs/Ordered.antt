-- The places of a block, one behind another.
use Rattle.std.proofs.Common.{◌≡◌, ℕ, ◌+◌, ◌<◌, ◌≤◌, List, [], ◌∷◌, ◌++◌, Bool, true, false, Some, zero, suc, refl, sym, ap, ◌∙◌, subst, inl, inr, arith, if◌then◌else◌}
use Rattle.std.specs.Prelude.{slice_get}
use Rattle.std.proofs.lemmas.Bool.Decides.{leb_tells}
use Rattle.std.proofs.lemmas.Option.{same_Some}
use Rattle.mcal_base.specs.declared.directive.Directive.{Directive}
use Rattle.mcal_base.specs.declared.directive.Order.{Order}
use Rattle.bench_sweep.proofs.Differing.{get_more}
use Rattle.bench_sweep.specs.Places.{at, begins_frame, behind_steps, places, places_by, places_from, when_begun}
use Rattle.bench_sweep.specs.declared.places.BlockPlace.{BlockPlace}
use Rattle.bench_sweep.specs.declared.places.Spot.TheVariants.{Before, Begun, Step, Behind}
use Rattle.sweep_laws.specs.Moments.{AreInOrder, Each, IsAmong, IsBefore, lateness}

-- ---- all are there

in_left : (xs ys : List BlockPlace) (p : BlockPlace) → IsAmong xs p → IsAmong (xs ++ ys) p
in_left xs ys p (i, e) = (i, get_more xs ys i p e)

in_right : (xs ys : List BlockPlace) (p : BlockPlace) → IsAmong ys p → IsAmong (xs ++ ys) p
in_right [] ys p h = h
in_right (x ∷ xs) ys p h = let r : IsAmong (xs ++ ys) p = in_right xs ys p h in (suc r.0, r.1)

in_steps : (directive n k : ℕ) → k < n → IsAmong (behind_steps directive n) (at directive (Step (k + 1)))
in_steps directive zero k l = absurd (omega (arith, l))
in_steps directive (suc n) k l = elim (leb_tells (suc k) n) [
  | inl h ↦ in_left (behind_steps directive n) (at directive (Step (n + 1)) ∷ []) (at directive (Step (k + 1))) (in_steps directive n k h.1)
  | inr h ↦ in_right (behind_steps directive n) (at directive (Step (n + 1)) ∷ []) (at directive (Step (k + 1))) (0, ap (λ (m : ℕ). Some (at directive (Step (m + 1)))) (omega (arith, l, h.1)))
]

stepped_by : (directive : ℕ) (order : Order) (n k : ℕ) → k < n → IsAmong (places_by directive order n) (at directive (Step (k + 1)))
stepped_by directive order zero k l = absurd (omega (arith, l))
stepped_by directive order (suc n) k l = in_right (when_begun directive order) (behind_steps directive (suc n)) (at directive (Step (k + 1))) (in_steps directive (suc n) k l)

begun_by : (directive n : ℕ) (b : Bool) → b ≡ true → IsAmong ((if b then at directive Begun ∷ [] else []) ++ behind_steps directive n) (at directive Begun)
begun_by directive n true e = (0, refl)
begun_by directive n false e = absurd (cc)

begins_by : (directive : ℕ) (order : Order) (n : ℕ) → 0 < n → begins_frame order ≡ true → IsAmong (places_by directive order n) (at directive Begun)
begins_by directive order zero l e = absurd (omega (arith, l))
begins_by directive order (suc n) l e = begun_by directive (suc n) (begins_frame order) e

in_from : (start : ℕ) (block : List Directive) (steps : List ℕ) (i n : ℕ) (d : Directive) (p : BlockPlace) → slice_get block i ≡ Some d → slice_get steps i ≡ Some n → IsAmong (places_by (start + i) d.order n) p → IsAmong (places_from start block steps) p
in_from start [] steps i n d p e f h = absurd (cc)
in_from start (x ∷ xs) [] i n d p e f h = absurd (cc)
in_from start (x ∷ xs) (m ∷ ms) zero n d p e f h =
    let k : start + zero ≡ start = omega arith in
    let s : x ≡ d = same_Some x d e in
    let t : m ≡ n = same_Some m n f in
    in_left (places_by start x.order m) (places_from (start + 1) xs ms) p (rw (s, t) (rw k at h))
in_from start (x ∷ xs) (m ∷ ms) (suc i) n d p e f h =
    let k : start + suc i ≡ start + 1 + i = omega arith in
    in_right (places_by start x.order m) (places_from (start + 1) xs ms) p (in_from (start + 1) xs ms i n d p e f (rw k at h))

pub among : (block : List Directive) (steps : List ℕ) (i n : ℕ) (d : Directive) (p : BlockPlace) → slice_get block i ≡ Some d → slice_get steps i ≡ Some n → IsAmong (places_by i d.order n) p → IsAmong (places block steps) p
among block steps i n d p e f h =
    let k : i ≡ 0 + i = omega arith in
    let r : IsAmong (places_from 0 block steps) p = in_from 0 block steps i n d p e f (subst (λ (j : ℕ). IsAmong (places_by j d.order n) p) k h) in
    (suc r.0, r.1)

pub among_behind : (block : List Directive) (steps : List ℕ) (i : ℕ) (d : Directive) → slice_get block i ≡ Some d → slice_get steps i ≡ Some 0 → IsAmong (places block steps) (at i Behind)
among_behind block steps i d e f = among block steps i 0 d (at i Behind) e f (0, refl)

pub among_begun : (block : List Directive) (steps : List ℕ) (i n : ℕ) (d : Directive) → slice_get block i ≡ Some d → slice_get steps i ≡ Some n → 0 < n → begins_frame d.order ≡ true → IsAmong (places block steps) (at i Begun)
among_begun block steps i n d e f l b = among block steps i n d (at i Begun) e f (begins_by i d.order n l b)

pub among_stepped : (block : List Directive) (steps : List ℕ) (i n k : ℕ) (d : Directive) → slice_get block i ≡ Some d → slice_get steps i ≡ Some n → k < n → IsAmong (places block steps) (at i (Step (k + 1)))
among_stepped block steps i n k d e f l = among block steps i n d (at i (Step (k + 1))) e f (stepped_by i d.order n k l)

-- ---- in their order

each_append : (P : BlockPlace → Type 0) (xs ys : List BlockPlace) → Each P xs → Each P ys → Each P (xs ++ ys)
each_append P [] ys h k = k
each_append P (x ∷ xs) ys h k = (h.0, each_append P xs ys h.1 k)

each_like : (P Q : BlockPlace → Type 0) (xs : List BlockPlace) → ((p : BlockPlace) → P p → Q p) → Each P xs → Each Q xs
each_like P Q [] f h = tt
each_like P Q (x ∷ xs) f h = (f x h.0, each_like P Q xs f h.1)

-- one list behind another
order_append : (xs ys : List BlockPlace) → AreInOrder xs → AreInOrder ys → Each (λ x. Each (IsBefore x) ys) xs → AreInOrder (xs ++ ys)
order_append [] ys a b h = b
order_append (x ∷ xs) ys a b h = (each_append (IsBefore x) xs ys a.0 h.0, order_append xs ys a.1 b h.1)

-- a place by this directive, at most so late
abbrev IsUpTo : ℕ → ℕ → BlockPlace → Type 0
IsUpTo directive most p = (p.directive ≡ directive) × (lateness p.spot ≤ most)

-- a place by this directive or a later one
abbrev IsFrom : ℕ → BlockPlace → Type 0
IsFrom directive p = directive ≤ p.directive

steps_up_to : (directive n : ℕ) → Each (IsUpTo directive (n + 1)) (behind_steps directive n)
steps_up_to directive zero = tt
steps_up_to directive (suc n) =
    each_append (IsUpTo directive (suc n + 1)) (behind_steps directive n) (at directive (Step (n + 1)) ∷ [])
    (each_like (IsUpTo directive (n + 1)) (IsUpTo directive (suc n + 1)) (behind_steps directive n) (λ p h. (h.0, omega (arith, h.1))) (steps_up_to directive n))
    ((refl, omega arith), tt)

up_to_before : (directive most : ℕ) (q p : BlockPlace) → q.directive ≡ directive → most < lateness q.spot → IsUpTo directive most p → IsBefore p q
up_to_before directive most q p e l h = inr (h.0 ∙ sym e, omega (arith, h.1, l))

steps_in_order : (directive n : ℕ) → AreInOrder (behind_steps directive n)
steps_in_order directive zero = tt
steps_in_order directive (suc n) =
    let q = at directive (Step (n + 1)) in
    order_append (behind_steps directive n) (q ∷ []) (steps_in_order directive n) (tt, tt)
    (each_like (IsUpTo directive (n + 1)) (λ p. Each (IsBefore p) (q ∷ [])) (behind_steps directive n) (λ p h. (up_to_before directive (n + 1) q p refl (omega arith) h, tt)) (steps_up_to directive n))

-- a step comes behind the beginning
late_steps : (directive n : ℕ) → Each (IsBefore (at directive Begun)) (behind_steps directive n)
late_steps directive zero = tt
late_steps directive (suc n) = each_append (IsBefore (at directive Begun)) (behind_steps directive n) (at directive (Step (n + 1)) ∷ []) (late_steps directive n) (inr (refl, omega arith), tt)

begun_order : (directive n : ℕ) (b : Bool) → AreInOrder ((if b then at directive Begun ∷ [] else []) ++ behind_steps directive n)
begun_order directive n true = (late_steps directive n, steps_in_order directive n)
begun_order directive n false = steps_in_order directive n

by_order : (directive : ℕ) (order : Order) (n : ℕ) → AreInOrder (places_by directive order n)
by_order directive order zero = (tt, tt)
by_order directive order (suc n) = begun_order directive (suc n) (begins_frame order)

begun_same : (directive n : ℕ) (b : Bool) → Each (λ p. p.directive ≡ directive) (if b then at directive Begun ∷ [] else [])
begun_same directive n true = (refl, tt)
begun_same directive n false = tt

by_same : (directive : ℕ) (order : Order) (n : ℕ) → Each (λ p. p.directive ≡ directive) (places_by directive order n)
by_same directive order zero = (refl, tt)
by_same directive order (suc n) = each_append (λ p. p.directive ≡ directive) (when_begun directive order) (behind_steps directive (suc n)) (begun_same directive n (begins_frame order)) (each_like (IsUpTo directive (suc n + 1)) (λ p. p.directive ≡ directive) (behind_steps directive (suc n)) (λ p h. h.0) (steps_up_to directive (suc n)))

from_later : (start : ℕ) (block : List Directive) (steps : List ℕ) → Each (IsFrom start) (places_from start block steps)
from_later start [] steps = tt
from_later start (d ∷ ds) [] = tt
from_later start (d ∷ ds) (n ∷ ns) = each_append (IsFrom start) (places_by start d.order n) (places_from (start + 1) ds ns)
    (each_like (λ p. p.directive ≡ start) (IsFrom start) (places_by start d.order n) (λ p h. omega (arith, h)) (by_same start d.order n))
    (each_like (IsFrom (start + 1)) (IsFrom start) (places_from (start + 1) ds ns) (λ p h. omega (arith, h)) (from_later (start + 1) ds ns))

from_order : (start : ℕ) (block : List Directive) (steps : List ℕ) → AreInOrder (places_from start block steps)
from_order start [] steps = tt
from_order start (d ∷ ds) [] = tt
from_order start (d ∷ ds) (n ∷ ns) = order_append (places_by start d.order n) (places_from (start + 1) ds ns) (by_order start d.order n) (from_order (start + 1) ds ns)
    (each_like (λ p. p.directive ≡ start) (λ p. Each (IsBefore p) (places_from (start + 1) ds ns)) (places_by start d.order n)
    (λ p h. each_like (IsFrom (start + 1)) (IsBefore p) (places_from (start + 1) ds ns) (λ q k. inl (omega (arith, h, k))) (from_later (start + 1) ds ns))
    (by_same start d.order n))

-- all of them come behind the place before the block
abbrev IsLate : BlockPlace → Type 0
IsLate p = 0 < lateness p.spot

late_all : (directive n : ℕ) → Each IsLate (behind_steps directive n)
late_all directive zero = tt
late_all directive (suc n) = each_append IsLate (behind_steps directive n) (at directive (Step (n + 1)) ∷ []) (late_all directive n) (omega arith, tt)

begun_late : (directive : ℕ) (b : Bool) → Each IsLate (if b then at directive Begun ∷ [] else [])
begun_late directive true = (omega arith, tt)
begun_late directive false = tt

by_late : (directive : ℕ) (order : Order) (n : ℕ) → Each IsLate (places_by directive order n)
by_late directive order zero = (omega arith, tt)
by_late directive order (suc n) = each_append IsLate (when_begun directive order) (behind_steps directive (suc n)) (begun_late directive (begins_frame order)) (late_all directive (suc n))

from_late : (start : ℕ) (block : List Directive) (steps : List ℕ) → Each IsLate (places_from start block steps)
from_late start [] steps = tt
from_late start (d ∷ ds) [] = tt
from_late start (d ∷ ds) (n ∷ ns) = each_append IsLate (places_by start d.order n) (places_from (start + 1) ds ns) (by_late start d.order n) (from_late (start + 1) ds ns)

late_before : (p : BlockPlace) (directive : ℕ) → p.directive ≡ directive → IsLate p → IsBefore (at 0 Before) p
late_before p zero e l = inr (sym e, l)
late_before p (suc n) e l = inl (omega (arith, e))

pub in_order : (block : List Directive) (steps : List ℕ) → AreInOrder (places block steps)
in_order block steps = (each_like IsLate (IsBefore (at 0 Before)) (places_from 0 block steps) (λ p l. late_before p p.directive refl l) (from_late 0 block steps), from_order 0 block steps)
