-- Tests of numbers, what is so of some of a list, jobs by their places, and all sequences under way.
-- From words.Cases.
-- Used by bookkeeping.SequenceEnded, spi_laws: sending.bookkeeping.CarriedState, services.RequestRight and 39 more.
use Rattle.std.proofs.Common.{◌≡◌, ◌≢◌, ◌+◌, ◌-◌, ◌<◌, ◌≤◌, ◌==◌, ◌||◌, [], ◌∷◌, ◌++◌, ◌∙◌, if◌then◌else◌, ◌⊎◌}
use Rattle.spi_sequences.specs.Terms
use Terms.{all_of, ap, arith, Bool, cases, Contains, Contains-append_cases, Contains-append_left, Contains-append_right}
use Terms.{Contains-get_or, drop, entries_begun, eq_isnt, false, FitsSpi, get_or-drop, get_or-take, get_or_default}
use Terms.{has_job, inl, inr, is_for, is_left, is_of, is_off, is_on_unit, is_some, is_sync_sequence, is_sync_unit}
use Terms.{IsSoundState, job_at_place, job_number, job_of, jobs_by, jobs_list, jobs_of, length, length-drop}
use Terms.{length-take-le, List, list_any, nat_lt, nat_tests, next_job, None, not, Option, or_else, Pending}
use Terms.{place_before, place_in, refl, same_or_other, same_Some, Sequence, sequence_of, shares_job, slice_get}
use Terms.{slice_index_or, Some, some_or_none, SpiTable, subst, suc, sym, true, unit_by, unit_of_sequence, View}
use Terms.{whether, zero, ℕ}
use Rattle.mcal_base.specs.facts.{Numbers.{lt_is}, Truths.{or_true}}
use Rattle.spi_machine.specs.Wiring as wiring
pub use Rattle.mcal_base.specs.facts.Numbers.{eq_is as is_number, eq_other as other_number, eq_self as same_number}
pub use Rattle.mcal_base.specs.facts.Numbers.{lt_is as is_below, lt_isnt as is_past}

-- ---- tests

pub not_true : (b : Bool) → (b ≡ true → ⊥) → b ≡ false
not_true true h = absurd (h refl)
not_true false h = refl

-- ---- some of a list

-- what is so of an item is so of some
pub any_in : {A : Type 0} (p : A → Bool) (xs : List A) (x : A) → Contains xs x → p x ≡ true → list_any p xs ≡ true
any_in p [] x h e = absurd (let lt = h.1 in omega (arith, lt))
any_in p (y ∷ ys) x (zero, lt, at) e = ap (λ q. q || list_any p ys) (ap p at ∙ e)
any_in p (y ∷ ys) x (suc k, lt, at) e = ap (λ q. p y || q) (any_in p ys x (k, omega (arith, lt), at) e) ∙ or_true (p y)

pub at_contained : {A : Type 0} (xs : List A) (k : ℕ) (x : A) → k < length xs → slice_index_or xs k x ≡ x → slice_get xs k ≡ Some x
at_contained [] k x lt e = absurd (omega (arith, lt))
at_contained (y ∷ ys) zero x lt e = ap (λ z. Some z) e
at_contained (y ∷ ys) (suc k) x lt e = at_contained ys k x (omega (arith, lt)) e

pub any_some : {A : Type 0} (p : A → Bool) (xs : List A) → list_any p xs ≡ true → (x : A) × Contains xs x × (p x ≡ true)
any_some p [] e = absurd (cc)
any_some p (y ∷ ys) e = whether (p y)
    (λ f. (y, (0, omega arith, refl), f))
    (λ f. let r = any_some p ys (ap (λ q. q || list_any p ys) (sym f) ∙ e) in (r.0, (suc r.1.0, let lt = r.1.1 in omega (arith, lt), r.1.2), r.2))

pub any_none : {A : Type 0} (p : A → Bool) (xs : List A) → list_any p xs ≡ false → (x : A) → Contains xs x → p x ≡ false
any_none p xs e x there = not_true (p x) (λ f. let g = sym e ∙ any_in p xs x there f in cc)

pub none_any : {A : Type 0} (p : A → Bool) (xs : List A) → ((x : A) → Contains xs x → p x ≡ false) → list_any p xs ≡ false
none_any p xs h = not_true (list_any p xs) (λ e. let r = any_some p xs e in let f = sym (h r.0 r.1) ∙ r.2 in cc)

-- the unit of a job is one
pub one_unit : (d : SpiTable) (u v j : ℕ) → is_on_unit u (job_of d j) ≡ true → is_on_unit v (job_of d j) ≡ true → u ≡ v
one_unit d u v j e f = some_or_none (job_of d j)
    (λ k i. sym (is_number k.unit u (sym (ap (is_on_unit u) i) ∙ e)) ∙ is_number k.unit v (sym (ap (is_on_unit v) i) ∙ f))
    (λ i. absurd (let g = sym (ap (is_on_unit u) i) ∙ e in cc))

-- what isn't there is none
pub none_by : {A : Type 0} (o : Option A) → not (is_some o) ≡ true → o ≡ None
none_by None e = refl
none_by (Some x) e = absurd (cc)

-- a list that nothing is in is empty
pub nothing_in : {A : Type 0} (xs : List A) → ((x : A) → Contains xs x → ⊥) → xs ≡ []
nothing_in [] never = refl
nothing_in (x ∷ xs) never = absurd (never x (0, omega arith, refl))

-- what is at most a number, and not below it, is that number
pub last_below : (i n : ℕ) → i < n + 1 → nat_lt i n ≡ false → i ≡ n
last_below i n lt e = grind (arith, nat_tests)

-- ---- Jobs by their places in a sequence, and the places that are left of a pending one.

-- ---- what is left of a list

pub left_at : (xs : List ℕ) (n i j : ℕ) → i < length xs → n ≤ i → slice_index_or xs i 0 ≡ j → list_any (λ k. k == j) (drop n xs) ≡ true
left_at xs n i j lt le e =
    let rest = length-drop n xs in
    let back : n + (i - n) ≡ i = omega (arith, le) in
    any_in (λ k. k == j) (drop n xs) j (i - n, omega (arith, rest, lt, le), get_or-drop n xs (i - n) j ∙ ap (λ k. slice_index_or xs k j) back ∙ get_or_default xs i j 0 lt ∙ e) (same_number j)

-- it stands at a place that is left
pub record LeftAt (xs : List ℕ) (n j : ℕ) : Type 0 where
  pub place : ℕ
  pub from : n ≤ place
  pub within : place < length xs
  pub is : slice_index_or xs place 0 ≡ j

pub at_left : (xs : List ℕ) (n j : ℕ) → list_any (λ k. k == j) (drop n xs) ≡ true → LeftAt xs n j
at_left xs n j e =
    let (x, (k, lt, at), is) = any_some (λ k. k == j) (drop n xs) e in
    let rest = length-drop n xs in
    record { place = n + k; from = omega arith; within = omega (arith, rest, lt); is = sym (get_or-drop n xs k 0) ∙ get_or_default (drop n xs) k 0 x lt ∙ at ∙ is_number x j is }

-- ---- places among the jobs of a sequence

found_before : (xs : List ℕ) (j n i : ℕ) → place_before xs j n ≡ Some i → (i < n) × (slice_index_or xs i 0 ≡ j)
found_before xs j zero i e = absurd (cc)
found_before xs j (suc n) i e = whether (slice_index_or xs n 0 == j)
    (λ f.
    let same : n ≡ i = same_Some n i (sym (ap (λ q. if q then Some n else place_before xs j n) f) ∙ e) in
    (omega (arith, same), ap (λ k. slice_index_or xs k 0) (sym same) ∙ is_number (slice_index_or xs n 0) j f))
    (λ f. let r = found_before xs j n i (sym (ap (λ q. if q then Some n else place_before xs j n) f) ∙ e) in let lt = r.0 in (omega (arith, lt), r.1))

missing_before : (xs : List ℕ) (j n i : ℕ) → place_before xs j n ≡ None → i < n → slice_index_or xs i 0 ≢ j
missing_before xs j zero i e lt f = absurd (omega (arith, lt))
missing_before xs j (suc n) i e lt f = whether (slice_index_or xs n 0 == j)
    (λ g. let h = sym (ap (λ q. if q then Some n else place_before xs j n) g) ∙ e in cc)
    (λ g. whether (nat_lt i n)
    (λ u. missing_before xs j n i (sym (ap (λ q. if q then Some n else place_before xs j n) g) ∙ e) (lt_is i n u) f)
    (λ u. eq_isnt (slice_index_or xs n 0) j g (ap (λ k. slice_index_or xs k 0) (sym (last_below i n (omega (arith, lt)) u)) ∙ f)))

module _ (d : SpiTable) (fits : FitsSpi d) (q : ℕ) where
  -- the list that a frame reads has its jobs
  pub record Listed : Type 0 where
    pub count : length (jobs_of d q) ≡ (jobs_list d q).count
    pub at : (i : ℕ) → i < (jobs_list d q).count → slice_index_or (jobs_of d q) i 0 ≡ slice_index_or (jobs_list d q).numbers i 0

  listed_by : (k : Option Sequence) → sequence_of d q ≡ k → (length (jobs_by k) ≡ (wiring.jobs_by k).count) × ((i : ℕ) → i < (wiring.jobs_by k).count → slice_index_or (jobs_by k) i 0 ≡ slice_index_or (wiring.jobs_by k).numbers i 0)
  listed_by None e = (refl, λ i lt. absurd (omega (arith, lt)))
  listed_by (Some k) e =
      let f = fits.sequences q k e in
      let few = f.few in
      let row = f.row in
      (length-take-le k.jobs.count k.jobs.numbers (omega (arith, few, row)), λ i lt. get_or-take k.jobs.count k.jobs.numbers i 0 lt)

  pub listed : Listed
  listed = let l = listed_by (sequence_of d q) refl in record { count = l.0; at = l.1 }

  pub place_found : (j i : ℕ) → place_in (jobs_list d q) j ≡ Some i → (i < length (jobs_of d q)) × (slice_index_or (jobs_of d q) i 0 ≡ j)
  place_found j i e = let r = found_before (jobs_list d q).numbers j (jobs_list d q).count i e in let l = listed in (subst (λ n. i < n) (sym l.count) r.0, l.at i r.0 ∙ r.1)

  pub place_missing : (j i : ℕ) → place_in (jobs_list d q) j ≡ None → i < length (jobs_of d q) → slice_index_or (jobs_of d q) i 0 ≢ j
  place_missing j i e lt f = let l = listed in let less : i < (jobs_list d q).count = subst (λ n. i < n) l.count lt in missing_before (jobs_list d q).numbers j (jobs_list d q).count i e less (sym (l.at i less) ∙ f)

  -- a job has one place
  pub one_place : (i k : ℕ) → i < length (jobs_of d q) → k < length (jobs_of d q) → slice_index_or (jobs_of d q) i 0 ≡ slice_index_or (jobs_of d q) k 0 → i ≡ k
  one_place i k lt less e = some_or_none (sequence_of d q)
      (λ x f. (fits.sequences q x f).once i k (slice_index_or (jobs_of d q) i 0) (get_at i lt) (get_at k less ∙ ap (λ n. Some n) (sym e)))
      (λ f. absurd (let none : length (jobs_of d q) ≡ 0 = ap (λ o. length (jobs_by o)) f in omega (arith, lt, none)))
    where
      get_at : (n : ℕ) → n < length (jobs_of d q) → slice_get (jobs_of d q) n ≡ Some (slice_index_or (jobs_of d q) n 0)
      get_at n few = at_contained (jobs_of d q) n (slice_index_or (jobs_of d q) n 0) few (get_or_default (jobs_of d q) n (slice_index_or (jobs_of d q) n 0) 0 few)

  -- ---- the unit

  pub number_there : (i : ℕ) → job_number (jobs_list d q) i ≡ slice_get (jobs_of d q) i
  number_there i =
      elim (sequence_of d q) as (λ o. job_number (wiring.jobs_by o) i ≡ slice_get (jobs_by o) i)
      [ None ↦ refl | Some k ↦ refl ]

  -- the job at a place
  pub job_place : (i : ℕ) → i < length (jobs_of d q) → job_at_place d q i ≡ slice_index_or (jobs_of d q) i 0
  job_place i lt = ap (or_else 0) (number_there i ∙ at_contained (jobs_of d q) i (slice_index_or (jobs_of d q) i 0) lt (get_or_default (jobs_of d q) i (slice_index_or (jobs_of d q) i 0) 0 lt))

  pub unit_few : unit_of_sequence d q < 2
  unit_few = elim (job_of d (job_at_place d q 0)) as (λ o. unit_by o < 2) [ None ↦ omega arith | Some k ↦ omega arith ]

  -- its jobs are for its unit
  pub job_unit : (i : ℕ) → i < length (jobs_of d q) → is_on_unit (unit_of_sequence d q) (job_of d (slice_index_or (jobs_of d q) i 0)) ≡ true
  job_unit i lt = some_or_none (sequence_of d q)
      (λ k e.
      let f = fits.sequences q k e in
      let first = Contains-get_or (jobs_of d q) 0 0 (omega (arith, lt)) in
      let own = Contains-get_or (jobs_of d q) i 0 lt in
      let a = f.there (slice_index_or (jobs_of d q) 0 0) first in
      let b = f.there (slice_index_or (jobs_of d q) i 0) own in
      let same = f.unit (slice_index_or (jobs_of d q) 0 0) (slice_index_or (jobs_of d q) i 0) a.1 b.1 first own a.2 b.2 in
      let small = (fits.jobs (slice_index_or (jobs_of d q) 0 0) a.1 a.2).unit in
      let unit : unit_of_sequence d q ≡ a.1.unit = ap (λ j. unit_by (job_of d j)) (job_place 0 (omega (arith, lt))) ∙ ap unit_by a.2 ∙ omega (arith, small) in
      ap (is_on_unit (unit_of_sequence d q)) b.2 ∙ ap (λ n. b.1.unit == n) (unit ∙ same) ∙ same_number b.1.unit)
      (λ e. absurd (let none : length (jobs_of d q) ≡ 0 = ap (λ o. length (jobs_by o)) e in omega (arith, lt, none)))

-- ---- the jobs that are left of a pending sequence: its next one, and those behind it

module _ (d : SpiTable) (fits : FitsSpi d) (p : Pending) (within : p.next < length (jobs_of d p.sequence)) where
  abbrev pub is_behind : ℕ → Bool
  is_behind j = list_any (λ k. k == j) (drop (p.next + 1) (jobs_of d p.sequence))

  pub next_left : is_left d (next_job d p) p ≡ true
  next_left = left_at (jobs_of d p.sequence) p.next p.next (next_job d p) within (omega arith) refl

  pub next_ahead : is_behind (next_job d p) ≡ false
  next_ahead = not_true (is_behind (next_job d p)) (λ e.
      let a = at_left (jobs_of d p.sequence) (p.next + 1) (next_job d p) e in
      let same = one_place d fits p.sequence a.place p.next a.within within a.is in
      let from = a.from in
      omega (arith, same, from))

  pub is_next : (j : ℕ) → is_left d j p ≡ true → is_behind j ≡ false → j ≡ next_job d p
  is_next j left none =
      let a : LeftAt (jobs_of d p.sequence) p.next j = at_left (jobs_of d p.sequence) p.next j left in
      cases (same_or_other a.place p.next)
      (λ e. sym a.is ∙ ap (λ n. slice_index_or (jobs_of d p.sequence) n 0) e)
      (λ ne. absurd (let from = a.from in let past : p.next + 1 ≤ a.place = omega (arith, from, ne) in let f = sym none ∙ left_at (jobs_of d p.sequence) (p.next + 1) a.place j a.within past a.is in cc))

-- ---- All sequences under way: those that are pending, and those that units carry out for calls.

-- ---- which they are

module _ (v : View) where
  abbrev others : List Pending
  others = entries_begun (v.begun 0) ++ entries_begun (v.begun 1)

  pub all_pending : (p : Pending) → Contains v.pending p → Contains (all_of v) p
  all_pending p there = Contains-append_left v.pending others p there

  one_begun : (o : Option Pending) (p : Pending) → o ≡ Some p → Contains (entries_begun o) p
  one_begun o p e = subst (λ x. Contains (entries_begun x) p) (sym e) (0, omega arith, refl)

  pub all_carried : (u : ℕ) (p : Pending) → u < 2 → v.begun u ≡ Some p → Contains (all_of v) p
  all_carried zero p lt e = Contains-append_right v.pending others p (Contains-append_left (entries_begun (v.begun 0)) (entries_begun (v.begun 1)) p (one_begun (v.begun 0) p e))
  all_carried (suc zero) p lt e = Contains-append_right v.pending others p (Contains-append_right (entries_begun (v.begun 0)) (entries_begun (v.begun 1)) p (one_begun (v.begun 1) p e))
  all_carried (suc (suc u)) p lt e = absurd (omega (arith, lt))

  pub all_cases : (p : Pending) → Contains (all_of v) p → Contains v.pending p ⊎ ((u : ℕ) × (v.begun u ≡ Some p))
  all_cases p there = cases (Contains-append_cases v.pending others p there)
      (λ is. inl is)
      (λ is. inr (cases (Contains-append_cases (entries_begun (v.begun 0)) (entries_begun (v.begun 1)) p is)
      (λ is. one 0 (v.begun 0) refl is)
      (λ is. one 1 (v.begun 1) refl is)))
    where
      one : (u : ℕ) (o : Option Pending) → v.begun u ≡ o → Contains (entries_begun o) p → (u : ℕ) × (v.begun u ≡ Some p)
      one u None e (k, lt, at) = absurd (omega (arith, lt))
      one u (Some x) e (zero, lt, at) = (u, e ∙ ap (λ z. Some z) at)
      one u (Some x) e (suc k, lt, at) = absurd (omega (arith, lt))

  -- what is so of none of them
  pub any_all : (f : Pending → Bool) → list_any f v.pending ≡ false → ((u : ℕ) (p : Pending) → v.begun u ≡ Some p → f p ≡ false) → list_any f (all_of v) ≡ false
  any_all f none begun = none_any f (all_of v) (λ p there. cases (all_cases p there)
      (λ is. any_none f v.pending none p is)
      (λ (u, e). begun u p e))

-- an uninitialised module has none
pub none_under_way : (d : SpiTable) (v : View) → IsSoundState d v → is_off v.mode ≡ true → (p : Pending) → Contains (all_of v) p → ⊥
none_under_way d v h off p there = cases (all_cases v p there)
    (λ is. let none = subst (λ ps. Contains ps p) (h.off off).0 is in let lt = none.1 in omega (arith, lt))
    (λ (u, e). let f = sym e ∙ h.carries.off off u in cc)

-- no unit carries out this sequence
abbrev pub IsAside : (sequence : ℕ) → View → Type 0
IsAside q v = (u : ℕ) (p : Pending) → v.begun u ≡ Some p → (u < 2) × (is_of q p ≡ false)

-- as none does of one whose unit starts jobs of pending sequences
pub aside : (d : SpiTable) (v : View) → IsSoundState d v → (q : ℕ) → is_sync_sequence d q ≡ false → IsAside q v
aside d v h q async u p begun =
    let r = h.carries.unit u p begun in
    (r.0, other_number p.sequence q (λ same. let f = sym async ∙ ap (is_sync_sequence d) (sym same) ∙ ap (is_sync_unit d) r.2 ∙ r.1 in cc))

pub aside_pending : (d : SpiTable) (v : View) → IsSoundState d v → (p : Pending) → Contains v.pending p → IsAside p.sequence v
aside_pending d v h p there = aside d v h p.sequence (h.carries.asked p there)

-- a job of a sequence is on the sequence's unit
pub job_on : (d : SpiTable) → FitsSpi d → (q j : ℕ) → Contains (jobs_of d q) j → is_on_unit (unit_of_sequence d q) (job_of d j) ≡ true
job_on d fits q j (i, lt, at) = subst (λ n. is_on_unit (unit_of_sequence d q) (job_of d n) ≡ true) (get_or_default (jobs_of d q) i 0 j lt ∙ at) (job_unit d fits q i lt)

-- and two sequences that share a job have one unit
pub shares_unit : (d : SpiTable) → FitsSpi d → (p q : ℕ) → shares_job d p q ≡ true → unit_of_sequence d p ≡ unit_of_sequence d q
shares_unit d fits p q e =
    let (j, there, has) = any_some (has_job d p) (jobs_of d q) e in
    let (k, also, same) = any_some (λ k. k == j) (jobs_of d p) has in
    one_unit d (unit_of_sequence d p) (unit_of_sequence d q) j (subst (λ n. is_on_unit (unit_of_sequence d p) (job_of d n) ≡ true) (is_number k j same) (job_on d fits p k also)) (job_on d fits q j there)

-- ---- each is of one unit

module _ (d : SpiTable) (fits : FitsSpi d) (v : View) (h : IsSoundState d v) where
  pub entry_unit : (p : Pending) → Contains (all_of v) p → is_for d (unit_of_sequence d p.sequence) p ≡ true
  entry_unit p there = job_unit d fits p.sequence p.next (h.entries p there).next

  pub for_unit : (u : ℕ) (p : Pending) → Contains (all_of v) p → is_for d u p ≡ true → unit_of_sequence d p.sequence ≡ u
  for_unit u p there e = one_unit d (unit_of_sequence d p.sequence) u (next_job d p) (entry_unit p there) e

  -- the unit of a pending one starts jobs of pending ones
  pub asked_unit : (u : ℕ) (p : Pending) → Contains v.pending p → is_for d u p ≡ true → is_sync_unit d u ≡ false
  asked_unit u p there e = subst (λ n. is_sync_unit d n ≡ false) (for_unit u p (all_pending v p there) e) (h.carries.asked p there)

  -- two that share a job are one
  pub one_of_all : (p q : Pending) → Contains (all_of v) p → Contains (all_of v) q → shares_job d p.sequence q.sequence ≡ true → shares_job d q.sequence p.sequence ≡ true → p ≡ q
  one_of_all p q there also share back = same_entry (all_cases v p there) (all_cases v q also)
    where
      unit : unit_of_sequence d p.sequence ≡ unit_of_sequence d q.sequence
      unit = shares_unit d fits p.sequence q.sequence share

      both : Contains v.pending p → Contains v.pending q → p ≡ q
      both (i, lt, e) (j, less, f) =
          let at = at_contained v.pending i p lt e in
          let bt = at_contained v.pending j q less f in
          whether (nat_lt i j)
          (λ x. absurd (let g = sym share ∙ (h.apart i j p q (is_below i j x) at bt).1 in cc))
          (λ x. whether (nat_lt j i)
          (λ y. absurd (let g = sym back ∙ (h.apart j i q p (is_below j i y) bt at).1 in cc))
          (λ y. let le = is_past i j x in let ge = is_past j i y in let same : i ≡ j = omega (arith, le, ge) in same_Some p q (sym at ∙ ap (slice_get v.pending) same ∙ bt)))

      -- one that is pending and one that a unit carries out have other units
      unlike : (a b : Pending) (u : ℕ) → Contains v.pending a → v.begun u ≡ Some b → unit_of_sequence d a.sequence ≡ unit_of_sequence d b.sequence → p ≡ q
      unlike a b u is e same = absurd (let r = h.carries.unit u b e in let f = sym (h.carries.asked a is) ∙ ap (is_sync_unit d) (same ∙ r.2) ∙ r.1 in cc)

      same_entry : Contains v.pending p ⊎ ((u : ℕ) × (v.begun u ≡ Some p)) → Contains v.pending q ⊎ ((u : ℕ) × (v.begun u ≡ Some q)) → p ≡ q
      same_entry (inl a) (inl b) = both a b
      same_entry (inl a) (inr (u, e)) = unlike p q u a e unit
      same_entry (inr (u, e)) (inl b) = unlike q p u b e (sym unit)
      same_entry (inr (u, e)) (inr (n, f)) = same_Some p q (sym e ∙ ap v.begun (sym (h.carries.unit u p e).2 ∙ unit ∙ (h.carries.unit n q f).2) ∙ f)
