-- The pending sequences: how the list changes, place by place.
use Rattle.std.proofs.Common.{◌≡◌, ℕ, zero, suc, ◌+◌, ◌<◌, ◌≤◌, Bool, true, false, cond, not, List, [], ◌∷◌, ◌++◌, length, sym, ap, ◌∙◌, arith, append-nil, append_assoc, drop, filter, get_or, map, Option, Some, take}
use Rattle.std.proofs.lemmas.List.{drop_all, drop_at, drop_more, length-take-le, take_all, take_at, take_more}
use Rattle.std.specs.List.{AllByRecursion}
use Rattle.std.specs.Prelude.{option_map}
use Rattle.spi_machine.specs.Pending.{Pending, best, better, changed, is_for, is_of, next_on, without}
use Rattle.spi_machine.specs.declared.table.SpiTable.{SpiTable}
use Rattle.audit_serial.specs.Queued.{IsWithin, change_as}
use Rattle.audit_serial.specs.Words.{pending_as}
use Rattle.audit_serial.specs.declared.pending.Pending as code
use Rattle.audit_serial.specs.declared.queue.Change.{Change}
use Rattle.audit_serial.specs.declared.queue.Change.TheVariants.{Starts, Cancels, GoesOn}

-- ---- the places of jobs are within the changes

pub within_at : {A : Type 0} (P : A → Type 0) (xs : List A) (k : ℕ) (d : A) → k < length xs → AllByRecursion P xs → P (get_or xs k d)
within_at P [] k d lt h = absurd (omega (arith, lt))
within_at P (x ∷ xs) zero d lt h = h.0
within_at P (x ∷ xs) (suc k) d lt h = within_at P xs k d (omega (arith, lt)) h.1

one_within : (events q : ℕ) (by : Change) (p : Pending) (here : Bool) → p.next ≤ events → (cond here (change_as by p) p).next ≤ events + 1
one_within e q Starts p true le = omega (arith, le)
one_within e q Cancels p true le = omega (arith, le)
one_within e q GoesOn p true le = omega (arith, le)
one_within e q by p false le = omega (arith, le)

pub within_changed : (events q : ℕ) (by : Change) (ps : List Pending) → AllByRecursion (IsWithin events) ps → AllByRecursion (IsWithin (events + 1)) (changed q (change_as by) ps)
within_changed e q by [] h = tt
within_changed e q by (p ∷ ps) h = (one_within e q by p (is_of q p) h.0, within_changed e q by ps h.1)

within_or : (events : ℕ) (p : Pending) (ps : List Pending) (b : Bool) → p.next ≤ events → AllByRecursion (IsWithin events) ps → AllByRecursion (IsWithin events) (cond b (p ∷ ps) ps)
within_or e p ps true le h = (le, h)
within_or e p ps false le h = h

pub within_removed : (events q : ℕ) (ps : List Pending) → AllByRecursion (IsWithin events) ps → AllByRecursion (IsWithin events) (without q ps)
within_removed e q [] h = tt
within_removed e q (p ∷ ps) h = within_or e p (without q ps) (not (is_of q p)) h.0 (within_removed e q ps h.1)

pub within_pushed : (events : ℕ) (ps : List Pending) (p : Pending) → p.next ≡ 0 → AllByRecursion (IsWithin events) ps → AllByRecursion (IsWithin (events + 1)) (ps ++ p ∷ [])
within_pushed e [] p new h = (omega (arith, new), tt)
within_pushed e (x ∷ xs) p new h = let le : x.next ≤ e = h.0 in (omega (arith, le), within_pushed e xs p new h.1)

-- ---- some are left out, one after another

pub one_left_out : {A : Type 0} (f : A → Bool) (k : ℕ) (xs ys : List A) (d : A) → k < length xs → f (get_or xs k d) ≡ false → ys ≡ take k xs ++ drop (k + 1) xs
    → take k ys ++ filter f (drop k ys) ≡ take k xs ++ filter f (drop k xs)
one_left_out f k xs ys d lt isnt e =
    let size : length (take k xs) ≡ k = length-take-le k xs (omega (arith, lt)) in
    ap (λ zs. take k zs ++ filter f (drop k zs)) e
    ∙ (ap (λ zs. zs ++ filter f (drop k (take k xs ++ drop (k + 1) xs))) (take_at (take k xs) (drop (k + 1) xs) k size)
    ∙ (ap (λ zs. take k xs ++ filter f zs) (drop_at (take k xs) (drop (k + 1) xs) k size)
    ∙ sym (ap (λ zs. take k xs ++ filter f zs) (drop_more xs k d lt) ∙ ap (λ b. take k xs ++ cond b (get_or xs k d ∷ filter f (drop (k + 1) xs)) (filter f (drop (k + 1) xs))) isnt)))

pub one_left_in : {A : Type 0} (f : A → Bool) (k : ℕ) (xs : List A) (d : A) → k < length xs → f (get_or xs k d) ≡ true
    → take (k + 1) xs ++ filter f (drop (k + 1) xs) ≡ take k xs ++ filter f (drop k xs)
one_left_in f k xs d lt is =
    ap (λ zs. zs ++ filter f (drop (k + 1) xs)) (take_more xs k d lt)
    ∙ (append_assoc (take k xs) (get_or xs k d ∷ []) (filter f (drop (k + 1) xs))
    ∙ sym (ap (λ zs. take k xs ++ filter f zs) (drop_more xs k d lt) ∙ ap (λ b. take k xs ++ cond b (get_or xs k d ∷ filter f (drop (k + 1) xs)) (filter f (drop (k + 1) xs))) is))

pub all_looked_at : {A : Type 0} (f : A → Bool) (k : ℕ) (xs : List A) → length xs ≤ k → take k xs ++ filter f (drop k xs) ≡ xs
all_looked_at f k xs le = ap (λ zs. take k xs ++ filter f zs) (drop_all k xs le) ∙ (append-nil (take k xs) ∙ take_all k xs le)

-- ---- the best of them, from the last one on

best_here : (d : SpiTable) (u : ℕ) (p : Pending) (ps : List Pending) → is_for d u p ≡ true → next_on d u (p ∷ ps) ≡ Some (better d p (next_on d u ps))
best_here d u p ps is = ap (λ b. best d (cond b (p ∷ filter (is_for d u) ps) (filter (is_for d u) ps))) is

best_further : (d : SpiTable) (u : ℕ) (p : Pending) (ps : List Pending) → is_for d u p ≡ false → next_on d u (p ∷ ps) ≡ next_on d u ps
best_further d u p ps isnt = ap (λ b. best d (cond b (p ∷ filter (is_for d u) ps) (filter (is_for d u) ps))) isnt

module _ (d : SpiTable) (u : ℕ) (es : List code.Pending) (k n : ℕ) (x : code.Pending) (found : Option code.Pending) where
  from_here : k + 1 ≡ n → n ≤ length es → drop k es ≡ get_or es k x ∷ drop n es
  from_here e le = drop_more es k x (omega (arith, e, le)) ∙ ap (λ m. get_or es k x ∷ drop m es) e

  pub best_next : k + 1 ≡ n → n ≤ length es → option_map pending_as found ≡ next_on d u (map pending_as (drop n es)) → is_for d u (pending_as (get_or es k x)) ≡ true
      → (new : code.Pending) → pending_as new ≡ better d (pending_as (get_or es k x)) (option_map pending_as found) → Some (pending_as new) ≡ next_on d u (map pending_as (drop k es))
  best_next e le had is new by =
      ap (λ p. Some p) (by ∙ ap (better d (pending_as (get_or es k x))) had)
      ∙ (sym (best_here d u (pending_as (get_or es k x)) (map pending_as (drop n es)) is) ∙ sym (ap (λ ps. next_on d u (map pending_as ps)) (from_here e le)))

  pub best_same : k + 1 ≡ n → n ≤ length es → option_map pending_as found ≡ next_on d u (map pending_as (drop n es)) → is_for d u (pending_as (get_or es k x)) ≡ false
      → option_map pending_as found ≡ next_on d u (map pending_as (drop k es))
  best_same e le had isnt =
      had ∙ (sym (best_further d u (pending_as (get_or es k x)) (map pending_as (drop n es)) isnt) ∙ sym (ap (λ ps. next_on d u (map pending_as ps)) (from_here e le)))
