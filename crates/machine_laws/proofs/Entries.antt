-- The entry of a sequence in the pending list.
use Rattle.std.proofs.Common.{◌≡◌, ◌≢◌, ℕ, Bool, true, false, not, cond, ◌==◌, List, [], ◌∷◌, ◌++◌, Option, Some, None, refl, sym, ◌∙◌, ap}
use Rattle.std.specs.Prelude.{find}
use Rattle.mcal_base.specs.facts.Numbers.{eq_is, eq_other, eq_self}
use Rattle.spi_machine.specs.Pending.{Pending, is_of, changed, without}

-- ---- a change

kept_number : (f : Pending → Pending) → ((p : Pending) → (f p).sequence ≡ p.sequence) → (b : Bool) (p : Pending) → (cond b (f p) p).sequence ≡ p.sequence
kept_number f e true p = e p
kept_number f e false p = refl

pub find-changed_own : (q : ℕ) (f : Pending → Pending) → ((p : Pending) → (f p).sequence ≡ p.sequence) → (ps : List Pending) (p : Pending) → find (is_of q) ps ≡ Some p
    → find (is_of q) (changed q f ps) ≡ Some (f p)
find-changed_own q f e [] p h = absurd (cc h)
find-changed_own q f e (x ∷ ps) p h = by (x.sequence == q) refl h (λ g. find-changed_own q f e ps p g) where
  by : (b : Bool) → (x.sequence == q) ≡ b → cond b (Some x) (find (is_of q) ps) ≡ Some p → (find (is_of q) ps ≡ Some p → find (is_of q) (changed q f ps) ≡ Some (f p))
      → cond ((cond b (f x) x).sequence == q) (Some (cond b (f x) x)) (find (is_of q) (changed q f ps)) ≡ Some (f p)
  by true is h more =
      let same : x ≡ p = cc h in
      ap (λ (n : ℕ). cond (n == q) (Some (f x)) (find (is_of q) (changed q f ps))) (e x ∙ eq_is x.sequence q is)
      ∙ (ap (λ b. cond b (Some (f x)) (find (is_of q) (changed q f ps))) (eq_self q) ∙ ap (λ (y : Pending). Some (f y)) same)
  by false is h more = ap (λ b. cond b (Some x) (find (is_of q) (changed q f ps))) is ∙ more h

pub find-changed_other : (q k : ℕ) (f : Pending → Pending) → ((p : Pending) → (f p).sequence ≡ p.sequence) → q ≢ k → (ps : List Pending) → find (is_of q) (changed k f ps) ≡ find (is_of q) ps
find-changed_other q k f e ne [] = refl
find-changed_other q k f e ne (x ∷ ps) =
    by (x.sequence == k) refl ∙ ap (λ o. cond (x.sequence == q) (Some x) o) (find-changed_other q k f e ne ps)
  where
    rest : Option Pending
    rest = find (is_of q) (changed k f ps)

    by : (b : Bool) → (x.sequence == k) ≡ b → cond ((cond b (f x) x).sequence == q) (Some (cond b (f x) x)) rest ≡ cond (x.sequence == q) (Some x) rest
    by true is =
        let other : (x.sequence == q) ≡ false = ap (λ n. n == q) (eq_is x.sequence k is) ∙ eq_other k q (λ at. ne (sym at)) in
        ap (λ (n : ℕ). cond (n == q) (Some (f x)) rest) (e x)
        ∙ (ap (λ b. cond b (Some (f x)) rest) other ∙ sym (ap (λ b. cond b (Some x) rest) other))
    by false is = refl

-- ---- a sequence that is taken out

pub find-without_own : (q : ℕ) (ps : List Pending) → find (is_of q) (without q ps) ≡ None
find-without_own q [] = refl
find-without_own q (x ∷ ps) = by (x.sequence == q) refl (find-without_own q ps) where
  by : (b : Bool) → (x.sequence == q) ≡ b → find (is_of q) (without q ps) ≡ None → find (is_of q) (cond (not b) (x ∷ without q ps) (without q ps)) ≡ None
  by true is more = more
  by false is more = ap (λ b. cond b (Some x) (find (is_of q) (without q ps))) is ∙ more

pub find-without_other : (q k : ℕ) → q ≢ k → (ps : List Pending) → find (is_of q) (without k ps) ≡ find (is_of q) ps
find-without_other q k ne [] = refl
find-without_other q k ne (x ∷ ps) = by (x.sequence == k) refl (find-without_other q k ne ps) where
  by : (b : Bool) → (x.sequence == k) ≡ b → find (is_of q) (without k ps) ≡ find (is_of q) ps
      → find (is_of q) (cond (not b) (x ∷ without k ps) (without k ps)) ≡ cond (x.sequence == q) (Some x) (find (is_of q) ps)
  by true is more =
      let other : (x.sequence == q) ≡ false = ap (λ n. n == q) (eq_is x.sequence k is) ∙ eq_other k q (λ at. ne (sym at)) in
      more ∙ sym (ap (λ b. cond b (Some x) (find (is_of q) ps)) other)
  by false is more = ap (λ o. cond (x.sequence == q) (Some x) o) more

-- ---- a sequence behind them

pub find-joined : (q : ℕ) (ps xs : List Pending) (p : Pending) → find (is_of q) ps ≡ Some p → find (is_of q) (ps ++ xs) ≡ Some p
find-joined q [] xs p h = absurd (cc h)
find-joined q (x ∷ ps) xs p h = by (x.sequence == q) refl h (λ g. find-joined q ps xs p g) where
  by : (b : Bool) → (x.sequence == q) ≡ b → cond b (Some x) (find (is_of q) ps) ≡ Some p → (find (is_of q) ps ≡ Some p → find (is_of q) (ps ++ xs) ≡ Some p)
      → cond b (Some x) (find (is_of q) (ps ++ xs)) ≡ Some p
  by true is h more = h
  by false is h more = more h
