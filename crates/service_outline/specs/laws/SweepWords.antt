-- What a sweep keeps, and what a move at one of many objects leaves of the others.
-- From Words.
-- Used by gpt_driver: Parts, gpt_driver: Switch, gpt_driver: Base, SweepRight.
use Rattle.std.proofs.Common.{◌≡◌, ℕ, ◌+◌, ◌<◌, ◌≤◌, ◌≢◌, ◌==◌, nat_lt, Bool, true, false, length, refl, sym, ◌∙◌, ap, subst, arith}
use Rattle.std.specs.Prelude.{if◌then◌else◌}
use Rattle.std.proofs.lemmas.Bool.Decides.{nat_tests}
use Rattle.mcal_base.specs.facts.Truths.{if_false, if_true}
use Rattle.mcal_base.specs.facts.Numbers.{eq_is, eq_isnt}
use Rattle.chip_model.specs.Chip.{Chip, chip_after, word_of}
use Rattle.mcal_base.specs.declared.TheConstants.{WORDS}
use Rattle.mcal_base.specs.declared.moves.Move.TheVariants.{Store}
use Rattle.service_outline.specs.Sweep.{next_of, swept}
use Rattle.service_outline.specs.laws.Words.{stored_same, stored_other}

-- ---- one of many

-- a fact about one object, and one about each other one
pub each_but : (P : ℕ → Type 0) (c : ℕ) → P c → (k : ℕ) → (k ≢ c → P k) → P k
each_but P c here k others = by (k == c) refl
  where
    by : (q : Bool) → (k == c) ≡ q → P k
    by true e = subst (λ i. P i) (sym (eq_is k c e)) here
    by false e = others (eq_isnt k c e)

-- ---- the next object

pub next_by : {P : Type 0} (Q : P → Type 0) (count : ℕ) (at : ℕ → P) (after : P) (i : ℕ) → i ≤ count → (i < count → Q (at i)) → (i ≡ count → Q after) → Q (next_of count at after i)
next_by Q count at after i le more last = by (nat_lt i count) refl
  where
    by : (q : Bool) → nat_lt i count ≡ q → Q (if q then at i else after)
    by true e = more (grind (arith, nat_tests))
    by false e = last (grind (arith, nat_tests))

-- ---- what was swept

pub swept_new : {A : Type 0} (i : ℕ) (new old : ℕ → A) (k : ℕ) → k < i → swept i new old k ≡ new k
swept_new i new old k lt = if_true (nat_lt k i) (new k) (old k) (grind (arith, nat_tests))

pub swept_old : {A : Type 0} (i : ℕ) (new old : ℕ → A) (k : ℕ) → i ≤ k → swept i new old k ≡ old k
swept_old i new old k le = if_false (nat_lt k i) (new k) (old k) (grind (arith, nat_tests))

pub swept_other : {A : Type 0} (i : ℕ) (new old : ℕ → A) (k : ℕ) → k ≢ i → swept (i + 1) new old k ≡ swept i new old k
swept_other i new old k ne = ap (λ q. if q then new k else old k) same
  where
    same : nat_lt k (i + 1) ≡ nat_lt k i
    same = grind (arith, nat_tests)

-- words from this one on hold these
abbrev pub WordsAre : (at count : ℕ) → (ℕ → ℕ) → Chip → Type 0
WordsAre at count want chip = (k : ℕ) → k < count → word_of chip (at + k) ≡ want k

-- a word of them is stored, and they are swept one further
pub swept_store : (at count : ℕ) (new old : ℕ → ℕ) (chip : Chip) (i v received : ℕ) → i < count → at + count ≤ WORDS → length chip.words ≡ WORDS → v ≡ new i → WordsAre at count (swept i new old) chip → WordsAre at count (swept (i + 1) new old) (chip_after chip (Store (at + i) v) received)
swept_store at count new old chip i v received lt fits size is h k below = each_but (λ k. k < count → word_of (chip_after chip (Store (at + i) v) received) (at + k) ≡ swept (i + 1) new old k) i here k others below
  where
    here : i < count → word_of (chip_after chip (Store (at + i) v) received) (at + i) ≡ swept (i + 1) new old i
    here lt = stored_same chip (at + i) v received (omega (arith, lt, fits)) size ∙ (is ∙ sym (swept_new (i + 1) new old i (omega arith)))

    others : k ≢ i → k < count → word_of (chip_after chip (Store (at + i) v) received) (at + k) ≡ swept (i + 1) new old k
    others ne lt = stored_other chip (at + i) v received (at + k) (λ e. ne (omega (arith, e))) ∙ (h k lt ∙ sym (swept_other i new old k ne))
