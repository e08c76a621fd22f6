-- What the PLL and the rate are after a history.
use Rattle.std.proofs.Common.{◌≡◌, ℕ, ◌+◌, ◌-◌, ◌≢◌, false, ◌==◌, nat_le, List, [], ◌∷◌, refl, ◌∙◌, ap, arith, Some, None}
use Rattle.std.specs.List.{AllByRecursion}
use Rattle.std.proofs.lemmas.Bool.Decides.{nat_tests}
use Rattle.mcal_base.specs.declared.register.Reg.TheVariants.{ClockPll, ClockRate}
use Rattle.chip_blocks.specs.units.Clock.{Clock, is_locked_at, is_locked, multiplied, started, after_write}
use Rattle.chip_blocks.specs.units.ClockAccesses.{Access, after, after_all, LeavesPll, LeavesRate}
use Rattle.chip_blocks.specs.units.ClockAccesses as accesses

ignored : (c : Clock) (value : ℕ) → value ≡ 0 → started c value ≡ c
ignored c value e = rw e refl

pub pll-left : (c : Clock) (x : Access) → LeavesPll x → (after c x).pll ≡ c.pll
pll-left c (accesses.Writes ClockPll value) left = ap (λ (d : Clock). d.pll) (ignored c value left)
pll-left c (accesses.Writes ClockRate value) left = refl
pll-left c (accesses.Writes _ value) left = refl
pll-left c (accesses.Passes n) left = refl

pub pll-left_all : (c : Clock) (xs : List Access) → AllByRecursion LeavesPll xs → (after_all c xs).pll ≡ c.pll
pll-left_all c [] left = refl
pll-left_all c (x ∷ xs) left = pll-left_all (after c x) xs left.1 ∙ pll-left c x left.0

pub rate-left : (c : Clock) (x : Access) → LeavesRate x → (after c x).rate ≡ c.rate
rate-left c (accesses.Writes ClockPll value) left = ap (λ (d : Clock). d.rate) (ignored c value left)
rate-left c (accesses.Writes ClockRate value) left = absurd left
rate-left c (accesses.Writes _ value) left = refl
rate-left c (accesses.Passes n) left = refl

pub rate-left_all : (c : Clock) (xs : List Access) → AllByRecursion LeavesRate xs → (after_all c xs).rate ≡ c.rate
rate-left_all c [] left = refl
rate-left_all c (x ∷ xs) left = rate-left_all (after c x) xs left.1 ∙ rate-left c x left.0

some_value : (value : ℕ) → value ≢ 0 → (value == 0) ≡ false
some_value value ne = grind (arith, nat_tests)

hundred_since : (start t : ℕ) → nat_le 100 (t - start) ≡ nat_le (start + 100) t
hundred_since start t = grind (arith, nat_tests)

-- the PLL that a multiplier starts
pub pll-started : (c : Clock) (value : ℕ) → value ≢ 0 → (after_write c ClockPll value).pll ≡ Some (record { multiplier = value; started = c.osc })
pll-started c value ne = rw (some_value value ne) refl

pub locked-since_start : (c : Clock) (value : ℕ) (xs : List Access) → value ≢ 0 → AllByRecursion LeavesPll xs
    → is_locked (after_all (after_write c ClockPll value) xs) ≡ nat_le (c.osc + 100) (after_all (after_write c ClockPll value) xs).osc
locked-since_start c value xs ne left =
    let c1 : Clock = after_write c ClockPll value in
    let t : ℕ = (after_all c1 xs).osc in
    ap (λ p. is_locked_at p t) (pll-left_all c1 xs left ∙ pll-started c value ne) ∙ hundred_since c.osc t

pub rate-at_start : (c : Clock) (value : ℕ) (xs : List Access) → value ≢ 0 → AllByRecursion LeavesRate xs
    → (after_all (after_write c ClockPll value) xs).rate ≡ 1
rate-at_start c value xs ne left =
    rate-left_all (after_write c ClockPll value) xs left ∙ rw (some_value value ne) refl

pub rate-taken : (c : Clock) (value : ℕ) (before xs : List Access) → value ≢ 0 → AllByRecursion LeavesPll before → AllByRecursion LeavesRate xs
    → (after_all (after_write (after_all (after_write c ClockPll value) before) ClockRate 1) xs).rate ≡ value
rate-taken c value before xs ne left left' =
    let c1 : Clock = after_write c ClockPll value in
    let d : Clock = after_all c1 before in
    rate-left_all (after_write d ClockRate 1) xs left' ∙ ap (λ p. multiplied p d.rate) (pll-left_all c1 before left ∙ pll-started c value ne)

pub rate-without_multiplier : (c : Clock) → c.pll ≡ None → after_write c ClockRate 1 ≡ c
rate-without_multiplier c none = ap (λ p. record c { rate = multiplied p c.rate }) none
