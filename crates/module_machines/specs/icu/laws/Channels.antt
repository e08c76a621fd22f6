-- The channels of a state, by number.
-- Used by audit_captures: proofs/ModuleLaws, icu_driver: DeInit, icu_driver: Steady, icu_driver: Init and 24 more.
use Rattle.std.proofs.Common.{◌≡◌, ℕ, zero, suc, ◌<◌, Bool, true, false, refl, arith, ◌≢◌, ◌==◌, ◌∙◌, ap}
use Rattle.std.specs.Prelude.{if◌then◌else◌, slice_index_or}
use Rattle.mcal_base.specs.facts.Numbers.{eq_other, eq_self}
use Rattle.module_machines.specs.icu.Machine.{Capture, by_channel, untouched, capture_at, IcuState, with_capture}

-- a fact about each of the eight channels
pub by_eight : (P : ℕ → Type 0) → P 0 → P 1 → P 2 → P 3 → P 4 → P 5 → P 6 → P 7 → (c : ℕ) → c < 8 → P c
by_eight P p0 p1 p2 p3 p4 p5 p6 p7 zero lt = p0
by_eight P p0 p1 p2 p3 p4 p5 p6 p7 (suc zero) lt = p1
by_eight P p0 p1 p2 p3 p4 p5 p6 p7 (suc (suc zero)) lt = p2
by_eight P p0 p1 p2 p3 p4 p5 p6 p7 (suc (suc (suc zero))) lt = p3
by_eight P p0 p1 p2 p3 p4 p5 p6 p7 (suc (suc (suc (suc zero)))) lt = p4
by_eight P p0 p1 p2 p3 p4 p5 p6 p7 (suc (suc (suc (suc (suc zero))))) lt = p5
by_eight P p0 p1 p2 p3 p4 p5 p6 p7 (suc (suc (suc (suc (suc (suc zero)))))) lt = p6
by_eight P p0 p1 p2 p3 p4 p5 p6 p7 (suc (suc (suc (suc (suc (suc (suc zero))))))) lt = p7
by_eight P p0 p1 p2 p3 p4 p5 p6 p7 (suc (suc (suc (suc (suc (suc (suc (suc c)))))))) lt = absurd (omega (arith, lt))

-- a channel of a table
pub by_channel_at : (f : ℕ → Capture) (c : ℕ) → c < 8 → slice_index_or (by_channel f) c untouched ≡ f c
by_channel_at f c lt = by_eight (λ i. slice_index_or (by_channel f) i untouched ≡ f i) refl refl refl refl refl refl refl refl c lt

-- a fact about both cases
pub by_if : {A : Type 0} (P : A → Type 0) (q : Bool) (a b : A) → P a → P b → P (if q then a else b)
by_if P true a b h i = h
by_if P false a b h i = i

pub with_same : (s : IcuState) (c : ℕ) (x : Capture) → c < 8 → capture_at (with_capture s c x) c ≡ x
with_same s c x lt = by_channel_at (λ k. if k == c then x else capture_at s k) c lt ∙ ap (λ q. if q then x else capture_at s c) (eq_self c)

pub with_other : (s : IcuState) (c k : ℕ) (x : Capture) → k < 8 → k ≢ c → capture_at (with_capture s c x) k ≡ capture_at s k
with_other s c k x lt ne = by_channel_at (λ i. if i == c then x else capture_at s i) k lt ∙ ap (λ q. if q then x else capture_at s k) (eq_other k c ne)
