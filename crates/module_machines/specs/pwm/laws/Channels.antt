-- The channels of a state and of a table, by number.
-- Used by pwm_driver: Output, pwm_driver: Flags, pwm_driver: Notify, proofs/of_pwm/StateLaws, pwm_driver: Units and 10 more.
use Rattle.std.proofs.Common.{◌≡◌, ◌≢◌, ℕ, zero, suc, ◌<◌, Bool, true, false, ◌==◌, nat_lt, Option, Some, None, refl, ◌∙◌, ap, arith}
use Rattle.std.proofs.lemmas.Bool.Decides.{nat_tests}
use Rattle.std.specs.Prelude.{if◌then◌else◌, is_some, slice_index_or}
use Rattle.mcal_base.specs.facts.Numbers.{eq_other, eq_self}
use Rattle.module_machines.specs.pwm.Machine.{Pulse, PwmState, silent, pulse_at, table, with_pulse}
use Rattle.module_machines.specs.pwm.Table.{channel_of}
use Rattle.module_machines.specs.declared.pwm.table.Channel.{Channel}
use Rattle.module_machines.specs.declared.pwm.table.PwmTable.{PwmTable}

pub some_is : {A : Type 0} (o : Option A) (k : A) → o ≡ Some k → is_some o ≡ true
some_is o k e = ap (λ x. is_some x) e

-- a fact about each of the eight channels
pub by_eight : (P : ℕ → Type 0) → P 0 → P 1 → P 2 → P 3 → P 4 → P 5 → P 6 → P 7 → (c : ℕ) → c < 8 → P c
by_eight P p0 p1 p2 p3 p4 p5 p6 p7 zero lt = p0
by_eight P p0 p1 p2 p3 p4 p5 p6 p7 (suc zero) lt = p1
by_eight P p0 p1 p2 p3 p4 p5 p6 p7 (suc (suc zero)) lt = p2
by_eight P p0 p1 p2 p3 p4 p5 p6 p7 (suc (suc (suc zero))) lt = p3
by_eight P p0 p1 p2 p3 p4 p5 p6 p7 (suc (suc (suc (suc zero)))) lt = p4
by_eight P p0 p1 p2 p3 p4 p5 p6 p7 (suc (suc (suc (suc (suc zero))))) lt = p5
by_eight P p0 p1 p2 p3 p4 p5 p6 p7 (suc (suc (suc (suc (suc (suc zero)))))) lt = p6
by_eight P p0 p1 p2 p3 p4 p5 p6 p7 (suc (suc (suc (suc (suc (suc (suc zero))))))) lt = p7
by_eight P p0 p1 p2 p3 p4 p5 p6 p7 (suc (suc (suc (suc (suc (suc (suc (suc c)))))))) lt = absurd (omega (arith, lt))

pub table_at : (f : ℕ → Pulse) (c : ℕ) → c < 8 → slice_index_or (table f) c silent ≡ f c
table_at f c lt = by_eight (λ i. slice_index_or (table f) i silent ≡ f i) refl refl refl refl refl refl refl refl c lt

pub channel_same : (s : PwmState) (c : ℕ) (x : Pulse) → c < 8 → pulse_at (with_pulse s c x) c ≡ x
channel_same s c x lt = table_at (λ k. if k == c then x else pulse_at s k) c lt ∙ ap (λ q. if q then x else pulse_at s c) (eq_self c)

pub channel_other : (s : PwmState) (c k : ℕ) (x : Pulse) → k < 8 → k ≢ c → pulse_at (with_pulse s c x) k ≡ pulse_at s k
channel_other s c k x lt ne = table_at (λ i. if i == c then x else pulse_at s i) k lt ∙ ap (λ q. if q then x else pulse_at s k) (eq_other k c ne)

pub below : (c : ℕ) → nat_lt c 8 ≡ true → c < 8
below c e = grind (arith, nat_tests)

pub within : (d : PwmTable) (c : ℕ) → is_some (channel_of d c) ≡ true → c < 8
within d c h = by_test (nat_lt c 8) _ refl h
  where
    by_test : (q : Bool) (k : Option Channel) → nat_lt c 8 ≡ q → is_some (if q then k else None) ≡ true → c < 8
    by_test true k e h = below c e
    by_test false k e h = absurd (cc)

pub known_within : (d : PwmTable) (c : ℕ) (k : Channel) → channel_of d c ≡ Some k → c < 8
known_within d c k e = within d c (some_is (channel_of d c) k e)
