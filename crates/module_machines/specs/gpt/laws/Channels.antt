-- The channels of a state, by number.
-- Used by gpt_driver: Fits, gpt_driver: RefinementRight, gpt_driver: Parts, gpt_driver: Switch and 10 more.
use Rattle.std.proofs.Common.{◌≡◌, ℕ, zero, suc, ◌<◌, ◌≢◌, Bool, true, false, ◌==◌, nat_lt, Option, None, refl, ◌∙◌, ap, arith}
use Rattle.std.specs.Prelude.{if◌then◌else◌, is_some, slice_index_or}
use Rattle.std.proofs.lemmas.Bool.{ltb-true}
use Rattle.mcal_base.specs.facts.Numbers.{eq_other, eq_self}
use Rattle.module_machines.specs.gpt.Machine.{Timing, GptState, table, untouched, channel_at, with_channel}
use Rattle.module_machines.specs.gpt.Table.{channel_of}
use Rattle.module_machines.specs.declared.gpt.table.Channel.{Channel}
use Rattle.module_machines.specs.declared.gpt.table.GptTable.{GptTable}

-- a fact about each of the eight channels
pub by_eight : (P : ℕ → Type 0) → P 0 → P 1 → P 2 → P 3 → P 4 → P 5 → P 6 → P 7 → (c : ℕ) → c < 8 → P c
by_eight P p0 p1 p2 p3 p4 p5 p6 p7 zero lt = p0
by_eight P p0 p1 p2 p3 p4 p5 p6 p7 (suc zero) lt = p1
by_eight P p0 p1 p2 p3 p4 p5 p6 p7 (suc (suc zero)) lt = p2
by_eight P p0 p1 p2 p3 p4 p5 p6 p7 (suc (suc (suc zero))) lt = p3
by_eight P p0 p1 p2 p3 p4 p5 p6 p7 (suc (suc (suc (suc zero)))) lt = p4
by_eight P p0 p1 p2 p3 p4 p5 p6 p7 (suc (suc (suc (suc (suc zero))))) lt = p5
by_eight P p0 p1 p2 p3 p4 p5 p6 p7 (suc (suc (suc (suc (suc (suc zero)))))) lt = p6
by_eight P p0 p1 p2 p3 p4 p5 p6 p7 (suc (suc (suc (suc (suc (suc (suc zero))))))) lt = p7
by_eight P p0 p1 p2 p3 p4 p5 p6 p7 (suc (suc (suc (suc (suc (suc (suc (suc c)))))))) lt = absurd (omega (arith, lt))

-- a channel of a table, and of a state in which one was changed
pub table_at : (f : ℕ → Timing) (c : ℕ) → c < 8 → slice_index_or (table f) c untouched ≡ f c
table_at f c lt = by_eight (λ i. slice_index_or (table f) i untouched ≡ f i) refl refl refl refl refl refl refl refl c lt

pub channel_same : (s : GptState) (c : ℕ) (x : Timing) → c < 8 → channel_at (with_channel s c x) c ≡ x
channel_same s c x lt = table_at (λ k. if k == c then x else channel_at s k) c lt ∙ ap (λ q. if q then x else channel_at s c) (eq_self c)

pub channel_other : (s : GptState) (c k : ℕ) (x : Timing) → k < 8 → k ≢ c → channel_at (with_channel s c x) k ≡ channel_at s k
channel_other s c k x lt ne = table_at (λ i. if i == c then x else channel_at s i) k lt ∙ ap (λ q. if q then x else channel_at s k) (eq_other k c ne)

-- a configured channel is one of the eight
pub within : (d : GptTable) (c : ℕ) → is_some (channel_of d c) ≡ true → c < 8
within d c h = by_test (nat_lt c 8) _ refl h
  where
    by_test : (q : Bool) (k : Option Channel) → nat_lt c 8 ≡ q → is_some (if q then k else None) ≡ true → c < 8
    by_test true k e h = ltb-true c 8 e
    by_test false k e h = absurd (cc)
