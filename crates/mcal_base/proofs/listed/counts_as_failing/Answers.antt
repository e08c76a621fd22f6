use Rattle.std.proofs.Common.{arith, sym, ◌∙◌, ◌≡◌, refl, true, false}
use Rattle.std.specs.Bool.{OnTrue, OnFalse}
use Rattle.std.specs.Prelude.{Bool}
use Rattle.mcal_base.proofs.Counting.{failing_within, hit_rises, goes_on}
use Rattle.mcal_base.proofs.listed.counts_as_failing.Goals as goal

pub returns-then-calls-eq18446744073709551615-clause-within : goal.returns-then-calls-eq18446744073709551615-clause-within
returns-then-calls-eq18446744073709551615-clause-within c full w = failing_within c.args.failing.now full c.args.calls.now _ (omega arith) c.saturating_add.ensures w

-- a fact that holds where a test came out true, and one where it came out false
on_true : (b : Bool) (P : Type 0) → (b ≡ true → P) → OnTrue b P
on_true true P f = f refl
on_true false P f = tt

on_false : (b : Bool) (P : Type 0) → (b ≡ false → P) → OnFalse b P
on_false true P f = tt
on_false false P f = f refl

pub returns-clause-fails : goal.returns-clause-fails
returns-clause-fails c = on_true c.contains.result _ (λ hit full w. hit_rises c.args.failing.now c.args.calls.now _ full (omega arith) c.saturating_add.ensures c.if-calls-eq18446744073709551615.false (sym c.contains.ensures.value ∙ hit) w)

pub returns-clause-goes : goal.returns-clause-goes
returns-clause-goes c = on_false c.contains.result _ (λ miss. goes_on c.args.failing.now c.args.calls.now _ (omega arith) c.saturating_add.ensures c.if-calls-eq18446744073709551615.false (sym c.contains.ensures.value ∙ miss))
