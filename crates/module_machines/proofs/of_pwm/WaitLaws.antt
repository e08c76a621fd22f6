-- A new period and duty take over at the end of the period that runs.
use Rattle.std.proofs.Common.{◌≡◌, ℕ, ◌+◌, ◌-◌, ◌*◌, ◌/◌, ◌%◌, ◌<◌, ◌≤◌, ◌==◌, Bool, refl, sym, ◌∙◌, ap, subst, arith}
use Rattle.std.specs.Prelude.{if◌then◌else◌}
use Rattle.std.proofs.lemmas.Nat.{div-add-mod'}
use Rattle.std.proofs.Math.Nat.{mod-lt}
use Rattle.mcal_base.specs.facts.Numbers.{isnt_zero, lt_from, lt_since}
use Rattle.module_machines.specs.pwm.Runs.{StartsAtEnd}
use Rattle.module_machines.specs.pwm.Output.{Output, Runs, GivesWay, Regime, regime_level, period_end, succeeded, with_new}

end_sum : (s now p q m : ℕ) → s ≤ now → q * p + m ≡ now - s → m < p → now + (p - m) ≡ s + (q + 1) * p
end_sum s now p q m le whole less = omega (arith, le, whole, less)

-- the end of the period that runs is that of a whole number of periods
end_of : (r : Regime) (now : ℕ) → 0 < r.period → r.start ≤ now → period_end r now ≡ r.start + ((now - r.start) / r.period + 1) * r.period
end_of r now pos le =
    end_sum r.start now r.period ((now - r.start) / r.period) ((now - r.start) % r.period) le (div-add-mod' (now - r.start) r.period) (mod-lt (now - r.start) pos)

waiting_at : (polarity : Bool) (r : Regime) (now period duty : ℕ) → 0 < r.period → r.start ≤ now → (end : ℕ) → period_end r now ≡ end → end ≡ r.start + ((now - r.start) / r.period + 1) * r.period
    → StartsAtEnd polarity r now period duty (GivesWay r (record { start = end; period = period; duty = duty }))
waiting_at polarity r now period duty pos le end at whole =
    let rest : (now - r.start) % r.period < r.period = mod-lt (now - r.start) pos in
    let is : end ≡ now + (r.period - (now - r.start) % r.period) = sym at in
    record {
      periods = (now - r.start) / r.period + 1;
      later = rw (← whole) (omega (arith, is, rest));
      soon = rw (← whole) (omega (arith, is, rest));
      before = λ time lt. ap (λ q. regime_level polarity (if q then r else record { start = end; period = period; duty = duty }) time) (lt_from time end (rw whole lt));
      after = λ time ge. ap (λ q. regime_level polarity (if q then r else record { start = end; period = period; duty = duty }) time) (lt_since time end (rw whole ge)) ∙ ap (λ x. regime_level polarity (record { start = x; period = period; duty = duty }) time) whole;
    }

pub starts_at_end : (polarity : Bool) (r : Regime) (now period duty : ℕ) → 0 < r.period → r.start ≤ now → StartsAtEnd polarity r now period duty (succeeded r now period duty)
starts_at_end polarity r now period duty pos le =
    subst (λ q. StartsAtEnd polarity r now period duty (if q then Runs (record { start = now; period = period; duty = duty }) else GivesWay r (record { start = period_end r now; period = period; duty = duty })))
    (sym (isnt_zero r.period pos)) (waiting_at polarity r now period duty pos le (period_end r now) refl (end_of r now pos le))

-- the regime that took over is the one that runs
took_over : (r next : Regime) (now period duty : ℕ) → next.start ≤ now → with_new now period duty (GivesWay r next) ≡ succeeded next now period duty
took_over r next now period duty le = ap (λ q. succeeded (if q then r else next) now period duty) (lt_since now next.start le)

pub starts_at_its_end : (polarity : Bool) (r next : Regime) (now period duty : ℕ) → 0 < next.period → next.start ≤ now → StartsAtEnd polarity next now period duty (with_new now period duty (GivesWay r next))
starts_at_its_end polarity r next now period duty pos le =
    subst (λ (o : Output). StartsAtEnd polarity next now period duty o) (sym (took_over r next now period duty le)) (starts_at_end polarity next now period duty pos le)

pub at_once : (r : Regime) (now period duty : ℕ) → r.period ≡ 0 → succeeded r now period duty ≡ Runs (record { start = now; period = period; duty = duty })
at_once r now period duty e = ap (λ n. if n == 0 then Runs (record { start = now; period = period; duty = duty }) else GivesWay r (record { start = period_end r now; period = period; duty = duty })) e

pub at_once_taken_over : (r next : Regime) (now period duty : ℕ) → next.period ≡ 0 → next.start ≤ now → with_new now period duty (GivesWay r next) ≡ Runs (record { start = now; period = period; duty = duty })
at_once_taken_over r next now period duty e le = took_over r next now period duty le ∙ at_once next now period duty e
