-- A write of the defaults of Pwm_Init, of those that are held.
-- From Units, service_outline: Words, Init, service_outline: SweepWords, Output.
-- Used by InitRight.
use Rattle.std.proofs.Common.{◌≡◌, ◌≢◌, ◌+◌, ◌*◌, ◌/◌, ◌<◌, ◌==◌, [], ◌∷◌, ◌∙◌}
use Rattle.pwm_driver.specs.Terms
use Terms.{absolute, arith, Called, Channel, channel_of, Chip, chip_after, duty_in, each_but, IsSetUp, KINDS, level}
use Terms.{None, none, not, Option, period_in, period_word, polarity_of, pulse_at, pulse_at-other, pulse_at-same, PulseDuty, PulsePeriod, PulsePolarity, PwmTable, PwmRepresents, PwmState, refl, Reservations, settled, Some, stands-move, StandsIn, STATE, stored_other, stored_same, Stores, subst, suc, sym, Wave, word_of, World, Write, zero, ℕ}
use Rattle.pwm_driver.specs.laws.{Init.{defaults, part}, Output.{level_set}, Units.{chip_with, never, off_lines}}
use Rattle.pwm_driver.specs.laws.{Units.{off_set, period_below, period_not_kinds, period_not_state, period_other}}
use Rattle.pwm_driver.specs.laws.{Units.{waved}}
use Rattle.chip_blocks.specs.pulses.Pulses as pulses
use Rattle.chip_blocks.specs.declared.pulses.pulse.Pulse as unit
use Rattle.module_machines.specs.declared.pwm.call.Call.TheVariants as calls

-- ---- one more default is written

pub less : (a i : ℕ) → a < i + 1 → a ≢ i → a < i
less a i lt ne = grind arith

-- of another channel
further : (k : Option Channel) (i c j word : ℕ) (v : Wave) → i / 4 ≡ c → j ≢ c → IsSetUp k i j word v → IsSetUp k (i + 1) j word v
further k i c j word v at ne h = record {
  kept = λ l. h.kept (less (4 * j) i l (λ e. ne (omega (arith, at, e))));
  period = λ l. h.period (less (4 * j + 1) i l (λ e. ne (omega (arith, at, e))));
  duty = λ l. h.duty (less (4 * j + 2) i l (λ e. ne (omega (arith, at, e))));
  high = λ l. h.high (less (4 * j + 3) i l (λ e. ne (omega (arith, at, e))));
}

default_period : (k : Option Channel) → (defaults k).0 ≡ period_in k
default_period None = refl
default_period (Some k) = refl

default_duty : (k : Option Channel) → absolute (defaults k).0 (defaults k).1 ≡ absolute (period_in k) (duty_in k)
default_duty None = refl
default_duty (Some k) = refl

default_high : (k : Option Channel) → not (level (defaults k).2 == 0) ≡ polarity_of k
default_high None = refl
default_high (Some k) = level_set k.polarity_high

-- of this one
module _ (k : Option Channel) (i c word : ℕ) (v : Wave) (h : IsSetUp k i c word v) where
  one_kept : i ≡ 4 * c → IsSetUp k (i + 1) c (defaults k).0 v
  one_kept e = record { kept = λ l. default_period k; period = λ l. absurd (omega (arith, e, l)); duty = λ l. absurd (omega (arith, e, l)); high = λ l. absurd (omega (arith, e, l)) }

  one_period : i ≡ 4 * c + 1 → IsSetUp k (i + 1) c word (record v { period = (defaults k).0 })
  one_period e = record { kept = λ l. h.kept (omega (arith, e)); period = λ l. default_period k; duty = λ l. absurd (omega (arith, e, l)); high = λ l. absurd (omega (arith, e, l)) }

  one_duty : i ≡ 4 * c + 2 → IsSetUp k (i + 1) c word (record v { duty = absolute (defaults k).0 (defaults k).1 })
  one_duty e = record { kept = λ l. h.kept (omega (arith, e)); period = λ l. h.period (omega (arith, e)); duty = λ l. default_duty k; high = λ l. absurd (omega (arith, e, l)) }

  one_high : i ≡ 4 * c + 3 → IsSetUp k (i + 1) c word (record v { high = not (level (defaults k).2 == 0) })
  one_high e = record { kept = λ l. h.kept (omega (arith, e)); period = λ l. h.period (omega (arith, e)); duty = λ l. h.duty (omega (arith, e)); high = λ l. default_high k }

-- so many are held as written
abbrev pub one : ℕ → Reservations
one i = record { by = Called calls.Init; what = record { upto = i }; acted = None } ∷ []

module _ (d : PwmTable) where
  module _ (i c : ℕ) (chip : Chip) (w : World) (s : PwmState) (at : i / 4 ≡ c) (lt : c < 8) (h : PwmRepresents d (one i) settled chip w s) where
    abbrev p : unit.Pulse
    p = pulses.pulse_at chip.pulses c

    word_written : (x received : ℕ) → IsSetUp (channel_of d c) (i + 1) c x p.wave → PwmRepresents d (one (i + 1)) settled (chip_after chip (Stores (period_word c) x) received) w s
    word_written x received new = record {
      right = (refl, h.right.1, tt);
      setup = (
        λ j l. each_but (λ n. n < 8 → IsSetUp (channel_of d n) (i + 1) n (word_of (chip_after chip (Stores (period_word c) x) received) (period_word n)) (pulses.pulse_at chip.pulses n).wave) c
            (λ n. subst (λ y. IsSetUp (channel_of d c) (i + 1) c y p.wave) (sym (stored_same chip (period_word c) x received (period_below c lt) h.outside.all.words)) new) j
            (λ ne n. subst (λ y. IsSetUp (channel_of d j) (i + 1) j y (pulses.pulse_at chip.pulses j).wave) (sym (stored_other chip (period_word c) x received (period_word j) (period_other c j ne))) (further (channel_of d j) i c j (word_of chip (period_word j)) (pulses.pulse_at chip.pulses j).wave at ne (h.setup.0 j n))) l,
        tt,
      );
      outside = stands-move chip w (Stores (period_word c) x) received h.outside;
      size = h.size;
      units = h.units;
      kinds = h.kinds;
      words = record {
        state = λ g. stored_other chip (period_word c) x received STATE (period_not_state c) ∙ h.words.state refl;
        kinds = λ g. stored_other chip (period_word c) x received KINDS (period_not_kinds c) ∙ h.words.kinds refl;
        periods = λ on. never s.initialised h.right.1 on;
      };
      lines = off_lines s.initialised _ h.right.1;
      clean = h.clean;
      unused = h.unused;
    }

    wave_written : (v : Wave) → StandsIn (chip_with chip c (record p { wave = v })) w → IsSetUp (channel_of d c) (i + 1) c (word_of chip (period_word c)) v → PwmRepresents d (one (i + 1)) settled (chip_with chip c (record p { wave = v })) w s
    wave_written v outside new = off_set d (one i) (one (i + 1)) chip w s c (record p { wave = v }) none none lt h.right.1 (refl, h.right.1, tt) (
      λ j l. each_but (λ n. n < 8 → IsSetUp (channel_of d n) (i + 1) n (word_of chip (period_word n)) (pulses.pulse_at (pulses.with_pulse chip.pulses c (record p { wave = v })) n).wave) c
          (λ n. subst (λ y. IsSetUp (channel_of d c) (i + 1) c (word_of chip (period_word c)) y.wave) (sym (pulse_at-same chip.pulses c (record p { wave = v }) (record { all = h.size; within = lt }))) new) j
          (λ ne n. subst (λ y. IsSetUp (channel_of d j) (i + 1) j (word_of chip (period_word j)) y.wave) (sym (pulse_at-other chip.pulses c j (record p { wave = v }) ne)) (further (channel_of d j) i c j (word_of chip (period_word j)) (pulses.pulse_at chip.pulses j).wave at ne (h.setup.0 j n))) l,
      tt,
    )
        outside (λ g. waved (polarity_of (channel_of d c)) w.now p (pulse_at s c) v (h.units c lt refl)) (λ k ne g. refl) h

    pub step_by : (n received : ℕ) → n < 4 → i ≡ 4 * c + n → PwmRepresents d (one (i + 1)) settled (chip_after chip (part n c (channel_of d c)) received) w s
    step_by zero received few e = word_written (defaults (channel_of d c)).0 received (one_kept (channel_of d c) i c (word_of chip (period_word c)) p.wave (h.setup.0 c lt) (omega (arith, e)))
    step_by (suc zero) received few e =
        let x = (defaults (channel_of d c)).0 in
        wave_written (record (p.wave) { period = x }) (stands-move chip w (Write (PulsePeriod c) x) received h.outside) (one_period (channel_of d c) i c (word_of chip (period_word c)) p.wave (h.setup.0 c lt) (omega (arith, e)))
    step_by (suc (suc zero)) received few e =
        let x = absolute (defaults (channel_of d c)).0 (defaults (channel_of d c)).1 in
        wave_written (record (p.wave) { duty = x }) (stands-move chip w (Write (PulseDuty c) x) received h.outside) (one_duty (channel_of d c) i c (word_of chip (period_word c)) p.wave (h.setup.0 c lt) (omega (arith, e)))
    step_by (suc (suc (suc n))) received few e =
        let x = level (defaults (channel_of d c)).2 in
        wave_written (record (p.wave) { high = not (x == 0) }) (stands-move chip w (Write (PulsePolarity c) x) received h.outside) (one_high (channel_of d c) i c (word_of chip (period_word c)) p.wave (h.setup.0 c lt) (omega (arith, few, e)))
