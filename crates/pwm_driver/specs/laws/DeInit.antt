-- Pwm_DeInit: its steps, what holds at each, and that they are right.
-- From Units, Base, Parts, service_outline: Words, service_outline: SweepWords and 2 more.
-- Used by Lawful, Windows, service/deinit/rt, Made.
use Rattle.std.proofs.Common.{◌≡◌, ◌≢◌, ◌+◌, ◌-◌, ◌<◌, ◌≤◌, ◌&&◌, [], ◌∷◌, ◌∙◌, if◌then◌else◌}
use Rattle.pwm_driver.specs.Terms
use Terms.{acts, acts_by, After, AllRight, ap, AreLong, arith, Before, below_test, BodyTaken, Bool, Call, Called}
use Terms.{Channel, channel_of, Chip, chip_after, DeInitBody, Disable, each_but, EnableClear, ended, ends, eq_self}
use Terms.{false, goes, has_bit-zero, Idle, Is_after, Is_before, Is_own, is_some, IsBegun, IsQuiet, KindAgrees, KINDS}
use Terms.{Lag, length-set, level, LINES, Load, LongBodies, MarksAgree, missed_after, Move, nat_lt, nat_tests}
use Terms.{no_answer, None, not, Nothing, only, Option, Origin, output_in, over, Own, period_word, polarity_of, Pulse}
use Terms.{pulse_at, pulse_at-other, pulse_at-same, PulseEdges, PulseIdle, Pulses, pwm_basis, pwm_machine, pwm_may, PwmTable, PwmRepresents, PwmState, refl, Reservations, settled, Shortens, Some, stands-move, StandsIn, STATE, StepsTo, stored_other, stored_same, Stores, subst, sym, table, table_at, tells_nothing, Told, true, UnitAgrees, World, Write, ℕ}
use Rattle.pwm_driver.specs.declared.service.deinit.DeInitBody.TheVariants.{Store, Choose, Keep, Rest}
use Rattle.pwm_driver.specs.laws.{Base.{AllGood, steady_above, family, family_right}, Look.{Passed}, Units.{chip_with}}
use Rattle.pwm_driver.specs.laws.{Units.{none_held, setup_kept, waved_at, off_lines, never, kinds_not_state}}
use Rattle.pwm_driver.specs.laws.{Units.{kinds_not_period, idle_written}}
use Rattle.chip_blocks.specs.pulses.Pulses as pulses
use Rattle.chip_blocks.specs.declared.pulses.pulse.Output.TheVariants as units
use Rattle.chip_blocks.specs.declared.pulses.pulse.Pulse as unit
use Rattle.module_machines.specs.declared.pwm.call.Call.TheVariants as calls

abbrev pub rest_of : ℕ → Option Channel → Move
rest_of c None = Load STATE
rest_of c (Some k) = Write (PulseIdle c) (level k.idle_high)

abbrev pub rest : PwmTable → ℕ → Move
rest d c = rest_of c (channel_of d c)

abbrev pub deinit_work : DeInitBody → Move
deinit_work (Store d) = Stores STATE 0
deinit_work (Disable d) = Write EnableClear LINES
deinit_work (Choose d) = Write PulseEdges 0
deinit_work (Keep d) = Stores KINDS 0
deinit_work (Rest d c) = rest d c

abbrev pub deinit_takes : DeInitBody → ℕ → DeInitBody × BodyTaken
deinit_takes (Store d) x = (Disable d, acts)
deinit_takes (Disable d) x = (Choose d, goes)
deinit_takes (Choose d) x = (Keep d, goes)
deinit_takes (Keep d) x = (Rest d 0, goes)
deinit_takes (Rest d c) x = if nat_lt c 7 then (Rest d (c + 1), goes) else (Rest d c, ends None no_answer Nothing)

abbrev pub deinit_left : DeInitBody → ℕ
deinit_left (Store d) = 12
deinit_left (Disable d) = 11
deinit_left (Choose d) = 10
deinit_left (Keep d) = 9
deinit_left (Rest d c) = 1 + (7 - c)

-- the units of configured channels from this one on are not yet idle
abbrev pub from : PwmTable → ℕ → ℕ → Bool
from d c k = is_some (channel_of d k) && not (nat_lt k c)

abbrev pub deinit_gap : PwmTable → DeInitBody → Lag
deinit_gap d (Store e) = settled
deinit_gap d (Disable e) = record settled { units = from d 0; kinds = λ k. true }
deinit_gap d (Choose e) = record settled { units = from d 0; kinds = λ k. true }
deinit_gap d (Keep e) = record settled { units = from d 0; words = only KINDS }
deinit_gap d (Rest e c) = record settled { units = from d c }

-- each configured channel is idle at its level, with its notification off, since some time
pub record IsEnded (k : Channel) (now : ℕ) (x : Pulse) : Type 0 where
  pub idle : x.output ≡ Idle k.idle_high
  pub off : x.notified ≡ None
  pub past : x.since ≤ now

abbrev pub AreEnded : PwmTable → ℕ → PwmState → Type 0
AreEnded d now s = (s.initialised ≡ false) × ((c : ℕ) (k : Channel) → c < 8 → channel_of d c ≡ Some k → IsEnded k now (pulse_at s c))

abbrev pub deinit_holds : PwmTable → Pulses → ℕ → PwmState → DeInitBody → Origin Call → Option Told → Type 0
deinit_holds d f now s (Store e) o t = Before calls.DeInit o t × Own d e × Passed d s calls.DeInit × (s.initialised ≡ true)
deinit_holds d f now s (Disable e) o t = After calls.DeInit tells_nothing o t × Own d e × AreEnded d now s
deinit_holds d f now s (Choose e) o t = After calls.DeInit tells_nothing o t × Own d e × AreEnded d now s
deinit_holds d f now s (Keep e) o t = After calls.DeInit tells_nothing o t × Own d e × AreEnded d now s × (f.edges ≡ 0)
deinit_holds d f now s (Rest e c) o t = After calls.DeInit tells_nothing o t × Own d e × AreEnded d now s × (c < 8)

abbrev pub deinit_bodies : (d : PwmTable) → LongBodies (pwm_basis d) DeInitBody
deinit_bodies d = family d deinit_work deinit_takes deinit_left (deinit_gap d) (deinit_holds d)

-- ---- what is held, and the machine's channels

right_any : (held : Reservations) (on on1 : Bool) → on ≡ true → AllRight on held → AllRight on1 held
right_any [] on on1 e h = tt
right_any (x ∷ xs) on on1 e h = absurd (let f = h.1 in cc)

abbrev ended_state : PwmTable → World → PwmState → PwmState
ended_state d w s = record { initialised = false; channels = table (λ c. ended (channel_of d c) w.now (pulse_at s c)) }

ended_quiet : (k : Option Channel) (now : ℕ) (x : Pulse) → (k ≡ None → IsQuiet x) → IsQuiet (ended k now x)
ended_quiet None now x h = h refl
ended_quiet (Some k) now x h = record { level = k.idle_high; idle = refl; off = refl }

ended_is : (k : Channel) (now : ℕ) (o : Option Channel) (x : Pulse) → o ≡ Some k → IsEnded k now (ended o now x)
ended_is k now o x e = subst (λ z. IsEnded k now (ended z now x)) (sym e) (record { idle = refl; off = refl; past = omega arith })

unused_same : (k : Option Channel) (now : ℕ) (x : Pulse) → is_some k ≡ false → ended k now x ≡ x
unused_same None now x e = refl
unused_same (Some k) now x e = absurd (cc)

from_first : (q : Bool) (k : ℕ) → q && not (nat_lt k 0) ≡ false → q ≡ false
from_first true k e = let f : nat_lt k 0 ≡ false = grind (arith, nat_tests) in cc
from_first false k e = refl

state_not_kinds : KINDS ≢ STATE
state_not_kinds e = absurd (omega (arith, e))

state_not_period : (c : ℕ) → period_word c ≢ STATE
state_not_period c e = absurd (omega (arith, e))

module _ (d : PwmTable) where
  switched_off : (below : Reservations) (chip : Chip) (w : World) (s : PwmState) → s.initialised ≡ true → PwmRepresents d below settled chip w s → PwmRepresents d below (deinit_gap d (Disable d)) (chip_after chip (Stores STATE 0) 0) w (ended_state d w s)
  switched_off below chip w s on h = record {
    right = right_any below s.initialised false on h.right;
    setup = none_held d below s.initialised (chip_after chip (Stores STATE 0) 0) on h.right;
    outside = stands-move chip w (Stores STATE 0) 0 h.outside;
    size = h.size;
    units = λ k l g. subst (λ x. UnitAgrees (polarity_of (channel_of d k)) w.now (pulses.pulse_at chip.pulses k) x) (sym (table_at (λ c. ended (channel_of d c) w.now (pulse_at s c)) k l ∙ unused_same (channel_of d k) w.now (pulse_at s k) (from_first (is_some (channel_of d k)) k g))) (h.units k l refl);
    kinds = λ k l g. absurd (cc);
    words = record {
      state = λ g. stored_same chip STATE 0 0 (omega arith) h.outside.all.words;
      kinds = λ g. stored_other chip STATE 0 0 KINDS state_not_kinds ∙ h.words.kinds refl;
      periods = λ e k l u g. absurd (cc);
    };
    lines = tt;
    clean = λ off k l. subst IsQuiet (sym (table_at (λ c. ended (channel_of d c) w.now (pulse_at s c)) k l)) (ended_quiet (channel_of d k) w.now (pulse_at s k) (λ e. h.unused k l e));
    unused = λ k l e. subst IsQuiet (sym (table_at (λ c. ended (channel_of d c) w.now (pulse_at s c)) k l)) (ended_quiet (channel_of d k) w.now (pulse_at s k) (λ f. h.unused k l f));
  }

  disabled : (below : Reservations) (chip : Chip) (w : World) (s : PwmState) → s.initialised ≡ false → PwmRepresents d below (deinit_gap d (Disable d)) chip w s → PwmRepresents d below (deinit_gap d (Choose d)) (chip_after chip (Write EnableClear LINES) 0) w s
  disabled below chip w s off h = record {
    right = h.right;
    setup = setup_kept d below chip (chip_after chip (Write EnableClear LINES) 0) (λ c lt. refl) (λ c lt. refl) h.setup;
    outside = stands-move chip w (Write EnableClear LINES) 0 h.outside;
    size = h.size;
    units = h.units;
    kinds = h.kinds;
    words = record { state = h.words.state; kinds = h.words.kinds; periods = λ e. never s.initialised off e };
    lines = off_lines s.initialised _ off;
    clean = h.clean;
    unused = h.unused;
  }

  none_chosen : (below : Reservations) (chip : Chip) (w : World) (s : PwmState) → s.initialised ≡ false → PwmRepresents d below (deinit_gap d (Choose d)) chip w s → PwmRepresents d below (deinit_gap d (Keep d)) (chip_after chip (Write PulseEdges 0) 0) w s
  none_chosen below chip w s off h = record {
    right = h.right;
    setup = setup_kept d below chip (chip_after chip (Write PulseEdges 0) 0) (λ c lt. refl) (λ c lt. refl) h.setup;
    outside = stands-move chip w (Write PulseEdges 0) 0 h.outside;
    size = h.size;
    units = h.units;
    kinds = λ k l g. subst (λ n. KindAgrees 0 k n) (sym (h.clean off k l).off) (record { rising = has_bit-zero k; falling = has_bit-zero (k + 8) });
    words = record { state = λ g. h.words.state refl; kinds = λ g. absurd (let e = eq_self KINDS in cc); periods = λ e. never s.initialised off e };
    lines = off_lines s.initialised _ off;
    clean = h.clean;
    unused = h.unused;
  }

  none_kept : (below : Reservations) (chip : Chip) (w : World) (s : PwmState) → s.initialised ≡ false → chip.pulses.edges ≡ 0 → PwmRepresents d below (deinit_gap d (Keep d)) chip w s → PwmRepresents d below (deinit_gap d (Rest d 0)) (chip_after chip (Stores KINDS 0) 0) w s
  none_kept below chip w s off is h = record {
    right = h.right;
    setup = setup_kept d below chip (chip_after chip (Stores KINDS 0) 0) (λ c lt. refl) (λ c lt. stored_other chip KINDS 0 0 (period_word c) (kinds_not_period c)) h.setup;
    outside = stands-move chip w (Stores KINDS 0) 0 h.outside;
    size = h.size;
    units = h.units;
    kinds = h.kinds;
    words = record { state = λ g. stored_other chip KINDS 0 0 STATE kinds_not_state ∙ h.words.state refl; kinds = λ g. stored_same chip KINDS 0 0 (omega arith) h.outside.all.words ∙ sym is; periods = λ e. never s.initialised off e };
    lines = off_lines s.initialised _ off;
    clean = h.clean;
    unused = h.unused;
  }

  -- ---- a channel is idle

  ended_unit : (k : Channel) (high : Bool) (now time : ℕ) (p : unit.Pulse) (x : Pulse) → IsEnded k now x → UnitAgrees high now (pulses.put_out (units.Idle k.idle_high) time p) x
  ended_unit k high now time p x h = record { output = ap (λ o. output_in high o) (sym h.idle); begun = subst (λ o. IsBegun o x.since) (sym h.idle) tt; past = h.past; marks = subst (λ n. MarksAgree n (pulses.put_out (units.Idle k.idle_high) time p) x) (sym h.off) tt }

  fewer : (c k : ℕ) (q : Bool) → k ≢ c → q && not (nat_lt k (c + 1)) ≡ false → q && not (nat_lt k c) ≡ false
  fewer c k true ne e = grind (arith, nat_tests)
  fewer c k false ne e = refl

  idle_now : (below : Reservations) (chip : Chip) (w : World) (s : PwmState) (c : ℕ) (k : Channel) → c < 8 → s.initialised ≡ false → IsEnded k w.now (pulse_at s c) → PwmRepresents d below (deinit_gap d (Rest d c)) chip w s → PwmRepresents d below (deinit_gap d (Rest d (c + 1))) (chip_after chip (Write (PulseIdle c) (level k.idle_high)) 0) w s
  idle_now below chip w s c k lt off i h =
      let p = pulses.put_out (units.Idle k.idle_high) chip.pulses.time (pulses.pulse_at chip.pulses c) in
      let e = idle_written chip c k.idle_high in
      subst (λ z. PwmRepresents d below (deinit_gap d (Rest d (c + 1))) z w s) (sym e) (record {
        right = h.right;
        setup = setup_kept d below chip (chip_with chip c p) (λ j l. waved_at chip c j p h.size lt refl) (λ j l. refl) h.setup;
        outside = subst (λ z. StandsIn z w) e (stands-move chip w (Write (PulseIdle c) (level k.idle_high)) 0 h.outside);
        size = length-set chip.pulses.pulses c p ∙ h.size;
        units = λ j l g. each_but (λ n. n < 8 → from d (c + 1) n ≡ false → UnitAgrees (polarity_of (channel_of d n)) w.now (pulses.pulse_at (pulses.with_pulse chip.pulses c p) n) (pulse_at s n)) c
            (λ n f. subst (λ y. UnitAgrees (polarity_of (channel_of d c)) w.now y (pulse_at s c)) (sym (pulse_at-same chip.pulses c p (record { all = h.size; within = lt }))) (ended_unit k (polarity_of (channel_of d c)) w.now chip.pulses.time (pulses.pulse_at chip.pulses c) (pulse_at s c) i)) j
            (λ ne n f. subst (λ y. UnitAgrees (polarity_of (channel_of d j)) w.now y (pulse_at s j)) (sym (pulse_at-other chip.pulses c j p ne)) (h.units j n (fewer c j (is_some (channel_of d j)) ne f))) l g;
        kinds = h.kinds;
        words = record { state = h.words.state; kinds = h.words.kinds; periods = λ u. never s.initialised off u };
        lines = off_lines s.initialised _ off;
        clean = h.clean;
        unused = h.unused;
      })

  unused_now : (below : Reservations) (chip : Chip) (w : World) (s : PwmState) (c : ℕ) → channel_of d c ≡ None → PwmRepresents d below (deinit_gap d (Rest d c)) chip w s → PwmRepresents d below (deinit_gap d (Rest d (c + 1))) chip w s
  unused_now below chip w s c e h = record {
    right = h.right;
    setup = h.setup;
    outside = h.outside;
    size = h.size;
    units = λ j l g. each_but (λ n. n < 8 → from d (c + 1) n ≡ false → UnitAgrees (polarity_of (channel_of d n)) w.now (pulses.pulse_at chip.pulses n) (pulse_at s n)) c (λ n f. h.units c n (ap (λ o. is_some o && not (nat_lt c c)) e)) j (λ ne n f. h.units j n (fewer c j (is_some (channel_of d j)) ne f)) l g;
    kinds = h.kinds;
    words = record { state = h.words.state; kinds = h.words.kinds; periods = h.words.periods };
    lines = h.lines;
    clean = h.clean;
    unused = h.unused;
  }

  rested_by : (below : Reservations) (chip : Chip) (w : World) (s : PwmState) (c : ℕ) → c < 8 → AreEnded d w.now s → PwmRepresents d below (deinit_gap d (Rest d c)) chip w s → (o : Option Channel) → channel_of d c ≡ o → PwmRepresents d below (deinit_gap d (Rest d (c + 1))) (chip_after chip (rest_of c o) 0) w s
  rested_by below chip w s c lt a h None e = unused_now below chip w s c e h
  rested_by below chip w s c lt a h (Some k) e = idle_now below chip w s c k lt a.0 (a.1 c k lt e) h

  all_closed : (q : Bool) (k c : ℕ) → k < 8 → 8 ≤ c → q && not (nat_lt k c) ≡ false
  all_closed true k c lt le = grind (arith, nat_tests)
  all_closed false k c lt le = refl

  all_rest : (below : Reservations) (chip : Chip) (w : World) (s : PwmState) (c : ℕ) → 8 ≤ c → PwmRepresents d below (deinit_gap d (Rest d c)) chip w s → PwmRepresents d below settled chip w s
  all_rest below chip w s c le h = record {
    right = h.right;
    setup = h.setup;
    outside = h.outside;
    size = h.size;
    units = λ j l g. h.units j l (all_closed (is_some (channel_of d j)) j c l le);
    kinds = h.kinds;
    words = record { state = h.words.state; kinds = h.words.kinds; periods = h.words.periods };
    lines = h.lines;
    clean = h.clean;
    unused = h.unused;
  }

  may_rest : (c : ℕ) (o : Option Channel) → c < 8 → pwm_may (rest_of c o) ≡ true
  may_rest c None lt = refl
  may_rest c (Some k) lt = below_test c lt

  rest_next : (below : Reservations) (chip1 : Chip) (w : World) (s : PwmState) (m : ℕ → Bool) (c : ℕ) → c < 8 → AreEnded d w.now s → PwmRepresents d below (deinit_gap d (Rest d (c + 1))) chip1 w s → (q : Bool) → nat_lt c 7 ≡ q → StepsTo (over (pwm_basis d) below) (steady_above d deinit_work deinit_takes deinit_left (deinit_gap d) (deinit_holds d) below) chip1 w s (Called calls.DeInit) (rest d c) false (Some tells_nothing) m (if q then (Rest d (c + 1), goes) else (Rest d c, ends None no_answer Nothing))
  rest_next below chip1 w s m c lt a h true e = let more : c + 1 < 8 = grind (arith, nat_tests) in (h, (Is_after, Is_own, a, more))
  rest_next below chip1 w s m c lt a h false e = let last : 8 ≤ c + 1 = grind (arith, nat_tests) in (all_rest below chip1 w s (c + 1) last h, (refl, refl, refl))

  are_ended : (w : World) (s : PwmState) → AreEnded d w.now (ended_state d w s)
  are_ended w s = (refl, λ c k lt e. subst (λ x. IsEnded k w.now x) (sym (table_at (λ j. ended (channel_of d j) w.now (pulse_at s j)) c lt)) (ended_is k w.now (channel_of d c) (pulse_at s c) e))

  steps : AllGood d (steady_above d deinit_work deinit_takes deinit_left (deinit_gap d) (deinit_holds d))
  steps below chip w s (Store e) o t m (h, (Is_before, Is_own, pass, on)) = (
    refl,
    record {
      own = tt;
      state = ended_state d w s;
      told = tells_nothing;
      is = λ b. ap (λ z. Some (acts_by d w s calls.DeInit b.committed z)) pass;
      acts = tt;
      next = (switched_off below chip w s on h, (Is_after, Is_own, are_ended w s));
    },
  )
  steps below chip w s (Disable e) o t m (h, (Is_after, Is_own, a)) = (refl, (disabled below chip w s a.0 h, (Is_after, Is_own, a)))
  steps below chip w s (Choose e) o t m (h, (Is_after, Is_own, a)) = (refl, (none_chosen below chip w s a.0 h, (Is_after, Is_own, a, refl)))
  steps below chip w s (Keep e) o t m (h, (Is_after, Is_own, a, is)) = (refl, (none_kept below chip w s a.0 is h, (Is_after, Is_own, a, omega arith)))
  steps below chip w s (Rest e c) o t m (h, (Is_after, Is_own, a, lt)) = (may_rest c (channel_of d c) lt, rest_next below (chip_after chip (rest d c) 0) w s (missed_after (pwm_machine d) w s m) c lt a (rested_by below chip w s c lt a h (channel_of d c) refl) (nat_lt c 7) refl)

  ended_later : (now now1 : ℕ) (s : PwmState) → now ≤ now1 → AreEnded d now s → AreEnded d now1 s
  ended_later now now1 s le a = (a.0, λ c k lt e. let i = a.1 c k lt e in let past = i.past in record { idle = i.idle; off = i.off; past = omega (arith, past, le) })

  later : (f : Pulses) (now now1 : ℕ) (s : PwmState) (k : DeInitBody) (o : Origin Call) (t : Option Told) → now ≤ now1 → deinit_holds d f now s k o t → deinit_holds d f now1 s k o t
  later f now now1 s (Store e) o t le h = h
  later f now now1 s (Disable e) o t le h = (h.0, h.1, ended_later now now1 s le h.2)
  later f now now1 s (Choose e) o t le h = (h.0, h.1, ended_later now now1 s le h.2)
  later f now now1 s (Keep e) o t le (a, b, g, i) = (a, b, ended_later now now1 s le g, i)
  later f now now1 s (Rest e c) o t le (a, b, g, i) = (a, b, ended_later now now1 s le g, i)

  rest_shortens : (e : PwmTable) (c : ℕ) (q : Bool) → nat_lt c 7 ≡ q → Shortens deinit_left (Rest e c) (if q then (Rest e (c + 1), goes) else (Rest e c, ends None no_answer Nothing))
  rest_shortens e c true i = let less : c < 7 = grind (arith, nat_tests) in omega (arith, less)
  rest_shortens e c false i = omega arith

  shortens : (k : DeInitBody) (x : ℕ) → Shortens deinit_left k (deinit_takes k x)
  shortens (Store e) x = omega arith
  shortens (Disable e) x = omega arith
  shortens (Choose e) x = omega arith
  shortens (Keep e) x = omega arith
  shortens (Rest e c) x = rest_shortens e c (nat_lt c 7) refl

  pub deinit_right : AreLong (pwm_basis d) (deinit_bodies d)
  deinit_right = family_right d deinit_work deinit_takes deinit_left (deinit_gap d) (deinit_holds d) shortens later steps
