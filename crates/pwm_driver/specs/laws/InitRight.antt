-- The commits of Pwm_Init, its act, and that its steps are right.
-- From Init, Units, Base, InitWrites, Parts and 9 more.
-- Used by Lawful.
use Rattle.std.proofs.Common.{◌≡◌, ◌+◌, ◌*◌, ◌/◌, ◌%◌, ◌<◌, ◌≤◌, ◌&&◌, ◌||◌, [], ◌∙◌, if◌then◌else◌}
use Rattle.pwm_driver.specs.Terms
use Terms.{absolute, Act, acts_by, ap, AreLong, arith, AssertedAt, below_test, BodyTaken, Bool, by_eight, Call, Called}
use Terms.{Channel, channel_of, Chip, chip_after, Commit, committed_after, cond, each_but, Enable, EnableSet, ends}
use Terms.{eq_other, eq_self, error_by, false, FrameHistory, fresh_history, goes, has_bit, has_bit-or, InitBody}
use Terms.{is_closed, Is_own, is_shared, is_some, Is_this_frame, IsQuiet, IsSetUp, KindAgrees, KINDS, LINES, Load}
use Terms.{MakesTo, missed_after, Move, nat_lt, nat_tests, never_clean, no_answer, None, not, Nothing, Option, or_true}
use Terms.{Origin, output_in, period_in, period_word, place_at, plain_makes, plain_turns, polarity_of, pulse_at, pulse_at-other, pulse_at-same, PulseCommit, Pulses, pwm_basis, pwm_machine, pwm_may, PwmTable, PwmRepresents, PwmState, refl, Reservations, Right, settled, Setup, Shortens, Some, stands-move, started, STATE, stored_other, stored_same, Stores, subst, sweep_right, sym, table, table_at, tells_nothing, time_or, true, TurnsMask, TurnsTo, UnitAgrees, value_of, with_at, with_holds, word_of, World, world_after, Write, ℕ}
use Rattle.pwm_driver.specs.declared.service.init.InitBody.TheVariants.{Store}
use Rattle.pwm_driver.specs.laws.{Base.{pulses_of, foot_later, now_later}, RefinementRight.{basis_right}}
use Rattle.pwm_driver.specs.laws.{Init.{IsPlain, Is_alone, Is_setup, IsSetting, Runs, HaveBegun, with_commits}}
use Rattle.pwm_driver.specs.laws.{Init.{IsBeginning, begun_below, written, commit_of, commit, init_work, init_takes}}
use Rattle.pwm_driver.specs.laws.{Init.{init_left, init_spot, init_bodies, begin_bodies, setting_up, setup_move}}
use Rattle.pwm_driver.specs.laws.{Init.{setup_is, setup_may, setup_plain, setup_commits}, InitWrites.{less, one}}
use Rattle.pwm_driver.specs.laws.{InitWrites.{step_by}, Output.{wave_is}, Units.{chip_with, off_set, setup_kept}}
use Rattle.pwm_driver.specs.laws.{Units.{waved_at}}
use Rattle.chip_blocks.specs.pulses.Pulses as pulses
use Rattle.chip_blocks.specs.declared.pulses.pulse.Output.TheVariants as units
use Rattle.chip_blocks.specs.declared.pulses.pulse.Pulse as unit
use Rattle.module_machines.specs.declared.pwm.call.Call.TheVariants as calls

-- ---- a commit

module _ (d : PwmTable) where
  -- a channel of these is held open from its commit on
  opened_here : (c : ℕ) (k : Channel) → channel_of d c ≡ Some k → is_some (channel_of d c) && nat_lt c (c + 1) ≡ true
  opened_here c k e = ap (λ o. is_some o && nat_lt c (c + 1)) e ∙ now c
    where
      now : (c : ℕ) → nat_lt c (c + 1) ≡ true
      now c = grind (arith, nat_tests)

  closed_here : (c : ℕ) → is_some (channel_of d c) && nat_lt c c ≡ false
  closed_here c = by (is_some (channel_of d c)) c
    where
      by : (q : Bool) (c : ℕ) → q && nat_lt c c ≡ false
      by true c = grind (arith, nat_tests)
      by false c = refl

  fewer : (q : Bool) (c k : ℕ) → q && nat_lt k (c + 1) ≡ false → q && nat_lt k c ≡ false
  fewer true c k e = grind (arith, nat_tests)
  fewer false c k e = refl

  module _ (c : ℕ) (chip : Chip) (w : World) (s : PwmState) (lt : c < 8) (h : PwmRepresents d (one 32) (begun_below d c) chip w s) where
    abbrev q : unit.Pulse
    q = pulses.taken chip.pulses.time (pulses.pulse_at chip.pulses c)

    committed_now : (k : Channel) (received : ℕ) → channel_of d c ≡ Some k → PwmRepresents d (one 32) (begun_below d (c + 1)) (chip_after chip (Write (PulseCommit c) 1) received) w s
    committed_now k received e = off_set d (one 32) (one 32) chip w s c q (begun_below d c).units (begun_below d (c + 1)).units lt h.right.1 h.right
        (setup_kept d (one 32) chip (chip_with chip c q) (λ j l. waved_at chip c j q h.size lt refl) (λ j l. refl) h.setup)
        (stands-move chip w (Write (PulseCommit c) 1) received h.outside) (λ g. absurd (let f = sym (opened_here c k e) ∙ g in cc)) (λ j ne g. fewer (is_some (channel_of d j)) c j g) h

    none_committed : channel_of d c ≡ None → PwmRepresents d (one 32) (begun_below d (c + 1)) chip w s
    none_committed e = record {
      right = h.right;
      setup = h.setup;
      outside = h.outside;
      size = h.size;
      units = λ j l g. h.units j l (fewer (is_some (channel_of d j)) c j g);
      kinds = h.kinds;
      words = record { state = h.words.state; kinds = h.words.kinds; periods = h.words.periods };
      lines = h.lines;
      clean = h.clean;
      unused = h.unused;
    }

    -- its output was idle, and its registers hold its defaults
    begins_now : (k : Channel) → channel_of d c ≡ Some k → q.output ≡ units.Runs (record { start = w.now; wave = record { period = k.period_ticks; duty = absolute k.period_ticks k.duty_cycle_default; high = k.polarity_high } })
    begins_now k e =
        let full = subst (λ o. IsSetUp o 32 c (word_of chip (period_word c)) (pulses.pulse_at chip.pulses c).wave) e (h.setup.0 c lt) in
        let quiet = h.clean h.right.1 c lt in
        let idle : (pulses.pulse_at chip.pulses c).output ≡ units.Idle quiet.level = (h.units c lt (closed_here c)).output ∙ ap (λ o. output_in (polarity_of (channel_of d c)) o) quiet.idle in
        let v = (pulses.pulse_at chip.pulses c).wave in
        ap (λ o. pulses.committed v chip.pulses.time o) idle
        ∙ (ap (λ t. units.Runs (record { start = t; wave = v })) (h.outside.together.pulses ∙ h.outside.now)
        ∙ ap (λ x. units.Runs (record { start = w.now; wave = x })) (wave_is v k.period_ticks (absolute k.period_ticks k.duty_cycle_default) k.polarity_high (full.period (omega (arith, lt))) (full.duty (omega (arith, lt))) (full.high (omega (arith, lt)))))

    begun_more : (k : Channel) (times : ℕ → Option ℕ) → channel_of d c ≡ Some k → HaveBegun d c (pulses_of chip) w.now times → HaveBegun d (c + 1) (pulses_of (chip_with chip c q)) w.now (with_at times c (Some w.now))
    begun_more k times e b j x l under known = each_but (λ n. n < 8 → n < c + 1 → (x : Channel) → channel_of d n ≡ Some x → Runs x w.now (with_at times c (Some w.now) n) (pulses_of (chip_with chip c q)) n) c
        (λ n u y known. record {
          start = w.now;
          is = ap (λ z. cond z (Some w.now) (times c)) (eq_self c);
          past = omega arith;
          output = ap (λ z. z.output) (pulse_at-same chip.pulses c q (record { all = h.size; within = lt })) ∙ begins_now y known;
        }) j
        (λ ne n u y known. let r = b j y n (less j c u ne) known in record {
          start = r.start;
          is = ap (λ z. cond z (Some w.now) (times j)) (eq_other j c ne) ∙ r.is;
          past = r.past;
          output = ap (λ z. z.output) (pulse_at-other chip.pulses c j q ne) ∙ r.output;
        }) l under x known

    begun_same : (times : ℕ → Option ℕ) → channel_of d c ≡ None → HaveBegun d c (pulses_of chip) w.now times → HaveBegun d (c + 1) (pulses_of chip) w.now times
    begun_same times e b j x l under known = each_but (λ n. n < 8 → n < c + 1 → (x : Channel) → channel_of d n ≡ Some x → Runs x w.now (times n) (pulses_of chip) n) c
        (λ n u y known. absurd (let f = sym e ∙ known in cc)) j
        (λ ne n u y known. b j y n (less j c u ne) known) l under x known

-- ---- the act

module _ (d : PwmTable) (times : ℕ → Option ℕ) (chip : Chip) (w : World) (s : PwmState) (received : ℕ) (b : HaveBegun d 8 (pulses_of chip) w.now times) (h : PwmRepresents d (one 32) (record (begun_below d 8) { lines = Some true }) chip w s) where
  abbrev now_of : ℕ → ℕ
  now_of c = time_or w.now (times c)

  abbrev begun_state : PwmState
  begun_state = record { initialised = true; channels = table (λ c. started (channel_of d c) (now_of c) (pulse_at s c)) }

  begun_is : (c : ℕ) → c < 8 → pulse_at begun_state c ≡ started (channel_of d c) (now_of c) (pulse_at s c)
  begun_is c lt = table_at (λ k. started (channel_of d k) (now_of k) (pulse_at s k)) c lt

  unit_by : (c : ℕ) → c < 8 → (o : Option Channel) → channel_of d c ≡ o → UnitAgrees (polarity_of o) w.now (pulses.pulse_at chip.pulses c) (started o (now_of c) (pulse_at s c))
  unit_by c lt None e = subst (λ o. UnitAgrees (polarity_of o) w.now (pulses.pulse_at chip.pulses c) (pulse_at s c)) e (h.units c lt (ap (λ o. is_some o && nat_lt c 8) e))
  unit_by c lt (Some k) e =
      let r = b c k lt lt e in
      let at : now_of c ≡ r.start = ap (λ t. time_or w.now t) r.is in
      let past = r.past in
      record {
        output = r.output ∙ ap (λ t. units.Runs (record { start = t; wave = record { period = k.period_ticks; duty = absolute k.period_ticks k.duty_cycle_default; high = k.polarity_high } })) (sym at);
        begun = omega arith;
        past = omega (arith, at, past);
        marks = tt;
      }

  kind_by : (c : ℕ) (o : Option Channel) → (pulse_at s c).notified ≡ None → (started o (now_of c) (pulse_at s c)).notified ≡ (pulse_at s c).notified
  kind_by c None e = refl
  kind_by c (Some k) e = sym e

  period_by : (c : ℕ) → c < 8 → (o : Option Channel) → channel_of d c ≡ o → is_some o ≡ true → word_of chip (period_word c) ≡ (started o (now_of c) (pulse_at s c)).period
  period_by c lt None e there = absurd (cc)
  period_by c lt (Some k) e there = (h.setup.0 c lt).kept (omega (arith, lt)) ∙ ap (λ o. period_in o) e

  quiet_by : (c : ℕ) (o : Option Channel) → o ≡ None → IsQuiet (pulse_at s c) → IsQuiet (started o (now_of c) (pulse_at s c))
  quiet_by c None e q = q
  quiet_by c (Some k) e q = absurd (cc)

  acted : PwmRepresents d [] settled (chip_after chip (Stores STATE 1) received) w begun_state
  acted = record {
    right = tt;
    setup = tt;
    outside = stands-move chip w (Stores STATE 1) received h.outside;
    size = h.size;
    units = λ c lt g. subst (λ x. UnitAgrees (polarity_of (channel_of d c)) w.now (pulses.pulse_at chip.pulses c) x) (sym (begun_is c lt)) (unit_by c lt (channel_of d c) refl);
    kinds = λ c lt g. subst (λ n. KindAgrees chip.pulses.edges c n) (sym (ap (λ x. x.notified) (begun_is c lt) ∙ kind_by c (channel_of d c) (h.clean h.right.1 c lt).off)) (h.kinds c lt refl);
    words = record {
      state = λ g. stored_same chip STATE 1 received (omega arith) h.outside.all.words;
      kinds = λ g. stored_other chip STATE 1 received KINDS (λ e. absurd (omega (arith, e))) ∙ h.words.kinds refl;
      periods = λ on c lt there g. stored_other chip STATE 1 received (period_word c) (λ e. absurd (omega (arith, e))) ∙ (period_by c lt (channel_of d c) refl there ∙ sym (ap (λ x. x.period) (begun_is c lt)));
    };
    lines = h.lines;
    clean = λ off. absurd (cc);
    unused = λ c lt e. subst IsQuiet (sym (begun_is c lt)) (quiet_by c (channel_of d c) e (h.unused c lt e));
  }

-- ---- the steps of the window

module _ (d : PwmTable) (chip : Chip) (w : World) (s : PwmState) where
  lines_set : (received : ℕ) → PwmRepresents d (one 32) (begun_below d 8) chip w s → PwmRepresents d (one 32) (record (begun_below d 8) { lines = Some true }) (chip_after chip (Write EnableSet LINES) received) w s
  lines_set received h = record {
    right = h.right;
    setup = setup_kept d (one 32) chip (chip_after chip (Write EnableSet LINES) received) (λ c lt. refl) (λ c lt. refl) h.setup;
    outside = stands-move chip w (Write EnableSet LINES) received h.outside;
    size = h.size;
    units = h.units;
    kinds = h.kinds;
    words = record { state = h.words.state; kinds = h.words.kinds; periods = h.words.periods };
    lines = λ c lt. has_bit-or chip.control.enabled LINES (c + 8) ∙ (ap (λ q. has_bit chip.control.enabled (c + 8) || q) (by_eight (λ i. has_bit LINES (i + 8) ≡ true) refl refl refl refl refl refl refl refl c lt) ∙ or_true (has_bit chip.control.enabled (c + 8)) refl);
    clean = h.clean;
    unused = h.unused;
  }

  module _ (x y : ℕ) (times : ℕ → Option ℕ) (m : ℕ → Bool) (off : s.initialised ≡ false) where
    abbrev To : Chip → Move → InitBody × BodyTaken → Type 0
    To after made k = MakesTo (pwm_basis d) (init_bodies d) [] chip after w s (Called calls.Init) made false x y (with_commits times) m k

    -- a commit leads to the next one, and the last one to the enabling
    next_by : (after : Chip) (made : Move) (c : ℕ) → is_shared made ≡ false → c < 8 → PwmRepresents d (one 32) (begun_below d (c + 1)) after w s → HaveBegun d (c + 1) (pulses_of after) w.now (committed_after w times made) → (q : Bool) → nat_lt c 7 ≡ q → To after made (if q then (Commit d (c + 1), goes) else (Enable, goes))
    next_by after made c plain lt h b true e = let more : c + 1 < 8 = grind (arith, nat_tests) in plain_makes (pwm_basis d) (init_bodies d) [] chip after w s (Called calls.Init) false x y (with_commits times) m (Commit d (c + 1)) None None made plain (h, ((committed_after w times made, Is_this_frame, Is_alone, off, b), Is_own, more))
    next_by after made c plain lt h b false e =
        let last : c + 1 ≡ 8 = grind (arith, nat_tests) in
        plain_makes (pwm_basis d) (init_bodies d) [] chip after w s (Called calls.Init) false x y (with_commits times) m Enable None None made plain
        (subst (λ n. PwmRepresents d (one 32) (begun_below d n) after w s) last h, (committed_after w times made, Is_this_frame, Is_alone, off, subst (λ n. HaveBegun d n (pulses_of after) w.now (committed_after w times made)) last b))

    commits : (c : ℕ) → c < 8 → PwmRepresents d (one 32) (begun_below d c) chip w s → HaveBegun d c (pulses_of chip) w.now times → (o : Option Channel) → channel_of d c ≡ o → To (chip_after chip (commit_of c o) y) (commit_of c o) (if nat_lt c 7 then (Commit d (c + 1), goes) else (Enable, goes))
    commits c lt h b None e = next_by chip (Load STATE) c refl lt (none_committed d c chip w s lt h e) (begun_same d c chip w s lt h times e b) (nat_lt c 7) refl
    commits c lt h b (Some k) e = next_by (chip_after chip (Write (PulseCommit c) 1) y) (Write (PulseCommit c) 1) c refl lt (committed_now d c chip w s lt h k y e) (begun_more d c chip w s lt h k times e b) (nat_lt c 7) refl

    acts_now : HaveBegun d 8 (pulses_of chip) w.now times → PwmRepresents d (one 32) (record (begun_below d 8) { lines = Some true }) chip w s → To (chip_after chip (Stores STATE 1) y) (Stores STATE 1) (Store, ends (Some Act) no_answer Nothing)
    acts_now b h = record {
      may = refl;
      stands = tt;
      state = begun_state d times chip w s y b h;
      told = tells_nothing;
      begins = None;
      is = ap (λ q. Some (acts_by d w s calls.Init (λ c. time_or w.now (times c)) (error_by d calls.Init (not q)))) off;
      sends = tt;
      acts = tt;
      reset = refl;
      next = (acted d times chip w s y b h, record { may = (refl, refl); served = false; owed = refl; shown = λ e. absurd (cc); report = refl });
    }

module _ (d : PwmTable) where
  steps : (below : Reservations) (chip : Chip) (w : World) (s : PwmState) (k : InitBody) (o : Origin Call) (y : ℕ) (t : FrameHistory) (m : ℕ → Bool) → AssertedAt (pwm_basis d) (init_bodies d) below chip w s k o t → Right (pwm_basis d) (init_bodies d) below chip w s k o y t m
  steps below chip w s (Commit e c) o y t m (h, ((times, Is_this_frame, Is_alone, off, b), Is_own, lt)) = commits d chip w s (value_of chip (commit d c)) y times (missed_after (pwm_machine d) w s m) off c lt h b (channel_of d c) refl
  steps below chip w s Enable o y t m (h, (times, Is_this_frame, Is_alone, off, b)) = (lines_set d chip w s y h, (times, Is_this_frame, Is_alone, off, b))
  steps below chip w s Store o y t m (h, (times, Is_this_frame, Is_alone, off, b)) = acts_now d chip w s (value_of chip (Stores STATE 1)) y times (missed_after (pwm_machine d) w s m) off b h

  commit_may : (c : ℕ) (o : Option Channel) → c < 8 → pwm_may (commit_of c o) ≡ true
  commit_may c None lt = refl
  commit_may c (Some k) lt = below_test c lt

  may : (below : Reservations) (chip : Chip) (w : World) (s : PwmState) (k : InitBody) (o : Origin Call) (t : FrameHistory) → AssertedAt (pwm_basis d) (init_bodies d) below chip w s k o t → pwm_may (init_work k) ≡ true
  may below chip w s (Commit e c) o t (h, (b, own, lt)) = commit_may c (channel_of e c) lt
  may below chip w s Enable o t h = refl
  may below chip w s Store o t h = refl

  commit_calm : (c : ℕ) (o : Option Channel) → IsPlain (commit_of c o)
  commit_calm c None = (refl, refl)
  commit_calm c (Some k) = (refl, refl)

  calm : (k : InitBody) → IsPlain (init_work k)
  calm (Commit e c) = commit_calm c (channel_of e c)
  calm Enable = (refl, refl)
  calm Store = (refl, refl)

  commit_plain : (c : ℕ) (o : Option Channel) → is_shared (commit_of c o) ≡ false
  commit_plain c None = refl
  commit_plain c (Some k) = refl

  next_shortens : (e : PwmTable) (c : ℕ) (q : Bool) → nat_lt c 7 ≡ q → Shortens init_left (Commit e c) (if q then (Commit e (c + 1), goes) else (Enable, goes))
  next_shortens e c true i = let few : c < 7 = grind (arith, nat_tests) in omega (arith, few)
  next_shortens e c false i = omega arith

  abbrev next_place : PwmTable → ℕ → Bool → InitBody × BodyTaken
  next_place e c q = if q then (Commit e (c + 1), goes) else (Enable, goes)

  next_turns : (e : PwmTable) (c : ℕ) (made : Move) → is_shared made ≡ false → (q : Bool) → nat_lt c 7 ≡ q → TurnsMask 32 true (is_closed (init_spot d (next_place e c q).0)) (init_left (Commit e c)) (init_left (next_place e c q).0) made (next_place e c q).1.event (next_place e c q).1.done
  next_turns e c made plain true i = let few : c < 7 = grind (arith, nat_tests) in plain_turns 32 true true _ _ made None None plain (refl, omega (arith, few))
  next_turns e c made plain false i = plain_turns 32 true true _ _ made None None plain (refl, omega arith)

  turns : (k : InitBody) (x : ℕ) → TurnsTo (init_bodies d) 32 k (init_takes k x)
  turns (Commit e c) x = next_turns e c (commit e c) (commit_plain c (channel_of e c)) (nat_lt c 7) refl
  turns Enable x = (refl, omega arith)
  turns Store x = omega arith

  shortens : (k : InitBody) (x : ℕ) → Shortens init_left k (init_takes k x)
  shortens (Commit e c) x = next_shortens e c (nat_lt c 7) refl
  shortens Enable x = omega arith
  shortens Store x = omega arith

  runs_later : (k : Channel) (now now1 : ℕ) (time : Option ℕ) (f : Pulses) (c : ℕ) → now ≤ now1 → Runs k now time f c → Runs k now1 time f c
  runs_later k now now1 time f c le r = let past = r.past in record { start = r.start; is = r.is; past = omega (arith, past, le); output = r.output }

  stays : (upto : ℕ) (below : Reservations) (f : Pulses) (now now1 : ℕ) (s : PwmState) (o : Origin Call) (t : FrameHistory) → now ≤ now1 → IsBeginning d upto below f now s o t → IsBeginning d upto below f now1 s o t
  stays upto below f now now1 s o t le (times, being, alone, off, b) = (times, being, alone, off, λ c k lt under e. runs_later k now now1 (times c) f c le (b c k lt under e))

  later : (k : InitBody) (below : Reservations) (f : Pulses) (w w1 : World) (s : PwmState) (o : Origin Call) (t : FrameHistory) → w.now ≤ w1.now → place_at (init_spot d k) below f w s o t → place_at (init_spot d k) below f w1 s o t
  later (Commit e c) below f w w1 s o t le h = (stays c below f w.now w1.now s o t le h.0, h.1, h.2)
  later Enable below f w w1 s o t le h = stays 8 below f w.now w1.now s o t le h
  later Store below f w w1 s o t le h = stays 8 below f w.now w1.now s o t le h

  last_right : AreLong (pwm_basis d) (init_bodies d)
  last_right = record {
    own = λ below chip w s k o t h. or_true (is_shared (init_work k)) (may below chip w s k o t h);
    turns = λ below chip w s k o t h. turns k (value_of chip (init_work k));
    steps = λ below chip w s k o y t m come few h. steps below chip w s k o y t m h;
    later = λ below chip w s order k o t come shut h. subst (λ f. place_at (init_spot d k) below f (world_after w chip.clock.rate order) s o t) (sym (foot_later chip order)) (later k below (pulses_of chip) w (world_after w chip.clock.rate order) s o t (now_later w chip.clock.rate order) h.1);
    calm = λ below chip w s k o t h e. calm k;
    shortens = shortens;
    cleans = λ k x. never_clean (init_work k) k (init_takes k x);
  }

  -- ---- the sweep

  step : (r : Setup) (i : ℕ) (below : Reservations) (chip : Chip) (w : World) (s : PwmState) (o : Origin Call) (t : FrameHistory) → i < 32 → IsSetting d r below o t → PwmRepresents d (with_holds o t.acted (written i) below) settled chip w s → PwmRepresents d (with_holds o t.acted (written (i + 1)) below) settled (chip_after chip (setup_move r i) 0) w s
  step r i below chip w s o t lt (Is_this_frame, Is_alone, Is_setup) h =
      let q : Setup = record { driver = d } in
      let few : i / 4 < 8 = omega (arith, lt) in
      let low : i % 4 < 4 = omega arith in
      let whole : i ≡ 4 * (i / 4) + i % 4 = omega arith in
      subst (λ made. PwmRepresents d (one (i + 1)) settled (chip_after chip made 0) w s) (sym (setup_is q i lt)) (step_by d i (i / 4) chip w s refl few h (i % 4) 0 low whole)

  follows : (r : Setup) (below : Reservations) (chip : Chip) (w : World) (s : PwmState) (o : Origin Call) (t : FrameHistory) → IsSetting d r below o t → PwmRepresents d (with_holds o t.acted (written 32) below) settled chip w s → AssertedAt (pwm_basis d) (init_bodies d) below chip w s (Commit r.driver 0) o t
  follows r below chip w s o t (Is_this_frame, Is_alone, Is_setup) h = (
    record {
      right = h.right;
      setup = h.setup;
      outside = h.outside;
      size = h.size;
      units = λ c lt g. h.units c lt refl;
      kinds = h.kinds;
      words = record { state = h.words.state; kinds = h.words.kinds; periods = h.words.periods };
      lines = h.lines;
      clean = h.clean;
      unused = h.unused;
    },
    ((fresh_history.committed, Is_this_frame, Is_alone, h.right.1, λ c k lt under e. absurd (omega (arith, under))), Is_own, omega arith),
  )

  pub init_right : AreLong (pwm_basis d) (begin_bodies d)
  init_right = sweep_right (pwm_basis d) (setting_up d) (init_bodies d) (basis_right d) last_right (record {
    own = λ r i below o t lt h. setup_may r i lt;
    still = λ r i. setup_plain r i;
    step = step;
    stays = λ r i below w o t h. subst (λ times. IsSetting d r below o (record t { committed = times })) (sym (setup_commits r i w t.committed)) h;
    follows = follows;
    closed = λ r. refl;
    room = λ r below o t h. omega arith;
    unclean = λ k. refl;
  })

  -- none of its writes is made yet
  pub begins_setup : (chip : Chip) (w : World) (s : PwmState) → s.initialised ≡ false → PwmRepresents d [] settled chip w s → PwmRepresents d (one 0) settled chip w s
  begins_setup chip w s off h = record {
    right = (refl, off, tt);
    setup = (λ c lt. record { kept = λ l. absurd (omega (arith, l)); period = λ l. absurd (omega (arith, l)); duty = λ l. absurd (omega (arith, l)); high = λ l. absurd (omega (arith, l)) }, tt);
    outside = h.outside;
    size = h.size;
    units = h.units;
    kinds = h.kinds;
    words = record { state = h.words.state; kinds = h.words.kinds; periods = h.words.periods };
    lines = h.lines;
    clean = h.clean;
    unused = h.unused;
  }
