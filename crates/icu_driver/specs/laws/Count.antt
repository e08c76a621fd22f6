-- The services of an edge counter: their steps, what holds at each, and that they are right.
-- From One, Calls, Steady, Channels, RefinementRight and 1 more.
-- Used by service/count/rt, Lawful, Windows, SampleRight, KeepRight.
use Rattle.std.proofs.Common.{◌≡◌, ◌/◌, ◌%◌, ◌<◌, ◌^◌, ◌||◌, ◌∙◌}
use Rattle.icu_driver.specs.Terms
use Terms.{acted, acting, After, answers, ap, AreRight, arith, Before, below_test, Bodies, Bool, Call, Capture}
use Terms.{capture_at, CaptureAgrees, CaptureCountHigh, CaptureCountLow, CaptureGateClear, CaptureGateSet, Captures}
use Terms.{CaptureZero, channel_of, Chip, chip_after, chip_capture, CountBody, DisableEdgeCount, EdgeCounter, EnableEdgeCount, false, GetEdgeNumbers, icu_ground, IcuTable, IcuRepresents, IcuState, Is_after, Is_before, is_counter, is_measurement, is_timestamp, IsCourse, Lag, None, none, off_on, Option, Origin, outcome, place_of, Read, refl, ResetEdgeCount, settled, Some, stamp_in, Stamps, stands-move, StandsIn, subst, switched, sym, Told, true, Turn, with_capture, word_of, World, Write, zeroed, ℕ}
use Rattle.module_machines.specs.declared.icu.call.Call.TheVariants.{Channel}
use Rattle.icu_driver.specs.declared.service.count.CountBody.TheVariants.{Open, Close, Zero, Low, High}
use Rattle.icu_driver.specs.laws.{Base.{Move, Act, no_answer, BodyTaken, acts_on, ends, number, Nothing, Shortens, bit}}
use Rattle.icu_driver.specs.laws.{Base.{joined}, Calls.{MayCall, acts_is, counts, from_mode, is_there, counting}}
use Rattle.icu_driver.specs.laws.{Calls.{place_by, turns_by, switched_course}, Channels.{gated_agrees, zeroed_agrees}}
use Rattle.module_machines.specs.icu.laws.{Channels.{with_same}}
use Rattle.icu_driver.specs.laws.{One.{ChipLeft, ChannelAgrees, channel_agrees, one_agrees, settled_at}}
use Rattle.icu_driver.specs.laws.{One.{with_state, left_latched, left_channel, left_gate, channel_new, gate_new}}
use Rattle.icu_driver.specs.laws.{Steady.{AllGood, steady, steady_right}}
use Rattle.chip_blocks.specs.declared.captures.capture.Act.TheVariants as turns
use Rattle.chip_blocks.specs.declared.captures.capture.Capture as chips
use Rattle.module_machines.specs.declared.icu.table.Channel as configured

abbrev pub count_work : CountBody → Move
count_work (Open c) = Write CaptureGateSet (bit c)
count_work (Close c) = Write CaptureGateClear (bit c)
count_work (Zero c) = Write (CaptureZero c) 0
count_work (Low c) = Read (CaptureCountLow c)
count_work (High c low) = Read (CaptureCountHigh c)

abbrev pub count_takes : CountBody → ℕ → CountBody × BodyTaken
count_takes (Open c) x = (Open c, ends (Some Act) no_answer Nothing)
count_takes (Close c) x = (Close c, ends (Some Act) no_answer Nothing)
count_takes (Zero c) x = (Zero c, ends (Some Act) no_answer Nothing)
count_takes (Low c) x = (High c x, acts_on)
count_takes (High c low) x = (High c low, ends None (number (joined low x)) Nothing)

abbrev pub count_left : CountBody → ℕ
count_left (Low c) = 2
count_left (Open c) = 1
count_left (Close c) = 1
count_left (Zero c) = 1
count_left (High c low) = 1

pub count_shortens : (k : CountBody) (x : ℕ) → Shortens count_left k (count_takes k x)
count_shortens (Open c) x = omega arith
count_shortens (Close c) x = omega arith
count_shortens (Zero c) x = omega arith
count_shortens (Low c) x = omega arith
count_shortens (High c low) x = omega arith

-- ---- what holds at each; after the act the latch has the high half

abbrev pub count_gap : CountBody → Lag
count_gap k = settled

abbrev pub count_holds : IcuTable → Captures → IcuState → CountBody → Origin Call → Option Told → Type 0
count_holds d f s (Open c) o t = Before (Channel c EnableEdgeCount) o t × MayCall d c EnableEdgeCount × (s.initialised ≡ true)
count_holds d f s (Close c) o t = Before (Channel c DisableEdgeCount) o t × MayCall d c DisableEdgeCount × (s.initialised ≡ true)
count_holds d f s (Zero c) o t = Before (Channel c ResetEdgeCount) o t × MayCall d c ResetEdgeCount × (s.initialised ≡ true)
count_holds d f s (Low c) o t = Before (Channel c GetEdgeNumbers) o t × MayCall d c GetEdgeNumbers × (s.initialised ≡ true)
count_holds d f s (High c low) o t = After (Channel c GetEdgeNumbers) (answers (number (joined low f.latch))) o t × (c < 8)

abbrev pub count_bodies : (d : IcuTable) → Bodies (icu_ground d) CountBody
count_bodies d = steady d count_work count_takes count_left count_gap (count_holds d)

-- the halves of a number make the number
pub halves_join : (n : ℕ) → n < 2 ^ 32 → joined (n % 65536) (n / 65536) ≡ n
halves_join n lt = let a : n < 4294967296 = lt in omega arith

module _ (d : IcuTable) where
  -- a counter's state changes, and its gate or its count
  module _ (chip : Chip) (w : World) (s : IcuState) (c : ℕ) (k : configured.Channel) (lt : c < 8) (known : channel_of d c ≡ Some k) (mode : k.mode ≡ EdgeCounter) (on : s.initialised ≡ true) (h : IcuRepresents d settled chip w s) where
    counted : (chip1 : Chip) (y : Capture) → ChipLeft c w chip chip1 → CaptureAgrees (channel_of d c) false false false s.initialised (s.initialised || false) (chip_capture chip1.captures c) y → IsCourse (channel_of d c) y → ((i : ℕ) → i < 64 → word_of chip1 (place_of (Stamps c) i) ≡ stamp_in y.stored i) → IcuRepresents d settled chip1 w (with_capture s c y)
    counted chip1 y left block course stamps = one_agrees d c lt settled settled (settled_at c) (settled_at c) chip chip1 w s (with_capture s c y) on h left (with_state s c y) (subst (λ z. ChannelAgrees d settled chip1 w s.initialised c z) (sym (with_same s c y lt)) (record {
      block = block;
      words = from_mode d c k known EdgeCounter mode (λ j. word_of chip1 j) none y tt;
      course = course;
      place = place_by d c k known y (ap (λ z. is_timestamp z) mode);
      turns = turns_by d c k known w y (ap (λ z. is_measurement z) mode);
      stamps = λ some i few g. stamps i few;
    }))

    gated : (act : Turn) (q : Bool) → ((now : ℕ) (b : chips.Capture) → acting act now b ≡ record b { gate = q }) → StandsIn (record chip { captures = acted act chip.captures (bit c) }) w → IcuRepresents d settled (record chip { captures = acted act chip.captures (bit c) }) w (with_capture s c (switched q (capture_at s c)))
    gated act q is stands =
        let a = channel_agrees d settled chip w s c lt h in
        let b = chip_capture chip.captures c in
        let m1 = s.initialised || false in
        let empty = a.course.counter (counting d c k known ∙ ap (λ z. is_counter z) mode) in
        counted (record chip { captures = acted act chip.captures (bit c) }) (switched q (capture_at s c)) (left_gate act c w chip lt h.size stands)
        (subst (λ z. CaptureAgrees (channel_of d c) false false false s.initialised m1 z (switched q (capture_at s c))) (sym (gate_new act c chip.captures h.size lt ∙ is chip.captures.time b)) (gated_agrees (channel_of d c) false s.initialised m1 b (capture_at s c) q on (is_there d c k known) empty.0 empty.1 a.block))
        (switched_course (channel_of d c) q (capture_at s c) a.course) (λ i few. a.stamps (is_there d c k known) i few refl)

  steps : AllGood d (count_bodies d)
  steps chip w s (Open c) o t m (h, ((Is_before, i, on), u)) = (
    refl,
    record {
      own = tt;
      state = with_capture s c (switched true (capture_at s c));
      told = answers no_answer;
      is = λ times. acts_is d w s c EnableEdgeCount times.committed i on;
      acts = tt;
      next = (gated chip w s c i.channel i.lt i.known (counts i.channel.mode i.suited) on h turns.Open true (λ now b. refl) (stands-move chip w (Write CaptureGateSet (bit c)) 0 h.outside), (refl, refl, refl));
    },
  )
  steps chip w s (Close c) o t m (h, ((Is_before, i, on), u)) = (
    refl,
    record {
      own = tt;
      state = with_capture s c (switched false (capture_at s c));
      told = answers no_answer;
      is = λ times. acts_is d w s c DisableEdgeCount times.committed i on;
      acts = tt;
      next = (gated chip w s c i.channel i.lt i.known (counts i.channel.mode i.suited) on h turns.Close false (λ now b. refl) (stands-move chip w (Write CaptureGateClear (bit c)) 0 h.outside), (refl, refl, refl));
    },
  )
  steps chip w s (Zero c) o t m (h, ((Is_before, i, on), u)) =
      let a = channel_agrees d settled chip w s c i.lt h in
      let b = chip_capture chip.captures c in
      let x = capture_at s c in
      let m1 = s.initialised || false in (
        below_test c i.lt,
        record {
          own = tt;
          state = with_capture s c (record x { count = 0 });
          told = answers no_answer;
          is = λ times. acts_is d w s c ResetEdgeCount times.committed i on;
          acts = tt;
          next = (counted chip w s c i.channel i.lt i.known (counts i.channel.mode i.suited) on h (chip_after chip (Write (CaptureZero c) 0) 0) (record x { count = 0 }) (left_channel c w chip (zeroed b) (stands-move chip w (Write (CaptureZero c) 0) 0 h.outside)) (subst (λ z. CaptureAgrees (channel_of d c) false false false s.initialised m1 z (record x { count = 0 })) (sym (channel_new c chip.captures (zeroed b) h.size i.lt)) (zeroed_agrees (channel_of d c) false s.initialised m1 b x false false (λ f. off_on f) a.block)) (record { room = a.course.room; times = a.course.times; counter = a.course.counter; off = a.course.off; start = a.course.start; count = omega arith; unstarted = a.course.unstarted; uncounted = λ f. refl }) (λ j few. a.stamps (is_there d c i.channel i.known) j few refl), (refl, refl, refl));
        },
      )
  steps chip w s (Low c) o t m (h, ((Is_before, i, on), u)) =
      let a = channel_agrees d settled chip w s c i.lt h in
      let b = chip_capture chip.captures c in
      let x = capture_at s c in
      let n = b.count in
      let is = a.block.count refl in
      let small : n < 2 ^ 32 = subst (λ z. z < 2 ^ 32) (sym is) a.course.count in
      let same : joined (n % 65536) (n / 65536) ≡ x.count = halves_join n small ∙ is in (
        below_test c i.lt,
        record {
          own = tt;
          state = with_capture s c x;
          told = answers (number (joined (n % 65536) (n / 65536)));
          is = λ times. acts_is d w s c GetEdgeNumbers times.committed i on ∙ ap (λ z. Some (outcome (with_capture s c x) (answers (number z)))) (sym same);
          acts = refl;
          next = (counted chip w s c i.channel i.lt i.known (counts i.channel.mode i.suited) on h (chip_after chip (Read (CaptureCountLow c)) 0) x (left_latched c w chip (n / 65536) (stands-move chip w (Read (CaptureCountLow c)) 0 h.outside)) a.block a.course (λ j few. a.stamps (is_there d c i.channel i.known) j few refl), ((Is_after, i.lt), tt));
        },
      )
  steps chip w s (High c low) o t m (h, ((Is_after, lt), u)) = (below_test c lt, (h, (refl, refl, refl)))

  pub count_right : AreRight (icu_ground d) (count_bodies d)
  count_right = steady_right d count_work count_takes count_left count_gap (count_holds d) count_shortens steps
