-- The services that only switch a channel on or off: their steps, what holds at each, and that they are right.
-- From Calls, One, Channels, Steady, RefinementRight and 1 more.
-- Used by service/gate/rt, Lawful, Windows, Measure, Stamp.
use Rattle.std.proofs.Common.{◌≡◌, ◌<◌, ◌||◌, ◌==◌, ◌∙◌}
use Rattle.icu_driver.specs.Terms
use Terms.{acted, acting, After, answers, ap, AreRight, arith, bare, Before, below_test, Bodies, Bool, Call, Capture}
use Terms.{capture_at, CaptureAgrees, CaptureFlush, CaptureGateClear, CaptureGateSet, Captures, channel_answer}
use Terms.{channel_of, channel_work, ChannelCall, ChannelWords, Chip, chip_after, chip_capture, counts_edges}
use Terms.{DisableEdgeDetection, EdgeCounter, emptying, EnableEdgeDetection, eq_self, false, flushed, GateBody, halves, icu_ground, IcuTable, IcuMeasurementMode, IcuRepresents, IcuState, Is_after, Is_before, is_counter, is_measurement, is_timestamp, Lag, length-at_bits, ModeWords, None, none, off_on, opening, Option, Origin, outcome, refl, settled, SignalEdgeDetect, SignalMeasurement, Some, stands-move, StandsLow, StopSignalMeasurement, subst, suits, switched, sym, Timestamp, Told, true, with_capture, word_of, World, Write, ℕ}
use Rattle.module_machines.specs.declared.icu.call.Call.TheVariants.{Channel}
use Rattle.icu_driver.specs.declared.service.gate.GateBody.TheVariants.{Open, Empty, Close, Drop}
use Rattle.icu_driver.specs.laws.{Calls.{MayCall, acts_is, detects, measures, to_mode, from_mode, is_there, counting}}
use Rattle.icu_driver.specs.laws.{Calls.{place_by, turns_by, switched_course, off_place, off_turns, opening_at}}
use Rattle.icu_driver.specs.laws.{Calls.{emptying_at, bare_at, calm_on}, Channels.{opened_agrees, emptied_agrees}}
use Rattle.icu_driver.specs.laws.{Channels.{closed_agrees, dropped_agrees}, One.{ChannelAgrees, channel_agrees}}
use Rattle.module_machines.specs.icu.laws.{Channels.{with_same}}
use Rattle.icu_driver.specs.laws.{One.{one_agrees, settled_at, same_state, with_state, left_channel}}
use Rattle.icu_driver.specs.laws.{One.{left_gate, channel_new, gate_new}, Steady.{AllGood, steady, steady_right}}
use Rattle.icu_driver.specs.laws.{Base.{Move, Act, no_answer, BodyTaken, goes, acts_on, ends, Nothing, Shortens, bit}}
use Rattle.chip_blocks.specs.declared.captures.capture.Act.TheVariants as acts
use Rattle.module_machines.specs.declared.icu.table.Channel as configured

abbrev pub gate_work : GateBody → Move
gate_work (Open c) = Write CaptureGateSet (bit c)
gate_work (Empty c) = Write (CaptureFlush c) 0
gate_work (Close c) = Write CaptureGateClear (bit c)
gate_work (Drop c) = Write (CaptureFlush c) 0

abbrev pub gate_takes : GateBody → ℕ → GateBody × BodyTaken
gate_takes (Open c) x = (Empty c, goes)
gate_takes (Empty c) x = (Empty c, ends (Some Act) no_answer Nothing)
gate_takes (Close c) x = (Drop c, acts_on)
gate_takes (Drop c) x = (Drop c, ends None no_answer Nothing)

abbrev pub gate_left : GateBody → ℕ
gate_left (Open c) = 2
gate_left (Empty c) = 1
gate_left (Close c) = 2
gate_left (Drop c) = 1

pub gate_shortens : (k : GateBody) (x : ℕ) → Shortens gate_left k (gate_takes k x)
gate_shortens (Open c) x = omega arith
gate_shortens (Empty c) x = omega arith
gate_shortens (Close c) x = omega arith
gate_shortens (Drop c) x = omega arith

-- ---- what holds at each; an edge that comes to a gate that is closed changes nothing

abbrev pub gate_gap : GateBody → Lag
gate_gap (Open c) = settled
gate_gap (Empty c) = opening c
gate_gap (Close c) = settled
gate_gap (Drop c) = emptying c

-- the call switches off a channel that detects or measures
abbrev pub closes : ChannelCall → Bool
closes DisableEdgeDetection = true
closes StopSignalMeasurement = true
closes _ = false

abbrev pub gate_holds : IcuTable → Captures → IcuState → GateBody → Origin Call → Option Told → Type 0
gate_holds d f s (Open c) o t = Before (Channel c EnableEdgeDetection) o t × MayCall d c EnableEdgeDetection × (s.initialised ≡ true)
gate_holds d f s (Empty c) o t = Before (Channel c EnableEdgeDetection) o t × MayCall d c EnableEdgeDetection × (s.initialised ≡ true) × ((chip_capture f c).gate ≡ true)
gate_holds d f s (Close c) o t = (call : ChannelCall) × Before (Channel c call) o t × MayCall d c call × (s.initialised ≡ true) × (closes call ≡ true)
gate_holds d f s (Drop c) o t = (call : ChannelCall) × After (Channel c call) (answers no_answer) o t × (c < 8) × (s.initialised ≡ true) × ((capture_at s c).on ≡ false)

abbrev pub gate_bodies : (d : IcuTable) → Bodies (icu_ground d) GateBody
gate_bodies d = steady d gate_work gate_takes gate_left gate_gap (gate_holds d)

-- a call that closes stops its channel, and answers nothing
closed_work : (call : ChannelCall) (x : Capture) → closes call ≡ true → channel_work call x ≡ switched false x
closed_work DisableEdgeDetection x e = refl
closed_work StopSignalMeasurement x e = refl
closed_work _ x e = off_on e

closed_answer : (k : configured.Channel) (call : ChannelCall) (x : Capture) → closes call ≡ true → channel_answer k call x ≡ no_answer
closed_answer k DisableEdgeDetection x e = refl
closed_answer k StopSignalMeasurement x e = refl
closed_answer k _ x e = off_on e

closed_halves : (c : ℕ) (call : ChannelCall) → closes call ≡ true → halves (Channel c call) ≡ None
closed_halves c DisableEdgeDetection e = refl
closed_halves c StopSignalMeasurement e = refl
closed_halves c _ e = off_on e

-- a channel that stamps isn't stopped so
closed_mode : (call : ChannelCall) (k : configured.Channel) → closes call ≡ true → suits call k ≡ true → is_timestamp k.mode ≡ false
closed_mode DisableEdgeDetection k e i = ap (λ m. is_timestamp m) (detects k.mode i)
closed_mode StopSignalMeasurement k e i = ap (λ m. is_timestamp m) (measures k.mode i)
closed_mode _ k e i = off_on e

words_off : (m : IcuMeasurementMode) (at : ℕ → ℕ) (behind : ℕ → Bool) (c : ℕ) (k : configured.Channel) (x : Capture) → is_timestamp m ≡ false → ModeWords m at behind c k x → ModeWords m at behind c k (switched false x)
words_off SignalEdgeDetect at behind c k x e h = record { switch = h.switch; mark = h.mark }
words_off EdgeCounter at behind c k x e h = tt
words_off Timestamp at behind c k x e h = off_on (sym e)
words_off SignalMeasurement at behind c k x e h = record { waits = h.waits; mark = h.mark; seen = λ f g. off_on g; start = λ f g. off_on g; opposite = λ f g. off_on g; value = h.value; time = h.time }

module _ (d : IcuTable) where
  -- the gate is opened
  pub opened : (chip : Chip) (w : World) (s : IcuState) (c : ℕ) → c < 8 → s.initialised ≡ true → counts_edges (channel_of d c) ≡ false → IcuRepresents d settled chip w s → IcuRepresents d (opening c) (chip_after chip (Write CaptureGateSet (bit c)) 0) w s
  opened chip w s c lt on counter h =
      let k = channel_of d c in
      let x = capture_at s c in
      let b = chip_capture chip.captures c in
      let m = s.initialised || false in
      let a = channel_agrees d settled chip w s c lt h in
      one_agrees d c lt settled (opening c) (settled_at c) (opening_at c) chip (chip_after chip (Write CaptureGateSet (bit c)) 0) w s s on h (left_gate acts.Open c w chip lt h.size (stands-move chip w (Write CaptureGateSet (bit c)) 0 h.outside)) (same_state c s) (record {
        block = subst (λ y. CaptureAgrees k (c == c) (c == c) false s.initialised m y x) (sym (gate_new acts.Open c chip.captures h.size lt)) (subst (λ q. CaptureAgrees k q q false s.initialised m (record b { gate = true }) x) (sym (eq_self c)) (opened_agrees k false s.initialised m b x on counter a.block));
        words = a.words;
        course = a.course;
        place = a.place;
        turns = a.turns;
        stamps = a.stamps;
      })

  steps : AllGood d (gate_bodies d)
  steps chip w s (Open c) o t m (h, ((Is_before, i, on), u)) =
      let mode = detects i.channel.mode i.suited in
      let counter = counting d c i.channel i.known ∙ ap (λ z. is_counter z) mode in
      let up = ap (λ y. y.gate) (bare_at (acted acts.Open chip.captures (bit c)) c (length-at_bits (λ _. acting acts.Open chip.captures.time) (bit c) chip.captures.captures ∙ h.size) i.lt ∙ ap (λ y. bare y) (gate_new acts.Open c chip.captures h.size i.lt)) in
      (refl, (opened chip w s c i.lt on counter h, ((Is_before, i, on, up), tt)))
  steps chip w s (Empty c) o t m (h, ((Is_before, i, on, gate), u)) =
      let k = channel_of d c in
      let x = capture_at s c in
      let y = switched true x in
      let b = chip_capture chip.captures c in
      let m1 = s.initialised || false in
      let a = channel_agrees d (opening c) chip w s c i.lt h in
      let mode = detects i.channel.mode i.suited in
      let up = sym (ap (λ z. z.gate) (bare_at chip.captures c h.size i.lt)) ∙ gate in
      let free = subst (λ q. CaptureAgrees k q q false s.initialised m1 b x) (eq_self c) a.block in
      let w1 = to_mode d c i.channel i.known SignalEdgeDetect mode (λ j. word_of chip j) none x a.words in (
        below_test c i.lt,
        record {
          own = tt;
          state = with_capture s c y;
          told = answers no_answer;
          is = λ times. acts_is d w s c EnableEdgeDetection times.committed i on;
          acts = tt;
          next = (
            one_agrees d c i.lt (opening c) settled (opening_at c) (settled_at c) chip (chip_after chip (Write (CaptureFlush c) 0) 0) w s (with_capture s c y) on h (left_channel c w chip (flushed b) (stands-move chip w (Write (CaptureFlush c) 0) 0 h.outside)) (with_state s c y) (subst (λ z. ChannelAgrees d settled (chip_after chip (Write (CaptureFlush c) 0) 0) w s.initialised c z) (sym (with_same s c y i.lt)) (record {
              block = subst (λ z. CaptureAgrees k false false false s.initialised m1 z y) (sym (channel_new c chip.captures (flushed b) h.size i.lt)) (emptied_agrees k false s.initialised m1 b x on (is_there d c i.channel i.known) up free);
              words = from_mode d c i.channel i.known SignalEdgeDetect mode (λ j. word_of chip j) none y (record { switch = w1.switch; mark = w1.mark });
              course = switched_course k true x a.course;
              place = place_by d c i.channel i.known y (ap (λ z. is_timestamp z) mode);
              turns = turns_by d c i.channel i.known w y (ap (λ z. is_measurement z) mode);
              stamps = a.stamps;
            })),
            (refl, refl, refl),
          );
        },
      )
  steps chip w s (Close c) o t m (h, ((call, Is_before, i, on, e), u)) =
      let k = channel_of d c in
      let x = capture_at s c in
      let y = switched false x in
      let b = chip_capture chip.captures c in
      let m1 = s.initialised || false in
      let a = channel_agrees d settled chip w s c i.lt h in
      let stays = subst (λ z. ChannelWords z (λ j. word_of chip j) none c y) (sym i.known) (words_off i.channel.mode (λ j. word_of chip j) none c i.channel x (closed_mode call i.channel e i.suited) (subst (λ z. ChannelWords z (λ j. word_of chip j) none c x) i.known a.words)) in (
        refl,
        record {
          own = tt;
          state = with_capture s c y;
          told = answers no_answer;
          is = λ times. acts_is d w s c call times.committed i on ∙ (ap (λ z. Some (outcome (with_capture s c z) (answers (channel_answer i.channel call x)))) (closed_work call x e) ∙ ap (λ z. Some (outcome (with_capture s c y) (answers z))) (closed_answer i.channel call x e));
          acts = subst (λ z. StandsLow z false (Write CaptureGateClear (bit c)) None) (sym (closed_halves c call e)) tt;
          next = (
            one_agrees d c i.lt settled (emptying c) (settled_at c) (emptying_at c) chip (chip_after chip (Write CaptureGateClear (bit c)) 0) w s (with_capture s c y) on h (left_gate acts.Close c w chip i.lt h.size (stands-move chip w (Write CaptureGateClear (bit c)) 0 h.outside)) (with_state s c y) (subst (λ z. ChannelAgrees d (emptying c) (chip_after chip (Write CaptureGateClear (bit c)) 0) w s.initialised c z) (sym (with_same s c y i.lt)) (record {
              block = subst (λ z. CaptureAgrees k false (c == c) false s.initialised m1 z y) (sym (gate_new acts.Close c chip.captures h.size i.lt)) (subst (λ q. CaptureAgrees k false q false s.initialised m1 (record b { gate = false }) y) (sym (eq_self c)) (closed_agrees k false s.initialised m1 b x a.block));
              words = stays;
              course = switched_course k false x a.course;
              place = off_place k y refl;
              turns = off_turns k w y refl;
              stamps = a.stamps;
            })),
            ((call, Is_after, i.lt, on, calm_on (with_capture s c y) c i.lt ∙ ap (λ z. z.on) (with_same s c y i.lt)), tt),
          );
        },
      )
  steps chip w s (Drop c) o t m (h, ((call, Is_after, lt, on, off), u)) =
      let k = channel_of d c in
      let x = capture_at s c in
      let b = chip_capture chip.captures c in
      let m1 = s.initialised || false in
      let a = channel_agrees d (emptying c) chip w s c lt h in
      let empty = a.course.off (sym (calm_on s c lt) ∙ off) in
      let free = subst (λ q. CaptureAgrees k false q false s.initialised m1 b x) (eq_self c) a.block in (
        below_test c lt,
        (
          one_agrees d c lt (emptying c) settled (emptying_at c) (settled_at c) chip (chip_after chip (Write (CaptureFlush c) 0) 0) w s s on h (left_channel c w chip (flushed b) (stands-move chip w (Write (CaptureFlush c) 0) 0 h.outside)) (same_state c s) (record {
            block = subst (λ z. CaptureAgrees k false false false s.initialised m1 z x) (sym (channel_new c chip.captures (flushed b) h.size lt)) (dropped_agrees k false s.initialised m1 b x empty.0 empty.1 free);
            words = a.words;
            course = a.course;
            place = a.place;
            turns = a.turns;
            stamps = a.stamps;
          }),
          (refl, refl, refl),
        ),
      )

  pub gate_right : AreRight (icu_ground d) (gate_bodies d)
  gate_right = steady_right d gate_work gate_takes gate_left gate_gap (gate_holds d) gate_shortens steps
