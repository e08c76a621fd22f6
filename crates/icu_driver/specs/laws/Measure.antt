-- Icu_StartSignalMeasurement and Icu_GetTimeElapsed: their steps, what holds at each, and that they are right.
-- From Calls, One, Rows, Steady, Channels and 5 more.
-- Used by Duty, SampleRight, service/measure/rt, Lawful, Windows and 4 more.
use Rattle.std.proofs.Common.{◌≡◌, ◌<◌, ◌||◌, ◌==◌, [], ◌∷◌, ◌∙◌, if◌then◌else◌}
use Rattle.icu_driver.specs.Terms
use Terms.{acted, acting, ActiveIs, After, AllByRecursion, and_parts, answers, ap, AreRight, arith, bare, Before}
use Terms.{begins_rising, below_test, bit_of, Bodies, Bool, Call, Capture, capture_at, CaptureAgrees, CaptureFlush}
use Terms.{CaptureGateSet, Captures, channel_of, Chip, chip_after, chip_capture, cons_option, DutyCycle, Edge}
use Terms.{ends_rising, eq_self, false, filter_map, flushed, GetTimeElapsed, Hand, handed, HasTurns, HighTime, icu_ground, IcuTable, IcuRepresents, IcuSignalMeasurementProperty, IcuState, Is_after, Is_before, is_counter, is_duty_cycle, is_measurement, is_some, is_timestamp, Lag, length-at_bits, List, Load, LowTime, MeasureBody, measured_edges, ModeWords, newest, None, none, not, not-true, numbers, off_on, opening, Option, or_true, Origin, outcome, PeriodTime, refl, seen_by, seen_number, settled, SignalMeasurement, Some, stands-move, started, StartSignalMeasurement, Store, subst, switched, sym, Told, true, Unhand, Unsee, value_of, value_or, ValueIs, values, values_by, values_none, waiting_value, with_capture, word_of, World, Write, ℕ}
use Rattle.module_machines.specs.declared.icu.call.Call.TheVariants.{Channel}
use Rattle.icu_driver.specs.declared.service.measure.MeasureBody.TheVariants.{Open, Empty, Waits, Value}
use Rattle.icu_driver.specs.laws.{Base.{Move, no_answer, BodyTaken, goes, acts_on, ends, number, Nothing, Shortens}}
use Rattle.icu_driver.specs.laws.{Base.{word, bit, SWITCHES, SIZES, VALUES, TIMES}, Calls.{MayCall, acts_is, measures}}
use Rattle.icu_driver.specs.laws.{Calls.{to_mode, from_mode, is_there, counting, place_by, switched_course, opening_at}}
use Rattle.icu_driver.specs.laws.{Calls.{bare_at, may_row}, Change.{as_course}, Channels.{emptied_agrees, block_as}}
use Rattle.icu_driver.specs.laws.{Gate.{opened}, One.{IsRow, ChannelAgrees, channel_agrees, one_agrees, settled_at}}
use Rattle.module_machines.specs.icu.laws.{Channels.{with_same}}
use Rattle.icu_driver.specs.laws.{One.{with_state, left_same, left_channel, channel_new, gate_new, word_new}}
use Rattle.icu_driver.specs.laws.{Rows.{rows_of, rows_behind, rows_at, row_others, row_stored, New_waits, New_seen}}
use Rattle.icu_driver.specs.laws.{Rows.{measure_closed}, Steady.{calm_at, AllGood, steady, steady_right}}
use Rattle.chip_blocks.specs.declared.captures.capture.Act.TheVariants as turns
use Rattle.module_machines.specs.declared.icu.table.Channel as configured

abbrev pub measure_work : MeasureBody → Move
measure_work (Open c) = Write CaptureGateSet (bit c)
measure_work (Empty c) = Write (CaptureFlush c) 0
measure_work (Unhand c) = Store (word SWITCHES c) 0
measure_work (Unsee c) = Store (word SIZES c) 0
measure_work (Waits c) = Load (word SWITCHES c)
measure_work (Value c q) = Load (word VALUES c)
measure_work (Hand c v) = Store (word SWITCHES c) 0

abbrev pub measure_takes : MeasureBody → ℕ → MeasureBody × BodyTaken
measure_takes (Open c) x = (Empty c, goes)
measure_takes (Empty c) x = (Unhand c, acts_on)
measure_takes (Unhand c) x = (Unsee c, goes)
measure_takes (Unsee c) x = (Unsee c, ends None no_answer Nothing)
measure_takes (Waits c) x = (Value c (x == 1), goes)
measure_takes (Value c q) x = (Hand c (if q then x else 0), acts_on)
measure_takes (Hand c v) x = (Hand c v, ends None (number v) Nothing)

abbrev pub measure_left : MeasureBody → ℕ
measure_left (Open c) = 4
measure_left (Empty c) = 3
measure_left (Unhand c) = 2
measure_left (Unsee c) = 1
measure_left (Waits c) = 3
measure_left (Value c q) = 2
measure_left (Hand c v) = 1

pub measure_shortens : (k : MeasureBody) (x : ℕ) → Shortens measure_left k (measure_takes k x)
measure_shortens (Open c) x = omega arith
measure_shortens (Empty c) x = omega arith
measure_shortens (Unhand c) x = omega arith
measure_shortens (Unsee c) x = omega arith
measure_shortens (Waits c) x = omega arith
measure_shortens (Value c q) x = omega arith
measure_shortens (Hand c v) x = omega arith

-- ---- the shape of values

abbrev pub OfSome : {A : Type 0} → (A → Type 0) → Option A → Type 0
OfSome P None = Unit {0}
OfSome P (Some v) = P v

abbrev pub IsOne : List ℕ → Type 0
IsOne (n ∷ []) = Unit {0}
IsOne _ = ⊥

abbrev pub IsPair : List ℕ → Type 0
IsPair (a ∷ n ∷ []) = Unit {0}
IsPair _ = ⊥

cons_held : {A : Type 0} (P : A → Type 0) (o : Option A) (ys : List A) → OfSome P o → AllByRecursion P ys → AllByRecursion P (cons_option o ys)
cons_held P None ys h a = a
cons_held P (Some y) ys h a = (h, a)

all_filtered : {A B : Type 0} (P : B → Type 0) (f : A → Option B) → ((m : A) → OfSome P (f m)) → (ms : List A) → AllByRecursion P (filter_map f ms)
all_filtered P f h [] = tt
all_filtered P f h (m ∷ ms) = cons_held P (f m) (filter_map f ms) (h m) (all_filtered P f h ms)

newest_held : {A : Type 0} (P : A → Type 0) (ys : List A) → AllByRecursion P ys → OfSome P (newest ys)
newest_held P [] a = tt
newest_held P (x ∷ []) a = a.0
newest_held P (x ∷ y ∷ ys) a = newest_held P (y ∷ ys) a.1

low_one : (m : List Edge) → OfSome IsOne (value_of LowTime m)
low_one [] = tt
low_one (e ∷ es) = tt

high_one : (m : List Edge) → OfSome IsOne (value_of HighTime m)
high_one [] = tt
high_one (e ∷ es) = tt

period_one : (m : List Edge) → OfSome IsOne (value_of PeriodTime m)
period_one [] = tt
period_one (e ∷ es) = tt

duty_pair : (m : List Edge) → OfSome IsPair (value_of DutyCycle m)
duty_pair [] = tt
duty_pair (e ∷ []) = tt
duty_pair (e ∷ x ∷ []) = tt
duty_pair (e ∷ x ∷ y ∷ ys) = tt

single : (p : Option IcuSignalMeasurementProperty) (k : configured.Channel) (es : List Edge) → is_duty_cycle p ≡ false → OfSome IsOne (newest (values_by p k es))
single None k es e = tt
single (Some LowTime) k es e = newest_held IsOne (values_by (Some LowTime) k es) (all_filtered IsOne (value_of LowTime) low_one (measured_edges (begins_rising LowTime k) (ends_rising LowTime k) es))
single (Some HighTime) k es e = newest_held IsOne (values_by (Some HighTime) k es) (all_filtered IsOne (value_of HighTime) high_one (measured_edges (begins_rising HighTime k) (ends_rising HighTime k) es))
single (Some PeriodTime) k es e = newest_held IsOne (values_by (Some PeriodTime) k es) (all_filtered IsOne (value_of PeriodTime) period_one (measured_edges (begins_rising PeriodTime k) (ends_rising PeriodTime k) es))
single (Some DutyCycle) k es e = off_on (sym e)

double : (p : Option IcuSignalMeasurementProperty) (k : configured.Channel) (es : List Edge) → is_duty_cycle p ≡ true → OfSome IsPair (newest (values_by p k es))
double None k es e = tt
double (Some DutyCycle) k es e = newest_held IsPair (values_by (Some DutyCycle) k es) (all_filtered IsPair (value_of DutyCycle) duty_pair (measured_edges (begins_rising DutyCycle k) (ends_rising DutyCycle k) es))
double (Some LowTime) k es e = off_on e
double (Some HighTime) k es e = off_on e
double (Some PeriodTime) k es e = off_on e

held_if : {A : Type 0} (P : A → Type 0) (q : Bool) (o : Option A) → OfSome P o → OfSome P (if q then None else o)
held_if P true o h = tt
held_if P false o h = h

pub waits_single : (k : configured.Channel) (x : Capture) → is_duty_cycle k.measured ≡ false → OfSome IsOne (waiting_value k x)
waits_single k x e = held_if IsOne x.handed_out (newest (values k x.served)) (single k.measured k x.served e)

pub waits_double : (k : configured.Channel) (x : Capture) → is_duty_cycle k.measured ≡ true → OfSome IsPair (waiting_value k x)
waits_double k x e = held_if IsPair x.handed_out (newest (values k x.served)) (double k.measured k x.served e)

-- what is handed out is what waits
handed_if : (n : List ℕ) (q : Bool) (o : Option (List ℕ)) → (if q then n else value_or n o) ≡ value_or n (if q then None else o)
handed_if n true o = refl
handed_if n false o = refl

pub handed_waits : (n : List ℕ) (k : configured.Channel) (x : Capture) → handed n k x ≡ value_or n (waiting_value k x)
handed_waits n k x = handed_if n x.handed_out (newest (values k x.served))

told_one : (v : ℕ) (o : Option (List ℕ)) → OfSome IsOne o → ValueIs v o → value_or (0 ∷ []) o ≡ (if is_some o then v else 0) ∷ []
told_one v None h i = refl
told_one v (Some (n ∷ [])) h i = ap (λ z. z ∷ []) (sym i)
told_one v (Some []) h i = absurd h
told_one v (Some (a ∷ n ∷ ms)) h i = absurd h

pub one_is : (q : Bool) → (bit_of q == 1) ≡ q
one_is true = refl
one_is false = refl

-- ---- what holds at each; words are behind from the act on

abbrev pub measure_gap : MeasureBody → Lag
measure_gap (Open c) = settled
measure_gap (Empty c) = opening c
measure_gap (Unhand c) = rows_of (SWITCHES ∷ SIZES ∷ []) c
measure_gap (Unsee c) = rows_of (SIZES ∷ []) c
measure_gap (Waits c) = settled
measure_gap (Value c q) = settled
measure_gap (Hand c v) = rows_of (SWITCHES ∷ []) c

-- a measurement under way, of which nothing was served, or whose values were handed out
abbrev pub IsMeasured : IcuTable → IcuState → ℕ → configured.Channel → Type 0
IsMeasured d s c k = (channel_of d c ≡ Some k) × (k.mode ≡ SignalMeasurement) × (c < 8) × (s.initialised ≡ true)

abbrev pub measure_holds : IcuTable → Captures → IcuState → MeasureBody → Origin Call → Option Told → Type 0
measure_holds d f s (Open c) o t = Before (Channel c StartSignalMeasurement) o t × MayCall d c StartSignalMeasurement × (s.initialised ≡ true)
measure_holds d f s (Empty c) o t = Before (Channel c StartSignalMeasurement) o t × MayCall d c StartSignalMeasurement × (s.initialised ≡ true) × ((chip_capture f c).gate ≡ true)
measure_holds d f s (Unhand c) o t = After (Channel c StartSignalMeasurement) (answers no_answer) o t × (k : configured.Channel) × IsMeasured d s c k × ((capture_at s c).served ≡ [])
measure_holds d f s (Unsee c) o t = After (Channel c StartSignalMeasurement) (answers no_answer) o t × (k : configured.Channel) × IsMeasured d s c k × ((capture_at s c).served ≡ [])
measure_holds d f s (Waits c) o t = Before (Channel c GetTimeElapsed) o t × MayCall d c GetTimeElapsed × (s.initialised ≡ true)
measure_holds d f s (Value c q) o t = Before (Channel c GetTimeElapsed) o t × (i : MayCall d c GetTimeElapsed) × (s.initialised ≡ true) × (q ≡ is_some (waiting_value i.channel (capture_at s c)))
measure_holds d f s (Hand c v) o t = After (Channel c GetTimeElapsed) (answers (number v)) o t × (k : configured.Channel) × IsMeasured d s c k × ((capture_at s c).handed_out ≡ true)

abbrev pub measure_bodies : (d : IcuTable) → Bodies (icu_ground d) MeasureBody
measure_bodies d = steady d measure_work measure_takes measure_left measure_gap (measure_holds d)

pub row_switches : IsRow SWITCHES
row_switches = (refl, omega arith, omega arith)

pub row_sizes : IsRow SIZES
row_sizes = (refl, omega arith, omega arith)

pub row_values : IsRow VALUES
row_values = (refl, omega arith, omega arith)

-- nothing waits where nothing was served, or all was handed out
pub none_served : (k : configured.Channel) (x : Capture) → x.served ≡ [] → waiting_value k x ≡ None
none_served k x e = both_none x.handed_out (newest (values k x.served)) (ap (λ es. newest (values k es)) e ∙ ap (λ vs. newest vs) (values_none k.measured k))
  where
    both_none : (q : Bool) (o : Option (List ℕ)) → o ≡ None → (if q then None else o) ≡ None
    both_none true o e = refl
    both_none false o e = e

pub all_handed : (k : configured.Channel) (x : Capture) → x.handed_out ≡ true → waiting_value k x ≡ None
all_handed k x e = ap (λ q. if q then None else newest (values k x.served)) e

handed_turns : (k : Option configured.Channel) (w : World) (x : Capture) → HasTurns k w x → HasTurns k w (record x { handed_out = true })
handed_turns None w x h = tt
handed_turns (Some k) w x h = λ m o. h m o

begun_turns : (k : Option configured.Channel) (w : World) (x : Capture) → HasTurns k w (started x)
begun_turns None w x = tt
begun_turns (Some k) w x = λ m o. (tt, tt)

module _ (d : IcuTable) where
  -- that a value waits is stored: none does
  pub unwaiting : (rs : List ℕ) → AllByRecursion IsRow rs → (chip : Chip) (w : World) (s : IcuState) (c : ℕ) (k : configured.Channel) → IsMeasured d s c k → waiting_value k (capture_at s c) ≡ None → IcuRepresents d (rows_of (SWITCHES ∷ rs) c) chip w s → IcuRepresents d (rows_of rs c) (chip_after chip (Store (word SWITCHES c) 0) 0) w s
  unwaiting rs all chip w s c k (known, mode, lt, on) e h =
      let at1 = λ (j : ℕ). word_of (chip_after chip (Store (word SWITCHES c) 0) 0) j in
      let x = capture_at s c in
      let others = subst (λ m. ModeWords m at1 (rows_behind (SWITCHES ∷ rs) c) c k x) mode (row_others d c lt k known SWITCHES row_switches rs all 0 chip w s on h) in
      row_stored d c lt k known SWITCHES row_switches rs all 0 chip w s on h (subst (λ m. ModeWords m at1 (rows_behind rs c) c k x) (sym mode) (measure_closed at1 rs c k x SWITCHES (New_waits (word_new SWITCHES c 0 chip row_switches lt h.outside.all.words ∙ sym (ap (λ o. bit_of (is_some o)) e))) others))

  -- the values are handed out in the machine, and the word is behind
  pub handing : (chip : Chip) (w : World) (s : IcuState) (c : ℕ) (k : configured.Channel) → IsMeasured d s c k → IcuRepresents d settled chip w s → IcuRepresents d (rows_of (SWITCHES ∷ []) c) chip w (with_capture s c (record (capture_at s c) { handed_out = true }))
  handing chip w s c k (known, mode, lt, on) h =
      let a = channel_agrees d settled chip w s c lt h in
      let x = capture_at s c in
      let y = record x { handed_out = true } in
      let words = to_mode d c k known SignalMeasurement mode (λ j. word_of chip j) none x a.words in
      one_agrees d c lt settled (rows_of (SWITCHES ∷ []) c) (settled_at c) (rows_at (SWITCHES ∷ []) c (row_switches, tt) lt) chip chip w s (with_capture s c y) on h (left_same c w chip h.outside) (with_state s c y) (subst (λ z. ChannelAgrees d (rows_of (SWITCHES ∷ []) c) chip w s.initialised c z) (sym (with_same s c y lt)) (record {
        block = block_as (channel_of d c) false false false s.initialised (s.initialised || false) (chip_capture chip.captures c) x y refl refl refl refl refl a.block;
        words = from_mode d c k known SignalMeasurement mode (λ j. word_of chip j) (rows_behind (SWITCHES ∷ []) c) y (record {
          waits = λ f. off_on (sym f ∙ ap (λ q. q || false) (eq_self (word SWITCHES c)));
          mark = λ f. words.mark refl;
          seen = λ f g. words.seen refl g;
          start = λ f g. words.start refl g;
          opposite = λ f g. words.opposite refl g;
          value = λ f. tt;
          time = λ f. tt;
        });
        course = as_course (channel_of d c) x y refl refl refl refl refl a.course;
        place = place_by d c k known y (ap (λ z. is_timestamp z) mode);
        turns = handed_turns (channel_of d c) w x a.turns;
        stamps = λ some i few g. a.stamps some i few refl;
      }))

  steps : AllGood d (measure_bodies d)
  steps chip w s (Open c) o t m (h, ((Is_before, i, on), u)) =
      let mode = measures i.channel.mode i.suited in
      let counter = counting d c i.channel i.known ∙ ap (λ z. is_counter z) mode in
      let up = ap (λ y. y.gate) (bare_at (acted turns.Open chip.captures (bit c)) c (length-at_bits (λ _. acting turns.Open chip.captures.time) (bit c) chip.captures.captures ∙ h.size) i.lt ∙ ap (λ y. bare y) (gate_new turns.Open c chip.captures h.size i.lt)) in
      (refl, (opened d chip w s c i.lt on counter h, ((Is_before, i, on, up), tt)))
  steps chip w s (Empty c) o t m (h, ((Is_before, i, on, gate), u)) =
      let k = channel_of d c in
      let x = capture_at s c in
      let y = started x in
      let s1 = with_capture s c y in
      let b = chip_capture chip.captures c in
      let m1 = s.initialised || false in
      let rs = SWITCHES ∷ SIZES ∷ [] in
      let chip1 = chip_after chip (Write (CaptureFlush c) 0) 0 in
      let a = channel_agrees d (opening c) chip w s c i.lt h in
      let mode = measures i.channel.mode i.suited in
      let up = sym (ap (λ z. z.gate) (bare_at chip.captures c h.size i.lt)) ∙ gate in
      let free = subst (λ q. CaptureAgrees k q q false s.initialised m1 b x) (eq_self c) a.block in
      let words = to_mode d c i.channel i.known SignalMeasurement mode (λ j. word_of chip j) none x a.words in
      let nothing = none_served i.channel y refl in (
        below_test c i.lt,
        record {
          own = tt;
          state = s1;
          told = answers no_answer;
          is = λ times. acts_is d w s c StartSignalMeasurement times.committed i on;
          acts = tt;
          next = (
            one_agrees d c i.lt (opening c) (rows_of rs c) (opening_at c) (rows_at rs c (row_switches, (row_sizes, tt)) i.lt) chip chip1 w s s1 on h (left_channel c w chip (flushed b) (stands-move chip w (Write (CaptureFlush c) 0) 0 h.outside)) (with_state s c y) (subst (λ z. ChannelAgrees d (rows_of rs c) chip1 w s.initialised c z) (sym (with_same s c y i.lt)) (record {
              block = subst (λ z. CaptureAgrees k false false false s.initialised m1 z y) (sym (channel_new c chip.captures (flushed b) h.size i.lt)) (block_as k false false false s.initialised m1 (flushed b) (switched true x) y refl refl refl refl refl (emptied_agrees k false s.initialised m1 b x on (is_there d c i.channel i.known) up free));
              words = from_mode d c i.channel i.known SignalMeasurement mode (λ j. word_of chip j) (rows_behind rs c) y (record {
                waits = λ f. off_on (sym f ∙ ap (λ q. q || (word SWITCHES c == word SIZES c || false)) (eq_self (word SWITCHES c)));
                mark = λ f. words.mark refl;
                seen = λ f g. off_on (sym f ∙ ap (λ q. word SIZES c == word SWITCHES c || (q || false)) (eq_self (word SIZES c)) ∙ or_true (word SIZES c == word SWITCHES c));
                start = λ f g. tt;
                opposite = λ f g. tt;
                value = λ f. subst (λ v. ValueIs (word_of chip (word VALUES c)) v) (sym nothing) tt;
                time = λ f. subst (λ v. ActiveIs (word_of chip (word TIMES c)) v) (sym nothing) tt;
              });
              course = as_course k (switched true x) y refl refl refl refl refl (switched_course k true x a.course);
              place = place_by d c i.channel i.known y (ap (λ z. is_timestamp z) mode);
              turns = begun_turns k w x;
              stamps = λ some j few g. a.stamps some j few refl;
            })),
            ((Is_after, i.channel, (i.known, mode, i.lt, on), ap (λ z. z.served) (calm_at s1 c i.lt) ∙ ap (λ z. z.served) (with_same s c y i.lt)), tt),
          );
        },
      )
  steps chip w s (Unhand c) o t m (h, ((Is_after, k, is, e), u)) =
      let served = sym (ap (λ z. z.served) (calm_at s c is.2)) ∙ e in
      (may_row d SWITCHES c row_switches is.2, (unwaiting (SIZES ∷ []) (row_sizes, tt) chip w s c k is (none_served k (capture_at s c) served) h, ((Is_after, k, is, e), tt)))
  steps chip w s (Unsee c) o t m (h, ((Is_after, k, (known, mode, lt, on), e), u)) =
      let served = sym (ap (λ z. z.served) (calm_at s c lt)) ∙ e in
      let x = capture_at s c in
      let at1 = λ (j : ℕ). word_of (chip_after chip (Store (word SIZES c) 0) 0) j in
      let others = subst (λ m. ModeWords m at1 (rows_behind (SIZES ∷ []) c) c k x) mode (row_others d c lt k known SIZES row_sizes [] tt 0 chip w s on h) in
      (may_row d SIZES c row_sizes lt, (row_stored d c lt k known SIZES row_sizes [] tt 0 chip w s on h (subst (λ m. ModeWords m at1 (rows_behind [] c) c k x) (sym mode) (measure_closed at1 [] c k x SIZES (New_seen (word_new SIZES c 0 chip row_sizes lt h.outside.all.words ∙ sym (ap (λ es. seen_number (seen_by k (record x { served = es }))) served))) others)), (refl, refl, refl)))
  steps chip w s (Waits c) o t m (h, ((Is_before, i, on), u)) =
      let x = capture_at s c in
      let mode = measures i.channel.mode (and_parts (is_measurement i.channel.mode) (not (is_duty_cycle i.channel.measured)) i.suited).0 in
      let words = to_mode d c i.channel i.known SignalMeasurement mode (λ j. word_of chip j) none x (h.words c i.lt) in
      (may_row d SWITCHES c row_switches i.lt, (h, ((Is_before, i, on, ap (λ z. z == 1) (words.waits refl) ∙ (one_is (is_some (waiting_value i.channel x)) ∙ sym (ap (λ z. is_some (waiting_value i.channel z)) (calm_at s c i.lt)))), tt)))
  steps chip w s (Value c q) o t m (h, ((Is_before, i, on, e), u)) =
      let x = capture_at s c in
      let y = record x { handed_out = true } in
      let s1 = with_capture s c y in
      let v = word_of chip (word VALUES c) in
      let suited = and_parts (is_measurement i.channel.mode) (not (is_duty_cycle i.channel.measured)) i.suited in
      let mode = measures i.channel.mode suited.0 in
      let words = to_mode d c i.channel i.known SignalMeasurement mode (λ j. word_of chip j) none x (h.words c i.lt) in
      let waits = e ∙ ap (λ z. is_some (waiting_value i.channel z)) (calm_at s c i.lt) in
      let told = handed_waits (0 ∷ []) i.channel x ∙ (told_one v (waiting_value i.channel x) (waits_single i.channel x (not-true (is_duty_cycle i.channel.measured) suited.1)) (words.value refl) ∙ ap (λ z. (if z then v else 0) ∷ []) (sym waits)) in (
        may_row d VALUES c row_values i.lt,
        record {
          own = tt;
          state = s1;
          told = answers (number (if q then v else 0));
          is = λ times. acts_is d w s c GetTimeElapsed times.committed i on ∙ ap (λ z. Some (outcome s1 (answers (numbers z)))) told;
          acts = tt;
          next = (handing chip w s c i.channel (i.known, mode, i.lt, on) h, ((Is_after, i.channel, (i.known, mode, i.lt, on), ap (λ z. z.handed_out) (calm_at s1 c i.lt) ∙ ap (λ z. z.handed_out) (with_same s c y i.lt)), tt));
        },
      )
  steps chip w s (Hand c v) o t m (h, ((Is_after, k, is, e), u)) =
      let handed_all = sym (ap (λ z. z.handed_out) (calm_at s c is.2)) ∙ e in
      (may_row d SWITCHES c row_switches is.2, (unwaiting [] tt chip w s c k is (all_handed k (capture_at s c) handed_all) h, (refl, refl, refl)))

  pub measure_right : AreRight (icu_ground d) (measure_bodies d)
  measure_right = steady_right d measure_work measure_takes measure_left measure_gap (measure_holds d) measure_shortens steps
