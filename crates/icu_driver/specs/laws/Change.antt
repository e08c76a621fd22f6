-- The services that set or ask for what a channel keeps: their steps, what holds at each, and that they are right.
-- From One, Calls, Steady, RefinementRight, Channels and 1 more.
-- Used by DetectRight, service/change/rt, Lawful, Windows, SampleRight and 2 more.
use Rattle.std.proofs.Common.{◌≡◌, ◌≢◌, ◌<◌, ◌≤◌, ◌^◌, ◌&&◌, ◌||◌, ◌==◌, ◌∙◌, if◌then◌else◌}
use Rattle.icu_driver.specs.Terms
use Terms.{ActiveIs, After, AllByRecursion, answers, ap, AreRight, arith, Before, behind, below_test, bit_of, Bodies}
use Terms.{Bool, Both, Call, Called, Capture, capture_at, CaptureAgrees, CaptureCondition, Captures, ChangeBody}
use Terms.{channel_answer, channel_of, channel_work, ChannelCall, Chip, chip_after, chip_capture, Choose, ChoosesAs}
use Terms.{condition_by, DisableNotification, Edge, EdgeCounter, EnableNotification, eq_other, eq_self, Falling, false, GetInputState, halves, has_notification, HasPlace, HasTurns, icu_ground, IcuTable, IcuMeasurementMode, IcuRepresents, IcuStartEdge, IcuState, input_answer, Is_after, Is_before, is_detection, Is_fresh, is_measurement, Is_on, Is_stopped, is_timestamp, IsCourse, IsStart, Lag, length, Load, ModeWords, None, none, not-true, Notify, off_on, only, OppositeIs, Option, Origin, outcome, owes_nothing, place_of, refl, Rising, seen_by, SetActivationCondition, settled, SignalEdgeDetect, SignalMeasurement, Some, stamp_in, Stamped, Stamps, stands-move, StandsLow, StartIs, Store, subst, suits, sym, Take, Timestamp, Told, true, ValueIs, waiting_value, with_capture, with_condition, word_of, World, Write, ℕ}
use Rattle.module_machines.specs.declared.icu.call.Call.TheVariants.{Channel}
use Rattle.icu_driver.specs.declared.service.change.ChangeBody.TheVariants.{Drop, Ask}
use Rattle.icu_driver.specs.laws.{Base.{Move, Act, no_answer, BodyTaken, acts_on, ends, Nothing, Shortens, word}}
use Rattle.icu_driver.specs.laws.{Base.{condition_of, SWITCHES, MARKS, SIZES, INTERVALS, PLACES, VALUES, TIMES}}
use Rattle.icu_driver.specs.laws.{Calls.{MayCall, acts_is, to_mode, from_mode, is_there, behind_at, may_row}}
use Rattle.icu_driver.specs.laws.{Channels.{block_as}, One.{IsAt, IsRow, ChipLeft, ChannelAgrees, channel_agrees}}
use Rattle.module_machines.specs.icu.laws.{Channels.{with_same}}
use Rattle.icu_driver.specs.laws.{One.{one_agrees, settled_at, apart_rows, same_state, with_state}}
use Rattle.icu_driver.specs.laws.{One.{left_same, left_channel, left_word, channel_new, word_new, word_old, stamps_old}}
use Rattle.icu_driver.specs.laws.{Steady.{without_edges, calm_at, Good, AllGood, steady, steady_right}}
use Rattle.chip_blocks.specs.declared.captures.capture.Capture as chips
use Rattle.chip_blocks.specs.declared.captures.capture.Condition.TheVariants as conditions
use Rattle.module_machines.specs.declared.icu.table.Channel as configured

abbrev pub change_work : ChangeBody → Move
change_work (Notify c on) = Store (word SWITCHES c) (bit_of on)
change_work (Choose c e q) = Write (CaptureCondition c) (condition_of e)
change_work (Drop c) = Store (word MARKS c) 0
change_work (Ask c) = Load (word MARKS c)
change_work (Take c m) = Store (word MARKS c) 0

abbrev pub change_takes : ChangeBody → ℕ → ChangeBody × BodyTaken
change_takes (Notify c on) x = (Notify c on, ends (Some Act) no_answer Nothing)
change_takes (Choose c e true) x = (Drop c, acts_on)
change_takes (Choose c e false) x = (Choose c e false, ends (Some Act) no_answer Nothing)
change_takes (Drop c) x = (Drop c, ends None no_answer Nothing)
change_takes (Ask c) x = (Take c x, acts_on)
change_takes (Take c m) x = (Take c m, ends None (input_answer (m == 1)) Nothing)

abbrev pub change_left : ChangeBody → ℕ
change_left (Notify c on) = 1
change_left (Choose c e q) = 2
change_left (Drop c) = 1
change_left (Ask c) = 2
change_left (Take c m) = 1

pub change_shortens : (k : ChangeBody) (x : ℕ) → Shortens change_left k (change_takes k x)
change_shortens (Notify c on) x = omega arith
change_shortens (Choose c e true) x = omega arith
change_shortens (Choose c e false) x = omega arith
change_shortens (Drop c) x = omega arith
change_shortens (Ask c) x = omega arith
change_shortens (Take c m) x = omega arith

-- ---- what holds at each; the active mark is behind from the act on

abbrev pub change_gap : ChangeBody → Lag
change_gap (Notify c on) = settled
change_gap (Choose c e q) = settled
change_gap (Drop c) = behind (word MARKS c)
change_gap (Ask c) = settled
change_gap (Take c m) = behind (word MARKS c)

abbrev pub notifying : Bool → ChannelCall
notifying true = EnableNotification
notifying false = DisableNotification

abbrev pub chosen_call : IcuStartEdge → ChannelCall
chosen_call e = SetActivationCondition (Some e)

-- what it answers stands; the mark that the machine has dropped is of a detection, or of a measurement
abbrev pub Dropped : IcuTable → IcuState → ℕ → Type 0
Dropped d s c = (k : configured.Channel) × (channel_of d c ≡ Some k) × (is_detection k.mode || is_measurement k.mode ≡ true) × (c < 8) × (s.initialised ≡ true) × ((capture_at s c).active ≡ false)

abbrev pub change_holds : IcuTable → Captures → IcuState → ChangeBody → Origin Call → Option Told → Type 0
change_holds d f s (Notify c on) o t = Before (Channel c (notifying on)) o t × MayCall d c (notifying on) × (s.initialised ≡ true)
change_holds d f s (Choose c e q) o t = Before (Channel c (chosen_call e)) o t × (i : MayCall d c (chosen_call e)) × (s.initialised ≡ true) × (q ≡ is_detection i.channel.mode)
change_holds d f s (Drop c) o t = (call : Call) × After call (answers no_answer) o t × Dropped d s c
change_holds d f s (Ask c) o t = Before (Channel c GetInputState) o t × MayCall d c GetInputState × (s.initialised ≡ true)
change_holds d f s (Take c m) o t = After (Channel c GetInputState) (answers (input_answer (m == 1))) o t × Dropped d s c

abbrev pub change_bodies : (d : IcuTable) → Bodies (icu_ground d) ChangeBody
change_bodies d = steady d change_work change_takes change_left change_gap (change_holds d)

pub row_switches : IsRow SWITCHES
row_switches = (refl, omega arith, omega arith)

pub row_marks : IsRow MARKS
row_marks = (refl, omega arith, omega arith)

notify_work : (on : Bool) (x : Capture) → channel_work (notifying on) x ≡ record x { notification = on }
notify_work true x = refl
notify_work false x = refl

notify_answer : (on : Bool) (k : configured.Channel) (x : Capture) → channel_answer k (notifying on) x ≡ no_answer
notify_answer true k x = refl
notify_answer false k x = refl

notify_halves : (on : Bool) (c : ℕ) → halves (Channel c (notifying on)) ≡ None
notify_halves true c = refl
notify_halves false c = refl

notify_suits : (on : Bool) (k : configured.Channel) → suits (notifying on) k ≡ has_notification k
notify_suits true k = refl
notify_suits false k = refl

-- the modes of a channel with a notification, of one that is chosen by edges, and of one that is marked
notified_mode : (m : IcuMeasurementMode) (a b : Bool) → (is_detection m && a) || (is_timestamp m && b) ≡ true → is_detection m || is_timestamp m ≡ true
notified_mode SignalEdgeDetect a b e = refl
notified_mode EdgeCounter a b e = off_on e
notified_mode Timestamp a b e = refl
notified_mode SignalMeasurement a b e = off_on e

mark_is : (q : Bool) → (bit_of q == 1) ≡ q
mark_is true = refl
mark_is false = refl

stamped_on : (on : Bool) (x : Capture) (v : ℕ) → Stamped x v → Stamped (record x { notification = on }) v
stamped_on on x _ (Is_on e) = Is_on e
stamped_on on x _ (Is_stopped e f) = Is_stopped e f
stamped_on on x _ (Is_fresh e f) = Is_fresh e f

stamped_chosen : (a : IcuStartEdge) (x : Capture) (v : ℕ) → Stamped x v → Stamped (record x { activation = a; active = false }) v
stamped_chosen a x _ (Is_on e) = Is_on e
stamped_chosen a x _ (Is_stopped e f) = Is_stopped e f
stamped_chosen a x _ (Is_fresh e f) = Is_fresh e f

-- a channel of the block that chooses other edges
condition_new : (a : IcuStartEdge) (b : chips.Capture) → with_condition (condition_of a) b ≡ record b { condition = condition_by a }
condition_new Rising b = refl
condition_new Falling b = refl
condition_new Both b = refl

-- other edges are chosen on both sides
block_chosen : (k : Option configured.Channel) (a : IcuStartEdge) (on moded : Bool) (b : chips.Capture) (x : Capture) → (m : configured.Channel) → k ≡ Some m → is_measurement m.mode ≡ false → CaptureAgrees k false false false on moded b x → CaptureAgrees k false false false on moded (record b { condition = condition_by a }) (record x { activation = a; active = false })
block_chosen k a on moded b x m known e h = record {
  gate = h.gate;
  queue = h.queue;
  lost = h.lost;
  count = h.count;
  condition = λ i. subst (λ z. ChoosesAs z (record b { condition = condition_by a }) (record x { activation = a; active = false })) (sym known) (sym (ap (λ q. if q then conditions.Both else condition_by a) e));
  mode = h.mode;
  starts = h.starts;
  known = h.known;
  free_known = λ i. off_on i;
  free_queue = λ i. off_on i;
  free_count = λ i. off_on i;
}

pub as_course : (k : Option configured.Channel) (x x1 : Capture) → x1.on ≡ x.on → x1.waiting ≡ x.waiting → x1.lost ≡ x.lost → x1.count ≡ x.count → x1.start ≡ x.start → IsCourse k x → IsCourse k x1
as_course k x x1 up waits loses counts starts h = record {
  room = subst (λ es. length es ≤ 4) (sym waits) h.room;
  times = subst (λ es. AllByRecursion (λ (e : Edge). e.time < 2 ^ 32) es) (sym waits) h.times;
  counter = λ f. (waits ∙ (h.counter f).0, loses ∙ (h.counter f).1);
  off = λ f. (waits ∙ (h.off (sym up ∙ f)).0, loses ∙ (h.off (sym up ∙ f)).1);
  start = subst IsStart (sym starts) h.start;
  count = subst (λ n. n < 2 ^ 32) (sym counts) h.count;
  unstarted = λ f. starts ∙ h.unstarted f;
  uncounted = λ f. counts ∙ h.uncounted f;
}

place_on : (k : Option configured.Channel) (on : Bool) (x : Capture) → HasPlace k x → HasPlace k (record x { notification = on })
place_on None on x h = tt
place_on (Some k) on x h = λ m o. h m o

turns_on : (k : Option configured.Channel) (w : World) (on : Bool) (x : Capture) → HasTurns k w x → HasTurns k w (record x { notification = on })
turns_on None w on x h = tt
turns_on (Some k) w on x h = λ m o. h m o

place_chosen : (k : Option configured.Channel) (a : IcuStartEdge) (x : Capture) → HasPlace k x → HasPlace k (record x { activation = a; active = false })
place_chosen None a x h = tt
place_chosen (Some k) a x h = λ m o. h m o

turns_chosen : (k : Option configured.Channel) (w : World) (a : IcuStartEdge) (x : Capture) → HasTurns k w x → HasTurns k w (record x { activation = a; active = false })
turns_chosen None w a x h = tt
turns_chosen (Some k) w a x h = λ m o. h m o

same_some : (a b : configured.Channel) → Some a ≡ Some b → a ≡ b
same_some a b e = cc

-- the words with another notification, which is stored
words_notified : (m : IcuMeasurementMode) (at at1 : ℕ → ℕ) (c : ℕ) (k : configured.Channel) (on : Bool) (x : Capture) → at1 (word SWITCHES c) ≡ bit_of on → ((first : ℕ) → first ≢ SWITCHES → at1 (word first c) ≡ at (word first c)) → is_detection m || is_timestamp m ≡ true → ModeWords m at none c k x → ModeWords m at1 none c k (record x { notification = on })
words_notified SignalEdgeDetect at at1 c k on x new old e h = record { switch = λ f. new; mark = λ f. old MARKS (omega arith) ∙ h.mark f }
words_notified EdgeCounter at at1 c k on x new old e h = tt
words_notified Timestamp at at1 c k on x new old e h = record {
  switch = λ f. new;
  mark = λ f. stamped_on on x (at1 (word MARKS c)) (subst (λ v. Stamped x v) (sym (old MARKS (omega arith))) (h.mark f));
  size = λ f. old SIZES (omega arith) ∙ h.size f;
  interval = λ f g. old INTERVALS (omega arith) ∙ h.interval f g;
  place = λ f ne. old PLACES (omega arith) ∙ h.place f (λ b i. ne b (old MARKS (omega arith) ∙ i));
  left = λ f g. old VALUES (omega arith) ∙ h.left f g;
}
words_notified SignalMeasurement at at1 c k on x new old e h = off_on e

-- the words where others are chosen; a detection's mark is behind
words_chosen : (m : IcuMeasurementMode) (at : ℕ → ℕ) (behind : ℕ → Bool) (c : ℕ) (k : configured.Channel) (a : IcuStartEdge) (x : Capture) → is_measurement m ≡ false → (is_detection m ≡ true → behind (word MARKS c) ≡ true) → (is_detection m ≡ false → behind (word MARKS c) ≡ false) → ModeWords m at none c k x → ModeWords m at behind c k (record x { activation = a; active = false })
words_chosen SignalEdgeDetect at behind c k a x e b l h = record { switch = λ f. h.switch refl; mark = λ f. off_on (sym f ∙ b refl) }
words_chosen EdgeCounter at behind c k a x e b l h = tt
words_chosen Timestamp at behind c k a x e b l h = record { switch = λ f. h.switch refl; mark = λ f. stamped_chosen a x _ (h.mark refl); size = λ f. h.size refl; interval = λ f g. h.interval refl g; place = λ f ne. h.place refl (λ b. ne (l refl)); left = λ f g. h.left refl g }
words_chosen SignalMeasurement at behind c k a x e b l h = off_on (sym e)

dropped_place : (k : Option configured.Channel) (x : Capture) → HasPlace k x → HasPlace k (record x { active = false })
dropped_place None x h = tt
dropped_place (Some k) x h = λ m o. h m o

dropped_turns : (k : Option configured.Channel) (w : World) (x : Capture) → HasTurns k w x → HasTurns k w (record x { active = false })
dropped_turns None w x h = tt
dropped_turns (Some k) w x h = λ m o. h m o

marked_word : (m : IcuMeasurementMode) (at : ℕ → ℕ) (c : ℕ) (k : configured.Channel) (x : Capture) → is_detection m || is_measurement m ≡ true → ModeWords m at none c k x → at (word MARKS c) ≡ bit_of x.active
marked_word SignalEdgeDetect at c k x e h = h.mark refl
marked_word EdgeCounter at c k x e h = off_on e
marked_word Timestamp at c k x e h = off_on e
marked_word SignalMeasurement at c k x e h = h.mark refl

-- a word of another row isn't behind
beside : (first c : ℕ) → first ≢ MARKS → only (word MARKS c) (word first c) ≡ false
beside first c ne = eq_other (word first c) (word MARKS c) (apart_rows first MARKS c ne)

-- the words where the mark is dropped, and behind; and where it is stored
words_dropped : (m : IcuMeasurementMode) (at : ℕ → ℕ) (c : ℕ) (k : configured.Channel) (x : Capture) → is_detection m || is_measurement m ≡ true → ModeWords m at none c k x → ModeWords m at (only (word MARKS c)) c k (record x { active = false })
words_dropped SignalEdgeDetect at c k x e h = record { switch = λ f. h.switch refl; mark = λ f. off_on (sym f ∙ eq_self (word MARKS c)) }
words_dropped EdgeCounter at c k x e h = tt
words_dropped Timestamp at c k x e h = off_on e
words_dropped SignalMeasurement at c k x e h = record { waits = λ f. h.waits refl; mark = λ f. off_on (sym f ∙ eq_self (word MARKS c)); seen = λ f g. h.seen refl g; start = λ f g. h.start refl g; opposite = λ f g. h.opposite refl g; value = λ f. h.value refl; time = λ f. h.time refl }

words_stored : (m : IcuMeasurementMode) (at at1 : ℕ → ℕ) (c : ℕ) (k : configured.Channel) (x : Capture) → at1 (word MARKS c) ≡ 0 → ((first : ℕ) → first ≢ MARKS → at1 (word first c) ≡ at (word first c)) → x.active ≡ false → is_detection m || is_measurement m ≡ true → ModeWords m at (only (word MARKS c)) c k x → ModeWords m at1 none c k x
words_stored SignalEdgeDetect at at1 c k x new old off e h = record { switch = λ f. old SWITCHES (omega arith) ∙ h.switch (beside SWITCHES c (omega arith)); mark = λ f. new ∙ sym (ap (λ q. bit_of q) off) }
words_stored EdgeCounter at at1 c k x new old off e h = tt
words_stored Timestamp at at1 c k x new old off e h = off_on e
words_stored SignalMeasurement at at1 c k x new old off e h = record {
  waits = λ f. old SWITCHES (omega arith) ∙ h.waits (beside SWITCHES c (omega arith));
  mark = λ f. new ∙ sym (ap (λ q. bit_of q) off);
  seen = λ f g. old SIZES (omega arith) ∙ h.seen (beside SIZES c (omega arith)) g;
  start = λ f g. subst (λ v. StartIs v (seen_by k x)) (sym (old INTERVALS (omega arith))) (h.start (beside INTERVALS c (omega arith)) g);
  opposite = λ f g. subst (λ v. OppositeIs v (seen_by k x)) (sym (old PLACES (omega arith))) (h.opposite (beside PLACES c (omega arith)) g);
  value = λ f. subst (λ v. ValueIs v (waiting_value k x)) (sym (old VALUES (omega arith))) (h.value (beside VALUES c (omega arith)));
  time = λ f. subst (λ v. ActiveIs v (waiting_value k x)) (sym (old TIMES (omega arith))) (h.time (beside TIMES c (omega arith)));
}

module _ (d : IcuTable) where
  -- what a machine with another mark, notification or choice is behind with
  module _ (gap1 : Lag) (chip chip1 : Chip) (w : World) (s : IcuState) (c : ℕ) (i : (k : configured.Channel) × (channel_of d c ≡ Some k)) (lt : c < 8) (on : s.initialised ≡ true) (h : IcuRepresents d settled chip w s) (at : IsAt c gap1) (left : ChipLeft c w chip chip1) where
    other : (y : Capture) → CaptureAgrees (channel_of d c) (gap1.gates c) (gap1.queues c) (gap1.counts c) s.initialised (s.initialised || gap1.moded) (chip_capture chip1.captures c) y → ModeWords i.0.mode (λ j. word_of chip1 j) gap1.words c i.0 y → IsCourse (channel_of d c) y → HasPlace (channel_of d c) y → HasTurns (channel_of d c) w y → ((j : ℕ) → j < 64 → word_of chip1 (place_of (Stamps c) j) ≡ stamp_in y.stored j) → IcuRepresents d gap1 chip1 w (with_capture s c y)
    other y block words course place turns stamps = one_agrees d c lt settled gap1 (settled_at c) at chip chip1 w s (with_capture s c y) on h left (with_state s c y) (subst (λ z. ChannelAgrees d gap1 chip1 w s.initialised c z) (sym (with_same s c y lt)) (record {
      block = block;
      words = from_mode d c i.0 i.1 i.0.mode refl (λ j. word_of chip1 j) gap1.words y words;
      course = course;
      place = place;
      turns = turns;
      stamps = λ some j few g. stamps j few;
    }))

  -- the mark is stored
  undropped : (chip : Chip) (w : World) (s : IcuState) (c : ℕ) → Dropped d (without_edges s) c → IcuRepresents d (behind (word MARKS c)) chip w s → IcuRepresents d settled (chip_after chip (Store (word MARKS c) 0) 0) w s
  undropped chip w s c (k, known, mode, lt, on, off) h =
      let a = channel_agrees d (behind (word MARKS c)) chip w s c lt h in
      let x = capture_at s c in
      one_agrees d c lt (behind (word MARKS c)) settled (behind_at MARKS c row_marks lt) (settled_at c) chip (chip_after chip (Store (word MARKS c) 0) 0) w s s on h (left_word MARKS c 0 w chip row_marks lt h.outside) (same_state c s) (record {
        block = a.block;
        words = from_mode d c k known k.mode refl (λ j. word_of (chip_after chip (Store (word MARKS c) 0) 0) j) none x (words_stored k.mode (λ j. word_of chip j) (λ j. word_of (chip_after chip (Store (word MARKS c) 0) 0) j) c k x (word_new MARKS c 0 chip row_marks lt h.outside.all.words) (λ first ne. word_old MARKS first c 0 chip ne) (sym (ap (λ z. z.active) (calm_at s c lt)) ∙ off) mode (to_mode d c k known k.mode refl (λ j. word_of chip j) (only (word MARKS c)) x a.words));
        course = a.course;
        place = a.place;
        turns = a.turns;
        stamps = λ some j few g. stamps_old MARKS c 0 c j chip row_marks lt ∙ a.stamps some j few refl;
      })

  -- the edges are chosen; the mark is behind where the channel has one
  choice : (chip : Chip) (w : World) (s : IcuState) (c : ℕ) (e : IcuStartEdge) (gap1 : Lag) → IsAt c gap1 → ((i : configured.Channel) → is_detection i.mode ≡ false → channel_of d c ≡ Some i → gap1.words (word MARKS c) ≡ false) → gap1.gates c ≡ false → gap1.queues c ≡ false → gap1.counts c ≡ false → gap1.moded ≡ false → (i : MayCall d c (chosen_call e)) → (is_detection i.channel.mode ≡ true → gap1.words (word MARKS c) ≡ true) → s.initialised ≡ true → IcuRepresents d settled chip w s → IcuRepresents d gap1 (chip_after chip (Write (CaptureCondition c) (condition_of e)) 0) w (with_capture s c (record (capture_at s c) { activation = e; active = false }))
  choice chip w s c e gap1 at l g q n md i b on h =
      let a = channel_agrees d settled chip w s c i.lt h in
      let x = capture_at s c in
      let y = record x { activation = e; active = false } in
      let old = chip_capture chip.captures c in
      let new = record old { condition = condition_by e } in
      let none_measured = not-true (is_measurement i.channel.mode) i.suited in
      let here = block_chosen (channel_of d c) e s.initialised (s.initialised || false) old x i.channel i.known none_measured a.block in
      other gap1 chip (chip_after chip (Write (CaptureCondition c) (condition_of e)) 0) w s c (i.channel, i.known) i.lt on h at
      (left_channel c w chip (with_condition (condition_of e) old) (stands-move chip w (Write (CaptureCondition c) (condition_of e)) 0 h.outside)) y
      (rw (g, q, n, md) (subst (λ z. CaptureAgrees (channel_of d c) false false false s.initialised (s.initialised || false) z y) (sym (channel_new c chip.captures (with_condition (condition_of e) old) h.size i.lt ∙ condition_new e old)) here))
      (words_chosen i.channel.mode (λ j. word_of chip j) gap1.words c i.channel e x none_measured b (λ f. l i.channel f i.known) (to_mode d c i.channel i.known i.channel.mode refl (λ j. word_of chip j) none x a.words))
      (as_course (channel_of d c) x y refl refl refl refl refl a.course) (place_chosen (channel_of d c) e x a.place) (turns_chosen (channel_of d c) w e x a.turns) (λ j few. a.stamps (is_there d c i.channel i.known) j few refl)

  choose_by : (chip : Chip) (w : World) (s : IcuState) (c : ℕ) (e : IcuStartEdge) (m : ℕ → Bool) (i : MayCall d c (chosen_call e)) → s.initialised ≡ true → IcuRepresents d settled chip w s → (q : Bool) → q ≡ is_detection i.channel.mode → Good d (change_bodies d) chip w s (Choose c e q) (Called (Channel c (chosen_call e))) None m
  choose_by chip w s c e m i on h true f =
      let y = record (capture_at s c) { activation = e; active = false } in
      let s1 = with_capture s c y in (
        below_test c i.lt,
        record {
          own = tt;
          state = s1;
          told = answers no_answer;
          is = λ times. acts_is d w s c (chosen_call e) times.committed i on;
          acts = tt;
          next = (choice chip w s c e (behind (word MARKS c)) (behind_at MARKS c row_marks i.lt) (λ j g known. off_on (sym g ∙ (ap (λ z. is_detection z.mode) (same_some j i.channel (sym known ∙ i.known)) ∙ sym f))) refl refl refl refl i (λ f. eq_self (word MARKS c)) on h, ((Channel c (chosen_call e), Is_after, (i.channel, i.known, ap (λ q. q || is_measurement i.channel.mode) (sym f), i.lt, on, ap (λ z. z.active) (calm_at s1 c i.lt) ∙ ap (λ z. z.active) (with_same s c y i.lt))), tt));
        },
      )
  choose_by chip w s c e m i on h false f = (
    below_test c i.lt,
    record {
      own = tt;
      state = with_capture s c (record (capture_at s c) { activation = e; active = false });
      told = answers no_answer;
      is = λ times. acts_is d w s c (chosen_call e) times.committed i on;
      acts = tt;
      next = (choice chip w s c e settled (settled_at c) (λ j g known. refl) refl refl refl refl i (λ g. off_on (f ∙ g)) on h, (refl, refl, refl));
    },
  )

  steps : AllGood d (change_bodies d)
  steps chip w s (Notify c up) o t m (h, ((Is_before, i, on), u)) =
      let a = channel_agrees d settled chip w s c i.lt h in
      let x = capture_at s c in
      let y = record x { notification = up } in
      let at1 = λ (j : ℕ). word_of (chip_after chip (Store (word SWITCHES c) (bit_of up)) 0) j in
      let mode = notified_mode i.channel.mode i.channel.signal_notification i.channel.timestamp_notification (sym (notify_suits up i.channel) ∙ i.suited) in (
        may_row d SWITCHES c row_switches i.lt,
        record {
          own = tt;
          state = with_capture s c y;
          told = answers no_answer;
          is = λ times. acts_is d w s c (notifying up) times.committed i on ∙ (ap (λ z. Some (outcome (with_capture s c z) (answers (channel_answer i.channel (notifying up) x)))) (notify_work up x) ∙ ap (λ z. Some (outcome (with_capture s c y) (answers z))) (notify_answer up i.channel x));
          acts = subst (λ z. StandsLow z false (Store (word SWITCHES c) (bit_of up)) (Some (owes_nothing no_answer))) (sym (notify_halves up c)) tt;
          next = (other settled chip (chip_after chip (Store (word SWITCHES c) (bit_of up)) 0) w s c (i.channel, i.known) i.lt on h (settled_at c) (left_word SWITCHES c (bit_of up) w chip row_switches i.lt h.outside) y (block_as (channel_of d c) false false false s.initialised (s.initialised || false) (chip_capture chip.captures c) x y refl refl refl refl refl a.block) (words_notified i.channel.mode (λ j. word_of chip j) at1 c i.channel up x (word_new SWITCHES c (bit_of up) chip row_switches i.lt h.outside.all.words) (λ first ne. word_old SWITCHES first c (bit_of up) chip ne) mode (to_mode d c i.channel i.known i.channel.mode refl (λ j. word_of chip j) none x a.words)) (as_course (channel_of d c) x y refl refl refl refl refl a.course) (place_on (channel_of d c) up x a.place) (turns_on (channel_of d c) w up x a.turns) (λ j few. stamps_old SWITCHES c (bit_of up) c j chip row_switches i.lt ∙ a.stamps (is_there d c i.channel i.known) j few refl), (refl, refl, refl));
        },
      )
  steps chip w s (Choose c e q) o t m (h, ((Is_before, i, on, f), u)) = choose_by chip w s c e m i on h q f
  steps chip w s (Drop c) o t m (h, ((call, Is_after, x), u)) = (may_row d MARKS c row_marks x.3, (undropped chip w s c x h, (refl, refl, refl)))
  steps chip w s (Ask c) o t m (h, ((Is_before, i, on), u)) =
      let a = channel_agrees d settled chip w s c i.lt h in
      let x = capture_at s c in
      let y = record x { active = false } in
      let s1 = with_capture s c y in
      let v = word_of chip (word MARKS c) in
      let words = to_mode d c i.channel i.known i.channel.mode refl (λ j. word_of chip j) none x a.words in
      let mark = marked_word i.channel.mode (λ j. word_of chip j) c i.channel x i.suited words in (
        may_row d MARKS c row_marks i.lt,
        record {
          own = tt;
          state = s1;
          told = answers (input_answer (v == 1));
          is = λ times. acts_is d w s c GetInputState times.committed i on ∙ ap (λ z. Some (outcome s1 (answers (input_answer z)))) (sym (ap (λ z. z == 1) mark ∙ mark_is x.active));
          acts = tt;
          next = (other (behind (word MARKS c)) chip chip w s c (i.channel, i.known) i.lt on h (behind_at MARKS c row_marks i.lt) (left_same c w chip h.outside) y (block_as (channel_of d c) false false false s.initialised (s.initialised || false) (chip_capture chip.captures c) x y refl refl refl refl refl a.block) (words_dropped i.channel.mode (λ j. word_of chip j) c i.channel x i.suited words) (as_course (channel_of d c) x y refl refl refl refl refl a.course) (dropped_place (channel_of d c) x a.place) (dropped_turns (channel_of d c) w x a.turns) (λ j few. a.stamps (is_there d c i.channel i.known) j few refl), ((Is_after, (i.channel, i.known, i.suited, i.lt, on, ap (λ z. z.active) (calm_at s1 c i.lt) ∙ ap (λ z. z.active) (with_same s c y i.lt))), tt));
        },
      )
  steps chip w s (Take c v) o t m (h, ((Is_after, x), u)) = (may_row d MARKS c row_marks x.3, (undropped chip w s c x h, (refl, refl, refl)))

  pub change_right : AreRight (icu_ground d) (change_bodies d)
  change_right = steady_right d change_work change_takes change_left change_gap (change_holds d) change_shortens steps
