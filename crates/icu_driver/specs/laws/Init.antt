-- Icu_Init: its steps, what holds at each, and that they are right.
-- From Calls, One, Steady, RefinementRight, module_machines: icu.Channels and 3 more.
-- Used by DeInit, service/init/rt, Lawful, Windows.
use Rattle.std.proofs.Common.{◌≡◌, ◌≢◌, ◌+◌, ◌-◌, ◌*◌, ◌<◌, ◌&&◌, ◌||◌, ◌∙◌, if◌then◌else◌}
use Rattle.icu_driver.specs.Terms
use Terms.{ActiveIs, Acts, acts_by, ap, AreRight, arith, bare, bare_block, Before, below_test, bit_of, Bodies, Bool}
use Terms.{Both, by_channel_at, by_eight, Call, Capture, capture_at, CaptureAgrees, CaptureCondition, CaptureMode}
use Terms.{Captures, channel_of, ChannelWords, Chip, chip_after, chip_capture, chip_with, cleared, cleared_all, closed}
use Terms.{Condition, condition_by, counts_edges, each_but, EdgeCounter, Enable, EnableSet, error_by, Falling, false}
use Terms.{get_or-set_other, happens, has_bit, has_bit-or, HasPlace, HasTurns, icu_ground, icu_machine}
use Terms.{IcuMeasurementMode, IcuRepresents, IcuStartEdge, IcuState, index_by, Init, InitBody, Is_before, is_counter}
use Terms.{Is_fresh, is_measurement, Is_on, is_own_word, is_some, is_stamp, Is_stopped, IsClean, IsCourse, kept, Lag}
use Terms.{length, length-set, map, missed_after, Mode, mode_by, ModeWords, nat_lt, None, none, not, off_on, Option}
use Terms.{or_right, Origin, outcome, own_word, place_of, refl, Rising, settled, SignalEdgeDetect, SignalMeasurement}
use Terms.{Some, stamp_in, Stamped, Stamps, stands-move, StandsIn, StepsTo, stored_other, stored_same, Stores, subst}
use Terms.{sym, tells_nothing, Timestamp, Told, true, ValueIs, with_condition, with_mode, word_of, World, Write, ℕ}
use Rattle.icu_driver.specs.laws.{Base.{nat_tests, Move, Act, no_answer, BodyTaken, goes, ends, Nothing, Shortens}}
use Rattle.icu_driver.specs.laws.{Base.{word, condition_of, first_condition, mode_of, Channel, IcuTable, STATE, LINES}}
use Rattle.icu_driver.specs.laws.{Base.{MARKS, VALUES, TIMES}, Calls.{bare_at, off_place, off_turns}}
use Rattle.icu_driver.specs.laws.{Measure.{none_served}, One.{channel_new, words_left, off_channel}, Steady.{AllGood}}
use Rattle.icu_driver.specs.laws.{Steady.{steady, steady_right}}
use Rattle.icu_driver.specs.declared.service.init.InitBody.TheVariants.{Store}
use Rattle.chip_blocks.specs.declared.captures.capture.Capture as chips
use Rattle.chip_blocks.specs.declared.captures.capture.Condition.TheVariants as conditions

abbrev pub init_work : InitBody → Move
init_work (Condition d c) = Write (CaptureCondition c) (first_condition (channel_of d c))
init_work (Mode d c) = Write (CaptureMode c) (mode_of (channel_of d c))
init_work Enable = Write EnableSet LINES
init_work Store = Stores STATE 1

abbrev pub init_takes : InitBody → ℕ → InitBody × BodyTaken
init_takes (Condition d c) x = (Mode d c, goes)
init_takes (Mode d c) x = if nat_lt c 7 then (Condition d (c + 1), goes) else (Enable, goes)
init_takes Enable x = (Store, goes)
init_takes Store x = (Store, ends (Some Act) no_answer Nothing)

abbrev pub init_left : InitBody → ℕ
init_left (Condition d c) = 4 + 2 * (7 - c)
init_left (Mode d c) = 3 + 2 * (7 - c)
init_left Enable = 2
init_left Store = 1

init_next : (d : IcuTable) (c : ℕ) (q : Bool) → nat_lt c 7 ≡ q → Shortens init_left (Mode d c) (if q then (Condition d (c + 1), goes) else (Enable, goes))
init_next d c true e = let k : c < 7 = grind (arith, nat_tests) in omega (arith, k)
init_next d c false e = omega arith

pub init_shortens : (k : InitBody) (x : ℕ) → Shortens init_left k (init_takes k x)
init_shortens (Mode d c) x = init_next d c (nat_lt c 7) refl
init_shortens (Condition d c) x = omega arith
init_shortens Enable x = omega arith
init_shortens Store x = omega arith

-- ---- what holds at each; while the module is off conditions and modes are free

abbrev pub init_gap : InitBody → Lag
init_gap Store = record settled { lines = Some true }
init_gap _ = settled

abbrev pub ChoosesFirst : Option Channel → chips.Capture → Type 0
ChoosesFirst None b = Unit {0}
ChoosesFirst (Some k) b = b.condition ≡ (if is_measurement k.mode then conditions.Both else condition_by k.start_edge)

-- the channels below this one have their conditions and modes
abbrev pub SetUp : IcuTable → Captures → ℕ → Type 0
SetUp d f c = (j : ℕ) → j < c → ChoosesFirst (channel_of d j) (chip_capture f j) × ((chip_capture f j).mode ≡ mode_by (counts_edges (channel_of d j)))

abbrev pub init_holds : IcuTable → Captures → IcuState → InitBody → Origin Call → Option Told → Type 0
init_holds d f s (Condition e c) o t = Before Init o t × (s.initialised ≡ false) × (e ≡ d) × (c < 8) × SetUp d f c
init_holds d f s (Mode e c) o t = Before Init o t × (s.initialised ≡ false) × (e ≡ d) × (c < 8) × SetUp d f c × ChoosesFirst (channel_of d c) (chip_capture f c)
init_holds d f s Enable o t = Before Init o t × (s.initialised ≡ false) × SetUp d f 8
init_holds d f s Store o t = Before Init o t × (s.initialised ≡ false) × SetUp d f 8

abbrev pub init_bodies : (d : IcuTable) → Bodies (icu_ground d) InitBody
init_bodies d = steady d init_work init_takes init_left init_gap (init_holds d)

-- what is written to the registers
condition_first : (k : Option Channel) (b : chips.Capture) → ChoosesFirst k (with_condition (first_condition k) b)
condition_first None b = tt
condition_first (Some k) b = by (is_measurement k.mode) k.start_edge
  where
    by : (q : Bool) (e : IcuStartEdge) → (with_condition (if q then 3 else condition_of e) b).condition ≡ (if q then conditions.Both else condition_by e)
    by true e = refl
    by false Rising = refl
    by false Falling = refl
    by false Both = refl

mode_first : (k : Option Channel) (b : chips.Capture) → (with_mode (mode_of k) b).mode ≡ mode_by (counts_edges k)
mode_first None b = refl
mode_first (Some k) b = by (is_counter k.mode)
  where
    by : (q : Bool) → (with_mode (bit_of q) b).mode ≡ mode_by q
    by true = refl
    by false = refl

abbrev Kept : chips.Capture → chips.Capture → Type 0
Kept b y = (y.gate ≡ b.gate) × (y.queue ≡ b.queue) × (y.lost ≡ b.lost) × (y.count ≡ b.count)

condition_keeps : (k : Option Channel) (b : chips.Capture) → Kept b (with_condition (first_condition k) b) × ((with_condition (first_condition k) b).mode ≡ b.mode)
condition_keeps None b = ((refl, refl, refl, refl), refl)
condition_keeps (Some k) b = by (is_measurement k.mode) k.start_edge
  where
    by : (q : Bool) (e : IcuStartEdge) → Kept b (with_condition (if q then 3 else condition_of e) b) × ((with_condition (if q then 3 else condition_of e) b).mode ≡ b.mode)
    by true e = ((refl, refl, refl, refl), refl)
    by false Rising = ((refl, refl, refl, refl), refl)
    by false Falling = ((refl, refl, refl, refl), refl)
    by false Both = ((refl, refl, refl, refl), refl)

mode_keeps : (k : Option Channel) (b : chips.Capture) → Kept b (with_mode (mode_of k) b) × ((with_mode (mode_of k) b).condition ≡ b.condition)
mode_keeps None b = ((refl, refl, refl, refl), refl)
mode_keeps (Some k) b = by (is_counter k.mode)
  where
    by : (q : Bool) → Kept b (with_mode (bit_of q) b) × ((with_mode (bit_of q) b).condition ≡ b.condition)
    by true = ((refl, refl, refl, refl), refl)
    by false = ((refl, refl, refl, refl), refl)

chooses_same : (k : Option Channel) (b y : chips.Capture) → y.condition ≡ b.condition → ChoosesFirst k b → ChoosesFirst k y
chooses_same None b y e h = tt
chooses_same (Some k) b y e h = e ∙ h

-- every line is enabled
pub all_lines : (c : ℕ) → c < 8 → has_bit LINES (16 + c) ≡ true
all_lines c lt = by_eight (λ i. has_bit LINES (16 + i) ≡ true) refl refl refl refl refl refl refl refl c lt

-- the state word may be stored
pub may_state : (d : IcuTable) → (is_own_word d STATE || is_stamp d STATE) && nat_lt STATE 147456 ≡ true
may_state d = ap (λ q. (q || is_stamp d STATE) && nat_lt STATE 147456) (own_word d STATE (omega arith) (omega arith))

-- ---- a channel that is cleared

pub cleared_course : (k : Option Channel) (x : Capture) → IsCourse k x → IsCourse k (cleared k x)
cleared_course None x h = h
cleared_course (Some k) x h = record { room = omega arith; times = tt; counter = λ f. (refl, refl); off = λ f. (refl, refl); start = h.start; count = omega arith; unstarted = h.unstarted; uncounted = λ f. refl }

pub cleared_off : (k : Option Channel) (x : Capture) → x.on ≡ false → (cleared k x).on ≡ false
cleared_off None x e = e
cleared_off (Some k) x e = refl

pub cleared_stored : (k : Option Channel) (x : Capture) → (cleared k x).stored ≡ x.stored
cleared_stored None x = refl
cleared_stored (Some k) x = refl

module _ (d : IcuTable) where
  -- a channel's condition or mode is written while the module is off
  written : (chip : Chip) (w : World) (s : IcuState) (c : ℕ) (y : chips.Capture) → c < 8 → s.initialised ≡ false → Kept (chip_capture chip.captures c) y → StandsIn (record chip { captures = chip_with chip.captures c y }) w → IcuRepresents d settled chip w s → IcuRepresents d settled (record chip { captures = chip_with chip.captures c y }) w s
  written chip w s c y lt off same outside h = record {
    outside = outside;
    size = length-set chip.captures.captures c y ∙ h.size;
    wired = h.wired;
    block = λ k few. each_but (λ i. CaptureAgrees (channel_of d i) false false false s.initialised (s.initialised || false) (chip_capture (chip_with chip.captures c y) i) (capture_at s i)) c
        (subst (λ z. CaptureAgrees (channel_of d c) false false false s.initialised (s.initialised || false) z (capture_at s c)) (sym (channel_new c chip.captures y h.size lt)) here) k
        (λ ne. subst (λ z. CaptureAgrees (channel_of d k) false false false s.initialised (s.initialised || false) z (capture_at s k)) (sym (get_or-set_other chip.captures.captures c k y closed ne)) (h.block k few));
    state = h.state;
    words = h.words;
    course = h.course;
    turns = h.turns;
    lines = h.lines;
    stamps = h.stamps;
    clean = h.clean;
  }
    where
      here : CaptureAgrees (channel_of d c) false false false s.initialised (s.initialised || false) y (capture_at s c)
      here = let a = h.block c lt in record {
        gate = λ f. same.0 ∙ a.gate f;
        queue = λ f. same.1 ∙ a.queue f;
        lost = λ f. same.2 ∙ a.lost f;
        count = λ f. same.3 ∙ a.count f;
        condition = λ f. off_on (sym off ∙ f);
        mode = λ f. off_on (sym (ap (λ q. q || false) off) ∙ f);
        starts = a.starts;
        known = a.known;
        free_known = a.free_known;
        free_queue = a.free_queue;
        free_count = a.free_count;
      }

  -- what the block keeps, seen without queues and counts
  at_new : (b : Captures) (c : ℕ) (y : chips.Capture) → length b.captures ≡ 8 → c < 8 → chip_capture (bare_block (chip_with b c y)) c ≡ bare y
  at_new b c y size lt = bare_at (chip_with b c y) c (length-set b.captures c y ∙ size) lt ∙ ap (λ z. bare z) (channel_new c b y size lt)

  at_old : (b : Captures) (c k : ℕ) (y : chips.Capture) → length b.captures ≡ 8 → k < 8 → k ≢ c → chip_capture (bare_block (chip_with b c y)) k ≡ chip_capture (bare_block b) k
  at_old b c k y size few ne = bare_at (chip_with b c y) k (length-set b.captures c y ∙ size) few ∙ (ap (λ z. bare z) (get_or-set_other b.captures c k y closed ne) ∙ sym (bare_at b k size few))

  still_set : (b : Captures) (c : ℕ) (y : chips.Capture) → length b.captures ≡ 8 → c < 8 → SetUp d (bare_block b) c → SetUp d (bare_block (chip_with b c y)) c
  still_set b c y size lt h j less =
      let few : j < 8 = omega (arith, lt, less) in
      let same = at_old b c j y size few (λ e. absurd (omega (arith, less, e))) in
      (chooses_same (channel_of d j) (chip_capture (bare_block b) j) (chip_capture (bare_block (chip_with b c y)) j) (ap (λ z. z.condition) same) (h j less).0, ap (λ z. z.mode) same ∙ (h j less).1)

  more_set : (f : Captures) (c : ℕ) → SetUp d f c → ChoosesFirst (channel_of d c) (chip_capture f c) → (chip_capture f c).mode ≡ mode_by (counts_edges (channel_of d c)) → SetUp d f (c + 1)
  more_set f c h p q j less = each_but (λ i. ChoosesFirst (channel_of d i) (chip_capture f i) × ((chip_capture f i).mode ≡ mode_by (counts_edges (channel_of d i)))) c (p, q) j (λ ne. h j (fewer j c less ne))
    where
      fewer : (j c : ℕ) → j < c + 1 → j ≢ c → j < c
      fewer j c less ne = grind arith

  -- a channel of a module that is off, cleared
  cleared_block : (k : Option Channel) (moded : Bool) (b : chips.Capture) (x : Capture) → CaptureAgrees k false false false false false b x → IsCourse k x → x.on ≡ false → (is_some k ≡ true → IsClean x) → ChoosesFirst k b → b.mode ≡ mode_by (counts_edges k) → CaptureAgrees k false false false true true b (cleared k x)
  cleared_block None moded b x a g off z p q = record { gate = a.gate; queue = a.queue; lost = a.lost; count = a.count; condition = λ f. tt; mode = λ f. q; starts = λ f. off_on (sym off ∙ f); known = λ f. f; free_known = λ f. off_on f; free_queue = λ f. off_on f; free_count = λ f. off_on f }
  cleared_block (Some k) moded b x a g off z p q = record { gate = λ f. a.gate f ∙ off; queue = λ f. a.queue f ∙ ap (λ es. map kept es) (g.off off).0; lost = λ f. a.lost f ∙ (g.off off).1; count = λ f. a.count f ∙ (z refl).uncounted; condition = λ f. p; mode = λ f. q; starts = λ f. off_on f; known = λ f. f; free_known = λ f. off_on f; free_queue = λ f. off_on f; free_count = λ f. off_on f }

  stamped_cleared : (k : Channel) (x : Capture) (v : ℕ) → x.on ≡ false → Stamped x v → Stamped (cleared (Some k) x) v
  stamped_cleared k x _ off (Is_on e) = off_on (sym off ∙ e)
  stamped_cleared k x _ off (Is_stopped e f) = Is_stopped refl f
  stamped_cleared k x _ off (Is_fresh e f) = Is_fresh refl refl

  cleared_words : (m : IcuMeasurementMode) (at : ℕ → ℕ) (c : ℕ) (k : Channel) (x : Capture) → IsClean x → ModeWords m at none c k x → ModeWords m at none c k (cleared (Some k) x)
  cleared_words SignalEdgeDetect at c k x z h = record { switch = λ f. h.switch f ∙ ap (λ q. bit_of q) z.quiet; mark = λ f. h.mark f ∙ ap (λ q. bit_of q) z.unmarked }
  cleared_words EdgeCounter at c k x z h = tt
  cleared_words Timestamp at c k x z h = record { switch = λ f. h.switch f ∙ ap (λ q. bit_of q) z.quiet; mark = λ f. stamped_cleared k x (at (word MARKS c)) z.off (h.mark f); size = h.size; interval = λ f g. off_on g; place = λ f ne. h.place f ne ∙ ap (λ es. index_by k x.start (length es)) z.unserved; left = λ f g. off_on g }
  cleared_words SignalMeasurement at c k x z h =
      let nothing = none_served k (cleared (Some k) x) refl in
      record { waits = λ f. h.waits f ∙ (ap (λ o. bit_of (is_some o)) (none_served k x z.unserved) ∙ sym (ap (λ o. bit_of (is_some o)) nothing)); mark = λ f. h.mark f ∙ ap (λ q. bit_of q) z.unmarked; seen = λ f g. off_on g; start = λ f g. off_on g; opposite = λ f g. off_on g; value = λ f. subst (λ o. ValueIs (at (word VALUES c)) o) (sym nothing) tt; time = λ f. subst (λ o. ActiveIs (at (word TIMES c)) o) (sym nothing) tt }

  channel_cleared : (k : Option Channel) (at : ℕ → ℕ) (c : ℕ) (x : Capture) → (is_some k ≡ true → IsClean x) → ChannelWords k at none c x → ChannelWords k at none c (cleared k x)
  channel_cleared None at c x z h = tt
  channel_cleared (Some k) at c x z h = cleared_words k.mode at c k x (z refl) h

  abbrev on_state : IcuState → IcuState
  on_state s = cleared_all d s true

  started : (chip : Chip) (w : World) (s : IcuState) → s.initialised ≡ false → SetUp d (bare_block chip.captures) 8 → IcuRepresents d (record settled { lines = Some true }) chip w s → IcuRepresents d settled (chip_after chip (Stores STATE 1) 0) w (on_state s)
  started chip w s off ready h =
      let gap = record settled { lines = Some true } in
      let chip1 = chip_after chip (Stores STATE 1) 0 in
      let at = λ (c : ℕ) (lt : c < 8). by_channel_at (λ i. cleared (channel_of d i) (capture_at s i)) c lt in
      let clean = h.clean off in
      let idle = λ (c : ℕ) (lt : c < 8). off_channel d (record settled { lines = Some true }) chip w s c lt off h in
      let keeps = λ (j : ℕ) (ne : j ≢ STATE). stored_other chip STATE 1 0 j ne in
      record {
        outside = stands-move chip w (Stores STATE 1) 0 h.outside;
        size = h.size;
        wired = h.wired;
        block = λ c lt. subst (λ x. CaptureAgrees (channel_of d c) false false false true true (chip_capture chip.captures c) x) (sym (at c lt)) (cleared_block (channel_of d c) true (chip_capture chip.captures c) (capture_at s c) (subst (λ q. CaptureAgrees (channel_of d c) false false false q (q || false) (chip_capture chip.captures c) (capture_at s c)) off (h.block c lt)) (h.course c lt).0 (idle c lt) (clean c lt) (chooses_same (channel_of d c) (chip_capture (bare_block chip.captures) c) (chip_capture chip.captures c) (sym (ap (λ z. z.condition) (bare_at chip.captures c h.size lt))) (ready c lt).0) (sym (ap (λ z. z.mode) (bare_at chip.captures c h.size lt)) ∙ (ready c lt).1));
        state = λ f. stored_same chip STATE 1 0 (omega arith) h.outside.all.words;
        words = λ c lt. subst (λ x. ChannelWords (channel_of d c) (λ j. word_of chip1 j) none c x) (sym (at c lt)) (words_left (λ j. word_of chip j) (λ j. word_of chip1 j) none none c (λ first row e. let low = row.1 in keeps (word first c) (λ i. absurd (omega (arith, low, i)))) (λ first row. refl) (channel_of d c) (cleared (channel_of d c) (capture_at s c)) (channel_cleared (channel_of d c) (λ j. word_of chip j) c (capture_at s c) (clean c lt) (h.words c lt)));
        course = λ c lt. subst (λ x. IsCourse (channel_of d c) x × HasPlace (channel_of d c) x) (sym (at c lt)) (cleared_course (channel_of d c) (capture_at s c) (h.course c lt).0, off_place (channel_of d c) (cleared (channel_of d c) (capture_at s c)) (cleared_off (channel_of d c) (capture_at s c) (idle c lt)));
        turns = λ c lt. subst (λ x. HasTurns (channel_of d c) w x) (sym (at c lt)) (off_turns (channel_of d c) w (cleared (channel_of d c) (capture_at s c)) (cleared_off (channel_of d c) (capture_at s c) (idle c lt)));
        lines = λ c lt. h.lines c lt;
        stamps = λ c lt some i few g. keeps (place_of (Stamps c) i) (λ e. absurd (omega (arith, e))) ∙ (h.stamps c lt some i few refl ∙ sym (ap (λ (x : Capture). stamp_in x.stored i) (at c lt) ∙ ap (λ ss. stamp_in ss i) (cleared_stored (channel_of d c) (capture_at s c))));
        clean = λ f. off_on (sym f);
      }

  acts_on_init : (w : World) (s : IcuState) (times : ℕ → ℕ) → s.initialised ≡ false → happens d w s (Acts Init times) ≡ Some (outcome (on_state s) tells_nothing)
  acts_on_init w s times off = ap (λ q. Some (acts_by d s Init (error_by d Init (not q) false))) off

  mode_by_last : (chip : Chip) (w : World) (s : IcuState) (c : ℕ) (o : Origin Call) (t : Option Told) (m : ℕ → Bool) → c < 8 → Before Init o t → s.initialised ≡ false → IcuRepresents d settled chip w s → SetUp d (bare_block chip.captures) (c + 1) → (q : Bool) → nat_lt c 7 ≡ q → StepsTo (icu_ground d) (init_bodies d) chip w s o (Write (CaptureMode c) (mode_of (channel_of d c))) false t m (if q then (Condition d (c + 1), goes) else (Enable, goes))
  mode_by_last chip w s c o t m lt before off h ready true e = (h, ((before, off, refl, next c e, ready), tt))
    where
      next : (c : ℕ) → nat_lt c 7 ≡ true → c + 1 < 8
      next c e = grind (arith, nat_tests)
  mode_by_last chip w s c o t m lt before off h ready false e = (h, ((before, off, subst (λ n. SetUp d (bare_block chip.captures) n) (last c lt e) ready), tt))
    where
      last : (c : ℕ) → c < 8 → nat_lt c 7 ≡ false → c + 1 ≡ 8
      last c lt e = grind (arith, nat_tests)

  steps : AllGood d (init_bodies d)
  steps chip w s (Condition e c) o t m (h, ((before, off, is, lt, ready), u)) =
      let b = chip_capture chip.captures c in
      let y = with_condition (first_condition (channel_of e c)) b in
      let same = condition_keeps (channel_of e c) b in
      (below_test c lt, (written chip w s c y lt off same.0 (stands-move chip w (Write (CaptureCondition c) (first_condition (channel_of e c))) 0 h.outside) h, ((before, off, is, lt, still_set chip.captures c y h.size lt ready, subst (λ z. ChoosesFirst (channel_of z c) (chip_capture (bare_block (chip_with chip.captures c y)) c)) is (chooses_same (channel_of e c) y (chip_capture (bare_block (chip_with chip.captures c y)) c) (ap (λ z. z.condition) (at_new chip.captures c y h.size lt)) (condition_first (channel_of e c) b))), tt)))
  steps chip w s (Mode e c) o t m (h, ((before, off, is, lt, ready, chosen_first), u)) =
      let b = chip_capture chip.captures c in
      let y = with_mode (mode_of (channel_of e c)) b in
      let same = mode_keeps (channel_of e c) b in
      let seen = at_new chip.captures c y h.size lt in
      let chip1 = chip_after chip (Write (CaptureMode c) (mode_of (channel_of e c))) 0 in
      let m1 = missed_after (icu_machine d) w s m in
      let after = written chip w s c y lt off same.0 (stands-move chip w (Write (CaptureMode c) (mode_of (channel_of e c))) 0 h.outside) h in
      let chosen_now = chooses_same (channel_of d c) (chip_capture (bare_block chip.captures) c) (chip_capture (bare_block (chip_with chip.captures c y)) c) (ap (λ z. z.condition) seen ∙ (same.1 ∙ sym (ap (λ z. z.condition) (bare_at chip.captures c h.size lt)))) chosen_first in
      let mode_now = ap (λ z. z.mode) seen ∙ (mode_first (channel_of e c) b ∙ ap (λ z. mode_by (counts_edges (channel_of z c))) is) in
      let set = more_set (bare_block (chip_with chip.captures c y)) c (still_set chip.captures c y h.size lt ready) chosen_now mode_now in
      (below_test c lt, subst (λ z. StepsTo (icu_ground d) (init_bodies d) chip1 w s o (Write (CaptureMode c) (mode_of (channel_of e c))) false t m1 (if nat_lt c 7 then (Condition z (c + 1), goes) else (Enable, goes))) (sym is) (subst (λ z. StepsTo (icu_ground d) (init_bodies d) chip1 w s o (Write (CaptureMode c) (mode_of (channel_of z c))) false t m1 (if nat_lt c 7 then (Condition d (c + 1), goes) else (Enable, goes))) (sym is) (mode_by_last chip1 w s c o t m1 lt before off after set (nat_lt c 7) refl)))
  steps chip w s Enable o t m (h, ((before, off, ready), u)) = (refl, (record { outside = stands-move chip w (Write EnableSet LINES) 0 h.outside; size = h.size; wired = h.wired; block = h.block; state = h.state; words = h.words; course = h.course; turns = h.turns; lines = λ c lt. has_bit-or chip.control.enabled LINES (16 + c) ∙ or_right (has_bit chip.control.enabled (16 + c)) (has_bit LINES (16 + c)) (all_lines c lt); stamps = h.stamps; clean = h.clean }, ((before, off, ready), tt)))
  steps chip w s Store o t m (h, ((Is_before, off, ready), u)) = (
    may_state d,
    record {
      own = tt;
      state = on_state s;
      told = tells_nothing;
      is = λ times. acts_on_init w s times.committed off;
      acts = tt;
      next = (started chip w s off ready h, (refl, refl, refl));
    },
  )

  pub init_right : AreRight (icu_ground d) (init_bodies d)
  init_right = steady_right d init_work init_takes init_left init_gap (init_holds d) init_shortens steps
