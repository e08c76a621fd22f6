-- One channel under a step: the other ones are as they were.
-- From service_outline: Words, module_machines: icu.Channels, service_outline: SweepWords.
-- Used by KeepRight, Change, DeInit, Stamp, SampleRight and 8 more.
use Rattle.std.proofs.Common.{◌≡◌, ◌≢◌, ◌+◌, ◌%◌, ◌<◌, ◌≤◌, ◌^◌, ◌||◌, ◌∙◌, if◌then◌else◌}
use Rattle.module_machines.specs.icu.laws.Channels.{with_other}
use Rattle.icu_driver.specs.Terms
use Terms.{Act, acted, acting, ActiveIs, all_are, ap, arith, bit, Bool, Capture, capture_at}
use Terms.{CaptureAgrees, Captures, Channel, channel_of, ChannelWords, Chip, chip_after, chip_capture, chip_with}
use Terms.{closed, each_but, EdgeCounter, false, get_or-at_bits, get_or-set_other, get_or-set_same, has_bit, has_bit-pow_other, has_bit-pow_same, HasPlace, HasTurns, IcuTable, IcuMeasurementMode, IcuRepresents, IcuState, INTERVALS, is_some, IsClean, IsCourse, Lag, length, length-at_bits, length-set, MARKS, ModeWords, nat_lt, nat_tests, None, off_on, OppositeIs, Option, place_of, PLACES, refl, seen_by, settled, SignalEdgeDetect, SignalMeasurement, SIZES, slice_index_or, Some, stamp_in, Stamped, Stamps, stands-move, StandsIn, StartIs, STATE, state_word, Store, stored_other, stored_same, subst, SWITCHES, sym, TIMES, Timestamp, true, ValueIs, VALUES, waiting_value, with_capture, word, word_of, WORDS, World, ℕ}
use Rattle.chip_blocks.specs.declared.captures.capture.Capture as chips

-- ---- rows of words

-- the first word of a row, which has a word for each channel
abbrev pub IsRow : ℕ → Type 0
IsRow first = (first % 8 ≡ 0) × (STATE < first) × (first ≤ TIMES)

-- words of different channels are different
pub apart_words : (a b k c : ℕ) → IsRow a → IsRow b → k < 8 → c < 8 → k ≢ c → word a k ≢ word b c
apart_words a b k c ra rb lt lc ne e = let x = ra.0 in let y = rb.0 in ne (omega (arith, x, y, lt, lc, e))

-- and so are words of different rows
pub apart_rows : (a b c : ℕ) → a ≢ b → word a c ≢ word b c
apart_rows a b c ne e = ne (omega (arith, e))

-- ---- what is of one channel

-- all that is under work is of this channel
pub record IsAt (c : ℕ) (gap : Lag) : Type 0 where
  pub gates : (k : ℕ) → k ≢ c → gap.gates k ≡ false
  pub queues : (k : ℕ) → k ≢ c → gap.queues k ≡ false
  pub counts : (k : ℕ) → k ≢ c → gap.counts k ≡ false
  pub words : (first k : ℕ) → IsRow first → k < 8 → k ≢ c → gap.words (word first k) ≡ false
  pub state : gap.words STATE ≡ false
  pub stamps : (k i : ℕ) → k ≢ c → gap.stamps k i ≡ false
  pub moded : gap.moded ≡ false
  pub lines : gap.lines ≡ None

-- what is under work of the other channels stays
pub record GapLeft (c : ℕ) (gap gap1 : Lag) : Type 0 where
  pub gates : (k : ℕ) → k ≢ c → gap.gates k ≡ gap1.gates k
  pub queues : (k : ℕ) → k ≢ c → gap.queues k ≡ gap1.queues k
  pub counts : (k : ℕ) → k ≢ c → gap.counts k ≡ gap1.counts k
  pub words : (first k : ℕ) → IsRow first → k < 8 → k ≢ c → gap.words (word first k) ≡ gap1.words (word first k)
  pub state : gap.words STATE ≡ false
  pub stamps : (k i : ℕ) → k ≢ c → gap.stamps k i ≡ gap1.stamps k i
  pub moded : gap.moded ≡ gap1.moded
  pub lines : gap.lines ≡ gap1.lines

gap_left : (c : ℕ) (gap gap1 : Lag) → IsAt c gap → IsAt c gap1 → GapLeft c gap gap1
gap_left c gap gap1 was is = record {
  gates = λ k ne. was.gates k ne ∙ sym (is.gates k ne);
  queues = λ k ne. was.queues k ne ∙ sym (is.queues k ne);
  counts = λ k ne. was.counts k ne ∙ sym (is.counts k ne);
  words = λ first k r few ne. was.words first k r few ne ∙ sym (is.words first k r few ne);
  state = was.state;
  stamps = λ k i ne. was.stamps k i ne ∙ sym (is.stamps k i ne);
  moded = was.moded ∙ sym is.moded;
  lines = was.lines ∙ sym is.lines;
}

-- what the agreement says of a channel
pub record ChannelAgrees (d : IcuTable) (gap : Lag) (chip : Chip) (w : World) (on : Bool) (c : ℕ) (x : Capture) : Type 0 where
  pub block : CaptureAgrees (channel_of d c) (gap.gates c) (gap.queues c) (gap.counts c) on (on || gap.moded) (chip_capture chip.captures c) x
  pub words : ChannelWords (channel_of d c) (λ k. word_of chip k) gap.words c x
  pub course : IsCourse (channel_of d c) x
  pub place : HasPlace (channel_of d c) x
  pub turns : HasTurns (channel_of d c) w x
  pub stamps : is_some (channel_of d c) ≡ true → (i : ℕ) → i < 64 → gap.stamps c i ≡ false → word_of chip (place_of (Stamps c) i) ≡ stamp_in x.stored i

pub channel_agrees : (d : IcuTable) (gap : Lag) (chip : Chip) (w : World) (s : IcuState) (c : ℕ) → c < 8 → IcuRepresents d gap chip w s → ChannelAgrees d gap chip w s.initialised c (capture_at s c)
channel_agrees d gap chip w s c lt h = record { block = h.block c lt; words = h.words c lt; course = (h.course c lt).0; place = (h.course c lt).1; turns = h.turns c lt; stamps = λ some i few g. h.stamps c lt some i few g }

-- no channel of a module that is off is on
pub off_channel : (d : IcuTable) (gap : Lag) (chip : Chip) (w : World) (s : IcuState) (c : ℕ) → c < 8 → s.initialised ≡ false → IcuRepresents d gap chip w s → (capture_at s c).on ≡ false
off_channel d gap chip w s c lt off h = by (capture_at s c).on refl
  where
    by : (q : Bool) → (capture_at s c).on ≡ q → (capture_at s c).on ≡ false
    by false e = e
    by true e = off_on (sym off ∙ ((h.block c lt).starts e).0)

-- what a step at a channel leaves of the chip
pub record ChipLeft (c : ℕ) (w : World) (chip chip1 : Chip) : Type 0 where
  pub outside : StandsIn chip1 w
  pub size : length chip1.captures.captures ≡ length chip.captures.captures
  pub pins : chip1.captures.pins ≡ chip.captures.pins
  pub block : (k : ℕ) → k < 8 → k ≢ c → chip_capture chip1.captures k ≡ chip_capture chip.captures k
  pub state : word_of chip1 STATE ≡ word_of chip STATE
  pub words : (first k : ℕ) → IsRow first → k < 8 → k ≢ c → word_of chip1 (word first k) ≡ word_of chip (word first k)
  pub stamps : (k i : ℕ) → k ≢ c → i < 64 → word_of chip1 (place_of (Stamps k) i) ≡ word_of chip (place_of (Stamps k) i)
  pub enabled : chip1.control.enabled ≡ chip.control.enabled

-- and of the state
pub record StateLeft (c : ℕ) (s s1 : IcuState) : Type 0 where
  pub on : s1.initialised ≡ s.initialised
  pub others : (k : ℕ) → k < 8 → k ≢ c → capture_at s1 k ≡ capture_at s k

pub same_state : (c : ℕ) (s : IcuState) → StateLeft c s s
same_state c s = record { on = refl; others = λ k lt ne. refl }

pub with_state : (s : IcuState) (c : ℕ) (x : Capture) → StateLeft c s (with_capture s c x)
with_state s c x = record { on = refl; others = λ k lt ne. with_other s c k x lt ne }

-- ---- the words of a channel whose words are as they were

module _ (at at1 : ℕ → ℕ) (behind behind1 : ℕ → Bool) (c : ℕ) (same : (first : ℕ) → IsRow first → behind1 (word first c) ≡ false → at1 (word first c) ≡ at (word first c)) (less : (first : ℕ) → IsRow first → behind (word first c) ≡ behind1 (word first c)) where
  pub mode_left : (m : IcuMeasurementMode) (k : Channel) (x : Capture) → ModeWords m at behind c k x → ModeWords m at1 behind1 c k x
  mode_left SignalEdgeDetect k x h = record { switch = λ f. same SWITCHES (refl, omega arith, omega arith) f ∙ h.switch (less SWITCHES (refl, omega arith, omega arith) ∙ f); mark = λ f. same MARKS (refl, omega arith, omega arith) f ∙ h.mark (less MARKS (refl, omega arith, omega arith) ∙ f) }
  mode_left EdgeCounter k x h = tt
  mode_left Timestamp k x h = record {
    switch = λ f. same SWITCHES (refl, omega arith, omega arith) f ∙ h.switch (less SWITCHES (refl, omega arith, omega arith) ∙ f);
    mark = λ f. subst (λ v. Stamped x v) (sym (same MARKS (refl, omega arith, omega arith) f)) (h.mark (less MARKS (refl, omega arith, omega arith) ∙ f));
    size = λ f. same SIZES (refl, omega arith, omega arith) f ∙ h.size (less SIZES (refl, omega arith, omega arith) ∙ f);
    interval = λ f g. same INTERVALS (refl, omega arith, omega arith) f ∙ h.interval (less INTERVALS (refl, omega arith, omega arith) ∙ f) g;
    place = λ g ne. same PLACES (refl, omega arith, omega arith) g ∙ h.place (less PLACES (refl, omega arith, omega arith) ∙ g) (λ b e. let b1 = sym (less MARKS (refl, omega arith, omega arith)) ∙ b in ne b1 (same MARKS (refl, omega arith, omega arith) b1 ∙ e));
    left = λ f g. same VALUES (refl, omega arith, omega arith) f ∙ h.left (less VALUES (refl, omega arith, omega arith) ∙ f) g;
  }
  mode_left SignalMeasurement k x h = record {
    waits = λ f. same SWITCHES (refl, omega arith, omega arith) f ∙ h.waits (less SWITCHES (refl, omega arith, omega arith) ∙ f);
    mark = λ f. same MARKS (refl, omega arith, omega arith) f ∙ h.mark (less MARKS (refl, omega arith, omega arith) ∙ f);
    seen = λ f g. same SIZES (refl, omega arith, omega arith) f ∙ h.seen (less SIZES (refl, omega arith, omega arith) ∙ f) g;
    start = λ f g. subst (λ v. StartIs v (seen_by k x)) (sym (same INTERVALS (refl, omega arith, omega arith) f)) (h.start (less INTERVALS (refl, omega arith, omega arith) ∙ f) g);
    opposite = λ f g. subst (λ v. OppositeIs v (seen_by k x)) (sym (same PLACES (refl, omega arith, omega arith) f)) (h.opposite (less PLACES (refl, omega arith, omega arith) ∙ f) g);
    value = λ f. subst (λ v. ValueIs v (waiting_value k x)) (sym (same VALUES (refl, omega arith, omega arith) f)) (h.value (less VALUES (refl, omega arith, omega arith) ∙ f));
    time = λ f. subst (λ v. ActiveIs v (waiting_value k x)) (sym (same TIMES (refl, omega arith, omega arith) f)) (h.time (less TIMES (refl, omega arith, omega arith) ∙ f));
  }

  pub words_left : (k : Option Channel) (x : Capture) → ChannelWords k at behind c x → ChannelWords k at1 behind1 c x
  words_left None x h = tt
  words_left (Some k) x h = mode_left k.mode k x h

-- ---- the whole agreement after a step at one channel

module _ (d : IcuTable) (c : ℕ) (lt : c < 8) (gap gap1 : Lag) (same : GapLeft c gap gap1) (chip chip1 : Chip) (w : World) (s s1 : IcuState) (h : IcuRepresents d gap chip w s) (left : ChipLeft c w chip chip1) (stays : StateLeft c s s1) (clean : s1.initialised ≡ false → (k : ℕ) → k < 8 → is_some (channel_of d k) ≡ true → IsClean (capture_at s1 k)) (here : ChannelAgrees d gap1 chip1 w s.initialised c (capture_at s1 c)) where
  block_other : (k : ℕ) → k < 8 → k ≢ c → CaptureAgrees (channel_of d k) (gap1.gates k) (gap1.queues k) (gap1.counts k) s1.initialised (s1.initialised || gap1.moded) (chip_capture chip1.captures k) (capture_at s1 k)
  block_other k few ne =
      let a = h.block k few in
      let gates = same.gates k ne in
      let queues = same.queues k ne in
      let counts = same.counts k ne in
      let modes = ap (λ q. s.initialised || q) same.moded ∙ ap (λ q. q || gap1.moded) (sym stays.on) in
      subst (λ x. CaptureAgrees (channel_of d k) (gap1.gates k) (gap1.queues k) (gap1.counts k) s1.initialised (s1.initialised || gap1.moded) (chip_capture chip1.captures k) x) (sym (stays.others k few ne))
      (subst (λ b. CaptureAgrees (channel_of d k) (gap1.gates k) (gap1.queues k) (gap1.counts k) s1.initialised (s1.initialised || gap1.moded) b (capture_at s k)) (sym (left.block k few ne))
      (subst (λ m. CaptureAgrees (channel_of d k) (gap1.gates k) (gap1.queues k) (gap1.counts k) s1.initialised m (chip_capture chip.captures k) (capture_at s k)) modes
      (subst (λ o. CaptureAgrees (channel_of d k) (gap1.gates k) (gap1.queues k) (gap1.counts k) o (s.initialised || gap.moded) (chip_capture chip.captures k) (capture_at s k)) (sym stays.on)
      (subst (λ q. CaptureAgrees (channel_of d k) (gap1.gates k) (gap1.queues k) q s.initialised (s.initialised || gap.moded) (chip_capture chip.captures k) (capture_at s k)) counts
      (subst (λ q. CaptureAgrees (channel_of d k) (gap1.gates k) q (gap.counts k) s.initialised (s.initialised || gap.moded) (chip_capture chip.captures k) (capture_at s k)) queues
      (subst (λ q. CaptureAgrees (channel_of d k) q (gap.queues k) (gap.counts k) s.initialised (s.initialised || gap.moded) (chip_capture chip.captures k) (capture_at s k)) gates a))))))

  block_here : CaptureAgrees (channel_of d c) (gap1.gates c) (gap1.queues c) (gap1.counts c) s1.initialised (s1.initialised || gap1.moded) (chip_capture chip1.captures c) (capture_at s1 c)
  block_here = subst (λ o. CaptureAgrees (channel_of d c) (gap1.gates c) (gap1.queues c) (gap1.counts c) o (o || gap1.moded) (chip_capture chip1.captures c) (capture_at s1 c)) (sym stays.on) here.block

  words_other : (k : ℕ) → k < 8 → k ≢ c → ChannelWords (channel_of d k) (λ j. word_of chip1 j) gap1.words k (capture_at s1 k)
  words_other k few ne = subst (λ x. ChannelWords (channel_of d k) (λ j. word_of chip1 j) gap1.words k x) (sym (stays.others k few ne)) (words_left (λ j. word_of chip j) (λ j. word_of chip1 j) gap.words gap1.words k (λ first r g. left.words first k r few ne) (λ first r. same.words first k r few ne) (channel_of d k) (capture_at s k) (h.words k few))

  pub step_agrees : IcuRepresents d gap1 chip1 w s1
  step_agrees = record {
    outside = left.outside;
    size = left.size ∙ h.size;
    wired = λ k few. ap (λ xs. slice_index_or xs k None) left.pins ∙ h.wired k few;
    block = λ k few. each_but (λ i. CaptureAgrees (channel_of d i) (gap1.gates i) (gap1.queues i) (gap1.counts i) s1.initialised (s1.initialised || gap1.moded) (chip_capture chip1.captures i) (capture_at s1 i)) c block_here k (block_other k few);
    state = λ f. left.state ∙ h.state same.state ∙ sym (ap (λ q. state_word q) stays.on);
    words = λ k few. each_but (λ i. ChannelWords (channel_of d i) (λ j. word_of chip1 j) gap1.words i (capture_at s1 i)) c here.words k (words_other k few);
    course = λ k few. each_but (λ i. IsCourse (channel_of d i) (capture_at s1 i) × HasPlace (channel_of d i) (capture_at s1 i)) c (here.course, here.place) k (λ ne. subst (λ x. IsCourse (channel_of d k) x × HasPlace (channel_of d k) x) (sym (stays.others k few ne)) (h.course k few));
    turns = λ k few. each_but (λ i. HasTurns (channel_of d i) w (capture_at s1 i)) c here.turns k (λ ne. subst (λ x. HasTurns (channel_of d k) w x) (sym (stays.others k few ne)) (h.turns k few));
    lines = λ k few. ap (λ n. has_bit n (16 + k)) left.enabled ∙ h.lines k few ∙ ap (λ o. all_are o s.initialised) same.lines ∙ sym (ap (λ q. all_are gap1.lines q) stays.on);
    stamps = λ k few. each_but (λ j. is_some (channel_of d j) ≡ true → (i : ℕ) → i < 64 → gap1.stamps j i ≡ false → word_of chip1 (place_of (Stamps j) i) ≡ stamp_in (capture_at s1 j).stored i) c (λ some i below g. here.stamps some i below g) k (λ ne some i below g. left.stamps k i ne below ∙ h.stamps k few some i below (same.stamps k i ne ∙ g) ∙ sym (ap (λ (y : Capture). stamp_in y.stored i) (stays.others k few ne)));
    clean = clean;
  }

-- the same of an initialised module
pub one_agrees : (d : IcuTable) (c : ℕ) → c < 8 → (gap gap1 : Lag) → IsAt c gap → IsAt c gap1 → (chip chip1 : Chip) (w : World) (s s1 : IcuState) → s.initialised ≡ true → IcuRepresents d gap chip w s → ChipLeft c w chip chip1 → StateLeft c s s1 → ChannelAgrees d gap1 chip1 w s.initialised c (capture_at s1 c) → IcuRepresents d gap1 chip1 w s1
one_agrees d c lt gap gap1 was is chip chip1 w s s1 on h left stays here = step_agrees d c lt gap gap1 (gap_left c gap gap1 was is) chip chip1 w s s1 h left stays (λ off. off_on (sym off ∙ (stays.on ∙ on))) here

-- ---- what steps at a channel leave of the chip

pub left_same : (c : ℕ) (w : World) (chip : Chip) → StandsIn chip w → ChipLeft c w chip chip
left_same c w chip h = record { outside = h; size = refl; pins = refl; block = λ k lt ne. refl; state = refl; words = λ first k r lt ne. refl; stamps = λ k i ne lt. refl; enabled = refl }

-- the latch has another number
pub left_latched : (c : ℕ) (w : World) (chip : Chip) (n : ℕ) → StandsIn (record chip { captures = record chip.captures { latch = n } }) w → ChipLeft c w chip (record chip { captures = record chip.captures { latch = n } })
left_latched c w chip n h = record { outside = h; size = refl; pins = refl; block = λ k lt ne. refl; state = refl; words = λ first k r lt ne. refl; stamps = λ k i ne lt. refl; enabled = refl }

-- a channel of the block is another one
pub left_channel : (c : ℕ) (w : World) (chip : Chip) (y : chips.Capture) → StandsIn (record chip { captures = chip_with chip.captures c y }) w → ChipLeft c w chip (record chip { captures = chip_with chip.captures c y })
left_channel c w chip y h = record { outside = h; size = length-set chip.captures.captures c y; pins = refl; block = λ k lt ne. get_or-set_other chip.captures.captures c k y closed ne; state = refl; words = λ first k r lt ne. refl; stamps = λ k i ne lt. refl; enabled = refl }

pub channel_new : (c : ℕ) (b : Captures) (y : chips.Capture) → length b.captures ≡ 8 → c < 8 → chip_capture (chip_with b c y) c ≡ y
channel_new c b y size lt = get_or-set_same b.captures c y closed (omega (arith, size, lt))

-- a gate is opened or closed
bit_is : (c : ℕ) → c < 8 → bit c ≡ 2 ^ c
bit_is c lt = ap (λ q. if q then 2 ^ c else 0) (few c lt)
  where
    few : (c : ℕ) → c < 8 → nat_lt c 32 ≡ true
    few c lt = grind (arith, nat_tests)

pub acted_at : (act : Act) (b : Captures) (bits k : ℕ) → length b.captures ≡ 8 → k < 8 → chip_capture (acted act b bits) k ≡ (if has_bit bits k then acting act b.time (chip_capture b k) else chip_capture b k)
acted_at act b bits k size lt = let within : k < length b.captures = omega (arith, size, lt) in get_or-at_bits (λ _. acting act b.time) bits b.captures k closed within

pub left_gate : (act : Act) (c : ℕ) (w : World) (chip : Chip) → c < 8 → length chip.captures.captures ≡ 8 → StandsIn (record chip { captures = acted act chip.captures (bit c) }) w → ChipLeft c w chip (record chip { captures = acted act chip.captures (bit c) })
left_gate act c w chip lt size h = record {
  outside = h;
  size = length-at_bits (λ _. acting act chip.captures.time) (bit c) chip.captures.captures;
  pins = refl;
  block = λ k few ne. acted_at act chip.captures (bit c) k size few ∙ ap (λ q. if q then acting act chip.captures.time (chip_capture chip.captures k) else chip_capture chip.captures k) (ap (λ x. has_bit x k) (bit_is c lt) ∙ has_bit-pow_other c k ne);
  state = refl;
  words = λ first k r few ne. refl;
  stamps = λ k i ne few. refl;
  enabled = refl;
}

pub gate_new : (act : Act) (c : ℕ) (b : Captures) → length b.captures ≡ 8 → c < 8 → chip_capture (acted act b (bit c)) c ≡ acting act b.time (chip_capture b c)
gate_new act c b size lt = acted_at act b (bit c) c size lt ∙ ap (λ q. if q then acting act b.time (chip_capture b c) else chip_capture b c) (ap (λ x. has_bit x c) (bit_is c lt) ∙ has_bit-pow_same c)

-- a word of its own is stored
pub left_word : (first c v : ℕ) (w : World) (chip : Chip) → IsRow first → c < 8 → StandsIn chip w → ChipLeft c w chip (chip_after chip (Store (word first c) v) 0)
left_word first c v w chip row lt h =
    let a = row.1 in
    let b = row.2 in
    record {
      outside = stands-move chip w (Store (word first c) v) 0 h;
      size = refl;
      pins = refl;
      block = λ k few ne. refl;
      state = stored_other chip (word first c) v 0 STATE (λ e. absurd (omega (arith, a, e)));
      words = λ other k r few ne. stored_other chip (word first c) v 0 (word other k) (apart_words other first k c r row few lt ne);
      stamps = λ k i ne few. stored_other chip (word first c) v 0 (place_of (Stamps k) i) (λ e. absurd (omega (arith, b, lt, e)));
      enabled = refl;
    }

pub word_new : (first c v : ℕ) (chip : Chip) → IsRow first → c < 8 → length chip.words ≡ WORDS → word_of (chip_after chip (Store (word first c) v) 0) (word first c) ≡ v
word_new first c v chip row lt size = let b = row.2 in stored_same chip (word first c) v 0 (omega (arith, b, lt)) size

pub word_old : (first other c v : ℕ) (chip : Chip) → other ≢ first → word_of (chip_after chip (Store (word first c) v) 0) (word other c) ≡ word_of chip (word other c)
word_old first other c v chip ne = stored_other chip (word first c) v 0 (word other c) (apart_rows other first c ne)

-- and the places of the stamps are as they were
pub stamps_old : (first c v k i : ℕ) (chip : Chip) → IsRow first → c < 8 → word_of (chip_after chip (Store (word first c) v) 0) (place_of (Stamps k) i) ≡ word_of chip (place_of (Stamps k) i)
stamps_old first c v k i chip row lt = let b = row.2 in stored_other chip (word first c) v 0 (place_of (Stamps k) i) (λ e. absurd (omega (arith, b, lt, e)))

-- ---- what is under work at a channel, and at none

pub settled_at : (c : ℕ) → IsAt c settled
settled_at c = record { gates = λ k ne. refl; queues = λ k ne. refl; counts = λ k ne. refl; words = λ first k r lt ne. refl; state = refl; stamps = λ k i ne. refl; moded = refl; lines = refl }
