-- The handler of a timestamp channel: what holds at each of its places, and that it is right.
-- From One, Stamp, Serve, Calls, KeepSteps and 11 more.
-- Used by Lawful.
use Rattle.std.proofs.Common.{◌≡◌, ◌≢◌, ◌+◌, ◌*◌, ◌/◌, ◌%◌, ◌<◌, ◌≤◌, ◌^◌, ◌&&◌, ◌||◌, ◌==◌, [], ◌∷◌, ◌++◌, ◌∙◌}
use Rattle.std.proofs.Common.{if◌then◌else◌}
use Rattle.icu_driver.specs.Terms
use Terms.{AllByRecursion, ap, AreRight, arith, At, below_test, Bodies, Bool, Call, Capture, capture_at, CaptureAgrees}
use Terms.{CaptureFlush, CaptureGateClear, CaptureInfo, CapturePop, Captures, CaptureTimeLow, Channel, channel_of}
use Terms.{ChannelWords, Chip, chip_after, chip_capture, Close, Drop, Edge, Entered, eq_other, eq_self, false, flushed, happens, HasPlace, icu_ground, icu_machine, IcuTable, IcuRepresents, IcuState, IcuTimestampNotification, Index, index, index_by, info_of, Interval, interval_by, Is_fresh, is_full, is_linear, is_measurement, is_notified, Is_on, is_own_word, Is_served, Is_serving, is_some, is_stamp, Is_stopped, IsStart, KeepBody, Kept, kept, kinds_by, Lag, Left, left_by, length, length-append, List, Load, map, missed_after, ModeWords, nat_lt, nat_tests, never_clean, Next, None, none, notices_of, Off, off_on, oldest_time, only, Option, Origin, outcome, own_stamp, place_of, popped, Read, refl, Rest, Served, served_by, Serves, Serving, settled, Size, size_word, Some, stamp_in, stamp_word, Stamped, Stamps, StampWords, stands-move, StandsIn, Start, StepsTo, stored_other, stored_same, Stores, subst, Switch, switched, sym, Timestamp, Told, true, with_capture, word_of, WORDS, World, Write, ℕ}
use Rattle.icu_driver.specs.declared.service.keep.KeepBody.TheVariants.{Look, Low, High, Pop, Store}
use Rattle.icu_driver.specs.laws.{Base.{no_answer, goes, ends, Nothing, word, line, bit, joined, STATE, SWITCHES}}
use Rattle.icu_driver.specs.laws.{Base.{MARKS, SIZES, INTERVALS, PLACES, VALUES}, Calls.{to_mode, from_mode, is_there}}
use Rattle.icu_driver.specs.laws.{Calls.{turns_by, switched_course, off_place, off_turns, may_row}, Change.{as_course}}
use Rattle.icu_driver.specs.laws.{Channels.{popped_agrees, closed_agrees, dropped_agrees, block_as}}
use Rattle.icu_driver.specs.laws.{Count.{halves_join}, Indices.{HasRead, fills_is, next_is, left_is, notified_is}}
use Rattle.icu_driver.specs.laws.{Indices.{place_next}, KeepSteps.{fills, next_index, left_now, keep_read, keep_work}}
use Rattle.icu_driver.specs.laws.{KeepSteps.{keep_takes, keep_left, keep_shortens}, Measure.{one_is}, One.{IsAt, ChipLeft}}
use Rattle.module_machines.specs.icu.laws.{Channels.{with_same}}
use Rattle.icu_driver.specs.laws.{One.{ChannelAgrees, channel_agrees, one_agrees, settled_at, same_state}}
use Rattle.icu_driver.specs.laws.{One.{with_state, left_latched, left_channel, left_gate, left_word, channel_new}}
use Rattle.icu_driver.specs.laws.{One.{gate_new, word_new, word_old, stamps_old, mode_left, words_left}, Rows.{rows_of}}
use Rattle.icu_driver.specs.laws.{Rows.{rows_behind, behind_row, rows_at, row_others, row_stored, grows}}
use Rattle.icu_driver.specs.laws.{Serve.{missed_here, info_empty, waiting_on, split, served_here, popped_course}}
use Rattle.icu_driver.specs.laws.{Serve.{told_of, owes_notice, owes_no_error}, Stamp.{row_switches, row_marks}}
use Rattle.icu_driver.specs.laws.{Stamp.{row_sizes, row_intervals, row_places, row_values, New_mark, New_place}}
use Rattle.icu_driver.specs.laws.{Stamp.{New_left, stamp_closed}, Steady.{without_edges, calm_at, oldest, AllGood}}
use Rattle.icu_driver.specs.laws.{Steady.{fronted, fronted_right}}
use Rattle.chip_blocks.specs.declared.captures.capture.Act.TheVariants as turns

-- ---- what is under work: words, and a place of the stamps

abbrev pub stamping : List ℕ → (channel place : ℕ) → Lag
stamping rs c i = record (rows_of rs c) { stamps = λ k n. k == c && n == i }

abbrev pub dropping : (channel place : ℕ) → Lag
dropping c i = record (stamping (MARKS ∷ PLACES ∷ VALUES ∷ []) c i) { queues = only c }

abbrev pub keep_gap : KeepBody → Lag
keep_gap (Drop r) = dropping r.channel r.index
keep_gap (Off r) = stamping (MARKS ∷ PLACES ∷ VALUES ∷ []) r.channel r.index
keep_gap (Store r) = stamping (PLACES ∷ VALUES ∷ []) r.channel r.index
keep_gap (Next r) = rows_of (PLACES ∷ VALUES ∷ []) r.channel
keep_gap (Rest r) = rows_of (VALUES ∷ []) r.channel
keep_gap _ = settled

-- ---- what it knows

-- the channel stamps
pub record Stamper (d : IcuTable) (r : Kept) : Type 0 where
  pub k : Channel
  pub known : channel_of d r.channel ≡ Some k
  pub mode : k.mode ≡ Timestamp
  pub lt : r.channel < 8
  pub linear : r.linear ≡ is_linear k.buffer

-- of the notice, where it may be due
abbrev pub Last : Kept → Capture → Type 0
Last r x = r.left ≡ 1 → (r.interval ≡ interval_by x.start) × (r.notified ≡ x.notification)

-- all that it reads
pub record AllRead (k : Channel) (r : Kept) (x : Capture) : Type 0 where
  pub size : r.size ≡ size_word x.start
  pub index : r.index ≡ index k x
  pub left : r.left ≡ left_by x.start (length x.served)
  pub last : Last r x

-- what the serving has left: the stamp's place, and what is still to be stored
pub record Left_over (k : Channel) (r : Kept) (x : Capture) : Type 0 where
  pub place : r.index < 64
  pub stamp : stamp_in x.stored r.index ≡ r.time
  pub next : next_index r ≡ index k x
  pub left : left_now r ≡ left_by x.start (length x.served)

abbrev pub keep_told : Kept → Told
keep_told r = told_of (r.left == 1 && r.notified) IcuTimestampNotification r.channel

abbrev pub keep_holds : IcuTable → Captures × List ℕ → IcuState → KeepBody → Origin Call → Option Told → Type 0
keep_holds d f s (Look r) o t = Serving (line r.channel) o t × Stamper d r
keep_holds d f s (Low r) o t = Serving (line r.channel) o t × Stamper d r
keep_holds d f s (High r) o t = Serving (line r.channel) o t × Stamper d r
keep_holds d f s (Size r) o t = Serving (line r.channel) o t × Stamper d r
keep_holds d f s (Index r) o t = Serving (line r.channel) o t × Stamper d r × (r.size ≡ size_word (capture_at s r.channel).start)
keep_holds d f s (Left r) o t = Serving (line r.channel) o t × (a : Stamper d r) × (r.size ≡ size_word (capture_at s r.channel).start) × (r.index ≡ index a.k (capture_at s r.channel))
keep_holds d f s (Interval r) o t = Serving (line r.channel) o t × (a : Stamper d r) × (r.size ≡ size_word (capture_at s r.channel).start) × (r.index ≡ index a.k (capture_at s r.channel)) × (r.left ≡ left_by (capture_at s r.channel).start (length (capture_at s r.channel).served))
keep_holds d f s (Switch r) o t = Serving (line r.channel) o t × (a : Stamper d r) × (r.size ≡ size_word (capture_at s r.channel).start) × (r.index ≡ index a.k (capture_at s r.channel)) × (r.left ≡ left_by (capture_at s r.channel).start (length (capture_at s r.channel).served)) × (r.interval ≡ interval_by (capture_at s r.channel).start)
keep_holds d f s (Close r) o t = Serving (line r.channel) o t × (a : Stamper d r) × AllRead a.k r (capture_at s r.channel) × (fills r ≡ true)
keep_holds d f s (Pop r) o t = Serving (line r.channel) o t × (a : Stamper d r) × AllRead a.k r (capture_at s r.channel) × (fills r ≡ false)
keep_holds d f s (Drop r) o t = Served (line r.channel) (keep_told r) o t × (a : Stamper d r) × (s.initialised ≡ true) × Left_over a.k r (capture_at s r.channel) × ((capture_at s r.channel).on ≡ false) × (is_some (capture_at s r.channel).start ≡ true)
keep_holds d f s (Off r) o t = Served (line r.channel) (keep_told r) o t × (a : Stamper d r) × (s.initialised ≡ true) × Left_over a.k r (capture_at s r.channel) × ((capture_at s r.channel).on ≡ false) × (is_some (capture_at s r.channel).start ≡ true)
keep_holds d f s (Store r) o t = Served (line r.channel) (keep_told r) o t × (a : Stamper d r) × (s.initialised ≡ true) × Left_over a.k r (capture_at s r.channel)
keep_holds d f s (Next r) o t = Served (line r.channel) (keep_told r) o t × (a : Stamper d r) × (s.initialised ≡ true) × Left_over a.k r (capture_at s r.channel)
keep_holds d f s (Rest r) o t = Served (line r.channel) (keep_told r) o t × (a : Stamper d r) × (s.initialised ≡ true) × Left_over a.k r (capture_at s r.channel)

-- from the look to the serving an edge waits, whose time it has read in halves
abbrev pub keep_front : KeepBody → Option ℕ
keep_front (Low r) = Some r.channel
keep_front (High r) = Some r.channel
keep_front (Size r) = Some r.channel
keep_front (Index r) = Some r.channel
keep_front (Left r) = Some r.channel
keep_front (Interval r) = Some r.channel
keep_front (Switch r) = Some r.channel
keep_front (Close r) = Some r.channel
keep_front (Pop r) = Some r.channel
keep_front _ = None

abbrev pub keep_knows : Captures × List ℕ → KeepBody → Edge → Type 0
keep_knows f (Look r) e = Unit {0}
keep_knows f (Low r) e = Unit {0}
keep_knows f (High r) e = (r.time ≡ e.time % 65536) × (f.0.latch ≡ e.time / 65536)
keep_knows f (Size r) e = r.time ≡ e.time
keep_knows f (Index r) e = r.time ≡ e.time
keep_knows f (Left r) e = r.time ≡ e.time
keep_knows f (Interval r) e = r.time ≡ e.time
keep_knows f (Switch r) e = r.time ≡ e.time
keep_knows f (Close r) e = r.time ≡ e.time
keep_knows f (Pop r) e = r.time ≡ e.time
keep_knows f _ e = Unit {0}

abbrev pub keep_bodies : (d : IcuTable) → Bodies (icu_ground d) KeepBody
keep_bodies d = fronted d keep_work keep_takes keep_left keep_gap (λ k. false) (keep_holds d) keep_front keep_knows

-- ---- gaps of one channel

stamping_at : (rs : List ℕ) (c i : ℕ) → IsAt c (rows_of rs c) → IsAt c (stamping rs c i)
stamping_at rs c i a = record { gates = a.gates; queues = a.queues; counts = a.counts; words = a.words; state = a.state; stamps = λ k n ne. ap (λ q. q && n == i) (eq_other k c ne); moded = a.moded; lines = a.lines }

dropping_at : (c i : ℕ) → IsAt c (rows_of (MARKS ∷ PLACES ∷ VALUES ∷ []) c) → IsAt c (dropping c i)
dropping_at c i a = record { gates = a.gates; queues = λ k ne. eq_other k c ne; counts = a.counts; words = a.words; state = a.state; stamps = λ k n ne. ap (λ q. q && n == i) (eq_other k c ne); moded = a.moded; lines = a.lines }

rows_two : (c : ℕ) → c < 8 → IsAt c (rows_of (PLACES ∷ VALUES ∷ []) c)
rows_two c lt = rows_at (PLACES ∷ VALUES ∷ []) c (row_places, (row_values, tt)) lt

rows_three : (c : ℕ) → c < 8 → IsAt c (rows_of (MARKS ∷ PLACES ∷ VALUES ∷ []) c)
rows_three c lt = rows_at (MARKS ∷ PLACES ∷ VALUES ∷ []) c (row_marks, (row_places, (row_values, tt))) lt

-- a place other than the one under work
other_place : (c i n : ℕ) → c == c && n == i ≡ false → (i == n) ≡ false
other_place c i n e = let f : (n == i) ≡ false = sym (ap (λ q. q && n == i) (eq_self c)) ∙ e in turned n i f
  where
    turned : (n i : ℕ) → (n == i) ≡ false → (i == n) ≡ false
    turned n i f = grind (arith, nat_tests)

row_is : (rs : List ℕ) (f c : ℕ) {A : Type 0} → rows_behind rs c (word f c) ≡ true → rows_behind rs c (word f c) ≡ false → A
row_is rs f c e r = off_on (sym r ∙ e)

one_left : (n : ℕ) → (n == 1) ≡ true → n ≡ 1
one_left n e = grind (arith, nat_tests)

small_place : (i size : ℕ) → i < size → size ≤ 64 → i < 64
small_place i size lt le = omega (arith, lt, le)

-- ---- a stamp that is stored

stamp_at : (c i : ℕ) → i < 64 → stamp_word c i ≡ place_of (Stamps c) i
stamp_at c i few = ap (λ q. 139264 + 64 * c + (if q then i else 0)) (below i few)
  where
    below : (i : ℕ) → i < 64 → nat_lt i 64 ≡ true
    below i few = grind (arith, nat_tests)

stamp_other : (c i n : ℕ) → n ≢ i → place_of (Stamps c) n ≢ place_of (Stamps c) i
stamp_other c i n ne e = ne (omega (arith, e))

left_stamp : (c i v : ℕ) (w : World) (chip : Chip) → c < 8 → i < 64 → StandsIn chip w → ChipLeft c w chip (chip_after chip (Stores (stamp_word c i) v) 0)
left_stamp c i v w chip lt few h =
    let at = stamp_at c i few in
    record {
      outside = stands-move chip w (Stores (stamp_word c i) v) 0 h;
      size = refl;
      pins = refl;
      block = λ k below ne. refl;
      state = stored_other chip (stamp_word c i) v 0 STATE (λ e. absurd (low STATE i c (e ∙ at) (omega arith)));
      words = λ first k row below ne. stored_other chip (stamp_word c i) v 0 (word first k) (λ e. let most = row.2 in absurd (low (word first k) i c (e ∙ at) (omega (arith, most, below))));
      stamps = λ k n ne small. stored_other chip (stamp_word c i) v 0 (place_of (Stamps k) n) (λ e. ne (apart k n c i small few (e ∙ at)));
      enabled = refl;
    }
  where
    low : (j i c : ℕ) → j ≡ 139264 + 64 * c + i → j < 139264 → ⊥
    low j i c e lt = absurd (omega (arith, e, lt))

    apart : (k n c i : ℕ) → n < 64 → i < 64 → 139264 + 64 * k + n ≡ 139264 + 64 * c + i → k ≡ c
    apart k n c i a b e = omega (arith, a, b, e)

words_stamped : (chip : Chip) (c i v : ℕ) → c < 8 → i < 64 → (k : Option Channel) (behind : ℕ → Bool) (x : Capture) → ChannelWords k (λ j. word_of chip j) behind c x → ChannelWords k (λ j. word_of (chip_after chip (Stores (stamp_word c i) v) 0) j) behind c x
words_stamped chip c i v lt few k behind x h = words_left (λ j. word_of chip j) (λ j. word_of (chip_after chip (Stores (stamp_word c i) v) 0) j) behind behind c (λ first row f. stored_other chip (stamp_word c i) v 0 (word first c) (λ e. let most = row.2 in absurd (low (word first c) i c (e ∙ stamp_at c i few) (omega (arith, most, lt))))) (λ first row. refl) k x h
  where
    low : (j i c : ℕ) → j ≡ 139264 + 64 * c + i → j < 139264 → ⊥
    low j i c e lt = absurd (omega (arith, e, lt))

stamp_now : (chip : Chip) (c i v n : ℕ) (x : Capture) → c < 8 → i < 64 → n < 64 → length chip.words ≡ WORDS → stamp_in x.stored i ≡ v → ((n == i) ≡ false → word_of chip (place_of (Stamps c) n) ≡ stamp_in x.stored n) → word_of (chip_after chip (Stores (stamp_word c i) v) 0) (place_of (Stamps c) n) ≡ stamp_in x.stored n
stamp_now chip c i v n x lt few small size is old = by (n == i) refl
  where
    equal : (n i : ℕ) → (n == i) ≡ true → n ≡ i
    equal n i e = grind (arith, nat_tests)

    differ : (n i : ℕ) → (n == i) ≡ false → n ≢ i
    differ n i e = grind (arith, nat_tests)

    by : (q : Bool) → (n == i) ≡ q → word_of (chip_after chip (Stores (stamp_word c i) v) 0) (place_of (Stamps c) n) ≡ stamp_in x.stored n
    by true e = let same = equal n i e in ap (λ j. word_of (chip_after chip (Stores (stamp_word c i) v) 0) j) (ap (λ j. place_of (Stamps c) j) same ∙ sym (stamp_at c i few)) ∙ (stored_same chip (stamp_word c i) v 0 (subst (λ j. j < WORDS) (sym (stamp_at c i few)) (omega (arith, lt, few))) size ∙ (sym is ∙ ap (λ j. stamp_in x.stored j) (sym same)))
    by false e = stored_other chip (stamp_word c i) v 0 (place_of (Stamps c) n) (λ f. stamp_other c i n (differ n i e) (f ∙ stamp_at c i few)) ∙ old e

-- the index of a channel
abbrev index_of : Channel → Capture → ℕ
index_of k x = index k x

-- ---- its steps

module _ (d : IcuTable) where
  words_of : (chip : Chip) (w : World) (s : IcuState) (gap : Lag) (r : Kept) (a : Stamper d r) → IcuRepresents d gap chip w s → StampWords (λ j. word_of chip j) gap.words r.channel a.k (capture_at s r.channel)
  words_of chip w s gap r a h = to_mode d r.channel a.k a.known Timestamp a.mode (λ j. word_of chip j) gap.words (capture_at s r.channel) (h.words r.channel a.lt)

  -- stamps that are on have a mark, and a place for one more
  marked : (x : Capture) (v : ℕ) → x.on ≡ true → Stamped x v → v ≢ 0
  marked x _ up (Is_on e) z = absurd (cc)
  marked x _ up (Is_stopped e f) z = off_on (sym e ∙ up)
  marked x _ up (Is_fresh e f) z = off_on (sym e ∙ up)

  may_stamp : (r : Kept) (a : Stamper d r) → r.index < 64 → (is_own_word d (stamp_word r.channel r.index) || is_stamp d (stamp_word r.channel r.index)) && nat_lt (stamp_word r.channel r.index) 147456 ≡ true
  may_stamp r a few =
      let lt = a.lt in
      ap (λ j. (is_own_word d j || is_stamp d j) && nat_lt j 147456) (stamp_at r.channel r.index few)
      ∙ (ap (λ q. (is_own_word d (place_of (Stamps r.channel) r.index) || q) && nat_lt (place_of (Stamps r.channel) r.index) 147456) (own_stamp d r.channel r.index a.lt (is_there d r.channel a.k a.known) few)
      ∙ both (is_own_word d (place_of (Stamps r.channel) r.index)) (nat_lt (place_of (Stamps r.channel) r.index) 147456) (there (place_of (Stamps r.channel) r.index) (omega (arith, lt, few))))
    where
      there : (j : ℕ) → j < 147456 → nat_lt j 147456 ≡ true
      there j e = grind (arith, nat_tests)

      both : (p q : Bool) → q ≡ true → (p || true) && q ≡ true
      both true q e = e
      both false q e = e

  look_by : (chip : Chip) (w : World) (s : IcuState) (m : ℕ → Bool) (r : Kept) (a : Stamper d r) → IcuRepresents d settled chip w s → (es : List Edge) → (capture_at s r.channel).waiting ≡ es → StepsTo (icu_ground d) (keep_bodies d) chip w s (Entered (line r.channel)) (Read (CaptureInfo r.channel)) false None (missed_after (icu_machine d) w s m) (if info_of (map kept es) / 4 == 0 then (Look r, ends None no_answer Nothing) else (Low r, goes))
  look_by chip w s m r a h [] is = (h, missed_here d w s r.channel m is, refl)
  look_by chip w s m r a h (e ∷ es) is =
      subst (λ q. StepsTo (icu_ground d) (keep_bodies d) chip w s (Entered (line r.channel)) (Read (CaptureInfo r.channel)) false None (missed_after (icu_machine d) w s m) (if q then (Look r, ends None no_answer Nothing) else (Low r, goes))) (sym (info_empty (kept e) (map kept es)))
      (h, ((Is_serving, a), record { lt = a.lt; edge = e; leads = ap (λ xs. oldest xs) is; is = tt }))

  -- the start of stamps that are on
  record Under (r : Kept) (a : Stamper d r) (x : Capture) : Type 0 where
    start : Start
    is : x.start ≡ Some start
    read : HasRead a.k r start (length x.served)

  under_by : (r : Kept) (a : Stamper d r) (x : Capture) (start : Option Start) → x.start ≡ start → x.on ≡ true → AllRead a.k r x → IsStart start → HasPlace (channel_of d r.channel) x → Under r a x
  under_by r a x None e up b i p = absurd (let f = (subst (λ z. HasPlace z x) a.known p a.mode up).0 in let g = sym (ap (λ z. is_some z) e) ∙ f in cc)
  under_by r a x (Some t) e up b i p =
      let q = subst (λ z. HasPlace z x) a.known p a.mode up in
      record {
        start = t;
        is = e;
        read = record { linear = a.linear; size = b.size ∙ ap (λ z. size_word z) e; index = b.index ∙ ap (λ z. index_by a.k z (length x.served)) e; left = b.left ∙ ap (λ z. left_by z (length x.served)) e; below = subst (λ n. n < t.size) (sym b.index) (subst (λ z. index a.k x < size_word z) e q.2); start = i };
      }

  under : (chip : Chip) (w : World) (s : IcuState) (r : Kept) (a : Stamper d r) → AllRead a.k r (capture_at s r.channel) → (capture_at s r.channel).on ≡ true → IcuRepresents d settled chip w s → Under r a (capture_at s r.channel)
  under chip w s r a b up h = let q = h.course r.channel a.lt in under_by r a (capture_at s r.channel) (capture_at s r.channel).start refl up b q.0.start q.1

  read_here : (s : IcuState) (r : Kept) (a : Stamper d r) → AllRead a.k r (capture_at (without_edges s) r.channel) → AllRead a.k r (capture_at s r.channel)
  read_here s r a b =
      let same = calm_at s r.channel a.lt in
      record { size = b.size ∙ ap (λ z. size_word z.start) same; index = b.index ∙ ap (λ z. index a.k z) same; left = b.left ∙ ap (λ z. left_by z.start (length z.served)) same; last = λ e. ((b.last e).0 ∙ ap (λ z. interval_by z.start) same, (b.last e).1 ∙ ap (λ z. z.notification) same) }

  read_calm : (s : IcuState) (r : Kept) (a : Stamper d r) → AllRead a.k r (capture_at s r.channel) → AllRead a.k r (capture_at (without_edges s) r.channel)
  read_calm s r a b =
      let same = sym (calm_at s r.channel a.lt) in
      record { size = b.size ∙ ap (λ z. size_word z.start) same; index = b.index ∙ ap (λ z. index a.k z) same; left = b.left ∙ ap (λ z. left_by z.start (length z.served)) same; last = λ e. ((b.last e).0 ∙ ap (λ z. interval_by z.start) same, (b.last e).1 ∙ ap (λ z. z.notification) same) }

  -- the notice is that of the machine
  same_told : (q n i : Bool) → (q ≡ true → n ≡ i) → i && q ≡ q && n
  same_told true n true f = sym (f refl)
  same_told true n false f = sym (f refl)
  same_told false n true f = refl
  same_told false n false f = refl

  stamped_with : (x y : Capture) (v : ℕ) → x.on ≡ true → y.on ≡ true → Stamped x v → Stamped y v
  stamped_with x y _ up on (Is_on e) = Is_on on
  stamped_with x y _ up on (Is_stopped e f) = off_on (sym e ∙ up)
  stamped_with x y _ up on (Is_fresh e f) = off_on (sym e ∙ up)

  -- the channel with the stamp
  abbrev with_stamp : Channel → Edge → List Edge → Capture → Capture
  with_stamp k e es x = record x { waiting = es; served = x.served ++ e ∷ []; stored = record { place = index k x; time = e.time } ∷ x.stored }

  -- what is left over is the machine's
  left_over : (r : Kept) (a : Stamper d r) (x y : Capture) (e : Edge) (u : Under r a x) → AllRead a.k r x → r.time ≡ e.time → y.served ≡ x.served ++ e ∷ [] → y.start ≡ x.start → y.stored ≡ record { place = index a.k x; time = e.time } ∷ x.stored → Left_over a.k r y
  left_over r a x y e u b at served start stored =
      let n = length x.served in
      let more : length y.served ≡ n + 1 = ap (λ es. length es) served ∙ length-append x.served (e ∷ []) in
      let same = start ∙ u.is in
      record {
        place = small_place r.index u.start.size u.read.below u.read.start.1;
        stamp = ap (λ ss. stamp_in ss r.index) stored ∙ (ap (λ q. if q then e.time else stamp_in x.stored r.index) (ap (λ i. i == r.index) (sym b.index) ∙ eq_self r.index) ∙ sym at);
        next = next_is a.k r u.start n u.read ∙ sym (ap (λ z. index_by a.k z (length y.served)) same ∙ ap (λ m. index_by a.k (Some u.start) m) more);
        left = left_is a.k r u.start n u.read (λ one. (b.last one).0 ∙ ap (λ z. interval_by z) u.is) ∙ sym (ap (λ z. left_by z (length y.served)) same ∙ ap (λ m. left_by (Some u.start) m) more);
      }

  calm_left : (s : IcuState) (r : Kept) (a : Stamper d r) → Left_over a.k r (capture_at s r.channel) → Left_over a.k r (capture_at (without_edges s) r.channel)
  calm_left s r a b =
      let same = sym (calm_at s r.channel a.lt) in
      record { place = b.place; stamp = sym (ap (λ z. stamp_in z.stored r.index) same) ∙ b.stamp; next = b.next ∙ ap (λ z. index a.k z) same; left = b.left ∙ ap (λ z. left_by z.start (length z.served)) same }

  left_here : (s : IcuState) (r : Kept) (a : Stamper d r) → Left_over a.k r (capture_at (without_edges s) r.channel) → Left_over a.k r (capture_at s r.channel)
  left_here s r a b =
      let same = calm_at s r.channel a.lt in
      record { place = b.place; stamp = sym (ap (λ z. stamp_in z.stored r.index) same) ∙ b.stamp; next = b.next ∙ ap (λ z. index a.k z) same; left = b.left ∙ ap (λ z. left_by z.start (length z.served)) same }

  -- the machine serves
  serves_is : (w : World) (s : IcuState) (r : Kept) (a : Stamper d r) (e : Edge) (es : List Edge) (received : ℕ) (q : Bool) (u : Under r a (capture_at s r.channel)) → AllRead a.k r (capture_at s r.channel) → s.initialised ≡ true → (capture_at s r.channel).waiting ≡ e ∷ es → fills r ≡ q → happens d w s (Serves (line r.channel) received) ≡ Some (outcome (with_capture s r.channel (if q then switched false (with_stamp a.k e es (capture_at s r.channel)) else with_stamp a.k e es (capture_at s r.channel))) (keep_told r))
  serves_is w s r a e es received q u b on is full =
      let x = capture_at s r.channel in
      let z = record x { waiting = es } in
      let n = length x.served in
      let filled = sym (fills_is a.k r u.start n u.read) ∙ full in
      served_here d w s r.channel received a.k e es a.known on is
      ∙ (ap (λ m. Some (outcome (with_capture s r.channel (served_by m a.k e z)) (record { answer = no_answer; error = None; notices = notices_of r.channel (kinds_by m z) }))) a.mode
      ∙ (ap (λ f. Some (outcome (with_capture s r.channel (if f then switched false (with_stamp a.k e es x) else with_stamp a.k e es x)) (told_of (x.notification && is_notified x.start (n + 1)) IcuTimestampNotification r.channel))) (ap (λ t. is_full a.k t (n + 1)) u.is ∙ filled)
      ∙ ap (λ f. Some (outcome (with_capture s r.channel (if q then switched false (with_stamp a.k e es x) else with_stamp a.k e es x)) (told_of f IcuTimestampNotification r.channel))) (ap (λ t. x.notification && is_notified t (n + 1)) u.is ∙ (ap (λ t. x.notification && t) (sym (notified_is a.k r u.start n u.read)) ∙ same_told (r.left == 1) r.notified x.notification (λ one. (b.last (one_left r.left one)).1)))))

  -- ---- reading

  abbrev Here : Chip → World → IcuState → KeepBody → Kept → Type 0
  Here chip w s k r = At (icu_ground d) (keep_bodies d) chip w s k (Entered (line r.channel)) None

  read_at : (chip : Chip) (w : World) (s : IcuState) (r : Kept) (a : Stamper d r) (e : Edge) → oldest (capture_at s r.channel).waiting ≡ Some e → r.time ≡ e.time → AllRead a.k r (capture_at s r.channel) → IcuRepresents d settled chip w s → (q : Bool) → fills r ≡ q → Here chip w s (if q then Close r else Pop r) r
  read_at chip w s r a e leads at b h true full = (h, ((Is_serving, a, read_calm s r a b, full), record { lt = a.lt; edge = e; leads = leads; is = at }))
  read_at chip w s r a e leads at b h false full = (h, ((Is_serving, a, read_calm s r a b, full), record { lt = a.lt; edge = e; leads = leads; is = at }))

  -- the time of the oldest edge
  oldest_is : (chip : Chip) (w : World) (s : IcuState) (c : ℕ) (e : Edge) → c < 8 → IcuRepresents d settled chip w s → oldest (capture_at s c).waiting ≡ Some e → (oldest_time (chip_capture chip.captures c).queue ≡ e.time) × (e.time < 2 ^ 32)
  oldest_is chip w s c e lt h leads =
      let p = split e (capture_at s c).waiting leads in
      (ap (λ q. oldest_time q) ((h.block c lt).queue refl ∙ ap (λ es. map kept es) p.is), (subst (λ xs. AllByRecursion (λ (e : Edge). e.time < 2 ^ 32) xs) p.is (h.course c lt).0.times).0)

  left_by_value : (chip : Chip) (w : World) (s : IcuState) (m : ℕ → Bool) (r : Kept) (v : ℕ) (a : Stamper d r) (e : Edge) → oldest (capture_at s r.channel).waiting ≡ Some e → r.time ≡ e.time → r.size ≡ size_word (capture_at s r.channel).start → r.index ≡ index a.k (capture_at s r.channel) → v ≡ left_by (capture_at s r.channel).start (length (capture_at s r.channel).served) → IcuRepresents d settled chip w s → (q : Bool) → (v == 1) ≡ q → StepsTo (icu_ground d) (keep_bodies d) chip w s (Entered (line r.channel)) (Load (word VALUES r.channel)) false None m (if q then (Interval (record r { left = 1 }), goes) else (keep_read (record r { left = v }), goes))
  left_by_value chip w s m r v a e leads at size index left h true one =
      let same = sym (calm_at s r.channel a.lt) in
      let r1 = record r { left = 1 } in
      let a1 : Stamper d r1 = record { k = a.k; known = a.known; mode = a.mode; lt = a.lt; linear = a.linear } in
      (h, ((Is_serving, a1, size ∙ ap (λ z. size_word z.start) same, index ∙ ap (λ z. index_of a.k z) same, sym (one_left v one) ∙ (left ∙ ap (λ z. left_by z.start (length z.served)) same)), record { lt = a.lt; edge = e; leads = leads; is = at }))
  left_by_value chip w s m r v a e leads at size index left h false one =
      let r1 = record r { left = v } in
      let a1 : Stamper d r1 = record { k = a.k; known = a.known; mode = a.mode; lt = a.lt; linear = a.linear } in
      read_at chip w s r1 a1 e leads at (record { size = size; index = index; left = left; last = λ i. off_on (sym one ∙ ap (λ n. n == 1) i) }) h (fills r1) refl

  -- ---- the serving

  -- the words of the channel with the stamp, of which three or two are behind
  words_popped : (at : ℕ → ℕ) (r : Kept) (a : Stamper d r) (x : Capture) (e : Edge) (es : List Edge) → x.on ≡ true → StampWords at none r.channel a.k x → StampWords at (rows_behind (PLACES ∷ VALUES ∷ []) r.channel) r.channel a.k (with_stamp a.k e es x)
  words_popped at r a x e es up h = record {
    switch = λ f. h.switch refl;
    mark = λ f. stamped_with x (with_stamp a.k e es x) (at (word MARKS r.channel)) up up (h.mark refl);
    size = λ f. h.size refl;
    interval = λ f g. h.interval refl g;
    place = λ f ne. row_is (PLACES ∷ VALUES ∷ []) PLACES r.channel (behind_row (PLACES ∷ VALUES ∷ []) PLACES r.channel) f;
    left = λ f g. row_is (PLACES ∷ VALUES ∷ []) VALUES r.channel (behind_row (PLACES ∷ VALUES ∷ []) VALUES r.channel) f;
  }

  words_closed : (at : ℕ → ℕ) (r : Kept) (a : Stamper d r) (x : Capture) (e : Edge) (es : List Edge) → StampWords at none r.channel a.k x → StampWords at (rows_behind (MARKS ∷ PLACES ∷ VALUES ∷ []) r.channel) r.channel a.k (switched false (with_stamp a.k e es x))
  words_closed at r a x e es h =
      let rs = MARKS ∷ PLACES ∷ VALUES ∷ [] in
      record {
        switch = λ f. h.switch refl;
        mark = λ f. row_is rs MARKS r.channel (behind_row rs MARKS r.channel) f;
        size = λ f. h.size refl;
        interval = λ f g. off_on g;
        place = λ f ne. row_is rs PLACES r.channel (behind_row rs PLACES r.channel) f;
        left = λ f g. off_on g;
      }

  stamps_with : (chip : Chip) (s : IcuState) (r : Kept) (a : Stamper d r) (e : Edge) (es : List Edge) → r.index ≡ index a.k (capture_at s r.channel) → ((i : ℕ) → i < 64 → word_of chip (place_of (Stamps r.channel) i) ≡ stamp_in (capture_at s r.channel).stored i) → (i : ℕ) → i < 64 → r.channel == r.channel && i == r.index ≡ false → word_of chip (place_of (Stamps r.channel) i) ≡ stamp_in (with_stamp a.k e es (capture_at s r.channel)).stored i
  stamps_with chip s r a e es at h i few g = h i few ∙ sym (ap (λ q. if q then e.time else stamp_in (capture_at s r.channel).stored i) (ap (λ n. n == i) (sym at) ∙ other_place r.channel r.index i g))

  steps : AllGood d (keep_bodies d)
  steps chip w s (Look r) o t m (h, ((Is_serving, a), u)) = (below_test r.channel a.lt, subst (λ es. StepsTo (icu_ground d) (keep_bodies d) chip w s (Entered (line r.channel)) (Read (CaptureInfo r.channel)) false None (missed_after (icu_machine d) w s m) (if info_of es / 4 == 0 then (Look r, ends None no_answer Nothing) else (Low r, goes))) (sym ((h.block r.channel a.lt).queue refl)) (look_by chip w s m r a h (capture_at s r.channel).waiting refl))
  steps chip w s (Low r) o t m (h, ((Is_serving, a), u)) =
      let c = r.channel in
      let n = oldest_time (chip_capture chip.captures c).queue in
      let p = oldest_is chip w s c u.edge a.lt h u.leads in
      let g = channel_agrees d settled chip w s c a.lt h in
      let on = (waiting_on d chip w s c u.edge a.lt h u.leads).1 in
      (below_test c a.lt, (one_agrees d c a.lt settled settled (settled_at c) (settled_at c) chip (chip_after chip (Read (CaptureTimeLow c)) 0) w s s on h (left_latched c w chip (n / 65536) (stands-move chip w (Read (CaptureTimeLow c)) 0 h.outside)) (same_state c s) (record { block = g.block; words = g.words; course = g.course; place = g.place; turns = g.turns; stamps = g.stamps }), ((Is_serving, record { k = a.k; known = a.known; mode = a.mode; lt = a.lt; linear = a.linear }), record { lt = a.lt; edge = u.edge; leads = u.leads; is = (ap (λ z. z % 65536) p.0, ap (λ z. z / 65536) p.0) })))
  steps chip w s (High r) o t m (h, ((Is_serving, a), u)) =
      let p = oldest_is chip w s r.channel u.edge a.lt h u.leads in
      let time = ap (λ z. joined z chip.captures.latch) u.is.0 ∙ (ap (λ z. joined (u.edge.time % 65536) z) u.is.1 ∙ halves_join u.edge.time p.1) in
      (below_test r.channel a.lt, (h, ((Is_serving, record { k = a.k; known = a.known; mode = a.mode; lt = a.lt; linear = a.linear }), record { lt = a.lt; edge = u.edge; leads = u.leads; is = time })))
  steps chip w s (Size r) o t m (h, ((Is_serving, a), u)) =
      let words = words_of chip w s settled r a h in
      (may_row d SIZES r.channel row_sizes a.lt, (h, ((Is_serving, record { k = a.k; known = a.known; mode = a.mode; lt = a.lt; linear = a.linear }, words.size refl ∙ sym (ap (λ z. size_word z.start) (calm_at s r.channel a.lt))), record { lt = a.lt; edge = u.edge; leads = u.leads; is = u.is })))
  steps chip w s (Index r) o t m (h, ((Is_serving, a, size), u)) =
      let words = words_of chip w s settled r a h in
      let up = (waiting_on d chip w s r.channel u.edge a.lt h u.leads).0 in
      let at = words.place refl (λ b. marked (capture_at s r.channel) (word_of chip (word MARKS r.channel)) up (words.mark refl)) in
      (may_row d PLACES r.channel row_places a.lt, (h, ((Is_serving, record { k = a.k; known = a.known; mode = a.mode; lt = a.lt; linear = a.linear }, size, at ∙ sym (ap (λ z. index a.k z) (calm_at s r.channel a.lt))), record { lt = a.lt; edge = u.edge; leads = u.leads; is = u.is })))
  steps chip w s (Left r) o t m (h, ((Is_serving, a, size, at), u)) =
      let words = words_of chip w s settled r a h in
      let up = (waiting_on d chip w s r.channel u.edge a.lt h u.leads).0 in
      let same = calm_at s r.channel a.lt in
      let v = word_of chip (word VALUES r.channel) in
      (may_row d VALUES r.channel row_values a.lt, left_by_value chip w s (missed_after (icu_machine d) w s m) r v a u.edge u.leads u.is (size ∙ ap (λ z. size_word z.start) same) (at ∙ ap (λ z. index a.k z) same) (words.left refl up) h (v == 1) refl)
  steps chip w s (Interval r) o t m (h, ((Is_serving, a, size, at, left), u)) =
      let words = words_of chip w s settled r a h in
      let up = (waiting_on d chip w s r.channel u.edge a.lt h u.leads).0 in
      (may_row d INTERVALS r.channel row_intervals a.lt, (h, ((Is_serving, record { k = a.k; known = a.known; mode = a.mode; lt = a.lt; linear = a.linear }, size, at, left, words.interval refl up ∙ sym (ap (λ z. interval_by z.start) (calm_at s r.channel a.lt))), record { lt = a.lt; edge = u.edge; leads = u.leads; is = u.is })))
  steps chip w s (Switch r) o t m (h, ((Is_serving, a, size, at, left, interval), u)) =
      let words = words_of chip w s settled r a h in
      let same = calm_at s r.channel a.lt in
      let r1 = record r { notified = word_of chip (word SWITCHES r.channel) == 1 } in
      let a1 : Stamper d r1 = record { k = a.k; known = a.known; mode = a.mode; lt = a.lt; linear = a.linear } in
      (may_row d SWITCHES r.channel row_switches a.lt, read_at chip w s r1 a1 u.edge u.leads u.is (record { size = size ∙ ap (λ z. size_word z.start) same; index = at ∙ ap (λ z. index a.k z) same; left = left ∙ ap (λ z. left_by z.start (length z.served)) same; last = λ one. (interval ∙ ap (λ z. interval_by z.start) same, ap (λ z. z == 1) (words.switch refl) ∙ one_is (capture_at s r.channel).notification) }) h (fills r1) refl)
  steps chip w s (Pop r) o t m (h, ((Is_serving, a, b, full), u)) =
      let c = r.channel in
      let k = channel_of d c in
      let x = capture_at s c in
      let bc = chip_capture chip.captures c in
      let m1 = s.initialised || false in
      let g = channel_agrees d settled chip w s c a.lt h in
      let up = waiting_on d chip w s c u.edge a.lt h u.leads in
      let p = split u.edge x.waiting u.leads in
      let read = read_here s r a b in
      let un = under chip w s r a read up.0 h in
      let z = record x { waiting = p.rest } in
      let y = with_stamp a.k u.edge p.rest x in
      let s1 = with_capture s c y in
      let rs = PLACES ∷ VALUES ∷ [] in
      let chip1 = chip_after chip (Write (CapturePop c) 0) 0 in
      let n = length x.served in
      let more : length y.served ≡ n + 1 = length-append x.served (u.edge ∷ []) in
      let filled = sym (fills_is a.k r un.start n un.read) ∙ full in (
        below_test c a.lt,
        record {
          own = refl;
          state = s1;
          told = keep_told r;
          is = λ times. serves_is w s r a u.edge p.rest times.received false un read up.1 p.is full;
          acts = tt;
          next = (
            one_agrees d c a.lt settled (stamping rs c r.index) (settled_at c) (stamping_at rs c r.index (rows_two c a.lt)) chip chip1 w s s1 up.1 h (left_channel c w chip (popped bc) (stands-move chip w (Write (CapturePop c) 0) 0 h.outside)) (with_state s c y) (subst (λ q. ChannelAgrees d (stamping rs c r.index) chip1 w s.initialised c q) (sym (with_same s c y a.lt)) (record {
              block = subst (λ q. CaptureAgrees k false false false s.initialised m1 q y) (sym (channel_new c chip.captures (popped bc) h.size a.lt)) (block_as k false false false s.initialised m1 (popped bc) z y refl refl refl refl refl (popped_agrees k false s.initialised m1 bc x u.edge p.rest p.is g.block));
              words = from_mode d c a.k a.known Timestamp a.mode (λ j. word_of chip1 j) (rows_behind rs c) y (words_popped (λ j. word_of chip j) r a x u.edge p.rest up.0 (words_of chip w s settled r a h));
              course = as_course k z y refl refl refl refl refl (popped_course k x u.edge p.rest p.is g.course);
              place = subst (λ q. HasPlace q y) (sym a.known) (λ f i. (ap (λ q. is_some q) un.is, ap (λ q. is_full a.k q (length y.served)) un.is ∙ (ap (λ q. is_full a.k (Some un.start) q) more ∙ filled), subst (λ q. index_by a.k q (length y.served) < size_word q) (sym un.is) (subst (λ q. index_by a.k (Some un.start) q < un.start.size) (sym more) (place_next a.k r un.start n un.read full))));
              turns = turns_by d c a.k a.known w y (ap (λ q. is_measurement q) a.mode);
              stamps = λ some j few i. stamps_with chip s r a u.edge p.rest read.index (λ j few. g.stamps (is_there d c a.k a.known) j few refl) j few i;
            })),
            ((Is_served, a, up.1, calm_left s1 r a (subst (λ q. Left_over a.k r q) (sym (with_same s c y a.lt)) (left_over r a x y u.edge un read u.is refl refl refl))), tt),
          );
        },
      )
  steps chip w s (Close r) o t m (h, ((Is_serving, a, b, full), u)) =
      let c = r.channel in
      let k = channel_of d c in
      let x = capture_at s c in
      let bc = chip_capture chip.captures c in
      let m1 = s.initialised || false in
      let g = channel_agrees d settled chip w s c a.lt h in
      let up = waiting_on d chip w s c u.edge a.lt h u.leads in
      let p = split u.edge x.waiting u.leads in
      let read = read_here s r a b in
      let un = under chip w s r a read up.0 h in
      let y = switched false (with_stamp a.k u.edge p.rest x) in
      let s1 = with_capture s c y in
      let rs = MARKS ∷ PLACES ∷ VALUES ∷ [] in
      let chip1 = chip_after chip (Write CaptureGateClear (bit c)) 0 in (
        refl,
        record {
          own = refl;
          state = s1;
          told = keep_told r;
          is = λ times. serves_is w s r a u.edge p.rest times.received true un read up.1 p.is full;
          acts = tt;
          next = (
            one_agrees d c a.lt settled (dropping c r.index) (settled_at c) (dropping_at c r.index (rows_three c a.lt)) chip chip1 w s s1 up.1 h (left_gate turns.Close c w chip a.lt h.size (stands-move chip w (Write CaptureGateClear (bit c)) 0 h.outside)) (with_state s c y) (subst (λ q. ChannelAgrees d (dropping c r.index) chip1 w s.initialised c q) (sym (with_same s c y a.lt)) (record {
              block = subst (λ q. CaptureAgrees k false (c == c) false s.initialised m1 q y) (sym (gate_new turns.Close c chip.captures h.size a.lt)) (subst (λ q. CaptureAgrees k false q false s.initialised m1 (record bc { gate = false }) y) (sym (eq_self c)) (block_as k false true false s.initialised m1 (record bc { gate = false }) (switched false x) y refl refl refl refl refl (closed_agrees k false s.initialised m1 bc x g.block)));
              words = from_mode d c a.k a.known Timestamp a.mode (λ j. word_of chip1 j) (rows_behind rs c) y (words_closed (λ j. word_of chip j) r a x u.edge p.rest (words_of chip w s settled r a h));
              course = as_course k (switched false x) y refl refl refl refl refl (switched_course k false x g.course);
              place = off_place k y refl;
              turns = off_turns k w y refl;
              stamps = λ some j few i. stamps_with chip s r a u.edge p.rest read.index (λ j few. g.stamps (is_there d c a.k a.known) j few refl) j few i;
            })),
            ((Is_served, a, up.1, calm_left s1 r a (subst (λ q. Left_over a.k r q) (sym (with_same s c y a.lt)) (left_over r a x y u.edge un read u.is refl refl refl)), ap (λ q. q.on) (calm_at s1 c a.lt) ∙ ap (λ q. q.on) (with_same s c y a.lt), ap (λ q. is_some q.start) (calm_at s1 c a.lt) ∙ (ap (λ q. is_some q.start) (with_same s c y a.lt) ∙ ap (λ q. is_some q) un.is)), tt),
          );
        },
      )
  steps chip w s (Drop r) o t m (h, ((Is_served, a, on, b, off, some), u)) =
      let c = r.channel in
      let k = channel_of d c in
      let x = capture_at s c in
      let bc = chip_capture chip.captures c in
      let m1 = s.initialised || false in
      let rs = MARKS ∷ PLACES ∷ VALUES ∷ [] in
      let g = channel_agrees d (dropping c r.index) chip w s c a.lt h in
      let empty = g.course.off (sym (ap (λ q. q.on) (calm_at s c a.lt)) ∙ off) in
      let free = subst (λ q. CaptureAgrees k false q false s.initialised m1 bc x) (eq_self c) g.block in (
        below_test c a.lt,
        (
          one_agrees d c a.lt (dropping c r.index) (stamping rs c r.index) (dropping_at c r.index (rows_three c a.lt)) (stamping_at rs c r.index (rows_three c a.lt)) chip (chip_after chip (Write (CaptureFlush c) 0) 0) w s s on h (left_channel c w chip (flushed bc) (stands-move chip w (Write (CaptureFlush c) 0) 0 h.outside)) (same_state c s) (record {
            block = subst (λ q. CaptureAgrees k false false false s.initialised m1 q x) (sym (channel_new c chip.captures (flushed bc) h.size a.lt)) (dropped_agrees k false s.initialised m1 bc x empty.0 empty.1 free);
            words = g.words;
            course = g.course;
            place = g.place;
            turns = g.turns;
            stamps = g.stamps;
          }),
          ((Is_served, a, on, b, off, some), tt),
        ),
      )
  steps chip w s (Off r) o t m (h, ((Is_served, a, on, b, off, some), u)) =
      let c = r.channel in
      let x = capture_at s c in
      let rs = PLACES ∷ VALUES ∷ [] in
      let chip1 = chip_after chip (Stores (word MARKS c) 2) 0 in
      let g = channel_agrees d (stamping (MARKS ∷ rs) c r.index) chip w s c a.lt h in
      let is_off = sym (ap (λ q. q.on) (calm_at s c a.lt)) ∙ off in
      let started = sym (ap (λ q. is_some q.start) (calm_at s c a.lt)) ∙ some in
      let others = subst (λ q. ModeWords q (λ j. word_of chip1 j) (rows_behind (MARKS ∷ rs) c) c a.k x) a.mode (mode_left (λ j. word_of chip j) (λ j. word_of chip1 j) (rows_behind (MARKS ∷ rs) c) (rows_behind (MARKS ∷ rs) c) c (λ f row e. word_old MARKS f c 2 chip (grows rs MARKS f c e)) (λ f row. refl) a.k.mode a.k x (to_mode d c a.k a.known a.k.mode refl (λ j. word_of chip j) (rows_behind (MARKS ∷ rs) c) x g.words)) in (
        may_row d MARKS c row_marks a.lt,
        (
          one_agrees d c a.lt (stamping (MARKS ∷ rs) c r.index) (stamping rs c r.index) (stamping_at (MARKS ∷ rs) c r.index (rows_three c a.lt)) (stamping_at rs c r.index (rows_two c a.lt)) chip chip1 w s s on h (left_word MARKS c 2 w chip row_marks a.lt h.outside) (same_state c s) (record {
            block = g.block;
            words = from_mode d c a.k a.known Timestamp a.mode (λ j. word_of chip1 j) (rows_behind rs c) x (stamp_closed (λ j. word_of chip1 j) rs c a.k x MARKS (New_mark (subst (λ v. Stamped x v) (sym (word_new MARKS c 2 chip row_marks a.lt h.outside.all.words)) (Is_stopped is_off started))) others);
            course = g.course;
            place = g.place;
            turns = g.turns;
            stamps = λ some j few i. stamps_old MARKS c 2 c j chip row_marks a.lt ∙ g.stamps some j few i;
          }),
          ((Is_served, a, on, b), tt),
        ),
      )
  steps chip w s (Store r) o t m (h, ((Is_served, a, on, b), u)) =
      let c = r.channel in
      let x = capture_at s c in
      let rs = PLACES ∷ VALUES ∷ [] in
      let q = left_here s r a b in
      let g = channel_agrees d (stamping rs c r.index) chip w s c a.lt h in (
        may_stamp r a q.place,
        (
          one_agrees d c a.lt (stamping rs c r.index) (rows_of rs c) (stamping_at rs c r.index (rows_two c a.lt)) (rows_two c a.lt) chip (chip_after chip (Stores (stamp_word c r.index) r.time) 0) w s s on h (left_stamp c r.index r.time w chip a.lt q.place h.outside) (same_state c s) (record {
            block = g.block;
            words = words_stamped chip c r.index r.time a.lt q.place (channel_of d c) (rows_behind rs c) x g.words;
            course = g.course;
            place = g.place;
            turns = g.turns;
            stamps = λ some j few i. stamp_now chip c r.index r.time j x a.lt q.place few h.outside.all.words q.stamp (λ e. g.stamps some j few (ap (λ z. z && j == r.index) (eq_self c) ∙ e));
          }),
          ((Is_served, a, on, b), tt),
        ),
      )
  steps chip w s (Next r) o t m (h, ((Is_served, a, on, b), u)) =
      let c = r.channel in
      let x = capture_at s c in
      let rs = VALUES ∷ [] in
      let at1 = λ (j : ℕ). word_of (chip_after chip (Stores (word PLACES c) (next_index r)) 0) j in
      let others = subst (λ m. ModeWords m at1 (rows_behind (PLACES ∷ rs) c) c a.k x) a.mode (row_others d c a.lt a.k a.known PLACES row_places rs (row_values, tt) (next_index r) chip w s on h) in
      (may_row d PLACES c row_places a.lt, (row_stored d c a.lt a.k a.known PLACES row_places rs (row_values, tt) (next_index r) chip w s on h (subst (λ m. ModeWords m at1 (rows_behind rs c) c a.k x) (sym a.mode) (stamp_closed at1 rs c a.k x PLACES (New_place (word_new PLACES c (next_index r) chip row_places a.lt h.outside.all.words ∙ (left_here s r a b).next)) others)), ((Is_served, a, on, b), tt)))
  steps chip w s (Rest r) o t m (h, ((Is_served, a, on, b), u)) =
      let c = r.channel in
      let x = capture_at s c in
      let at1 = λ (j : ℕ). word_of (chip_after chip (Stores (word VALUES c) (left_now r)) 0) j in
      let q = r.left == 1 && r.notified in
      let others = subst (λ m. ModeWords m at1 (rows_behind (VALUES ∷ []) c) c a.k x) a.mode (row_others d c a.lt a.k a.known VALUES row_values [] tt (left_now r) chip w s on h) in
      (may_row d VALUES c row_values a.lt, (row_stored d c a.lt a.k a.known VALUES row_values [] tt (left_now r) chip w s on h (subst (λ m. ModeWords m at1 (rows_behind [] c) c a.k x) (sym a.mode) (stamp_closed at1 [] c a.k x VALUES (New_left (word_new VALUES c (left_now r) chip row_values a.lt h.outside.all.words ∙ (left_here s r a b).left)) others)), (refl, owes_notice q IcuTimestampNotification c, owes_no_error q IcuTimestampNotification c)))

  pub keep_right : AreRight (icu_ground d) (keep_bodies d)
  keep_right = fronted_right d keep_work keep_takes keep_left keep_gap (λ k. false) (keep_holds d) keep_front keep_knows keep_shortens (λ k x. never_clean (keep_work k) k (keep_takes k x)) steps
