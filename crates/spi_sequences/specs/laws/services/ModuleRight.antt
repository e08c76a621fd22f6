-- Spi_DeInit, Spi_SetAsyncMode and Spi_GetStatus: that they are right.
-- From words.SameWords, services.ModuleSteps, words.JobPlaces, services.QueryRight, words.WordsOfModule and 7 more.
-- Used by spi_driver: bookkeeping.Lawful, spi_driver: bookkeeping.UnpolledFrames, spi_driver: services.UnitBegins.
use Rattle.std.proofs.Common.{◌≡◌, ◌≢◌, ◌+◌, ◌-◌, ◌<◌, ◌≤◌, ◌==◌, ◌&&◌, ◌||◌, ◌^◌, [], ◌∷◌, ◌∙◌, if◌then◌else◌}
use Rattle.spi_sequences.specs.Terms
use Terms.{Act, acts_by, all_looked, all_of, and_false, and_parts, answers, ap, AreFree, AreLong, AreWindows, arith}
use Terms.{AssertedAt, BodyTaken, Bool, busy_answer, Call, Called, carried_at, CarriesAgrees, cases, Channel}
use Terms.{channel_of, Chip, chip_after, CommitsTo, Contains, Continues, EnableClear, EnableSet, ends, ENotOk}
use Terms.{entry_carried, EOk, error_by, false, FitsSpi, FrameHistory, fresh_history, Get, get_or_default, goes}
use Terms.{GoesFree, Going, happened, has_bit, has_bit-or, has_bit-without, held_word, idle, Interrupt, is_busy}
use Terms.{is_interrupt, is_off, is_pending, is_shared, is_simple, is_some, is_sync_unit, Is_this_frame, IsSoundState}
use Terms.{IsThisFrame, length, length_by, LINES, LinesAgree, List, list_any, Load, LongBodies, looked_at, may}
use Terms.{missed_after, Mode, mode_of, mode_word, Modes, moved, named, nat_eq, nat_lt, None, not, Nothing, Off, Option}
use Terms.{Order, Origin, owed_left, owed_move, Part, PENDING, Pending, PendingWrites, place_at, placed_of}
use Terms.{PointAssertion, Polling, refl, Reg, Reservations, Right, run_at, run_carried, same_chip, same_Some}
use Terms.{sequence_word, served_lines, SetAsyncMode, Shortens, slice_get, slice_index, slice_index_or, Some}
use Terms.{some_or_none, source_word, spi_bare, spi_basis, spi_machine, spi_owing, SpiBusy, SpiIdle, SpiRepresents}
use Terms.{SpiState, SpiTable, stands-move, StandsIn, STATE, state_word_after, status_by, Store, stored_other}
use Terms.{stored_same, subst, suc, sym, true, TurnsTo, Under, UnitAgrees, unless_busy, value_of, View, view, whether}
use Terms.{whether_as, Whole, whole_owed, whole_takes, whole_work, WholeBody, Wholes, Windows, windows, windows_right}
use Terms.{Within, word_of, Works, World, world_after, Write, ℕ}
use Rattle.spi_sequences.specs.declared.service.whole.Whole.TheVariants.{DeInit, Status}
use Rattle.spi_sequences.specs.laws.bookkeeping.PendingWritesBounds.{owed_right}
use Rattle.spi_sequences.specs.laws.bookkeeping.RefinementRight.{frame_may, frame_names}
use Rattle.spi_sequences.specs.laws.hardware.StableUnderHardware.{all_later, by_two, mode_later, none_in}
use Rattle.spi_sequences.specs.laws.services.QueryRight.{answers_now, IsCalm, may_first, owed_cleans, owed_turns}
use Rattle.spi_sequences.specs.laws.words.JobPlaces.{all_carried, all_cases, all_pending, last_below, nothing_in}
use Rattle.spi_sequences.specs.laws.words.SameWords.{banks_alike, banks_view, next_view, run_alike, sequences_alike}
use Rattle.spi_sequences.specs.{laws.words.SameWords.{sequences_as, sound_as}, laws.words.WordsOfModule.{of_banks}}
use Rattle.spi_sequences.specs.laws.words.WordsOfModule.{of_held, of_set_up, past_the_first, some_at}
use Rattle.spi_sequences.specs.laws.words.WordsToState.{entry_of, going_free, going_next, is_below, is_past, is_there}
use Rattle.spi_sequences.specs.laws.words.WordsToState.{none_any, other_number, pending_word}
use Rattle.mcal_base.specs.facts.Truths.{or_true}
use Rattle.spi_machine.specs.declared.call.AsyncMode.TheVariants as modes
use Rattle.spi_machine.specs.declared.call.Call.TheVariants as calls
use Rattle.spi_machine.specs.declared.call.Query.TheVariants as queries
use Rattle.spi_sequences.specs.declared.service.whole.WholeBody.TheVariants as whole

-- ---- a module in which a sequence is under way, and one in which none is

pending_some : (ps : List Pending) (p : Pending) → Contains ps p → not (nat_eq (length ps) 0) ≡ true
pending_some [] p (k, lt, e) = absurd (omega (arith, lt))
pending_some (x ∷ xs) p there = ap not (other_number (suc (length xs)) 0 (λ e. omega (arith, e)))

busy_some : (s : SpiState) (p : Pending) → Contains (all_of (view s)) p → is_busy s ≡ true
busy_some s p there = cases (all_cases (view s) p there)
    (λ is. ap (λ b. b || list_any is_some s.carried) (pending_some s.pending p is))
    (λ (u, e).
    let some : list_any is_some s.carried ≡ true = some_or_none (carried_at s u)
    (λ x i. some_at is_some s.carried u refl (ap is_some i))
    (λ i. absurd (let f = sym (ap entry_carried i) ∙ e in cc)) in
    ap (λ b. not (nat_eq (length s.pending) 0) || b) some ∙ or_true (not (nat_eq (length s.pending) 0)))

none_pending : (v : View) → all_of v ≡ [] → v.pending ≡ []
none_pending v none = nothing_in v.pending (λ p there. none_in p (subst (λ ps. Contains ps p) none (all_pending v p there)))

none_begun : (d : SpiTable) (v : View) → IsSoundState d v → all_of v ≡ [] → (u : ℕ) → v.begun u ≡ None
none_begun d v h none u = some_or_none (v.begun u)
    (λ p e. absurd (none_in p (subst (λ ps. Contains ps p) none (all_carried v u p (h.carries.unit u p e).0 e))))
    (λ e. e)

busy_none : (d : SpiTable) (s : SpiState) → IsSoundState d (view s) → all_of (view s) ≡ [] → is_busy s ≡ false
busy_none d s h none = ap (λ ps. not (nat_eq (length ps) 0) || list_any is_some s.carried) (none_pending (view s) none) ∙ none_any is_some s.carried (λ o (u, lt, at).
    let free : is_some (carried_at s u) ≡ false = some_or_none (carried_at s u)
    (λ x i. absurd (let f = sym (none_begun d (view s) h none u) ∙ ap entry_carried i in cc))
    (λ i. ap is_some i) in
    ap is_some (sym at ∙ get_or_default s.carried u o None lt) ∙ free)

-- ---- another mode, while nothing is under way and nothing is held

module _ (d : SpiTable) (fits : FitsSpi d) (chip : Chip) (w : World) (s : SpiState) (h : SpiRepresents d [] chip w s) (none : all_of (view s) ≡ []) (on : is_off s.mode ≡ false) (mode : Mode) where
  abbrev stored : Chip
  stored = chip_after chip (Store STATE (mode_word mode)) 0

  no_entry : (p : Pending) → Contains (all_of (view s)) p → ⊥
  no_entry p there = none_in p (subst (λ ps. Contains ps p) none there)

  free : (u : ℕ) → u < 2 → run_at s u ≡ None
  free u lt = some_or_none (h.going u)
      (λ g e. absurd (no_entry g.pending (going_next d fits [] chip w s h u g lt e).0))
      (λ e. going_free d fits [] chip w s h u lt e)

  all_idle : (u : ℕ) → (view s).idle u ≡ true
  all_idle u = whether (nat_lt u 2)
      (λ e. ap (λ r. not (is_some r)) (free u (is_below u 2 e)))
      (λ e. h.sound.few u (is_past u 2 e))

  module _ (last : Chip) (outside : StandsIn last w) (wiring : last.wiring ≡ chip.wiring) (units : last.serials.units ≡ chip.serials.units) (words : (k : ℕ) → word_of last k ≡ word_of stored k) (lines : LinesAgree d mode last.control.enabled) where
    other : (k : ℕ) → k ≢ STATE → word_of last k ≡ word_of chip k
    other k ne = words k ∙ stored_other chip STATE (mode_word mode) 0 k ne

    after_state : (k : ℕ) → STATE < k → k < STATE + 64 → word_of last k ≡ word_of chip k
    after_state k low high = other k (λ e. omega (arith, low, e))

    past_first : (k : ℕ) → STATE + 64 ≤ k → word_of last k ≡ word_of chip k
    past_first k low = other k (λ e. omega (arith, low, e))

    held_same : (c : ℕ) (k : Channel) → channel_of d c ≡ Some k → word_of last (held_word (placed_of d c)) ≡ word_of chip (held_word (placed_of d c))
    held_same c k e = past_first _ (past_the_first d c k _ (fits.channels c k e) (of_held d fits c k e))

    sources : (u : ℕ) (g : Going) (n : ℕ) (x : Part) (k : Channel) (i : ℕ) → u < 2 → h.going u ≡ Some g → slice_get g.parts n ≡ Some x → channel_of d x.channel ≡ Some k → i < length_by (channel_of d x.channel) → word_of last (source_word (placed_of d x.channel) i) ≡ word_of chip (source_word (placed_of d x.channel) i)
    sources u g n x k i lt is e there few = other _ (λ f. omega (arith, f))

    pub mode_kept : SpiRepresents d [] last w (record s { mode = mode })
    mode_kept = record {
      right = tt;
      outside = outside;
      wired = λ c lt. ap (λ x. slice_index x.sources c) wiring ∙ h.wired c lt;
      size = ap length units ∙ h.size;
      sound = sound_as d (view s) mode (view s).written (view s).received (view s).sources (λ e. (none_pending (view s) none, all_idle)) (λ e u. none_begun d (view s) h.sound none u) h.sound;
      going = h.going;
      nexts = λ u lt. next_view d (view s) (view (record s { mode = mode })) u (h.going u) refl refl (h.nexts u lt);
      units = λ u lt async. subst (λ xs. UnitAgrees d (slice_index_or xs u idle) (run_at s u) (h.going u)) (sym units) (h.units u lt async);
      sends = λ u lt sync. subst (λ xs. CarriesAgrees d (slice_index_or xs u idle) (run_carried (carried_at s u)) (h.going u)) (sym units) (h.sends u lt sync);
      sending = tt;
      carriers = λ u p e. absurd (let no = sym e ∙ none_begun d (view s) h.sound none u in cc);
      words = record {
        state = words STATE ∙ stored_same chip STATE (mode_word mode) 0 (omega arith) h.outside.all.words;
        on = λ still. let was = h.words.on on in record {
          sequences = sequences_as d (view s) mode (view s).written (view s).received (view s).sources (word_of last) (sequences_alike d fits h.going (word_of chip) (word_of last) (view s) after_state held_same sources h.nexts was.sequences);
          runs = λ u lt. run_alike d fits h.going (word_of chip) (word_of last) (view s) after_state held_same sources h.nexts u lt (h.going u) refl (h.nexts u lt) (was.runs u lt);
        };
        banks = λ c k e internal. banks_view d [] h.going (word_of last) (view s) (view (record s { mode = mode })) c k refl refl (λ r. refl) (banks_alike d fits h.going (word_of chip) (word_of last) (view s) after_state held_same sources h.nexts [] c k e (λ side j is. past_first j (past_the_first d c k j (fits.channels c k e) (of_banks d fits c k e internal side j is))) (h.words.banks c k e internal));
        stored = λ k n is. absurd (none_in (k, n) is);
      };
      set_ups = λ still c k e external. past_first _ (past_the_first d c k _ (fits.channels c k e) (of_set_up d fits c k e)) ∙ h.set_ups on c k e external;
      sizes = λ still. h.sizes on;
      arrays = λ c. record { source = λ i lt. other _ (λ f. omega (arith, f)) ∙ (h.arrays c).source i lt; destination = λ i lt. other _ (λ f. omega (arith, f)) ∙ (h.arrays c).destination i lt };
      lines = lines;
      owed = λ u p lt going there for. absurd (no_entry p (all_pending (view s) p there));
    }

-- ---- the steps

abbrev pub call_by : Whole → Call
call_by DeInit = calls.DeInit
call_by (Modes m n) = SetAsyncMode m
call_by Status = Get queries.Status

-- only a query may begin above what others hold
abbrev pub IsAbove : Whole → Reservations → Type 0
IsAbove DeInit below = below ≡ []
IsAbove (Modes m n) below = below ≡ []
IsAbove Status below = Unit {0}

abbrev pub changes : Whole → Type 0
changes DeInit = Unit {0}
changes (Modes m n) = Unit {0}
changes Status = ⊥

abbrev pub mode_after : Whole → Mode
mode_after DeInit = Off
mode_after (Modes m n) = mode_of m
mode_after Status = Polling

-- it has the lines that handlers serve
abbrev pub HasLines : SpiTable → Whole → Type 0
HasLines d (Modes m n) = n ≡ served_lines d
HasLines d _ = Unit {0}

-- the call finds no error, and the module is initialised
abbrev pub IsWhole : SpiTable → (off : Bool) → Whole → Reservations → Origin Call → FrameHistory → Type 0
IsWhole d off x below o t = IsThisFrame (Called (call_by x)) fresh_history o t × (error_by d (call_by x) off false ≡ None) × (off ≡ false) × IsAbove x below × HasLines d x

abbrev pub NoneBefore : List Pending → ℕ → Type 0
NoneBefore ps q = (k : ℕ) → k < q → is_pending k ps ≡ false

abbrev pub whole_place : SpiTable → WholeBody → Reservations → SpiState → Origin Call → FrameHistory → Type 0
whole_place d (whole.Look x q) below s o t = IsWhole d (is_off s.mode) x below o t × (q < 8) × NoneBefore (all_of (view s)) q
whole_place d (whole.Store x) below s o t = IsWhole d (is_off s.mode) x below o t × changes x × (all_of (view s) ≡ [])
whole_place d (whole.Lines x) below s o t = ⊥

abbrev pub whole_spot : (d : SpiTable) → WholeBody → PointAssertion (spi_basis d)
whole_spot d k = Within (Under tt) [] (λ below f w s o t. whole_place d k below s o t)

abbrev pub whole_fuel : WholeBody → ℕ
whole_fuel (whole.Look x q) = 3 + (8 - q)
whole_fuel (whole.Store x) = 2
whole_fuel (whole.Lines x) = 1

-- the frame has acted well
abbrev pub acted_well : FrameHistory
acted_well = record fresh_history { acted = Some (named EOk) }

-- what is about a frame that owes its last move
abbrev pub whole_about : PendingWrites → Option Whole
whole_about (Wholes (whole.Lines x)) = Some x
whole_about _ = None

abbrev pub ChangedBy : Option Whole → Origin Call → FrameHistory → Type 0
ChangedBy None o t = ⊥
ChangedBy (Some x) o t = IsThisFrame (Called (call_by x)) acted_well o t × changes x

abbrev pub whole_windows : (d : SpiTable) → Windows (spi_bare d) PendingWrites (Option Whole) WholeBody (spi_owing d)
whole_windows d = record {
  bodies = record { work_of = whole_work; takes = whole_takes; fuel = whole_fuel; room = whole_fuel; clean = λ k. false; assertion = whole_spot d };
  owes = whole_owed;
  about = whole_about;
  hold = λ a. [];
  place = λ a below o t. ChangedBy a o t;
  steps_after = λ a. 0;
  room_after = λ a. 0;
}

abbrev pub whole_bodies : (d : SpiTable) → LongBodies (spi_basis d) WholeBody
whole_bodies d = windows (whole_windows d)

module _ (d : SpiTable) (fits : FitsSpi d) where
  alone_of : (x : Whole) (below : Reservations) → changes x → IsAbove x below → below ≡ []
  alone_of Status below c a = absurd c
  alone_of _ below c a = a

  cleared : (chip : Chip) (v u : ℕ) → u < 2 → has_bit (chip_after (chip_after chip (Store STATE v) 0) (Write EnableClear LINES) 0).control.enabled (26 + u) ≡ false
  cleared chip v u lt = has_bit-without chip.control.enabled LINES (26 + u) (omega arith) (omega (arith, lt)) ∙ by_two (λ n. has_bit chip.control.enabled (26 + n) && not (has_bit LINES (26 + n)) ≡ false) (and_false (has_bit chip.control.enabled 26)) (and_false (has_bit chip.control.enabled 27)) u lt

  -- the lines that are enabled in interrupt mode are those of the units that handlers serve
  enabled : (chip : Chip) (v n u : ℕ) → has_bit (chip_after (chip_after chip (Store STATE v) 0) (Write EnableSet n) 0).control.enabled (26 + u) ≡ has_bit chip.control.enabled (26 + u) || has_bit n (26 + u)
  enabled chip v n u = has_bit-or chip.control.enabled n (26 + u)

  -- what the machine makes of it
  module _ (chip : Chip) (w : World) (s : SpiState) (h : SpiRepresents d [] chip w s) (none : all_of (view s) ≡ []) (on : is_off s.mode ≡ false) where
    outside_after : (x : Whole) (r : Reg) (n : ℕ) → StandsIn (chip_after (chip_after chip (Store STATE (state_word_after x)) 0) (Write r n) 0) w
    outside_after x r n = stands-move (chip_after chip (Store STATE (state_word_after x)) 0) w (Write r n) 0 (stands-move chip w (Store STATE (state_word_after x)) 0 h.outside)

    abbrev Rest : Whole → Type 0
    Rest x = (n : ℕ) × CommitsTo (spi_owing d) n (Wholes (whole.Lines x)) (chip_after chip (Store STATE (state_word_after x)) 0) (λ c. SpiRepresents d [] c w (record s { mode = mode_after x }))

    -- a unit that carries out sequences for calls has had no line enabled, and any other has its line enabled then
    lines_now : (n : ℕ) → ((u : ℕ) → u < 2 → has_bit n (26 + u) ≡ not (is_sync_unit d u)) → LinesAgree d Interrupt (chip_after (chip_after chip (Store STATE 2) 0) (Write EnableSet n) 0).control.enabled
    lines_now n bits u lt = enabled chip 2 n u ∙ ap (λ q. has_bit chip.control.enabled (26 + u) || q) (bits u lt) ∙ ap (λ q. q || not (is_sync_unit d u)) (h.lines u lt) ∙ absorbs (is_interrupt s.mode) (is_sync_unit d u)
      where
        absorbs : (a b : Bool) → (a && not b) || not b ≡ not b
        absorbs true false = refl
        absorbs false false = refl
        absorbs _ _ = refl

    interrupt : (n : ℕ) (a b : Bool) → is_sync_unit d 0 ≡ a → is_sync_unit d 1 ≡ b → n ≡ (if a then 0 else 2 ^ 26) + (if b then 0 else 2 ^ 27) → Rest (Modes modes.Interrupt n)
    interrupt n true true e f is = subst (λ k. Rest (Modes modes.Interrupt k)) (sym is)
        (1, (refl, tt, mode_kept d fits chip w s h none on Interrupt _ (outside_after (Modes modes.Interrupt 0) EnableClear LINES) refl refl (λ k. refl) (λ u lt. cleared chip 2 u lt ∙ sym (by_two (λ k. not (is_sync_unit d k) ≡ false) (ap not e) (ap not f) u lt))))
    interrupt n true false e f is = subst (λ k. Rest (Modes modes.Interrupt k)) (sym is)
        (1, (refl, tt, mode_kept d fits chip w s h none on Interrupt _ (outside_after (Modes modes.Interrupt 134217728) EnableSet 134217728) refl refl (λ k. refl) (lines_now 134217728 (λ u lt. by_two (λ k. has_bit 134217728 (26 + k) ≡ not (is_sync_unit d k)) (sym (ap not e)) (sym (ap not f)) u lt))))
    interrupt n false true e f is = subst (λ k. Rest (Modes modes.Interrupt k)) (sym is)
        (1, (refl, tt, mode_kept d fits chip w s h none on Interrupt _ (outside_after (Modes modes.Interrupt 67108864) EnableSet 67108864) refl refl (λ k. refl) (lines_now 67108864 (λ u lt. by_two (λ k. has_bit 67108864 (26 + k) ≡ not (is_sync_unit d k)) (sym (ap not e)) (sym (ap not f)) u lt))))
    interrupt n false false e f is = subst (λ k. Rest (Modes modes.Interrupt k)) (sym is)
        (1, (refl, tt, mode_kept d fits chip w s h none on Interrupt _ (outside_after (Modes modes.Interrupt LINES) EnableSet LINES) refl refl (λ k. refl) (lines_now LINES (λ u lt. by_two (λ k. has_bit LINES (26 + k) ≡ not (is_sync_unit d k)) (sym (ap not e)) (sym (ap not f)) u lt))))

    owes_rest : (x : Whole) → changes x → HasLines d x → Rest x
    owes_rest DeInit c l = (1, (refl, tt, mode_kept d fits chip w s h none on Off _ (outside_after DeInit EnableClear LINES) refl refl (λ k. refl) (λ u lt. cleared chip 0 u lt)))
    owes_rest (Modes modes.Polling n) c l = (1, (refl, tt, mode_kept d fits chip w s h none on Polling _ (outside_after (Modes modes.Polling n) EnableClear LINES) refl refl (λ k. refl) (λ u lt. cleared chip 1 u lt)))
    owes_rest (Modes modes.Interrupt n) c l = interrupt n (is_sync_unit d 0) (is_sync_unit d 1) refl refl l
    owes_rest Status c l = absurd c

    -- the act
    stores : (x : Whole) (y : ℕ) (m : ℕ → Bool) → changes x → HasLines d x → error_by d (call_by x) (is_off s.mode) false ≡ None
        → Works (spi_basis d) (whole_bodies d) [] chip (chip_after chip (Store STATE (state_word_after x)) y) w s (Called (call_by x)) (Store STATE (state_word_after x)) false 0 y fresh_history m (whole.Lines x) (Some Act) None
    stores DeInit y m c l clear = record { may = refl; stands = tt; state = record s { mode = Off }; told = answers (named EOk); begins = None; is = ap (λ e. Some (acts_by d s calls.DeInit e)) clear ∙ ap (λ b. Some (unless_busy b s (record s { mode = Off }))) (busy_none d s h.sound none); sends = tt; acts = tt; reset = refl; next = (owes_rest DeInit tt tt, (Is_this_frame, tt)) }
    stores (Modes a n) y m c l clear = record { may = refl; stands = tt; state = record s { mode = mode_of a }; told = answers (named EOk); begins = None; is = ap (λ e. Some (acts_by d s (SetAsyncMode a) e)) clear ∙ ap (λ b. Some (unless_busy b s (record s { mode = mode_of a }))) (busy_none d s h.sound none); sends = tt; acts = tt; reset = refl; next = (owes_rest (Modes a n) tt l, (Is_this_frame, tt)) }
    stores Status y m c l clear = absurd c

  -- a look at a sequence
  module _ (below : Reservations) (chip : Chip) (w : World) (s : SpiState) (h : SpiRepresents d below chip w s) (on : is_off s.mode ≡ false) (y : ℕ) (m : ℕ → Bool) where
    abbrev LookMakes : Whole → (n value : ℕ) → WholeBody × BodyTaken → Type 0
    LookMakes x n value p = Works (spi_basis d) (whole_bodies d) below chip chip w s (Called (call_by x)) (Load n) false value y fresh_history m p.0 p.1.event p.1.done

    busy : (x : Whole) (n value q : ℕ) → error_by d (call_by x) (is_off s.mode) false ≡ None → is_busy s ≡ true → LookMakes x n value (whole.Look x q, ends (Some Act) (named (busy_answer x)) Nothing)
    busy DeInit n value q clear some = record { may = refl; stands = tt; state = s; told = answers (named ENotOk); begins = None; is = ap (λ e. Some (acts_by d s calls.DeInit e)) clear ∙ ap (λ b. Some (unless_busy b s (record s { mode = Off }))) some; sends = tt; acts = tt; reset = refl; next = (h, record { may = (refl, refl); served = false; owed = refl; shown = λ e. absurd (cc); report = refl }) }
    busy (Modes a z) n value q clear some = record { may = refl; stands = tt; state = s; told = answers (named ENotOk); begins = None; is = ap (λ e. Some (acts_by d s (SetAsyncMode a) e)) clear ∙ ap (λ b. Some (unless_busy b s (record s { mode = mode_of a }))) some; sends = tt; acts = tt; reset = refl; next = (h, record { may = (refl, refl); served = false; owed = refl; shown = λ e. absurd (cc); report = refl }) }
    busy Status n value q clear some = answers_now d (whole_bodies d) below chip w s queries.Status n value y m false (whole.Look Status q) SpiBusy clear (sym (ap (λ b. status_by b (is_busy s)) on ∙ ap (λ b. status_by false b) some)) h

    all_gone : NoneBefore (all_of (view s)) 8 → all_of (view s) ≡ []
    all_gone none = nothing_in (all_of (view s)) (λ p there. let f = sym (is_there d fits below chip w s h (all_of (view s)) p there) ∙ none p.sequence (h.sound.entries p there).number in cc)

    all_seen : (x : Whole) (n value q : ℕ) → error_by d (call_by x) (is_off s.mode) false ≡ None → IsAbove x below → HasLines d x → all_of (view s) ≡ [] → LookMakes x n value (all_looked x q)
    all_seen Status n value q clear above l none = answers_now d (whole_bodies d) below chip w s queries.Status n value y m false (whole.Look Status q) SpiIdle clear (sym (ap (λ b. status_by b (is_busy s)) on ∙ ap (λ b. status_by false b) (busy_none d s h.sound none))) h
    all_seen _ n value q clear above l none = (h, ((Is_this_frame, clear, on, above, l), tt, none))

    looks : (x : Whole) (n value q : ℕ) → error_by d (call_by x) (is_off s.mode) false ≡ None → IsAbove x below → HasLines d x → q < 8 → NoneBefore (all_of (view s)) q → (b : Bool) → is_pending q (all_of (view s)) ≡ b → LookMakes x n value (looked_at x q b)
    looks x n value q clear above l lt none true e = let p = entry_of d fits below chip w s h (all_of (view s)) q e in busy x n value q clear (busy_some s p.0 p.1)
    looks x n value q clear above l lt none false e = whether_as (nat_lt q 7) (λ b. LookMakes x n value (if b then (whole.Look x (q + 1), goes) else all_looked x q))
        (λ f. (h, ((Is_this_frame, clear, on, above, l), let less = is_below q 7 f in omega (arith, less), upto)))
        (λ f. all_seen x n value q clear above l (all_gone (λ k less. upto k (let past = is_past q 7 f in omega (arith, past, less)))))
      where
        upto : NoneBefore (all_of (view s)) (q + 1)
        upto k less = whether (nat_lt k q)
            (λ f. none k (is_below k q f))
            (λ f. ap (λ i. is_pending i (all_of (view s))) (last_below k q less f) ∙ e)

  whole_steps : (below : Reservations) (chip : Chip) (w : World) (s : SpiState) (k : WholeBody) (o : Origin Call) (y : ℕ) (t : FrameHistory) (m : ℕ → Bool) → whole_owed k ≡ None → AssertedAt (spi_basis d) (whole_bodies d) below chip w s k o t → Right (spi_basis d) (whole_bodies d) below chip w s k o y t m
  whole_steps below chip w s (whole.Look x q) o y t m e (h, ((Is_this_frame, clear, on, above, l), lt, none)) =
      subst (λ b. LookMakes below chip w s h on y (missed_after (spi_machine d) w s m) x (sequence_word q) (word_of chip (sequence_word q)) (looked_at x q b)) (sym (pending_word d fits below chip w s h on q lt)) (looks below chip w s h on y (missed_after (spi_machine d) w s m) x (sequence_word q) (word_of chip (sequence_word q)) q clear above l lt none (is_pending q (all_of (view s))) refl)
  whole_steps below chip w s (whole.Store x) o y t m e (h, ((Is_this_frame, clear, on, above, l), c, none)) =
      let alone = alone_of x below c above in
      subst (λ held. Works (spi_basis d) (whole_bodies d) held chip (chip_after chip (Store STATE (state_word_after x)) y) w s (Called (call_by x)) (Store STATE (state_word_after x)) false 0 y fresh_history (missed_after (spi_machine d) w s m) (whole.Lines x) (Some Act) None) (sym alone)
      (stores chip w s (subst (λ held. SpiRepresents d held chip w s) alone h) none on x y (missed_after (spi_machine d) w s m) c l clear)
  whole_steps below chip w s (whole.Lines x) o y t m e h = absurd (cc)

  -- ---- the bodies

  whole_wins : AreWindows (whole_windows d) (λ k. None)
  whole_wins = record {
    makes = makes;
    on = λ k x z v e i. absurd (none_left k x z v e i);
    over = over;
    unended = λ k x v e. refl;
    may = λ a below o t made h e. frame_names d o made (and_parts (is_simple made) (may d made) e).1;
    stands = λ k x v below chip w s o t m e i p h. stands k x v below chip w s o t m e p h;
  }
    where
      makes : (k : WholeBody) (x : PendingWrites) → whole_owed k ≡ Some x → whole_work k ≡ owed_move x
      makes (whole.Lines z) x e = ap owed_move (same_Some (Wholes (whole.Lines z)) x e)
      makes _ x e = absurd (cc)

      none_left : (k : WholeBody) (x z : PendingWrites) (v : ℕ) → whole_owed k ≡ Some x → owed_left x v ≡ Some z → ⊥
      none_left (whole.Lines y) x z v e i = let f = ap (λ a. owed_left a v) (same_Some (Wholes (whole.Lines y)) x e) ∙ i in cc
      none_left _ x z v e i = cc

      over : (k : WholeBody) (x : PendingWrites) (v : ℕ) → whole_owed k ≡ Some x → owed_left x v ≡ None → ((whole_takes k v).1.event ≡ None) × GoesFree (whole_windows d) (whole_about x) (whole_takes k v).0 (whole_takes k v).1.done
      over (whole.Lines y) x v e i = (refl, tt)
      over _ x v e i = absurd (cc)

      ended_well : (below : Reservations) (chip : Chip) (w : World) (s : SpiState) (y : Whole) (v : ℕ) (o : Origin Call) (t : FrameHistory) (m : ℕ → Bool) → ChangedBy (Some y) o t → SpiRepresents d below chip w s → Continues (spi_basis d) (whole_bodies d) below chip w s o t m (whole_takes (whole.Lines y) v).0 (whole_takes (whole.Lines y) v).1.done
      ended_well below chip w s y v o t m (Is_this_frame, c) h = (h, record { may = (refl, refl); served = false; owed = refl; shown = λ e. absurd (cc); report = refl })

      stands : (k : WholeBody) (x : PendingWrites) (v : ℕ) (below : Reservations) (chip : Chip) (w : World) (s : SpiState) (o : Origin Call) (t : FrameHistory) (m : ℕ → Bool) → whole_owed k ≡ Some x → ChangedBy (whole_about x) o t → SpiRepresents d below chip w s → Continues (spi_basis d) (whole_bodies d) below chip w s o t m (whole_takes k v).0 (whole_takes k v).1.done
      stands (whole.Lines y) x v below chip w s o t m e p h = ended_well below chip w s y v o t m (subst (λ a. ChangedBy (whole_about a) o t) (sym (same_Some (Wholes (whole.Lines y)) x e)) p) h
      stands _ x v below chip w s o t m e p h = absurd (cc)

  whole_own : (below : Reservations) (chip : Chip) (w : World) (s : SpiState) (k : WholeBody) (o : Origin Call) (t : FrameHistory) → whole_owed k ≡ None → AssertedAt (spi_basis d) (whole_bodies d) below chip w s k o t → is_shared (whole_work k) || may d (whole_work k) ≡ true
  whole_own below chip w s (whole.Look x q) o t e (h, (asks, lt, none)) = may_first d fits (sequence_word q) (omega arith) (omega (arith, lt))
  whole_own below chip w s (whole.Store x) o t e h = may_first d fits STATE (omega arith) (omega arith)
  whole_own below chip w s (whole.Lines x) o t e h = absurd (cc)

  whole_free : AreFree (spi_basis d) (whole_bodies d) whole_owed (λ k. None)
  whole_free = record {
    own = λ below chip w s k o t e h. frame_may d o (whole_work k) (whole_own below chip w s k o t e h);
    turns = λ below chip w s k o t e h. turns k (value_of chip (whole_work k)) e;
    steps = λ below chip w s k o y t m e come few h. whole_steps below chip w s k o y t m e h;
    later = λ below chip w s order k o t e come shut h. later below chip w s order k o t e h;
    calm = λ below chip w s k o t e h i. ((plain k e).1, (plain k e).2);
    shortens = shortens;
    cleans = λ k x e. owed_cleans d (whole_windows d) (λ k. refl) (whole_work k) k (whole_takes k x);
  }
    where
      plain : (k : WholeBody) → whole_owed k ≡ None → IsCalm (whole_work k)
      plain (whole.Lines x) e = absurd (cc)
      plain _ e = (refl, refl, refl)

      shortens : (k : WholeBody) (x : ℕ) → whole_owed k ≡ None → Shortens (whole_bodies d).fuel k (whole_takes k x)
      shortens (whole.Look x q) v e = looked_short (v == PENDING)
        where
          looked_short : (b : Bool) → Shortens (whole_bodies d).fuel (whole.Look x q) (looked_at x q b)
          looked_short true = omega arith
          looked_short false = whether_as (nat_lt q 7) (λ b. Shortens (whole_bodies d).fuel (whole.Look x q) (if b then (whole.Look x (q + 1), goes) else all_looked x q))
              (λ e. let lt : q < 7 = is_below q 7 e in omega (arith, lt))
              (λ e.
              elim x as (λ x. Shortens (whole_bodies d).fuel (whole.Look x q) (all_looked x q))
              [ DeInit ↦ omega arith | _ ↦ omega arith ])
      shortens (whole.Store x) v e = omega arith
      shortens (whole.Lines x) v e = absurd (cc)

      turns : (k : WholeBody) (x : ℕ) → whole_owed k ≡ None → TurnsTo (whole_bodies d) 32 k (whole_takes k x)
      turns k x e = owed_turns d (whole_windows d) (λ k. refl) k (whole_takes k x) (plain k e).0 (shortens k x e)

      place_later : (w : World) (s : SpiState) (order : Order) (x : Whole) (below : Reservations) (o : Origin Call) (t : FrameHistory) → IsWhole d (is_off s.mode) x below o t → IsWhole d (is_off (moved d w s order).mode) x below o t
      place_later w s order x below o t h = subst (λ mode. IsWhole d (is_off mode) x below o t) (sym (mode_later d w s order)) h

      later : (below : Reservations) (chip : Chip) (w : World) (s : SpiState) (order : Order) (k : WholeBody) (o : Origin Call) (t : FrameHistory) → whole_owed k ≡ None → AssertedAt (spi_basis d) (whole_bodies d) below chip w s k o t → place_at ((whole_bodies d).assertion k) below ((spi_basis d).foot (happened chip order)) (world_after w chip.clock.rate order) (moved d w s order) o t
      later below chip w s order (whole.Look x q) o t e (h, (asks, lt, none)) = (place_later w s order x below o t asks, lt, subst (λ ps. NoneBefore ps q) (sym (all_later d w s order)) none)
      later below chip w s order (whole.Store x) o t e (h, (asks, c, none)) = (place_later w s order x below o t asks, c, all_later d w s order ∙ none)
      later below chip w s order (whole.Lines x) o t e h = absurd (cc)

  pub whole_right : AreLong (spi_basis d) (whole_bodies d)
  whole_right = windows_right (spi_bare d) (spi_owing d) same_chip (owed_right d) (whole_windows d) (λ k. None) whole_wins whole_free
