-- Spi_Cancel: that it is right.
-- From words.NumbersApart, bookkeeping.SequenceEnded, words.WordsToState, words.JobPlaces and 12 more.
-- Used by spi_driver: bookkeeping.Lawful, services.RequestRight, spi_laws: serving.services.SequenceOverRight and 10 more.
use Rattle.std.proofs.Common.{◌≡◌, ◌≢◌, ◌+◌, ◌<◌, ◌≤◌, ◌==◌, ◌||◌, [], ◌∷◌, ◌∙◌, if◌then◌else◌}
use Rattle.spi_sequences.specs.Terms
use Terms.{Act, acts, acts_by, and_parts, Answer, ap, AreFree, AreLong, AreThere, AreWindows, arith, AssertedAt, bit_or}
use Terms.{BodyTaken, Bool, Call, Called, Cancel, cancel_drops, cancel_owed, cancel_owed_at, cancel_takes, cancel_work}
use Terms.{CancelBody, CANCELLED, Cancelled, cancelled, cancelled_bit, cancelled_by, Cancels, cancels, cases, changed}
use Terms.{Chip, chip_after, CommitsTo, Contains, Continues, DiffersIn, drop, drop-ends, drop_gave, drop_left, Dropped}
use Terms.{dropping, ended, ends, entries_of, error_by, error_in, false, filter, find, FitsSpi, FrameHistory}
use Terms.{fresh_history, goes, GoesFree, GoesOwing, Going, happened, has_ended, holds-agree, is_for, is_left, is_of}
use Terms.{is_off, is_own_word, is_pending, is_running, is_running_sequence, is_shared, is_simple, is_some}
use Terms.{is_sync_sequence, is_sync_unit, Is_this_frame, IsPart, IsThisFrame, jobs_of, List, list_any, Load}
use Terms.{LongBodies, MARKS, may, Memory, missed_after, Move, moved, NamesOwn, next_job, NEXTS, no_answer, None, not}
use Terms.{notes, Nothing, notices_in, notifies_sequence, One, Option, Order, order_word, Origin, outcome, owed_left}
use Terms.{owed_move, owing, PartTo, PENDING, Pending, PendingWrites, place_at, PointAssertion, PriorityQueue, refl}
use Terms.{Reservations, Right, run_in, running_word, RunsBy, RunsNext, same_chip, same_or_other, same_Some, search_of}
use Terms.{sequence_notice, sequence_of, sequence_word, SequencesAgree, settles_part, Shortens, Some, spi_bare}
use Terms.{spi_basis, spi_machine, spi_owing, SpiRepresents, SpiSeqCanceled, SpiSeqEndNotification, SpiState, SpiTable}
use Terms.{stands-move, StandsIn, STATE, Store, stored_other, stored_same, subst, suc, sym, tells_nothing, true}
use Terms.{TurnsTo, Under, unit_of_sequence, unless_done, value_of, view, whether, whether_as, Windows, windows}
use Terms.{windows_right, Within, word_later, word_of, Works, World, world_after, ℕ}
use Rattle.spi_sequences.specs.laws.bookkeeping.MarkedState.{cancelled_now}
use Rattle.spi_sequences.specs.laws.bookkeeping.PendingWritesBounds.{owed_right}
use Rattle.spi_sequences.specs.laws.bookkeeping.RefinementRight.{frame_may, frame_names}
use Rattle.spi_sequences.specs.laws.bookkeeping.SequenceEnded.{ended_sound, ended_words, filter_back, filter_keeps}
use Rattle.spi_sequences.specs.laws.bookkeeping.SequenceEnded.{Leaves, leaves_pending, left_order, stay, there_back}
use Rattle.spi_sequences.specs.laws.{bookkeeping.SequenceEnded.{there_by}, hardware.StableUnderHardware.{mode_later}}
use Rattle.spi_sequences.specs.laws.hardware.StableUnderHardware.{pending_later, running_later}
use Rattle.spi_sequences.specs.laws.services.QueryRight.{IsCalm, may_first, owed_cleans, owed_turns}
use Rattle.spi_sequences.specs.laws.{services.SetUpRight.{may_store}, words.JobPlaces.{all_pending, aside_pending}}
use Rattle.spi_sequences.specs.laws.words.JobPlaces.{IsAside, job_unit, unit_few}
use Rattle.spi_sequences.specs.laws.words.NumbersApart.{before_sequences, high_order, low_enough, low_order, marks_at}
use Rattle.spi_sequences.specs.laws.words.NumbersApart.{nexts_at, sequence_at, words_stay, WordsStay}
use Rattle.spi_sequences.specs.laws.words.PendingWords.{firsts_changed, holds_same, stands_owed}
use Rattle.spi_sequences.specs.laws.{words.WordsOfModule.{in_order, own_first}, words.WordsToState.{going_next}}
use Rattle.spi_sequences.specs.laws.words.WordsToState.{going_runs, is_number, not_true, one_pending, one_unit}
use Rattle.spi_sequences.specs.laws.words.WordsToState.{other_number, pending_alone, pending_word, running_by}
use Rattle.spi_sequences.specs.laws.words.WordsToState.{running_says, runs_on, RunsOn, same_number}
use Rattle.word_shapes.specs.Order as order
use Rattle.word_shapes.specs.PriorityQueue as ranked
use Rattle.word_shapes.specs.declared.dropped.Dropped.TheVariants as drops
use Rattle.spi_machine.specs.declared.call.Call.TheVariants as calls
use Rattle.spi_sequences.specs.declared.service.cancel.CancelBody.TheVariants as cancel
pub use Rattle.spi_sequences.specs.laws.words.NumbersApart.{from_order, not_order, to_order}

-- ---- the entry of a sequence

pub found_none : (q : ℕ) (ps : List Pending) → is_pending q ps ≡ false → find (is_of q) ps ≡ None
found_none q [] e = refl
found_none q (p ∷ ps) e = whether (is_of q p)
    (λ f. absurd (let h = sym e ∙ ap (λ b. b || is_pending q ps) f in cc))
    (λ f. ap (λ b. if b then Some p else find (is_of q) ps) f ∙ found_none q ps (ap (λ b. b || is_pending q ps) (sym f) ∙ e))

-- a pending sequence has one that is found
pub record IsFound (q : ℕ) (ps : List Pending) : Type 0 where
  pub entry : Pending
  pub is : find (is_of q) ps ≡ Some entry
  pub there : Contains ps entry
  pub of : entry.sequence ≡ q

pub found_entry : (q : ℕ) (ps : List Pending) → is_pending q ps ≡ true → IsFound q ps
found_entry q [] e = absurd (cc)
found_entry q (p ∷ ps) e = whether (is_of q p)
    (λ f. record { entry = p; is = ap (λ b. if b then Some p else find (is_of q) ps) f; there = (0, omega arith, refl); of = is_number p.sequence q f })
    (λ f.
    let r = found_entry q ps (ap (λ b. b || is_pending q ps) (sym f) ∙ e) in
    record { entry = r.entry; is = ap (λ b. if b then Some p else find (is_of q) ps) f ∙ r.is; there = (suc r.there.0, let lt = r.there.1 in omega (arith, lt), r.there.2); of = r.of })

-- ---- places

abbrev pub asks : ℕ → Call
asks q = calls.Sequence q Cancel

-- the call finds no error, and the module is initialised
abbrev pub IsCancel : SpiTable → (off : Bool) → ℕ → Origin Call → FrameHistory → Type 0
IsCancel d off q o t = IsThisFrame (Called (asks q)) fresh_history o t × (q < 8) × (error_by d (asks q) off false ≡ None) × (off ≡ false)

-- the frame cancels this sequence, whose unit starts jobs of pending ones
pub record IsOf (d : SpiTable) (r : Cancelled) (q : ℕ) : Type 0 where
  pub async : is_sync_sequence d q ≡ false
  pub sequence : r.sequence ≡ q
  pub unit : r.unit ≡ unit_of_sequence d q
  pub notes : r.notification ≡ notifies_sequence (sequence_of d q)

abbrev pub cancel_place : SpiTable → CancelBody → Memory → SpiState → Origin Call → FrameHistory → Type 0
cancel_place d (cancel.Result r) m s o t = (q : ℕ) × IsCancel d (is_off s.mode) q o t × IsOf d r q
cancel_place d (cancel.Running r) m s o t = (q : ℕ) × IsCancel d (is_off s.mode) q o t × IsOf d r q × (is_pending q s.pending ≡ true)
cancel_place d (cancel.Marks r) m s o t = (q : ℕ) × IsCancel d (is_off s.mode) q o t × IsOf d r q × (is_pending q s.pending ≡ true) × (is_running s q ≡ true)
cancel_place d (cancel.Mark v) m s o t = (q : ℕ) × IsCancel d (is_off s.mode) q o t × (is_pending q s.pending ≡ true) × (is_running s q ≡ true) × (v ≡ bit_or (m MARKS) (cancelled_bit q))
cancel_place d (cancel.Store r) m s o t = (q : ℕ) × IsCancel d (is_off s.mode) q o t × IsOf d r q × (is_pending q s.pending ≡ true) × (is_running s q ≡ false)
cancel_place d (cancel.Drop r p) m s o t = ⊥

abbrev pub cancel_spot : (d : SpiTable) → CancelBody → PointAssertion (spi_basis d)
cancel_spot d k = Within (Under tt) [] (λ below f w s o t. cancel_place d k f.0 s o t)

abbrev pub cancel_fuel : CancelBody → ℕ
cancel_fuel (cancel.Result r) = 10
cancel_fuel (cancel.Running r) = 9
cancel_fuel (cancel.Marks r) = 2
cancel_fuel (cancel.Mark v) = 1
cancel_fuel (cancel.Store r) = 7
cancel_fuel (cancel.Drop r p) = 0

-- the frame has acted, and owes the notice
abbrev pub ended_past : SpiTable → ℕ → FrameHistory
ended_past d q = record fresh_history { acted = Some no_answer; owed = owing false (sequence_notice d q) }

abbrev pub cancel_about : PendingWrites → Option Cancelled
cancel_about (Cancels (cancel.Drop r p)) = Some r
cancel_about _ = None

abbrev pub CancelledBy : SpiTable → Option Cancelled → Origin Call → FrameHistory → Type 0
CancelledBy d None o t = ⊥
CancelledBy d (Some r) o t = (q : ℕ) × IsThisFrame (Called (asks q)) (ended_past d q) o t × IsOf d r q

abbrev pub cancel_windows : (d : SpiTable) → Windows (spi_bare d) PendingWrites (Option Cancelled) CancelBody (spi_owing d)
cancel_windows d = record {
  bodies = record { work_of = cancel_work; takes = cancel_takes; fuel = cancel_fuel; room = cancel_fuel; clean = λ k. false; assertion = cancel_spot d };
  owes = cancel_owed_at;
  about = cancel_about;
  hold = λ a. [];
  place = λ a below o t. CancelledBy d a o t;
  steps_after = λ a. 0;
  room_after = λ a. 0;
}

abbrev pub cancel_bodies : (d : SpiTable) → LongBodies (spi_basis d) CancelBody
cancel_bodies d = windows (cancel_windows d)

-- ---- the drop is a part of what is owed

pub own_order : (d : SpiTable) (u j : ℕ) → u < 2 → ranked.own_of (record { at = order_word u }) j ≡ true → is_own_word d j ≡ true
own_order d u j lt own = let range = in_order u j lt own in let low = range.0 in own_first d j (omega (arith, low)) range.1

pub order_there : (u : ℕ) → u < 2 → AreThere (ranked.own_of (record { at = order_word u }))
order_there u lt j own = let range = in_order u j lt own in let high = range.1 in omega (arith, high)

pub named_own : (d : SpiTable) → FitsSpi d → (own : ℕ → Bool) → ((j : ℕ) → own j ≡ true → is_own_word d j ≡ true) → (made : Move) → NamesOwn own made → (spi_owing d).own made ≡ true
named_own d fits own words (Load k) at = may_store d fits k 0 (words k at)
named_own d fits own words (Store k v) at = may_store d fits k v (words k at)
named_own d fits own words _ at = absurd at

module _ (d : SpiTable) (fits : FitsSpi d) (r : Cancelled) (u : ℕ) (few : u < 2) where
  drop_steps : (p : Dropped) (v : ℕ) (o : Option Answer) → (drop_gave p v).ended ≡ o → PartTo dropping (spi_owing d) (λ x. Cancels (cancel.Drop r x)) (λ xs. None) p v o
  drop_steps p v None e = ap (λ b. unless_done (cancel_drops r p v b).1.done (cancel_owed_at (cancel_drops r p v b).0)) (ap is_some e)
  drop_steps p v (Some a) e = ap (λ b. unless_done (cancel_drops r p v b).1.done (cancel_owed_at (cancel_drops r p v b).0)) (ap is_some e)

  drop_part : IsPart dropping (ranked.own_of (record { at = order_word u })) (spi_owing d) (λ x. Cancels (cancel.Drop r x)) (λ xs. None)
  drop_part = record {
    moves = λ p. refl;
    steps = λ p v. drop_steps p v (drop_gave p v).ended refl;
    named = named_own d fits (ranked.own_of (record { at = order_word u })) (λ j own. own_order d u j few own);
    fits = λ p chip. tt;
  }

-- ---- a sequence that waits ends

module _ (d : SpiTable) (fits : FitsSpi d) (below : Reservations) (chip : Chip) (w : World) (s : SpiState) (h : SpiRepresents d below chip w s) (on : is_off s.mode ≡ false) (p : Pending) (there : Contains s.pending p) (waits : is_running s p.sequence ≡ false) where
  abbrev unit : ℕ
  unit = unit_of_sequence d p.sequence

  abbrev ordered : ℕ → PriorityQueue
  ordered u = record { at = order_word u }

  few : unit < 2
  few = unit_few d fits p.sequence

  number : p.sequence < 8
  number = (h.sound.entries p (all_pending (view s) p there)).number

  abbrev chip1 : Chip
  chip1 = chip_after chip (Store (sequence_word p.sequence) CANCELLED) 0

  abbrev after : SpiState
  after = ended d s p p.next SpiSeqCanceled

  for_unit : is_for d unit p ≡ true
  for_unit = job_unit d fits p.sequence p.next (h.sound.entries p (all_pending (view s) p there)).next

  -- it is in the order of its unit, and in no other
  in_own : order.is_there p.sequence (entries_of d (view s) unit) ≡ true
  in_own = there_by (is_running s) (filter (is_for d unit) s.pending) p (filter_keeps (is_for d unit) s.pending p there for_unit)

  in_other : (u : ℕ) → u ≢ unit → order.is_there p.sequence (entries_of d (view s) u) ≡ false
  in_other u ne = not_true (order.is_there p.sequence (entries_of d (view s) u)) (λ e.
      let (x, is, same) = there_back (is_running s) p.sequence (filter (is_for d u) s.pending) e in
      let k = filter_back (is_for d u) s.pending x is in
      let one : x ≡ p = one_pending d fits below chip w s h x p (all_pending (view s) x k.0) (all_pending (view s) p there) same in
      ne (one_unit d u unit (next_job d p) (subst (λ z. is_for d u z ≡ true) one k.1) for_unit))

  module _ (c : Chip) (differs : DiffersIn (ranked.own_of (ordered unit)) chip1 c) (holds : ranked.Holds (ordered unit) (word_of c) (order.without p.sequence (entries_of d (view s) unit))) where
    word_same : (j : ℕ) → ranked.own_of (ordered unit) j ≡ false → j ≢ sequence_word p.sequence → word_of c j ≡ word_of chip j
    word_same j e ne = differs.others j e ∙ stored_other chip (sequence_word p.sequence) CANCELLED 0 j ne

    unchanged : WordsStay (word_of chip) (word_of c) p.sequence unit
    unchanged = words_stay (word_of chip) (word_of c) p.sequence unit number few (λ j own ne _ _. word_same j own ne)

    below_orders : (j : ℕ) → STATE ≤ j → j < STATE + 10 → word_of c j ≡ word_of chip j
    below_orders j low high = word_same j (low_order unit j high) (before_sequences p.sequence j (low_enough j high))

    told : word_of c (sequence_word p.sequence) ≡ CANCELLED
    told = differs.others (sequence_word p.sequence) (high_order unit (sequence_word p.sequence) few (sequence_at p.sequence).0) ∙ stored_same chip (sequence_word p.sequence) CANCELLED 0 (omega (arith, number)) h.outside.all.words

    orders : (u : ℕ) → u < 2 → ranked.Holds (ordered u) (word_of c) (entries_of d (view after) u)
    orders u lt = cases (same_or_other u unit)
        (λ e. subst (λ n. ranked.Holds (ordered n) (word_of c) (entries_of d (view after) n)) (sym e) (subst (λ xs. ranked.Holds (ordered unit) (word_of c) xs) (sym (left_order d unit p.sequence (is_running s) (is_running s) (λ n ne. refl) s.pending ((h.words.on on).sequences.orders unit few).once)) holds))
        (λ ne. subst (λ xs. ranked.Holds (ordered u) (word_of c) xs) (sym (stay d u p.sequence (is_running s) (is_running s) (λ n ne. refl) s.pending (in_other u ne))) (holds-agree (ordered u) (word_of chip) (word_of c) (entries_of d (view s) u) (λ j own. unchanged.orders u j lt ne own) ((h.words.on on).sequences.orders u lt)))

    -- its jobs that are left never ran
    none_ran : (j : ℕ) → is_left d j p ≡ true → list_any (λ k. k == j) (drop p.next (jobs_of d p.sequence)) ≡ false → ⊥
    none_ran j a b = let f = sym a ∙ b in cc

    leaves : Leaves (view s) p after.pending (view s).begun
    leaves = leaves_pending d (view s) h.sound p there

    wordly : SequencesAgree d (word_of c) (view after)
    wordly = ended_words d fits (view s) h.sound p (all_pending (view s) p there) p.next (omega arith) s.job_results (λ j a b. absurd (none_ran j a b)) (λ j e. refl) after.pending (view s).begun leaves (view s).running (view s).idle SpiSeqCanceled tt (λ e. absurd (cc)) (λ n ne. refl) h.sound.few h.sound.carries.idle (λ e. (h.sound.off e).1) (word_of chip) (word_of c) (h.words.on on).sequences
        unchanged.sequences told (below_orders NEXTS nexts_at.0 nexts_at.1) (below_orders MARKS marks_at.0 marks_at.1) (λ j lt e. unchanged.jobs j lt) (λ j lt a b. absurd (none_ran j a b)) orders

    -- what runs is of another sequence
    nexts_kept : (u : ℕ) → u < 2 → (g : Option Going) → h.going u ≡ g → RunsNext d (view s) u g → RunsNext d (view after) u g
    nexts_kept u lt None e n = tt
    nexts_kept u lt (Some g) e n = (leaves.stays g.pending n.0 (unlike (is_sync_unit d u) refl n.1), runs (is_sync_unit d u) refl n.1, n.2)
      where
        unlike : (b : Bool) → is_sync_unit d u ≡ b → RunsBy b (view s) u g.pending → g.pending.sequence ≢ p.sequence
        unlike true i r f = let no = sym ((aside_pending d (view s) h.sound p there) u g.pending r).1 ∙ ap (λ n. n == p.sequence) f ∙ same_number p.sequence in cc
        unlike false i r f = let runs = going_runs d fits below chip w s h u g lt i e in let no = sym waits ∙ ap (is_running s) (sym f) ∙ runs in cc

        runs : (b : Bool) → is_sync_unit d u ≡ b → RunsBy b (view s) u g.pending → RunsBy b (view after) u g.pending
        runs true i r = r
        runs false i r = (filter_keeps (λ z. not (is_of p.sequence z)) s.pending g.pending r.0 (ap not (other_number g.pending.sequence p.sequence (unlike false i r))), r.1)

    ended_now : StandsIn c w → SpiRepresents d below c w after
    ended_now outside = firsts_changed d fits below below chip c w s h on (holds_same d below) outside (ap (λ x. x.wiring) differs.rest) (ap (λ x. x.serials.units) differs.rest) (ap (λ x. x.control) differs.rest) unchanged.past unchanged.state unchanged.runs
        after.pending after.requests after.sequence_results after.job_results h.right h.sending h.carriers (ended_sound d fits (view s) h.sound p (all_pending (view s) p there) p.next (omega arith) s.job_results (λ j a b. absurd (none_ran j a b)) (λ j e. refl) after.pending (view s).begun leaves (view s).running (view s).idle SpiSeqCanceled tt (λ e. absurd (cc)) (λ n ne. refl) h.sound.few h.sound.carries.idle (λ e. (h.sound.off e).1))
        (λ u lt. nexts_kept u lt (h.going u) refl (h.nexts u lt)) wordly (λ u x lt free is for. h.owed u x lt free (filter_back (λ z. not (is_of p.sequence z)) s.pending x is).0 for)

-- ---- the steps

module _ (d : SpiTable) (fits : FitsSpi d) (below : Reservations) (chip : Chip) (w : World) (s : SpiState) (h : SpiRepresents d below chip w s) (on : is_off s.mode ≡ false) (y : ℕ) (m : ℕ → Bool) where
  -- the entry that waits is taken out of its order after the store
  owes_drop : (r : Cancelled) (p : Pending) (there : Contains s.pending p) (waits : is_running s p.sequence ≡ false) → r.sequence ≡ p.sequence → r.unit ≡ unit_of_sequence d p.sequence
      → (n : ℕ) × CommitsTo (spi_owing d) n (Cancels (cancel.Drop r (drops.Look (search_of r.unit) r.sequence))) (chip_after chip (Store (sequence_word r.sequence) CANCELLED) y) (λ c. SpiRepresents d below c w (ended d s p p.next SpiSeqCanceled))
  owes_drop r p there waits sequence at =
      let u : ℕ = unit_of_sequence d p.sequence in
      let small = unit_few d fits p.sequence in
      let first : Chip = chip_after chip (Store (sequence_word p.sequence) CANCELLED) 0 in
      let stands = stands-move chip w (Store (sequence_word p.sequence) CANCELLED) 0 h.outside in
      let held : ranked.Holds (record { at = order_word u }) (word_of first) (entries_of d (view s) u) =
      holds-agree (record { at = order_word u }) (word_of chip) (word_of first) (entries_of d (view s) u) (λ j own. sym (stored_other chip (sequence_word p.sequence) CANCELLED 0 j (λ e. let high = to_order u j own in omega (arith, e, high, small)))) ((h.words.on on).sequences.orders u small) in
      subst (λ n. (i : ℕ) × CommitsTo (spi_owing d) i (Cancels (cancel.Drop r (drops.Look (search_of r.unit) n))) (chip_after chip (Store (sequence_word n) CANCELLED) y) (λ c. SpiRepresents d below c w (ended d s p p.next SpiSeqCanceled))) (sym sequence)
      (subst (λ u. (i : ℕ) × CommitsTo (spi_owing d) i (Cancels (cancel.Drop r (drops.Look (search_of u) p.sequence))) (chip_after chip (Store (sequence_word p.sequence) CANCELLED) y) (λ c. SpiRepresents d below c w (ended d s p p.next SpiSeqCanceled))) (sym at)
      (settles_part dropping (ranked.own_of (record { at = order_word u })) (spi_owing d) (λ x. Cancels (cancel.Drop r x)) (λ xs. None) (drop_part d fits r u small) (order_there u small)
      (λ after words. ranked.Holds (record { at = order_word u }) after (order.without p.sequence (entries_of d (view s) u)) × (words ≡ [])) (λ c. SpiRepresents d below c w (ended d s p p.next SpiSeqCanceled))
      _ (drops.Look (search_of u) p.sequence) first stands.all.words (drop-ends (record { at = order_word u }) p.sequence (word_of first) (entries_of d (view s) u) held (in_own d fits below chip w s h on p there waits))
      (λ c xs differs holds. ended_now d fits below chip w s h on p there waits c differs holds.0 (stands_owed (ranked.own_of (record { at = order_word u })) first c w differs stands))))

  abbrev CancelMakes : ℕ → CancelBody → Move → Chip → ℕ → CancelBody × BodyTaken → Type 0
  CancelMakes q k made after value p = Works (spi_basis d) (cancel_bodies d) below chip after w s (Called (asks q)) made false value y fresh_history m p.0 p.1.event p.1.done

  result : (r : Cancelled) (q n value : ℕ) → q < 8 → error_by d (asks q) (is_off s.mode) false ≡ None → IsOf d r q → (b : Bool) → is_pending q s.pending ≡ b → CancelMakes q (cancel.Result r) (Load n) chip value (if b then (cancel.Running r, goes) else (cancel.Result r, ends (Some Act) no_answer Nothing))
  result r q n value lt clear of true e = (h, (q, (Is_this_frame, lt, clear, on), of, e))
  result r q n value lt clear of false e = record {
    may = refl;
    stands = tt;
    state = s;
    told = tells_nothing;
    begins = None;
    is = ap (λ e. Some (acts_by d s (asks q) e)) clear ∙ ap (λ o. Some (cancelled d s o)) (found_none q s.pending e);
    sends = tt;
    acts = tt;
    reset = refl;
    next = (h, record { may = (refl, refl); served = false; owed = refl; shown = λ e. absurd (cc); report = refl });
  }

  -- whether its unit runs the sequence
  own_unit : (q : ℕ) (r : RunsOn d fits below chip w s h q) → h.going (unit_of_sequence d q) ≡ Some r.job
  own_unit q r =
      let next = going_next d fits below chip w s h r.unit r.job r.few r.is in
      let entry = h.sound.entries r.job.pending next.0 in
      let own = job_unit d fits r.job.pending.sequence r.job.pending.next entry.next in
      let unit : r.unit ≡ unit_of_sequence d q = one_unit d r.unit (unit_of_sequence d r.job.pending.sequence) (next_job d r.job.pending) next.2 own ∙ ap (unit_of_sequence d) r.of in
      ap h.going (sym unit) ∙ r.is

  runs_here : (q : ℕ) → is_sync_sequence d q ≡ false → (g : Option Going) → h.going (unit_of_sequence d q) ≡ g → is_running_sequence q (running_by d g) ≡ is_running s q
  runs_here q there None e = sym (not_true (is_running s q) (λ f. let c = sym e ∙ own_unit q (runs_on d fits below chip w s h q f) in cc))
  runs_here q there (Some g) e = whether (g.pending.sequence == q)
      (λ f. f ∙ sym (ap (is_running s) (sym (is_number g.pending.sequence q f)) ∙ going_runs d fits below chip w s h (unit_of_sequence d q) g (unit_few d fits q) there e))
      (λ f. f ∙ sym (not_true (is_running s q) (λ i.
      let r : RunsOn d fits below chip w s h q = runs_on d fits below chip w s h q i in
      let job : g ≡ r.job = same_Some g r.job (sym e ∙ own_unit q r) in
      let no = sym f ∙ ap (λ x. x.pending.sequence == q) job ∙ ap (λ n. n == q) r.of ∙ same_number q in
      cc)))

  running : (r : Cancelled) (q n value : ℕ) → q < 8 → error_by d (asks q) (is_off s.mode) false ≡ None → IsOf d r q → is_pending q s.pending ≡ true → (b : Bool) → is_running s q ≡ b → CancelMakes q (cancel.Running r) (Load n) chip value (if b then cancel.Marks r else cancel.Store r, goes)
  running r q n value lt clear of there true e = (h, (q, (Is_this_frame, lt, clear, on), of, there, e))
  running r q n value lt clear of there false e = (h, (q, (Is_this_frame, lt, clear, on), of, there, e))

  marks : (v q : ℕ) → q < 8 → error_by d (asks q) (is_off s.mode) false ≡ None → is_pending q s.pending ≡ true → is_running s q ≡ true → v ≡ bit_or (word_of chip MARKS) (cancelled_bit q)
      → CancelMakes q (cancel.Mark v) (Store MARKS v) (chip_after chip (Store MARKS v) y) 0 (cancel.Mark v, ends (Some Act) no_answer Nothing)
  marks v q lt clear there runs is =
      let f : IsFound q s.pending = found_entry q s.pending there in
      record {
        may = refl;
        stands = tt;
        state = record s { pending = changed q cancels s.pending };
        told = tells_nothing;
        begins = None;
        is =
            ap (λ e. Some (acts_by d s (asks q) e)) clear ∙ ap (λ o. Some (cancelled d s o)) f.is ∙ ap (λ b. Some (cancelled_by d s f.entry b)) (ap (is_running s) f.of ∙ runs)
            ∙ ap (λ n. Some (outcome (record s { pending = changed n cancels s.pending }) tells_nothing)) f.of;
        sends = tt;
        acts = tt;
        reset = refl;
        next = (subst (λ n. SpiRepresents d below (chip_after chip (Store MARKS n) y) w (record s { pending = changed q cancels s.pending })) (sym is) (cancelled_now d fits below chip w s h on q (subst (λ n. IsAside n (view s)) f.of (aside_pending d (view s) h.sound f.entry f.there)) lt runs), record { may = (refl, refl); served = false; owed = refl; shown = λ e. absurd (cc); report = refl });
      }

  stores : (r : Cancelled) (q : ℕ) → q < 8 → error_by d (asks q) (is_off s.mode) false ≡ None → IsOf d r q → is_pending q s.pending ≡ true → is_running s q ≡ false
      → CancelMakes q (cancel.Store r) (Store (sequence_word r.sequence) CANCELLED) (chip_after chip (Store (sequence_word r.sequence) CANCELLED) y) 0 (cancel.Drop r (drops.Look (search_of r.unit) r.sequence), acts)
  stores r q lt clear of there runs =
      let f : IsFound q s.pending = found_entry q s.pending there in
      record {
        may = refl;
        stands = tt;
        state = ended d s f.entry f.entry.next SpiSeqCanceled;
        told = notes (sequence_notice d q);
        begins = None;
        is =
            ap (λ e. Some (acts_by d s (asks q) e)) clear ∙ ap (λ o. Some (cancelled d s o)) f.is ∙ ap (λ b. Some (cancelled_by d s f.entry b)) (ap (is_running s) f.of ∙ runs)
            ∙ ap (λ n. Some (outcome (ended d s f.entry f.entry.next SpiSeqCanceled) (notes (sequence_notice d n)))) f.of;
        sends = tt;
        acts = tt;
        reset = refl;
        next = (owes_drop r f.entry f.there (ap (is_running s) f.of ∙ runs) (of.sequence ∙ sym f.of) (of.unit ∙ ap (unit_of_sequence d) (sym f.of)), (q, Is_this_frame, of));
      }

module _ (d : SpiTable) (fits : FitsSpi d) where
  cancel_steps : (below : Reservations) (chip : Chip) (w : World) (s : SpiState) (k : CancelBody) (o : Origin Call) (y : ℕ) (t : FrameHistory) (m : ℕ → Bool) → cancel_owed_at k ≡ None → AssertedAt (spi_basis d) (cancel_bodies d) below chip w s k o t → Right (spi_basis d) (cancel_bodies d) below chip w s k o y t m
  cancel_steps below chip w s (cancel.Result r) o y t m e (h, (q, (Is_this_frame, lt, clear, on), of)) =
      let says = ap (λ n. word_of chip (sequence_word n) == PENDING) of.sequence ∙ pending_word d fits below chip w s h on q lt ∙ pending_alone d fits below chip w s h q of.async in
      subst (λ b. CancelMakes d fits below chip w s h on y (missed_after (spi_machine d) w s m) q (cancel.Result r) (Load (sequence_word r.sequence)) chip (word_of chip (sequence_word r.sequence)) (if b then (cancel.Running r, goes) else (cancel.Result r, ends (Some Act) no_answer Nothing))) (sym says)
      (result d fits below chip w s h on y (missed_after (spi_machine d) w s m) r q (sequence_word r.sequence) (word_of chip (sequence_word r.sequence)) lt clear of (is_pending q s.pending) refl)
  cancel_steps below chip w s (cancel.Running r) o y t m e (h, (q, (Is_this_frame, lt, clear, on), of, there)) =
      let says = ap (λ u. run_in (word_of chip (running_word u))) of.unit ∙ running_says d fits below chip w s h on (unit_of_sequence d q) (unit_few d fits q) (h.going (unit_of_sequence d q)) refl in
      let here = ap (is_running_sequence r.sequence) says ∙ ap (λ n. is_running_sequence n (running_by d (h.going (unit_of_sequence d q)))) of.sequence ∙ runs_here d fits below chip w s h on y m q of.async (h.going (unit_of_sequence d q)) refl in
      subst (λ b. CancelMakes d fits below chip w s h on y (missed_after (spi_machine d) w s m) q (cancel.Running r) (Load (running_word r.unit)) chip (word_of chip (running_word r.unit)) (if b then cancel.Marks r else cancel.Store r, goes)) (sym here)
      (running d fits below chip w s h on y (missed_after (spi_machine d) w s m) r q (running_word r.unit) (word_of chip (running_word r.unit)) lt clear of there (is_running s q) refl)
  cancel_steps below chip w s (cancel.Marks r) o y t m e (h, (q, (Is_this_frame, lt, clear, on), of, there, runs)) = (h, (q, (Is_this_frame, lt, clear, on), there, runs, ap (λ n. bit_or (word_of chip MARKS) (cancelled_bit n)) of.sequence))
  cancel_steps below chip w s (cancel.Mark v) o y t m e (h, (q, (Is_this_frame, lt, clear, on), there, runs, is)) = marks d fits below chip w s h on y (missed_after (spi_machine d) w s m) v q lt clear there runs is
  cancel_steps below chip w s (cancel.Store r) o y t m e (h, (q, (Is_this_frame, lt, clear, on), of, there, runs)) = stores d fits below chip w s h on y (missed_after (spi_machine d) w s m) r q lt clear of there runs
  cancel_steps below chip w s (cancel.Drop r p) o y t m e h = absurd (cc)

  -- ---- the bodies

  cancel_wins : AreWindows (cancel_windows d) (λ k. None)
  cancel_wins = record {
    makes = makes;
    on = on;
    over = over;
    unended = λ k x v e. refl;
    may = λ a below o t made h e. frame_names d o made (and_parts (is_simple made) (may d made) e).1;
    stands = stands;
  }
    where
      makes : (k : CancelBody) (x : PendingWrites) → cancel_owed_at k ≡ Some x → cancel_work k ≡ owed_move x
      makes (cancel.Drop r p) x e = ap owed_move (same_Some (Cancels (cancel.Drop r p)) x e)
      makes _ x e = absurd (cc)

      goes_on : (r : Cancelled) (p : Dropped) (v : ℕ) (z : PendingWrites) (b : Bool) → unless_done (cancel_drops r p v b).1.done (cancel_owed_at (cancel_drops r p v b).0) ≡ Some z → GoesOwing (cancel_windows d) (Cancels (cancel.Drop r p)) z (cancel_drops r p v b)
      goes_on r p v z true i = absurd (cc)
      goes_on r p v z false i = (i, refl, ap cancel_about (sym (same_Some (Cancels (cancel.Drop r (drop_left p v))) z i)))

      on : (k : CancelBody) (x z : PendingWrites) (v : ℕ) → cancel_owed_at k ≡ Some x → owed_left x v ≡ Some z → GoesOwing (cancel_windows d) x z (cancel_takes k v)
      on (cancel.Drop r p) x z v e i = subst (λ a. GoesOwing (cancel_windows d) a z (cancel_takes (cancel.Drop r p) v)) (same_Some (Cancels (cancel.Drop r p)) x e) (goes_on r p v z (has_ended (drop_gave p v)) (ap (λ a. owed_left a v) (same_Some (Cancels (cancel.Drop r p)) x e) ∙ i))
      on _ x z v e i = absurd (cc)

      ends_now : (r : Cancelled) (p : Dropped) (v : ℕ) (b : Bool) → unless_done (cancel_drops r p v b).1.done (cancel_owed_at (cancel_drops r p v b).0) ≡ None → ((cancel_drops r p v b).1.event ≡ None) × GoesFree (cancel_windows d) (Some r) (cancel_drops r p v b).0 (cancel_drops r p v b).1.done
      ends_now r p v true i = (refl, tt)
      ends_now r p v false i = absurd (cc)

      over : (k : CancelBody) (x : PendingWrites) (v : ℕ) → cancel_owed_at k ≡ Some x → owed_left x v ≡ None → ((cancel_takes k v).1.event ≡ None) × GoesFree (cancel_windows d) (cancel_about x) (cancel_takes k v).0 (cancel_takes k v).1.done
      over (cancel.Drop r p) x v e i = subst (λ a. ((cancel_takes (cancel.Drop r p) v).1.event ≡ None) × GoesFree (cancel_windows d) (cancel_about a) (cancel_takes (cancel.Drop r p) v).0 (cancel_takes (cancel.Drop r p) v).1.done) (same_Some (Cancels (cancel.Drop r p)) x e) (ends_now r p v (has_ended (drop_gave p v)) (ap (λ a. owed_left a v) (same_Some (Cancels (cancel.Drop r p)) x e) ∙ i))
      over _ x v e i = absurd (cc)

      noted : (r : Cancelled) (q : ℕ) → IsOf d r q → owing false (sequence_notice d q) ≡ owing false (notices_in (cancel_owed r))
      noted r q of = by r.notification (notifies_sequence (sequence_of d q)) of.notes
        where
          by : (a b : Bool) → a ≡ b → owing false (if b then record { kind = SpiSeqEndNotification; id = q } ∷ [] else []) ≡ owing false (notices_in (if a then One (record { kind = SpiSeqEndNotification; id = r.sequence }) else Nothing))
          by true true e = ap (λ n. owing false (record { kind = SpiSeqEndNotification; id = n } ∷ [])) (sym of.sequence)
          by false false e = refl
          by _ _ e = absurd (cc)

      stands_by : (r : Cancelled) (p : Dropped) (v : ℕ) (below : Reservations) (chip : Chip) (w : World) (s : SpiState) (o : Origin Call) (t : FrameHistory) (m : ℕ → Bool) (b : Bool) → unless_done (cancel_drops r p v b).1.done (cancel_owed_at (cancel_drops r p v b).0) ≡ None → CancelledBy d (Some r) o t → SpiRepresents d below chip w s
          → Continues (spi_basis d) (cancel_bodies d) below chip w s o t m (cancel_drops r p v b).0 (cancel_drops r p v b).1.done
      stands_by r p v below chip w s o t m true i (q, Is_this_frame, of) h = (h, record { may = (refl, refl); served = false; owed = noted r q of; shown = λ e. absurd (cc); report = whether_as r.notification (λ a. None ≡ error_in (if a then One (record { kind = SpiSeqEndNotification; id = r.sequence }) else Nothing)) (λ _. refl) (λ _. refl) })
      stands_by r p v below chip w s o t m false i place h = absurd (cc)

      stands : (k : CancelBody) (x : PendingWrites) (v : ℕ) (below : Reservations) (chip : Chip) (w : World) (s : SpiState) (o : Origin Call) (t : FrameHistory) (m : ℕ → Bool) → cancel_owed_at k ≡ Some x → owed_left x v ≡ None → CancelledBy d (cancel_about x) o t → SpiRepresents d below chip w s
          → Continues (spi_basis d) (cancel_bodies d) below chip w s o t m (cancel_takes k v).0 (cancel_takes k v).1.done
      stands (cancel.Drop r p) x v below chip w s o t m e i place h = stands_by r p v below chip w s o t m (has_ended (drop_gave p v)) (ap (λ a. owed_left a v) (same_Some (Cancels (cancel.Drop r p)) x e) ∙ i) (subst (λ a. CancelledBy d (cancel_about a) o t) (sym (same_Some (Cancels (cancel.Drop r p)) x e)) place) h
      stands _ x v below chip w s o t m e i place h = absurd (cc)

  cancel_own : (below : Reservations) (chip : Chip) (w : World) (s : SpiState) (k : CancelBody) (o : Origin Call) (t : FrameHistory) → cancel_owed_at k ≡ None → AssertedAt (spi_basis d) (cancel_bodies d) below chip w s k o t → is_shared (cancel_work k) || may d (cancel_work k) ≡ true
  cancel_own below chip w s (cancel.Result r) o t e (h, (q, (being, lt, clear, on), of)) = may_first d fits (sequence_word r.sequence) (omega arith) (let n = of.sequence in omega (arith, lt, n))
  cancel_own below chip w s (cancel.Running r) o t e (h, (q, (being, lt, clear, on), of, there)) = may_first d fits (running_word r.unit) (omega arith) (let n = of.unit in let few = unit_few d fits q in omega (arith, few, n))
  cancel_own below chip w s (cancel.Store r) o t e (h, (q, (being, lt, clear, on), of, there, runs)) = may_first d fits (sequence_word r.sequence) (omega arith) (let n = of.sequence in omega (arith, lt, n))
  cancel_own below chip w s (cancel.Drop r p) o t e h = absurd (cc)
  cancel_own below chip w s _ o t e h = may_first d fits MARKS (omega arith) (omega arith)

  cancel_plain : (k : CancelBody) → cancel_owed_at k ≡ None → IsCalm (cancel_work k)
  cancel_plain (cancel.Drop r p) e = absurd (cc)
  cancel_plain _ e = (refl, refl, refl)

  cancel_short : (k : CancelBody) (x : ℕ) → cancel_owed_at k ≡ None → Shortens (cancel_bodies d).fuel k (cancel_takes k x)
  cancel_short (cancel.Result r) x e =
      elim (x == PENDING) as (λ b. Shortens (cancel_bodies d).fuel (cancel.Result r) (if b then (cancel.Running r, goes) else (cancel.Result r, ends (Some Act) no_answer Nothing)))
      [ true ↦ omega arith | false ↦ omega arith ]
  cancel_short (cancel.Running r) x e =
      elim (is_running_sequence r.sequence (run_in x)) as (λ b. Shortens (cancel_bodies d).fuel (cancel.Running r) (if b then cancel.Marks r else cancel.Store r, goes))
      [ true ↦ omega arith | false ↦ omega arith ]
  cancel_short (cancel.Drop r p) x e = absurd (cc)
  cancel_short _ x e = omega arith

  cancel_turns : (k : CancelBody) (x : ℕ) → cancel_owed_at k ≡ None → TurnsTo (cancel_bodies d) 32 k (cancel_takes k x)
  cancel_turns k x e = owed_turns d (cancel_windows d) (λ k. refl) k (cancel_takes k x) (cancel_plain k e).0 (cancel_short k x e)

  place_later : (w : World) (s : SpiState) (order : Order) (q : ℕ) (o : Origin Call) (t : FrameHistory) → IsCancel d (is_off s.mode) q o t → IsCancel d (is_off (moved d w s order).mode) q o t
  place_later w s order q o t h = subst (λ mode. IsCancel d (is_off mode) q o t) (sym (mode_later d w s order)) h

  still_there : (w : World) (s : SpiState) (order : Order) (q : ℕ) → is_pending q s.pending ≡ true → is_pending q (moved d w s order).pending ≡ true
  still_there w s order q e = ap (is_pending q) (pending_later d w s order) ∙ e

  still_runs : (w : World) (s : SpiState) (order : Order) (q : ℕ) (b : Bool) → is_running s q ≡ b → is_running (moved d w s order) q ≡ b
  still_runs w s order q b e = ap (λ f. f q) (running_later d w s order) ∙ e

  cancel_later : (below : Reservations) (chip : Chip) (w : World) (s : SpiState) (order : Order) (k : CancelBody) (o : Origin Call) (t : FrameHistory) → cancel_owed_at k ≡ None → AssertedAt (spi_basis d) (cancel_bodies d) below chip w s k o t → place_at ((cancel_bodies d).assertion k) below ((spi_basis d).foot (happened chip order)) (world_after w chip.clock.rate order) (moved d w s order) o t
  cancel_later below chip w s order (cancel.Result r) o t e (h, (q, asked, of)) = (q, place_later w s order q o t asked, of)
  cancel_later below chip w s order (cancel.Running r) o t e (h, (q, asked, of, there)) = (q, place_later w s order q o t asked, of, still_there w s order q there)
  cancel_later below chip w s order (cancel.Marks r) o t e (h, (q, asked, of, there, runs)) = (q, place_later w s order q o t asked, of, still_there w s order q there, still_runs w s order q true runs)
  cancel_later below chip w s order (cancel.Mark v) o t e (h, (q, asked, there, runs, is)) = (q, place_later w s order q o t asked, still_there w s order q there, still_runs w s order q true runs, is ∙ ap (λ n. bit_or n (cancelled_bit q)) (sym (word_later chip order MARKS h.outside.all.words (omega arith))))
  cancel_later below chip w s order (cancel.Store r) o t e (h, (q, asked, of, there, runs)) = (q, place_later w s order q o t asked, of, still_there w s order q there, still_runs w s order q false runs)
  cancel_later below chip w s order (cancel.Drop r p) o t e h = absurd (cc)

  cancel_free : AreFree (spi_basis d) (cancel_bodies d) cancel_owed_at (λ k. None)
  cancel_free = record {
    own = λ below chip w s k o t e h. frame_may d o (cancel_work k) (cancel_own below chip w s k o t e h);
    turns = λ below chip w s k o t e h. cancel_turns k (value_of chip (cancel_work k)) e;
    steps = λ below chip w s k o y t m e come few h. cancel_steps below chip w s k o y t m e h;
    later = λ below chip w s order k o t e come shut h. cancel_later below chip w s order k o t e h;
    calm = λ below chip w s k o t e h i. ((cancel_plain k e).1, (cancel_plain k e).2);
    shortens = cancel_short;
    cleans = λ k x e. owed_cleans d (cancel_windows d) (λ k. refl) (cancel_work k) k (cancel_takes k x);
  }

  pub cancel_right : AreLong (spi_basis d) (cancel_bodies d)
  cancel_right = windows_right (spi_bare d) (spi_owing d) same_chip (owed_right d) (cancel_windows d) (λ k. None) cancel_wins cancel_free
