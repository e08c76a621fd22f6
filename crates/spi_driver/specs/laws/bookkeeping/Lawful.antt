-- The driver, as the outline and the runner see it, is lawful.
-- From bookkeeping.UnpolledFrames, spi_sequences: services.AtOnce, spi_sequences: services.Bodies and 26 more.
-- Used by bookkeeping.Joined.
use Rattle.std.proofs.Common.{◌≡◌, ◌+◌, ◌-◌, ◌%◌, ◌<◌, ◌≤◌, ◌==◌, ◌||◌, [], ◌∷◌, ◌∙◌, if◌then◌else◌}
use Rattle.spi_driver.specs.Terms
use Terms.{Act, act_of, acts_by, all_carried, all_of, AllLet, AllRight, and_parts, Answer, answer_refused, answers}
use Terms.{ap, AreEnding, AreEndingServices, arith, asks_no, asks_none, AssertedAt, AsyncTransmit, basis_right}
use Terms.{begins, begins_at, begins_few, Beside, blocks, Bool, both, both_ending, both_right, Call, Called, CanBegin}
use Terms.{Cancel, cancel_begun, cancel_bodies, cancel_right, cancelled, carried-right, carried_at, carried_for}
use Terms.{Carrying, Channel, channel_begun, channel_of, ChannelCall, ChannelState, Chip, class_of, Decides, Declines}
use Terms.{Done, ended_at, ending_gave, Entered, entry_carried, error_by, error_of_sending, error_told, ErrorName}
use Terms.{false, finds_held, First, FitsSpi, found_none, FrameHistory, has_channel, HeldRight, in_list, init_bodies}
use Terms.{init_right, init_within, inl, inr, Interrupt, is_busy, is_closed, is_external_channel, is_internal_channel}
use Terms.{is_number, is_off, is_past, is_pending, is_polling, is_some, is_sync_sequence, Is_this_frame, is_used}
use Terms.{is_users, is_windowed, is_wrong_length, is_wrong_sequence, IsLawful, job_of, jobs_by, jobs_of, LeavesNone}
use Terms.{length, length_by, List, Looked, looked_by, mark_of, may_end, may_name, may_store, Mode, mode_word, Move}
use Terms.{named, names_there, nat_lt, no_answer, no_duties, None, none_any, NoneBefore, not, not_sent, not_true}
use Terms.{Nothing, of_sixteen, Off, Option, or_rest, Origin, outcome, own_first, pinning, placed_of, Pointer}
use Terms.{Polling, polls, Preparing, PulseCommit, put_by, put_held, Query, query_begun, query_bodies, query_right}
use Terms.{Read, read_bodies, read_right, ReadIb, Reading, Received, refl, Reservation, Reservations, ReservedBy}
use Terms.{same_number, Second, sending_ends, sent, sent_steps, Sequence, sequence_begun, sequence_of, SequenceCall}
use Terms.{services_driver, services_lawful, set_up_bodies, set_up_right, SetupEb, short_left, short_move, Some}
use Terms.{some_of, spi_basis, spi_ends, spi_looked, spi_machine, spi_setting, SpiBody, SpiRepresents, SpiState}
use Terms.{SpiTable, SpiUninit, STATE, status_by, steps_of, subst, suc, sym, sync_bodies, sync_opens, sync_right}
use Terms.{SyncTransmit, take, take_by, take_held, tells_error, tells_nothing, TimerHigh, to_write, true, unit_by}
use Terms.{unit_few, unit_of_sequence, value_of, view, waiting_windows, whether, whole_bodies, whole_right}
use Terms.{windows_are_right, word_of, words_in, World, Write, write_bodies, write_right, WriteIb, Writing, zero, ℕ}
use Rattle.run_model.specs.Frame.{is_wait}
use Rattle.spi_sequences.specs.laws.bookkeeping.RefinementRight.{FrameMoves, frame_moves}
use Rattle.spi_sequences.specs.laws.services.{QueryRight.{IsJobQuery}, ReadRight.{IsReader}, WriteRight.{IsWriter}}
use Rattle.spi_sequences.specs.laws.services.AtOnce.{cancel_once, init_once, never, query_once, read_once, set_up_once}
use Rattle.spi_sequences.specs.laws.services.AtOnce.{unit_once, whole_once, write_once}
use Rattle.spi_driver.specs.laws.bookkeeping.UnpolledFrames.{LeavesBy, PollsNone, cancel_unpolled, init_unpolled}
use Rattle.spi_driver.specs.laws.bookkeeping.UnpolledFrames.{leaves_unpolled, lets_none, query_unpolled}
use Rattle.spi_driver.specs.laws.bookkeeping.UnpolledFrames.{read_unpolled, set_up_unpolled, unpolled_left}
use Rattle.spi_driver.specs.laws.bookkeeping.UnpolledFrames.{whole_unpolled, write_unpolled, sync_unpolled}
use Rattle.spi_driver.specs.laws.{services.UnitFrames.{unit_bodies}, services.UnitBegins.{handler_begins, handlers}}
use Rattle.spi_driver.specs.laws.services.UnitBegins.{request_begins, spi, firsts, handled_by, lasts, main_begins}
use Rattle.spi_driver.specs.laws.{bookkeeping.NoneWaits.{units_left}, services.UnitBounds.{units_right}}
use Rattle.mcal_base.specs.declared.error_name.ErrorName.TheVariants as errors
use Rattle.spi_machine.specs.Pending.{is_of}
use Rattle.spi_machine.specs.declared.call.Call.TheVariants as calls
use Rattle.spi_machine.specs.declared.call.Query.TheVariants as queries
use Rattle.spi_sequences.specs.declared.service.query.JobPlace.TheVariants as job
use Rattle.spi_sequences.specs.declared.service.read.ReadPlace.TheVariants as read
use Rattle.std.proofs.lemmas.Bool.{not-false, not-true}

-- ---- what stands of calls that find no error

clear_one : (off : Bool) (e : ErrorName) → (if off then Some e else None) ≡ None → off ≡ false
clear_one true e h = absurd (cc)
clear_one false e h = refl

clear_two : (off good : Bool) (e f : ErrorName) → (if off then Some e else if not good then Some f else None) ≡ None → (off ≡ false) × (good ≡ true)
clear_two false true e f h = (refl, refl)
clear_two _ _ e f h = absurd (cc)

clear_three : (off good bad : Bool) (e f g : ErrorName) → (if off then Some e else if not good then Some f else if bad then Some g else None) ≡ None → (off ≡ false) × (good ≡ true) × (bad ≡ false)
clear_three false true false e f g h = (refl, refl, refl)
clear_three _ _ _ e f g h = absurd (cc)

clear_sequence : (off wrong : Bool) (e f : ErrorName) → (if off then Some e else if wrong then Some f else None) ≡ None → (off ≡ false) × (wrong ≡ false)
clear_sequence false false e f h = (refl, refl)
clear_sequence _ _ e f h = absurd (cc)

-- a sequence that is configured, and sent so
neither : (there otherwise : Bool) → not there || otherwise ≡ false → (there ≡ true) × (otherwise ≡ false)
neither true false e = (refl, refl)
neither _ _ e = absurd (cc)

-- an error that is found before a pending sequence is looked for
found_first : (off wrong held : Bool) (e f g x : ErrorName) → (if off then Some e else if wrong then Some f else None) ≡ Some x → (if off then Some e else if wrong then Some f else if held then Some g else None) ≡ Some x
found_first false false held e f g x h = absurd (cc)
found_first _ _ held e f g x h = h

refused_so : (d : SpiTable) (s : SpiState) (call : Call) (x : ErrorName) → error_by d call (is_off s.mode) false ≡ Some x → error_by d call (is_off s.mode) (finds_held d s call) ≡ Some x
refused_so d s (calls.Sequence q AsyncTransmit) x e = found_first (is_off s.mode) (is_wrong_sequence d q AsyncTransmit) (finds_held d s (calls.Sequence q AsyncTransmit)) errors.SpiUninit errors.SpiParamSeq errors.SpiSeqPending x e
refused_so d s (calls.Sequence q SyncTransmit) x e = found_first (is_off s.mode) (is_wrong_sequence d q SyncTransmit) (finds_held d s (calls.Sequence q SyncTransmit)) errors.SpiUninit errors.SpiParamSeq errors.SpiSeqInProcess x e
refused_so d s _ x e = e

-- the main function has no error, and any other call polls nothing
polls_none : (d : SpiTable) (s : SpiState) (call : Call) (x : ErrorName) → error_by d call (is_off s.mode) false ≡ Some x → polls s call ≡ []
polls_none d s calls.MainFunctionHandling x e = absurd (cc)
polls_none d s _ x e = refl

pub external_channel : (k : Option Channel) → is_external_channel k ≡ true → (x : Channel) × (k ≡ Some x) × (x.internal ≡ false)
external_channel None e = absurd (cc)
external_channel (Some x) e = (x, refl, not-true x.internal e)

pub internal_channel : (k : Option Channel) → is_internal_channel k ≡ true → (x : Channel) × (k ≡ Some x) × (x.internal ≡ true)
internal_channel None e = absurd (cc)
internal_channel (Some x) e = (x, refl, e)

below_byte : (n : ℕ) → n < 256 → n % 256 ≡ n
below_byte n lt = omega (arith, lt)

-- a length that isn't wrong
length_right : (n : ℕ) (k : Channel) → is_wrong_length n (Some k) ≡ false → (0 < n) × (n ≤ k.length)
length_right n k e = by (n == 0) refl (nat_lt k.length n) refl e
  where
    positive : (n : ℕ) → (n == 0) ≡ false → 0 < n
    positive zero f = absurd (cc)
    positive (suc n) f = omega arith

    by : (a : Bool) → (n == 0) ≡ a → (b : Bool) → nat_lt k.length n ≡ b → a || b ≡ false → (0 < n) × (n ≤ k.length)
    by false f false g h = (positive n f, is_past k.length n g)
    by _ f _ g h = absurd (cc)

-- ---- what the frames below hold, by what lets the call begin

-- above frames of the module nothing exclusive begins
class_module : (d : SpiTable) (o : Origin Call) (call : Call) → class_of call ≡ class_of calls.Init → blocks (class_of call) (mark_of (spi_setting d) o) ≡ true
class_module d (Called calls.Init) call e = ap (λ c. blocks c (mark_of (spi_setting d) (Called calls.Init))) e
class_module d o call e = ap (λ c. blocks c (mark_of (spi_setting d) o)) e

pub alone_by : (d : SpiTable) (call : Call) (below : Reservations) → class_of call ≡ class_of calls.Init → AllLet (spi_setting d) (class_of call) below → below ≡ []
alone_by d call [] e lets = refl
alone_by d call (h ∷ hs) e lets = absurd (let f = sym (class_module d h.by call e) ∙ lets.0 in cc)

module _ (d : SpiTable) (mode : Mode) (cs : List ChannelState) (on : is_off mode ≡ false) (c : ℕ) where
  -- no frame writes the channel
  not_written : (p : Pointer) (sources : ℕ → List ℕ) (h : ReservedBy Call Reservation) (x : Reservation) → HeldRight d mode cs h x → blocks (class_of (calls.Channel c (WriteIb p))) (mark_of (spi_setting d) h.by) ≡ false → put_by d sources c false x ≡ None
  not_written p sources h (Preparing stored readied x) right l = absurd (let off = right.1 in cc)
  not_written p sources h (Writing n q b i x) right l = whether (n == c)
      (λ e. absurd (let f = ap (λ k. c == k) (is_number n c e) ∙ same_number c in let g = other in cc))
      (λ e. ap (λ a. if a then Some (record { bank = b; filled = take i (to_write (channel_of d c) q (sources c)) }) else None) e)
    where
      other : (c == n) ≡ false
      other = subst (λ o. blocks (class_of (calls.Channel c (WriteIb p))) (mark_of (spi_setting d) o) ≡ false) right.0 l
  not_written p sources h _ right l = refl

  none_writes : (p : Pointer) (sources : ℕ → List ℕ) (below : Reservations) → AllRight d mode cs below → AllLet (spi_setting d) (class_of (calls.Channel c (WriteIb p))) below → put_held d sources c false below ≡ None
  none_writes p sources [] right lets = refl
  none_writes p sources (h ∷ hs) right lets = ap (λ x. or_rest x (put_held d sources c false hs)) (not_written p sources h h.what right.0 lets.0) ∙ none_writes p sources hs right.1 lets.1

  -- or reads it
  not_read : (h : ReservedBy Call Reservation) (x : Reservation) → HeldRight d mode cs h x → blocks (class_of (calls.Channel c ReadIb)) (mark_of (spi_setting d) h.by) ≡ false → take_by c h.acted x ≡ None
  not_read h (Reading n b) right l = whether (n == c)
      (λ e. absurd (let f = ap (λ k. c == k) (is_number n c e) ∙ same_number c in let g = other in cc))
      (λ e. ap (λ a. if a then Some (record { bank = b; kept = words_in h.acted }) else None) e)
    where
      other : (c == n) ≡ false
      other = subst (λ o. blocks (class_of (calls.Channel c ReadIb)) (mark_of (spi_setting d) o) ≡ false) right.0 l
  not_read h _ right l = refl

  none_reads : (below : Reservations) → AllRight d mode cs below → AllLet (spi_setting d) (class_of (calls.Channel c ReadIb)) below → take_held c below ≡ None
  none_reads [] right lets = refl
  none_reads (h ∷ hs) right lets = ap (λ x. or_rest x (take_held c hs)) (not_read h h.what right.0 lets.0) ∙ none_reads hs right.1 lets.1

-- ---- the driver

module _ (d : SpiTable) where
  module _ (fits : FitsSpi d) (below : Reservations) (chip : Chip) (w : World) (s : SpiState) (h : SpiRepresents d below chip w s) where
    abbrev Looks : Call → Looked SpiBody → Type 0
    Looks call l = Decides (spi d) below chip w s call l

    -- a call that sends a sequence and waits: what its unit carries out isn't this one, which isn't configured
    sending_refused : (q : ℕ) (e : ErrorName) → error_by d (calls.Sequence q SyncTransmit) (is_off s.mode) false ≡ Some e → sending_ends d w s q (carried_for d s q) ≡ Some (outcome s (tells_error (answer_refused (calls.Sequence q SyncTransmit)) e))
    sending_refused q e is = by (carried_for d s q) refl
      where
        refused : not_sent s q (error_of_sending d s q) ≡ Some (outcome s (tells_error (answer_refused (calls.Sequence q SyncTransmit)) e))
        refused = ap (not_sent s q) (refused_so d s (calls.Sequence q SyncTransmit) e is)

        found : (off there sync : Bool) → off ≡ false → sync ≡ true → (if off then Some errors.SpiUninit else if not there || not sync then Some errors.SpiParamSeq else None) ≡ Some e → there ≡ false
        found false true true f g h = absurd (cc)
        found false false sync f g h = refl
        found _ _ _ f g h = absurd (cc)

        other : (x : Carrying) → carried_for d s q ≡ Some x → is_of q x.entry ≡ false
        other x f = not_true (is_of q x.entry) (λ own.
            let r : (is_off s.mode ≡ false) × (is_sync_sequence d q ≡ true) = carried-right d s q x f in
            let begun : (view s).begun (unit_of_sequence d q) ≡ Some x.entry = ap entry_carried (sym (ap (λ z. if z || not (is_sync_sequence d q) then None else carried_at s (unit_of_sequence d q)) r.0 ∙ ap (λ z. if not z then None else carried_at s (unit_of_sequence d q)) r.1) ∙ f) in
            let there = all_carried (view s) (unit_of_sequence d q) x.entry (unit_few d fits q) begun in
            let next = (h.sound.entries x.entry there).next in
            let unknown = found (is_off s.mode) (is_some (sequence_of d q)) (is_sync_sequence d q) r.0 r.1 is in
            no_jobs (sequence_of d q) unknown (subst (λ n. x.entry.next < length (jobs_of d n)) (is_number x.entry.sequence q own) next))
          where
            no_jobs : (o : Option Sequence) → is_some o ≡ false → {n : ℕ} → n < length (jobs_by o) → ⊥
            no_jobs None e lt = omega (arith, lt)
            no_jobs (Some k) e lt = absurd (cc)

        by : (o : Option Carrying) → carried_for d s q ≡ o → sending_ends d w s q o ≡ Some (outcome s (tells_error (answer_refused (calls.Sequence q SyncTransmit)) e))
        by None f = refused
        by (Some x) f = ap (λ b. if b then (if may_end d w x then Some (sent d s (unit_of_sequence d q) x x.run.transfer.failed) else None) else not_sent s q (error_of_sending d s q)) (other x f) ∙ refused

    act_refused : (call : Call) (e : ErrorName) → error_by d call (is_off s.mode) false ≡ Some e → act_of d w s call ≡ Some (outcome s (tells_error (answer_refused call) e))
    act_refused (calls.Sequence q SyncTransmit) e is = sending_refused q e is
    act_refused (calls.Sequence q AsyncTransmit) e is = ap (λ y. Some (acts_by d s (calls.Sequence q AsyncTransmit) y)) (refused_so d s (calls.Sequence q AsyncTransmit) e is)
    act_refused call e is = ap (λ y. Some (acts_by d s call y)) is

    declines : (call : Call) (e : ErrorName) → error_by d call (is_off s.mode) false ≡ Some e → Looks call (looked_by (record { call = call; table = d }) (mode_word s.mode) (Some e))
    declines call e is = record {
      told = tells_error (answer_refused call) e;
      is = λ times. act_refused call e is;
      tells = error_told (spi_machine d) call (answer_refused call) e;
      reset = asks_no (spi_machine d) call (Some Act) (Some (outcome s (tells_error (answer_refused call) e))) (asks_none call);
      polls = polls_none d s call e is;
    }

    whole_begins : (call : Call) → class_of call ≡ class_of calls.Init → Beside (spi_setting d) (Called call) below → below ≡ []
    whole_begins call e lets = alone_by d call below e lets

    none_before : NoneBefore (all_of (view s)) 0
    none_before k lt = absurd (omega (arith, lt))

    -- at the channel's own number
    at_channel : (c : ℕ) (call : ChannelCall) → Beside (spi_setting d) (Called (calls.Channel c call)) below → error_by d (calls.Channel c call) (is_off s.mode) false ≡ None → Looks (calls.Channel c call) (channel_begun d c call)
    at_channel c (WriteIb p) lets clear =
        let facts = clear_two (is_off s.mode) (is_internal_channel (channel_of d c)) errors.SpiUninit errors.SpiParamChannel clear in
        let there = internal_channel (channel_of d c) facts.1 in
        let size : (placed_of d c).channel.length ≡ length_by (channel_of d c) = ap (λ x. x.length) (has_channel d fits c there.0 there.1) ∙ sym (ap length_by there.1) in
        let writer : IsWriter d (record { placed = placed_of d c; source = p }) below c there.0 = record {
          known = there.1;
          internal = there.2;
          placed = refl;
          alone = λ sources. none_writes d s.mode s.channels facts.0 c p sources below h.right lets;
          clear = subst (λ off. error_by d (calls.Channel c (WriteIb p)) off false ≡ None) facts.0 clear;
        } in
        record { at = (h, ((c, there.0, Is_this_frame, writer), facts.0)); closed = refl; fuel = omega (arith, size); room = omega arith }
    at_channel c ReadIb lets clear =
        let facts = clear_two (is_off s.mode) (is_internal_channel (channel_of d c)) errors.SpiUninit errors.SpiParamChannel clear in
        let there = internal_channel (channel_of d c) facts.1 in
        let size : (placed_of d c).channel.length ≡ length_by (channel_of d c) = ap (λ x. x.length) (has_channel d fits c there.0 there.1) ∙ sym (ap length_by there.1) in
        let reader : IsReader d (record { placed = placed_of d c; bank = 0; words = []; place = read.Pin (pinning (placed_of d c) Received) }) below c there.0 = record {
          known = there.1;
          internal = there.2;
          placed = refl;
          alone = none_reads d s.mode s.channels facts.0 c below h.right lets;
        } in
        record { at = (h, ((c, there.0, Is_this_frame, reader, clear, facts.0, refl), refl)); closed = refl; fuel = omega (arith, size); room = omega arith }
    at_channel c (SetupEb p q n) lets clear =
        let facts = clear_three (is_off s.mode) (is_external_channel (channel_of d c)) (is_wrong_length n (channel_of d c)) errors.SpiUninit errors.SpiParamChannel errors.SpiParamLength clear in
        let there = external_channel (channel_of d c) facts.1 in
        let size = length_right n there.0 (subst (λ k. is_wrong_length n k ≡ false) there.1 facts.2) in
        let few = (fits.channels c there.0 there.1).few in
        record {
          at = (h, (c, there.0, p, q, n, Is_this_frame, there.1, there.2, refl, ap (λ k. record { source = is_users p; destination = is_users q; length = k }) (below_byte n (omega (arith, size, few))), clear, facts.0, size.0, size.1));
          closed = refl;
          fuel = omega arith;
          room = omega arith;
        }

    on_channel : (c : ℕ) (call : ChannelCall) → Beside (spi_setting d) (Called (calls.Channel c call)) below → error_by d (calls.Channel c call) (is_off s.mode) false ≡ None → Looks (calls.Channel c call) (channel_begun d (c % 256) call)
    on_channel c call lets clear =
        let lt = known_channel c call clear in
        subst (λ n. Looks (calls.Channel c call) (channel_begun d n call)) (sym (below_byte c (omega (arith, lt)))) (at_channel c call lets clear)
      where
        known_channel : (c : ℕ) (call : ChannelCall) → error_by d (calls.Channel c call) (is_off s.mode) false ≡ None → c < 16
        known_channel c (SetupEb p q n) clear = let there = external_channel (channel_of d c) (clear_three (is_off s.mode) (is_external_channel (channel_of d c)) (is_wrong_length n (channel_of d c)) errors.SpiUninit errors.SpiParamChannel errors.SpiParamLength clear).1 in of_sixteen d c there.0 fits there.1
        known_channel c _ clear = let there = internal_channel (channel_of d c) (clear_two (is_off s.mode) (is_internal_channel (channel_of d c)) errors.SpiUninit errors.SpiParamChannel clear).1 in of_sixteen d c there.0 fits there.1

    -- the sequence is configured
    sequence_small : (q : ℕ) → is_some (sequence_of d q) ≡ true → q < 8
    sequence_small q e = let there = some_of (sequence_of d q) e in let lt = in_list d.sequences q there.0 there.1 in omega (arith, lt, fits.rows.2)

    job_begins : (j : ℕ) → error_by d (calls.Get (queries.JobResult j)) (is_off s.mode) false ≡ None → Looks (calls.Get (queries.JobResult j)) (query_begun d (mode_word s.mode) (queries.JobResult j))
    job_begins j clear =
        let facts = clear_two (is_off s.mode) (is_some (job_of d j)) errors.SpiUninit errors.SpiParamJob clear in
        let there = some_of (job_of d j) facts.1 in
        let small = in_list d.jobs j there.0 there.1 in
        let few = (fits.jobs j there.0 there.1).unit in
        let asking : IsJobQuery d (record { table = d; job = j % 16; unit = unit_by (job_of d j); place = job.Running }) j = record {
          job = there.0;
          known = there.1;
          table = refl;
          number = omega (arith, small, fits.rows.1);
          unit = ap unit_by there.1 ∙ omega (arith, few);
        } in
        record { at = (h, (j, (Is_this_frame, clear, facts.0), asking, tt)); closed = refl; fuel = omega arith; room = omega arith }

    query_begins : (x : Query) → Beside (spi_setting d) (Called (calls.Get x)) below → error_by d (calls.Get x) (is_off s.mode) false ≡ None → (m : Mode) → s.mode ≡ m → Looks (calls.Get x) (query_begun d (mode_word m) x)
    query_begins queries.Status lets clear Off e = record {
      told = answers (named SpiUninit);
      is = λ times. ap (λ m. Some (outcome s (answers (named (status_by (is_off m) (is_busy s)))))) e;
      tells = (refl, refl, refl);
      reset = asks_no (spi_machine d) (calls.Get queries.Status) (Some Act) (Some (outcome s (answers (named SpiUninit)))) refl;
      polls = refl;
    }
    query_begins (queries.JobResult j) lets clear m e = job_begins j clear
    query_begins (queries.SequenceResult q) lets clear m e =
        let facts = clear_two (is_off s.mode) (is_some (sequence_of d q)) errors.SpiUninit errors.SpiParamSeq clear in
        let lt = sequence_small q facts.1 in
        record { at = (h, (q, (Is_this_frame, clear, facts.0), lt, below_byte q (omega (arith, lt)))); closed = refl; fuel = omega arith; room = omega arith }
    query_begins (queries.HwUnitStatus u) lets clear m e =
        let facts = clear_three (is_off s.mode) true (nat_lt 1 u) errors.SpiUninit errors.SpiUninit errors.SpiParamUnit clear in
        let lt = is_past 1 u facts.2 in
        record { at = (h, (u, (Is_this_frame, clear, facts.0), omega (arith, lt), below_byte u (omega (arith, lt)))); closed = refl; fuel = omega arith; room = omega arith }
    query_begins _ lets clear _ e = record { at = (h, ((Is_this_frame, clear, ap is_off e, tt, tt), omega arith, none_before)); closed = refl; fuel = omega arith; room = omega arith }

    sequence_begins : (q : ℕ) (call : SequenceCall) → Beside (spi_setting d) (Called (calls.Sequence q call)) below → error_by d (calls.Sequence q call) (is_off s.mode) false ≡ None → Looks (calls.Sequence q call) (sequence_begun d (q % 256) call)
    sequence_begins q AsyncTransmit lets clear =
        let facts = clear_sequence (is_off s.mode) (is_wrong_sequence d q AsyncTransmit) errors.SpiUninit errors.SpiParamSeq clear in
        let kind = neither (is_some (sequence_of d q)) (is_sync_sequence d q) facts.1 in
        let lt = sequence_small q kind.0 in
        subst (λ n. Looks (calls.Sequence q AsyncTransmit) (sequence_begun d n AsyncTransmit)) (sym (below_byte q (omega (arith, lt)))) (request_begins d fits below chip w s q lt kind.1 facts.0 clear h)
    sequence_begins q SyncTransmit lets clear =
        let facts = clear_sequence (is_off s.mode) (is_wrong_sequence d q SyncTransmit) errors.SpiUninit errors.SpiParamSeq clear in
        let kind = neither (is_some (sequence_of d q)) (not (is_sync_sequence d q)) facts.1 in
        let lt = sequence_small q kind.0 in
        subst (λ n. Looks (calls.Sequence q SyncTransmit) (sequence_begun d n SyncTransmit)) (sym (below_byte q (omega (arith, lt)))) (record {
          at = begins_at d below chip w s q lt kind.0 (not-false (is_sync_sequence d q) kind.1) facts.0 lets h;
          closed = refl;
          fuel = begins_few d fits q kind.0;
          room = omega arith;
        })
    sequence_begins q Cancel lets clear =
        let facts = clear_sequence (is_off s.mode) (is_wrong_sequence d q Cancel) errors.SpiUninit errors.SpiParamSeq clear in
        let lt = sequence_small q (neither (is_some (sequence_of d q)) false facts.1).0 in
        subst (λ n. Looks (calls.Sequence q Cancel) (sequence_begun d n Cancel)) (sym (below_byte q (omega (arith, lt)))) (cancel_begins lt facts.0 (is_sync_sequence d q) refl)
      where
        -- one that is sent at once isn't pending
        none : is_sync_sequence d q ≡ true → is_pending q s.pending ≡ false
        none sync = none_any (is_of q) s.pending (λ p there. not_true (is_of q p) (λ own. let async = h.sound.carries.asked p there in let f = sym sync ∙ ap (is_sync_sequence d) (sym (is_number p.sequence q own)) ∙ async in cc))

        cancel_begins : q < 8 → is_off s.mode ≡ false → (b : Bool) → is_sync_sequence d q ≡ b → Looks (calls.Sequence q Cancel) (cancel_begun d q b)
        cancel_begins lt on true sync = record {
          told = tells_nothing;
          is = λ times. ap (λ y. Some (acts_by d s (calls.Sequence q Cancel) y)) clear ∙ ap (λ o. Some (cancelled d s o)) (found_none q s.pending (none sync));
          tells = (refl, refl, refl);
          reset = asks_no (spi_machine d) (calls.Sequence q Cancel) (Some Act) (Some (outcome s tells_nothing)) refl;
          polls = refl;
        }
        cancel_begins lt on false async = record {
          at = (h, (q, (Is_this_frame, lt, clear, on), record { async = async; sequence = refl; unit = refl; notes = refl }));
          closed = refl;
          fuel = omega arith;
          room = omega arith;
        }

    init_begins : below ≡ [] → error_by d calls.Init (is_off s.mode) false ≡ None → Looks calls.Init (begins d calls.Init (mode_word s.mode))
    init_begins e clear = by below e h
      where
        off_of : (off : Bool) → (if not off then Some errors.SpiAlreadyInitialized else None) ≡ None → off ≡ true
        off_of true f = refl
        off_of false f = absurd (cc)

        by : (hs : Reservations) → hs ≡ [] → SpiRepresents d hs chip w s → Decides (spi d) hs chip w s calls.Init (begins d calls.Init (mode_word s.mode))
        by [] f g = record { at = (g, ((Is_this_frame, refl, refl), off_of (is_off s.mode) clear)); closed = refl; fuel = init_within d fits; room = omega arith }
        by (x ∷ xs) f g = absurd (cc)

    -- where nothing is polled it has nothing to do
    nothing_polled : is_polling s.mode ≡ false → Declines (spi d) w s calls.MainFunctionHandling (record { answer = no_answer; owed = Nothing })
    nothing_polled e = record {
      told = tells_nothing;
      is = λ times. refl;
      tells = (refl, refl, refl);
      reset = refl;
      polls = ap (λ b. if b then 26 ∷ 27 ∷ [] else []) e;
    }

    mode_begins : (m : Mode) → s.mode ≡ m → Looks calls.MainFunctionHandling (begins d calls.MainFunctionHandling (mode_word m))
    mode_begins Polling e = main_begins d below chip w s (ap is_polling e) h
    mode_begins Off e = nothing_polled (ap is_polling e)
    mode_begins Interrupt e = nothing_polled (ap is_polling e)

    goes_on : (call : Call) → Beside (spi_setting d) (Called call) below → error_by d call (is_off s.mode) false ≡ None → Looks call (begins d call (mode_word s.mode))
    goes_on calls.Init lets clear = init_begins (whole_begins calls.Init refl lets) clear
    goes_on calls.DeInit lets clear = record { at = (h, ((Is_this_frame, clear, clear_one (is_off s.mode) errors.SpiUninit clear, whole_begins calls.DeInit refl lets, tt), omega arith, none_before)); closed = refl; fuel = omega arith; room = omega arith }
    goes_on (calls.SetAsyncMode m) lets clear = record { at = (h, ((Is_this_frame, clear, clear_one (is_off s.mode) errors.SpiUninit clear, whole_begins (calls.SetAsyncMode m) refl lets, refl), omega arith, none_before)); closed = refl; fuel = omega arith; room = omega arith }
    goes_on calls.MainFunctionHandling lets clear = mode_begins s.mode refl
    goes_on (calls.Channel c call) lets clear = on_channel c call lets clear
    goes_on (calls.Sequence q call) lets clear = sequence_begins q call lets clear
    goes_on (calls.Get x) lets clear = query_begins x lets clear s.mode refl

    look_by : (call : Call) → Beside (spi_setting d) (Called call) below → (e : Option ErrorName) → error_by d call (is_off s.mode) false ≡ e → Looks call (looked_by (record { call = call; table = d }) (mode_word s.mode) e)
    look_by call lets None e = goes_on call lets e
    look_by call lets (Some x) e = declines call x e

    -- the state word says whether the module is initialised
    off_word : (m : Mode) → (mode_word m == 0) ≡ is_off m
    off_word Off = refl
    off_word _ = refl

    looks : (call : Call) → Beside (spi_setting d) (Called call) below → Looks call (spi_looked (record { call = call; table = d }) (word_of chip STATE))
    looks call lets =
        subst (λ v. Looks call (spi_looked (record { call = call; table = d }) v)) (sym h.words.state)
        (subst (λ off. Looks call (looked_by (record { call = call; table = d }) (mode_word s.mode) (error_by d call off false))) (sym (off_word s.mode)) (look_by call lets (error_by d call (is_off s.mode) false) refl))

  -- ---- the laws

  module _ (fits : FitsSpi d) where
    bodies_right : AreEnding (spi_basis d) (spi d).bodies spi_ends
    bodies_right =
        let g = spi_basis d in
        let first = both_right g (both (init_bodies d) (whole_bodies d)) (query_bodies d) (both_right g (init_bodies d) (whole_bodies d) (init_right d fits) (whole_right d fits)) (query_right d fits) in
        let kept = both_ending g (write_bodies d) (read_bodies d) (λ k. spi_ends (Second (First (Second k)))) (write_right d fits) (read_right d fits) in
        let of_channel = both_ending g (set_up_bodies d) (both (write_bodies d) (read_bodies d)) (λ k. spi_ends (Second (First k))) (set_up_right d fits) kept in
        let of_sequence = both_right g (unit_bodies d) (both (cancel_bodies d) (sync_bodies d)) (units_right d fits) (both_right g (cancel_bodies d) (sync_bodies d) (cancel_right d fits) (sync_right d fits (windows_are_right d fits))) in
        both_ending g (firsts d) (lasts d) spi_ends first (both_ending g (both (set_up_bodies d) (both (write_bodies d) (read_bodies d))) (both (unit_bodies d) (both (cancel_bodies d) (sync_bodies d))) (λ k. spi_ends (Second k)) of_channel of_sequence)

    -- it reads no high half, and sets no output
    no_windows : (made : Move) → may_name d made ≡ true → is_windowed made ≡ is_wait made
    no_windows (Read (TimerHigh c)) e = cc
    no_windows (Write (PulseCommit c) v) e = cc
    no_windows _ e = cc

    none_windowed : (made : Move) → FrameMoves d made → is_windowed made ≡ is_wait made
    none_windowed made (inl (u, is, there)) = subst (λ m. is_windowed m ≡ is_wait m) (sym is) refl
    none_windowed made (inr e) = no_windows made (and_parts (may_name d made) (names_there made) e).0

    -- and it waits with the mask open
    waits_open : (k : SpiBody) → is_wait ((spi d).bodies.work_of k) ≡ true → is_closed ((spi d).bodies.assertion k) ≡ false
    waits_open (First (First (First k))) e = never _ (init_once k) e
    waits_open (First (First (Second k))) e = never _ (whole_once k) e
    waits_open (First (Second k)) e = never _ (query_once k) e
    waits_open (Second (First (First k))) e = never _ (set_up_once k) e
    waits_open (Second (First (Second (First k)))) e = never _ (write_once k) e
    waits_open (Second (First (Second (Second k)))) e = never _ (read_once k) e
    waits_open (Second (Second (First k))) e = never _ (unit_once k) e
    waits_open (Second (Second (Second (First k)))) e = never _ (cancel_once k) e
    waits_open (Second (Second (Second (Second k)))) e = sync_opens d fits (windows_are_right d fits) k e

    handled : (line : ℕ) (q : Bool) → is_some (handled_by d line q) ≡ q
    handled line true = refl
    handled line false = refl

    call_steps : (call : Call) → 7 + (steps_of d (Called call) - 7) ≤ steps_of d (Called call)
    call_steps (calls.Channel c (WriteIb p)) = omega arith
    call_steps (calls.Sequence q SyncTransmit) =
        elim (sequence_of d q) as (λ o. 7 + (sent_steps d o - 7) ≤ sent_steps d o)
        [ None ↦ omega arith | Some k ↦ omega arith ]
    call_steps _ = omega arith

    -- no frame leaves a unit waiting whose line it has served
    abbrev Leaves : World → Chip → SpiState → SpiBody → Origin Call → ℕ → FrameHistory → Done → Type 0
    Leaves w chip s k o y t n = LeavesBy d w s o t ((spi d).bodies.work_of k) y ((spi d).bodies.takes k (value_of chip ((spi d).bodies.work_of k))).1.event n

    unpolled : (w : World) (chip : Chip) (s : SpiState) (k : SpiBody) (o : Origin Call) (y : ℕ) (t : FrameHistory) (n : Done) → PollsNone o t.polled → Leaves w chip s k o y t n
    unpolled w chip s k o y t n none = leaves_unpolled d w s o t ((spi d).bodies.work_of k) y ((spi d).bodies.takes k (value_of chip ((spi d).bodies.work_of k))).1.event n none

    done : (below : Reservations) (chip : Chip) (w : World) (s : SpiState) (k : SpiBody) (o : Origin Call) (y : ℕ) (t : FrameHistory) (n : Done) → AssertedAt (spi_basis d) (spi d).bodies below chip w s k o t → ((spi d).bodies.takes k (value_of chip ((spi d).bodies.work_of k))).1.done ≡ Some n → Leaves w chip s k o y t n
    done below chip w s (First (First (First k))) o y t n h e = unpolled w chip s (First (First (First k))) o y t n (init_unpolled d below chip w s o t k h)
    done below chip w s (First (First (Second k))) o y t n h e = unpolled w chip s (First (First (Second k))) o y t n (whole_unpolled d below chip w s o t k h)
    done below chip w s (First (Second k)) o y t n h e = unpolled w chip s (First (Second k)) o y t n (query_unpolled d below chip w s o t k h)
    done below chip w s (Second (First (First k))) o y t n h e = unpolled w chip s (Second (First (First k))) o y t n (set_up_unpolled d below chip w s o t k h)
    done below chip w s (Second (First (Second (First k)))) o y t n h e = unpolled w chip s (Second (First (Second (First k)))) o y t n (write_unpolled d below chip w s o t k h)
    done below chip w s (Second (First (Second (Second k)))) o y t n h e = unpolled w chip s (Second (First (Second (Second k)))) o y t n (read_unpolled d below chip w s o t k h)
    done below chip w s (Second (Second (First k))) o y t n h e = units_left d fits below chip w s o t y n k h e
    done below chip w s (Second (Second (Second (First k)))) o y t n h e = unpolled w chip s (Second (Second (Second (First k)))) o y t n (cancel_unpolled d below chip w s o t k h)
    done below chip w s (Second (Second (Second (Second k)))) o y t n h e = unpolled w chip s (Second (Second (Second (Second k)))) o y t n (sync_unpolled d below chip w s o t fits k h)

    -- a read alone ends its frame itself
    stops : (below : Reservations) (chip : Chip) (w : World) (s : SpiState) (k : SpiBody) (o : Origin Call) (t : FrameHistory) (x : Answer) → AssertedAt (spi_basis d) (spi d).bodies below chip w s k o t → ended_at (spi d).bodies spi_ends k (value_of chip ((spi d).bodies.work_of k)) ≡ Some x → LeavesNone (spi_machine d) w s o t.polled t.served
    stops below chip w s (Second (First (Second (Second k)))) o t x h e = unpolled_left d w s o t.polled t.served (read_unpolled d below chip w s o t k h)
    stops below chip w s _ o t x h e = absurd (cc)

    pub spi_right : AreEndingServices (spi d) spi_ends
    spi_right = record {
      basis = basis_right d fits;
      bodies = bodies_right;
      windows = waiting_windows (spi d) bodies_right (λ k. refl) (λ o made m. none_windowed made (frame_moves d o made m)) waits_open;
      unseen = λ below chip w s k call at. tt;
      writes = no_duties (spi d) (λ k call writes. tt) (λ call. refl);
      starts = record { later = λ w s order rate line e. lets_none d w s order rate line e; done = done; stops = stops };
      looks = λ below chip w s call can lets h. looks fits below chip w s h call lets;
      own_word = λ o. may_store d fits STATE 0 (own_first d STATE (omega arith) (omega arith));
      word_there = omega arith;
      handled = λ line. handled line (is_used d line);
      enters = handlers d (λ line k. CanBegin (spi d) k (Entered line)) (handler_begins d);
      call_steps = λ call can. call_steps call;
      call_window = λ call can. omega arith;
      line_steps = handlers d (λ line k. 6 + (spi d).bodies.fuel k ≤ 144) (λ u lt async. omega arith);
    }

    -- whatever runs above them, the frames of the driver are right at each step
    pub lawful : IsLawful (services_driver (spi d)) (short_move STATE (spi d).bodies.work_of) (short_left spi_looked (spi d).bodies.takes) (ending_gave spi_looked (spi d).bodies.takes spi_ends)
    lawful = services_lawful (spi d) spi_right
