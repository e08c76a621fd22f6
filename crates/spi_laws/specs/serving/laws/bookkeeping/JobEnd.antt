-- Writes of a unit's registers, what they leave of the agreement; and a job's end, whose last word one of them acknowledges.
-- From words.FacingWords, spi_sequences: hardware.StableUnderHardware, spi_sequences: services.CancelRight and 4 more.
-- Used by services.ServeRight, sending.services.SendSteps, sending.bookkeeping.SelectsNext and 8 more.
use Rattle.std.proofs.Common.{◌≡◌, ◌≢◌, ◌+◌, ◌<◌, ◌++◌, ◌∙◌, if◌then◌else◌}
use Rattle.spi_laws.specs.serving.Terms
use Terms.{after_job, after_last, all_pending, AnswerName, ap, arith, Arrived, Bool, CANCELLED, cancelled_bit}
use Terms.{carried_at, CarriesAgrees, changed, Chip, chip_after, Contains, done_same, end_by, ended, FAILED, false}
use Terms.{find, FitsSpi, found_entry, get_or-set_other, get_or-set_same, goes_to_next, Going, has_done, has_further}
use Terms.{has_mark, idle, is_done, is_of, is_sync_unit, is_there, IsFound, IsLast, IsServed, job_notice, job_over}
use Terms.{jobs_by, jobs_list, jobs_of, length, length-set, length-take-le, List, MARKS, nat_lt, next_in, next_job}
use Terms.{NEXTS, None, notes, Notice, notices_by, one_pending, Option, outcome_with, Pending, pending_of}
use Terms.{PendingAgrees, refl, Reservations, result_by, Run, run_at, run_carried, Running, sends_as, SendsRight}
use Terms.{Sequence, sequence_after, sequence_code, sequence_notice, sequence_of, SequenceNext, Serial, SerialAck}
use Terms.{SerialWidth, served, served_by, Serves, set_unit, Some, spi_machine, SpiJobOk, SpiRepresents, SpiState}
use Terms.{SpiTable, stands-move, subst, sym, true, unit_at, unit_of, UnitAgrees, view, with_item, with_next_in}
use Terms.{with_run, word_of, World, Write, ℕ}
use Rattle.spi_laws.specs.serving.laws.words.FacingWords.{asked_by, ends_here, is_ready, run_is, runs_so, UnderWay}
use Rattle.spi_laws.specs.serving.laws.words.FacingWords.{unit_line, way}
use Rattle.chip_blocks.specs.units.Serials as serials
use Rattle.spi_machine.specs.Machine as machine
use Rattle.spi_machine.specs.Wiring as wiring
use Rattle.spi_sequences.specs.declared.service.serve.SequenceNext.TheVariants as courses

-- a unit among those of a chip, and the others
pub unit_same : (chip : Chip) (u : ℕ) (x : Serial) → length chip.serials.units ≡ 2 → u < 2 → unit_at (serials.with_unit chip.serials u x) u ≡ x
unit_same chip u x size few = get_or-set_same chip.serials.units u x idle (subst (λ n. u < n) (sym size) few)

pub unit_other : (chip : Chip) (u n : ℕ) (x : Serial) → n ≢ u → unit_at (serials.with_unit chip.serials u x) n ≡ unit_at chip.serials n
unit_other chip u n x ne = get_or-set_other chip.serials.units u n x idle ne

module _ (d : SpiTable) (below : Reservations) (chip : Chip) (w : World) (s : SpiState) (h : SpiRepresents d below chip w s) (u : ℕ) (few : u < 2) where
  -- a width is neither a unit's word nor its device
  width_unit : (v : ℕ) (r : Option Going) → UnitAgrees d (unit_at chip.serials u) (run_at s u) r → UnitAgrees d (record (unit_at chip.serials u) { width = v }) (run_at s u) r
  width_unit v None a = a
  width_unit v (Some g) a = a

  width_carried : (v n : ℕ) (r : Option Going) → CarriesAgrees d (unit_at chip.serials n) (run_carried (carried_at s n)) r → CarriesAgrees d (record (unit_at chip.serials n) { width = v }) (run_carried (carried_at s n)) r
  width_carried v n None a = a
  width_carried v n (Some g) a = a

  pub width_agrees : (v y : ℕ) → SpiRepresents d below (chip_after chip (Write (SerialWidth u) v) y) w s
  width_agrees v y = record {
    right = h.right;
    outside = stands-move chip w (Write (SerialWidth u) v) y h.outside;
    wired = h.wired;
    size = length-set chip.serials.units u _ ∙ h.size;
    sound = h.sound;
    going = h.going;
    nexts = h.nexts;
    units = set_unit (λ n x. is_sync_unit d n ≡ false → UnitAgrees d x (run_at s n) (h.going n)) chip.serials.units u new h.size (λ lt async. width_unit v (h.going u) (h.units u lt async)) (λ n lt ne. h.units n lt);
    sends = set_unit (λ n x. is_sync_unit d n ≡ true → CarriesAgrees d x (run_carried (carried_at s n)) (h.going n)) chip.serials.units u new h.size (λ lt sync. width_carried v u (h.going u) (h.sends u lt sync)) (λ n lt ne. h.sends n lt);
    sending = sends_as d chip (chip_after chip (Write (SerialWidth u) v) y) w w h.going h.going s s (λ n g lt sync is. refl) (λ n g lt sync is. set_unit (λ k x. x.select ≡ (unit_at chip.serials k).select) chip.serials.units u new h.size (λ less. refl) (λ k less ne. refl) n lt) (λ n g i x k lt sync is there known. refl) (λ n o knows. knows) below h.sending;
    carriers = h.carriers;
    words = h.words;
    set_ups = h.set_ups;
    sizes = h.sizes;
    arrays = λ c. record { source = (h.arrays c).source; destination = (h.arrays c).destination };
    lines = h.lines;
    owed = h.owed;
  }
    where
      new : Serial
      new = record (unit_at chip.serials u) { width = v }

  -- and it is the unit's
  pub width_is : (v y : ℕ) → (unit_at (chip_after chip (Write (SerialWidth u) v) y).serials u).width ≡ v
  width_is v y = ap (λ x. x.width) (unit_same chip u (record (unit_at chip.serials u) { width = v }) h.size few)

-- ---- the end of a job

-- how a sequence goes on after its job, by how it ends with it
abbrev pub course_by : (nexts sequence next : ℕ) → Option AnswerName → SequenceNext
course_by v q n None = courses.Further (with_next_in v q (n + 1))
course_by v q n (Some x) = courses.Ends (sequence_code x)

-- the notices of the end
abbrev pub end_notices : SpiTable → Pending → Option AnswerName → List Notice
end_notices d p None = job_notice d (next_job d p)
end_notices d p (Some x) = job_notice d (next_job d p) ++ sequence_notice d p.sequence

pub jobs_count : (d : SpiTable) → FitsSpi d → (q : ℕ) → (jobs_list d q).count ≡ length (jobs_of d q)
jobs_count d fits q = by (sequence_of d q) refl
  where
    by : (o : Option Sequence) → sequence_of d q ≡ o → (wiring.jobs_by o).count ≡ length (jobs_by o)
    by None e = refl
    by (Some k) e = let few = (fits.sequences q k e).few in let row = (fits.sequences q k e).row in sym (length-take-le k.jobs.count k.jobs.numbers (omega (arith, few, row)))

module _ (d : SpiTable) (fits : FitsSpi d) (below : Reservations) (chip : Chip) (w : World) (s : SpiState) (h : SpiRepresents d below chip w s) (u : ℕ) (few : u < 2) (a : Arrived) (i : IsLast d (word_of chip) s w.now u a) (y : ℕ) where
  abbrev pub by : IsServed d (word_of chip) s w.now u a.served
  by = i.arrived.taken.served

  abbrev pub under : UnderWay d below chip w s h u by.done.run
  under = way d fits below chip w s h u few a.served by

  abbrev pub run : Run
  run = by.done.run

  -- its pending sequence
  abbrev pub entry : Pending
  entry = under.job.pending

  pub sequence_is : a.served.run.sequence ≡ entry.sequence
  sequence_is = ap (λ (r : Running). r.sequence) (run_is d fits below chip w s h u few a.served by)

  pub job_is : a.served.run.job ≡ next_job d entry
  job_is = ap (λ (r : Running). r.job) (run_is d fits below chip w s h u few a.served by)

  -- nothing begins on the wire
  pub ends_sends : SendsRight chip None (Write (SerialAck u) 1)
  ends_sends = tt

  -- and the unit has no word any more
  pub ends_unit : UnitAgrees d (unit_at (chip_after chip (Write (SerialAck u) 1) y).serials u) None None
  ends_unit = (ap (λ (x : Serial). x.word) (unit_same chip u (serials.acknowledged chip.serials.time (unit_at chip.serials u)) h.size few) ∙ ap (λ q. (if q then record (unit_at chip.serials u) { received = serials.received (unit_at chip.serials u) chip.serials.time; word = None } else unit_at chip.serials u).word) done, refl)
    where
      done : serials.is_done (unit_at chip.serials u) chip.serials.time ≡ true
      done =
          let time : chip.serials.time ≡ w.now = h.outside.together.serials ∙ h.outside.now in
          ap (λ o. serials.has_ended o chip.serials.time) under.stands ∙ ap (λ t. serials.is_done_at under.word t) time ∙ done_same under.word under.transfer w.now under.like.start ∙ ap (λ (r : Run). is_done w.now r.transfer) (sym under.runs) ∙ by.done.done

  -- of a unit that starts jobs of pending sequences
  module _ (async : is_sync_unit d u ≡ false) where
    -- which is one that the unit starts jobs of
    there : Contains s.pending entry
    there = (asked_by d fits below chip w s h u few async under.job under.is).0

    pub runs : run_at s u ≡ Some run
    runs = sym (runs_so d fits below chip w s h u few async) ∙ by.done.is

    said : PendingAgrees (word_of chip) entry
    said = (h.words.on under.on).sequences.pending entry there

    -- how it ends, where it does
    abbrev pub ending : Option AnswerName
    ending = end_by entry.cancelled run.transfer.failed (has_further d entry)

    -- the frame has loaded how it goes on
    pub course_is : after_job d a.served (has_mark (word_of chip MARKS) (cancelled_bit a.served.run.sequence)) (word_of chip NEXTS) ≡ course_by (word_of chip NEXTS) entry.sequence entry.next ending
    course_is =
        ap (λ q. after_of q (has_mark (word_of chip MARKS) (cancelled_bit q)) a.served.failed (next_in (word_of chip NEXTS) q)) sequence_is
        ∙ ap (λ c. after_of entry.sequence c a.served.failed (next_in (word_of chip NEXTS) entry.sequence)) said.cancelled
        ∙ ap (λ f. after_of entry.sequence entry.cancelled f (next_in (word_of chip NEXTS) entry.sequence)) (sym by.done.failed)
        ∙ ap (λ n. after_of entry.sequence entry.cancelled run.transfer.failed n) said.next
        ∙ ap (λ k. after_by entry.cancelled run.transfer.failed (nat_lt (entry.next + 1) k)) (jobs_count d fits entry.sequence)
        ∙ each entry.cancelled run.transfer.failed (has_further d entry)
      where
        after_by : (c f more : Bool) → SequenceNext
        after_by c f more = if c then courses.Ends CANCELLED else if f then courses.Ends FAILED else if more then courses.Further (with_next_in (word_of chip NEXTS) entry.sequence (entry.next + 1)) else courses.Ends 0

        after_of : (q : ℕ) (c f : Bool) (n : ℕ) → SequenceNext
        after_of q c f n = if c then courses.Ends CANCELLED else if f then courses.Ends FAILED else if nat_lt (n + 1) (jobs_list d q).count then courses.Further (with_next_in (word_of chip NEXTS) q (n + 1)) else courses.Ends 0

        each : (c f more : Bool) → after_by c f more ≡ course_by (word_of chip NEXTS) entry.sequence entry.next (end_by c f more)
        each false false true = refl
        each _ _ _ = refl

    -- ---- the event

    found : IsFound entry.sequence s.pending
    found = found_entry entry.sequence s.pending (is_there d fits below chip w s h s.pending entry there)

    pending_is : pending_of s run ≡ Some entry
    pending_is = ap (λ (z : Run). find (is_of z.sequence) s.pending) under.runs ∙ found.is ∙ ap (λ z. Some z) (one_pending d fits below chip w s h found.entry entry (all_pending (view s) found.entry found.there) (all_pending (view s) entry there) found.of)

    -- the unit is free, and the job has its result
    abbrev pub over_state : SpiState
    over_state = record (with_run (after_last s run run.transfer.failed) u None) { job_results = with_item SpiJobOk (after_last s run run.transfer.failed).job_results (next_job d entry) (result_by run.transfer.failed) }

    abbrev pub state2 : Option AnswerName → SpiState
    state2 None = record over_state { pending = changed entry.sequence goes_to_next over_state.pending }
    state2 (Some x) = ended d over_state entry (entry.next + 1) x

    after_is : (o : Option AnswerName) → sequence_after d over_state entry o ≡ outcome_with (state2 o) (notes (end_notices d entry o)) None
    after_is None = refl
    after_is (Some x) = refl

    told_is : (o : Option AnswerName) (c : SequenceNext) → c ≡ course_by (word_of chip NEXTS) entry.sequence entry.next o → notices_by d a.served c ≡ end_notices d entry o
    told_is o c e = ap (notices_by d a.served) e ∙ each o
      where
        each : (o : Option AnswerName) → notices_by d a.served (course_by (word_of chip NEXTS) entry.sequence entry.next o) ≡ end_notices d entry o
        each None = ap (job_notice d) job_is
        each (Some x) = ap (λ n. job_notice d n ++ sequence_notice d a.served.run.sequence) job_is ∙ ap (λ q. job_notice d (next_job d entry) ++ sequence_notice d q) sequence_is

    pub ends_is : (spi_machine d).happens w s (Serves (26 + u) y) ≡ Some (outcome_with (state2 ending) (notes (end_notices d entry ending)) None)
    ends_is =
        ap (λ q. if q then Some (served d w s (unit_of (26 + u)) y (machine.run_of s (unit_of (26 + u)))) else None) (is_ready d fits below chip w s h u few under.on (ap (has_done w.now) runs ∙ by.done.done))
        ∙ ap (λ o. Some (served d w s o y (machine.run_of s o))) (unit_line u few)
        ∙ ap (λ r. Some (served d w s (Some u) y r)) runs
        ∙ ap (λ q. Some (served_by d w s u y run q)) (ends_here d fits below chip w s h u few a i)
        ∙ ap (λ o. Some (job_over d (after_last s run run.transfer.failed) u run.transfer.failed o)) pending_is
        ∙ ap (λ z. Some z) (after_is ending)

    -- what it tells is what the frame will tell
    pub ends_told : (c : SequenceNext) → c ≡ after_job d a.served (has_mark (word_of chip MARKS) (cancelled_bit a.served.run.sequence)) (word_of chip NEXTS) → end_notices d entry ending ≡ notices_by d a.served c
    ends_told c e = sym (told_is ending c (e ∙ course_is))
