-- The first word of a job begins for a call that waits: the event of its first job, and the word on the wire.
-- From spi_sequences: words.JobPlaces, serving.words.FacingWords, bookkeeping.CarriedOut and 6 more.
-- Used by services.SendGoesOn, services.SendStarts.
use Rattle.std.proofs.Common.{◌≡◌, ◌+◌, ◌-◌, ◌%◌, ◌^◌, ◌<◌, ◌==◌, ◌&&◌, ◌||◌, ◌∷◌, ◌∙◌, if◌then◌else◌}
use Rattle.spi_laws.specs.sending.Terms
use Terms.{ap, arith, Arrived, as_begun, as_requested, Bool, Called, carried_at, carried_for, carries_job, Carrying}
use Terms.{Chip, ends_here, false, FitsSpi, fresh_history, goes_on, goes_to_next, happens, has_further, is_done}
use Terms.{is_of, is_off, is_some, is_sync_unit, IsLast, IsServed, job_at_place, job_done, job_of, job_place, jobs_of}
use Terms.{JobWord, length, List, may_go_on, min, nat_lt, next_at, next_job, None, not, Pending, Position}
use Terms.{refl, Reservations, Run, same_number, select_by, select_of, sends_on, SendsRight, sent_at, sent_first}
use Terms.{sent_from, sent_on, sequence_begun, SerialData, slice_index_or, Some, SpiRepresents, SpiState, SpiTable}
use Terms.{start_by, start_of, Starts, subst, sym, true, UnderWay, unit_at, unit_few, unit_named, unit_of_sequence}
use Terms.{word_of, World, Write, ℕ}
use Rattle.spi_laws.specs.sending.Sending.{device_at, first_of, IsSender}
use Rattle.spi_laws.specs.sending.laws.bookkeeping.CarriedOut as carried_out
use Rattle.spi_laws.specs.sending.laws.services.SendFree as free_laws
use Rattle.spi_laws.specs.sending.laws.{bookkeeping.HeldWord.{sending_of}}
use Rattle.spi_laws.specs.serving.laws.services.JobLeft as left
use Rattle.spi_laws.specs.sending.laws.{services.SendFurther.{number_named}, services.SendWindows.{asks}}
use Rattle.mcal_base.specs.declared.error_name.ErrorName.TheVariants as errors
use Rattle.mcal_base.specs.facts.Numbers.{lt_from}

-- ---- the word on the wire

module _ (d : SpiTable) (fits : FitsSpi d) (held : Reservations) (chip : Chip) (w : World) (s : SpiState) (h : SpiRepresents d held chip w s) (on : is_off s.mode ≡ false) (q u n x : ℕ) (lt : n < length (jobs_of d q)) (p : Pending) (sequence : p.sequence ≡ q) (next : p.next ≡ n)
    (sent : x ≡ (first_of d s (job_at_place d q n)).sent) (select : (unit_at chip.serials u).select ≡ device_at d q n) (width : (unit_at chip.serials u).width ≡ (first_of d s (job_at_place d q n)).width) where
  abbrev word : JobWord
  word = first_of d s (job_at_place d q n)

  -- the job of an entry of this sequence that has come so far
  pub job_is : next_job d p ≡ job_at_place d q n
  job_is = ap (λ i. slice_index_or (jobs_of d i) p.next 0) sequence ∙ ap (λ i. slice_index_or (jobs_of d q) i 0) next ∙ sym (job_place d fits q n lt)

  least : min word.width 16 ≡ word.width
  least = let le = free_laws.first_narrow d fits held chip w s h on q n lt in omega (arith, le)

  pub first_sends : SendsRight chip (Some (as_begun d u (Some p) word)) (Write (SerialData u) x)
  first_sends = record {
    on = refl;
    word = ap (λ i. x % 2 ^ min i 16) width ∙ ap (λ i. x % 2 ^ i) least ∙ ap (λ z. z % 2 ^ word.width) sent ∙ free_laws.first_masked d fits held chip w s h on q n lt;
    width = ap (λ i. min i 16) width ∙ least;
    select = select ∙ ap (λ j. select_of (select_by (job_of d j))) (sym job_is);
  }

-- ---- the event of the first job

module _ (d : SpiTable) (fits : FitsSpi d) (below : Reservations) (chip : Chip) (w : World) (s : SpiState) (h : SpiRepresents d below chip w s) (q u n : ℕ) (at : Position) (bs : List ℕ) (is : IsSender d d q u bs below (Called (asks q)) fresh_history)
    (free : carried_at s u ≡ None) (zeroth : n ≡ 0) (on : is_off s.mode ≡ false) (y : ℕ) where
  few : u < 2
  few = subst (λ i. i < 2) (sym is.unit) (unit_few d fits q)

  sync : is_sync_unit d u ≡ true
  sync = ap (is_sync_unit d) is.unit ∙ is.sync

  pub first_is : happens d w s (Starts (unit_named u) (Some (asks q)) y) ≡ Some (carries_job d w (sequence_begun d s q) u y (as_requested d s q))
  first_is =
      ap (λ o. start_of d w s o (Some (asks q)) y) (number_named u few) ∙ ap (λ b. if b then sent_at d w s (Some u) y (Some q) else start_by d w s (Some u) y (next_at d s (Some u))) sync
      ∙ ap (λ b. if b then sent_from d w s u y q (carried_for d s q) else None) (ap (λ z. unit_of_sequence d q == z) is.unit ∙ same_number (unit_of_sequence d q))
      ∙ ap (sent_from d w s u y q) (free_laws.carried_is d fits below chip w s h q u n at bs is zeroth on y (λ i. false) ∙ free)
      ∙ ap (sent_first d w s u y q) (free_laws.busy_error d fits below chip w s h q u n at bs is zeroth on y (λ i. false) ∙ ap (λ o. if is_some o then Some errors.SpiSeqInProcess else None) free)

-- ---- that of a further job

module _ (d : SpiTable) (fits : FitsSpi d) (below : Reservations) (chip : Chip) (w : World) (s : SpiState) (q u n : ℕ) (bs : List ℕ) (r : Arrived) (is : IsSender d d q u bs below (Called (asks q)) fresh_history)
    (h : SpiRepresents d (sending_of u q (n - 1) r.served.at bs (Some false) (device_at d q n) ∷ below) chip w s) (last : IsLast d (word_of chip) s w.now u r) (good : r.served.failed ≡ false) (some : 0 < n) (lt : n < length (jobs_of d q)) (y : ℕ) where
  abbrev held : Reservations
  held = sending_of u q (n - 1) r.served.at bs (Some false) (device_at d q n) ∷ below

  abbrev pub small : u < 2
  small = h.sending.0.few

  abbrev by : IsServed d (word_of chip) s w.now u r.served
  by = left.served d fits held chip w s h u small r last y

  abbrev run : Run
  run = by.done.run

  abbrev under : UnderWay d held chip w s h u run
  under = left.under d fits held chip w s h u small r last y

  abbrev its : Pending
  its = under.job.pending

  abbrev pub carrying : Carrying
  carrying = record { entry = its; run = run }

  further : has_further d its ≡ true
  further =
      ap (λ z. nat_lt (z + 1) (length (jobs_of d its.sequence))) (carried_out.next_is d fits below chip w s u q (n - 1) r.served.at bs (Some false) (device_at d q n) h run by.done.is under)
      ∙ ap (λ z. nat_lt (n - 1 + 1) (length (jobs_of d z))) (carried_out.sequence_is d fits below chip w s u q (n - 1) r.served.at bs (Some false) (device_at d q n) h run by.done.is under)
      ∙ lt_from (n - 1 + 1) (length (jobs_of d q)) (omega (arith, some, lt))

  may_go : may_go_on d w carrying q ≡ true
  may_go =
      all_three (is_of q its) (is_done w.now run.transfer) (sends_on d carrying) (ap (λ z. z == q) (carried_out.sequence_is d fits below chip w s u q (n - 1) r.served.at bs (Some false) (device_at d q n) h run by.done.is under) ∙ same_number q) by.done.done
      (ap (λ b. b || (not run.transfer.failed && has_further d its)) (ends_here d fits held chip w s h u small r last) ∙ ap (λ b. not b && has_further d its) (by.done.failed ∙ good) ∙ further)
    where
      all_three : (x y z : Bool) → x ≡ true → y ≡ true → z ≡ true → (x && y && z) ≡ true
      all_three true true true e f g = refl
      all_three _ _ _ e f g = absurd (cc)

  pub further_is : happens d w s (Starts (unit_named u) (Some (asks q)) y) ≡ Some (carries_job d w (job_done d s carrying false) u y (goes_to_next its))
  further_is =
      ap (λ o. start_of d w s o (Some (asks q)) y) (number_named u small) ∙ ap (λ b. if b then sent_at d w s (Some u) y (Some q) else start_by d w s (Some u) y (next_at d s (Some u))) h.sending.0.sync
      ∙ ap (λ b. if b then sent_from d w s u y q (carried_for d s q) else None) (ap (λ z. unit_of_sequence d q == z) is.unit ∙ same_number (unit_of_sequence d q))
      ∙ ap (sent_from d w s u y q) (carried_out.carried_there d fits below chip w s u q (n - 1) r.served.at bs (Some false) (device_at d q n) h run by.done.is under is h.right.0.1)
      ∙ ap (λ b. if b then Some (sent_on d w s u y carrying (goes_on run)) else None) may_go ∙ ap (λ b. Some (sent_on d w s u y carrying b)) (ends_here d fits held chip w s h u small r last)
