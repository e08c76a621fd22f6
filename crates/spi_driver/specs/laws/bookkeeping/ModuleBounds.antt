-- How many words and steps the module has at most.
-- Used by bookkeeping.KeepsToModule, proofs/frames/SpiDriverCaller/call_steps/Answers.
use Rattle.std.proofs.Common.{◌≡◌, ◌+◌, ◌*◌, ◌≤◌, if◌then◌else◌}
use Rattle.spi_driver.specs.Terms
use Terms.{All, ap, arith, Call, call_steps, Channel, channel_of, channels_by}
use Terms.{channel_steps, ChannelCall, count_by-le-length, DeInit, false, FitsSpi, get_or_default, Init}
use Terms.{internal_by, internal_words, is_some, Job, job_of, job_steps, jobs_by, length, length-take-le, length_by}
use Terms.{None, objects, OfChannel, Option, own_words, refl, sent_steps, sequence_of}
use Terms.{SetupEb, slice_index_or, Some, SpiTable, subst, sum_by, sum_by-le, SyncTransmit}
use Terms.{true, whole_steps, ℕ}
use Rattle.spi_machine.specs.declared.call.Call.TheVariants.{Sequence}
use Rattle.spi_machine.specs.declared.table.Sequence.{Sequence as SpiSequenceRow}

module _ (d : SpiTable) (fits : FitsSpi d) where
  length_few : (o : Option Channel) (c : ℕ) → channel_of d c ≡ o → length_by o ≤ 64
  length_few None c e = omega arith
  length_few (Some k) c e = (fits.channels c k e).few

  internal_few : (o : Option Channel) → length_by o ≤ 64 → internal_by o ≤ 64
  internal_few None few = omega arith
  internal_few (Some k) few =
      elim k.internal as (λ q. (if q then k.length else 0) ≤ 64)
      [ true ↦ few | false ↦ omega arith ]

  pub all_few : All (λ (o : Option Channel). length_by o ≤ 64) d.channels
  all_few = λ i o lt. subst (λ x. length_by x ≤ 64) (get_or_default d.channels i None o lt) (length_few (channel_of d i) i refl)

  objects_few : objects d ≤ 40
  objects_few =
      let channels = count_by-le-length is_some d.channels in
      let jobs = count_by-le-length is_some d.jobs in
      let sequences = count_by-le-length is_some d.sequences in
      omega (arith, channels, jobs, sequences, fits.rows.0, fits.rows.1, fits.rows.2)

  internal_words_few : internal_words d ≤ 1024
  internal_words_few =
      let words = sum_by-le internal_by 64 d.channels (λ i o lt. internal_few (slice_index_or d.channels i o) (all_few i o lt)) in
      let at_most : length d.channels * 64 ≡ 1024 = ap (λ n. n * 64) fits.rows.0 in
      omega (arith, words, at_most)

  -- its words are among the 8,192 of a module
  pub own_few : own_words d ≤ 8192
  own_few = omega (arith, objects_few, internal_words_few)

  whole_few : whole_steps d ≤ 10176
  whole_few = omega (arith, objects_few, internal_words_few)

  channel_steps_few : (o : Option Channel) (call : ChannelCall) → length_by o ≤ 64 → channel_steps o call ≤ 304
  channel_steps_few o (SetupEb p q n) few = omega arith
  channel_steps_few o _ few = omega (arith, few)

  -- of a sequence that is sent at once: each job has at most four channels of 64 words, and a sequence 16 jobs
  job_few : (j : ℕ) → job_steps d j ≤ 4160
  job_few j = row_few (job_of d j) refl
    where
      row_few : (o : Option Job) → job_of d j ≡ o → 64 + 16 * sum_by (λ c. length_by (channel_of d c)) (channels_by o) ≤ 4160
      row_few None e = omega arith
      row_few (Some x) e =
          let row = (fits.jobs j x e).row in
          let few = (fits.jobs j x e).few in
          let long = length-take-le x.channels.count x.channels.numbers (omega (arith, row, few)) in
          let words = sum_by-le (λ c. length_by (channel_of d c)) 64 (channels_by (Some x)) (λ i o lt. length_few (channel_of d (slice_index_or (channels_by (Some x)) i o)) (slice_index_or (channels_by (Some x)) i o) refl) in
          omega (arith, words, long, few)

  sent_few : (q : ℕ) → sent_steps d (sequence_of d q) ≤ 66656
  sent_few q = row_few (sequence_of d q) refl
    where
      row_few : (o : Option SpiSequenceRow) → sequence_of d q ≡ o → sent_steps d o ≤ 66656
      row_few None e = omega arith
      row_few (Some k) e =
          let row = (fits.sequences q k e).row in
          let few = (fits.sequences q k e).few in
          let long = length-take-le k.jobs.count k.jobs.numbers (omega (arith, row, few)) in
          let steps = sum_by-le (job_steps d) 4160 (jobs_by (Some k)) (λ i o lt. job_few (slice_index_or (jobs_by (Some k)) i o)) in
          omega (arith, steps, long, few)

  -- no call has more steps than the longest of all modules
  pub steps_few : (call : Call) → call_steps d call ≤ 66656
  steps_few Init = let few = whole_few in omega (arith, few)
  steps_few DeInit = let few = whole_few in omega (arith, few)
  steps_few (OfChannel c call) = let few = channel_steps_few (channel_of d c) call (length_few (channel_of d c) c refl) in omega (arith, few)
  steps_few (Sequence q SyncTransmit) = sent_few q
  steps_few _ = omega arith
