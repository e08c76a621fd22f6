-- A call that sends a sequence looks whether its unit is free: it finds an error, or the first word of its first job.
-- From spi_sequences: words.JobPlaces, services.SendAround, spi_sequences: services.SyncSteps and 7 more.
-- Used by services.SendSteps, services.SendFirst, services.SendGoesOn, services.SendStarts.
use Rattle.std.proofs.Common.{◌≡◌, ◌%◌, ◌^◌, ◌<◌, ◌≤◌, ◌==◌, ◌||◌, [], ◌∙◌, if◌then◌else◌}
use Rattle.spi_laws.specs.sending.Terms
use Terms.{act_of, answer_refused, ap, arith, BodyTaken, Bool, Call, Called, carried_at, carried_for, CarriesAgrees}
use Terms.{Carrying, Channel, channel_at_place, channel_of, channels_of, Chip, ENotOk, entry_carried, error_by}
use Terms.{error_of_sending, error_told, false, finding_first, first_is, first_placed, first_there, first_word}
use Terms.{FitsSpi, found, fresh_history, Going, GoingAgrees, has_channel, is_number, is_of, is_off, is_sent, is_some}
use Terms.{is_sync_sequence, is_sync_unit, job_at_place, job_place, job_unit, job_words, jobs_in, jobs_list, jobs_of}
use Terms.{length, List, list_any, Load, LooksAt, may_end, mod-mod, named, next_job, no_word, None, not, not_sent}
use Terms.{not_true, Option, other_number, outcome, owed_error, owing, part_at, Pending, placed_of, Position, refl}
use Terms.{reporting, requested, Reservations, run_carried, RunAgrees, running_word, sending_ends, sent, Sequence}
use Terms.{sequence_of, slice_get, slice_index_or, Some, some_or_none, spi_basis, spi_machine, SpiRepresents}
use Terms.{SpiState, SpiSyncTransmit, SpiTable, subst, sym, sync_finds, sync_frees, SyncBody, SyncPlace, SyncTransmit}
use Terms.{tells_error, TellsAs, true, unit_at, unit_few, unit_of_sequence, whether_as, will_give, word_of, Works}
use Terms.{World, ℕ}
use Rattle.spi_laws.specs.sending.Sending.{IsSeeking, IsSender}
use Rattle.spi_laws.specs.sending.laws.services.SendAround.{body, V}
use Rattle.spi_laws.specs.serving.laws.bookkeeping.JobEnd.{jobs_count}
use Rattle.mcal_base.specs.declared.error_name.ErrorName.TheVariants as errors
use Rattle.word_shapes.specs.declared.jobs.finding.Find.TheVariants as finds
use Rattle.spi_machine.specs.declared.call.Call.TheVariants as calls
use Rattle.spi_sequences.specs.declared.service.sync.SyncPlace.TheVariants as place

-- ---- the first word of a job

-- the job at a place of a sequence, on the sequence's unit
pub job_first : (d : SpiTable) → FitsSpi d → (q n : ℕ) → n < length (jobs_of d q) → (b : ℕ) × (k : Channel) × (slice_get (channels_of d (job_at_place d q n)) 0 ≡ Some b) × (channel_of d b ≡ Some k)
job_first d fits q n lt =
    subst (λ j. (b : ℕ) × (k : Channel) × (slice_get (channels_of d j) 0 ≡ Some b) × (channel_of d b ≡ Some k)) (sym (job_place d fits q n lt))
    (let first = first_there d fits (unit_of_sequence d q) (entry_at q n) (job_unit d fits q n lt) in (first.0, first.1, first.2.at, first.2.known))
  where
    entry_at : (sequence next : ℕ) → Pending
    entry_at q n = record (requested q 0 []) { next = n }

module _ (d : SpiTable) (fits : FitsSpi d) (held : Reservations) (chip : Chip) (w : World) (s : SpiState) (h : SpiRepresents d held chip w s) (on : is_off s.mode ≡ false) (q n : ℕ) (lt : n < length (jobs_of d q)) where
  abbrev entry : Pending
  entry = record (requested q 0 []) { next = n }

  abbrev first : (b : ℕ) × (k : Channel) × (slice_get (channels_of d (job_at_place d q n)) 0 ≡ Some b) × (channel_of d b ≡ Some k)
  first = job_first d fits q n lt

  at_entry : slice_get (channels_of d (next_job d entry)) 0 ≡ Some first.0
  at_entry = ap (λ j. slice_get (channels_of d j) 0) (sym (job_place d fits q n lt)) ∙ first.2

  -- the channel at the first place of the job
  pub first_channel : channel_at_place d (job_at_place d q n) 0 ≡ placed_of d first.0
  first_channel = ap (λ j. channel_at_place d j 0) (job_place d fits q n lt) ∙ first_placed d (unit_of_sequence d q) entry (job_unit d fits q n lt) first.0 at_entry

  looks_first : (b : ℕ) (k : Channel) → channel_of d b ≡ Some k → LooksAt d b k (finding_first (placed_of d b))
  looks_first b k known = whether_as (placed_of d b).channel.internal (λ i. LooksAt d b k (if i then finds.Newest (placed_of d b) else finds.SetUp (placed_of d b)))
      (λ e. (refl, sym (ap (λ z. z.internal) (has_channel d fits b k known)) ∙ e))
      (λ e. refl)

  -- its first word is that which a look at the channel gives, of the channel's width
  pub first_word_is : slice_index_or (job_words d s (job_at_place d q n)) 0 no_word ≡ first_word d s entry
  first_word_is = ap (λ j. slice_index_or (job_words d s j) 0 no_word) (job_place d fits q n lt)

  pub seeks : (u : ℕ) (at : Position) (bs : List ℕ) (p : SyncPlace) → IsSeeking d (body d q u n at bs p) (finding_first (channel_at_place d (job_at_place d q n) 0)) (word_of chip) s
  seeks u at bs p = record {
    number = first.0;
    channel = first.1;
    first = first.2;
    known = first.3;
    looks = subst (λ z. LooksAt d first.0 first.1 (finding_first z)) (sym first_channel) (looks_first first.0 first.1 first.3);
    will =
        ap (λ z. will_give (word_of chip) (finding_first z)) first_channel ∙ found d fits held chip w s h on first.0 first.1 first.3
        ∙ sym (ap (λ z. z.sent) (first_is d fits held chip w s h on first.0 first.1 first.3 entry at_entry)) ∙ ap (λ z. z.sent) (sym first_word_is);
  }

  pub first_width : (channel_at_place d (job_at_place d q n) 0).channel.width ≡ (slice_index_or (job_words d s (job_at_place d q n)) 0 no_word).width
  first_width =
      ap (λ z. z.channel.width) first_channel ∙ ap (λ z. z.width) (has_channel d fits first.0 first.1 first.3)
      ∙ sym (ap (λ z. z.width) (first_is d fits held chip w s h on first.0 first.1 first.3 entry at_entry)) ∙ ap (λ z. z.width) (sym first_word_is)

  -- and no wider than sixteen bits
  pub first_narrow : (slice_index_or (job_words d s (job_at_place d q n)) 0 no_word).width ≤ 16
  first_narrow = subst (λ i. i ≤ 16) (sym (ap (λ z. z.width) (first_word_is ∙ first_is d fits held chip w s h on first.0 first.1 first.3 entry at_entry))) (fits.channels first.0 first.1 first.3).narrow

  -- what is sent is of its width already
  pub first_masked : (slice_index_or (job_words d s (job_at_place d q n)) 0 no_word).sent % 2 ^ (slice_index_or (job_words d s (job_at_place d q n)) 0 no_word).width ≡ (slice_index_or (job_words d s (job_at_place d q n)) 0 no_word).sent
  first_masked = subst (λ z. z.sent % 2 ^ z.width ≡ z.sent) (sym (first_word_is ∙ first_is d fits held chip w s h on first.0 first.1 first.3 entry at_entry)) (mod-mod (slice_index_or (part_at d s first.0).values 0 0) (2 ^ first.1.width))

-- ---- the look

module _ (d : SpiTable) (fits : FitsSpi d) (below : Reservations) (chip : Chip) (w : World) (s : SpiState) (h : SpiRepresents d below chip w s) (q u n : ℕ) (at : Position) (bs : List ℕ) (is : IsSender d d q u bs below (Called (calls.Sequence q SyncTransmit)) fresh_history) (first : n ≡ 0) (on : is_off s.mode ≡ false) (y : ℕ) (m : ℕ → Bool) where
  abbrev asks : Call
  asks = calls.Sequence q SyncTransmit

  abbrev k : SyncPlace → SyncBody
  k p = body d q u n at bs p

  abbrev pub FreeMakes : ℕ → SyncBody × BodyTaken → Type 0
  FreeMakes value t = Works (spi_basis d) (V d) below chip chip w s (Called asks) (Load (running_word u)) true value y fresh_history m t.0 t.1.event t.1.done

  few : u < 2
  few = subst (λ i. i < 2) (sym is.unit) (unit_few d fits q)

  sync : is_sync_unit d u ≡ true
  sync = ap (is_sync_unit d) is.unit ∙ is.sync

  pub some_jobs : 0 < length (jobs_of d q)
  some_jobs = subst (λ i. 0 < i) (jobs_count d fits q) (by (sequence_of d q) refl)
    where
      by : (o : Option Sequence) → sequence_of d q ≡ o → 0 < (jobs_list d q).count
      by None e = absurd (let f = sym is.known ∙ ap (λ o. is_some o) e in cc)
      by (Some x) e = subst (λ o. 0 < (jobs_in o).count) (sym e) (fits.sequences q x e).some

  pub carried_is : carried_for d s q ≡ carried_at s u
  carried_is = ap (λ b. if b || not (is_sync_sequence d q) then None else carried_at s (unit_of_sequence d q)) on ∙ ap (λ b. if not b then None else carried_at s (unit_of_sequence d q)) is.sync ∙ ap (carried_at s) (sym is.unit)

  -- the unit is free
  free : h.going u ≡ None → FreeMakes (word_of chip (running_word u)) (sync_frees (k place.Free) (word_of chip (running_word u) == 0))
  free none = subst (λ b. FreeMakes (word_of chip (running_word u)) (sync_frees (k place.Free) (b == 0))) (sym (subst (λ o. RunAgrees d (word_of chip) u o) none ((h.words.on on).runs u few)))
      (h, (is, (nothing (carried_at s u) (subst (λ o. CarriesAgrees d (unit_at chip.serials u) (run_carried (carried_at s u)) o) none (h.sends u few sync)).1, first, on), seeks d fits below chip w s h on q n (subst (λ i. i < length (jobs_of d q)) (sym first) some_jobs) u at bs (sync_finds (k place.Free) None)))
    where
      nothing : (o : Option Carrying) → run_carried o ≡ None → o ≡ None
      nothing None e = refl
      nothing (Some x) e = absurd (cc)

  -- it carries out another sequence: none that frames below send is this one
  other : (x : Carrying) → carried_at s u ≡ Some x → is_of q x.entry ≡ false
  other x e = not_true (is_of q x.entry) (λ own. absurd (let there = h.carriers u x.entry (ap entry_carried e) in let f = sym is.alone ∙ ap (λ i. list_any (λ z. is_sent i z.what) below) (sym (is_number x.entry.sequence q own)) ∙ there in cc))

  pub busy_error : error_of_sending d s q ≡ (if is_some (carried_at s u) then Some errors.SpiSeqInProcess else None)
  busy_error =
      ap (λ off. error_by d asks off (is_some (carried_for d s q))) on ∙ ap (λ o. error_by d asks false (is_some o)) carried_is
      ∙ ap (λ b. if not b || not (is_sync_sequence d q) then Some errors.SpiParamSeq else if is_some (carried_at s u) then Some errors.SpiSeqInProcess else None) is.known
      ∙ ap (λ b. if not b then Some errors.SpiParamSeq else if is_some (carried_at s u) then Some errors.SpiSeqInProcess else None) is.sync

  refused : (x : Carrying) → carried_at s u ≡ Some x → act_of d w s asks ≡ Some (outcome s (tells_error (answer_refused asks) errors.SpiSeqInProcess))
  refused x e =
      ap (sending_ends d w s q) (carried_is ∙ e)
      ∙ ap (λ b. if b then (if may_end d w x then Some (sent d s (unit_of_sequence d q) x x.run.transfer.failed) else None) else not_sent s q (error_of_sending d s q)) (other x e)
      ∙ ap (not_sent s q) (busy_error ∙ ap (λ o. if is_some o then Some errors.SpiSeqInProcess else None) e)

  taken : (g : Going) → h.going u ≡ Some g → FreeMakes (word_of chip (running_word u)) (sync_frees (k place.Free) (word_of chip (running_word u) == 0))
  taken g some = subst (λ b. FreeMakes (word_of chip (running_word u)) (sync_frees (k place.Free) b)) (sym nonzero) (frees_carried (carried_at s u) refl)
    where
      nonzero : (word_of chip (running_word u) == 0) ≡ false
      nonzero =
          let runs : GoingAgrees d (word_of chip) u g = subst (λ o. RunAgrees d (word_of chip) u o) some ((h.words.on on).runs u few) in
          other_number (word_of chip (running_word u)) 0 (λ f. let z = sym f ∙ runs.running in omega (arith, z))

      told : TellsAs (spi_machine d) (Called asks) (tells_error (named ENotOk) errors.SpiSeqInProcess) (record { answer = named ENotOk; owed = owed_error (reporting d) SpiSyncTransmit errors.SpiSeqInProcess })
      told = error_told (spi_machine d) asks (named ENotOk) errors.SpiSeqInProcess

      frees_carried : (o : Option Carrying) → carried_at s u ≡ o → FreeMakes (word_of chip (running_word u)) (sync_frees (k place.Free) false)
      frees_carried None e = absurd (let a = subst (λ o. CarriesAgrees d (unit_at chip.serials u) (run_carried (carried_at s u)) o) some (h.sends u few sync) in let f = sym (ap run_carried e) ∙ a.1 in cc)
      frees_carried (Some x) e = record {
        may = refl;
        stands = tt;
        state = s;
        told = tells_error (named ENotOk) errors.SpiSeqInProcess;
        begins = None;
        is = refused x e;
        sends = tt;
        acts = (refl, refl);
        reset = refl;
        next = (h, record { may = (refl, refl); served = false; owed = ap (λ ns. owing false ns) told.1; shown = λ i. absurd (cc); report = told.2 });
      }

  pub looks_free : FreeMakes (word_of chip (running_word u)) (sync_frees (k place.Free) (word_of chip (running_word u) == 0))
  looks_free = some_or_none (h.going u) (λ g e. taken g e) (λ e. free e)
