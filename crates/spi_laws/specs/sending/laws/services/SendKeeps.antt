-- The job before has ended as the next one begins: its last word is kept, what came in becomes readable, and it has its result.
-- From serving.words.AllKept, spi_sequences: services.SyncSteps, serving.services.WellEnded and 17 more.
-- Used by services.SendGoesOn.
use Rattle.std.proofs.Common.{◌≡◌, ◌≢◌, ◌+◌, ◌-◌, ◌<◌, ◌≤◌, ◌∷◌, ◌∙◌, if◌then◌else◌}
use Rattle.spi_laws.specs.sending.Terms
use Terms.{agrees_at, AllKept, ap, arith, Arrived, At, begins_whole, Bool, Channel, channel_at_place, channel_of}
use Terms.{channel_there, Chip, chip_after, CommitsTo, committing_of, false, first_internal, FitsSpi, for_at, Going}
use Terms.{going_next, has_ended, held_word, inl, inr, IsBase, IsLast, IsSending, IsServed, job_at_place, job_word}
use Terms.{Keep, keep_ends, keep_left, keep_of, length, List, lt_itself, lt_next, may_store, next_job, next_small}
use Terms.{None, of_held, of_one, one_owed, one_part, Option, own_first, Part, PendingWrites, Placed, placed_of}
use Terms.{Position, Put, put_gave, put_left, Received, refl, Reservations, Run, running_word, same_or_other, Sends}
use Terms.{SerialData, slice_get, slice_index_or, Some, SOURCES, spi_owing, SpiRepresents, SpiState, SpiTable}
use Terms.{stands-move, StandsIn, STATE, Store, subst, suc, sym, sync_commits, sync_committed, sync_keeps, sync_owed}
use Terms.{sync_prepares, taken_of, ToServe, true, UnderWay, upto, word_of, words_of, World, Write, ℕ}
use Rattle.spi_laws.specs.sending.Sending.{HasBank}
use Rattle.spi_laws.specs.sending.laws.bookkeeping.CarriedOut as carried_out
use Rattle.spi_laws.specs.sending.laws.bookkeeping.HeldWord.{sending_of}
use Rattle.spi_laws.specs.sending.laws.services.SendAround.{body}
use Rattle.spi_laws.specs.sending.laws.services.SendReady.{prepares_left}
use Rattle.spi_laws.specs.serving.laws.bookkeeping.JobEnd as job_ends
use Rattle.spi_laws.specs.serving.laws.services.FreedUnit.{last_part}
use Rattle.spi_laws.specs.serving.laws.services.FurtherRight.{OwesKeep, OwesPut}
use Rattle.spi_laws.specs.serving.laws.services.JobLeft as left
use Rattle.spi_laws.specs.serving.laws.words.AllKept.{commits_owed, held_kept, lt_else, put_owed}
use Rattle.spi_laws.specs.serving.laws.services.WellEnded.{less_so, taken_all}
use Rattle.spi_laws.specs.serving.laws.services.WellEnded as kept_laws
use Rattle.spi_sequences.specs.declared.service.sync.SyncPlace.TheVariants as place

module _ (d : SpiTable) (fits : FitsSpi d) (below : Reservations) (chip : Chip) (w : World) (s : SpiState) (q u n : ℕ) (at : Position) (bs : List ℕ) (r : Arrived) (device : ℕ)
    (h : SpiRepresents d (sending_of u q (n - 1) r.served.at bs (Some false) device ∷ below) chip w s) (last : IsLast d (word_of chip) s w.now u r) (good : r.served.failed ≡ false)
    (same : r.served.at ≡ at) (bank : HasBank (body d q u n at bs place.Run) r.taker) (x y : ℕ) where
  abbrev pub held : Reservations
  held = sending_of u q (n - 1) r.served.at bs (Some false) device ∷ below

  abbrev says : IsSending d chip w h.going s u q (n - 1) r.served.at bs (Some false) device
  says = h.sending.0

  abbrev pub few : u < 2
  few = says.few

  abbrev pub by : IsServed d (word_of chip) s w.now u r.served
  by = left.served d fits held chip w s h u few r last y

  abbrev pub run : Run
  run = by.done.run

  abbrev pub under : UnderWay d held chip w s h u run
  under = left.under d fits held chip w s h u few r last y

  abbrev pub st : ToServe
  st = left.st d fits held chip w s h u few r last y

  abbrev pub g : Going
  g = under.job

  abbrev pub came : ℕ
  came = run.transfer.incoming

  abbrev pub its : At st g.at (length g.received)
  its = left.at d fits held chip w s h u few r last y

  abbrev pub whole : length g.received + 1 ≡ length (words_of d g.parts)
  whole = left.last d fits held chip w s h u few r last y good

  -- the chip as the next word begins
  abbrev pub chip1 : Chip
  chip1 = chip_after chip (Write (SerialData u) x) y

  abbrev pub outside1 : StandsIn chip1 w
  outside1 = stands-move chip w (Write (SerialData u) x) y h.outside

  abbrev pub alike1 : (j : ℕ) → j ≢ running_word u → word_of chip1 j ≡ word_of chip j
  alike1 j ne = refl

  abbrev pub Based : Chip → Type 0
  Based b = IsBase st its whole came chip1 outside1 alike1 b

  abbrev pub Kept : (ℕ → Bool) → Chip → Chip → Type 0
  Kept f b c = AllKept st came b f c

  pub job_is : r.served.run.job ≡ next_job d g.pending
  job_is = job_ends.job_is d fits held chip w s h u few r last y

  pub going_same : g ≡ says.job
  going_same = carried_out.going_same d fits below chip w s u q (n - 1) r.served.at bs (Some false) device h run by.done.is under

  pub place_is : r.served.at ≡ g.at
  place_is = sym (ap (λ (k : Going). k.at) going_same ∙ says.place)

  -- ---- the banks that the frame keeps are those that are held

  module _ (b : Chip) (base : Based b) (i : ℕ) (z : Part) (there : slice_get g.parts i ≡ Some z) (inside : (placed_of d z.channel).channel.internal ≡ true) where
    abbrev known : (k : Channel) × (channel_of d z.channel ≡ Some k)
    known = kept_laws.known_at st its whole came i z there inside

    -- of the last word's channel the frame has it in its taker
    bank_here : i ≡ r.served.at.channel → word_of b (held_word (placed_of d z.channel)) ≡ slice_index_or bs i 0
    bank_here e =
        let taken = left.bank_known d fits held chip w s h u few r last y good chip1 outside1 alike1 b base z (ap (slice_get g.parts) (sym e) ∙ there) inside in
        let mine : slice_index_or bs at.channel 0 ≡ taken.0 = subst (λ t. HasBank (body d q u n at bs place.Run) t) taken.1 bank in
        sym taken.2 ∙ sym mine ∙ ap (λ (p : Position). slice_index_or bs p.channel 0) (sym same) ∙ ap (λ j. slice_index_or bs j 0) (sym e)

    -- of one before it the frame kept it
    bank_before : i ≢ r.served.at.channel → word_of b (held_word (placed_of d z.channel)) ≡ slice_index_or bs i 0
    bank_before ne =
        base.same (held_word (placed_of d z.channel)) (λ inner. apart) (λ outer e. let low = past.1 in omega (arith, low, e))
        ∙ says.kept i z known.0 (ap (λ (k : Going). slice_get k.parts i) (sym going_same) ∙ there) known.1 (kept_laws.inner_at st its whole came i z there inside) (subst (λ (p : Position). 0 < taken_of p i (length z.values)) (sym place_is) some)
      where
        elsewhere : i ≢ g.at.channel
        elsewhere e = ne (e ∙ ap (λ (p : Position). p.channel) (sym place_is))

        before : i < g.at.channel
        before = less_so i g.at.channel elsewhere (λ lt. last_part d fits u (word_of chip) g under.for under.represents (left.first d fits held chip w s h u few r last y) whole i z there lt)

        some : 0 < taken_of g.at i (length z.values)
        some = subst (λ k. 0 < k) (sym (taken_all g.at.channel g.at.word i (length z.values) before)) (under.represents.parts i z there).0

        past : (STATE + 64 ≤ held_word (placed_of d z.channel)) × (held_word (placed_of d z.channel) < SOURCES)
        past = kept_laws.held_past st its whole came i z there inside

        apart : held_word (placed_of d z.channel) ≢ held_word (placed_of d its.part.channel)
        apart =
            let own = kept_laws.here_known st its whole came in
            of_one d fits z.channel its.part.channel known.0 own.0 (held_word (placed_of d z.channel)) (held_word (placed_of d its.part.channel)) (λ e. elsewhere (one_part d fits held chip w s h under.on u g few under.is g.at.channel i its.part z its.there there e)) known.1 own.1
            (of_held d fits z.channel known.0 known.1) (of_held d fits its.part.channel own.0 own.1)

    bank_at : word_of b (held_word (placed_of d z.channel)) ≡ slice_index_or bs i 0
    bank_at = elim (same_or_other i r.served.at.channel) [ inl e ↦ bank_here e | inr ne ↦ bank_before ne ]

  -- ---- the moves, as the frame owes them

  abbrev commits : Option ℕ → PendingWrites
  commits o = Sends (body d q u n at bs (sync_commits (body d q u n at bs place.Run) r.served o))

  commits_left : (o : Option ℕ) → sync_owed (body d q u n at bs (sync_commits (body d q u n at bs place.Run) r.served o)) ≡ Some (commits o)
  commits_left None = refl
  commits_left (Some i) = refl

  owes_keep : OwesKeep (λ k. Sends (body d q u n at bs (place.Keep r.served k))) (commits (first_internal d r.served 4))
  owes_keep = record { moves = λ k. refl; lefts = λ k v. lefts k (keep_ends k) }
    where
      lefts : (k : Keep) (b : Bool) → sync_owed (body d q u n at bs (sync_keeps (body d q u n at bs place.Run) r.served k b)) ≡ Some (if b then commits (first_internal d r.served 4) else Sends (body d q u n at bs (place.Keep r.served (keep_left k))))
      lefts k true = commits_left (first_internal d r.served 4)
      lefts k false = refl

  owes_put : (i : ℕ) → OwesPut (λ z. Sends (body d q u n at bs (place.Commit r.served i z))) (commits (first_internal d r.served (3 - i)))
  owes_put i = record { moves = λ z. refl; lefts = λ z v. lefts z v (has_ended (put_gave z v)) }
    where
      lefts : (z : Put) (v : ℕ) (b : Bool) → sync_owed (body d q u n at bs (sync_committed (body d q u n at bs place.Run) r.served i z v b)) ≡ Some (if b then commits (first_internal d r.served (3 - i)) else Sends (body d q u n at bs (place.Commit r.served i (put_left z v))))
      lefts z v true = commits_left (first_internal d r.served (3 - i))
      lefts z v false = refl

  -- ---- until the job has its result

  abbrev pub result : ℕ
  result = job_word r.served.run.job

  abbrev pub with_result : Chip → Chip
  with_result c = chip_after c (Store result 0) 0

  module _ (Done : Chip → Type 0) (onward : (b c : Chip) → Based b → Kept (upto 4) b c → (j : ℕ) × CommitsTo (spi_owing d) j (Sends (body d q u n at bs (sync_prepares (body d q u n at bs place.Run)))) (with_result c) Done) where
    commit_one : (b : Chip) → Based b → (i : ℕ) (z : Part) → slice_get g.parts i ≡ Some z → (placed_of d z.channel).channel.internal ≡ true → (c : Chip) → Kept (upto i) b c
        → ((c1 : Chip) → Kept (upto (suc i)) b c1 → (j : ℕ) × CommitsTo (spi_owing d) j (commits (first_internal d r.served (3 - i))) c1 Done) → (j : ℕ) × CommitsTo (spi_owing d) j (commits (Some i)) c Done
    commit_one b base i z there inside c kept more =
        subst (λ (k : Placed). (j : ℕ) × CommitsTo (spi_owing d) j (Sends (body d q u n at bs (place.Commit r.served i (committing_of k Received (slice_index_or bs i 0))))) c Done) (sym placed_is)
        (put_owed st came b i z there inside whole (λ p. Sends (body d q u n at bs (place.Commit r.served i p))) (commits (first_internal d r.served (3 - i))) (owes_put i) Done (upto i) (upto (suc i)) (lt_itself i) (lt_next i) (λ m ne. lt_else m i ne) c kept more (slice_index_or bs i 0)
        (sym (bank_at b base i z there inside) ∙ sym (held_kept st came b r.served job_is i z there (upto i) c kept) ∙ (kept.received i z there inside).held))
      where
        placed_is : channel_at_place d r.served.run.job i ≡ placed_of d z.channel
        placed_is = ap (λ j. channel_at_place d j i) job_is ∙ channel_there d fits u (word_of chip) g (for_at d fits held chip w s h under.on u g few under.is) (agrees_at d fits held chip w s h under.on u g few under.is) i z there

    result_owed : (b c : Chip) → Based b → Kept (upto 4) b c → (j : ℕ) × CommitsTo (spi_owing d) j (commits None) c Done
    result_owed b c base kept =
        one_owed (spi_owing d) Done (commits None) c (Some (Sends (body d q u n at bs (sync_prepares (body d q u n at bs place.Run))))) (may_store d fits result 0 (own_first d result (omega arith) (omega (arith, job_few)))) tt
        (prepares_left d q u n at bs (if begins_whole (channel_at_place d (job_at_place d q n) 0) then 1 else 0)) (onward b c base kept)
      where
        job_few : r.served.run.job < 16
        job_few = subst (λ j. j < 16) (sym job_is) (next_small d fits held chip w s h g.pending (going_next d fits held chip w s h u g few under.is).0)

    pub keeps_owed : (j : ℕ) × CommitsTo (spi_owing d) j (Sends (body d q u n at bs (place.Keep r.served (keep_of d r)))) chip1 Done
    keeps_owed = left.last_kept d fits held chip w s h u few r last y good chip1 outside1 alike1 (λ k. Sends (body d q u n at bs (place.Keep r.served k))) (commits (first_internal d r.served 4)) owes_keep Done
        (λ b c base kept. commits_owed st came b r.served job_is commits Done (commit_one b base) (λ c1 all. result_owed b c1 base all) 4 0 refl c kept)
