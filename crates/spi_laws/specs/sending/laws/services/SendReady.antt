-- A job has begun for a call that waits: its channels are made ready, and the words tell what the unit runs and where the
-- sequence is.
-- From starting.words.ReadyWords, spi_sequences: services.SyncSteps, service_outline: Words and 7 more.
-- Used by services.SendBegun, services.SendKeeps, services.SendStarts.
use Rattle.std.proofs.Common.{◌≡◌, ◌+◌, ◌<◌, ◌≤◌, ◌&&◌, ◌∙◌, if◌then◌else◌}
use Rattle.spi_laws.specs.sending.Terms
use Terms.{ap, arith, as_read, begins_whole, Bool, Channel, channel_at, channel_at_place, channel_number, channel_of}
use Terms.{channels_of, Chip, chip_after, CommitsAfter, false, first_place, FitsSpi, has_channel, HasWords, held_word}
use Terms.{is_to_begin, Job, job_at_place, job_of, List, list_of, may_store, nat_le, nat_lt, nat_tests, NEXTS, None}
use Terms.{number_at, one_owed, Option, or_none, OwesReady, own_first, packed, packed_run, PendingWrites, placed_by}
use Terms.{placed_of, Position, position_word, Prepare, prepare_ends, prepare_left, Ready, ready_at, ready_by}
use Terms.{ready_first, ready_from, ready_next, refl, Reservations, run_sent, running_word, Sends, SentAt, set_up_or}
use Terms.{set_up_word, slice_get, Some, spi_owing, SpiState, SpiTable, Store, stored_other, stored_same, subst, suc}
use Terms.{sym, sync_owed, sync_prepared, sync_prepares, sync_prepares_at, sync_prepares_by, SyncBody, SyncPlace}
use Terms.{true, with_next_in, word_of, zero, ℕ}
use Rattle.spi_laws.specs.sending.laws.{services.SendAround.{body}}
use Rattle.spi_laws.specs.starting.laws.services.StartWords.{begins_later}
use Rattle.spi_laws.specs.starting.laws.words.ReadyWords.{before, upto}
use Rattle.spi_sequences.specs.declared.service.sync.SyncPlace.TheVariants as place

module _ (d : SpiTable) (q u n : ℕ) (at : Position) (bs : List ℕ) where
  abbrev k : SyncPlace → SyncBody
  k p = body d q u n at bs p

  abbrev pub number : ℕ
  number = job_at_place d q n

  abbrev pub each : ℕ → Prepare → PendingWrites
  each i y = Sends (k (place.Prepare i y))

  abbrev pub last : PendingWrites
  last = Sends (k place.Run)

  pub place_is : (i : ℕ) (o : Option ℕ) → Sends (k (sync_prepares_by o d i)) ≡ ready_by d number each last i o
  place_is i None = refl
  place_is i (Some c) = refl

  -- the frame is in its window wherever they begin
  pub prepares_left : (i : ℕ) → sync_owed (k (sync_prepares_at (k place.Run) i)) ≡ Some (Sends (k (sync_prepares_at (k place.Run) i)))
  prepares_left i = by (channel_number (list_of d number) i)
    where
      by : (o : Option ℕ) → sync_owed (k (sync_prepares_by o d i)) ≡ Some (Sends (k (sync_prepares_by o d i)))
      by None = refl
      by (Some c) = refl

  -- the moves that make its channels ready, as the frame owes them
  pub sent_ready : OwesReady d number each last
  sent_ready = record { moves = λ i y. refl; lefts = λ i y v. lefts i y v (prepare_ends y v) }
    where
      Left : SyncPlace → Type 0
      Left p = sync_owed (k p) ≡ Some (Sends (k p))

      next_left : (i : ℕ) (b : Bool) → Left (if b then sync_prepares_at (k place.Run) (i + 1) else place.Run)
      next_left i true = prepares_left (i + 1)
      next_left i false = refl

      next_is : (i : ℕ) (b : Bool) → Sends (k (if b then sync_prepares_at (k place.Run) (i + 1) else place.Run)) ≡ (if b then ready_at d number each last (i + 1) else last)
      next_is i true = place_is (i + 1) (channel_number (list_of d number) (i + 1))
      next_is i false = refl

      lefts : (i : ℕ) (y : Prepare) (v : ℕ) (b : Bool) → sync_owed (k (sync_prepared (k place.Run) i y v b)) ≡ Some (if b then ready_next d number each last i else each i (prepare_left y v))
      lefts i y v true = next_left i (nat_lt i 3) ∙ ap (λ z. Some z) (next_is i (nat_lt i 3))
      lefts i y v false = refl

module _ (d : SpiTable) (fits : FitsSpi d) (q u n : ℕ) (few : u < 2) (at : Position) (bs : List ℕ) (job : Job) (is_job : job_of d (job_at_place d q n) ≡ Some job) (held : Reservations) (s : SpiState) (base : Chip) (whole : HasWords base)
    (sends : (i b : ℕ) (x : Channel) → slice_get (channels_of d (job_at_place d q n)) i ≡ Some b → channel_of d b ≡ Some x → x.internal ≡ true → SentAt d held s b x (word_of base) false)
    (set_ups : (b : ℕ) (x : Channel) → channel_of d b ≡ Some x → x.internal ≡ false → packed (or_none (word_of base (set_up_word (placed_of d b))) (placed_of d b).channel) ≡ packed (as_read (set_up_or x (channel_at s b).set_up))) where
  abbrev cs : List ℕ
  cs = channels_of d (number d q u n at bs)

  abbrev On : ((place length : ℕ) → Bool) → (ℕ → Bool) → Chip → Type 0
  On f g c = Ready d fits u few (number d q u n at bs) job is_job held s base f g c

  abbrev pub All : Chip → Type 0
  All c = On (is_to_begin first_place) (λ i. true) c

  abbrev sent : Position → SyncPlace → PendingWrites
  sent a p = Sends (body d q u n a bs p)

  -- the words tell the job at this place of the sequence
  abbrev pub told : Chip → Chip
  told c = chip_after c (Store NEXTS (with_next_in (word_of c NEXTS) q n)) 0

  module _ (Done : Chip → Type 0) (over : (c : Chip) → All c → word_of c (running_word u) ≡ packed_run (run_sent (body d q u n at bs place.Run)) → word_of c (position_word u) ≡ 0 → Done (told c)) where
    abbrev Settling : PendingWrites → Chip → Type 0
    Settling x c = CommitsAfter (spi_owing d) (Some x) c Done

    -- the last moves
    run_owed : (c : Chip) → All c → Settling (sent at place.Run) c
    run_owed c a =
        one_owed (spi_owing d) Done (sent at place.Run) c (Some (sent at place.Stand)) (may_store d fits (running_word u) (packed_run (run_sent (body d q u n at bs place.Run))) (own_first d (running_word u) (omega arith) (omega (arith, few)))) tt refl
        (one_owed (spi_owing d) Done (sent at place.Stand) second (Some (sent first_place place.Nexts)) (may_store d fits (position_word u) 0 (own_first d (position_word u) (omega arith) (omega (arith, few)))) tt refl
        (one_owed (spi_owing d) Done (sent first_place place.Nexts) third (Some (sent first_place (place.Next value))) (may_store d fits NEXTS 0 (own_first d NEXTS (omega arith) (omega arith))) tt refl
        (one_owed (spi_owing d) Done (sent first_place (place.Next value)) third None (may_store d fits NEXTS value (own_first d NEXTS (omega arith) (omega arith))) tt refl (over third a3 running position))))
      where
        second : Chip
        second = chip_after c (Store (running_word u) (packed_run (run_sent (body d q u n at bs place.Run)))) 0

        third : Chip
        third = chip_after second (Store (position_word u) 0) 0

        value : ℕ
        value = with_next_in (word_of third NEXTS) q n

        a2 : All second
        a2 = ready_first d fits u few (number d q u n at bs) job is_job held s base c (is_to_begin first_place) (λ i. true) (running_word u) (packed_run (run_sent (body d q u n at bs place.Run))) a (omega (arith, few)) (λ i is. is.0)

        a3 : All third
        a3 = ready_first d fits u few (number d q u n at bs) job is_job held s base second (is_to_begin first_place) (λ i. true) (position_word u) 0 a2 (omega (arith, few)) (λ i is. is.1)

        running : word_of third (running_word u) ≡ packed_run (run_sent (body d q u n at bs place.Run))
        running = stored_other second (position_word u) 0 0 (running_word u) (λ e. omega (arith, e)) ∙ stored_same c (running_word u) (packed_run (run_sent (body d q u n at bs place.Run))) 0 (omega (arith, few)) a.whole

        position : word_of third (position_word u) ≡ 0
        position = stored_same second (position_word u) 0 0 (omega (arith, few)) a2.whole

    -- nothing is made ready of a first channel whose only word is in transfer
    first_is : (b : ℕ) (x : Channel) → slice_get cs 0 ≡ Some b → channel_of d b ≡ Some x → begins_whole (channel_at_place d (number d q u n at bs) 0) ≡ (x.internal && nat_le x.length 1)
    first_is b x here known = ap (λ o. begins_whole (placed_by d o)) (number_at d (number d q u n at bs) job is_job 0 ∙ here) ∙ ap (λ (z : Channel). z.internal && nat_le z.length 1) (has_channel d fits b x known)

    module _ (least : ℕ) (one : least ≤ 1)
        (inner : (b : ℕ) (x : Channel) → slice_get cs 0 ≡ Some b → channel_of d b ≡ Some x → x.internal ≡ true → nat_le least 0 ≡ nat_lt 1 x.length)
        (outer : (b : ℕ) (x : Channel) → slice_get cs 0 ≡ Some b → channel_of d b ≡ Some x → x.internal ≡ false → least ≡ 0) where
      none_yet : (i : ℕ) → (nat_le least i && nat_lt i least) ≡ false
      none_yet i = grind (arith, nat_tests)

      none_at : (i : ℕ) → least ≡ 0 → nat_lt i least ≡ true → ⊥
      none_at i e f = grind (arith, nat_tests)

      other_at : (i : ℕ) → nat_lt (suc i) least ≡ true → ⊥
      other_at i f = grind (arith, nat_tests)

      ready : On (upto least least) (before least) base
      ready = record { rest = refl; whole = whole; beside = λ i is. refl; sends = λ i b x here known internal. subst (λ z. SentAt d held s b x (word_of base) z) (sym (none_yet i)) (sends i b x here known internal); holds = holds }
        where
          holds : (i b : ℕ) (x : Channel) → slice_get cs i ≡ Some b → channel_of d b ≡ Some x → x.internal ≡ false → before least i ≡ true → word_of base (held_word (placed_of d b)) ≡ packed (as_read (set_up_or x (channel_at s b).set_up))
          holds zero b x here known external now = absurd (none_at 0 (outer b x here known external) now)
          holds (suc i) b x here known external now = absurd (other_at i now)

      all_ready : (m : ℕ) (c : Chip) → On (upto least m) (before m) c → ((i b : ℕ) → slice_get cs i ≡ Some b → nat_lt i m ≡ true) → All c
      all_ready m c a all = record {
        rest = a.rest;
        whole = a.whole;
        beside = a.beside;
        sends = λ i b x here known internal. subst (λ z. SentAt d held s b x (word_of c) z) (ap (λ z. nat_le least i && z) (all i b here) ∙ begins i b x here known internal) (a.sends i b x here known internal);
        holds = λ i b x here known external now. a.holds i b x here known external (all i b here);
      }
        where
          less : (i : ℕ) → (nat_le least (suc i) && true) ≡ true
          less i = grind (arith, nat_tests)

          both : (z : Bool) → (z && true) ≡ z
          both true = refl
          both false = refl

          begins : (i b : ℕ) (x : Channel) → slice_get cs i ≡ Some b → channel_of d b ≡ Some x → x.internal ≡ true → (nat_le least i && true) ≡ is_to_begin first_place i x.length
          begins zero b x here known internal = both (nat_le least 0) ∙ inner b x here known internal
          begins (suc i) b x here known internal = less i ∙ sym (begins_later i x.length)

      from_least : (m : ℕ) → least + m ≡ 4 → Settling (ready_at d (number d q u n at bs) (each d q u n at bs) (last d q u n at bs) least) base
      from_least m sum = ready_from d fits u few (number d q u n at bs) job is_job held s base (each d q u n at bs) (last d q u n at bs) (sent_ready d q u n at bs) least Done set_ups (λ i c a all. run_owed c (all_ready i c a all)) m least sum (itself least) base ready
        where
          itself : (i : ℕ) → nat_le i i ≡ true
          itself i = grind (arith, nat_tests)

    -- its channels, and then the words of the unit and of the sequence
    pub prepares_owed : Settling (sent at (sync_prepares (body d q u n at bs place.Run))) base
    prepares_owed = prepares_settle (begins_whole (channel_at_place d (number d q u n at bs) 0)) refl
      where
        none_left : (i : ℕ) → nat_le i 1 ≡ true → false ≡ nat_lt 1 i
        none_left i e = grind (arith, nat_tests)

        some_left : (i : ℕ) → nat_le i 1 ≡ false → true ≡ nat_lt 1 i
        some_left i e = grind (arith, nat_tests)

        length_by : (b : Bool) (x : Channel) → (x.internal && nat_le x.length 1) ≡ b → x.internal ≡ true → nat_le x.length 1 ≡ b
        length_by b x e internal = ap (λ z. z && nat_le x.length 1) (sym internal) ∙ e

        prepares_settle : (b : Bool) → begins_whole (channel_at_place d (number d q u n at bs) 0) ≡ b → Settling (sent at (sync_prepares_at (body d q u n at bs place.Run) (if b then 1 else 0))) base
        prepares_settle true e =
            subst (λ x. Settling x base) (sym (place_is d q u n at bs 1 (channel_number (list_of d (number d q u n at bs)) 1)))
            (from_least 1 (omega arith) (λ b x here known internal. none_left x.length (length_by true x (sym (first_is b x here known) ∙ e) internal)) (λ b x here known external. absurd (let f = sym (first_is b x here known) ∙ e in let g = ap (λ z. z && nat_le x.length 1) (sym external) ∙ f in cc)) 3 refl)
        prepares_settle false e =
            subst (λ x. Settling x base) (sym (place_is d q u n at bs 0 (channel_number (list_of d (number d q u n at bs)) 0)))
            (from_least 0 (omega arith) (λ b x here known internal. some_left x.length (length_by false x (sym (first_is b x here known) ∙ e) internal)) (λ b x here known external. refl) 4 refl)
