-- A job of a call that waits has begun on a unit that was between jobs: the moves that its window owes from there, and the
-- agreement after them.
-- From starting.words.PinnedBanks, spi_sequences: words.WordsOfModule and 14 more.
-- Used by services.SendGoesOn, services.SendStarts.
use Rattle.std.proofs.Common.{◌≡◌, ◌≢◌, ◌+◌, ◌<◌, ◌≤◌, ◌∷◌, ◌∙◌, ◌⊎◌}
use Rattle.spi_laws.specs.sending.Terms
use Terms.{all_carried, AllSend, ap, AreCarried, arith, as_read, asked_unit, banks_held, Bool, carried_at, CarriesAgrees}
use Terms.{Channel, channel_at, channel_of, ChannelFits, channels_of, Chip, chip_after, CommitsAfter, Contains, Destination, entry_carried}
use Terms.{false, first_place, Going, has_bit, has_channel, HasWords, held_word, HoldsArrays, inl, inr, InTransfer, is_for}
use Terms.{is_owed, is_sync_unit, is_to_begin, IsSending, IsSoundState, Job, job_at_place, job_of, length, length_after, LinesAgree, List}
use Terms.{Memory, mode_word, nat_tests, next_job, NEXTS, None, none_in, none_stored, of_banks, of_held, of_set_up, Option, or_none, packed, packed_run}
use Terms.{past_the_first, Pending, place_of, placed_of, Position, position_word, read_set_up, refl, Reservations, run_at}
use Terms.{run_carried, run_of, run_sent, running_word, RunsBy, RunsNext, same_or_other, Sends, sends_as, SentAt}
use Terms.{Sent, SequencesAgree, set_up_code, set_up_or, set_up_word, slice_get, slice_index, Some, Source, spi_owing}
use Terms.{SpiRepresents, STATE, stands-agree, stands_owed, StandsIn, Store, stored_other, stored_same, subst, sym, sync_prepares}
use Terms.{taken_of, Transfer, trio_of, true, unit_at, UnitAgrees, view, WiredAs, with_next_in, word_of, World, ℕ}
use Rattle.spi_laws.specs.sending.laws.{bookkeeping.HeldWord.{async_other, sending_of, sends_alike}, services.SendAround.{body}}
use Rattle.spi_laws.specs.sending.laws.services.SendReady as ready
use Rattle.spi_laws.specs.starting.laws.{ToBegin.{begun_going, going_begun, ToBegin}, words.PinnedBanks.{banks_now}}
use Rattle.spi_laws.specs.starting.laws.words.PinnedBanks.{begun_runs, else_now, held_else, here_now, not_here, sent_before}
use Rattle.spi_laws.specs.starting.laws.words.PinnedBanks.{the_job}
use Rattle.spi_laws.specs.starting.laws.bookkeeping.RanState.{sent_by}
use Rattle.spi_laws.specs.starting.laws.bookkeeping.RanState.{IsQuiet, quiet_set_up, quiet_users}
use Rattle.spi_laws.specs.starting.laws.words.ReadyWords.{beside_first, beside_quiet, IsBeside}
use Rattle.spi_sequences.specs.declared.service.sync.SyncPlace.TheVariants as place

-- between two jobs of the sequence, and before its first one: what stands on a chip where the next job's first word is in
-- transfer, and the words tell it but for the unit's own and for the sequence's next job
pub record IsOpen (t : ToBegin) (base : Chip) (w : World) (q n : ℕ) (bs : List ℕ) (device : ℕ) : Type 0 where
  pub seen : (i : ℕ) → word_of base i ≡ t.words i
  pub outside : StandsIn base w
  pub wired : WiredAs t.d base
  pub size : length base.serials.units ≡ 2
  pub sound : IsSoundState t.d (view t.s)
  -- the unit's job
  pub sync : is_sync_unit t.d t.u ≡ true
  pub sequence : t.p.sequence ≡ q
  pub next : t.p.next ≡ n
  pub job : next_job t.d t.p ≡ job_at_place t.d q n
  pub transfer : Transfer
  pub carries : carried_at t.s t.u ≡ Some (record { entry = t.p; run = run_of t.d (begun_going t) transfer })
  pub word : InTransfer (unit_at base.serials t.u).word transfer
  pub select : (unit_at base.serials t.u).select ≡ device
  -- the other units, and the frames below
  pub others : (m : ℕ) → m < 2 → m ≢ t.u → RunsNext t.d (view t.s) m (t.going m)
  pub units : (m : ℕ) → m < 2 → is_sync_unit t.d m ≡ false → UnitAgrees t.d (unit_at base.serials m) (run_at t.s m) (t.going m)
  pub sends : (m : ℕ) → m < 2 → is_sync_unit t.d m ≡ true → m ≢ t.u → CarriesAgrees t.d (unit_at base.serials m) (run_carried (carried_at t.s m)) (t.going m)
  pub sending : AllSend t.d base w t.going t.s t.held
  pub carriers : AreCarried (view t.s) (sending_of t.u q n first_place bs None device ∷ t.held)
  pub owed : (m : ℕ) (x : Pending) → m < 2 → m ≢ t.u → t.going m ≡ None → Contains t.s.pending x → is_for t.d m x ≡ true → is_owed m t.held ≡ true
  -- the words
  pub state : t.words STATE ≡ mode_word t.s.mode
  pub sequences : (m : Memory) → ((i : ℕ) → i < STATE + 64 → i ≢ NEXTS → i ≢ running_word t.u → i ≢ position_word t.u → m i ≡ t.words i) → m NEXTS ≡ with_next_in (t.words NEXTS) q n → SequencesAgree t.d m (view t.s)
  pub set_ups : (b : ℕ) (k : Channel) → channel_of t.d b ≡ Some k → k.internal ≡ false → t.words (set_up_word (placed_of t.d b)) ≡ set_up_code (channel_at t.s b).set_up
  pub sizes : (b : ℕ) (k : Channel) → channel_of t.d b ≡ Some k → ChannelFits k (channel_at t.s b)
  pub arrays : (b : ℕ) → HoldsArrays t.words t.d t.s b
  pub lines : LinesAgree t.d t.s.mode base.control.enabled

module _ (t : ToBegin) (base : Chip) (w : World) (q n : ℕ) (bs : List ℕ) (device : ℕ) (o : IsOpen t base w q n bs device) where
  open t use {d, fits, held, s, right, on, u, few, p, going, words}

  abbrev job : (k : Job) × (job_of d (next_job d p) ≡ Some k)
  job = the_job t

  abbrev now : ℕ → Option Going
  now = going_begun t

  abbrev pub held1 : Reservations
  held1 = sending_of u q n first_place bs None device ∷ held

  begun_is : (view s).begun u ≡ Some p
  begun_is = ap entry_carried o.carries

  -- ---- the agreement

  module _ (f : Chip) (rest : f ≡ record base { words = f.words }) (whole : HasWords f) (beside : (i : ℕ) → IsBeside d u (next_job d p) i → i ≢ NEXTS → word_of f i ≡ words i)
      (sends : (i b : ℕ) (k : Channel) → slice_get (channels_of d (next_job d p)) i ≡ Some b → channel_of d b ≡ Some k → k.internal ≡ true → SentAt d held s b k (word_of f) (is_to_begin first_place i k.length))
      (holds : (i b : ℕ) (k : Channel) → slice_get (channels_of d (next_job d p)) i ≡ Some b → channel_of d b ≡ Some k → k.internal ≡ false → word_of f (held_word (placed_of d b)) ≡ packed (as_read (set_up_or k (channel_at s b).set_up)))
      (running : word_of f (running_word u) ≡ packed_run (record { job = next_job d p; sequence = p.sequence })) (position : word_of f (position_word u) ≡ 0) (nexts : word_of f NEXTS ≡ with_next_in (words NEXTS) q n) where
    quiet : (i : ℕ) → IsQuiet d u (next_job d p) i → i ≢ NEXTS → word_of f i ≡ words i
    quiet i is ne = beside i (beside_quiet d u (next_job d p) i is) ne

    first : (i : ℕ) → i < STATE + 64 → i ≢ NEXTS → i ≢ running_word u → i ≢ position_word u → word_of f i ≡ words i
    first i lt ne a b = beside i (beside_first d fits u few (next_job d p) job.0 job.1 held s base i lt a b) ne

    users : (i : ℕ) → STATE + 64 ≤ i → IsQuiet d u (next_job d p) i → word_of f i ≡ words i
    users i le is = quiet i is (λ e. omega (arith, le, e))

    nexts_by : (m : ℕ) → m < 2 → (m ≡ u) ⊎ (m ≢ u) → RunsNext d (view s) m (now m)
    nexts_by m lt (inl e) = subst (λ k. RunsNext d (view s) k (now k)) (sym e) (subst (λ g. RunsNext d (view s) u g) (sym (here_now t)) (all_carried (view s) u p few begun_is, subst (λ b. RunsBy b (view s) u p) (sym o.sync) begun_is, t.for))
    nexts_by m lt (inr ne) = subst (λ g. RunsNext d (view s) m g) (sym (else_now t m ne)) (o.others m lt ne)

    unit_by : (m : ℕ) → m < 2 → is_sync_unit d m ≡ false → UnitAgrees d (unit_at f.serials m) (run_at s m) (now m)
    unit_by m lt async = subst (λ x. UnitAgrees d (unit_at x.serials m) (run_at s m) (now m)) (sym rest) (subst (λ g. UnitAgrees d (unit_at base.serials m) (run_at s m) g) (sym (else_now t m (async_other d u m o.sync async))) (o.units m lt async))

    carried_by : (m : ℕ) → m < 2 → is_sync_unit d m ≡ true → (m ≡ u) ⊎ (m ≢ u) → CarriesAgrees d (unit_at f.serials m) (run_carried (carried_at s m)) (now m)
    carried_by m lt sync (inl e) =
        subst (λ k. CarriesAgrees d (unit_at f.serials k) (run_carried (carried_at s k)) (now k)) (sym e)
        (subst (λ x. CarriesAgrees d (unit_at x.serials u) (run_carried (carried_at s u)) (now u)) (sym rest)
        (subst (λ g. CarriesAgrees d (unit_at base.serials u) (run_carried (carried_at s u)) g) (sym (here_now t)) (o.transfer, ap run_carried o.carries, o.word)))
    carried_by m lt sync (inr ne) =
        subst (λ x. CarriesAgrees d (unit_at x.serials m) (run_carried (carried_at s m)) (now m)) (sym rest)
        (subst (λ g. CarriesAgrees d (unit_at base.serials m) (run_carried (carried_at s m)) g) (sym (else_now t m ne)) (o.sends m lt sync ne))

    none_taken : (i k : ℕ) → 0 < taken_of first_place i k → ⊥
    none_taken i k lt = let none : taken_of first_place i k ≡ 0 = nothing i k in omega (arith, lt, none)
      where
        nothing : (i k : ℕ) → taken_of first_place i k ≡ 0
        nothing i k = grind (arith, nat_tests)

    is_sending : IsSending d f w now s u q n first_place bs None device
    is_sending = record {
      few = few;
      sync = o.sync;
      job = begun_going t;
      is = here_now t;
      sequence = o.sequence;
      next = o.next;
      place = refl;
      select = ap (λ x. (unit_at x.serials u).select) rest ∙ o.select;
      kept = λ i x k at known internal some. absurd (none_taken i (length x.values) some);
      end = tt;
    }

    owed_by : (m : ℕ) (x : Pending) → m < 2 → now m ≡ None → Contains s.pending x → is_for d m x ≡ true → (m ≡ u) ⊎ (m ≢ u) → is_owed m held ≡ true
    owed_by m x lt none there mine (inl e) = absurd (let f = sym (asked_unit d fits (view s) o.sound m x there mine) ∙ ap (is_sync_unit d) e ∙ o.sync in cc)
    owed_by m x lt none there mine (inr ne) = o.owed m x lt ne (sym (else_now t m ne) ∙ none) there mine

    pub begun_agrees : SpiRepresents d held1 f w s
    begun_agrees = record {
      right = ((refl, on), right);
      outside = stands_owed (λ j. true) base f w (record { rest = rest; whole = whole; others = λ j e. absurd (cc) }) o.outside;
      wired = λ b lt. ap (λ x. slice_index x.wiring.sources b) rest ∙ o.wired b lt;
      size = ap (λ x. length x.serials.units) rest ∙ o.size;
      sound = o.sound;
      going = now;
      nexts = λ m lt. nexts_by m lt (same_or_other m u);
      units = unit_by;
      sends = λ m lt sync. carried_by m lt sync (same_or_other m u);
      sending = (
        is_sending,
        sends_as d base f w w going now s s (λ m g lt sync is. else_now t m (not_here t m g is)) (λ m g lt sync is. ap (λ x. (unit_at x.serials m).select) rest)
            (λ m g i x k lt sync is at known. held_else t (word_of f) quiet m g i x k lt is at known ∙ sym (o.seen (held_word (placed_of d x.channel)))) (λ m e knows. knows) held o.sending,
      );
      carriers = o.carriers;
      words = record {
        state = first STATE (omega arith) (λ e. omega (arith, e)) (λ e. omega (arith, e)) (λ e. omega (arith, e)) ∙ o.state;
        on = λ still. record { sequences = o.sequences (word_of f) first nexts; runs = begun_runs t (word_of f) quiet holds running position };
        banks = λ b k known internal. banks_held d held held1 now (word_of f) (view s) b k (sends_alike d held u q n first_place bs None device) (banks_now t (word_of f) quiet sends b k known internal);
        stored = λ j v is. absurd (none_in (j, v) (subst (λ xs. Contains xs (j, v)) (none_stored d s.mode s.channels held1 on ((refl, on), right)) is));
      };
      set_ups = λ still b k known external. users (set_up_word (placed_of d b)) (past_the_first d b k (set_up_word (placed_of d b)) (fits.channels b k known) (of_set_up d fits b k known)) (quiet_set_up d fits u few (next_job d p) job.0 job.1 b k known) ∙ o.set_ups b k known external;
      sizes = λ still. o.sizes;
      arrays = λ b. record {
        source = λ i lt. users (place_of (Source b) i) (omega arith) (quiet_users d fits u few (next_job d p) job.0 job.1 (place_of (Source b) i) (omega arith)) ∙ (o.arrays b).source i lt;
        destination = λ i lt. users (place_of (Destination b) i) (omega arith) (quiet_users d fits u few (next_job d p) job.0 job.1 (place_of (Destination b) i) (omega arith)) ∙ (o.arrays b).destination i lt;
      };
      lines = λ m lt. ap (λ x. has_bit x.control.enabled (26 + m)) rest ∙ o.lines m lt;
      owed = λ m x lt none there mine. owed_by m x lt none there mine (same_or_other m u);
    }

  -- ---- the moves

  module _ (at : Position) where
    is_job : job_of d (job_at_place d q n) ≡ Some job.0
    is_job = ap (job_of d) (sym o.job) ∙ job.1

    whole_base : HasWords base
    whole_base = o.outside.all.words

    sends_base : (i b : ℕ) (k : Channel) → slice_get (channels_of d (job_at_place d q n)) i ≡ Some b → channel_of d b ≡ Some k → k.internal ≡ true → SentAt d held s b k (word_of base) false
    sends_base i b k there known internal = sent_before t (word_of base) i b k (ap (λ j. slice_get (channels_of d j) i) o.job ∙ there) known internal (λ j own. sym (o.seen j))

    set_ups_base : (b : ℕ) (k : Channel) → channel_of d b ≡ Some k → k.internal ≡ false → packed (or_none (word_of base (set_up_word (placed_of d b))) (placed_of d b).channel) ≡ packed (as_read (set_up_or k (channel_at s b).set_up))
    set_ups_base b k known external =
        ap (λ v. packed (or_none v (placed_of d b).channel)) (o.seen (set_up_word (placed_of d b)) ∙ o.set_ups b k known external)
        ∙ ap (λ x. packed (or_none (set_up_code (channel_at s b).set_up) x)) (has_channel d fits b k known)
        ∙ ap packed (read_set_up k (channel_at s b).set_up (fits.channels b k known).few ((o.sizes b k known).set_up external))

    abbrev Done : Chip → Type 0
    Done c = SpiRepresents d held1 c w s

    abbrev On : Chip → Type 0
    On c = ready.All d fits q u n few at bs job.0 is_job held s base whole_base sends_base set_ups_base c

    over : (c : Chip) → On c → word_of c (running_word u) ≡ packed_run (run_sent (body d q u n at bs place.Run)) → word_of c (position_word u) ≡ 0 → Done (ready.told d fits q u n few at bs job.0 is_job held s base whole_base sends_base set_ups_base c)
    over c a running position =
        begun_agrees final (ap (λ (x : Chip). record x { words = final.words }) a.rest) (length_after c (Store NEXTS value) 0 ∙ a.whole)
        (λ i is ne. stored_other c NEXTS value 0 i ne ∙ a.beside i (subst (λ j. IsBeside d u j i) o.job is) ∙ o.seen i)
        (λ i b k there known internal. sent_told b k known internal (is_to_begin first_place i k.length) (a.sends i b k (moved i b there) known internal))
        (λ i b k there known external. stored_other c NEXTS value 0 (held_word (placed_of d b)) (past_it (held_word (placed_of d b)) (past_the_first d b k (held_word (placed_of d b)) (fits.channels b k known) (of_held d fits b k known))) ∙ a.holds i b k (moved i b there) known external refl)
        (stored_other c NEXTS value 0 (running_word u) (λ e. omega (arith, e)) ∙ running ∙ ap (λ j. packed_run (record { job = j; sequence = q })) (sym o.job) ∙ ap (λ z. packed_run (record { job = next_job d p; sequence = z })) (sym o.sequence))
        (stored_other c NEXTS value 0 (position_word u) (λ e. omega (arith, e)) ∙ position)
        (stored_same c NEXTS value 0 (omega arith) a.whole ∙ ap (λ v. with_next_in v q n) (a.beside NEXTS (beside_first d fits u few (job_at_place d q n) job.0 is_job held s base NEXTS (omega arith) (λ e. omega (arith, e)) (λ e. omega (arith, e))) ∙ o.seen NEXTS))
      where
        value : ℕ
        value = with_next_in (word_of c NEXTS) q n

        final : Chip
        final = chip_after c (Store NEXTS value) 0

        past_it : (i : ℕ) → STATE + 64 ≤ i → i ≢ NEXTS
        past_it i le e = omega (arith, le, e)

        moved : (i b : ℕ) → slice_get (channels_of d (next_job d p)) i ≡ Some b → slice_get (channels_of d (job_at_place d q n)) i ≡ Some b
        moved i b there = ap (λ j. slice_get (channels_of d j) i) (sym o.job) ∙ there

        sent_told : (b : ℕ) (k : Channel) → channel_of d b ≡ Some k → k.internal ≡ true → (z : Bool) → SentAt d held s b k (word_of c) z → SentAt d held s b k (word_of final) z
        sent_told b k known internal z (x, is, stands) =
            (x, is, stands-agree (trio_of (placed_of d b) Sent) (word_of c) (word_of final) (sent_by z x) (λ i own. sym (stored_other c NEXTS value 0 i (past_it i (past_the_first d b k i (fits.channels b k known) (of_banks d fits b k known internal Sent i own))))) stands)

    -- from where its channels are to be made ready
    pub opened_owes : CommitsAfter (spi_owing d) (Some (Sends (body d q u n at bs (sync_prepares (body d q u n at bs place.Run))))) base Done
    opened_owes = ready.prepares_owed d fits q u n few at bs job.0 is_job held s base whole_base sends_base set_ups_base Done over
