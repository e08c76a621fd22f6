-- What a start owes its window once its first word begins, and the agreement after that.
-- From words.ReadyWords, bookkeeping.RanState, spi_sequences: services.StartSteps and 17 more.
-- Used by services.StartRight, services.StartAround, sending.services.SendReady.
use Rattle.std.proofs.Common.{◌≡◌, ◌≢◌, ◌+◌, ◌<◌, ◌&&◌, [], ◌∷◌, ◌∙◌, ◌⊎◌, if◌then◌else◌}
use Rattle.spi_laws.specs.starting.Terms
use Terms.{after_start, all_pending, Answer, ap, AreThere, arith, as_read, bit_or, Bool, Channel, channel_at}
use Terms.{channel_number, channel_of, channels_of, Chip, chip_after, choice, choice_next, choosing_next, Chosen}
use Terms.{cleared_of, clears, CommitsAfter, control_word, DiffersIn, entries_of, false, FrameRole, from_order}
use Terms.{has_channel, HasWords, held_is, holds-agree, in_order, inl, inr, is_some, is_to_begin, IsPart, Job, job_of}
use Terms.{length_after, List, list_of, Main, MARKS, may_store, named_own, nat_le, nat_lt, nat_tests, Next, next-ends}
use Terms.{next_gave, next_job, next_on, NEXTS, None, none, not_first, not_true, number_of, one_owed, Option, or_none}
use Terms.{order_there, order_word, own_banks, own_first, own_low, own_order, packed, packed_run, PartTo, Pending}
use Terms.{PendingWrites, pinning, Placed, placed_by, placed_of, position_word, Prepare, prepare_at, prepare_by}
use Terms.{prepare_ends, prepare_left, prepared, prepared_with, ranks_in, refl, release-ends, releasing, releasing_of}
use Terms.{Reservations, Running, running_word, search_of, Sent, SerialData, set_up_or, set_up_word, settles_part}
use Terms.{slice_get, Some, some_is, spi_owing, SpiRepresents, SpiState, SpiTable, stands-move, start_chooses}
use Terms.{start_owes, start_prepares, start_releases, Started, started_bit, StartPlace, Store, stored_other}
use Terms.{stored_same, subst, suc, sym, Take, take_gave, taking, to_order, trio_fits, trio_of, TripleBuffer, true}
use Terms.{unit_over, unit_owed, UnitBody, UnitPlace, Units, unless_done, view, waiting, where_owed, whether_as}
use Terms.{word_of, Write, zero, ℕ}
use Rattle.spi_laws.specs.starting.laws.bookkeeping.RanState.{Along, debt_of, first_chip, first_place, quiet_set_up, Ran}
use Rattle.spi_laws.specs.starting.laws.{bookkeeping.RanState.{ran_state, sent_by, SentAt}, ToBegin.{of_start}}
use Rattle.spi_laws.specs.starting.laws.{ToStart.{ToStart}, words.PinnedBanks.{first_there, number_at, sent_before, the_job}}
use Rattle.spi_laws.specs.starting.laws.words.ReadyWords.{before, beside_first, beside_quiet, from_none, OwesReady, Ready}
use Rattle.spi_laws.specs.starting.laws.words.ReadyWords.{ready_at, ready_by, ready_first, ready_from, ready_next}
use Rattle.spi_laws.specs.starting.laws.{words.ReadyWords.{ready_sent, upto}, words.UnitWords.{IsTurned, ran_agrees}}
use Rattle.spi_laws.specs.starting.laws.words.UnitWords.{run_here}
use Rattle.mcal_base.specs.facts.Numbers.{lt_zero}
use Rattle.word_shapes.specs.Playing as playing
use Rattle.word_shapes.specs.TripleBuffer as trio
use Rattle.word_shapes.specs.declared.take.Take.TheVariants as takes
use Rattle.spi_sequences.specs.declared.service.start.StartPlace.TheVariants as start
use Rattle.spi_sequences.specs.declared.service.unit.UnitPlace.TheVariants as units
use Rattle.word_shapes.specs.Order as order
use Rattle.word_shapes.specs.PriorityQueue as ranked
use Rattle.word_shapes.specs.declared.choosing.Next.TheVariants as nexts

-- ---- which places follow

-- the frame at a place of its start window
abbrev pub starting : SpiTable → FrameRole → (number : ℕ) → StartPlace → UnitBody
starting d e u x = record { table = d; errand = e; unit = u; place = units.Start x }

-- after the last move the window owes nothing
pub over_owes : (k : UnitBody) (x : UnitPlace) (e : FrameRole) (u : ℕ) → unless_done (unit_over k x e u).1.done (unit_owed (unit_over k x e u).0) ≡ None
over_owes k x Main zero = grind arith
over_owes k x _ _ = refl

prepared_owes : (r : Running) (x : Placed) → start_owes (prepared_with r x) ≡ true
prepared_owes r x = grind arith

pub prepare_owes : (d : SpiTable) (r : Running) (i : ℕ) → start_owes (prepare_at d r i) ≡ true
prepare_owes d r i = grind arith

abbrev pub next_place : SpiTable → Running → (place : ℕ) → StartPlace
next_place d r i = if nat_lt i 3 then prepare_at d r (i + 1) else prepared d r

pub next_owes : (d : SpiTable) (r : Running) (i : ℕ) → start_owes (next_place d r i) ≡ true
next_owes d r i = grind arith

pub begins_later : (i k : ℕ) → is_to_begin first_place (suc i) k ≡ true
begins_later i k = grind (arith, nat_tests)

begins_some : (k : ℕ) → nat_le k 1 ≡ false → is_to_begin first_place 0 k ≡ true
begins_some k e = grind (arith, nat_tests)

begins_none : (k : ℕ) → nat_le k 1 ≡ true → is_to_begin first_place 0 k ≡ false
begins_none k e = grind (arith, nat_tests)

-- ---- from the chip where the order and the marks have the start

-- what a start has chosen: the next job of this sequence, by the words of next jobs and of marks
abbrev pub choosing : SpiTable → Chip → Pending → Chosen
choosing d chip p = record { run = record { job = next_job d p; sequence = p.sequence }; nexts = word_of chip NEXTS; marks = word_of chip MARKS }

module _ (st : ToStart) (word received : ℕ) (turned : IsTurned st.d st.chip st.s st.u st.p) (errand : FrameRole) where
  open st use {d, fits, below, owner, acted, chip, w, s, u, h, p, there, for, free}

  abbrev held : Reservations
  held = debt_of u owner acted ∷ below

  abbrev after : SpiState
  after = ran_state d below owner acted chip w s u h p word received

  abbrev cs : List ℕ
  cs = channels_of d (next_job d p)

  abbrev r : Running
  r = record { job = next_job d p; sequence = p.sequence }

  abbrev at : StartPlace → PendingWrites
  at x = Units (starting d errand u x)

  abbrev Done : Chip → Type 0
  Done c = SpiRepresents d (cleared_of u owner acted ∷ below) c w after

  abbrev Settling : StartPlace → Chip → Type 0
  Settling x c = CommitsAfter (spi_owing d) (Some (at x)) c Done

  few : u < 2
  few = h.right.0.0

  -- what is owed after a step of the start
  abbrev left_by : StartPlace → StartPlace × Started → Option PendingWrites
  left_by x z = unless_done (after_start (starting d errand u x) z).1.done (unit_owed (after_start (starting d errand u x) z).0)

  -- ---- from the chip where the order and the marks have the start

  module _ (c0 : Chip) (a0 : Along d below owner acted chip w s u h p word received (upto 0 0) (before 0) c0) where
    abbrev job : (k : Job) × (job_of d (next_job d p) ≡ Some k)
    job = the_job (of_start st)

    abbrev On : ((place length : ℕ) → Bool) → (ℕ → Bool) → Chip → Type 0
    On f g c = Ready d fits u few (next_job d p) job.0 job.1 held s c0 f g c

    along_of : (f : (place length : ℕ) → Bool) (g : ℕ → Bool) (c : Chip) → On f g c → Along d below owner acted chip w s u h p word received f g c
    along_of f g c a = record {
      rest = a.rest ∙ ap (λ (x : Chip). record x { words = c.words }) a0.rest;
      whole = a.whole;
      quiet = λ i is. a.beside i (beside_quiet d u (next_job d p) i is) ∙ a0.quiet i is;
      order = holds-agree (record { at = order_word u }) (word_of c0) (word_of c) _ (λ j mine. let range = in_order u j few mine in let low = from_order u j mine in sym (a.beside j (beside_first d fits u few (next_job d p) job.0 job.1 held s c0 j range.1 (λ e. omega (arith, low, e)) (λ e. omega (arith, low, e))))) a0.order;
      marks = a.beside MARKS (beside_first d fits u few (next_job d p) job.0 job.1 held s c0 MARKS (omega arith) (λ e. omega (arith, e)) (λ e. omega (arith, e))) ∙ a0.marks;
      sends = a.sends;
      holds = a.holds;
    }

    -- ---- the last moves

    -- the unit runs the job, with its first word in transfer
    runs_owed : (c : Chip) → On (is_to_begin first_place) (λ n. true) c → Settling (start.Run r) c
    runs_owed c a =
        one_owed (spi_owing d) Done (at (start.Run r)) c (Some (at start.Stand)) (may_store d fits (running_word u) (packed_run r) (own_first d (running_word u) (omega arith) (omega (arith, few)))) tt refl
        (one_owed (spi_owing d) Done (at start.Stand) second None (may_store d fits (position_word u) 0 (own_first d (position_word u) (omega arith) (omega (arith, few)))) tt (over_owes (starting d errand u start.Stand) (units.Start start.Stand) errand u)
        (clears d below third w after u owner acted fits (ran_agrees st word received third ran turned) (λ q none also for_q. let run = sym (run_here st word received) ∙ none in cc)))
      where
        second : Chip
        second = chip_after c (Store (running_word u) (packed_run r)) 0

        third : Chip
        third = chip_after second (Store (position_word u) 0) 0

        a2 : On (is_to_begin first_place) (λ n. true) second
        a2 = ready_first d fits u few (next_job d p) job.0 job.1 held s c0 c (is_to_begin first_place) (λ n. true) (running_word u) (packed_run r) a (omega (arith, few)) (λ i is. is.0)

        a3 : On (is_to_begin first_place) (λ n. true) third
        a3 = ready_first d fits u few (next_job d p) job.0 job.1 held s c0 second (is_to_begin first_place) (λ n. true) (position_word u) 0 a2 (omega (arith, few)) (λ i is. is.1)

        ran : Ran d below owner acted chip w s u h p word received third
        ran = record {
          along = along_of (is_to_begin first_place) (λ n. true) third a3;
          running = stored_other second (position_word u) 0 0 (running_word u) (λ e. omega (arith, e)) ∙ stored_same c (running_word u) (packed_run r) 0 (omega (arith, few)) a.whole;
          position = stored_same second (position_word u) 0 0 (omega (arith, few)) a2.whole;
        }

    -- ---- a side of a channel

    goes_on : (x : StartPlace) → start_owes x ≡ true → where_owed (start_owes x) (at x) ≡ Some (at x)
    goes_on x e = ap (λ q. where_owed q (at x)) e

    module _ (b : ℕ) (k : Channel) (known : channel_of d b ≡ Some k) (internal : k.internal ≡ true) where
      abbrev side : TripleBuffer
      side = trio_of (placed_of d b) Sent

      side_there : AreThere (trio.own_of side)
      side_there j own = let low = own_low d fits j (own_banks d fits b k known internal Sent j own) in omega (arith, low)

      release_steps : (y : Take) (v : ℕ) (o : Option Answer) → (take_gave y v).ended ≡ o → PartTo taking (spi_owing d) (λ z. at (start.Release r z)) (λ xs. Some (at (start.Run r))) y v o
      release_steps y v None e = ap (λ q. left_by (start.Release r y) (start_releases r y v q)) (ap is_some e)
      release_steps y v (Some x) e = ap (λ q. left_by (start.Release r y) (start_releases r y v q)) (ap is_some e)

      release_part : IsPart taking (trio.own_of side) (spi_owing d) (λ z. at (start.Release r z)) (λ xs. Some (at (start.Run r)))
      release_part = record {
        moves = λ z. refl;
        steps = λ z v. release_steps z v (take_gave z v).ended refl;
        named = named_own d fits (trio.own_of side) (λ j own. own_banks d fits b k known internal Sent j own);
        fits = λ z c. tt;
      }

    -- ---- the end of the pin of the first channel

    module _ (n : ℕ) (c : Chip) (a : On (upto 0 n) (before n) c) (all : (i b : ℕ) → slice_get cs i ≡ Some b → nat_lt i n ≡ true) (b : ℕ) (first : slice_get cs 0 ≡ Some b) (k : Channel) (known : channel_of d b ≡ Some k) where
      same : (placed_of d b).channel ≡ k
      same = has_channel d fits b k known

      one_first : (i a : ℕ) → slice_get cs i ≡ Some a → i ≡ 0 → a ≡ b
      one_first i a e z = some_is a b (sym e ∙ ap (slice_get cs) z ∙ first)

      -- no pin has to end
      run_next : ((x : Channel) → channel_of d b ≡ Some x → x.internal ≡ true → nat_le x.length 1 ≡ false) → On (is_to_begin first_place) (λ n. true) c
      run_next long = record {
        rest = a.rest;
        whole = a.whole;
        beside = a.beside;
        sends = λ i b1 x here is inner. subst (λ q. SentAt d held s b1 x (word_of c) q) (from_none n i ∙ all i b1 here ∙ sym (begins i b1 x here is inner)) (a.sends i b1 x here is inner);
        holds = λ i b1 x here is outer now. a.holds i b1 x here is outer (all i b1 here);
      }
        where
          begins : (i b1 : ℕ) (x : Channel) → slice_get cs i ≡ Some b1 → channel_of d b1 ≡ Some x → x.internal ≡ true → is_to_begin first_place i x.length ≡ true
          begins zero b1 x here is inner = begins_some x.length (long x (subst (λ z. channel_of d z ≡ Some x) (one_first 0 b1 here refl) is) inner)
          begins (suc i) b1 x here is inner = begins_later i x.length

      released : k.internal ≡ true → nat_le k.length 1 ≡ true → Settling (start.Release r (releasing_of (placed_of d b) Sent)) c
      released internal short =
          settles_part taking (trio.own_of (trio_of (placed_of d b) Sent)) (spi_owing d) (λ z. at (start.Release r z)) (λ xs. Some (at (start.Run r))) (release_part b k known internal) (side_there b k known internal)
          (λ m words. (words ≡ []) × trio.Stands (trio_of (placed_of d b) Sent) m x.0) Done 2 (takes.Release (control_word (placed_of d b) Sent)) c a.whole
          (subst (λ z. playing.Ends taking (trio.own_of (trio_of (placed_of d b) Sent)) 2 (takes.Release (control_word (placed_of d b) Sent)) (word_of c) (λ m words. (words ≡ []) × trio.Stands (trio_of (placed_of d b) Sent) m z)) unpinned (release-ends (trio_of (placed_of d b) Sent) (word_of c) (pinning x.0) (trio_fits d fits b k known internal Sent) pinned))
          (λ c1 words differs stands. runs_owed c1 (ready_sent d fits u few (next_job d p) job.0 job.1 held s c0 0 b k first known c c1 (upto 0 n) (is_to_begin first_place) (before n) (λ n. true) internal differs a (subst (λ q. SentAt d held s b k (word_of c1) q) (sym (begins_none k.length short)) (x.0, x.1, stands.1)) others ready))
        where
          x : SentAt d held s b k (word_of c) (nat_lt 0 n)
          x = a.sends 0 b k first known internal

          pinned : trio.Stands (trio_of (placed_of d b) Sent) (word_of c) (pinning x.0)
          pinned = subst (λ q. trio.Stands (trio_of (placed_of d b) Sent) (word_of c) (sent_by q x.0)) (all 0 b first) x.2

          unpinned : releasing (pinning x.0) ≡ x.0
          unpinned = ap (λ o. record x.0 { take = o }) (sym x.1.free)

          others : (i len a : ℕ) → slice_get cs i ≡ Some a → i ≢ 0 → upto 0 n i len ≡ is_to_begin first_place i len
          others zero len b1 here ne = absurd (ne refl)
          others (suc i) len b1 here ne = from_none n (suc i) ∙ all (suc i) b1 here ∙ sym (begins_later i len)

          ready : (i a : ℕ) → slice_get cs i ≡ Some a → i ≢ 0 → true ≡ true → nat_lt i n ≡ true
          ready i b1 here ne e = all i b1 here

      run_kept : nat_le k.length 1 ≡ false ⊎ (k.internal ≡ false) → On (is_to_begin first_place) (λ n. true) c
      run_kept q = run_next (λ x is inner. by (some_is x k (sym is ∙ known)) q inner)
        where
          by : {x : Channel} → x ≡ k → (nat_le k.length 1 ≡ false) ⊎ (k.internal ≡ false) → x.internal ≡ true → nat_le x.length 1 ≡ false
          by e (inl long) inner = ap (λ z. nat_le z.length 1) e ∙ long
          by e (inr external) inner = absurd (let f = sym external ∙ sym (ap (λ z. z.internal) e) ∙ inner in cc)

      -- what follows the last channel
      finished_by : (i short : Bool) → k.internal ≡ i → nat_le k.length 1 ≡ short → Settling (if i && short then start.Release r (releasing_of (placed_of d b) Sent) else start.Run r) c
      finished_by true true e f = released e f
      finished_by true false e f = runs_owed c (run_kept (inl f))
      finished_by false short e f = runs_owed c (run_kept (inr e))

      finished : Settling (prepared d r) c
      finished =
          subst (λ o. Settling (prepared_with r (placed_by d o)) c) (sym (number_at d (next_job d p) job.0 job.1 0 ∙ first))
          (subst (λ (z : Channel). Settling (if z.internal && nat_le z.length 1 then start.Release r (releasing_of (placed_of d b) Sent) else start.Run r) c) (sym same) (finished_by k.internal (nat_le k.length 1) refl refl))

    -- ---- all of them

    abbrev each : ℕ → Prepare → PendingWrites
    each i y = at (start.Prepare r i y)

    abbrev last : PendingWrites
    last = at (prepared d r)

    place_is : (i : ℕ) (o : Option ℕ) → at (prepare_by d r i o) ≡ ready_by d (next_job d p) each last i o
    place_is i None = refl
    place_is i (Some c) = refl

    next_is : (i : ℕ) → at (next_place d r i) ≡ ready_next d (next_job d p) each last i
    next_is i = whether_as (nat_lt i 3) (λ q. at (if q then prepare_at d r (i + 1) else prepared d r) ≡ (if q then ready_at d (next_job d p) each last (i + 1) else last))
        (λ _. place_is (i + 1) (channel_number (list_of d r.job) (i + 1)))
        (λ _. refl)

    owes : OwesReady d (next_job d p) each last
    owes = record { moves = λ i y. refl; lefts = λ i y v. lefts i y v (prepare_ends y v) }
      where
        lefts : (i : ℕ) (y : Prepare) (v : ℕ) (q : Bool) → left_by (start.Prepare r i y) (start_prepares d r i y v q) ≡ Some (if q then ready_next d (next_job d p) each last i else each i (prepare_left y v))
        lefts i y v true = goes_on (next_place d r i) (next_owes d r i) ∙ ap (λ z. Some z) (next_is i)
        lefts i y v false = refl

    -- from the first channel on
    pub from_first : Settling (prepare_at d r 0) c0
    from_first =
        subst (λ x. CommitsAfter (spi_owing d) (Some x) c0 Done) (sym (place_is 0 (channel_number (list_of d r.job) 0)))
        (ready_from d fits u few (next_job d p) job.0 job.1 held s c0 each last owes 0 Done set_ups (λ n c a all. let f = first_there d fits u p for in finished n c a all f.0 f.2.at f.1 f.2.known) 4 0 refl refl c0 ready)
      where
        set_ups : (b : ℕ) (k : Channel) → channel_of d b ≡ Some k → k.internal ≡ false → packed (or_none (word_of c0 (set_up_word (placed_of d b))) (placed_of d b).channel) ≡ packed (as_read (set_up_or k (channel_at s b).set_up))
        set_ups b k known external =
            ap (λ v. packed (or_none v (placed_of d b).channel)) (a0.quiet (set_up_word (placed_of d b)) (quiet_set_up d fits u few (next_job d p) job.0 job.1 b k known)) ∙ held_is d fits held chip w s h h.right.0.1 b k known external

        ready : On (upto 0 0) (before 0) c0
        ready = record { rest = refl; whole = a0.whole; beside = λ i is. refl; sends = a0.sends; holds = a0.holds }

  -- ---- from the chip where the first word begins

  module _ (next : next_on d u s.pending ≡ Some p) where
    abbrev later : Chip
    later = first_chip d below owner acted chip w s u h p word received

    abbrev chose : Chosen
    chose = choosing d chip p

    abbrev ranks : List ℕ
    ranks = ranks_in d (word_of chip NEXTS) (word_of chip MARKS)

    abbrev own : ℕ → Bool
    own = ranked.own_of (record { at = order_word u })

    whole : HasWords later
    whole = (stands-move chip w (Write (SerialData u) word) received h.outside).all.words

    -- ---- the choice

    choose_steps : (y : Next) (v : ℕ) (o : Option Answer) → (next_gave y v).ended ≡ o → PartTo choosing_next (spi_owing d) (λ z. at (start.Choose chose z)) (λ xs. Some (at (start.Mark chose))) y v o
    choose_steps y v None e = ap (λ q. left_by (start.Choose chose y) (start_chooses chose y v q)) (ap is_some e)
    choose_steps y v (Some x) e = ap (λ q. left_by (start.Choose chose y) (start_chooses chose y v q)) (ap is_some e)

    choose_part : IsPart choosing_next own (spi_owing d) (λ z. at (start.Choose chose z)) (λ xs. Some (at (start.Mark chose)))
    choose_part = record {
      moves = λ z. refl;
      steps = λ z v. choose_steps z v (next_gave z v).ended refl;
      named = named_own d fits own (λ j mine. own_order d u j few mine);
      fits = λ z c. tt;
    }

    chosen_is : order.chosen (choice ranks (entries_of d (view s) u)) (entries_of d (view s) u) ≡ waiting p.sequence false (entries_of d (view s) u)
    chosen_is =
        ap (λ n. order.chosen n (entries_of d (view s) u)) (choice_next d fits held chip w s h h.right.0.1 u few free ∙ ap number_of next)
        ∙ ap (λ b. if b then waiting p.sequence false (entries_of d (view s) u) else entries_of d (view s) u) (small p.sequence (h.sound.entries p (all_pending (view s) p there)).number)
      where
        small : (n : ℕ) → n < 8 → nat_lt n none ≡ true
        small n lt = grind (arith, nat_tests)

    -- ---- the mark

    module _ (c : Chip) (differs : DiffersIn own later c) (holds : ranked.Holds (record { at = order_word u }) (word_of c) (waiting p.sequence false (entries_of d (view s) u))) where
      abbrev mark : ℕ
      mark = bit_or (word_of chip MARKS) (started_bit p.sequence)

      abbrev marked : Chip
      marked = chip_after c (Store MARKS mark) 0

      as_before : (i : ℕ) → own i ≡ false → i ≢ MARKS → word_of marked i ≡ word_of chip i
      as_before i away ne = stored_other c MARKS mark 0 i ne ∙ differs.others i away

      sends_now : (n b : ℕ) (k : Channel) → slice_get cs n ≡ Some b → channel_of d b ≡ Some k → k.internal ≡ true → SentAt d held s b k (word_of marked) (upto 0 0 n k.length)
      sends_now n b k here known internal =
          subst (λ q. SentAt d held s b k (word_of marked) q) (sym (from_none 0 n ∙ lt_zero n))
          (sent_before (of_start st) (word_of marked) n b k here known internal kept)
        where
          kept : (i : ℕ) → trio.own_of (trio_of (placed_of d b) Sent) i ≡ true → word_of chip i ≡ word_of marked i
          kept i mine = sym (as_before i (not_true (own i) (λ e. let f = sym mine ∙ not_first d fits b k known internal Sent i (let high = to_order u i e in omega (arith, high, few)) in cc)) (λ e. let f = sym mine ∙ ap (trio.own_of (trio_of (placed_of d b) Sent)) e ∙ not_first d fits b k known internal Sent MARKS (omega arith) in cc))

      along : Along d below owner acted chip w s u h p word received (upto 0 0) (before 0) marked
      along = record {
        rest = ap (λ (x : Chip). record x { words = marked.words }) differs.rest;
        whole = length_after c (Store MARKS mark) 0 ∙ differs.whole;
        quiet = λ i is. as_before i is.0 is.1;
        order = holds-agree (record { at = order_word u }) (word_of c) (word_of marked) _ (λ j mine. sym (stored_other c MARKS mark 0 j (λ e. let low = from_order u j mine in omega (arith, low, e)))) holds;
        marks = stored_same c MARKS mark 0 (omega arith) differs.whole;
        sends = sends_now;
        holds = λ n b k here known external now. absurd (let f = sym (lt_zero n) ∙ now in cc);
      }

      marks_owed : Settling (start.Mark chose) c
      marks_owed =
          one_owed (spi_owing d) Done (at (start.Mark chose)) c (Some (at (prepare_at d chose.run 0))) (may_store d fits MARKS mark (own_first d MARKS (omega arith) (omega arith))) tt (ap (λ q. where_owed q (at (prepare_at d chose.run 0))) (prepare_owes d chose.run 0))
          (from_first marked along)

    -- what is owed once the word has begun
    pub begun_owes : Settling (start.Choose chose (nexts.Look (search_of u) ranks)) later
    begun_owes =
        settles_part choosing_next own (spi_owing d) (λ z. at (start.Choose chose z)) (λ xs. Some (at (start.Mark chose))) choose_part (order_there u few)
        (λ m words. ranked.Holds (record { at = order_word u }) m (order.chosen (choice ranks (entries_of d (view s) u)) (entries_of d (view s) u)) × (words ≡ choice ranks (entries_of d (view s) u) ∷ [])) Done
        _ (nexts.Look (search_of u) ranks) later whole (next-ends (record { at = order_word u }) ranks (word_of chip) (entries_of d (view s) u) ((h.words.on h.right.0.1).sequences.orders u few))
        (λ c words differs now. marks_owed c differs (subst (λ xs. ranked.Holds (record { at = order_word u }) (word_of c) xs) chosen_is now.0))
