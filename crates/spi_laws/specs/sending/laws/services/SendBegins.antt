-- Where a call that sends a sequence and waits begins, and that it makes no more steps than it may.
-- From spi_sequences: services.SyncSteps, services.SendAround, spi_sequences: bookkeeping.SequenceEnded and 4 more.
-- Used by spi_driver: bookkeeping.Lawful.
use Rattle.std.proofs.Common.{◌≡◌, ◌+◌, ◌-◌, ◌*◌, ◌<◌, ◌≤◌, ◌==◌, ◌||◌, ◌∷◌, [], ◌∙◌, if◌then◌else◌}
use Rattle.std.proofs.Common.{sum_by, take_all}
use Rattle.std.proofs.lemmas.List.Sums.{sum_by_more}
use Rattle.spi_laws.specs.sending.Terms
use Terms.{AllLet, AllRight, ap, arith, blocks, Bool, Call, Called, Channel, channel_number, channel_of, channels_by}
use Terms.{channels_of, ChannelState, Chip, class_of, false, first_place, FitsSpi, fresh_history, get_contained}
use Terms.{get_there, has_channel, HeldRight, is_below, is_number, is_off, is_past, is_sent, is_some}
use Terms.{is_sync_sequence, Is_this_frame, Job, job_at_place, job_number, job_of, job_steps, jobs_by, jobs_in}
use Terms.{jobs_list, jobs_of, length, length-take-le, length_by, List, list_any, list_by, list_of, mark_of, Mode}
use Terms.{nat_lt, None, Option, or_else, placed_by, placed_of, refl, Reservation, Reservations, ReservedBy}
use Terms.{same_number, Sending, sent_steps, Sequence, sequence_of, slice_get, slice_index_or, Some, some_of}
use Terms.{spi_setting, SpiRepresents, SpiState, SpiTable, subst, suc, sym, sync_begins, SyncTransmit, take, true}
use Terms.{unit_of_sequence, whether, World, zero, ℕ}
use Rattle.spi_laws.specs.sending.Sending.{at_least_one, jobs_left, size_at, sync_bodies, words_left}
use Rattle.spi_laws.specs.sending.laws.services.SendAround.{StandAt}
use Rattle.spi_machine.specs.declared.call.Call.TheVariants as calls

-- ---- none below it sends its sequence

module _ (d : SpiTable) (mode : Mode) (cs : List ChannelState) (q : ℕ) where
  -- no frame below that would block it sends it
  not_sent : (h : ReservedBy Call Reservation) (x : Reservation) → HeldRight d mode cs h x → blocks (class_of (calls.Sequence q SyncTransmit)) (mark_of (spi_setting d) h.by) ≡ false → is_sent q x ≡ false
  not_sent h (Sending u p n at banks failed device) right l = whether (p == q)
      (λ e. absurd (let f = ap (λ k. q == k) (is_number p q e) ∙ same_number q in let g = other in cc))
      (λ e. e)
    where
      other : (q == p) ≡ false
      other = subst (λ o. blocks (class_of (calls.Sequence q SyncTransmit)) (mark_of (spi_setting d) o) ≡ false) right.0 l
  not_sent h _ right l = refl

  pub none_sends : (below : Reservations) → AllRight d mode cs below → AllLet (spi_setting d) (class_of (calls.Sequence q SyncTransmit)) below → list_any (λ h. is_sent q h.what) below ≡ false
  none_sends [] right lets = refl
  none_sends (h ∷ hs) right lets = ap (λ x. x || list_any (λ z. is_sent q z.what) hs) (not_sent h h.what right.0 lets.0) ∙ none_sends hs right.1 lets.1

pub begins_at : (d : SpiTable) (below : Reservations) (chip : Chip) (w : World) (s : SpiState) (q : ℕ) → q < 8 → is_some (sequence_of d q) ≡ true → is_sync_sequence d q ≡ true → is_off s.mode ≡ false → AllLet (spi_setting d) (class_of (calls.Sequence q SyncTransmit)) below → SpiRepresents d below chip w s
    → StandAt d below chip w s (sync_begins d q (unit_of_sequence d q)) (Called (calls.Sequence q SyncTransmit)) fresh_history
begins_at d below chip w s q lt known sync on lets h = (
  h,
  (
    record {
      this = Is_this_frame;
      table = refl;
      small = lt;
      known = known;
      sync = sync;
      unit = refl;
      four = refl;
      alone = none_sends d s.mode s.channels q below h.right lets;
    },
    refl,
    on,
  ),
)

-- ---- its steps

some_words : (n : ℕ) → 15 * at_least_one n ≤ 16 * n + 15
some_words zero = omega arith
some_words (suc n) = omega arith

some_size : (n : ℕ) → 1 ≤ at_least_one n
some_size zero = omega arith
some_size (suc n) = omega arith

all_words : (n : ℕ) → 0 < n → 15 * at_least_one n + 1 ≤ 16 * n
all_words zero lt = absurd (omega (arith, lt))
all_words (suc n) lt = omega arith

-- what is so many at each number, at a place of a list; none behind it
abbrev at_number : (ℕ → ℕ) → Option ℕ → ℕ
at_number f None = 0
at_number f (Some c) = f c

-- of four numbers
four : (f : ℕ → ℕ) (xs : List ℕ) → length xs ≤ 4 → sum_by f xs ≡ at_number f (slice_get xs 0) + (at_number f (slice_get xs 1) + (at_number f (slice_get xs 2) + at_number f (slice_get xs 3)))
four f [] few = refl
four f (a ∷ []) few = omega arith
four f (a ∷ b ∷ []) few = omega arith
four f (a ∷ b ∷ c ∷ []) few = omega arith
four f (a ∷ b ∷ c ∷ e ∷ []) few = omega arith
four f (a ∷ b ∷ c ∷ e ∷ x ∷ xs) few = absurd (omega (arith, few))

-- the number at a place
number_is : (xs : List ℕ) (n j : ℕ) → slice_get xs n ≡ Some j → slice_index_or xs n 0 ≡ j
number_is [] n j e = absurd (cc)
number_is (x ∷ xs) zero j e = cc
number_is (x ∷ xs) (suc n) j e = number_is xs n j e

module _ (d : SpiTable) (fits : FitsSpi d) where
  -- the words of a channel
  abbrev words_of : ℕ → ℕ
  words_of c = length_by (channel_of d c)

  length_is : (c : ℕ) (x : Channel) → channel_of d c ≡ Some x → (placed_of d c).channel.length ≡ words_of c
  length_is c x known = ap (λ z. z.length) (has_channel d fits c x known) ∙ sym (ap length_by known)

  module _ (j : ℕ) (x : Job) (known : job_of d j ≡ Some x) where
    -- the number at a place is that of one of its channels
    number_at : (i : ℕ) → channel_number (list_of d j) i ≡ slice_get (channels_of d j) i
    number_at i = ap (λ o. channel_number (list_by o) i) known ∙ sym (ap (λ o. slice_get (channels_by o) i) known)

    number_known : (i c : ℕ) → channel_number (list_of d j) i ≡ Some c → (c < 16) × (y : Channel) × (channel_of d c ≡ Some y)
    number_known i c e = (fits.jobs j x known).there c (get_contained (channels_of d j) i c (sym (number_at i) ∙ e))

    at_place : (i : ℕ) (o : Option ℕ) → channel_number (list_of d j) i ≡ o → 15 * at_least_one (placed_by d o).channel.length ≤ 16 * at_number words_of o + 15
    at_place i None e = omega arith
    at_place i (Some c) e =
        let there = number_known i c e in
        let few = some_words (placed_of d c).channel.length in
        let same = length_is c there.1 there.2 in
        omega (arith, few, same)

    long : length (channels_of d j) ≡ x.channels.count
    long =
        let row = (fits.jobs j x known).row in
        let few = (fits.jobs j x known).few in
        ap (λ o. length (channels_by o)) known ∙ length-take-le x.channels.count x.channels.numbers (omega (arith, row, few))

    at_first : 15 * at_least_one (placed_by d (channel_number (list_of d j) 0)).channel.length + 1 ≤ 16 * at_number words_of (channel_number (list_of d j) 0)
    at_first =
        let (c, e) = get_there (channels_of d j) 0 (let some = (fits.jobs j x known).some in let is = long in omega (arith, some, is)) in
        let is = number_at 0 ∙ e in
        let there = number_known 0 c is in
        let same = length_is c there.1 there.2 in
        let whole : (placed_of d c).channel.length ≡ there.1.length = ap (λ z. z.length) (has_channel d fits c there.1 there.2) in
        let some = (fits.channels c there.1 there.2).some in
        let few = all_words (placed_of d c).channel.length (omega (arith, whole, some)) in
        subst (λ o. 15 * at_least_one (placed_by d o).channel.length + 1 ≤ 16 * at_number words_of o) (sym is) (omega (arith, few, same))

    -- of a job
    job_few : 33 + 15 * words_left d j first_place ≤ job_steps d j
    job_few =
        let few = (fits.jobs j x known).few in
        let is = long in
        let all = four words_of (channels_of d j) (omega (arith, few, is)) in
        let first = ap (at_number words_of) (number_at 0) in
        let second = ap (at_number words_of) (number_at 1) in
        let third = ap (at_number words_of) (number_at 2) in
        let fourth = ap (at_number words_of) (number_at 3) in
        let most = sum (size_at d j 0) (size_at d j 1) (size_at d j 2) (size_at d j 3) (at_number words_of (channel_number (list_of d j) 0)) (at_number words_of (channel_number (list_of d j) 1)) (at_number words_of (channel_number (list_of d j) 2)) (at_number words_of (channel_number (list_of d j) 3))
        (some_size (placed_by d (channel_number (list_of d j) 0)).channel.length) at_first (at_place 1 (channel_number (list_of d j) 1) refl) (at_place 2 (channel_number (list_of d j) 2) refl) (at_place 3 (channel_number (list_of d j) 3) refl) in
        omega (arith, all, first, second, third, fourth, most)
      where
        sum : (a b c e x y z v : ℕ) → 1 ≤ a → 15 * a + 1 ≤ 16 * x → 15 * b ≤ 16 * y + 15 → 15 * c ≤ 16 * z + 15 → 15 * e ≤ 16 * v + 15 → 33 + 15 * ((a - (0 + 1)) + (b + (c + (e + 0)))) ≤ 64 + 16 * (x + (y + (z + v)))
        sum a b c e x y z v some first second third fourth = omega (arith, some, first, second, third, fourth)

  module _ (q : ℕ) (k : Sequence) (known : sequence_of d q ≡ Some k) where
    -- its jobs, and the steps of the first of them
    abbrev its_jobs : List ℕ
    its_jobs = take k.jobs.count k.jobs.numbers

    abbrev steps_to : ℕ → ℕ
    steps_to n = sum_by (job_steps d) (take n its_jobs)

    so_many : length its_jobs ≡ k.jobs.count
    so_many =
        let row = (fits.sequences q k known).row in
        let few = (fits.sequences q k known).few in
        length-take-le k.jobs.count k.jobs.numbers (omega (arith, row, few))

    -- of the job at a place
    place_few : (n : ℕ) → n < k.jobs.count → 33 + 15 * words_left d (job_at_place d q n) first_place ≤ job_steps d (slice_index_or its_jobs n 0)
    place_few n lt =
        let (j, e) = get_there its_jobs n (let is = so_many in omega (arith, lt, is)) in
        let job = (fits.sequences q k known).there j (get_contained (jobs_of d q) n j (ap (λ o. slice_get (jobs_by o) n) known ∙ e)) in
        let is : job_at_place d q n ≡ j = ap (λ o. or_else 0 (job_number (jobs_in o) n)) known ∙ ap (or_else 0) e in
        subst (λ i. 33 + 15 * words_left d i first_place ≤ job_steps d (slice_index_or its_jobs n 0)) (sym is) (subst (λ i. 33 + 15 * words_left d j first_place ≤ job_steps d i) (sym (number_is its_jobs n j e)) (job_few j job.1 job.2))

    -- the jobs up to one, with it
    with_one : (n : ℕ) → n < k.jobs.count → steps_to (n + 1) ≡ steps_to n + job_steps d (slice_index_or its_jobs n 0)
    with_one n lt = sum_by_more (job_steps d) its_jobs n 0 (let is = so_many in omega (arith, lt, is))

    abbrev From : ℕ → ℕ → Type 0
    From n m = steps_to n + (33 + 15 * words_left d (job_at_place d q n) first_place + jobs_left d q n m) ≤ 24 + steps_to k.jobs.count

    count : (jobs_list d q).count ≡ k.jobs.count
    count = ap (λ o. (jobs_in o).count) known

    -- where none follows
    from_last : (n : ℕ) → n < k.jobs.count → k.jobs.count ≤ n + 1 → steps_to n + (33 + 15 * words_left d (job_at_place d q n) first_place + 24) ≤ 24 + steps_to k.jobs.count
    from_last n lt most =
        let one = with_one n lt in
        let few = place_few n lt in
        let same : n + 1 ≡ k.jobs.count = omega (arith, lt, most) in
        subst (λ c. steps_to n + (33 + 15 * words_left d (job_at_place d q n) first_place + 24) ≤ 24 + steps_to c) same (omega (arith, one, few))

    -- where one follows
    from_next : (n m : ℕ) → n < k.jobs.count → From (n + 1) m → steps_to n + (33 + 15 * words_left d (job_at_place d q n) first_place + (33 + 15 * words_left d (job_at_place d q (n + 1)) first_place + jobs_left d q (n + 1) m)) ≤ 24 + steps_to k.jobs.count
    from_next n m lt rest =
        let one = with_one n lt in
        let few = place_few n lt in
        omega (arith, few, one, rest)

    from_more : (n m : ℕ) → n < k.jobs.count → ((n + 1 < k.jobs.count) → From (n + 1) m) → From n (suc m)
    from_more n m lt rest = by (nat_lt (n + 1) (jobs_list d q).count) refl
      where
        by : (b : Bool) → nat_lt (n + 1) (jobs_list d q).count ≡ b
            → steps_to n + (33 + 15 * words_left d (job_at_place d q n) first_place + (if b then 33 + 15 * words_left d (job_at_place d q (n + 1)) first_place + jobs_left d q (n + 1) m else 24)) ≤ 24 + steps_to k.jobs.count
        by true e = let more = is_below (n + 1) (jobs_list d q).count e in from_next n m lt (rest (omega (arith, more, count)))
        by false e = let less = is_past (n + 1) (jobs_list d q).count e in from_last n lt (omega (arith, less, count))

    -- those from one on
    few_from : (n m : ℕ) → n + m ≡ 15 → n < k.jobs.count → From n m
    few_from n zero sum lt = let most = (fits.sequences q k known).few in from_last n lt (omega (arith, sum, lt, most))
    few_from n (suc m) sum lt = from_more n m lt (λ more. few_from (n + 1) m (omega (arith, sum)) more)

    -- all of them
    sent_is : sent_steps d (sequence_of d q) ≡ 96 + steps_to k.jobs.count
    sent_is = ap (sent_steps d) known ∙ ap (λ xs. 96 + sum_by (job_steps d) xs) (sym (take_all k.jobs.count its_jobs (let is = so_many in omega (arith, is))))

  -- of the whole call
  pub begins_few : (q : ℕ) → is_some (sequence_of d q) ≡ true → (sync_bodies d).fuel (sync_begins d q (unit_of_sequence d q)) ≤ sent_steps d (sequence_of d q) - 7
  begins_few q some =
      let (k, known) = some_of (sequence_of d q) some in
      let all = few_from q k known 0 15 refl (fits.sequences q k known).some in
      let is = sent_is q k known in
      omega (arith, all, is)
