-- What the words hold of channels, and which are in use, is the machine's.
-- From spi_sequences: words.JobPlaces, spi_sequences: words.Cases, spi_sequences: words.WordsOfModule and 5 more.
-- Used by bookkeeping.Joined, src/told.rt, proofs/driver/SpiDriver/internal/Answers.
use Rattle.std.proofs.Common.{◌≡◌, ◌+◌, ◌<◌, ◌≤◌, ◌%◌, ◌==◌, ◌&&◌, ◌||◌, [], ◌∷◌, ◌∙◌, if◌then◌else◌}
use Rattle.spi_driver.specs.Terms
use Terms.{all_carried, all_cases, all_of, all_pending, and_parts, any_in, ap, arith, bank_of, bank_word, Banks}
use Terms.{BanksAgree, Bool, carried_at, carries_channel, Carrying, cases, Channel, channel_at, channel_number}
use Terms.{channel_of, ChannelList, channels_by, channels_of, Chip, Contains, control_word, entry_carried, false}
use Terms.{first-at, FitsSpi, get_contained, get_or_default, has_channel, internal_word, is_in_use, is_off, Job}
use Terms.{job_number, job_of, JobList, jobs_list, jobs_of, length, length-take-le, List, list_any, list_by, list_of}
use Terms.{lt_from, Memory, Mode, mode_word, nat_lt, None, none_under_way, not, number_there, of_sixteen, Off, Option}
use Terms.{or_right, PENDING, Pending, Placed, placed_of, Received, refl, Reservations, Sent, sequence_word, Side}
use Terms.{slice_get, slice_index_or, Some, some_is, SpiRepresents, SpiState, SpiTable, STATE, subst, suc, sym}
use Terms.{trio_fits, trio_of, true, uses_channel, view, whether, word_of, WORDS, World, zero, ℕ}
use Rattle.word_shapes.specs.TripleBuffer as trio
use Rattle.spi_machine.specs.State as machine
use Rattle.spi_laws.specs.serving.laws.words.NextWords.{jobs_few}
use Rattle.spi_sequences.specs.laws.words.WordsToState as said

-- ---- what is told

abbrev pub side_of : Bool → Side
side_of received = if received then Received else Sent

abbrev pub word_or : Memory → ℕ → ℕ
word_or m k = if nat_lt k WORDS then m k else 0

abbrev pub is_number : (channel : ℕ) → Option ℕ → Bool
is_number c None = false
is_number c (Some n) = n == c

-- the channel is one of the first n of a list, and one of those of a job
abbrev pub is_listed : ChannelList → (channel : ℕ) → ℕ → Bool
is_listed l c zero = false
is_listed l c (suc n) = if nat_lt 3 n then false else is_number c (channel_number l n) || is_listed l c n

abbrev pub has_at : SpiTable → (channel : ℕ) → Option ℕ → Bool
has_at d c None = false
has_at d c (Some j) = is_listed (list_of d j) c 4

-- one of the first n jobs of a list has it
abbrev pub has_in : SpiTable → JobList → (channel : ℕ) → ℕ → Bool
has_in d l c zero = false
has_in d l c (suc n) = if nat_lt 15 n then false else has_at d c (job_number l n) || has_in d l c n

-- a sequence is pending and has it
abbrev pub is_pending_with : SpiTable → Memory → (channel sequence : ℕ) → Bool
is_pending_with d m c q = m (sequence_word q) == PENDING && has_in d (jobs_list d q) c 16

-- one of the first n sequences is
abbrev pub among : SpiTable → Memory → (channel : ℕ) → ℕ → Bool
among d m c zero = false
among d m c (suc n) = if nat_lt 7 n then false else is_pending_with d m c n || among d m c n

-- the module is initialised, and one of all is
abbrev pub uses : SpiTable → Memory → (channel : ℕ) → Bool
uses d m c = not (m STATE == 0) && among d m c 8

-- a word of the bank that the control word names
abbrev pub word_told : SpiTable → Memory → (channel : ℕ) → (received : Bool) → (index : ℕ) → ℕ
word_told d m c received i =
    let x = placed_of d (c % 16) in
    let side = side_of received in
    word_or m (bank_word x side (bank_of (word_or m (control_word x side))) (i % 256))

-- ---- a search over numbers below a bound

abbrev any_upto : (ℕ → Bool) → ℕ → Bool
any_upto p zero = false
any_upto p (suc n) = p n || any_upto p n

upto_in : (p : ℕ → Bool) (n i : ℕ) → i < n → p i ≡ true → any_upto p n ≡ true
upto_in p zero i lt e = absurd (omega (arith, lt))
upto_in p (suc n) i lt e = whether (nat_lt i n)
    (λ f. or_right (p n) _ (upto_in p n i (said.is_below i n f) e))
    (λ f. ap (λ q. q || any_upto p n) (ap p (last i n lt (said.is_past i n f)) ∙ e))
  where
    last : (i n : ℕ) → i < suc n → n ≤ i → n ≡ i
    last i n l f = omega (arith, l, f)

upto_some : (p : ℕ → Bool) (n : ℕ) → any_upto p n ≡ true → (i : ℕ) × (i < n) × (p i ≡ true)
upto_some p zero e = absurd (cc)
upto_some p (suc n) e = by (p n) refl e (λ g. upto_some p n g)
  where
    by : (b : Bool) → p n ≡ b → b || any_upto p n ≡ true → (any_upto p n ≡ true → (i : ℕ) × (i < n) × (p i ≡ true)) → (i : ℕ) × (i < suc n) × (p i ≡ true)
    by true f g rest = (n, omega arith, f)
    by false f g rest = let r = rest g in (r.0, (let lt = r.1 in omega (arith, lt)), r.2)

-- it finds what a search over a list finds
both_ways : (x y : Bool) → (x ≡ true → y ≡ true) → (y ≡ true → x ≡ true) → x ≡ y
both_ways true y f g = sym (f refl)
both_ways false true f g = g refl
both_ways false false f g = refl

upto_is : (p : ℕ → Bool) (n : ℕ) (b : Bool) → ((i : ℕ) → i < n → p i ≡ true → b ≡ true) → (b ≡ true → (i : ℕ) × (i < n) × (p i ≡ true)) → any_upto p n ≡ b
upto_is p n b there back = both_ways (any_upto p n) b (λ e. let r = upto_some p n e in there r.0 r.1 r.2) (λ e. let r = back e in upto_in p n r.0 r.1 r.2)

-- where each place below the bound has an item of the list, or none
search_is : (at : ℕ → Option ℕ) (has : Option ℕ → Bool) (p : ℕ → Bool) (xs : List ℕ) (n : ℕ) → length xs ≤ n → ((i : ℕ) → at i ≡ slice_get xs i) → has None ≡ false → ((k : ℕ) → has (Some k) ≡ p k)
    → any_upto (λ i. has (at i)) n ≡ list_any p xs
search_is at has p xs n few same none some = upto_is (λ i. has (at i)) n (list_any p xs)
    (λ i lt e. found i (slice_get xs i) refl (ap has (sym (same i)) ∙ e))
    (λ e. let (k, (i, lt, own), is) = said.any_some p xs e in (i, omega (arith, lt, few), ap has (same i ∙ said.at_contained xs i k lt own) ∙ some k ∙ is))
  where
    found : (i : ℕ) (o : Option ℕ) → slice_get xs i ≡ o → has o ≡ true → list_any p xs ≡ true
    found i None e f = absurd (let g = sym none ∙ f in cc)
    found i (Some k) e f = any_in p xs k (get_contained xs i k e) (sym (some k) ∙ f)

-- ---- which channels are in use

module _ (d : SpiTable) (fits : FitsSpi d) (c : ℕ) where
  number_of : (j i : ℕ) → channel_number (list_of d j) i ≡ slice_get (channels_of d j) i
  number_of j i =
      elim (job_of d j) as (λ o. channel_number (list_by o) i ≡ slice_get (channels_by o) i)
      [ None ↦ refl | Some k ↦ refl ]

  channels_few : (j : ℕ) → length (channels_of d j) ≤ 4
  channels_few j = by (job_of d j) refl
    where
      by : (o : Option Job) → job_of d j ≡ o → length (channels_by o) ≤ 4
      by None e = omega arith
      by (Some k) e = let f = fits.jobs j k e in let row = f.row in let few = f.few in let is = length-take-le k.channels.count k.channels.numbers (omega (arith, row, few)) in omega (arith, is, few)

  listed_is : (j : ℕ) → is_listed (list_of d j) c 4 ≡ uses_channel d c j
  listed_is j = search_is (channel_number (list_of d j)) (is_number c) (λ k. k == c) (channels_of d j) 4 (channels_few j) (number_of j) refl (λ k. refl)

  sequence_has : (q : ℕ) → has_in d (jobs_list d q) c 16 ≡ list_any (uses_channel d c) (jobs_of d q)
  sequence_has q = search_is (job_number (jobs_list d q)) (has_at d c) (uses_channel d c) (jobs_of d q) 16 (jobs_few d fits q) (number_there d fits q) refl listed_is

  module _ (held : Reservations) (chip : Chip) (w : World) (s : SpiState) (h : SpiRepresents d held chip w s) where
    -- those under way are the pending ones, and those that units carry out
    all_uses : is_in_use d c (all_of (view s)) ≡ machine.uses d s c
    all_uses = both_ways (is_in_use d c (all_of (view s))) (machine.uses d s c) (λ e. there (said.any_some in_one (all_of (view s)) e)) (λ e. back (is_in_use d c s.pending) refl e)
      where
        in_one : Pending → Bool
        in_one p = list_any (uses_channel d c) (jobs_of d p.sequence)

        carried_there : (u : ℕ) (p : Pending) (o : Option Carrying) → carried_at s u ≡ o → entry_carried o ≡ Some p → in_one p ≡ true → machine.uses d s c ≡ true
        carried_there u p None e f is = absurd (cc)
        carried_there u p (Some x) e f is = or_right (is_in_use d c s.pending) _ (any_in (carries_channel d c) s.carried (Some x) (u, some_there s.carried u x e, some_at s.carried u x e) (ap in_one (some_is x.entry p f) ∙ is))
          where
            some_there : (xs : List (Option Carrying)) (n : ℕ) (x : Carrying) → slice_index_or xs n None ≡ Some x → n < length xs
            some_there [] n x e = absurd (cc)
            some_there (y ∷ ys) zero x e = omega arith
            some_there (y ∷ ys) (suc n) x e = let lt = some_there ys n x e in omega (arith, lt)

            some_at : (xs : List (Option Carrying)) (n : ℕ) (x : Carrying) (e : slice_index_or xs n None ≡ Some x) → slice_index_or xs n (Some x) ≡ Some x
            some_at xs n x e = get_or_default xs n (Some x) None (some_there xs n x e) ∙ e

        there : (p : Pending) × Contains (all_of (view s)) p × (in_one p ≡ true) → machine.uses d s c ≡ true
        there (p, own, is) = cases (all_cases (view s) p own)
            (λ pending. ap (λ q. q || list_any (carries_channel d c) s.carried) (any_in in_one s.pending p pending is))
            (λ (u, e). carried_there u p (carried_at s u) refl e is)

        back : (q : Bool) → is_in_use d c s.pending ≡ q → q || list_any (carries_channel d c) s.carried ≡ true → is_in_use d c (all_of (view s)) ≡ true
        back true e f = let r = said.any_some in_one s.pending e in any_in in_one (all_of (view s)) r.0 (all_pending (view s) r.0 r.1) r.2
        back false e f = by (said.any_some (carries_channel d c) s.carried f)
          where
            entry : (o : Option Carrying) (u : ℕ) → carried_at s u ≡ o → carries_channel d c o ≡ true → is_in_use d c (all_of (view s)) ≡ true
            entry None u e f = absurd (cc)
            entry (Some x) u e f = let begun : (view s).begun u ≡ Some x.entry = ap entry_carried e in any_in in_one (all_of (view s)) x.entry (all_carried (view s) u x.entry (h.sound.carries.unit u x.entry begun).0 begun) f

            by : (o : Option Carrying) × Contains s.carried o × (carries_channel d c o ≡ true) → is_in_use d c (all_of (view s)) ≡ true
            by (o, (u, lt, at), is) = entry o u (sym (get_or_default s.carried u o None lt) ∙ at) is

    -- in an uninitialised module none is
    off_none : is_off s.mode ≡ true → is_in_use d c (all_of (view s)) ≡ false
    off_none e = said.none_any (λ p. list_any (uses_channel d c) (jobs_of d p.sequence)) (all_of (view s)) (λ p own. absurd (none_under_way d (view s) h.sound e p own))

    among_is : is_off s.mode ≡ false → among d (word_of chip) c 8 ≡ is_in_use d c (all_of (view s))
    among_is on = upto_is (λ q. word_of chip (sequence_word q) == PENDING && has_in d (jobs_list d q) c 16) 8 (is_in_use d c (all_of (view s)))
        (λ q lt e. there q (and_parts (word_of chip (sequence_word q) == PENDING) (has_in d (jobs_list d q) c 16) e) lt)
        (λ e. back (said.any_some (λ p. list_any (uses_channel d c) (jobs_of d p.sequence)) (all_of (view s)) e))
      where
        there : (q : ℕ) → ((word_of chip (sequence_word q) == PENDING) ≡ true) × (has_in d (jobs_list d q) c 16 ≡ true) → q < 8 → is_in_use d c (all_of (view s)) ≡ true
        there q (e, f) lt =
            let p = said.entry_of d fits held chip w s h (all_of (view s)) q (sym (said.pending_word d fits held chip w s h on q lt) ∙ e) in
            any_in (λ p. list_any (uses_channel d c) (jobs_of d p.sequence)) (all_of (view s)) p.0 p.1 (ap (λ n. list_any (uses_channel d c) (jobs_of d n)) p.2 ∙ sym (sequence_has q) ∙ f)

        back : (p : Pending) × Contains (all_of (view s)) p × (list_any (uses_channel d c) (jobs_of d p.sequence) ≡ true) → (i : ℕ) × (i < 8) × (word_of chip (sequence_word i) == PENDING && has_in d (jobs_list d i) c 16 ≡ true)
        back (p, own, is) =
            let lt = (h.sound.entries p own).number in
            (p.sequence, lt, ap (λ q. q && has_in d (jobs_list d p.sequence) c 16) (said.pending_word d fits held chip w s h on p.sequence lt ∙ said.is_there d fits held chip w s h (all_of (view s)) p own) ∙ sequence_has p.sequence ∙ is)

    pub used_is : uses d (word_of chip) c ≡ machine.uses d s c
    used_is = by s.mode refl ∙ all_uses
      where
        by : (m : Mode) → s.mode ≡ m → not (word_of chip STATE == 0) && among d (word_of chip) c 8 ≡ is_in_use d c (all_of (view s))
        by Off e = ap (λ v. not (v == 0) && among d (word_of chip) c 8) (h.words.state ∙ ap mode_word e) ∙ sym (off_none (ap is_off e))
        by _ e = ap (λ v. not (v == 0) && among d (word_of chip) c 8) (h.words.state ∙ ap mode_word e) ∙ among_is (ap is_off e)

-- ---- the words of an internal channel

listed_get : (m : Memory) (j n i : ℕ) → i < n → slice_index_or (trio.listed m j n) i 0 ≡ m (j + i)
listed_get m j zero i lt = absurd (omega (arith, lt))
listed_get m j (suc n) zero lt = ap m (omega arith)
listed_get m j (suc n) (suc i) lt = listed_get m (j + 1) n i (omega (arith, lt)) ∙ ap m (omega arith)

-- the newest words are those of the bank that the control word names
newest_get : (x : Placed) (side : Side) (m : Memory) (b : Banks) (i : ℕ) → trio.Stands (trio_of x side) m b → i < x.channel.length → m (bank_word x side (bank_of (m (control_word x side))) i) ≡ slice_index_or b.newest i 0
newest_get x side m b i h lt =
    let bank : bank_of (m (control_word x side)) ≡ b.bank = ap bank_of h.control ∙ (let few = h.below in omega (arith, few)) in
    ap (λ n. m (bank_word x side n i)) bank
    ∙ ap m (omega arith)
    ∙ sym (listed_get m (trio.word_at (trio_of x side) b.bank 0) (length b.newest) i (subst (λ n. i < n) (sym h.newest.0) lt))
    ∙ ap (λ xs. slice_index_or xs i 0) h.newest.1

pub told_internal : (d : SpiTable) → FitsSpi d → (chip : Chip) (w : World) (s : SpiState) → SpiRepresents d [] chip w s → (c : ℕ) (k : Channel) → channel_of d c ≡ Some k → k.internal ≡ true → (received : Bool) (i : ℕ) → i < k.length
    → word_told d (word_of chip) c received i ≡ internal_word s c received i
told_internal d fits chip w s h c k known internal received i lt =
    subst (λ n. Told n) (sym small) (subst (λ n. word_or m (bank_word (placed_of d c) side (bank_of (word_or m (control_word (placed_of d c) side))) n) ≡ internal_word s c received i) (sym few)
    (within (control_word (placed_of d c) side) control_there (λ v. word_or m (bank_word (placed_of d c) side (bank_of v) i) ≡ internal_word s c received i)
    (within (bank_word (placed_of d c) side (bank_of (m (control_word (placed_of d c) side))) i) bank_there (λ v. v ≡ internal_word s c received i) (by received))))
  where
    m : Memory
    m = word_of chip

    side : Side
    side = side_of received

    Told : ℕ → Type 0
    Told n = word_or m (bank_word (placed_of d n) side (bank_of (word_or m (control_word (placed_of d n) side))) (i % 256)) ≡ internal_word s c received i

    size : (placed_of d c).channel.length ≡ k.length
    size = ap (λ x. x.length) (has_channel d fits c k known)

    low : c < 16
    low = of_sixteen d c k fits known

    small : c % 16 ≡ c
    small = omega (arith, low)

    few : i % 256 ≡ i
    few = let most = (fits.channels c k known).few in omega (arith, lt, most)

    within : (n : ℕ) → n < WORDS → (P : ℕ → Type 0) → P (m n) → P (word_or m n)
    within n below P p = subst (λ q. P (if q then m n else 0)) (sym (lt_from n WORDS below)) p

    b : BanksAgree d [] h.going m (view s) c k
    b = h.words.banks c k known internal

    less : i < (placed_of d c).channel.length
    less = subst (λ n. i < n) (sym size) lt

    stands : (q : Bool) → (x : Banks) × trio.Stands (trio_of (placed_of d c) (side_of q)) m x
    stands true = (b.received, b.receives)
    stands false = (b.sent, b.sends)

    control_there : control_word (placed_of d c) side < WORDS
    control_there = (trio_fits d fits c k known internal side).control

    bank_there : bank_word (placed_of d c) side (bank_of (m (control_word (placed_of d c) side))) i < WORDS
    bank_there =
        let x = stands received in
        let below = x.1.below in
        let is : bank_of (m (control_word (placed_of d c) side)) ≡ x.0.bank = ap bank_of x.1.control ∙ omega (arith, below) in
        subst (λ n. bank_word (placed_of d c) side n i < WORDS) (sym is) (bank_low x.0.bank below)
      where
        bank_low : (n : ℕ) → n < 3 → bank_word (placed_of d c) side n i < WORDS
        bank_low (suc (suc (suc n))) l = absurd (omega (arith, l))
        bank_low _ l = let f = (trio_fits d fits c k known internal side).banks in omega (arith, f, less)

    by : (q : Bool) → m (bank_word (placed_of d c) (side_of q) (bank_of (m (control_word (placed_of d c) (side_of q)))) i) ≡ internal_word s c q i
    by true = newest_get (placed_of d c) Received m b.received i b.receives less ∙ ap (λ xs. slice_index_or xs i 0) (b.readable refl) ∙ first-at k.length (channel_at s c).received i lt
    by false = newest_get (placed_of d c) Sent m b.sent i b.sends less ∙ ap (λ xs. slice_index_or xs i 0) (b.written refl) ∙ first-at k.length (channel_at s c).written i lt
