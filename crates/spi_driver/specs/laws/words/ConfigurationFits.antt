-- What a driver that is made of a sound configuration is: the places of its channels' words, its jobs and its sequences.
-- From spi_sequences: words.ConfigurationFits, spi_sequences: words.WordsOfModule.
-- Used by board_promises: proofs/Kept, mcal_drivers: proofs/Joining, mcal_drivers: proofs/SoundSerial and 1 more.
use Rattle.std.proofs.Common.{◌≡◌, ◌+◌, ◌*◌, ◌<◌, ◌≤◌, ◌==◌, [], ◌∷◌, ◌∙◌, if◌then◌else◌}
use Rattle.spi_driver.specs.Terms
use Terms.{after, All, ap, AreDifferent, arith, banked, before, block_of, blocks_of, Bool, byte_at, Channel}
use Terms.{channel_in, channel_list, channel_of, channels_by, channels_by_number, channels_of, cond, Contains}
use Terms.{count_by, false, FitsChannel, FitsJob, FitsSequence, FitsSpi, get_or_default, in_list, internal_by}
use Terms.{is_some, Job, job_in, job_list, job_of, job_row, jobs_by, jobs_by_number, jobs_of, length, List, list_any}
use Terms.{None, Option, refl, rows, Sequence, sequence_in, sequence_of, sequence_row, sequences_by_number}
use Terms.{slice_index_or, so_at, Some, some_of, SpiChannel, SpiConfig, SpiJob, SpiSequence, SpiTable, subst, suc}
use Terms.{sum_by, sum_by-cons, sym, table_of, take, taken_channel, taken_job, taken_sequence, true, uses_channel}
use Terms.{words_of, zero, ℕ}
use Rattle.mcal_base.specs.facts.Options.{some_is}

-- ---- the words of channels

-- those of one, and of the first n
abbrev cost : Option Channel → ℕ
cost None = 0
cost (Some k) = 4 + banked k

abbrev costs : List (Option Channel) → ℕ → ℕ
costs ks zero = 0
costs [] (suc n) = 0
costs (k ∷ ks) (suc n) = cost k + costs ks n

costs_next : (ks : List (Option Channel)) (c : ℕ) → costs ks (suc c) ≡ costs ks c + cost (slice_index_or ks c None)
costs_next [] zero = refl
costs_next [] (suc c) = refl
costs_next (k ∷ ks) zero = omega arith
costs_next (k ∷ ks) (suc c) = let next = costs_next ks c in omega (arith, next)

-- a channel has at most 64 words
abbrev AreSmall : List (Option Channel) → Type 0
AreSmall ks = (c : ℕ) (k : Channel) → slice_index_or ks c None ≡ Some k → k.length ≤ 64

cost_few : (o : Option Channel) → ((k : Channel) → o ≡ Some k → k.length ≤ 64) → cost o ≤ 388
cost_few None small = omega arith
cost_few (Some k) small =
    elim k.internal as (λ q. 4 + (if q then 6 * k.length else 0) ≤ 388)
    [ true ↦ (let few = small k refl in omega (arith, few)) | false ↦ omega arith ]

costs_few : (ks : List (Option Channel)) → AreSmall ks → (n : ℕ) → costs ks n ≤ 388 * n
costs_few ks small zero = omega arith
costs_few [] small (suc n) = omega arith
costs_few (k ∷ ks) small (suc n) =
    let first = cost_few k (λ x e. small 0 x e) in
    let rest = costs_few ks (λ c x e. small (suc c) x e) n in
    omega (arith, first, rest)

-- the words of a channel stand after those of the channels before it
before_is : (ks : List (Option Channel)) → AreSmall ks → (n : ℕ) → n ≤ 16 → before ks n ≡ 64 + costs ks n
before_is ks small zero le = refl
before_is ks small (suc n) le = next_is (before_is ks small n (omega (arith, le))) (slice_index_or ks n None) refl
  where
    next_is : before ks n ≡ 64 + costs ks n → (o : Option Channel) → slice_index_or ks n None ≡ o → after (before ks n) o ≡ 64 + costs ks (suc n)
    next_is lower None e = lower ∙ (let next = costs_next ks n in let none : cost (slice_index_or ks n None) ≡ 0 = ap cost e in omega (arith, next, none))
    next_is lower (Some k) e =
        let next = costs_next ks n in
        let one : cost (slice_index_or ks n None) ≡ 4 + banked k = ap cost e in
        let few = costs_few ks small (suc n) in
        omega (arith, lower, next, one, few, le)

-- later ones stand after them
costs_up : (ks : List (Option Channel)) (b c : ℕ) → b ≤ c → costs ks b ≤ costs ks c
costs_up ks zero c le = omega arith
costs_up [] (suc b) (suc c) le = omega arith
costs_up (k ∷ ks) (suc b) (suc c) le = let rest = costs_up ks b c (omega (arith, le)) in omega (arith, rest)
costs_up _ _ _ le = absurd (omega (arith, le))

-- and all of them are among the module's: 32 for each object, and six for each word of an internal channel
costs_within : (ks : List (Option Channel)) (n : ℕ) → costs ks n ≤ 32 * count_by is_some ks + 6 * sum_by internal_by ks
costs_within ks zero = omega arith
costs_within [] (suc n) = omega arith
costs_within (k ∷ ks) (suc n) =
    let rest = costs_within ks n in
    let objects = sum_by-cons (λ x. cond (is_some x) 1 0) k ks in
    let words = sum_by-cons internal_by k ks in
    let first = cost_within k in
    omega (arith, rest, objects, words, first)
  where
    cost_within : (o : Option Channel) → cost o ≤ 32 * cond (is_some o) 1 0 + 6 * internal_by o
    cost_within None = omega arith
    cost_within (Some x) =
        elim x.internal as (λ q. 4 + (if q then 6 * x.length else 0) ≤ 32 * 1 + 6 * (if q then x.length else 0))
        [ true ↦ omega arith | false ↦ omega arith ]

-- ---- a sound configuration

pub record IsSoundChannel (x : SpiChannel) : Type 0 where
  pub some : 0 < words_of x.channel_type
  pub few : words_of x.channel_type ≤ 64
  pub narrow : x.data_width ≤ 16

-- what a list of the configuration has by its number
found_in : {A B : Type 0} (P : A → Type 0) (id : A → ℕ) (taken : A → B) (find : List A → ℕ → Option B) → ((n : ℕ) → find [] n ≡ None) → ((x : A) (xs : List A) (n : ℕ) → find (x ∷ xs) n ≡ (if id x == n then Some (taken x) else find xs n))
    → (xs : List A) → All P xs → (n : ℕ) (k : B) → find xs n ≡ Some k → (x : A) × P x × (taken x ≡ k)
found_in P id taken find none next [] all n k e = absurd (let f = sym (none n) ∙ e in cc)
found_in {A = A} P id taken find none next (x ∷ xs) all n k e = by (id x == n) (sym (next x xs n) ∙ e) (found_in P id taken find none next xs (λ i y lt. all (suc i) y (omega (arith, lt))) n k)
  where
    by : (q : Bool) → (if q then Some (taken x) else find xs n) ≡ Some k → (find xs n ≡ Some k → (z : A) × P z × (taken z ≡ k)) → (z : A) × P z × (taken z ≡ k)
    by true f rest = (x, all 0 x (omega arith), some_is (taken x) k f)
    by false f rest = rest f

-- a configured channel of the driver is one of the configuration's
abbrev IsTaken : Channel → Type 0
IsTaken k = (x : SpiChannel) × IsSoundChannel x × (taken_channel x ≡ k)

block_is : (xs : List (Option Channel)) (c : ℕ) → c < 16 → slice_index_or (blocks_of xs) c 0 ≡ before xs c
block_is xs (suc (suc (suc (suc (suc (suc (suc (suc (suc (suc (suc (suc (suc (suc (suc (suc i)))))))))))))))) lt = absurd (omega (arith, lt))
block_is xs _ lt = refl

pub channel_is : (xs : List SpiChannel) (c : ℕ) → c < 16 → slice_index_or (channels_by_number xs) c None ≡ channel_in xs c
channel_is xs (suc (suc (suc (suc (suc (suc (suc (suc (suc (suc (suc (suc (suc (suc (suc (suc i)))))))))))))))) lt = absurd (omega (arith, lt))
channel_is xs _ lt = refl

job_is : (xs : List SpiJob) (j : ℕ) → j < 16 → slice_index_or (jobs_by_number xs) j None ≡ job_in xs j
job_is xs (suc (suc (suc (suc (suc (suc (suc (suc (suc (suc (suc (suc (suc (suc (suc (suc i)))))))))))))))) lt = absurd (omega (arith, lt))
job_is xs _ lt = refl

number_is : (xs : List ℕ) (i : ℕ) → i < 16 → slice_index_or (job_list xs).numbers i 0 ≡ byte_at xs i
number_is xs (suc (suc (suc (suc (suc (suc (suc (suc (suc (suc (suc (suc (suc (suc (suc (suc i)))))))))))))))) lt = absurd (omega (arith, lt))
number_is xs _ lt = refl

module _ (g : SpiConfig) (sound : All IsSoundChannel g.channels) where
  abbrev d : SpiTable
  d = table_of g

  abbrev ks : List (Option Channel)
  ks = channels_by_number g.channels

  taken : (c : ℕ) (k : Channel) → channel_of d c ≡ Some k → IsTaken k
  taken c k e = let r = found_in IsSoundChannel (λ x. x.id) taken_channel channel_in (λ n. refl) (λ x xs n. refl) g.channels sound in so_at IsTaken ks (r 0, (r 1, (r 2, (r 3, (r 4, (r 5, (r 6, (r 7, (r 8, (r 9, (r 10, (r 11, (r 12, (r 13, (r 14, (r 15, tt)))))))))))))))) c k e

  size : (k : Channel) → IsTaken k → (0 < k.length) × (k.length ≤ 64) × (k.width ≤ 16)
  size k (x, s, e) = subst (λ (k : Channel). (0 < k.length) × (k.length ≤ 64) × (k.width ≤ 16)) e (let some = s.some in let few = s.few in let narrow = s.narrow in (omega (arith, some, few), omega (arith, few), omega (arith, narrow)))

  small : AreSmall ks
  small c k e = (size k (taken c k e)).1

  low : (c : ℕ) (k : Channel) → channel_of d c ≡ Some k → c < 16
  low c k e = in_list ks c k e

  block : (c : ℕ) → c < 16 → block_of d c ≡ 64 + costs ks c
  block c lt = block_is ks c lt ∙ before_is ks small c (omega (arith, lt))

  paid : (c : ℕ) (k : Channel) → channel_of d c ≡ Some k → costs ks (suc c) ≡ costs ks c + (4 + banked k)
  paid c k e = costs_next ks c ∙ ap (λ o. costs ks c + cost o) e

  pub channels_fit : (c : ℕ) (k : Channel) → channel_of d c ≡ Some k → FitsChannel d c k
  channels_fit c k e =
      let s = size k (taken c k e) in
      let at = block c (low c k e) in
      let next = paid c k e in
      let all = costs_within ks (suc c) in
      record { some = s.0; few = s.1; narrow = s.2; after = omega (arith, at); within = omega (arith, at, next, all) }

  pub channels_apart : (b c : ℕ) (k : Channel) → b < c → channel_of d b ≡ Some k → c < 16 → block_of d b + 4 + banked k ≤ block_of d c
  channels_apart b c k lt e few =
      let at = block b (low b k e) in
      let later = block c few in
      let next = paid b k e in
      let up = costs_up ks (suc b) c lt in
      omega (arith, at, later, next, up)

-- ---- jobs and sequences

-- the first numbers of a row are a list that stands there
same_first : (xs ns : List ℕ) → length xs ≤ length ns → ((i : ℕ) → i < length xs → slice_index_or ns i 0 ≡ slice_index_or xs i 0) → take (length xs) ns ≡ xs
same_first [] ns le at = refl
same_first (x ∷ xs) [] le at = absurd (omega (arith, le))
same_first (x ∷ xs) (n ∷ ns) le at = ap (λ y. y ∷ take (length xs) ns) (at 0 (omega arith)) ∙ ap (λ ys. x ∷ ys) (same_first xs ns (omega (arith, le)) (λ i lt. at (suc i) (omega (arith, lt))))

-- numbers below sixteen are kept as they are
abbrev AreNumbers : List ℕ → Type 0
AreNumbers xs = (i : ℕ) → i < length xs → slice_index_or xs i 0 < 16

kept_byte : (xs : List ℕ) → AreNumbers xs → (i : ℕ) → i < length xs → byte_at xs i ≡ slice_index_or xs i 0
kept_byte xs few i lt = let n = few i lt in omega (arith, n)

jobs_kept : (xs : List ℕ) → length xs ≤ 16 → AreNumbers xs → take (length xs) (job_list xs).numbers ≡ xs
jobs_kept xs le few = same_first xs (job_list xs).numbers le (λ i lt. number_is xs i (omega (arith, lt, le)) ∙ kept_byte xs few i lt)

pub channels_kept : (xs : List ℕ) → length xs ≤ 4 → AreNumbers xs → take (length xs) (channel_list xs).numbers ≡ xs
channels_kept xs le few = same_first xs (channel_list xs).numbers le (λ i lt. by i (omega (arith, lt, le)) ∙ kept_byte xs few i lt)
  where
    by : (i : ℕ) → i < 4 → slice_index_or (channel_list xs).numbers i 0 ≡ byte_at xs i
    by (suc (suc (suc (suc i)))) lt = absurd (omega (arith, lt))
    by _ lt = refl

pub record IsSoundJob (g : SpiConfig) (x : SpiJob) : Type 0 where
  pub some : 0 < length x.channel_list
  pub few : length x.channel_list ≤ 4
  pub unit : x.unit < 2
  pub priority : x.priority ≤ 3
  pub numbers : AreNumbers x.channel_list
  pub there : (c : ℕ) → Contains x.channel_list c → is_some (channel_in g.channels c) ≡ true
  pub once : AreDifferent x.channel_list

pub record IsSoundSequence (g : SpiConfig) (x : SpiSequence) : Type 0 where
  pub some : 0 < length x.job_assignment
  pub few : length x.job_assignment ≤ 16
  pub numbers : AreNumbers x.job_assignment
  pub there : (j : ℕ) → Contains x.job_assignment j → is_some (job_in g.jobs j) ≡ true
  pub once : AreDifferent x.job_assignment
  pub unit : (i j : ℕ) (y z : Job) → Contains x.job_assignment i → Contains x.job_assignment j → job_in g.jobs i ≡ Some y → job_in g.jobs j ≡ Some z → y.unit ≡ z.unit

-- channels, jobs and sequences are so, and jobs that share a channel have one unit
pub record IsSound (g : SpiConfig) : Type 0 where
  pub channels : All IsSoundChannel g.channels
  pub jobs : All (IsSoundJob g) g.jobs
  pub sequences : All (IsSoundSequence g) g.sequences
  pub shared : (c i j : ℕ) (y z : Job) → job_in g.jobs i ≡ Some y → job_in g.jobs j ≡ Some z → list_any (λ k. k == c) (channels_by (Some y)) ≡ true → list_any (λ k. k == c) (channels_by (Some z)) ≡ true → y.unit ≡ z.unit

-- a listed number
number_low : (xs : List ℕ) → AreNumbers xs → (n : ℕ) → Contains xs n → n < 16
number_low xs few n (i, lt, own) = subst (λ k. k < 16) (sym (get_or_default xs i n 0 lt) ∙ own) (few i lt)

module _ (g : SpiConfig) (sound : IsSound g) where
  abbrev t : SpiTable
  t = table_of g

  job_at : (j : ℕ) → j < 16 → job_of t j ≡ job_in g.jobs j
  job_at j lt = job_is g.jobs j lt

  sequence_at : (q : ℕ) → q < 8 → sequence_of t q ≡ sequence_in g.sequences q
  sequence_at (suc (suc (suc (suc (suc (suc (suc (suc q)))))))) lt = absurd (omega (arith, lt))
  sequence_at _ lt = refl

  jobs_fit : (j : ℕ) (k : Job) → job_of t j ≡ Some k → FitsJob t j k
  jobs_fit j k e = job_fits (found_in (IsSoundJob g) (λ x. x.id) taken_job job_in (λ n. refl) (λ x xs n. refl) g.jobs sound.jobs j k (sym (job_at j (in_list (jobs_by_number g.jobs) j k e)) ∙ e))
    where
      job_fits : (x : SpiJob) × IsSoundJob g x × (taken_job x ≡ k) → FitsJob t j k
      job_fits (x, s, is) =
          let kept : channels_of t j ≡ x.channel_list = ap channels_by e ∙ ap (λ k. channels_by (Some k)) (sym is) ∙ channels_kept x.channel_list s.few s.numbers in
          record {
            row = job_row g j k e;
            some = subst (λ (k : Job). 0 < k.channels.count) is s.some;
            few = subst (λ (k : Job). k.channels.count ≤ 4) is s.few;
            unit = subst (λ (k : Job). k.unit < 2) is (let u = s.unit in omega (arith, u));
            priority = subst (λ (k : Job). k.priority ≤ 3) is (let p = s.priority in omega (arith, p));
            there = λ c own. there x s c (subst (λ xs. Contains xs c) kept own);
            once = subst AreDifferent (sym kept) s.once;
          }
        where
          there : (x : SpiJob) → IsSoundJob g x → (c : ℕ) → Contains x.channel_list c → (c < 16) × (y : Channel) × (channel_of t c ≡ Some y)
          there x s c own =
              let few = number_low x.channel_list s.numbers c own in
              let found = some_of (channel_in g.channels c) (s.there c own) in
              (few, found.0, channel_is g.channels c few ∙ found.1)

  sequences_fit : (q : ℕ) (k : Sequence) → sequence_of t q ≡ Some k → FitsSequence t q k
  sequences_fit q k e = sequence_fits (found_in (IsSoundSequence g) (λ x. x.id) taken_sequence sequence_in (λ n. refl) (λ x xs n. refl) g.sequences sound.sequences q k (sym (sequence_at q low) ∙ e))
    where
      low : q < 8
      low = in_list (sequences_by_number g.sequences) q k e

      sequence_fits : (x : SpiSequence) × IsSoundSequence g x × (taken_sequence x ≡ k) → FitsSequence t q k
      sequence_fits (x, s, is) =
          let kept : jobs_of t q ≡ x.job_assignment = ap jobs_by e ∙ ap (λ k. jobs_by (Some k)) (sym is) ∙ jobs_kept x.job_assignment s.few s.numbers in
          record {
            row = sequence_row g q k e;
            some = subst (λ (k : Sequence). 0 < k.jobs.count) is s.some;
            few = subst (λ (k : Sequence). k.jobs.count ≤ 16) is s.few;
            there = λ j own. there x s j (subst (λ xs. Contains xs j) kept own);
            once = subst AreDifferent (sym kept) s.once;
            unit = λ i j y z own other f h. one_unit x s i j y z (subst (λ xs. Contains xs i) kept own) (subst (λ xs. Contains xs j) kept other) f h;
          }
        where
          there : (x : SpiSequence) → IsSoundSequence g x → (j : ℕ) → Contains x.job_assignment j → (j < 16) × (y : Job) × (job_of t j ≡ Some y)
          there x s j own =
              let few = number_low x.job_assignment s.numbers j own in
              let found = some_of (job_in g.jobs j) (s.there j own) in
              (few, found.0, job_at j few ∙ found.1)

          one_unit : (x : SpiSequence) → IsSoundSequence g x → (i j : ℕ) (y z : Job) → Contains x.job_assignment i → Contains x.job_assignment j → job_of t i ≡ Some y → job_of t j ≡ Some z → y.unit ≡ z.unit
          one_unit x s i j y z own other f h = s.unit i j y z own other (sym (job_at i (number_low x.job_assignment s.numbers i own)) ∙ f) (sym (job_at j (number_low x.job_assignment s.numbers j other)) ∙ h)

  shared_fit : (c i j : ℕ) (y z : Job) → uses_channel t c i ≡ true → uses_channel t c j ≡ true → job_of t i ≡ Some y → job_of t j ≡ Some z → y.unit ≡ z.unit
  shared_fit c i j y z u v e f =
      let low = in_list (jobs_by_number g.jobs) i y e in
      let few = in_list (jobs_by_number g.jobs) j z f in
      sound.shared c i j y z (sym (job_at i low) ∙ e) (sym (job_at j few) ∙ f) (ap (λ o. list_any (λ k. k == c) (channels_by o)) (sym e) ∙ u) (ap (λ o. list_any (λ k. k == c) (channels_by o)) (sym f) ∙ v)

  -- the driver is made of it as it has to be
  pub fits_of : FitsSpi t
  fits_of = record {
    rows = rows g;
    channels = channels_fit g sound.channels;
    apart = channels_apart g sound.channels;
    jobs = jobs_fit;
    sequences = sequences_fit;
    shared = shared_fit;
  }
