-- A configuration that was read is sound for the serial driver.
use Rattle.std.proofs.Common.{◌≡◌, ◌≢◌, ℕ, ◌%◌, ◌<◌, ◌≤◌, zero, suc, ◌==◌, Bool, true, false, nat_lt, not, ◌&&◌, ◌||◌, List, [], ◌∷◌, length, Option, Some, None, refl, sym, ◌∙◌, ap, subst, arith}
use Rattle.std.specs.Prelude.{All, Contains, cond, if◌then◌else◌, is_some, slice_get, slice_index_or, take}
use Rattle.std.specs.List.{find, list_any}
use Rattle.std.specs.Option.{IfSome, option_map_or}
use Rattle.std.proofs.lemmas.Bool.Decides.{nat_tests}
use Rattle.std.proofs.lemmas.List.FromFn.{get_or-map-range_with_len}
use Rattle.std.proofs.lemmas.List.{get_or-take, get_or_default, length-take-le}
use Rattle.std.proofs.lemmas.Bool.{or_parts}
use Rattle.chip_model.specs.Chip.{power_on, hung}
use Rattle.chip_model.specs.Wiring.{source_in, wiring_of}
use Rattle.config_facts.specs.Ids.{has_id}
use Rattle.config_facts.specs.Rules.{has_other_unit, is_among, repeats, share_channel, shares_channel}
use Rattle.config_facts.specs.Valid.{IsChannel, IsChannelType, IsSpi, channel_id, job_id}
use Rattle.mcal_base.specs.Layout.{of_id, words_of}
use Rattle.mcal_base.specs.declared.config.spi.SpiChannel.{SpiChannel}
use Rattle.mcal_base.specs.declared.config.spi.SpiChannelType.{SpiChannelType}
use Rattle.mcal_base.specs.declared.config.spi.SpiChannelType.TheVariants.{Internal, External}
use Rattle.mcal_base.specs.declared.config.spi.SpiConfig.{SpiConfig}
use Rattle.mcal_base.specs.declared.config.spi.SpiJob.{SpiJob}
use Rattle.mcal_base.specs.declared.config.whole.Config.{Config}
use Rattle.spi_driver.specs.laws.words.ConfigurationFits as serial_fits
use Rattle.spi_machine.specs.Fits.{AreDifferent}
use Rattle.spi_machine.specs.Table.{channel_in, channel_of, channels_by, job_in, length_by, table_of, taken_channel, taken_job}
use Rattle.word_shapes.specs.declared.jobs.channel.Channel.{Channel}
use Rattle.spi_machine.specs.declared.table.Job.{Job}
use Rattle.spi_sequences.specs.Refinement.{WiredAs}
use Rattle.spi_sequences.specs.laws.words.WordsOfModule.{in_list}
use Rattle.spi_sequences.specs.laws.hardware.SourceFilled.{any_in, not_both}
use Rattle.spi_sequences.specs.laws.words.WordsToState.{any_none, any_some, is_number, same_number}

-- ---- numbers that stand once

not_among : (n : ℕ) (xs : List ℕ) (i : ℕ) → is_among n xs ≡ false → slice_get xs i ≡ Some n → (n == n) ≡ false
not_among n [] i e f = absurd (cc)
not_among n (x ∷ xs) zero e f = by (x == n) refl e
  where
    some_is : x ≡ n
    some_is = cc

    by : (q : Bool) → (x == n) ≡ q → q || is_among n xs ≡ false → (n == n) ≡ false
    by true is none = absurd (cc)
    by false is none = subst (λ z. (z == n) ≡ false) some_is is
not_among n (x ∷ xs) (suc i) e f = by (x == n) e (not_among n xs i)
  where
    by : (q : Bool) → q || is_among n xs ≡ false → (is_among n xs ≡ false → slice_get xs i ≡ Some n → (n == n) ≡ false) → (n == n) ≡ false
    by true none rest = absurd (cc)
    by false none rest = rest none f

none_among : (n : ℕ) (xs : List ℕ) (i : ℕ) → is_among n xs ≡ false → slice_get xs i ≢ Some n
none_among n xs i e f = let same = same_number n in let none = not_among n xs i e f in absurd (let g = sym same ∙ none in cc)

different : (xs : List ℕ) → repeats xs ≡ false → AreDifferent xs
different [] e i j x f h = absurd (cc)
different (y ∷ ys) e zero zero x f h = refl
different (y ∷ ys) e zero (suc j) x f h = absurd (none_among x ys j (subst (λ z. is_among z ys ≡ false) (some_is f) (or_parts (is_among y ys) (repeats ys) e).0) h)
  where
    some_is : Some y ≡ Some x → y ≡ x
    some_is g = cc
different (y ∷ ys) e (suc i) zero x f h = absurd (none_among x ys i (subst (λ z. is_among z ys ≡ false) (some_is h) (or_parts (is_among y ys) (repeats ys) e).0) f)
  where
    some_is : Some y ≡ Some x → y ≡ x
    some_is g = cc
different (y ∷ ys) e (suc i) (suc j) x f h = ap suc (different ys (or_parts (is_among y ys) (repeats ys) e).1 i j x f h)

-- ---- what a number names is there

channel_there : (xs : List SpiChannel) (c : ℕ) → has_id channel_id xs c ≡ true → is_some (channel_in xs c) ≡ true
channel_there [] c e = absurd (cc)
channel_there (x ∷ xs) c e = by (x.id == c) refl e (channel_there xs c)
  where
    by : (q : Bool) → (x.id == c) ≡ q → (c == x.id) || has_id channel_id xs c ≡ true → (has_id channel_id xs c ≡ true → is_some (channel_in xs c) ≡ true) → is_some (if q then Some (taken_channel x) else channel_in xs c) ≡ true
    by true is some rest = refl
    by false is some rest = rest (later (c == x.id) refl some)
      where
        later : (b : Bool) → (c == x.id) ≡ b → b || has_id channel_id xs c ≡ true → has_id channel_id xs c ≡ true
        later true same f = absurd (let own = same_number c in let is_it = is_number c x.id same in let same_too : (x.id == c) ≡ true = subst (λ z. (z == c) ≡ true) is_it own in cc)
        later false same f = f

job_there : (xs : List SpiJob) (j : ℕ) → has_id job_id xs j ≡ true → is_some (job_in xs j) ≡ true
job_there [] j e = absurd (cc)
job_there (x ∷ xs) j e = by (x.id == j) refl e (job_there xs j)
  where
    by : (q : Bool) → (x.id == j) ≡ q → (j == x.id) || has_id job_id xs j ≡ true → (has_id job_id xs j ≡ true → is_some (job_in xs j) ≡ true) → is_some (if q then Some (taken_job x) else job_in xs j) ≡ true
    by true is some rest = refl
    by false is some rest = rest (later (j == x.id) refl some)
      where
        later : (b : Bool) → (j == x.id) ≡ b → b || has_id job_id xs j ≡ true → has_id job_id xs j ≡ true
        later true same f = absurd (let own = same_number j in let is_it = is_number j x.id same in let same_too : (x.id == j) ≡ true = subst (λ z. (z == j) ≡ true) is_it own in cc)
        later false same f = f

-- an item of a list that all are so is so
each_is : {T : Type 0} (P : T → Type 0) (xs : List T) (d x : T) → All P xs → Contains xs x → P x
each_is P xs d x all (i, lt, own) = subst P (sym (get_or_default xs i x d lt) ∙ own) (all i d lt)

-- ---- channels

sound_channel : (x : SpiChannel) → IsChannel x → serial_fits.IsSoundChannel x
sound_channel x v = let r = by x.channel_type v.channel_type in record { some = r.0; few = r.1; narrow = v.data_width.most }
  where
    by : (k : SpiChannelType) → IsChannelType k → (0 < words_of k) × (words_of k ≤ 64)
    by (Internal n) r = ((let le = r.least in omega (arith, le)), r.most)
    by (External n) r = ((let le = r.least in omega (arith, le)), r.most)

-- ---- jobs

-- the job that is found is one of the configured ones
found_at : (xs : List SpiJob) (j : ℕ) (k : Job) → job_in xs j ≡ Some k → (x : SpiJob) × Contains xs x × (x.id ≡ j) × (taken_job x ≡ k)
found_at [] j k e = absurd (cc)
found_at (x ∷ xs) j k e = by (found_at xs j k) (x.id == j) refl e
  where
    some_is : (a b : Job) → Some a ≡ Some b → a ≡ b
    some_is a b f = cc

    by : (job_in xs j ≡ Some k → (y : SpiJob) × Contains xs y × (y.id ≡ j) × (taken_job y ≡ k)) → (q : Bool) → (x.id == j) ≡ q → (if q then Some (taken_job x) else job_in xs j) ≡ Some k → (y : SpiJob) × Contains (x ∷ xs) y × (y.id ≡ j) × (taken_job y ≡ k)
    by rest true is f = (x, (0, omega arith, refl), is_number x.id j is, some_is (taken_job x) k f)
    by rest false is f = let r = rest f in (r.0, (suc r.1.0, (let lt = r.1.1 in omega (arith, lt)), r.1.2), r.2, r.3)

abbrev Contains_at : List SpiJob → ℕ → SpiJob → Type 0
Contains_at xs i x = (i < length xs) × (slice_index_or xs i x ≡ x)

module _ (g : SpiConfig) (h : IsSpi g) where
  sound_job : All (serial_fits.IsSoundJob g) g.jobs
  sound_job = λ k d lt.
      let x = slice_index_or g.jobs k d in
      let v = h.tables.jobs.each k d lt in
      record {
        some = (let le = v.channel_list.enough in omega (arith, le));
        few = v.channel_list.few;
        unit = (let le = v.unit.most in omega (arith, le));
        priority = v.priority.most;
        numbers = λ i less. let le = (v.channel_list.each i 0 less).most in omega (arith, le);
        there = λ c own. channel_there g.channels c (each_is (λ n. has_id channel_id g.channels n ≡ true) x.channel_list 0 c (h.references.channels k d lt) own);
        once = different x.channel_list (h.rules.channels_once k d lt);
      }

  -- jobs of a sequence have one unit
  same_unit : (ids : List ℕ) → list_any (λ (j : SpiJob). is_among j.id ids && has_other_unit ids j.unit g.jobs) g.jobs ≡ false → (a b : SpiJob) → Contains g.jobs a → Contains g.jobs b → is_among a.id ids ≡ true → is_among b.id ids ≡ true → b.unit ≡ a.unit
  same_unit ids none a b own other in_a in_b = by (b.unit == a.unit) refl
    where
      mixed : (b.unit == a.unit) ≡ false → is_among b.id ids && not (b.unit == a.unit) ≡ true
      mixed e = ap (λ q. q && not (b.unit == a.unit)) in_b ∙ ap not e

      by : (q : Bool) → (b.unit == a.unit) ≡ q → b.unit ≡ a.unit
      by true e = is_number b.unit a.unit e
      by false e = not_both (is_among a.id ids && has_other_unit ids a.unit g.jobs)
          (ap (λ q. q && has_other_unit ids a.unit g.jobs) in_a ∙ any_in (λ (k : SpiJob). is_among k.id ids && not (k.unit == a.unit)) g.jobs b other (mixed e))
          (any_none (λ (j : SpiJob). is_among j.id ids && has_other_unit ids j.unit g.jobs) g.jobs none a own)

  among_of : (ids : List ℕ) (n : ℕ) → Contains ids n → is_among n ids ≡ true
  among_of ids n own = any_in (λ m. m == n) ids n own (same_number n)

  sound_sequence : All (serial_fits.IsSoundSequence g) g.sequences
  sound_sequence = λ k d lt.
      let x = slice_index_or g.sequences k d in
      let v = h.tables.sequences.each k d lt in
      record {
        some = (let le = v.job_assignment.enough in omega (arith, le));
        few = v.job_assignment.few;
        numbers = λ i less. let le = (v.job_assignment.each i 0 less).most in omega (arith, le);
        there = λ j own. job_there g.jobs j (each_is (λ n. has_id job_id g.jobs n ≡ true) x.job_assignment 0 j (h.references.jobs k d lt) own);
        once = different x.job_assignment (h.rules.jobs_once k d lt);
        unit = λ i j y z own other e f. one_unit x.job_assignment (h.rules.one_unit k d lt) i j y z own other (found_at g.jobs i y e) (found_at g.jobs j z f);
      }
    where
      one_unit : (ids : List ℕ) → list_any (λ (j : SpiJob). is_among j.id ids && has_other_unit ids j.unit g.jobs) g.jobs ≡ false → (i j : ℕ) (y z : Job) → Contains ids i → Contains ids j
          → (a : SpiJob) × Contains g.jobs a × (a.id ≡ i) × (taken_job a ≡ y) → (b : SpiJob) × Contains g.jobs b × (b.id ≡ j) × (taken_job b ≡ z) → y.unit ≡ z.unit
      one_unit ids none i j y z own other (a, in_a, is_a, ta) (b, in_b, is_b, tb) =
          let same = same_unit ids none a b in_a in_b (ap (λ n. is_among n ids) is_a ∙ among_of ids i own) (ap (λ n. is_among n ids) is_b ∙ among_of ids j other) in
          ap (λ (k : Job). k.unit) (sym ta) ∙ ap (λ n. n % 256) (sym same) ∙ ap (λ (k : Job). k.unit) tb

  -- two jobs that share a channel have one unit, the earlier one first
  shared_by : (i j : ℕ) (a b : SpiJob) → i < j → Contains_at g.jobs i a → Contains_at g.jobs j b → (c : ℕ) → is_among c a.channel_list ≡ true → is_among c b.channel_list ≡ true → a.unit ≡ b.unit
  shared_by i j a b lt (few, own) (less, other) c in_a in_b = by (a.unit == b.unit) refl
    where
      rule : shares_channel (take j g.jobs) b ≡ false
      rule = subst (λ x. shares_channel (take j g.jobs) x ≡ false) other (h.rules.shared j b less)

      earlier : Contains (take j g.jobs) a
      earlier = (i, (let size : length (take j g.jobs) ≡ j = length-take-le j g.jobs (omega (arith, less)) in omega (arith, size, lt)), get_or-take j g.jobs i a lt ∙ own)

      both : share_channel a.channel_list b.channel_list ≡ true
      both = let r = any_some (λ m. m == c) a.channel_list in_a in any_in (λ n. is_among n b.channel_list) a.channel_list r.0 r.1 (ap (λ n. is_among n b.channel_list) (is_number r.0 c r.2) ∙ in_b)

      by : (q : Bool) → (a.unit == b.unit) ≡ q → a.unit ≡ b.unit
      by true e = is_number a.unit b.unit e
      by false e = not_both (not (a.unit == b.unit) && share_channel a.channel_list b.channel_list)
          (ap (λ q. not q && share_channel a.channel_list b.channel_list) e ∙ both)
          (any_none (λ (e : SpiJob). not (e.unit == b.unit) && share_channel e.channel_list b.channel_list) (take j g.jobs) rule a earlier)

  shared : (c i j : ℕ) (y z : Job) → job_in g.jobs i ≡ Some y → job_in g.jobs j ≡ Some z → list_any (λ k. k == c) (channels_by (Some y)) ≡ true → list_any (λ k. k == c) (channels_by (Some z)) ≡ true → y.unit ≡ z.unit
  shared c i j y z e f in_y in_z = by (found_at g.jobs i y e) (found_at g.jobs j z f)
    where
      kept : (x : SpiJob) (k : Job) → Contains g.jobs x → taken_job x ≡ k → list_any (λ n. n == c) (channels_by (Some k)) ≡ true → is_among c x.channel_list ≡ true
      kept x k own is some =
          let v = each_is (serial_fits.IsSoundJob g) g.jobs x x sound_job own in
          ap (λ ns. list_any (λ n. n == c) ns) (sym (serial_fits.channels_kept x.channel_list v.few v.numbers)) ∙ ap (λ k. list_any (λ n. n == c) (channels_by (Some k))) is ∙ some

      units : (p q : ℕ) (a b : SpiJob) → Contains_at g.jobs p a → Contains_at g.jobs q b → is_among c a.channel_list ≡ true → is_among c b.channel_list ≡ true → a.unit ≡ b.unit
      units p q a b own other in_a in_b = by_order (nat_lt p q) refl (nat_lt q p) refl
        where
          below : (m n : ℕ) → nat_lt m n ≡ true → m < n
          below m n e = grind (arith, nat_tests)

          equal : (m n : ℕ) → nat_lt m n ≡ false → nat_lt n m ≡ false → m ≡ n
          equal m n e f = grind (arith, nat_tests)

          one : p ≡ q → a ≡ b
          one is = sym own.1 ∙ get_or_default g.jobs p a b own.0 ∙ ap (λ n. slice_index_or g.jobs n b) is ∙ other.1

          by_order : (u : Bool) → nat_lt p q ≡ u → (v : Bool) → nat_lt q p ≡ v → a.unit ≡ b.unit
          by_order true e v f = shared_by p q a b (below p q e) own other c in_a in_b
          by_order false e true f = sym (shared_by q p b a (below q p f) other own c in_b in_a)
          by_order false e false f = ap (λ (x : SpiJob). x.unit) (one (equal p q e f))

      by : (a : SpiJob) × Contains g.jobs a × (a.id ≡ i) × (taken_job a ≡ y) → (b : SpiJob) × Contains g.jobs b × (b.id ≡ j) × (taken_job b ≡ z) → y.unit ≡ z.unit
      by (a, own, is_a, ta) (b, other, is_b, tb) =
          let same = units own.0 other.0 a b (own.1, own.2) (other.1, other.2) (kept a y own ta in_y) (kept b z other tb in_z) in
          ap (λ (k : Job). k.unit) (sym ta) ∙ ap (λ n. n % 256) same ∙ ap (λ (k : Job). k.unit) tb

  pub sound_serial : serial_fits.IsSound g
  sound_serial = record { channels = λ k d lt. sound_channel (slice_index_or g.channels k d) (h.tables.channels.each k d lt); jobs = sound_job; sequences = sound_sequence; shared = shared }

-- ---- the source arrays

source_is : (xs : List SpiChannel) → All serial_fits.IsSoundChannel xs → (c : ℕ) → source_in xs c ≡ length_by (channel_in xs c)
source_is [] sound c = refl
source_is (x ∷ xs) sound c = by (x.id == c) (source_is xs (λ i y lt. sound (suc i) y (omega (arith, lt))) c)
  where
    small : words_of x.channel_type ≡ words_of x.channel_type % 256
    small = let few = (sound 0 x (omega arith)).few in omega (arith, few)

    by : (q : Bool) → source_in xs c ≡ length_by (channel_in xs c) → (if q then words_of x.channel_type else source_in xs c) ≡ length_by (if q then Some (taken_channel x) else channel_in xs c)
    by true more = small
    by false more = more

-- each channel's source array has as many places as the channel has words
pub wired_serial : (c : Config) → IsSpi c.spi → (room devices : ℕ) → WiredAs (table_of c.spi) (hung devices (power_on c room))
unfolding wiring_of
wired_serial c h room devices = λ n lt.
    get_or-map-range_with_len (source_in c.spi.channels) 0 16 n n 0 lt (omega arith)
    ∙ source_is c.spi.channels (sound_serial c.spi h).channels n
    ∙ ap length_by (sym (serial_fits.channel_is c.spi.channels n lt))

-- ---- how many places the arrays have

places_in : (xs : List SpiChannel) → All serial_fits.IsSoundChannel xs → (n : ℕ) → of_id (λ (x : SpiChannel). x.id) (λ (x : SpiChannel). words_of x.channel_type) xs n ≡ length_by (channel_in xs n)
places_in [] sound n = refl
places_in (x ∷ xs) sound n = by (x.id == n) (places_in xs (λ i y lt. sound (suc i) y (omega (arith, lt))) n)
  where
    small : words_of x.channel_type ≡ words_of x.channel_type % 256
    small = let few = (sound 0 x (omega arith)).few in omega (arith, few)

    by : (q : Bool) → of_id (λ (x : SpiChannel). x.id) (λ (x : SpiChannel). words_of x.channel_type) xs n ≡ length_by (channel_in xs n)
        → option_map_or (λ (x : SpiChannel). words_of x.channel_type) (cond q (Some x) (find (λ (x : SpiChannel). x.id == n) xs)) 0 ≡ length_by (if q then Some (taken_channel x) else channel_in xs n)
    by true more = small
    by false more = more

-- the channels have numbers below 16
none_past : (xs : List SpiChannel) → All IsChannel xs → (n : ℕ) → 16 ≤ n → channel_in xs n ≡ None
none_past [] each n le = refl
none_past (x ∷ xs) each n le = by (x.id == n) refl (none_past xs (λ i y lt. each (suc i) y (omega (arith, lt))) n le)
  where
    by : (q : Bool) → (x.id == n) ≡ q → channel_in xs n ≡ None → (if q then Some (taken_channel x) else channel_in xs n) ≡ None
    by true e more = absurd (let most = (each 0 x (omega arith)).id.most in let is = is_number x.id n e in omega (arith, most, is, le))
    by false e more = more

module _ (g : SpiConfig) (h : IsSpi g) where
  table_past : (n : ℕ) → 16 ≤ n → channel_of (table_of g) n ≡ None
  table_past n le = by (channel_of (table_of g) n) refl
    where
      by : (o : Option Channel) → channel_of (table_of g) n ≡ o → o ≡ None
      by None e = refl
      by (Some k) e = absurd (let lt = in_list (table_of g).channels n k e in omega (arith, lt, le))

  -- an array has as many places as the channel has words
  pub array_length : (n : ℕ) → of_id (λ (x : SpiChannel). x.id) (λ (x : SpiChannel). words_of x.channel_type) g.channels n ≡ length_by (channel_of (table_of g) n)
  array_length n = places_in g.channels (sound_serial g h).channels n ∙ by (nat_lt n 16) refl
    where
      below : nat_lt n 16 ≡ true → n < 16
      below e = grind (arith, nat_tests)

      past : nat_lt n 16 ≡ false → 16 ≤ n
      past e = grind (arith, nat_tests)

      by : (q : Bool) → nat_lt n 16 ≡ q → length_by (channel_in g.channels n) ≡ length_by (channel_of (table_of g) n)
      by true e = ap length_by (sym (serial_fits.channel_is g.channels n (below e)))
      by false e = ap length_by (none_past g.channels h.tables.channels.each n (past e)) ∙ ap length_by (sym (table_past n (past e)))

  -- so a channel that is found has so many
  pub channel_words : (n : ℕ) (o : Option Channel) → channel_of (table_of g) n ≡ o → IfSome o (λ k. k.length ≡ of_id (λ (x : SpiChannel). x.id) (λ (x : SpiChannel). words_of x.channel_type) g.channels n)
  channel_words n None e = tt
  channel_words n (Some k) e = sym (array_length n ∙ ap length_by e)
