-- A source array is filled on the chip and in the machine alike, and nothing else is.
-- From words.SameWords, words.Cases, words.JobPlaces, words.WordsOfModule, hardware.StableUnderHardware.
-- Used by bookkeeping.RefinementRight, words.SideWords, mcal_drivers: proofs/SoundConverters and 14 more.
use Rattle.std.proofs.Common.{◌≡◌, ◌≢◌, ◌+◌, ◌-◌, ◌*◌, ◌<◌, ◌≤◌, ◌==◌, ◌&&◌, [], ◌∷◌, ◌++◌, ◌∙◌, ◌⊎◌, if◌then◌else◌}
use Rattle.spi_sequences.specs.Terms
use Terms.{AllRight, ap, AreCarried, arith, Bool, Call, carried_at, carries_channel, cases, Channel, channel-seen}
use Terms.{channel_at, channel_of, channels_of, ChannelState, Chip, Contains, Contains-get_or, count_by-le-length, drop}
use Terms.{entry_carried, eq_is, eq_isnt, false, Fill, filled, FitsSpi, get_or-append-add, get_or-drop, get_or-take}
use Terms.{get_or_append_left, get_or_default, Going, happened, HeldRight, HoldsArrays, inl, inr, internal_by}
use Terms.{is_in_use, is_off, is_own_word, is_some, IsReady, IsSoundState, item-other, item-same, jobs_of, length}
use Terms.{length-append, length-take, length_by, List, list_any, Mode, moved, nat_lt, nat_tests, next_job, None, not}
use Terms.{Option, or_parts, or_rest, overwritten, own_words, owners, Part, place_of, placed_of, Preparing, put_by}
use Terms.{put_held, Putting, reads_from, refl, Reservation, Reservations, ReservedBy, RunAgrees, RunsNext}
use Terms.{same_or_other, same_Some, set_up_code, SetUpFits, slice_get, slice_index, Some, some_or_none, Source}
use Terms.{source_length, source_word, SOURCES, spi_setting, SpiRepresents, SpiState, SpiTable, stands-event, subst}
use Terms.{suc, sum_by, sum_by-cons, sym, take, to_write, true, untouched, uses, uses_channel, view, whether, word_at}
use Terms.{word_of, WordsAgree, World, Writing, ℕ}
use Rattle.spi_sequences.specs.laws.{hardware.StableUnderHardware.{pointwise}, words.JobPlaces.{all_cases}}
use Rattle.spi_sequences.specs.laws.{words.JobPlaces.{none_under_way}, words.SameWords.{banks_view, contains_map}}
use Rattle.spi_sequences.specs.laws.words.SameWords.{next_view, sends_as, sequences_as, sound_as, words_alike}
use Rattle.spi_sequences.specs.laws.words.WordsOfModule.{own_held, own_set_up, some_at}
use Rattle.mcal_base.specs.facts.Numbers.{eq_from, lt_is, lt_isnt}
pub use Rattle.spi_sequences.specs.laws.words.JobPlaces.{any_in}

-- ---- how many words the module has

sum_few : {A : Type 0} (f : A → ℕ) (xs : List A) → ((x : A) → Contains xs x → f x ≤ 64) → sum_by f xs ≤ 64 * length xs
sum_few f [] h = let none : sum_by f [] ≡ 0 = refl in omega (arith, none)
sum_few f (x ∷ xs) h =
    let first = h x (0, omega arith, refl) in
    let rest = sum_few f xs (λ y there. h y (suc there.0, let lt = there.1 in omega (arith, lt), there.2)) in
    let whole = sum_by-cons f x xs in
    let one : length (x ∷ xs) ≡ suc (length xs) = refl in
    omega (arith, first, rest, whole, one)

pub own_low : (d : SpiTable) → FitsSpi d → (k : ℕ) → is_own_word d k ≡ true → k < SOURCES
own_low d fits k own =
    let channels = count_by-le-length is_some d.channels in
    let jobs = count_by-le-length is_some d.jobs in
    let sequences = count_by-le-length is_some d.sequences in
    let words = sum_few internal_by d.channels (λ x there. small x there) in
    let below : k < 49152 + own_words d = high (own_words d) own in
    omega (arith, below, channels, jobs, sequences, words, fits.rows.0, fits.rows.1, fits.rows.2)
  where
    high : (n : ℕ) → not (nat_lt k 49152) && nat_lt k (49152 + n) ≡ true → k < 49152 + n
    high n e = grind (arith, nat_tests)

    at : (c : ℕ) (x : Option Channel) → channel_of d c ≡ x → internal_by x ≤ 64
    at c None e = omega arith
    at c (Some x) e =
        elim x.internal as (λ q. (if q then x.length else 0) ≤ 64)
        [ true ↦ (fits.channels c x e).few | false ↦ omega arith ]

    small : (x : Option Channel) → Contains d.channels x → internal_by x ≤ 64
    small x there = at there.0 x (get_or_default d.channels there.0 None x there.1 ∙ there.2)

-- ---- words that become others from a place on

module _ (words xs : List ℕ) (at : ℕ) (there : at + length xs ≤ length words) where
  front : length (take at words) ≡ at
  front = omega (arith, length-take at words, there)

  pub over_before : (k : ℕ) → k < at → slice_index (overwritten words at xs) k ≡ slice_index words k
  over_before k lt =
      get_or_append_left (take at words ++ xs) (drop (at + length xs) words) 0 k (omega (arith, length-append (take at words) xs, front, lt))
      ∙ (get_or_append_left (take at words) xs 0 k (omega (arith, front, lt)) ∙ get_or-take at words k 0 lt)

  pub over_inside : (i : ℕ) → i < length xs → slice_index (overwritten words at xs) (at + i) ≡ slice_index xs i
  over_inside i lt =
      get_or_append_left (take at words ++ xs) (drop (at + length xs) words) 0 (at + i) (omega (arith, length-append (take at words) xs, front, lt))
      ∙ ap (λ n. slice_index (take at words ++ xs) (n + i)) (sym front) ∙ get_or-append-add (take at words) xs i 0

  pub over_after : (i : ℕ) → length xs ≤ i → slice_index (overwritten words at xs) (at + i) ≡ slice_index words (at + i)
  over_after i le =
      let whole : length (take at words ++ xs) ≡ at + length xs = omega (arith, length-append (take at words) xs, front) in
      let split : at + i ≡ length (take at words ++ xs) + (i - length xs) = omega (arith, whole, le) in
      ap (λ n. slice_index (overwritten words at xs) n) split ∙ get_or-append-add (take at words ++ xs) (drop (at + length xs) words) (i - length xs) 0
      ∙ get_or-drop (at + length xs) words (i - length xs) 0 ∙ ap (λ n. slice_index words n) (omega (arith, le))

-- ---- a filled array

-- the words that a fill leaves in an array of so many places, by the place
array_filled : (n : ℕ) (ws old : List ℕ) (i : ℕ) → i < n → (q : Bool) → nat_lt i (length ws) ≡ q → word_at (take n (ws ++ drop (length ws) old)) i ≡ (if q then slice_index ws i else slice_index old i)
array_filled n ws old i lt true e = get_or-take n (ws ++ drop (length ws) old) i 0 lt ∙ get_or_append_left ws (drop (length ws) old) 0 i (lt_is i (length ws) e)
array_filled n ws old i lt false e =
    let le = lt_isnt i (length ws) e in
    let split : i ≡ length ws + (i - length ws) = omega (arith, le) in
    get_or-take n (ws ++ drop (length ws) old) i 0 lt ∙ ap (λ k. slice_index (ws ++ drop (length ws) old) k) split ∙ get_or-append-add ws (drop (length ws) old) (i - length ws) 0
    ∙ get_or-drop (length ws) old (i - length ws) 0 ∙ ap (λ k. slice_index old k) (sym split)

-- ---- a fill

pub not_both : {A : Type 0} (q : Bool) → q ≡ true → q ≡ false → A
not_both q e f = absurd (let g = sym e ∙ f in cc)

-- a put, where there is one
abbrev pub put_if : Bool → Putting → Option Putting
put_if q p = if q then Some p else None

-- no frame writes words of the channel's source
abbrev pub Spared : ℕ → Reservation → Type 0
Spared c (Writing n p b i x) = n ≢ c
Spared c _ = Unit {0}

abbrev pub AllSpared : ℕ → Reservations → Type 0
AllSpared c [] = Unit {0}
AllSpared c (h ∷ hs) = Spared c h.what × AllSpared c hs

-- where no call under way reads it, and where there is no such channel
pub spared_by : (d : SpiTable) (mode : Mode) (cs : List ChannelState) (c : ℕ) (hs : Reservations) → list_any (reads_from (spi_setting d) c) (owners hs) ≡ false → AllRight d mode cs hs → AllSpared c hs
spared_by d mode cs c [] none r = tt
spared_by d mode cs c (x ∷ xs) none r = let parts = or_parts (reads_from (spi_setting d) c x.by) (list_any (reads_from (spi_setting d) c) (owners xs)) none in (one x x.what parts.0 r.0, spared_by d mode cs c xs parts.1 r.1)
  where
    one : (x : ReservedBy Call Reservation) (y : Reservation) → reads_from (spi_setting d) c x.by ≡ false → HeldRight d mode cs x y → Spared c y
    one x (Writing n p b i y) f r = eq_isnt n c (subst (λ o. reads_from (spi_setting d) c o ≡ false) r.0 f)
    one x _ f r = tt

pub spared_none : (d : SpiTable) (mode : Mode) (cs : List ChannelState) (c : ℕ) (hs : Reservations) → is_some (channel_of d c) ≡ false → AllRight d mode cs hs → AllSpared c hs
spared_none d mode cs c [] none r = tt
spared_none d mode cs c (x ∷ xs) none r = (one x x.what r.0, spared_none d mode cs c xs none r.1)
  where
    one : (x : ReservedBy Call Reservation) (y : Reservation) → HeldRight d mode cs x y → Spared c y
    one x (Writing n p b i y) r = λ same. let f = sym (ap (λ m. is_some (channel_of d m)) same) ∙ r.3 in not_both (is_some (channel_of d c)) f none
    one x _ r = tt

module _ (d : SpiTable) (fits : FitsSpi d) (held : Reservations) (chip : Chip) (w : World) (s : SpiState) (c : ℕ) (ws : List ℕ) (lt : c < 16) (free : uses d s c ≡ false) (h : SpiRepresents d held chip w s) where
  abbrev after : Chip
  after = happened chip (Fill c ws)

  abbrev later : SpiState
  later = moved d w s (Fill c ws)

  abbrev given : List ℕ
  given = take (source_length chip c) ws

  length_small : (n : ℕ) → length_by (channel_of d n) ≤ 64
  length_small n = some_or_none (channel_of d n)
      (λ k e. let width = ap length_by e in let most = (fits.channels n k e).few in omega (arith, width, most))
      (λ e. let width = ap length_by e in omega (arith, width))

  few : length given ≤ 64
  few = let wired = h.wired c lt in let most = length_small c in omega (arith, length-take (source_length chip c) ws, most, wired)

  room : place_of (Source c) 0 + length given ≤ length chip.words
  room = let size = h.outside.all.words in omega (arith, few, lt, size)

  low_word : (k : ℕ) → k < place_of (Source c) 0 → word_of after k ≡ word_of chip k
  low_word k below = over_before chip.words given (place_of (Source c) 0) room k below

  high_word : (k : ℕ) → place_of (Source c) 0 + 64 ≤ k → word_of after k ≡ word_of chip k
  high_word k above =
      let back : place_of (Source c) 0 + (k - place_of (Source c) 0) ≡ k = omega (arith, above) in
      subst (λ n. word_of after n ≡ word_of chip n) back (over_after chip.words given (place_of (Source c) 0) room (k - place_of (Source c) 0) (omega (arith, few, above)))

  own_word : (k : ℕ) → is_own_word d k ≡ true → word_of after k ≡ word_of chip k
  own_word k own = let low = own_low d fits k own in low_word k (omega (arith, low))

  -- the sources of other channels
  other_source : (n i : ℕ) → n ≢ c → i < 64 → word_of after (place_of (Source n) i) ≡ word_of chip (place_of (Source n) i)
  other_source n i ne small = whether (nat_lt n c)
      (λ e. low_word _ (let below : n < c = grind (arith, nat_tests) in omega (arith, below, small)))
      (λ e. high_word _ (let above : c < n = grind (arith, nat_tests) in omega (arith, above, small)))

  -- the array that is filled
  own_source : (i : ℕ) → i < length_by (channel_of d c) → word_of after (place_of (Source c) i) ≡ word_at (filled ws (channel_of d c) (channel_at s c)).source i
  own_source i small =
      let places : place_of (Source c) i ≡ place_of (Source c) 0 + i = omega arith in
      let wired = h.wired c lt in
      whether (nat_lt i (length ws))
      (λ e.
      let below = lt_is i (length ws) e in
      ap (λ n. word_of after n) places ∙ over_inside chip.words given (place_of (Source c) 0) room i (omega (arith, length-take (source_length chip c) ws, below, small, wired))
      ∙ get_or-take (source_length chip c) ws i 0 (omega (arith, small, wired)) ∙ sym (array_filled (length_by (channel_of d c)) ws (channel_at s c).source i small true e))
      (λ e.
      let above = lt_isnt i (length ws) e in
      ap (λ n. word_of after n) places ∙ over_after chip.words given (place_of (Source c) 0) room i (omega (arith, length-take (source_length chip c) ws, above))
      ∙ ap (λ n. word_of chip n) (sym places) ∙ (h.arrays c).source i small ∙ sym (array_filled (length_by (channel_of d c)) ws (channel_at s c).source i small false e))

  arrays_by : (n : ℕ) → (n ≡ c) ⊎ (n ≢ c) → HoldsArrays (word_of after) d later n
  arrays_by n (inl e) = subst (λ k. HoldsArrays (word_of after) d later k) (sym e) (record {
    source = λ i small. own_source i small ∙ ap (λ x. word_at x.source i) (sym (item-same untouched s.channels c (filled ws (channel_of d c) (channel_at s c))));
    destination = λ i small. let below = length_small c in high_word _ (omega (arith, lt)) ∙ (h.arrays c).destination i small ∙ ap (λ x. word_at x.destination i) (sym (item-same untouched s.channels c (filled ws (channel_of d c) (channel_at s c))));
  })
  arrays_by n (inr ne) = record {
    source = λ i small. let below = length_small n in other_source n i ne (omega (arith, small, below)) ∙ (h.arrays n).source i small ∙ ap (λ x. word_at x.source i) (sym (item-other untouched s.channels c n (filled ws (channel_of d c) (channel_at s c)) ne));
    destination = λ i small. high_word _ (omega (arith, lt)) ∙ (h.arrays n).destination i small ∙ ap (λ x. word_at x.destination i) (sym (item-other untouched s.channels c n (filled ws (channel_of d c) (channel_at s c)) ne));
  }

  same_view : view later ≡ record (view s) { sources = (view later).sources }
  same_view =
      ap (λ f. record (view later) { written = f }) (pointwise (view later).written (view s).written (λ n. channel-seen (λ x. x.written) s c n (filled ws (channel_of d c) (channel_at s c)) refl))
      ∙ ap (λ f. record (view later) { written = (view s).written; received = f }) (pointwise (view later).received (view s).received (λ n. channel-seen (λ x. x.received) s c n (filled ws (channel_of d c) (channel_at s c)) refl))

  -- a job under way doesn't use the channel
  unused : (u : ℕ) (g : Going) (n : ℕ) (x : Part) → u < 2 → h.going u ≡ Some g → slice_get g.parts n ≡ Some x → x.channel ≢ c
  unused u g n x small is e same =
      let next = subst (λ o. RunsNext d (view s) u o) is (h.nexts u small) in
      let entry = h.sound.entries g.pending next.0 in
      let neither = or_parts (is_in_use d c s.pending) (list_any (carries_channel d c) s.carried) free in
      let contained : Contains (channels_of d (next_job d g.pending)) x.channel = whether (is_off s.mode)
      (λ f. absurd (none_under_way d (view s) h.sound f g.pending next.0))
      (λ f. let g1 = subst (λ o. RunAgrees d (word_of chip) u o) is ((h.words.on f).runs u small) in subst (λ cs. Contains cs x.channel) g1.channels (contains_map (λ y. y.channel) g.parts n x e)) in
      let in_job : uses_channel d c (next_job d g.pending) ≡ true = any_in (λ n. n == c) (channels_of d (next_job d g.pending)) x.channel contained (eq_from x.channel c same) in
      let uses = any_in (uses_channel d c) (jobs_of d g.pending.sequence) (next_job d g.pending) (Contains-get_or (jobs_of d g.pending.sequence) g.pending.next 0 entry.next) in_job in
      cases (all_cases (view s) g.pending next.0)
      (λ there. not_both (is_in_use d c s.pending) (any_in (λ p. list_any (uses_channel d c) (jobs_of d p.sequence)) s.pending g.pending there uses) neither.0)
      (λ (k, i). some_or_none (carried_at s k)
      (λ y f.
      let entry : y.entry ≡ g.pending = same_Some y.entry g.pending (sym (ap entry_carried f) ∙ i) in
      not_both (list_any (carries_channel d c) s.carried) (some_at (carries_channel d c) s.carried k refl (ap (carries_channel d c) f ∙ ap (λ p. list_any (uses_channel d c) (jobs_of d p.sequence)) entry ∙ uses)) neither.1)
      (λ f. absurd (let none = sym (ap entry_carried f) ∙ i in cc)))

  right_filled : (hs : Reservations) → AllSpared c hs → AllRight d s.mode s.channels hs → AllRight d later.mode later.channels hs
  right_filled [] none r = tt
  right_filled (x ∷ xs) none r = (one x x.what none.0 r.0, right_filled xs none.1 r.1)
    where
      one : (x : ReservedBy Call Reservation) (y : Reservation) → Spared c y → HeldRight d s.mode s.channels x y → HeldRight d later.mode later.channels x y
      one x (Writing n p b i y) ne r = (r.0, subst (λ z. IsReady (to_write (channel_of d n) p z.source) i y) (sym (item-other untouched s.channels c n (filled ws (channel_of d c) (channel_at s c)) ne)) r.1, r.2, r.3)
      one x _ ne r = r

  -- no frame takes its words from there
  puts_same : (hs : Reservations) → AllSpared c hs → (n : ℕ) (r : Bool) → put_held d (view later).sources n r hs ≡ put_held d (view s).sources n r hs
  puts_same [] none n r = refl
  puts_same (x ∷ xs) none n r = ap (λ o. or_rest o (put_held d (view later).sources n r xs)) (one x.what none.0) ∙ ap (or_rest (put_by d (view s).sources n r x.what)) (puts_same xs none.1 n r)
    where
      one : (y : Reservation) → Spared c y → put_by d (view later).sources n r y ≡ put_by d (view s).sources n r y
      one (Writing m p b i y) ne = by (not r) (m == n) refl
        where
          by : (a q : Bool) → (m == n) ≡ q → put_if (a && q) (record { bank = b; filled = take i (to_write (channel_of d n) p ((view later).sources n)) }) ≡ put_if (a && q) (record { bank = b; filled = take i (to_write (channel_of d n) p ((view s).sources n)) })
          by true true e = let same : m ≡ n = eq_is m n e in ap (λ z. put_if true (record { bank = b; filled = take i (to_write (channel_of d n) p z.source) })) (item-other untouched s.channels c n (filled ws (channel_of d c) (channel_at s c)) (λ g. ne (same ∙ g)))
          by _ _ e = refl
      one (Preparing stored readied None) ne = refl
      one _ ne = refl

  pub fill_agrees : AllSpared c held → SpiRepresents d held (happened chip (Fill c ws)) w (moved d w s (Fill c ws))
  fill_agrees none = record {
    right = right_filled held none h.right;
    outside = stands-event chip w (Fill c ws) lt h.outside;
    wired = h.wired;
    size = h.size;
    sound = subst (λ v. IsSoundState d v) (sym same_view) (sound_as d (view s) s.mode (view s).written (view s).received (view later).sources h.sound.off h.sound.carries.off h.sound);
    going = h.going;
    nexts = λ u few. next_view d (view s) (view later) u (h.going u) refl refl (h.nexts u few);
    units = h.units;
    sends = h.sends;
    sending = sends_as d chip after w w h.going h.going s later (λ u g few sync is. refl) (λ u g few sync is. refl) (λ u g n x k few sync is there known. own_word _ (own_held d fits x.channel k known)) (λ u o knows. knows) held h.sending;
    carriers = subst (λ v. AreCarried v held) (sym same_view) h.carriers;
    words = subst (λ v. WordsAgree d held h.going (word_of after) v) (sym same_view) words_filled;
    set_ups = λ on n k e external. own_word _ (own_set_up d fits n k e) ∙ h.set_ups on n k e external ∙ ap (λ o. set_up_code o) (sym (channel-seen (λ x. x.set_up) s c n (filled ws (channel_of d c) (channel_at s c)) refl));
    sizes = λ on n k e. let was = h.sizes on n k e in record { written = λ i. ap length (channel-seen (λ x. x.written) s c n (filled ws (channel_of d c) (channel_at s c)) refl) ∙ was.written i; set_up = λ i. subst (λ o. SetUpFits k o) (sym (channel-seen (λ x. x.set_up) s c n (filled ws (channel_of d c) (channel_at s c)) refl)) (was.set_up i) };
    arrays = λ n. arrays_by n (same_or_other n c);
    lines = h.lines;
    owed = h.owed;
  }
    where
      sources : (u : ℕ) (g : Going) (n : ℕ) (x : Part) (k : Channel) (i : ℕ) → u < 2 → h.going u ≡ Some g → slice_get g.parts n ≡ Some x → channel_of d x.channel ≡ Some k → i < length_by (channel_of d x.channel) → word_of after (source_word (placed_of d x.channel) i) ≡ word_of chip (source_word (placed_of d x.channel) i)
      sources u g n x k i small is e there below = let few = length_small x.channel in other_source x.channel i (unused u g n x small is e) (omega (arith, below, few))

      words_filled : WordsAgree d held h.going (word_of after) (record (view s) { sources = (view later).sources })
      words_filled =
          let was = words_alike d fits h.going (word_of chip) (word_of after) (view s) own_word sources h.nexts held h.words in
          record {
            state = was.state;
            on = λ on. let x = was.on on in record { sequences = sequences_as d (view s) s.mode (view s).written (view s).received (view later).sources (word_of after) x.sequences; runs = x.runs };
            banks = λ n k e internal. banks_view d held h.going (word_of after) (view s) (record (view s) { sources = (view later).sources }) n k refl refl (puts_same held none n) (was.banks n k e internal);
            stored = was.stored;
          }
