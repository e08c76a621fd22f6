-- What a job sends of its channels as it starts: its words are the machine's.
-- From services.ReadRight, services.WriteRight, words.Cases, words.WordsOfModule.
-- Used by spi_laws: starting.services.StartRight, spi_laws: sending.services.SendGoesOn, spi_laws: starting.ToBegin and 11 more.
use Rattle.std.proofs.Common.{◌≡◌, ◌+◌, ◌*◌, ◌/◌, ◌%◌, ◌<◌, ◌≤◌, ◌==◌, [], ◌∷◌, ◌++◌, ◌∙◌, if◌then◌else◌}
use Rattle.spi_sequences.specs.Terms
use Terms.{ap, arith, as_words, Bool, Channel, channel_at, channel_of, channel_words, ChannelState, Chip}
use Terms.{ExternalAgrees, false, FitsSpi, flag, flat_map, flat_map-cons, get_or-replicate, goes_by, goes_to, held_word}
use Terms.{InternalAgrees, is_off, is_users, length, length-replicate, length_by, List, map, Memory, None, not_set_up}
use Terms.{Nowhere, Null, Option, or_none, packed, Part, placed_of, Pointer, Position, refl, Reservations, set_up_code}
use Terms.{set_up_or, set_up_word, SetUp, SetUpFits, slice_index_or, Some, source_word, SpiRepresents, SpiState}
use Terms.{SpiTable, subst, sym, ToChannel, true, unpacked, Users, whether, width_by, word_of, words_from, words_of}
use Terms.{World, ℕ}
use Rattle.spi_sequences.specs.laws.{services.ReadRight.{length-first}, services.WriteRight.{first-at}}
use Rattle.spi_sequences.specs.laws.{words.WordsOfModule.{has_channel}, words.WordsToState.{other_number}}
use Rattle.word_shapes.specs.declared.jobs.set_up.SetUp as jobs

-- ---- the parts

-- what is sent of a channel as it stands, and where goes what comes in
abbrev pub part_for : (channel : ℕ) → Channel → ChannelState → (internal : Bool) → Part
part_for c k x true = record { channel = c; values = x.written; goes = ToChannel }
part_for c k x false = record { channel = c; values = words_from (set_up_or k x.set_up).source (set_up_or k x.set_up).words k x; goes = goes_to (set_up_or k x.set_up).destination }

abbrev pub part_by : (channel : ℕ) → Option Channel → ChannelState → Part
part_by c None x = record { channel = c; values = []; goes = Nowhere }
part_by c (Some k) x = part_for c k x k.internal

abbrev pub part_at : SpiTable → SpiState → (channel : ℕ) → Part
part_at d s c = part_by c (channel_of d c) (channel_at s c)

abbrev pub first_parts : SpiTable → SpiState → (channels : List ℕ) → List Part
first_parts d s cs = map (part_at d s) cs

module _ (d : SpiTable) (s : SpiState) where
  channel_is : (c : ℕ) → (part_at d s c).channel ≡ c
  channel_is c =
      elim (channel_of d c) as (λ o. (part_by c o (channel_at s c)).channel ≡ c)
      [ None ↦ refl | Some k ↦ of k k.internal ]
    where
      of : (k : Channel) (q : Bool) → (part_for c k (channel_at s c) q).channel ≡ c
      of k true = refl
      of k false = refl

  pub channels_are : (cs : List ℕ) → map (λ x. x.channel) (first_parts d s cs) ≡ cs
  channels_are [] = refl
  channels_are (c ∷ cs) = ap (λ n. n ∷ map (λ x. x.channel) (first_parts d s cs)) (channel_is c) ∙ ap (λ xs. c ∷ xs) (channels_are cs)

  part_words : (c : ℕ) → as_words (part_at d s c).channel (width_by (channel_of d (part_at d s c).channel)) (part_at d s c).goes (part_at d s c).values ≡ channel_words c (channel_of d c) (channel_at s c)
  part_words c = ap (λ n. as_words n (width_by (channel_of d n)) (part_at d s c).goes (part_at d s c).values) (channel_is c) ∙ (
      elim (channel_of d c) as (λ o. as_words c (width_by o) (part_by c o (channel_at s c)).goes (part_by c o (channel_at s c)).values ≡ channel_words c o (channel_at s c))
      [ None ↦ refl | Some k ↦ of k k.internal ])
    where
      of : (k : Channel) (q : Bool) → as_words c k.width (part_for c k (channel_at s c) q).goes (part_for c k (channel_at s c) q).values ≡ (if q then as_words c k.width ToChannel (channel_at s c).written else as_words c k.width (goes_to (set_up_or k (channel_at s c).set_up).destination) (words_from (set_up_or k (channel_at s c).set_up).source (set_up_or k (channel_at s c).set_up).words k (channel_at s c)))
      of k true = refl
      of k false = refl

  -- its words are those of the job
  pub words_are : (cs : List ℕ) → words_of d (first_parts d s cs) ≡ flat_map (λ c. channel_words c (channel_of d c) (channel_at s c)) cs
  words_are [] = refl
  words_are (c ∷ cs) =
      flat_map-cons (λ x. as_words x.channel (width_by (channel_of d x.channel)) x.goes x.values) (part_at d s c) (first_parts d s cs)
      ∙ ap (λ ws. ws ++ words_of d (first_parts d s cs)) (part_words c) ∙ ap (λ ws. channel_words c (channel_of d c) (channel_at s c) ++ ws) (words_are cs)

-- ---- set-ups

-- a set-up, as a frame reads it
abbrev pub as_read : SetUp → jobs.SetUp
as_read y = record { source = is_users y.source; destination = is_users y.destination; length = y.words }

-- a set-up of few enough words is read back from its word
pub unpacked_back : (x : jobs.SetUp) → x.length < 256 → unpacked (packed x) ≡ x
unpacked_back x few = same (unpacked (packed x)) (first x.source x.destination) (second x.source x.destination) (third (flag x.source) (flag x.destination) (flag_few x.source) (flag_few x.destination))
  where
    same : (y : jobs.SetUp) → y.source ≡ x.source → y.destination ≡ x.destination → y.length ≡ x.length → y ≡ x
    same y e f g = ap (λ q. record { source = q; destination = y.destination; length = y.length }) e ∙ ap (λ q. record { source = x.source; destination = q; length = y.length }) f ∙ ap (λ n. record { source = x.source; destination = x.destination; length = n }) g

    flag_few : (q : Bool) → flag q ≤ 1
    flag_few true = omega arith
    flag_few false = omega arith

    flagged : (q : Bool) → (flag q == 1) ≡ q
    flagged true = refl
    flagged false = refl

    first_digit : (a b : ℕ) → a ≤ 1 → (a + 2 * b + 4 * x.length) % 2 ≡ a
    first_digit a b le = omega (arith, le)

    second_digit : (a b : ℕ) → a ≤ 1 → b ≤ 1 → (a + 2 * b + 4 * x.length) / 2 % 2 ≡ b
    second_digit a b le less = omega (arith, le, less)

    third : (a b : ℕ) → a ≤ 1 → b ≤ 1 → (a + 2 * b + 4 * x.length) / 4 % 256 ≡ x.length
    third a b le less = omega (arith, le, less, few)

    first : (a b : Bool) → ((flag a + 2 * flag b + 4 * x.length) % 2 == 1) ≡ a
    first a b = ap (λ z. z == 1) (first_digit (flag a) (flag b) (flag_few a)) ∙ flagged a

    second : (a b : Bool) → ((flag a + 2 * flag b + 4 * x.length) / 2 % 2 == 1) ≡ b
    second a b = ap (λ z. z == 1) (second_digit (flag a) (flag b) (flag_few a) (flag_few b)) ∙ flagged b

some_word : (v n : ℕ) → 0 < n → 4 * n ≤ v → (v == 0) ≡ false
some_word v n lt le = other_number v 0 (λ e. omega (arith, lt, le, e))

read_back : (k : Channel) (a b : Bool) (n : ℕ) → 0 < n → n < 256 → or_none (packed (record { source = a; destination = b; length = n })) k ≡ record { source = a; destination = b; length = n }
read_back k a b n lt few =
    ap (λ q. if q then not_set_up k else unpacked (packed (record { source = a; destination = b; length = n }))) (some_word (packed (record { source = a; destination = b; length = n })) n lt (omega arith))
    ∙ unpacked_back (record { source = a; destination = b; length = n }) few

-- the set-up that is read of a channel's word is the machine's
pub read_set_up : (k : Channel) (o : Option SetUp) → k.length ≤ 64 → SetUpFits k o → or_none (set_up_code o) k ≡ as_read (set_up_or k o)
read_set_up k None few f = refl
read_set_up k (Some y) few f = read_back k (is_users y.source) (is_users y.destination) y.words f.0 (let le = f.1 in omega (arith, few, le))

-- it has at least one word, and no more than its channel
pub set_up_fits : (k : Channel) (o : Option SetUp) → 0 < k.length → SetUpFits k o → (0 < (set_up_or k o).words) × ((set_up_or k o).words ≤ k.length)
set_up_fits k None some f = (some, omega arith)
set_up_fits k (Some y) some f = f

-- ---- the parts agree with words

module _ (d : SpiTable) (fits : FitsSpi d) (below : Reservations) (chip : Chip) (w : World) (s : SpiState) (h : SpiRepresents d below chip w s) (on : is_off s.mode ≡ false) (c : ℕ) (k : Channel) (known : channel_of d c ≡ Some k) where
  width : (placed_of d c).channel ≡ k
  width = has_channel d fits c k known

  abbrev stands : ChannelState
  stands = channel_at s c

  part_is : (q : Bool) → k.internal ≡ q → part_at d s c ≡ part_for c k stands q
  part_is q e = ap (λ o. part_by c o stands) known ∙ ap (part_for c k stands) e

  -- an internal channel has all of its words
  pub internal_part : k.internal ≡ true → InternalAgrees (placed_of d c).channel (part_at d s c)
  internal_part i = subst (λ x. InternalAgrees (placed_of d c).channel x) (sym (part_is true i)) (record { count = (h.sizes on c k known).written i ∙ ap (λ x. x.length) (sym width); goes = refl })

  from_count : (p : Pointer) (n : ℕ) → length (words_from p n k stands) ≡ n
  from_count Users n = length-first n stands.source
  from_count Null n = length-replicate n k.default_data

  goes_is : (p : Pointer) → goes_to p ≡ goes_by (is_users p)
  goes_is Users = refl
  goes_is Null = refl

  -- what is sent of an external one is in the user's source, or is default data
  sent_is : (m : Memory) → ((i : ℕ) → i < k.length → m (source_word (placed_of d c) i) ≡ word_of chip (source_word (placed_of d c) i)) → (p : Pointer) (n i : ℕ) → n ≤ k.length → i < n
      → slice_index_or (words_from p n k stands) i 0 ≡ (if is_users p then m (source_word (placed_of d c) i) else (placed_of d c).channel.default_data)
  sent_is m same Users n i le lt = first-at n stands.source i lt ∙ sym ((h.arrays c).source i (subst (λ o. i < length_by o) (sym known) (omega (arith, le, lt)))) ∙ sym (same i (omega (arith, le, lt)))
  sent_is m same Null n i le lt = get_or-replicate n i k.default_data 0 lt ∙ ap (λ x. x.default_data) (sym width)

  -- where the set-up is held of it
  pub external_part : k.internal ≡ false → (m : Memory) (at : Position) (n : ℕ) → ((i : ℕ) → i < k.length → m (source_word (placed_of d c) i) ≡ word_of chip (source_word (placed_of d c) i))
      → m (held_word (placed_of d c)) ≡ packed (as_read (set_up_or k stands.set_up)) → ExternalAgrees m (placed_of d c) at n (part_at d s c)
  external_part e m at n same held =
      let y : SetUp = set_up_or k stands.set_up in
      let f = set_up_fits k stands.set_up (fits.channels c k known).some ((h.sizes on c k known).set_up e) in
      subst (λ x. ExternalAgrees m (placed_of d c) at n x) (sym (part_is false e)) (record {
        by = as_read y;
        held = held;
        count = from_count y.source y.words;
        few = subst (λ x. y.words ≤ x.length) (sym width) f.1;
        goes = goes_is y.destination;
        ahead = λ i lt is. sent_is m same y.source y.words i f.1 lt;
      })

  -- the word that a frame holds of it
  pub held_is : k.internal ≡ false → packed (or_none (word_of chip (set_up_word (placed_of d c))) (placed_of d c).channel) ≡ packed (as_read (set_up_or k stands.set_up))
  held_is e = ap (λ v. packed (or_none v (placed_of d c).channel)) (h.set_ups on c k known e) ∙ ap (λ x. packed (or_none (set_up_code stands.set_up) x)) width ∙ ap packed (read_set_up k stands.set_up (fits.channels c k known).few ((h.sizes on c k known).set_up e))

  -- it has words
  pub some_words : 0 < length (part_at d s c).values
  some_words =
      let some = (fits.channels c k known).some in
      whether k.internal
      (λ e. subst (λ x. 0 < length x.values) (sym (part_is true e)) (subst (λ n. 0 < n) (sym ((h.sizes on c k known).written e)) some))
      (λ e. subst (λ x. 0 < length x.values) (sym (part_is false e)) (subst (λ n. 0 < n) (sym (from_count (set_up_or k stands.set_up).source (set_up_or k stands.set_up).words)) (set_up_fits k stands.set_up some ((h.sizes on c k known).set_up e)).0))
