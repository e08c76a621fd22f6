-- The words of one side of an internal channel change, and what a frame holds of them; the rest of the agreement stays.
-- From words.WordsOfModule, words.SameWords, hardware.SourceFilled, hardware.StableUnderHardware and 3 more.
-- Used by services.WriteRight, services.ReadRight, services.InitPrepared and 11 more.
use Rattle.std.proofs.Common.{◌≡◌, ◌≢◌, ◌+◌, ◌*◌, ◌<◌, ◌≤◌, ◌==◌, ◌&&◌, ◌||◌, [], ◌∷◌, ◌∙◌, ◌++◌, if◌then◌else◌}
use Rattle.spi_sequences.specs.Terms
use Terms.{AllRight, AllSend, ap, AreCarried, AreThere, arith, Banks, BanksAgree, block_of, Bool, Call, carried_at}
use Terms.{CarriesAgrees, cases, Channel, channel_at, channel_of, ChannelState, Chip, chip_after, common_steps}
use Terms.{Contains, control_word, Destination, differs-after, DiffersIn, false, first_items, first_word, FitsChannel}
use Terms.{FitsSpi, flat_map-cons, Going, has_bit, HasWords, held_word, HeldRight, is_off, is_owed, is_preparing}
use Terms.{length, length_by, List, Memory, Mode, nat_le, nat_lt, nat_tests, None, Option, or_rest, owes_by, Part}
use Terms.{place_of, Placed, placed_of, prepares, Preparing, put_by, put_held, PutRight, readied_by, readied_in}
use Terms.{Reading, Received, refl, replicate, Reservation, Reservations, ReservedBy, run_at, run_carried}
use Terms.{same_or_other, Sending, Sent, set_up_code, set_up_word, SetUpFits, Side, slice_get, slice_index}
use Terms.{slice_index_or, Some, some_is, Source, source_word, SOURCES, SpiRepresents, SpiState, SpiTable, stands-agree}
use Terms.{StandsIn, STATE, Store, stored, stored_by, stored_in, subst, sym, take, take_by, take_held, TakeRight}
use Terms.{Taking, to_write, trio_of, TripleBuffer, true, unit_at, UnitAgrees, untouched, View, view, word_at, word_of}
use Terms.{words-same, words_in, World, Writing, ℕ}
use Rattle.spi_sequences.specs.laws.{hardware.SourceFilled.{own_low, put_if}, hardware.StableUnderHardware.{none_in}}
use Rattle.spi_sequences.specs.laws.{hardware.StableUnderHardware.{pointwise}, services.SetUpRight.{none_stored}}
use Rattle.spi_sequences.specs.laws.words.SameWords.{banks_alike, banks_as, banks_view, next_view, put_words}
use Rattle.spi_sequences.specs.laws.words.SameWords.{run_alike, sends_as, sequences_alike, sequences_as, sound_as}
use Rattle.spi_sequences.specs.laws.words.WordsOfModule.{has_channel, internal_words, IsWordOf, of_banks, of_held}
use Rattle.spi_sequences.specs.laws.words.WordsOfModule.{of_one, of_set_up, own_banks, own_of_channel, past_the_first}
use Rattle.spi_sequences.specs.laws.{words.WordsOfModule.{starts_at}, words.WordsToState.{is_number, not_true}}
use Rattle.spi_sequences.specs.laws.words.WordsToState.{other_number}
use Rattle.word_shapes.specs.TripleBuffer as trio

-- ---- the words of a side stand apart

abbrev pub other_side : Side → Side
other_side Sent = Received
other_side Received = Sent

first_half : (f n j : ℕ) → (j == f || (nat_le (f + 4) j && nat_lt j (f + 4 + 3 * n))) ≡ true → (j == f + 1 || (nat_le (f + 4 + 3 * n) j && nat_lt j (f + 4 + 3 * n + 3 * n))) ≡ false
first_half f n j e = grind (arith, nat_tests, common_steps)

second_half : (f n j : ℕ) → (j == f + 1 || (nat_le (f + 4 + 3 * n) j && nat_lt j (f + 4 + 3 * n + 3 * n))) ≡ true → (j == f || (nat_le (f + 4) j && nat_lt j (f + 4 + 3 * n))) ≡ false
second_half f n j e = grind (arith, nat_tests, common_steps)

pub sides_apart : (x : Placed) (side : Side) (j : ℕ) → trio.own_of (trio_of x (other_side side)) j ≡ true → trio.own_of (trio_of x side) j ≡ false
sides_apart x Sent j e = second_half (control_word x Sent) x.channel.length j e
sides_apart x Received j e = first_half (control_word x Sent) x.channel.length j e

-- the third and the fourth word of a channel are of neither
front_of_first : (f n i : ℕ) → 2 ≤ i → i < 4 → (f + i == f || (nat_le (f + 4) (f + i) && nat_lt (f + i) (f + 4 + 3 * n))) ≡ false
front_of_first f n i low high = grind (arith, nat_tests, common_steps)

front_of_second : (f n i : ℕ) → 2 ≤ i → i < 4 → (f + i == f + 1 || (nat_le (f + 4 + 3 * n) (f + i) && nat_lt (f + i) (f + 4 + 3 * n + 3 * n))) ≡ false
front_of_second f n i low high = grind (arith, nat_tests, common_steps)

held_apart : (x : Placed) (side : Side) → trio.own_of (trio_of x side) (held_word x) ≡ false
held_apart x Sent = front_of_first (control_word x Sent) x.channel.length 2 (omega arith) (omega arith)
held_apart x Received = front_of_second (control_word x Sent) x.channel.length 2 (omega arith) (omega arith)

pub set_up_by : (x : Placed) (side : Side) → trio.own_of (trio_of x side) (set_up_word x) ≡ false
set_up_by x Sent = front_of_first (control_word x Sent) x.channel.length 3 (omega arith) (omega arith)
set_up_by x Received = front_of_second (control_word x Sent) x.channel.length 3 (omega arith) (omega arith)

abbrev take_if : Bool → Taking → Option Taking
take_if q x = if q then Some x else None

module _ (d : SpiTable) (fits : FitsSpi d) (c : ℕ) (k : Channel) (e : channel_of d c ≡ Some k) (internal : k.internal ≡ true) (side : Side) where
  abbrev pub mine : ℕ → Bool
  mine = trio.own_of (trio_of (placed_of d c) side)

  pub not_first : (j : ℕ) → j < STATE + 64 → mine j ≡ false
  not_first j lt = not_true (mine j) (λ i. let past = past_the_first d c k j (fits.channels c k e) (of_banks d fits c k e internal side j i) in omega (arith, past, lt))

  pub not_users : (j : ℕ) → SOURCES ≤ j → mine j ≡ false
  not_users j le = not_true (mine j) (λ i. let low = own_low d fits j (own_banks d fits c k e internal side j i) in omega (arith, low, le))

  pub not_of_other : (n : ℕ) (x : Channel) (j : ℕ) → n ≢ c → channel_of d n ≡ Some x → IsWordOf d n x j → mine j ≡ false
  not_of_other n x j ne f is = not_true (mine j) (λ i. of_one d fits n c x k j j ne f e is (of_banks d fits c k e internal side j i) refl)

  pub not_held : (n : ℕ) (x : Channel) → channel_of d n ≡ Some x → mine (held_word (placed_of d n)) ≡ false
  not_held n x f = cases (same_or_other n c)
      (λ at. subst (λ i. mine (held_word (placed_of d i)) ≡ false) (sym at) (held_apart (placed_of d c) side))
      (λ ne. not_of_other n x (held_word (placed_of d n)) ne f (of_held d fits n x f))

  -- ---- what is held

  -- one holds of this channel alone what the other doesn't
  pub record IsBeside (held held1 : Reservations) : Type 0 where
    pub puts : (sources : ℕ → List ℕ) (n : ℕ) (r : Bool) → n ≢ c → put_held d sources n r held1 ≡ put_held d sources n r held
    pub takes : (n : ℕ) → n ≢ c → take_held n held1 ≡ take_held n held
    pub prepares : prepares held1 ≡ prepares held
    pub readied : readied_in held1 ≡ readied_in held
    pub stored : stored_in held1 ≡ stored_in held
    pub owed : (u : ℕ) → is_owed u held1 ≡ is_owed u held

  abbrev pub is_of_bank : Reservation → Bool
  is_of_bank (Writing n p b i x) = n == c
  is_of_bank (Reading n b) = n == c
  is_of_bank _ = false

  pub beside_one : (x : ReservedBy Call Reservation) (held : Reservations) → is_of_bank x.what ≡ true → IsBeside held (x ∷ held)
  beside_one x held is = record {
    puts = λ sources n r ne. ap (λ o. or_rest o (put_held d sources n r held)) (no_put x.what sources n r ne is);
    takes = λ n ne. ap (λ o. or_rest o (take_held n held)) (no_take x.what n ne is);
    prepares = ap (λ b. b || prepares held) (nothing x.what is).0;
    readied = flat_map-cons (λ h. readied_by h.what) x held ∙ ap (λ ys. ys ++ readied_in held) (nothing x.what is).1;
    stored = flat_map-cons (λ h. stored_by h.what) x held ∙ ap (λ ys. ys ++ stored_in held) (nothing x.what is).2;
    owed = λ u. owes_none x.what u (is_owed u held) is;
  }
    where
      unlike : (m n : ℕ) → n ≢ c → (m == c) ≡ true → (m == n) ≡ false
      unlike m n ne f = other_number m n (λ g. ne (sym g ∙ is_number m c f))

      no_put : (y : Reservation) (sources : ℕ → List ℕ) (n : ℕ) (r : Bool) → n ≢ c → is_of_bank y ≡ true → put_by d sources n r y ≡ None
      no_put (Writing m p b i z) sources n true ne f = refl
      no_put (Writing m p b i z) sources n false ne f = ap (λ q. put_if q (record { bank = b; filled = take i (to_write (channel_of d n) p (sources n)) })) (unlike m n ne f)
      no_put (Reading m b) sources n r ne f = refl
      no_put _ sources n r ne f = absurd (cc)

      no_take : (y : Reservation) (n : ℕ) → n ≢ c → is_of_bank y ≡ true → take_by n x.acted y ≡ None
      no_take (Writing m p b i z) n ne f = refl
      no_take (Reading m b) n ne f = ap (λ q. take_if q (record { bank = b; kept = words_in x.acted })) (unlike m n ne f)
      no_take _ n ne f = absurd (cc)

      nothing : (y : Reservation) → is_of_bank y ≡ true → (is_preparing y ≡ false) × (readied_by y ≡ []) × (stored_by y ≡ [])
      nothing (Preparing ws rs z) f = absurd (cc)
      nothing _ f = (refl, refl, refl)

      owes_none : (y : Reservation) (u : ℕ) (below : Bool) → is_of_bank y ≡ true → owes_by u y below ≡ below
      owes_none (Writing m p b i z) u below f = refl
      owes_none (Reading m b) u below f = refl
      owes_none (Sending v q i at bs failed device) u below f = refl
      owes_none _ u below f = absurd (cc)

  pub beside_back : (held held1 : Reservations) → IsBeside held held1 → IsBeside held1 held
  beside_back held held1 h = record { puts = λ sources n r ne. sym (h.puts sources n r ne); takes = λ n ne. sym (h.takes n ne); prepares = sym h.prepares; readied = sym h.readied; stored = sym h.stored; owed = λ u. sym (h.owed u) }

  pub beside_then : (a b held : Reservations) → IsBeside held a → IsBeside held b → IsBeside a b
  beside_then a b held h i = record { puts = λ sources n r ne. i.puts sources n r ne ∙ sym (h.puts sources n r ne); takes = λ n ne. i.takes n ne ∙ sym (h.takes n ne); prepares = i.prepares ∙ sym h.prepares; readied = i.readied ∙ sym h.readied; stored = i.stored ∙ sym h.stored; owed = λ u. i.owed u ∙ sym (h.owed u) }

  -- another channel's banks
  banks_beside : (held held1 : Reservations) (going : ℕ → Option Going) (m : Memory) (v : View) (n : ℕ) (x : Channel) → n ≢ c → IsBeside held held1 → BanksAgree d held going m v n x → BanksAgree d held1 going m v n x
  banks_beside held held1 going m v n x ne b h = banks_as d held held1 going going m m v v n x (λ side j is. refl) (λ o t. t) (λ a o t. t) refl refl (λ r. b.puts v.sources n r ne) (b.takes n ne) b.prepares b.readied h

  -- ---- the agreement

  -- channels that differ in what this one has written and received alone
  pub record IsLike (cs : List ChannelState) (s : SpiState) : Type 0 where
    pub source : (n : ℕ) → (slice_index_or cs n untouched).source ≡ (channel_at s n).source
    pub destination : (n : ℕ) → (slice_index_or cs n untouched).destination ≡ (channel_at s n).destination
    pub set_up : (n : ℕ) → (slice_index_or cs n untouched).set_up ≡ (channel_at s n).set_up
    pub written : (n : ℕ) → n ≢ c → (slice_index_or cs n untouched).written ≡ (channel_at s n).written
    pub received : (n : ℕ) → n ≢ c → (slice_index_or cs n untouched).received ≡ (channel_at s n).received

  abbrev pub with_channels : SpiState → List ChannelState → SpiState
  with_channels s cs = record s { channels = cs }

  module _ (below held1 : Reservations) (chip chip1 : Chip) (w : World) (s : SpiState) (h : SpiRepresents d below chip w s) (on : is_off s.mode ≡ false) (cs : List ChannelState) (like : IsLike cs s) (outside : StandsIn chip1 w) (differs : DiffersIn mine chip chip1) (beside : IsBeside below held1) where
    after_state : (j : ℕ) → STATE < j → j < STATE + 64 → word_of chip1 j ≡ word_of chip j
    after_state j low high = differs.others j (not_first j high)

    held_same : (n : ℕ) (x : Channel) → channel_of d n ≡ Some x → word_of chip1 (held_word (placed_of d n)) ≡ word_of chip (held_word (placed_of d n))
    held_same n x f = differs.others _ (not_held n x f)

    sources : (u : ℕ) (g : Going) (n : ℕ) (x : Part) (k1 : Channel) (i : ℕ) → u < 2 → h.going u ≡ Some g → slice_get g.parts n ≡ Some x → channel_of d x.channel ≡ Some k1 → i < length_by (channel_of d x.channel) → word_of chip1 (source_word (placed_of d x.channel) i) ≡ word_of chip (source_word (placed_of d x.channel) i)
    sources u g n x k1 i lt is at there few = differs.others (source_word (placed_of d x.channel) i) (not_users (source_word (placed_of d x.channel) i) (omega arith))

    other_banks : (n : ℕ) (x : Channel) → n ≢ c → channel_of d n ≡ Some x → x.internal ≡ true → BanksAgree d held1 h.going (word_of chip1) (view (with_channels s cs)) n x
    other_banks n x ne f internal =
        let same_sources : (view (with_channels s cs)).sources ≡ (view s).sources = pointwise (view (with_channels s cs)).sources (view s).sources like.source in
        banks_view d held1 h.going (word_of chip1) (view s) (view (with_channels s cs)) n x (like.written n ne) (like.received n ne) (λ r. ap (λ f. put_held d f n r held1) same_sources)
        (banks_beside below held1 h.going (word_of chip1) (view s) n x ne beside
        (banks_alike d fits h.going (word_of chip) (word_of chip1) (view s) after_state held_same sources h.nexts below n x f (λ side1 j is. differs.others j (not_of_other n x j ne f (of_banks d fits n x f internal side1 j is))) (h.words.banks n x f internal)))

    pub banks_changed : (k.internal ≡ true → length (slice_index_or cs c untouched).written ≡ k.length) → AllRight d s.mode cs held1 → AllSend d chip w h.going s held1 → AreCarried (view s) held1 → (k.internal ≡ true → BanksAgree d held1 h.going (word_of chip1) (view (with_channels s cs)) c k) → SpiRepresents d held1 chip1 w (with_channels s cs)
    banks_changed sized right sending carried own = record {
      right = right;
      outside = outside;
      wired = λ n lt. ap (λ x. slice_index x.wiring.sources n) differs.rest ∙ h.wired n lt;
      size = ap (λ x. length x.serials.units) differs.rest ∙ h.size;
      sound = sound_as d (view s) s.mode (view (with_channels s cs)).written (view (with_channels s cs)).received (view (with_channels s cs)).sources h.sound.off h.sound.carries.off h.sound;
      going = h.going;
      nexts = λ u lt. next_view d (view s) (view (with_channels s cs)) u (h.going u) refl refl (h.nexts u lt);
      units = λ u lt async. subst (λ x. UnitAgrees d (unit_at x.serials u) (run_at s u) (h.going u)) (sym differs.rest) (h.units u lt async);
      sends = λ u lt sync. subst (λ x. CarriesAgrees d (unit_at x.serials u) (run_carried (carried_at s u)) (h.going u)) (sym differs.rest) (h.sends u lt sync);
      sending = sends_as d chip chip1 w w h.going h.going s (with_channels s cs) (λ u g lt sync is. refl) (λ u g lt sync is. ap (λ x. (unit_at x.serials u).select) differs.rest) (λ u g n x k1 lt sync is there known. held_same x.channel k1 known) (λ u o knows. knows) held1 sending;
      carriers = carried;
      words = record {
        state = differs.others STATE (not_first STATE (omega arith)) ∙ h.words.state;
        on = λ still. record {
          sequences = sequences_as d (view s) s.mode (view (with_channels s cs)).written (view (with_channels s cs)).received (view (with_channels s cs)).sources (word_of chip1) (sequences_alike d fits h.going (word_of chip) (word_of chip1) (view s) after_state held_same sources h.nexts (h.words.on on).sequences);
          runs = λ u lt. run_alike d fits h.going (word_of chip) (word_of chip1) (view s) after_state held_same sources h.nexts u lt (h.going u) refl (h.nexts u lt) ((h.words.on on).runs u lt);
        };
        banks = λ n x f internal. cases (same_or_other n c)
            (λ at.
            let one = some_is x k (sym f ∙ ap (channel_of d) at ∙ e) in
            subst (λ i. BanksAgree d held1 h.going (word_of chip1) (view (with_channels s cs)) i x) (sym at) (subst (λ z. BanksAgree d held1 h.going (word_of chip1) (view (with_channels s cs)) c z) (sym one) (own (ap (λ z. z.internal) (sym one) ∙ internal))))
            (λ ne. other_banks n x ne f internal);
        stored = λ j v is. absurd (none_in (j, v) (subst (λ xs. Contains xs (j, v)) (beside.stored ∙ none_stored d s.mode s.channels below on h.right) is));
      };
      set_ups = λ still n x f external. differs.others _ (set_up_apart n x f external) ∙ h.set_ups on n x f external ∙ ap (λ o. set_up_code o) (sym (like.set_up n));
      sizes = λ still n x f. record {
        written = λ i. cases (same_or_other n c)
            (λ at.
            let one = some_is x k (sym f ∙ ap (channel_of d) at ∙ e) in
            ap (λ m. length (slice_index_or cs m untouched).written) at ∙ sized (ap (λ z. z.internal) (sym one) ∙ i) ∙ ap (λ z. z.length) (sym one))
            (λ ne. ap length (like.written n ne) ∙ (h.sizes on n x f).written i);
        set_up = λ i. subst (λ o. SetUpFits x o) (sym (like.set_up n)) ((h.sizes on n x f).set_up i);
      };
      arrays = λ n. record {
        source = λ i lt. differs.others (place_of (Source n) i) (not_users (place_of (Source n) i) (omega arith)) ∙ (h.arrays n).source i lt ∙ ap (λ xs. word_at xs i) (sym (like.source n));
        destination = λ i lt. differs.others (place_of (Destination n) i) (not_users (place_of (Destination n) i) (omega arith)) ∙ (h.arrays n).destination i lt ∙ ap (λ xs. word_at xs i) (sym (like.destination n));
      };
      lines = λ u lt. ap (λ x. has_bit x.control.enabled (26 + u)) differs.rest ∙ h.lines u lt;
      owed = λ u p lt free there for. beside.owed u ∙ h.owed u p lt free there for;
    }
      where
        set_up_apart : (n : ℕ) (x : Channel) → channel_of d n ≡ Some x → x.internal ≡ false → mine (set_up_word (placed_of d n)) ≡ false
        set_up_apart n x f external = cases (same_or_other n c)
            (λ at. subst (λ i. mine (set_up_word (placed_of d i)) ≡ false) (sym at) (set_up_by (placed_of d c) side))
            (λ ne. not_of_other n x (set_up_word (placed_of d n)) ne f (of_set_up d fits n x f))

-- ---- the banks of the channel itself

-- an initialised module has no words that its initialisation has readied, and no frame prepares it
pub none_readied : (d : SpiTable) (mode : Mode) (cs : List ChannelState) (hs : Reservations) → is_off mode ≡ false → AllRight d mode cs hs → (readied_in hs ≡ []) × (prepares hs ≡ false)
none_readied d mode cs [] on r = (refl, refl)
none_readied d mode cs (x ∷ xs) on r =
    let rest = none_readied d mode cs xs on r.1 in
    let first = one x x.what r.0 in
    (flat_map-cons (λ h. readied_by h.what) x xs ∙ ap (λ ys. ys ++ readied_in xs) first.0 ∙ rest.0, ap (λ b. b || prepares xs) first.1 ∙ rest.1)
  where
    one : (x : ReservedBy Call Reservation) (y : Reservation) → HeldRight d mode cs x y → (readied_by y ≡ []) × (is_preparing y ≡ false)
    one x (Preparing ws rs y) r = absurd (let f = sym on ∙ r.1 in cc)
    one x _ r = (refl, refl)

-- the banks of a side are driver words, and stand apart
pub trio_fits : (d : SpiTable) → FitsSpi d → (c : ℕ) (k : Channel) → channel_of d c ≡ Some k → k.internal ≡ true → (side : Side) → trio.Fits (trio_of (placed_of d c) side)
trio_fits d fits c k e internal side = by side
  where
    at : first_word (placed_of d c) ≡ STATE + block_of d c
    at = starts_at d fits c k e

    len : (placed_of d c).channel.length ≡ k.length
    len = ap (λ x. x.length) (has_channel d fits c k e)

    last : STATE + block_of d c + 3 + 6 * k.length < SOURCES
    last =
        let f : FitsChannel d c k = fits.channels c k e in
        own_low d fits _ (own_of_channel d c k (STATE + block_of d c + 3 + 6 * k.length) f (record { from = omega arith; below = let size = internal_words d fits c k e internal in omega (arith, size) }))

    by : (side : Side) → trio.Fits (trio_of (placed_of d c) side)
    by Sent = record { banks = omega (arith, at, len, last); control = omega (arith, at, last); apart = λ n lt same. omega (arith, same) }
    by Received = record { banks = omega (arith, at, len, last); control = omega (arith, at, last); apart = λ n lt same. omega (arith, same) }

module _ (d : SpiTable) (fits : FitsSpi d) (c : ℕ) (k : Channel) (e : channel_of d c ≡ Some k) (internal : k.internal ≡ true) (below held1 : Reservations) (chip chip1 : Chip) (going : ℕ → Option Going) (v v1 : View) where
  -- what it received, in these banks
  pub received_changed : DiffersIn (mine d fits c k e internal Received) chip chip1 → IsBeside d fits c k e internal Received below held1 → v1.written c ≡ v.written c → put_held d v1.sources c false held1 ≡ put_held d v.sources c false below → (x : Banks)
      → trio.Stands (trio_of (placed_of d c) Received) (word_of chip1) x → (prepares held1 ≡ false → x.newest ≡ first_items 0 k.length (v1.received c)) → (Contains (readied_in held1) (c, true) → x.newest ≡ replicate k.length 0)
      → x.take ≡ take_held c held1 → PutRight going (word_of chip) (placed_of d c) (put_held d v1.sources c true held1) x.put → BanksAgree d below going (word_of chip) v c k → BanksAgree d held1 going (word_of chip1) v1 c k
  received_changed differs beside written puts x stands readable readied reads keeps h = record {
    sent = h.sent;
    sends = stands-agree (trio_of (placed_of d c) Sent) (word_of chip) (word_of chip1) h.sent (λ j is. sym (differs.others j (sides_apart (placed_of d c) Received j is))) h.sends;
    written = λ none. h.written (sym beside.prepares ∙ none) ∙ ap (λ xs. first_items 0 k.length xs) (sym written);
    readied_sent = λ is. h.readied_sent (subst (λ xs. Contains xs (c, false)) beside.readied is);
    pinned = h.pinned;
    writes = h.writes ∙ sym puts;
    received = x;
    receives = stands;
    readable = readable;
    readied_received = readied;
    reads = reads;
    keeps = put_words going (word_of chip) (word_of chip1) (placed_of d c) (put_held d v1.sources c true held1) x.put (differs.others _ (not_held d fits c k e internal Received c k e)) keeps;
  }

  -- what it sends
  pub sent_changed : DiffersIn (mine d fits c k e internal Sent) chip chip1 → IsBeside d fits c k e internal Sent below held1 → v1.received c ≡ v.received c → put_held d v1.sources c true held1 ≡ put_held d v.sources c true below → take_held c held1 ≡ take_held c below → (x : Banks)
      → trio.Stands (trio_of (placed_of d c) Sent) (word_of chip1) x → (prepares held1 ≡ false → x.newest ≡ first_items 0 k.length (v1.written c)) → (Contains (readied_in held1) (c, false) → x.newest ≡ replicate k.length k.default_data)
      → TakeRight going c x.take → x.put ≡ put_held d v1.sources c false held1 → BanksAgree d below going (word_of chip) v c k → BanksAgree d held1 going (word_of chip1) v1 c k
  sent_changed differs beside received puts takes x stands written readied pinned writes h = record {
    sent = x;
    sends = stands;
    written = written;
    readied_sent = readied;
    pinned = pinned;
    writes = writes;
    received = h.received;
    receives = stands-agree (trio_of (placed_of d c) Received) (word_of chip) (word_of chip1) h.received (λ j is. sym (differs.others j (sides_apart (placed_of d c) Sent j is))) h.receives;
    readable = λ none. h.readable (sym beside.prepares ∙ none) ∙ ap (λ xs. first_items 0 k.length xs) (sym received);
    readied_received = λ is. h.readied_received (subst (λ xs. Contains xs (c, true)) beside.readied is);
    reads = h.reads ∙ sym takes;
    keeps = put_words going (word_of chip) (word_of chip1) (placed_of d c) (put_held d v1.sources c true held1) h.received.put (differs.others _ (not_held d fits c k e internal Sent c k e)) (subst (λ o. PutRight going (word_of chip) (placed_of d c) o h.received.put) (sym puts) h.keeps);
  }

own_there : (t : TripleBuffer) → trio.Fits t → AreThere (trio.own_of t)
own_there t fits k here = grind (arith, nat_tests, common_steps, fits.banks, fits.control)

-- a store of a word of a side, and what stands then
pub differs_by_store : (own : ℕ → Bool) (chip : Chip) (j v : ℕ) → HasWords chip → own j ≡ true → DiffersIn own chip (chip_after chip (Store j v) 0)
differs_by_store own chip j v whole at = differs-after own chip (Store j v) whole at

pub stands_by_store : (t : TripleBuffer) (chip : Chip) (j v : ℕ) (x : Banks) → trio.Fits t → HasWords chip → trio.own_of t j ≡ true → trio.Stands t (stored (word_of chip) j v) x → trio.Stands t (word_of (chip_after chip (Store j v) 0)) x
stands_by_store t chip j v x fits whole own h = stands-agree t (stored (word_of chip) j v) (word_of (chip_after chip (Store j v) 0)) x (words-same (trio.own_of t) chip (Store j v) 0 whole (own_there t fits) own) h

-- nothing was stored
pub differs_none : (own : ℕ → Bool) (chip : Chip) → HasWords chip → DiffersIn own chip chip
differs_none own chip whole = record { rest = refl; whole = whole; others = λ j e. refl }
