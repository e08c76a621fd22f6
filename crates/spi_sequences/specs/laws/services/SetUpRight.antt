-- Spi_SetupEB: that it is right.
-- From words.WordsOfModule, words.SameWords, hardware.StableUnderHardware, service_outline: Words and 5 more.
-- Used by spi_driver: bookkeeping.Lawful, services.WriteRight, spi_laws: serving.services.FurtherRight and 27 more.
use Rattle.std.proofs.Common.{◌≡◌, ◌≢◌, ◌+◌, ◌<◌, ◌≤◌, ◌&&◌, ◌||◌, [], ◌∷◌, ◌∙◌, ◌++◌}
use Rattle.spi_sequences.specs.Terms
use Terms.{acts_by, AllRight, answers, ap, AreCarried, AreLong, arith, AssertedAt, begins_word, Bool, Call, Called}
use Terms.{cases, Channel, channel-seen, channel_at, channel_of, ChannelFits, ChannelState, Chip, chip_after, Contains}
use Terms.{EOk, error_by, false, FitsSpi, flat_map-cons, FrameHistory, fresh_history, Going, happened, held_word}
use Terms.{HeldRight, is_off, is_own_word, is_shared, Is_this_frame, is_users, is_word_of, IsSoundState, IsThisFrame}
use Terms.{item-other, item-same, length, length_by, List, Load, LongBodies, lt_from, may, Mode, moved, named, nat_lt}
use Terms.{never_clean, None, Order, Origin, packed, Part, place_at, place_of, Placed, placed_of, PointAssertion}
use Terms.{Pointer, Preparing, refl, Reservation, Reservations, ReservedBy, resets_chip, Right, RunsNext, same_or_other}
use Terms.{set_up_code, set_up_word, SetUpBody, SetupEb, SetUpFits, slice_get, Some, some_is, Source, source_word}
use Terms.{spi_basis, SpiRepresents, SpiState, SpiTable, stands-move, STATE, Store, stored_by, stored_in, stored_other}
use Terms.{stored_same, subst, sym, true, TurnsTo, Under, untouched, view, with_channel, Within, word_at, word_of}
use Terms.{WORDS, WordsAgree, World, world_after, ℕ}
use Rattle.spi_sequences.specs.laws.{bookkeeping.RefinementRight.{frame_may}, hardware.SourceFilled.{own_low}}
use Rattle.spi_sequences.specs.laws.hardware.StableUnderHardware.{mode_later, none_in, pointwise}
use Rattle.spi_sequences.specs.laws.{services.ChannelSteps.{set_up_takes, set_up_work}, words.SameWords.{banks_alike}}
use Rattle.spi_sequences.specs.laws.words.SameWords.{right_as, run_alike, sends_as, sequences_alike}
use Rattle.spi_sequences.specs.laws.words.WordsOfModule.{of_banks, of_held, of_one, of_set_up, own_set_up}
use Rattle.spi_sequences.specs.laws.words.WordsOfModule.{past_the_first, word_of_own}
use Rattle.word_shapes.specs.declared.jobs.set_up.SetUp.{SetUp}
use Rattle.spi_machine.specs.Channels as channels
use Rattle.spi_machine.specs.declared.call.Call.TheVariants as calls
use Rattle.spi_sequences.specs.declared.service.set_up.SetUpBody.TheVariants as set_up

-- an initialised module has no words that its initialisation has stored
pub none_stored : (d : SpiTable) (mode : Mode) (cs : List ChannelState) (hs : Reservations) → is_off mode ≡ false → AllRight d mode cs hs → stored_in hs ≡ []
none_stored d mode cs [] on r = refl
none_stored d mode cs (x ∷ xs) on r = flat_map-cons (λ h. stored_by h.what) x xs ∙ ap (λ ys. ys ++ stored_in xs) (one x x.what r.0) ∙ none_stored d mode cs xs on r.1
  where
    one : (x : ReservedBy Call Reservation) (y : Reservation) → HeldRight d mode cs x y → stored_by y ≡ []
    one x (Preparing ws rs y) r = absurd (let f = sym on ∙ r.1 in cc)
    one x _ r = refl

-- the state with a set-up of a channel
abbrev pub with_set_up : SpiState → ℕ → channels.SetUp → SpiState
with_set_up s c by = with_channel s c (record (channel_at s c) { set_up = Some by })

module _ (d : SpiTable) (fits : FitsSpi d) (below : Reservations) (chip : Chip) (w : World) (s : SpiState) (c : ℕ) (k : Channel) (e : channel_of d c ≡ Some k) (external : k.internal ≡ false) (by : channels.SetUp) (some : 0 < by.words) (few : by.words ≤ k.length) (on : is_off s.mode ≡ false) (h : SpiRepresents d below chip w s) where
  abbrev word : ℕ
  word = set_up_word (placed_of d c)

  abbrev stored : Chip
  stored = chip_after chip (Store word (set_up_code (Some by))) 0

  abbrev later : SpiState
  later = with_set_up s c by

  other : (j : ℕ) → j ≢ word → word_of stored j ≡ word_of chip j
  other j ne = stored_other chip word (set_up_code (Some by)) 0 j ne

  first_same : (j : ℕ) → STATE ≤ j → j < STATE + 64 → word_of stored j ≡ word_of chip j
  first_same j low high = other j (λ f. let past = past_the_first d c k word (fits.channels c k e) (of_set_up d fits c k e) in omega (arith, past, high, f))

  after_state : (j : ℕ) → STATE < j → j < STATE + 64 → word_of stored j ≡ word_of chip j
  after_state j low high = first_same j (omega (arith, low)) high

  same_view : view later ≡ view s
  same_view =
      ap (λ f. record (view later) { written = f }) (pointwise (view later).written (view s).written (λ n. channel-seen (λ x. x.written) s c n (record (channel_at s c) { set_up = Some by }) refl))
      ∙ ap (λ f. record (view later) { written = (view s).written; received = f }) (pointwise (view later).received (view s).received (λ n. channel-seen (λ x. x.received) s c n (record (channel_at s c) { set_up = Some by }) refl))
      ∙ ap (λ f. record (view s) { sources = f }) (pointwise (view later).sources (view s).sources (λ n. channel-seen (λ x. x.source) s c n (record (channel_at s c) { set_up = Some by }) refl))

  held_same : (n : ℕ) (k1 : Channel) → channel_of d n ≡ Some k1 → word_of stored (held_word (placed_of d n)) ≡ word_of chip (held_word (placed_of d n))
  held_same n k1 f = cases (same_or_other n c)
      (λ at. subst (λ i. word_of stored (held_word (placed_of d i)) ≡ word_of chip (held_word (placed_of d i))) (sym at) (other _ (λ g. omega (arith, g))))
      (λ ne. other _ (of_one d fits n c k1 k _ word ne f e (of_held d fits n k1 f) (of_set_up d fits c k e)))

  source_same : (n i : ℕ) → word_of stored (place_of (Source n) i) ≡ word_of chip (place_of (Source n) i)
  source_same n i = other _ (λ g. let low = own_low d fits word (own_set_up d fits c k e) in omega (arith, low, g))

  set_ups_same : is_off s.mode ≡ false → (n : ℕ) (k1 : Channel) → channel_of d n ≡ Some k1 → k1.internal ≡ false → word_of stored (set_up_word (placed_of d n)) ≡ set_up_code (channel_at later n).set_up
  set_ups_same on n k1 f i = cases (same_or_other n c)
      (λ at. subst (λ i. word_of stored (set_up_word (placed_of d i)) ≡ set_up_code (channel_at later i).set_up) (sym at) (stored_same chip word (set_up_code (Some by)) 0 (let low = own_low d fits word (own_set_up d fits c k e) in omega (arith, low)) h.outside.all.words ∙ ap (λ x. set_up_code x.set_up) (sym (item-same untouched s.channels c (record (channel_at s c) { set_up = Some by })))))
      (λ ne. other _ (of_one d fits n c k1 k _ word ne f e (of_set_up d fits n k1 f) (of_set_up d fits c k e)) ∙ h.set_ups on n k1 f i ∙ ap (λ x. set_up_code x.set_up) (sym (item-other untouched s.channels c n (record (channel_at s c) { set_up = Some by }) ne)))

  sizes_same : is_off s.mode ≡ false → (n : ℕ) (k1 : Channel) → channel_of d n ≡ Some k1 → ChannelFits k1 (channel_at later n)
  sizes_same on n k1 f = record {
    written = λ i. ap length (channel-seen (λ x. x.written) s c n (record (channel_at s c) { set_up = Some by }) refl) ∙ (h.sizes on n k1 f).written i;
    set_up = λ i. cases (same_or_other n c)
        (λ at.
        let same = some_is k1 k (sym f ∙ ap (channel_of d) at ∙ e) in
        subst (λ x. SetUpFits k1 x.set_up) (sym (ap (channel_at later) at ∙ item-same untouched s.channels c (record (channel_at s c) { set_up = Some by }))) (some, subst (λ z. by.words ≤ z.length) (sym same) few))
        (λ ne. subst (λ x. SetUpFits k1 x.set_up) (sym (item-other untouched s.channels c n (record (channel_at s c) { set_up = Some by }) ne)) ((h.sizes on n k1 f).set_up i));
  }

  is_internal : (n : ℕ) (k1 : Channel) → channel_of d n ≡ Some k1 → k1.internal ≡ true → n ≢ c
  is_internal n k1 f i at = let same : Some k1 ≡ Some k = sym f ∙ ap (channel_of d) at ∙ e in let one : k1 ≡ k = cc in let g : true ≡ false = sym i ∙ ap (λ x. x.internal) one ∙ external in absurd (cc)

  words_stay : WordsAgree d below h.going (word_of stored) (view s)
  words_stay = record {
    state = first_same STATE (omega arith) (omega arith) ∙ h.words.state;
    on = λ on. let was = h.words.on on in record {
      sequences = sequences_alike d fits h.going (word_of chip) (word_of stored) (view s) after_state held_same sources h.nexts was.sequences;
      runs = λ u lt. run_alike d fits h.going (word_of chip) (word_of stored) (view s) after_state held_same sources h.nexts u lt (h.going u) refl (h.nexts u lt) (was.runs u lt);
    };
    banks = λ n k1 f internal. banks_alike d fits h.going (word_of chip) (word_of stored) (view s) after_state held_same sources h.nexts below n k1 f (λ side j is. other j (of_one d fits n c k1 k j word (is_internal n k1 f internal) f e (of_banks d fits n k1 f internal side j is) (of_set_up d fits c k e))) (h.words.banks n k1 f internal);
    stored = λ j n is. absurd (none_in (j, n) (subst (λ xs. Contains xs (j, n)) (none_stored d s.mode s.channels below on h.right) is));
  }
    where
      sources : (u : ℕ) (g : Going) (n : ℕ) (x : Part) (k1 : Channel) (i : ℕ) → u < 2 → h.going u ≡ Some g → slice_get g.parts n ≡ Some x → channel_of d x.channel ≡ Some k1 → i < length_by (channel_of d x.channel) → word_of stored (source_word (placed_of d x.channel) i) ≡ word_of chip (source_word (placed_of d x.channel) i)
      sources u g n x k1 i lt is f there few = source_same x.channel i

  pub set_up_kept : SpiRepresents d below stored w later
  set_up_kept = record {
    right = right_as d s.mode s.channels later.channels (λ n. channel-seen (λ x. x.source) s c n (record (channel_at s c) { set_up = Some by }) refl) below h.right;
    outside = stands-move chip w (Store word (set_up_code (Some by))) 0 h.outside;
    wired = h.wired;
    size = h.size;
    sound = subst (λ v. IsSoundState d v) (sym same_view) h.sound;
    going = h.going;
    nexts = λ u lt. subst (λ v. RunsNext d v u (h.going u)) (sym same_view) (h.nexts u lt);
    units = h.units;
    sends = h.sends;
    sending = sends_as d chip stored w w h.going h.going s later (λ u g lt sync is. refl) (λ u g lt sync is. refl) (λ u g n x k1 lt sync is there known. held_same x.channel k1 known) (λ u o knows. knows) below h.sending;
    carriers = subst (λ v. AreCarried v below) (sym same_view) h.carriers;
    words = subst (λ v. WordsAgree d below h.going (word_of stored) v) (sym same_view) words_stay;
    set_ups = set_ups_same;
    sizes = sizes_same;
    arrays = λ n. record {
      source = λ i lt. source_same n i ∙ (h.arrays n).source i lt ∙ ap (λ xs. word_at xs i) (sym (channel-seen (λ x. x.source) s c n (record (channel_at s c) { set_up = Some by }) refl));
      destination = λ i lt. other _ (λ g. let low = own_low d fits word (own_set_up d fits c k e) in omega (arith, low, g)) ∙ (h.arrays n).destination i lt ∙ ap (λ xs. word_at xs i) (sym (channel-seen (λ x. x.destination) s c n (record (channel_at s c) { set_up = Some by }) refl));
    };
    lines = h.lines;
    owed = h.owed;
  }

-- ---- the body

-- the frame is about to keep the set-up that its call asks for, which finds no error
abbrev pub IsSettingUp : SpiTable → (off : Bool) → Placed → SetUp → Origin Call → FrameHistory → Type 0
IsSettingUp d off x by o t =
    (c : ℕ) × (k : Channel) × (p : Pointer) × (q : Pointer) × (n : ℕ)
    × IsThisFrame (Called (calls.Channel c (SetupEb p q n))) fresh_history o t
    × (channel_of d c ≡ Some k) × (k.internal ≡ false) × (x ≡ placed_of d c)
    × (by ≡ record { source = is_users p; destination = is_users q; length = n })
    × (error_by d (calls.Channel c (SetupEb p q n)) off false ≡ None) × (off ≡ false) × (0 < n) × (n ≤ k.length)

abbrev pub set_up_spot : (d : SpiTable) → SetUpBody → PointAssertion (spi_basis d)
set_up_spot d (set_up.Store x by) = Within (Under tt) [] (λ below f w s o t. IsSettingUp d (is_off s.mode) x by o t)

abbrev pub set_up_bodies : (d : SpiTable) → LongBodies (spi_basis d) SetUpBody
set_up_bodies d = record { work_of = set_up_work; takes = set_up_takes; fuel = λ k. 1; room = λ k. 1; clean = λ k. false; assertion = set_up_spot d }

module _ (d : SpiTable) (fits : FitsSpi d) where
  set_up_steps : (below : Reservations) (chip : Chip) (w : World) (s : SpiState) (k : SetUpBody) (o : Origin Call) (y : ℕ) (t : FrameHistory) (m : ℕ → Bool) → AssertedAt (spi_basis d) (set_up_bodies d) below chip w s k o t → Right (spi_basis d) (set_up_bodies d) below chip w s k o y t m
  set_up_steps below chip w s (set_up.Store x by) o y t m (h, (c, k, p, q, n, Is_this_frame, known, external, at, is, clear, on, some, few)) =
      subst (λ z. Right (spi_basis d) (set_up_bodies d) below chip w s (set_up.Store z by) o y t m) (sym at)
      (subst (λ z. Right (spi_basis d) (set_up_bodies d) below chip w s (set_up.Store (placed_of d c) z) o y t m) (sym is) (record {
        may = refl;
        stands = tt;
        state = with_set_up s c (record { source = p; destination = q; words = n });
        told = answers (named EOk);
        begins = None;
        is = ap (λ e. Some (acts_by d s (calls.Channel c (SetupEb p q n)) e)) clear;
        sends = tt;
        acts = tt;
        reset = refl;
        next = (set_up_kept d fits below chip w s c k known external (record { source = p; destination = q; words = n }) some few on h, record { may = (refl, refl); served = false; owed = refl; shown = λ e. absurd (cc); report = refl });
      }))

  pub may_store : (k v : ℕ) → is_own_word d k ≡ true → may d (Store k v) ≡ true
  may_store k v own = let low = own_low d fits k own in ap (λ q. q && nat_lt k WORDS) (word_of_own d k own) ∙ lt_from k WORDS (omega (arith, low))

  pub may_users : (k : ℕ) → is_word_of d k ≡ true → k < WORDS → may d (Load k) ≡ true
  may_users k own lt = ap (λ q. q && nat_lt k WORDS) own ∙ lt_from k WORDS lt

  set_up_own : (below : Reservations) (chip : Chip) (w : World) (s : SpiState) (k : SetUpBody) (o : Origin Call) (t : FrameHistory) → AssertedAt (spi_basis d) (set_up_bodies d) below chip w s k o t → is_shared (set_up_work k) || may d (set_up_work k) ≡ true
  set_up_own below chip w s (set_up.Store x by) o t (h, (c, k, p, q, n, being, known, external, at, is, clear, on, some, few)) = subst (λ z. may d (Store (set_up_word z) (packed by)) ≡ true) (sym at) (may_store (set_up_word (placed_of d c)) (packed by) (own_set_up d fits c k known))

  set_up_stays : (below : Reservations) (chip : Chip) (w : World) (s : SpiState) (order : Order) (k : SetUpBody) (o : Origin Call) (t : FrameHistory) → AssertedAt (spi_basis d) (set_up_bodies d) below chip w s k o t → place_at ((set_up_bodies d).assertion k) below ((spi_basis d).foot (happened chip order)) (world_after w chip.clock.rate order) (moved d w s order) o t
  set_up_stays below chip w s order (set_up.Store x by) o t h = subst (λ mode. IsSettingUp d (is_off mode) x by o t) (sym (mode_later d w s order)) h.1

  pub set_up_right : AreLong (spi_basis d) (set_up_bodies d)
  set_up_right = record {
    own = λ below chip w s k o t h. frame_may d o (set_up_work k) (set_up_own below chip w s k o t h);
    turns = λ below chip w s k o t h. turns k;
    steps = λ below chip w s k o y t m come few h. set_up_steps below chip w s k o y t m h;
    later = λ below chip w s order k o t come shut h. set_up_stays below chip w s order k o t h;
    calm = λ below chip w s k o t h e. calm k;
    shortens = λ k x. omega arith;
    cleans = λ k x. never_clean (set_up_work k) k (set_up_takes k x);
  }
    where
      turns : (k : SetUpBody) → TurnsTo (set_up_bodies d) 32 k (set_up_takes k 0)
      turns (set_up.Store x by) = omega arith

      calm : (k : SetUpBody) → (resets_chip (set_up_work k) ≡ false) × (begins_word (set_up_work k) ≡ false)
      calm (set_up.Store x by) = (refl, refl)
