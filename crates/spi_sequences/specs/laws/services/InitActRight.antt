-- Spi_Init acts: words that are cleared and sides that are readied stand for an initialised module.
-- From services.InitPrepared, words.WordsOfModule, words.SideWords, service_outline: Words and 2 more.
-- Used by services.InitRight.
use Rattle.std.proofs.Common.{◌≡◌, ◌≢◌, ◌+◌, ◌<◌, ◌≤◌, ◌&&◌, [], ◌∷◌, ◌∙◌, if◌then◌else◌, ◌⊎◌}
use Rattle.spi_sequences.specs.Terms
use Terms.{ap, arith, BanksAgree, Bool, cases, Channel, channel_at, channel_of, ChannelState, Chip, chip_after}
use Terms.{Contains, enumerate_from, false, first_items, FitsSpi, Going, initial, initialised, inl, inr, is_interrupt}
use Terms.{is_off, is_own_word, is_sync_unit, job_word, length, length-replicate, List, map, Mode, None, not, Off}
use Terms.{Option, option_as, order_word, placed_of, PutRight, ranked_of, Received, refl, replicate, running_word}
use Terms.{same_or_other, Sent, sequence_word, SequencesAgree, set_up_code, set_up_word, SetUpFits, Side}
use Terms.{slice_index_or, Some, SpiRepresents, SpiState, SpiTable, stands-move, STATE, Store, stored_other}
use Terms.{stored_same, subst, suc, sym, TakeRight, true, untouched, view, word_at, word_of, World, zero, ℕ}
use Rattle.spi_sequences.specs.laws.hardware.StableUnderHardware.{empty_sound, none_in}
use Rattle.spi_sequences.specs.laws.services.InitPrepared.{cleared, in_cons, in_first, in_later, is_in, prep}
use Rattle.spi_sequences.specs.laws.services.InitPrepared.{Prepared, prepared_agrees, prepared_by, side_stays}
use Rattle.spi_sequences.specs.laws.{services.InitPrepared.{SidePrepared}, words.SideWords.{mine, not_first}}
use Rattle.spi_sequences.specs.laws.{words.SideWords.{not_of_other, set_up_by}, words.WordsOfModule.{few_places}}
use Rattle.spi_sequences.specs.laws.words.WordsOfModule.{of_set_up, of_sixteen, own_first, own_set_up, past_the_first}

-- ---- the channels

numbered_at : {A B : Type 0} (f : ℕ × A → B) (first : A) (other : B) (a n : ℕ) (xs : List A) (c : ℕ) → c < n → slice_index_or (map f (enumerate_from a (first_items first n xs))) c other ≡ f (a + c, slice_index_or xs c first)
numbered_at f first other a zero xs c lt = absurd (omega (arith, lt))
numbered_at f first other a (suc n) [] zero lt = ap (λ i. f (i, first)) (omega arith)
numbered_at f first other a (suc n) [] (suc c) lt = numbered_at f first other (a + 1) n [] c (omega (arith, lt)) ∙ ap (λ i. f (i, first)) (omega arith)
numbered_at f first other a (suc n) (x ∷ xs) zero lt = ap (λ i. f (i, x)) (omega arith)
numbered_at f first other a (suc n) (x ∷ xs) (suc c) lt = numbered_at f first other (a + 1) n xs c (omega (arith, lt)) ∙ ap (λ i. f (i, slice_index_or xs c first)) (omega arith)

pub channel_renewed : (d : SpiTable) (s : SpiState) (c : ℕ) → c < 16 → channel_at (initial d s) c ≡ initialised (channel_of d c) (channel_at s c)
channel_renewed d s c lt = numbered_at (λ p. initialised (channel_of d p.0) p.1) untouched untouched 0 16 s.channels c lt ∙ ap (λ i. initialised (channel_of d i) (channel_at s c)) (omega arith)

renewed_arrays : (k : Option Channel) (x : ChannelState) → ((initialised k x).source ≡ x.source) × ((initialised k x).destination ≡ x.destination)
renewed_arrays None x = (refl, refl)
renewed_arrays (Some k) x =
    elim k.internal as (λ q. let z : ChannelState = if q then record x { written = replicate k.length k.default_data; received = replicate k.length 0 } else record x { set_up = None } in (z.source ≡ x.source) × (z.destination ≡ x.destination))
    [ true ↦ (refl, refl) | false ↦ (refl, refl) ]

first-whole : (n v : ℕ) → first_items 0 n (replicate n v) ≡ replicate n v
first-whole zero v = refl
first-whole (suc n) v = ap (λ xs. v ∷ xs) (first-whole n v)

module _ (d : SpiTable) (s : SpiState) (c : ℕ) (k : Channel) (known : channel_of d c ≡ Some k) (lt : c < 16) where
  whole : channel_at (initial d s) c ≡ initialised (Some k) (channel_at s c)
  whole = channel_renewed d s c lt ∙ ap (λ o. initialised o (channel_at s c)) known

  written_first : k.internal ≡ true → (channel_at (initial d s) c).written ≡ replicate k.length k.default_data
  written_first i = ap (λ x. x.written) whole ∙ ap (λ q. (if q then record (channel_at s c) { written = replicate k.length k.default_data; received = replicate k.length 0 } else record (channel_at s c) { set_up = None }).written) i

  received_first : k.internal ≡ true → (channel_at (initial d s) c).received ≡ replicate k.length 0
  received_first i = ap (λ x. x.received) whole ∙ ap (λ q. (if q then record (channel_at s c) { written = replicate k.length k.default_data; received = replicate k.length 0 } else record (channel_at s c) { set_up = None }).received) i

  set_up_none : k.internal ≡ false → (channel_at (initial d s) c).set_up ≡ None
  set_up_none i = ap (λ x. x.set_up) whole ∙ ap (λ q. (if q then record (channel_at s c) { written = replicate k.length k.default_data; received = replicate k.length 0 } else record (channel_at s c) { set_up = None }).set_up) i

-- ---- the act

-- all words that Spi_Init clears
pub record AreCleared (d : SpiTable) (st : List (ℕ × ℕ)) : Type 0 where
  pub running : (u : ℕ) → u < 2 → Contains st (running_word u, 0)
  pub orders : (u : ℕ) → u < 2 → Contains st (order_word u + 2, 0)
  pub jobs : (j : ℕ) → j < 16 → Contains st (job_word j, 0)
  pub sequences : (q : ℕ) → q < 8 → Contains st (sequence_word q, 0)
  pub set_ups : (c : ℕ) (k : Channel) → channel_of d c ≡ Some k → Contains st (set_up_word (placed_of d c), 0)

-- and all sides of internal channels
abbrev pub AreReadied : SpiTable → List (ℕ × Bool) → Type 0
AreReadied d rd = (c : ℕ) (k : Channel) → channel_of d c ≡ Some k → k.internal ≡ true → (side : Side) → Contains rd (c, is_in side)

module _ (d : SpiTable) (fits : FitsSpi d) (st : List (ℕ × ℕ)) (rd : List (ℕ × Bool)) (chip : Chip) (w : World) (s : SpiState) (p : Prepared d st rd None chip w s) (all : AreCleared d st) (ready : AreReadied d rd) where
  abbrev last : Chip
  last = chip_after chip (Store STATE 1) 0

  abbrev later : SpiState
  later = initial d s

  other : (j : ℕ) → j ≢ STATE → word_of last j ≡ word_of chip j
  other j ne = stored_other chip STATE 1 0 j ne

  zero_at : (j : ℕ) → STATE < j → Contains st (j, 0) → word_of last j ≡ 0
  zero_at j past is = other j (λ e. omega (arith, e, past)) ∙ (p.stored j 0 is).1

  abbrev none_going : (u : ℕ) → Option Going
  none_going u = None

  -- a side with its first words
  side_words : (c : ℕ) (k : Channel) → channel_of d c ≡ Some k → (i : k.internal ≡ true) → (side : Side) → SidePrepared d (word_of last) rd None c k side
  side_words c k e i side = side_stays d fits st rd None chip w s p STATE 1 rd None c k side (not_first d fits c k e i side STATE (omega arith)) (λ is. is) refl (p.sides c k e i side)

  banks_now : (c : ℕ) (k : Channel) → channel_of d c ≡ Some k → k.internal ≡ true → BanksAgree d [] none_going (word_of last) (view later) c k
  banks_now c k e i =
      let a = side_words c k e i Sent in
      let b = side_words c k e i Received in
      let lt = of_sixteen d c k fits e in
      record {
        sent = a.banks;
        sends = a.stands;
        written = λ free. a.readied (ready c k e i Sent) ∙ sym (first-whole k.length k.default_data) ∙ ap (λ xs. first_items 0 k.length xs) (sym (written_first d s c k e lt i));
        readied_sent = λ is. absurd (none_in _ is);
        pinned = subst (λ o. TakeRight none_going c o) (sym a.none) (λ u few. tt);
        writes = a.put;
        received = b.banks;
        receives = b.stands;
        readable = λ free. b.readied (ready c k e i Received) ∙ sym (first-whole k.length 0) ∙ ap (λ xs. first_items 0 k.length xs) (sym (received_first d s c k e lt i));
        readied_received = λ is. absurd (none_in _ is);
        reads = b.none;
        keeps = subst (λ o. PutRight none_going (word_of last) (placed_of d c) None o) (sym b.put) (λ u few. tt);
      }

  sequences_now : SequencesAgree d (word_of last) (view later)
  sequences_now = record {
    sequences = λ q lt. zero_at (sequence_word q) (omega arith) (all.sequences q lt);
    pending = λ q there. absurd (none_in q there);
    begun = λ u q e. absurd (cc);
    had = λ q i there le lt. absurd (none_in q there);
    jobs = λ j lt none. zero_at (job_word j) (omega arith) (all.jobs j lt);
    orders = λ u lt. record { is = ap (λ v. ranked_of (word_of last (order_word u)) (word_of last (order_word u + 1)) v) (zero_at (order_word u + 2) (omega arith) (all.orders u lt)); once = tt };
  }

  not_interrupt : (m : Mode) → is_off m ≡ true → is_interrupt m ≡ false
  not_interrupt Off e = refl
  not_interrupt _ e = absurd (cc)

  -- the module is initialised
  pub renewed : SpiRepresents d [] last w later
  renewed = record {
    right = tt;
    outside = stands-move chip w (Store STATE 1) 0 p.outside;
    wired = p.wired;
    size = p.size;
    sound = empty_sound d later;
    going = none_going;
    nexts = λ u lt. tt;
    units = λ u lt async. (p.units u lt, refl);
    sends = λ u lt sync. (p.units u lt, refl);
    sending = tt;
    carriers = λ u q e. absurd (cc);
    words = record {
      state = stored_same chip STATE 1 0 (omega arith) p.outside.all.words;
      on = λ on. record { sequences = sequences_now; runs = λ u lt. zero_at (running_word u) (omega arith) (all.running u lt) };
      banks = banks_now;
      stored = λ j n is. absurd (none_in _ is);
    };
    set_ups = λ on c k e external. let lt = of_sixteen d c k fits e in zero_at (set_up_word (placed_of d c)) (let past = past_the_first d c k _ (fits.channels c k e) (of_set_up d fits c k e) in omega (arith, past)) (all.set_ups c k e) ∙ ap (λ o. set_up_code o) (sym (set_up_none d s c k e lt external));
    sizes = λ on c k e. let lt = of_sixteen d c k fits e in record {
      written = λ i. ap length (written_first d s c k e lt i) ∙ length-replicate k.length k.default_data;
      set_up = λ external. subst (λ o. SetUpFits k o) (sym (set_up_none d s c k e lt external)) tt;
    };
    arrays = λ c. record {
      source = λ i lt. other _ (λ f. omega (arith, f)) ∙ (p.arrays c).source i lt ∙ ap (λ xs. word_at xs i) (sym (ap (λ x. x.source) (channel_renewed d s c (few_places d fits c i lt).0) ∙ (renewed_arrays (channel_of d c) (channel_at s c)).0));
      destination = λ i lt. other _ (λ f. omega (arith, f)) ∙ (p.arrays c).destination i lt ∙ ap (λ xs. word_at xs i) (sym (ap (λ x. x.destination) (channel_renewed d s c (few_places d fits c i lt).0) ∙ (renewed_arrays (channel_of d c) (channel_at s c)).1));
    };
    lines = λ u lt. p.lines u lt ∙ ap (λ b. b && not (is_sync_unit d u)) (not_interrupt s.mode p.off);
    owed = λ u q lt free there for. absurd (none_in q there);
  }

-- ---- what is cleared and readied before each of its places

-- ---- what is stored before a place

abbrev pub units_below : ℕ → List (ℕ × ℕ)
units_below zero = []
units_below (suc u) = (order_word u + 2, 0) ∷ (running_word u, 0) ∷ units_below u

abbrev pub jobs_below : ℕ → List (ℕ × ℕ)
jobs_below zero = units_below 2
jobs_below (suc j) = (job_word j, 0) ∷ jobs_below j

abbrev pub sequences_below : ℕ → List (ℕ × ℕ)
sequences_below zero = jobs_below 16
sequences_below (suc q) = (sequence_word q, 0) ∷ sequences_below q

abbrev pub with_set_up : (word : ℕ) → Option Channel → List (ℕ × ℕ) → List (ℕ × ℕ)
with_set_up j None st = st
with_set_up j (Some k) st = (j, 0) ∷ st

abbrev pub set_ups_below : SpiTable → ℕ → List (ℕ × ℕ)
set_ups_below d zero = sequences_below 8
set_ups_below d (suc c) = with_set_up (set_up_word (placed_of d c)) (channel_of d c) (set_ups_below d c)

-- ---- and which sides have their first words

abbrev pub is_internal : Option Channel → Bool
is_internal None = false
is_internal (Some k) = k.internal

abbrev pub readied_below : SpiTable → ℕ → List (ℕ × Bool)
readied_below d zero = []
readied_below d (suc c) = if is_internal (channel_of d c) then (c, true) ∷ (c, false) ∷ readied_below d c else readied_below d c

-- before a side of a channel
abbrev pub readied_at : SpiTable → (channel : ℕ) → Side → List (ℕ × Bool)
readied_at d c Sent = readied_below d c
readied_at d c Received = (c, false) ∷ readied_below d c

-- ---- a cleared word is of no bank

abbrev pub IsCleared : SpiTable → ℕ → Type 0
IsCleared d j = ((STATE < j) × (j < STATE + 64)) ⊎ ((c : ℕ) × (k : Channel) × (channel_of d c ≡ Some k) × (j ≡ set_up_word (placed_of d c)))

abbrev pub AllCleared : SpiTable → List (ℕ × ℕ) → Type 0
AllCleared d st = (j n : ℕ) → Contains st (j, n) → IsCleared d j × (n ≡ 0)

module _ (d : SpiTable) where
  pub more_cleared : (i : ℕ) (st : List (ℕ × ℕ)) → IsCleared d i → AllCleared d st → AllCleared d ((i, 0) ∷ st)
  more_cleared i st is all j n there =
      elim (in_cons (i, 0) st (j, n) there)
      [ inl e ↦ (subst (IsCleared d) (ap (λ y. y.0) e) is, sym (ap (λ y. y.1) e)) | inr rest ↦ all j n rest ]

  pub units_cleared : (u : ℕ) → u ≤ 2 → AllCleared d (units_below u)
  units_cleared zero le j n there = absurd (let lt = there.1 in omega (arith, lt))
  units_cleared (suc u) le j n there = more_cleared (order_word u + 2) ((running_word u, 0) ∷ units_below u) (inl (omega arith, omega (arith, le))) (more_cleared (running_word u) (units_below u) (inl (omega arith, omega (arith, le))) (units_cleared u (omega (arith, le)))) j n there

  pub jobs_cleared : (j : ℕ) → j ≤ 16 → AllCleared d (jobs_below j)
  jobs_cleared zero le = units_cleared 2 (omega arith)
  jobs_cleared (suc j) le = more_cleared (job_word j) (jobs_below j) (inl (omega arith, omega (arith, le))) (jobs_cleared j (omega (arith, le)))

  pub sequences_cleared : (q : ℕ) → q ≤ 8 → AllCleared d (sequences_below q)
  sequences_cleared zero le = jobs_cleared 16 (omega arith)
  sequences_cleared (suc q) le = more_cleared (sequence_word q) (sequences_below q) (inl (omega arith, omega (arith, le))) (sequences_cleared q (omega (arith, le)))

  pub set_ups_cleared : (c : ℕ) → AllCleared d (set_ups_below d c)
  set_ups_cleared zero = sequences_cleared 8 (omega arith)
  set_ups_cleared (suc c) = option_as (channel_of d c) (λ k. AllCleared d (with_set_up (set_up_word (placed_of d c)) k (set_ups_below d c)))
      (λ e. set_ups_cleared c)
      (λ k e. more_cleared (set_up_word (placed_of d c)) (set_ups_below d c) (inr (c, k, e, refl)) (set_ups_cleared c))

  module _ (fits : FitsSpi d) where
    pub cleared_apart : (j : ℕ) → IsCleared d j → (c : ℕ) (k : Channel) (e : channel_of d c ≡ Some k) (internal : k.internal ≡ true) (side : Side) → mine d fits c k e internal side j ≡ false
    cleared_apart j (inl range) c k e internal side = not_first d fits c k e internal side j range.1
    cleared_apart j (inr (n, x, f, is)) c k e internal side = ap (mine d fits c k e internal side) is ∙ cases (same_or_other n c)
        (λ at. subst (λ i. mine d fits c k e internal side (set_up_word (placed_of d i)) ≡ false) (sym at) (set_up_by (placed_of d c) side))
        (λ ne. not_of_other d fits c k e internal side n x (set_up_word (placed_of d n)) ne f (of_set_up d fits n x f))

    pub cleared_own : (j : ℕ) → IsCleared d j → (is_own_word d j ≡ true) × (j ≢ STATE)
    cleared_own j (inl range) = let low = range.0 in (own_first d j (omega (arith, low)) range.1, λ e. omega (arith, low, e))
    cleared_own j (inr (n, x, f, is)) = let past = past_the_first d n x _ (fits.channels n x f) (of_set_up d fits n x f) in (ap (is_own_word d) is ∙ own_set_up d fits n x f, λ e. omega (arith, past, is, e))

    -- the step that clears one
    pub clears : (st : List (ℕ × ℕ)) (rd : List (ℕ × Bool)) (chip : Chip) (w : World) (s : SpiState) (j : ℕ) → IsCleared d j → AllCleared d st → SpiRepresents d (prep st rd None) chip w s → SpiRepresents d (prep ((j, 0) ∷ st) rd None) (chip_after chip (Store j 0) 0) w s
    clears st rd chip w s j is all h =
        let own = cleared_own j is in
        prepared_agrees d ((j, 0) ∷ st) rd None (chip_after chip (Store j 0) 0) w s
        (cleared d fits st rd None chip w s (prepared_by d st rd None chip w s h) j own.0 own.1 (λ c k e internal side. cleared_apart j is c k e internal side) (λ i n there. (all i n there).1))

-- ---- all of them

-- of a list that grows
module _ {A : Type 0} (below : ℕ → List A) (later : (y : A) (n : ℕ) → Contains (below n) y → Contains (below (suc n)) y) where
  -- what is there at first stays, and so does what comes in at a place
  from_first : (y : A) (n : ℕ) → Contains (below 0) y → Contains (below n) y
  from_first y zero is = is
  from_first y (suc n) is = later y n (from_first y n is)

  from_place : (y : A) (j n : ℕ) → j < n → Contains (below (suc j)) y → Contains (below n) y
  from_place y j zero lt is = absurd (omega (arith, lt))
  from_place y j (suc n) lt is = cases (same_or_other j n)
      (λ e. subst (λ i. Contains (below (suc i)) y) e is)
      (λ ne. later y n (from_place y j n (omega (arith, lt, ne)) is))

later_unit : (y : ℕ × ℕ) (n : ℕ) → Contains (units_below n) y → Contains (units_below (suc n)) y
later_unit y n is = in_later (order_word n + 2, 0) ((running_word n, 0) ∷ units_below n) y (in_later (running_word n, 0) (units_below n) y is)

later_job : (y : ℕ × ℕ) (n : ℕ) → Contains (jobs_below n) y → Contains (jobs_below (suc n)) y
later_job y n is = in_later (job_word n, 0) (jobs_below n) y is

later_sequence : (y : ℕ × ℕ) (n : ℕ) → Contains (sequences_below n) y → Contains (sequences_below (suc n)) y
later_sequence y n is = in_later (sequence_word n, 0) (sequences_below n) y is

module _ (d : SpiTable) where
  later_set_up : (y : ℕ × ℕ) (c : ℕ) → Contains (set_ups_below d c) y → Contains (set_ups_below d (suc c)) y
  later_set_up y c is =
      elim (channel_of d c) as (λ k. Contains (with_set_up (set_up_word (placed_of d c)) k (set_ups_below d c)) y)
      [ None ↦ is | Some k ↦ in_later (set_up_word (placed_of d c), 0) _ _ is ]

  later_ready : (y : ℕ × Bool) (c : ℕ) → Contains (readied_below d c) y → Contains (readied_below d (suc c)) y
  later_ready y c is =
      elim (is_internal (channel_of d c)) as (λ q. Contains (if q then (c, true) ∷ (c, false) ∷ readied_below d c else readied_below d c) y)
      [ true ↦ in_later (c, true) ((c, false) ∷ readied_below d c) y (in_later (c, false) (readied_below d c) y is) | false ↦ is ]

  of_sequences : (y : ℕ × ℕ) → Contains (sequences_below 8) y → Contains (set_ups_below d 16) y
  of_sequences y is = from_first (set_ups_below d) later_set_up y 16 is

  of_jobs : (y : ℕ × ℕ) → Contains (jobs_below 16) y → Contains (set_ups_below d 16) y
  of_jobs y is = of_sequences y (from_first sequences_below later_sequence y 8 is)

  of_units : (y : ℕ × ℕ) (u : ℕ) → u < 2 → Contains (units_below (suc u)) y → Contains (set_ups_below d 16) y
  of_units y u lt is = of_jobs y (from_first jobs_below later_job y 16 (from_place units_below later_unit y u 2 lt is))

  module _ (fits : FitsSpi d) where
    pub all_cleared : AreCleared d (set_ups_below d 16)
    all_cleared = record {
      running = λ u lt. of_units _ u lt (in_later (order_word u + 2, 0) ((running_word u, 0) ∷ units_below u) (running_word u, 0) (in_first (running_word u, 0) (units_below u)));
      orders = λ u lt. of_units _ u lt (in_first (order_word u + 2, 0) ((running_word u, 0) ∷ units_below u));
      jobs = λ j lt. of_jobs _ (from_place jobs_below later_job _ j 16 lt (in_first (job_word j, 0) (jobs_below j)));
      sequences = λ q lt. of_sequences _ (from_place sequences_below later_sequence _ q 8 lt (in_first (sequence_word q, 0) (sequences_below q)));
      set_ups = λ c k e. from_place (set_ups_below d) later_set_up _ c 16 (of_sixteen d c k fits e)
          (subst (λ o. Contains (with_set_up (set_up_word (placed_of d c)) o (set_ups_below d c)) (set_up_word (placed_of d c), 0)) (sym e) (in_first (set_up_word (placed_of d c), 0) _));
    }

    pub all_readied : AreReadied d (readied_below d 16)
    all_readied c k e i side = from_place (readied_below d) later_ready _ c 16 (of_sixteen d c k fits e)
        (subst (λ q. Contains (if q then (c, true) ∷ (c, false) ∷ readied_below d c else readied_below d c) (c, is_in side)) (sym (ap is_internal e ∙ i)) (both side))
      where
        both : (side : Side) → Contains ((c, true) ∷ (c, false) ∷ readied_below d c) (c, is_in side)
        both Sent = in_later (c, true) ((c, false) ∷ readied_below d c) (c, false) (in_first (c, false) (readied_below d c))
        both Received = in_first (c, true) ((c, false) ∷ readied_below d c)
