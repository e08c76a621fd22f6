-- The channels of a job that begins are made ready one after the other: what stands then, and what a frame owes for it.
-- From spi_sequences: words.WordsOfModule, spi_sequences: words.SideWords, bookkeeping.RanState and 8 more.
-- Used by services.StartWords, sending.services.SendReady, sending.services.SendBegun.
use Rattle.std.proofs.Common.{◌≡◌, ◌≢◌, ◌+◌, ◌<◌, ◌≤◌, ◌&&◌, ◌==◌, [], ◌∷◌, ◌∙◌, if◌then◌else◌}
use Rattle.spi_laws.specs.starting.Terms
use Terms.{Answer, ap, AreThere, arith, as_read, Bool, cases, Channel, channel_at, channel_number, channel_of}
use Terms.{channels_of, Chip, chip_after, CommitsAfter, Contains, control_word, differs_by_store, DiffersIn, false}
use Terms.{FitsSpi, get_contained, has_channel, HasWords, held_word, is_past, is_some, IsPart, IsWordOf, Job, job_of}
use Terms.{length, List, list_of, lt_itself, lt_next, may_store, named_own, nat_le, nat_lt, nat_tests, None, not_first}
use Terms.{not_held, not_of_other, of_banks, of_held, of_one, one_owed, Option, or_none, other_number, owed_left}
use Terms.{owed_move, owes_move, own_banks, own_held, own_low, own_set_up, packed, PartTo, past_the_first}
use Terms.{PendingWrites, pin-ends, pinning, pinning_of, placed_of, position_word, Prepare, prepare_ends, prepare_left}
use Terms.{prepare_move, preparing, refl, Reservations, running_word, same_number, same_or_other, Sent, set_up_or}
use Terms.{set_up_word, settles_part, SetUp, slice_get, slice_get_within, Some, some_is, spi_owing, SpiState, SpiTable}
use Terms.{stands-agree, STATE, Store, stored_same, subst, suc, sym, Take, take_gave, take_left, taking, trio_fits}
use Terms.{trio_of, TripleBuffer, true, value_of, whether, whether_as, word_of, WORDS, zero, ℕ}
use Rattle.spi_laws.specs.starting.laws.bookkeeping.RanState.{channel_there, IsQuiet, quiet_set_up, sent_by, SentAt}
use Rattle.spi_laws.specs.starting.laws.words.PinnedBanks.{count_is, number_at}
use Rattle.word_shapes.specs.TripleBuffer as trio
use Rattle.word_shapes.specs.declared.take.Take.TheVariants as takes
use Rattle.word_shapes.specs.declared.jobs.preparing.Prepare.TheVariants as prepares

-- not a word of what the unit runs, nor of what is sent and held of a channel of its job
abbrev pub IsBeside : SpiTable → (unit job : ℕ) → ℕ → Type 0
IsBeside d u j i =
    (i ≢ running_word u) × (i ≢ position_word u)
    × ((b : ℕ) (x : Channel) → Contains (channels_of d j) b → channel_of d b ≡ Some x → (x.internal ≡ true → trio.own_of (trio_of (placed_of d b) Sent) i ≡ false) × (i ≢ held_word (placed_of d b)))

pub beside_quiet : (d : SpiTable) (u j i : ℕ) → IsQuiet d u j i → IsBeside d u j i
beside_quiet d u j i is = (is.2, is.3, is.4)

-- the places before this one, from the first that is made ready on
abbrev pub upto : (least n : ℕ) → (place length : ℕ) → Bool
upto m n i len = nat_le m i && nat_lt i n

pub from_none : (n i : ℕ) → (nat_le 0 i && nat_lt i n) ≡ nat_lt i n
from_none n i = ap (λ q. q && nat_lt i n) (all i)
  where
    all : (i : ℕ) → nat_le 0 i ≡ true
    all i = grind (arith, nat_tests)

abbrev pub before : ℕ → (place : ℕ) → Bool
before n i = nat_lt i n

pub lt_else : (i n : ℕ) → i ≢ n → nat_lt i (suc n) ≡ nat_lt i n
lt_else i n ne = grind (arith, nat_tests)

-- ---- the moves, as a frame owes them: at a place of the job, and what comes after the last channel

module _ (d : SpiTable) (number : ℕ) (at : ℕ → Prepare → PendingWrites) (last : PendingWrites) where
  abbrev pub ready_by : ℕ → Option ℕ → PendingWrites
  ready_by i None = last
  ready_by i (Some c) = at i (preparing (placed_of d c))

  abbrev pub ready_at : ℕ → PendingWrites
  ready_at i = ready_by i (channel_number (list_of d number) i)

  abbrev pub ready_next : ℕ → PendingWrites
  ready_next i = if nat_lt i 3 then ready_at (i + 1) else last

  pub record OwesReady : Type 0 where
    pub moves : (i : ℕ) (p : Prepare) → owed_move (at i p) ≡ prepare_move p
    pub lefts : (i : ℕ) (p : Prepare) (v : ℕ) → owed_left (at i p) v ≡ Some (if prepare_ends p v then ready_next i else at i (prepare_left p v))

-- ---- the words

module _ (d : SpiTable) (fits : FitsSpi d) (u : ℕ) (few : u < 2) (number : ℕ) (job : Job) (is_job : job_of d number ≡ Some job) (held : Reservations) (s : SpiState) (base : Chip) where
  abbrev cs : List ℕ
  cs = channels_of d number

  -- these places of the job have their banks pinned, by the lengths of their channels, and at these the set-up is held
  pub record Ready (pinned : (place length : ℕ) → Bool) (holding : ℕ → Bool) (c : Chip) : Type 0 where
    pub rest : c ≡ record base { words = c.words }
    pub whole : HasWords c
    pub beside : (i : ℕ) → IsBeside d u number i → word_of c i ≡ word_of base i
    pub sends : (n b : ℕ) (k : Channel) → slice_get cs n ≡ Some b → channel_of d b ≡ Some k → k.internal ≡ true → SentAt d held s b k (word_of c) (pinned n k.length)
    pub holds : (n b : ℕ) (k : Channel) → slice_get cs n ≡ Some b → channel_of d b ≡ Some k → k.internal ≡ false → holding n ≡ true → word_of c (held_word (placed_of d b)) ≡ packed (as_read (set_up_or k (channel_at s b).set_up))

  -- the other ones of the first words
  pub beside_first : (i : ℕ) → i < STATE + 64 → i ≢ running_word u → i ≢ position_word u → IsBeside d u number i
  beside_first i lt running position =
      (running, position, λ b x at f. (λ inner. not_first d fits b x f inner Sent i lt, λ e. let past = past_the_first d b x (held_word (placed_of d b)) (fits.channels b x f) (of_held d fits b x f) in omega (arith, past, e, lt)))

  -- banks stay where their words do
  pub sent_kept : (own : ℕ → Bool) (c c1 : Chip) → DiffersIn own c c1 → (b : ℕ) (k : Channel) (q : Bool) → ((j : ℕ) → trio.own_of (trio_of (placed_of d b) Sent) j ≡ true → own j ≡ false) → SentAt d held s b k (word_of c) q → SentAt d held s b k (word_of c1) q
  sent_kept own c c1 differs b k q apart (x, is, stands) = (x, is, stands-agree (trio_of (placed_of d b) Sent) (word_of c) (word_of c1) (sent_by q x) (λ j mine. sym (differs.others j (apart j mine))) stands)

  -- what a move leaves that changes none of the other words
  pub ready_on : (own : ℕ → Bool) (c c1 : Chip) (f f1 : (place length : ℕ) → Bool) (g g1 : ℕ → Bool) → DiffersIn own c c1 → Ready f g c → ((i : ℕ) → IsBeside d u number i → own i ≡ false)
      → ((n b : ℕ) (k : Channel) → slice_get cs n ≡ Some b → channel_of d b ≡ Some k → k.internal ≡ true → SentAt d held s b k (word_of c1) (f1 n k.length))
      → ((n b : ℕ) (k : Channel) → slice_get cs n ≡ Some b → channel_of d b ≡ Some k → k.internal ≡ false → g1 n ≡ true → word_of c1 (held_word (placed_of d b)) ≡ packed (as_read (set_up_or k (channel_at s b).set_up)))
      → Ready f1 g1 c1
  ready_on own c c1 f f1 g g1 differs a beside sends holds = record {
    rest = differs.rest ∙ ap (λ (x : Chip). record x { words = c1.words }) a.rest;
    whole = differs.whole;
    beside = λ i is. differs.others i (beside i is) ∙ a.beside i is;
    sends = sends;
    holds = holds;
  }

  -- a store into one of the first words
  pub ready_first : (c : Chip) (f : (place length : ℕ) → Bool) (g : ℕ → Bool) (j v : ℕ) → Ready f g c → j < STATE + 64 → ((i : ℕ) → IsBeside d u number i → i ≢ j) → Ready f g (chip_after c (Store j v) 0)
  ready_first c f g j v a lt beside =
      let differs : DiffersIn own c (chip_after c (Store j v) 0) = differs_by_store own c j v a.whole (same_number j) in
      ready_on own c (chip_after c (Store j v) 0) f f g g differs a (λ i is. other_number i j (beside i is))
      (λ n b k at known internal. sent_kept own c (chip_after c (Store j v) 0) differs b k (f n k.length) (λ i mine. other_number i j (λ e. let past = past_the_first d b k i (fits.channels b k known) (of_banks d fits b k known internal Sent i mine) in omega (arith, past, e, lt))) (a.sends n b k at known internal))
      (λ n b k at known external ready. differs.others (held_word (placed_of d b)) (other_number (held_word (placed_of d b)) j (λ e. let past = past_the_first d b k (held_word (placed_of d b)) (fits.channels b k known) (of_held d fits b k known) in omega (arith, past, e, lt))) ∙ a.holds n b k at known external ready)
    where
      own : ℕ → Bool
      own i = i == j

  -- ---- a channel at its place

  one_at : (n m b : ℕ) → slice_get cs n ≡ Some b → slice_get cs m ≡ Some b → n ≡ m
  one_at n m b at too = (fits.jobs number job is_job).once n m b at too

  module _ (n b : ℕ) (k : Channel) (at : slice_get cs n ≡ Some b) (known : channel_of d b ≡ Some k) (c c1 : Chip) where
    -- another place has another channel
    apart_at : (i a : ℕ) → slice_get cs i ≡ Some a → i ≢ n → a ≢ b
    apart_at i a e ne same = ne (one_at i n b (e ∙ ap (λ z. Some z) same) at)

    trio_apart : k.internal ≡ true → (a : ℕ) (x : Channel) → channel_of d a ≡ Some x → x.internal ≡ true → a ≢ b → (j : ℕ) → trio.own_of (trio_of (placed_of d a) Sent) j ≡ true → trio.own_of (trio_of (placed_of d b) Sent) j ≡ false
    trio_apart internal a x e inner ne j mine = not_of_other d fits b k known internal Sent a x j ne e (of_banks d fits a x e inner Sent j mine)

    same_channel : (i a : ℕ) (x : Channel) → i ≡ n → slice_get cs i ≡ Some a → channel_of d a ≡ Some x → (a ≡ b) × (x ≡ k)
    same_channel i a x e here is =
        let same : a ≡ b = some_is a b (sym here ∙ ap (slice_get cs) e ∙ at) in
        (same, some_is x k (sym is ∙ ap (channel_of d) same ∙ known))

    beside_trio : k.internal ≡ true → (i : ℕ) → IsBeside d u number i → trio.own_of (trio_of (placed_of d b) Sent) i ≡ false
    beside_trio internal i is = (is.2 b k (get_contained cs n b at) known).0 internal

    -- its banks are changed where it is internal, and what is held of it where it isn't
    ready_there : (own : ℕ → Bool) (f f1 : (place length : ℕ) → Bool) (g g1 : ℕ → Bool) → DiffersIn own c c1 → Ready f g c → ((i : ℕ) → IsBeside d u number i → own i ≡ false)
        → (k.internal ≡ true → SentAt d held s b k (word_of c1) (f1 n k.length)) → (k.internal ≡ false → word_of c1 (held_word (placed_of d b)) ≡ packed (as_read (set_up_or k (channel_at s b).set_up)))
        → ((a : ℕ) (x : Channel) → channel_of d a ≡ Some x → a ≢ b → (x.internal ≡ true → (j : ℕ) → trio.own_of (trio_of (placed_of d a) Sent) j ≡ true → own j ≡ false) × (own (held_word (placed_of d a)) ≡ false))
        → ((i len a : ℕ) → slice_get cs i ≡ Some a → i ≢ n → f i len ≡ f1 i len) → ((i a : ℕ) → slice_get cs i ≡ Some a → i ≢ n → g1 i ≡ true → g i ≡ true) → Ready f1 g1 c1
    ready_there own f f1 g g1 differs a beside sent holding apart others ready = ready_on own c c1 f f1 g g1 differs a beside
        (λ i b1 x here is inner. cases (same_or_other i n)
        (λ e. let same = same_channel i b1 x e here is in
        subst (λ z. SentAt d held s z x (word_of c1) (f1 i x.length)) (sym same.0) (subst (λ z. SentAt d held s b z (word_of c1) (f1 i z.length)) (sym same.1)
        (subst (λ z. SentAt d held s b k (word_of c1) (f1 z k.length)) (sym e) (sent (ap (λ z. z.internal) (sym same.1) ∙ inner)))))
        (λ ne. subst (λ q. SentAt d held s b1 x (word_of c1) q) (others i x.length b1 here ne)
        (sent_kept own c c1 differs b1 x (f i x.length) ((apart b1 x is (apart_at i b1 here ne)).0 inner) (a.sends i b1 x here is inner))))
        (λ i b1 x here is outer now. cases (same_or_other i n)
        (λ e. let same = same_channel i b1 x e here is in
        subst (λ z. word_of c1 (held_word (placed_of d z)) ≡ packed (as_read (set_up_or x (channel_at s z).set_up))) (sym same.0)
        (subst (λ z. word_of c1 (held_word (placed_of d b)) ≡ packed (as_read (set_up_or z (channel_at s b).set_up))) (sym same.1) (holding (ap (λ z. z.internal) (sym same.1) ∙ outer))))
        (λ ne. differs.others (held_word (placed_of d b1)) (apart b1 x is (apart_at i b1 here ne)).1 ∙ a.holds i b1 x here is outer (ready i b1 here ne now)))

    pub ready_sent : (f f1 : (place length : ℕ) → Bool) (g g1 : ℕ → Bool) → k.internal ≡ true → DiffersIn (trio.own_of (trio_of (placed_of d b) Sent)) c c1 → Ready f g c → SentAt d held s b k (word_of c1) (f1 n k.length)
        → ((i len : ℕ) (a : ℕ) → slice_get cs i ≡ Some a → i ≢ n → f i len ≡ f1 i len) → ((i a : ℕ) → slice_get cs i ≡ Some a → i ≢ n → g1 i ≡ true → g i ≡ true) → Ready f1 g1 c1
    ready_sent f f1 g g1 internal differs a sent others ready =
        ready_there (trio.own_of (trio_of (placed_of d b) Sent)) f f1 g g1 differs a (beside_trio internal) (λ q. sent) (λ external. absurd (let e = sym internal ∙ external in cc))
        (λ b1 x is ne. (λ inner. trio_apart internal b1 x is inner ne, not_held d fits b k known internal Sent b1 x is)) others ready

    pub ready_held : (f f1 : (place length : ℕ) → Bool) (g g1 : ℕ → Bool) → k.internal ≡ false → DiffersIn (λ i. i == held_word (placed_of d b)) c c1 → Ready f g c → word_of c1 (held_word (placed_of d b)) ≡ packed (as_read (set_up_or k (channel_at s b).set_up))
        → ((i len : ℕ) → i ≢ n → f i len ≡ f1 i len) → ((i a : ℕ) → slice_get cs i ≡ Some a → i ≢ n → g1 i ≡ true → g i ≡ true) → Ready f1 g1 c1
    ready_held f f1 g g1 external differs a holding others ready =
        ready_there (λ i. i == held_word (placed_of d b)) f f1 g g1 differs a (λ i is. other_number i (held_word (placed_of d b)) (is.2 b k (get_contained cs n b at) known).1) (λ internal. absurd (let e = sym external ∙ internal in cc)) (λ q. holding)
        (λ b1 x is ne. (λ inner j mine. not_it b1 x is ne j (of_banks d fits b1 x is inner Sent j mine), not_it b1 x is ne (held_word (placed_of d b1)) (of_held d fits b1 x is))) (λ i len b1 here ne. others i len ne) ready
      where
        not_it : (a : ℕ) (x : Channel) → channel_of d a ≡ Some x → a ≢ b → (j : ℕ) → IsWordOf d a x j → (j == held_word (placed_of d b)) ≡ false
        not_it a x is ne j word = other_number j (held_word (placed_of d b)) (of_one d fits a b x k j (held_word (placed_of d b)) ne is known word (of_held d fits b k known))

  -- ---- what a frame owes for them

  module _ (at : ℕ → Prepare → PendingWrites) (last : PendingWrites) (owes : OwesReady d number at last) (least : ℕ) (Done : Chip → Type 0)
      (set_ups : (b : ℕ) (k : Channel) → channel_of d b ≡ Some k → k.internal ≡ false → packed (or_none (word_of base (set_up_word (placed_of d b))) (placed_of d b).channel) ≡ packed (as_read (set_up_or k (channel_at s b).set_up))) where
    abbrev On : ℕ → Chip → Type 0
    On n c = Ready (upto least n) (before n) c

    abbrev Settling : PendingWrites → Chip → Type 0
    Settling x c = CommitsAfter (spi_owing d) (Some x) c Done

    abbrev next : ℕ → PendingWrites
    next i = ready_next d number at last i

    abbrev from : ℕ → PendingWrites
    from i = ready_at d number at last i

    -- one move
    move_to : (i : ℕ) (p : Prepare) (c : Chip) (left : Option PendingWrites) → owes_move d (prepare_move p) ≡ true → owed_left (at i p) (value_of c (prepare_move p)) ≡ left → CommitsAfter (spi_owing d) left (chip_after c (prepare_move p) 0) Done → Settling (at i p) c
    move_to i p c left own e rest =
        one_owed (spi_owing d) Done (at i p) c left (subst (λ m. owes_move d m ≡ true) (sym (owes.moves i p)) own) tt (ap (λ m. owed_left (at i p) (value_of c m)) (owes.moves i p) ∙ e)
        (subst (λ m. CommitsAfter (spi_owing d) left (chip_after c m 0) Done) (sym (owes.moves i p)) rest)

    -- ---- a channel is made ready

    module _ (n b : ℕ) (k : Channel) (here : slice_get cs n ≡ Some b) (known : channel_of d b ≡ Some k) (past : nat_le least n ≡ true) (c : Chip) (a : On n c) (onward : (c1 : Chip) → On (suc n) c1 → Settling (next n) c1) where
      earlier : (i a : ℕ) → slice_get cs i ≡ Some a → i ≢ n → before (suc n) i ≡ true → before n i ≡ true
      earlier i b1 is ne e = sym (lt_else i n ne) ∙ e

      others : (i len : ℕ) → i ≢ n → upto least n i len ≡ upto least (suc n) i len
      others i len ne = ap (λ q. nat_le least i && q) (sym (lt_else i n ne))

      module _ (internal : k.internal ≡ true) where
        abbrev side : TripleBuffer
        side = trio_of (placed_of d b) Sent

        side_there : AreThere (trio.own_of side)
        side_there j own = let low = own_low d fits j (own_banks d fits b k known internal Sent j own) in omega (arith, low)

        pin_steps : (y : Take) (v : ℕ) (o : Option Answer) → (take_gave y v).ended ≡ o → PartTo taking (spi_owing d) (λ z. at n (prepares.Pin z)) (λ xs. Some (next n)) y v o
        pin_steps y v None e = owes.lefts n (prepares.Pin y) v ∙ ap (λ q. Some (if q then next n else at n (prepares.Pin (take_left y v)))) (ap is_some e)
        pin_steps y v (Some x) e = owes.lefts n (prepares.Pin y) v ∙ ap (λ q. Some (if q then next n else at n (prepares.Pin (take_left y v)))) (ap is_some e)

        pin_part : IsPart taking (trio.own_of side) (spi_owing d) (λ z. at n (prepares.Pin z)) (λ xs. Some (next n))
        pin_part = record {
          moves = λ z. owes.moves n (prepares.Pin z);
          steps = λ z v. pin_steps z v (take_gave z v).ended refl;
          named = named_own d fits (trio.own_of side) (λ j own. own_banks d fits b k known internal Sent j own);
          fits = λ z c. tt;
        }

        pinned_owed : Settling (at n (prepares.Pin (pinning_of (placed_of d b) Sent))) c
        pinned_owed =
            let x : SentAt d held s b k (word_of c) (nat_le least n && nat_lt n n) = a.sends n b k here known internal in
            let not_yet : (nat_le least n && nat_lt n n) ≡ false = ap (λ q. q && nat_lt n n) past ∙ lt_itself n in
            let pinned_now : (nat_le least n && nat_lt n (suc n)) ≡ true = ap (λ q. q && nat_lt n (suc n)) past ∙ lt_next n in
            let stands : trio.Stands side (word_of c) x.0 = subst (λ q. trio.Stands side (word_of c) (sent_by q x.0)) not_yet x.2 in
            settles_part taking (trio.own_of side) (spi_owing d) (λ z. at n (prepares.Pin z)) (λ xs. Some (next n)) pin_part side_there
            (λ m words. (words ≡ x.0.bank ∷ []) × trio.Stands side m (pinning x.0)) Done 2 (takes.Pin (control_word (placed_of d b) Sent)) c a.whole (pin-ends side (word_of c) x.0 (trio_fits d fits b k known internal Sent) x.1.free stands)
            (λ c1 words differs now. onward c1 (ready_sent n b k here known c c1 (upto least n) (upto least (suc n)) (before n) (before (suc n)) internal differs a (subst (λ q. SentAt d held s b k (word_of c1) q) (sym pinned_now) (x.0, x.1, now.1)) (λ i len a is ne. others i len ne) earlier))

      held_owed : k.internal ≡ false → Settling (at n (prepares.Load (placed_of d b))) c
      held_owed external =
          move_to n (prepares.Load (placed_of d b)) c (Some (at n (prepares.Hold (placed_of d b) read))) (may_store d fits (set_up_word (placed_of d b)) 0 (own_set_up d fits b k known)) (owes.lefts n (prepares.Load (placed_of d b)) (word_of c (set_up_word (placed_of d b))))
          (move_to n (prepares.Hold (placed_of d b) read) c (Some (next n)) (may_store d fits (held_word (placed_of d b)) (packed read) (own_held d fits b k known)) (owes.lefts n (prepares.Hold (placed_of d b) read) (value_of c (Store (held_word (placed_of d b)) (packed read))))
          (onward later (ready_held n b k here known c later (upto least n) (upto least (suc n)) (before n) (before (suc n)) external differs a holding others earlier)))
        where
          read : SetUp
          read = or_none (word_of c (set_up_word (placed_of d b))) (placed_of d b).channel

          later : Chip
          later = chip_after c (Store (held_word (placed_of d b)) (packed read)) 0

          differs : DiffersIn (λ i. i == held_word (placed_of d b)) c later
          differs = differs_by_store (λ i. i == held_word (placed_of d b)) c (held_word (placed_of d b)) (packed read) a.whole (same_number (held_word (placed_of d b)))

          there_word : held_word (placed_of d b) < WORDS
          there_word = let low = own_low d fits (held_word (placed_of d b)) (own_held d fits b k known) in omega (arith, low)

          holding : word_of later (held_word (placed_of d b)) ≡ packed (as_read (set_up_or k (channel_at s b).set_up))
          holding =
              stored_same c (held_word (placed_of d b)) (packed read) 0 there_word a.whole
              ∙ ap (λ v. packed (or_none v (placed_of d b).channel)) (a.beside (set_up_word (placed_of d b)) (beside_quiet d u number (set_up_word (placed_of d b)) (quiet_set_up d fits u few number job is_job b k known))) ∙ set_ups b k known external

      prepared_owed : Settling (at n (preparing (placed_of d b))) c
      prepared_owed = subst (λ (z : Channel). Settling (at n (if z.internal then prepares.Pin (pinning_of (placed_of d b) Sent) else prepares.Load (placed_of d b))) c) (sym (has_channel d fits b k known)) (by k.internal refl)
        where
          by : (q : Bool) → k.internal ≡ q → Settling (at n (if q then prepares.Pin (pinning_of (placed_of d b) Sent) else prepares.Load (placed_of d b))) c
          by true e = pinned_owed e
          by false e = held_owed e

    -- ---- all of them

    four_at_most : length cs ≤ 4
    four_at_most = let f = (fits.jobs number job is_job).few in let count = count_is d fits number job is_job in omega (arith, f, count)

    none_past : (xs : List ℕ) (i : ℕ) → length xs ≤ i → slice_get xs i ≡ None
    none_past [] i le = refl
    none_past (x ∷ xs) zero le = absurd (omega (arith, le))
    none_past (x ∷ xs) (suc i) le = none_past xs i (omega (arith, le))

    next_is : (n m : ℕ) → n + suc m ≡ 4 → from (suc n) ≡ next n
    next_is n m four = whether_as (nat_lt n 3) (λ q. from (suc n) ≡ (if q then from (n + 1) else last))
        (λ e. ap from (omega arith))
        (λ e. ap (λ o. ready_by d number at last (suc n) o) (number_at d number job is_job (suc n) ∙ none_past cs (suc n) (let le = is_past n 3 e in let most = four_at_most in omega (arith, le, most))))

    abbrev All : ℕ → Type 0
    All n = (i b : ℕ) → slice_get cs i ≡ Some b → nat_lt i n ≡ true

    module _ (over : (n : ℕ) (c : Chip) → On n c → All n → Settling last c) where
      -- at this place there is a channel, or none any more
      from_with : (n : ℕ) (c : Chip) → nat_le least n ≡ true → On n c → ((b : ℕ) → slice_get cs n ≡ Some b → (c1 : Chip) → On (suc n) c1 → Settling (next n) c1) → Settling (from n) c
      from_with n c past a onward = settles_from (slice_get cs n) refl
        where
          none_there : (xs : List ℕ) (i n b : ℕ) → n ≤ i → slice_get xs n ≡ None → slice_get xs i ≡ Some b → ⊥
          none_there [] i n b le e f = cc
          none_there (x ∷ xs) i zero b le e f = cc
          none_there (x ∷ xs) zero (suc n) b le e f = omega (arith, le)
          none_there (x ∷ xs) (suc i) (suc n) b le e f = none_there xs i n b (omega (arith, le)) e f

          all_before : slice_get cs n ≡ None → All n
          all_before none i b is = whether (nat_lt i n)
              (λ e. e)
              (λ e. absurd (none_there cs i n b (is_past i n e) none is))

          settles_from : (o : Option ℕ) → slice_get cs n ≡ o → Settling (from n) c
          settles_from None e = subst (λ o. Settling (ready_by d number at last n o) c) (sym (number_at d number job is_job n ∙ e)) (over n c a (all_before e))
          settles_from (Some b) e =
              subst (λ o. Settling (ready_by d number at last n o) c) (sym (number_at d number job is_job n ∙ e))
              (let known = channel_there d fits u few number job is_job b (get_contained cs n b e) in prepared_owed n b known.1 e known.2 past c a (onward b e))

      -- from the channel at this place on
      pub ready_from : (m n : ℕ) → n + m ≡ 4 → nat_le least n ≡ true → (c : Chip) → On n c → Settling (from n) c
      ready_from zero n four past c a = from_with n c past a (λ b e c1 a1. absurd (let lt = slice_get_within cs n b e in let most = four_at_most in omega (arith, lt, most, four)))
      ready_from (suc m) n four past c a = from_with n c past a (λ b e c1 a1. subst (λ x. Settling x c1) (next_is n m four) (ready_from m (suc n) (omega (arith, four)) (later_on least n past) c1 a1))
        where
          later_on : (i n : ℕ) → nat_le i n ≡ true → nat_le i (suc n) ≡ true
          later_on i n e = grind (arith, nat_tests)
