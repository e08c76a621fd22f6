-- A unit begins its next job: the words that stay as they are until then, and the state with the job running.
-- From spi_sequences: words.WordsOfModule, spi_sequences: words.SideWords, spi_sequences: words.FirstParts and 3 more.
-- Used by words.UnitWords, services.StartWords, words.PinnedBanks, sending.services.SendBegun and 6 more.
use Rattle.std.proofs.Common.{◌≡◌, ◌≢◌, ◌+◌, ◌<◌, ◌≤◌, ◌==◌, [], ◌∷◌, ◌∙◌, ◌⊎◌}
use Rattle.spi_laws.specs.starting.Terms
use Terms.{Answer, any_in, ap, arith, as_read, Banks, begun, bit_or, Bool, Call, Channel, channel_at, channel_of}
use Terms.{channels_of, Chip, chip_after, Contains, Debt, entries_of, false, first_items, first_parts, FitsSpi, Going}
use Terms.{HasWords, held_word, inl, inr, is_to_begin, IsWordOf, Job, job_of, job_started, job_words, List, MARKS}
use Terms.{Memory, next_job, None, not_first, not_held, not_of_other, not_order, not_users, of_banks, of_held, of_one}
use Terms.{of_set_up, Option, order_word, Origin, own_held, own_low, packed, packed_run, past_the_first, Pending}
use Terms.{pinning, placed_of, Position, position_word, put_held, Received, Reservation, Reservations, ReservedBy, Run}
use Terms.{running_word, same_number, same_or_other, Sent, SerialData, set_up_by, set_up_or, set_up_word, sides_apart}
use Terms.{slice_get, Some, some_is, SOURCES, SpiRepresents, SpiState, SpiTable, started_bit, starts, STATE, subst, sym}
use Terms.{trio_of, true, uses_channel, view, waiting, with_word, word_of, World, Write, ℕ}
use Rattle.word_shapes.specs.PriorityQueue as ranked
use Rattle.word_shapes.specs.TripleBuffer as trio

-- not of the order that the job leaves, the marks, those of what the unit runs, nor of what is sent and held of one of
-- its channels
abbrev pub IsQuiet : SpiTable → (unit job : ℕ) → ℕ → Type 0
IsQuiet d u j i =
    (ranked.own_of (record { at = order_word u }) i ≡ false) × (i ≢ MARKS) × (i ≢ running_word u) × (i ≢ position_word u)
    × ((b : ℕ) (x : Channel) → Contains (channels_of d j) b → channel_of d b ≡ Some x → (x.internal ≡ true → trio.own_of (trio_of (placed_of d b) Sent) i ≡ false) × (i ≢ held_word (placed_of d b)))

module _ (d : SpiTable) (fits : FitsSpi d) (u : ℕ) (few : u < 2) (j : ℕ) (job : Job) (known : job_of d j ≡ Some job) where
  pub channel_there : (b : ℕ) → Contains (channels_of d j) b → (b < 16) × (x : Channel) × (channel_of d b ≡ Some x)
  channel_there b at = (fits.jobs j job known).there b at

  -- a word past the first ones that is of no channel's that change
  past_quiet : (i : ℕ) → STATE + 64 ≤ i → ((b : ℕ) (x : Channel) → Contains (channels_of d j) b → channel_of d b ≡ Some x → (x.internal ≡ true → trio.own_of (trio_of (placed_of d b) Sent) i ≡ false) × (i ≢ held_word (placed_of d b))) → IsQuiet d u j i
  past_quiet i le apart = (
    not_order u i (λ e. omega (arith, le, e, few)) (λ e. omega (arith, le, e, few)) (λ e. omega (arith, le, e, few)),
    λ e. omega (arith, le, e),
    λ e. omega (arith, le, e, few),
    λ e. omega (arith, le, e, few),
    apart,
  )

  -- of one channel
  other_channel : (c : ℕ) (k : Channel) → channel_of d c ≡ Some k → (i : ℕ) → IsWordOf d c k i → (b : ℕ) (x : Channel) → channel_of d b ≡ Some x → b ≢ c → (x.internal ≡ true → trio.own_of (trio_of (placed_of d b) Sent) i ≡ false) × (i ≢ held_word (placed_of d b))
  other_channel c k e i is b x f ne = (
    λ inner. not_of_other d fits b x f inner Sent c k i (λ g. ne (sym g)) e is,
    λ at. of_one d fits b c x k (held_word (placed_of d b)) i ne f e (of_held d fits b x f) is (sym at),
  )

  -- another word of a channel
  pub quiet_beside : (c : ℕ) (k : Channel) (e : channel_of d c ≡ Some k) (i : ℕ) → IsWordOf d c k i → (k.internal ≡ true → trio.own_of (trio_of (placed_of d c) Sent) i ≡ false) → i ≢ held_word (placed_of d c) → IsQuiet d u j i
  quiet_beside c k e i is sent held = past_quiet i (past_the_first d c k i (fits.channels c k e) is) (λ b x at f. apart_from_each b x f (same_or_other b c))
    where
      apart_from_each : (b : ℕ) (x : Channel) → channel_of d b ≡ Some x → (b ≡ c) ⊎ (b ≢ c) → (x.internal ≡ true → trio.own_of (trio_of (placed_of d b) Sent) i ≡ false) × (i ≢ held_word (placed_of d b))
      apart_from_each b x f (inl same) = (
        λ inner. subst (λ n. trio.own_of (trio_of (placed_of d n) Sent) i ≡ false) (sym same) (sent (ap (λ z. z.internal) (some_is k x (sym e ∙ ap (channel_of d) (sym same) ∙ f)) ∙ inner)),
        subst (λ n. i ≢ held_word (placed_of d n)) (sym same) held,
      )
      apart_from_each b x f (inr ne) = other_channel c k e i is b x f ne

  -- any word of a channel that the job doesn't have
  pub quiet_away : (c : ℕ) (k : Channel) (e : channel_of d c ≡ Some k) → uses_channel d c j ≡ false → (i : ℕ) → IsWordOf d c k i → IsQuiet d u j i
  quiet_away c k e away i is = past_quiet i (past_the_first d c k i (fits.channels c k e) is) (λ b x at f. by b x at f (same_or_other b c))
    where
      by : (b : ℕ) (x : Channel) → Contains (channels_of d j) b → channel_of d b ≡ Some x → (b ≡ c) ⊎ (b ≢ c) → (x.internal ≡ true → trio.own_of (trio_of (placed_of d b) Sent) i ≡ false) × (i ≢ held_word (placed_of d b))
      by b x at f (inl same) = absurd (let g = sym away ∙ ap (λ n. uses_channel d n j) (sym same) ∙ any_in (λ k. k == b) (channels_of d j) b at (same_number b) in cc)
      by b x at f (inr ne) = other_channel c k e i is b x f ne

  -- a channel's set-up
  pub quiet_set_up : (c : ℕ) (k : Channel) (e : channel_of d c ≡ Some k) → IsQuiet d u j (set_up_word (placed_of d c))
  quiet_set_up c k e = quiet_beside c k e (set_up_word (placed_of d c)) (of_set_up d fits c k e) (λ inner. set_up_by (placed_of d c) Sent) (λ f. omega (arith, f))

  -- and the words of what it received
  pub quiet_received : (c : ℕ) (k : Channel) (e : channel_of d c ≡ Some k) (internal : k.internal ≡ true) (i : ℕ) → trio.own_of (trio_of (placed_of d c) Received) i ≡ true → IsQuiet d u j i
  quiet_received c k e internal i own =
      quiet_beside c k e i (of_banks d fits c k e internal Received i own) (λ inner. sides_apart (placed_of d c) Sent i own)
      (λ f. let g = sym own ∙ ap (trio.own_of (trio_of (placed_of d c) Received)) f ∙ not_held d fits c k e internal Received c k e in cc)

  -- the users' arrays
  pub quiet_users : (i : ℕ) → SOURCES ≤ i → IsQuiet d u j i
  quiet_users i le = past_quiet i (omega (arith, le)) (λ b x at f. (λ inner. not_users d fits b x f inner Sent i le, λ e. let low = own_low d fits (held_word (placed_of d b)) (own_held d fits b x f) in omega (arith, low, e, le)))

  -- and the other ones of the first
  pub quiet_first : (i : ℕ) → i < STATE + 64 → ranked.own_of (record { at = order_word u }) i ≡ false → i ≢ MARKS → i ≢ running_word u → i ≢ position_word u → IsQuiet d u j i
  quiet_first i lt order marks running position =
      (order, marks, running, position, λ b x at f. (λ inner. not_first d fits b x f inner Sent i lt, λ e. let past = past_the_first d b x (held_word (placed_of d b)) (fits.channels b x f) (of_held d fits b x f) in omega (arith, past, e, lt)))

-- ---- the state

-- what a frame of this origin holds that owes a unit its start
abbrev pub debt_of : (number : ℕ) → Origin Call → Option Answer → ReservedBy Call Reservation
debt_of u owner acted = record { by = owner; what = Debt u; acted = acted }

-- the place of the first word of a job
abbrev pub first_place : Position
first_place = record { channel = 0; word = 0 }

-- a bank that is sent is pinned while words of its channel are to be begun
abbrev pub sent_by : (to_begin : Bool) → Banks → Banks
sent_by true x = pinning x
sent_by false x = x

-- the banks of what an internal channel sends, without a pin
pub record SentBanks (d : SpiTable) (held : Reservations) (s : SpiState) (b : ℕ) (k : Channel) (x : Banks) : Type 0 where
  pub newest : x.newest ≡ first_items 0 k.length (channel_at s b).written
  pub put : x.put ≡ put_held d (view s).sources b false held
  pub free : x.take ≡ None

-- they stand in the words, pinned or not
abbrev pub SentAt : SpiTable → Reservations → SpiState → ℕ → Channel → Memory → (pinned : Bool) → Type 0
SentAt d held s b k m q = (x : Banks) × SentBanks d held s b k x × trio.Stands (trio_of (placed_of d b) Sent) m (sent_by q x)

module _ (d : SpiTable) (below : Reservations) (owner : Origin Call) (acted : Option Answer) (chip : Chip) (w : World) (s : SpiState) (u : ℕ) (h : SpiRepresents d (debt_of u owner acted ∷ below) chip w s) (p : Pending) (word received : ℕ) where
  abbrev pub job : ℕ
  job = next_job d p

  abbrev pub channels : List ℕ
  channels = channels_of d job

  -- the chip as its first word begins
  abbrev pub first_chip : Chip
  first_chip = chip_after chip (Write (SerialData u) word) received

  -- what the unit does then
  abbrev pub first_run : Run
  first_run = begun w.now received p.sequence (job_words d s job) []

  abbrev pub ran_state : SpiState
  ran_state = with_word (job_started d s p) u received first_run

  abbrev pub first_going : Going
  first_going = record { pending = starts p; parts = first_parts d s channels; at = first_place; received = [] }

  -- the words on the way there: these places of the job have their banks pinned, by the lengths of their channels, and
  -- at these the set-up is held
  pub record Along (pinned : (place length : ℕ) → Bool) (ready : ℕ → Bool) (c : Chip) : Type 0 where
    pub rest : c ≡ record first_chip { words = c.words }
    pub whole : HasWords c
    pub quiet : (i : ℕ) → IsQuiet d u job i → word_of c i ≡ word_of chip i
    pub order : ranked.Holds (record { at = order_word u }) (word_of c) (waiting p.sequence false (entries_of d (view s) u))
    pub marks : word_of c MARKS ≡ bit_or (word_of chip MARKS) (started_bit p.sequence)
    pub sends : (n b : ℕ) (k : Channel) → slice_get channels n ≡ Some b → channel_of d b ≡ Some k → k.internal ≡ true → SentAt d (debt_of u owner acted ∷ below) s b k (word_of c) (pinned n k.length)
    pub holds : (n b : ℕ) (k : Channel) → slice_get channels n ≡ Some b → channel_of d b ≡ Some k → k.internal ≡ false → ready n ≡ true → word_of c (held_word (placed_of d b)) ≡ packed (as_read (set_up_or k (channel_at s b).set_up))

  -- the words after the last move of the window
  pub record Ran (c : Chip) : Type 0 where
    pub along : Along (is_to_begin first_place) (λ n. true) c
    pub running : word_of c (running_word u) ≡ packed_run (record { job = job; sequence = p.sequence })
    pub position : word_of c (position_word u) ≡ 0
