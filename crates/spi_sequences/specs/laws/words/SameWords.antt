-- Words that are as they were stand for the same.
-- From words.WordsOfModule, words.NumbersApart, words.Cases.
-- Used by words.SideWords, spi_laws: sending.services.SendGoesOn, bookkeeping.MarkedState and 24 more.
use Rattle.std.proofs.Common.{◌≡◌, ◌≢◌, ◌+◌, ◌<◌, ◌≤◌, [], ◌∷◌, ◌++◌, ◌∙◌, if◌then◌else◌}
use Rattle.spi_sequences.specs.Terms
use Terms.{AllRight, AllSend, ap, arith, BanksAgree, Bool, Call, cancelled_bit, carried_at, Channel, channel_of}
use Terms.{channels_of, ChannelState, Chip, Contains, Contains-get_or, entries_begun, entries_of, Entry, false}
use Terms.{first_items, FitsSpi, Going, GoingAgrees, has_done, has_mark, held_word, HeldRight, holds-agree, is_ahead}
use Terms.{is_for, is_off, is_on_unit, is_own_word, is_sync_unit, IsReady, IsSoundState, Job, job_of, job_word, jobs_by}
use Terms.{jobs_of, KnowsEnd, length, length_by, List, map, MARKS, Memory, Mode, nat_le, nat_tests, next_in, next_job}
use Terms.{NEXTS, None, Option, order_word, Part, PartBy, Pending, Placed, placed_of, Position, position_word, prepares}
use Terms.{put_held, PutRight, Putting, readied_in, Received, refl, Reservation, Reservations, ReservedBy, Run}
use Terms.{run_carried, RunAgrees, running_word, RunsBy, RunsNext, same_Some, Sending, SendingRight, Sent, sequence_of}
use Terms.{sequence_word, SequencesAgree, Side, slice_get, slice_index_or, Some, some_or_none, source_word, SpiState}
use Terms.{SpiTable, stands-agree, started_bit, STATE, subst, suc, sym, take_held, TakeRight, Taking, to_write, trio_of}
use Terms.{true, unit_at, untouched, View, word_of, WordsAgree, World, Writing, zero, ℕ}
use Rattle.spi_sequences.specs.laws.words.{NumbersApart.{from_order, to_order}, WordsOfModule.{has_channel, own_banks}}
use Rattle.spi_sequences.specs.laws.words.WordsOfModule.{own_first, own_held}
use Rattle.word_shapes.specs.PriorityQueue as ranked
use Rattle.word_shapes.specs.TripleBuffer as trio

-- ---- what a job under way is of

pub contains_map : {A B : Type 0} (f : A → B) (xs : List A) (n : ℕ) (x : A) → slice_get xs n ≡ Some x → Contains (map f xs) (f x)
contains_map f [] n x e = absurd (cc)
contains_map f (y ∷ ys) zero x e = (0, omega arith, ap f (same_Some y x e))
contains_map f (y ∷ ys) (suc n) x e = let r = contains_map f ys n x e in (suc r.0, let lt = r.1 in omega (arith, lt), r.2)

-- the next job of a pending sequence for a unit is there
pub job_there : (d : SpiTable) (u : ℕ) (p : Pending) → is_for d u p ≡ true → (k : Job) × (job_of d (next_job d p) ≡ Some k)
job_there d u p e = some_or_none (job_of d (next_job d p))
    (λ k i. (k, i))
    (λ i. absurd (let f = sym e ∙ ap (is_on_unit u) i in cc))

-- its channels are configured
pub part_there : (d : SpiTable) → FitsSpi d → (u : ℕ) (g : Going) (n : ℕ) (x : Part) → is_for d u g.pending ≡ true → map (λ y. y.channel) g.parts ≡ channels_of d (next_job d g.pending) → slice_get g.parts n ≡ Some x → (x.channel < 16) × (k : Channel) × (channel_of d x.channel ≡ Some k)
part_there d fits u g n x for at e =
    let job = job_there d u g.pending for in
    (fits.jobs (next_job d g.pending) job.0 job.1).there x.channel (subst (λ cs. Contains cs x.channel) at (contains_map (λ y. y.channel) g.parts n x e))

-- a job of a sequence is one of sixteen
pub job_small : (d : SpiTable) → FitsSpi d → (q i : ℕ) → i < length (jobs_of d q) → slice_index_or (jobs_of d q) i 0 < 16
job_small d fits q i lt = some_or_none (sequence_of d q)
    (λ k e. ((fits.sequences q k e).there (slice_index_or (jobs_of d q) i 0) (Contains-get_or (jobs_of d q) i 0 lt)).0)
    (λ e. absurd (let none = ap (λ k. length (jobs_by k)) e in omega (arith, none, lt)))

-- a place of a configured channel is one of its arrays
pub part_place : (d : SpiTable) → FitsSpi d → (c i : ℕ) (k : Channel) → channel_of d c ≡ Some k → i < (placed_of d c).channel.length → i < length_by (channel_of d c)
part_place d fits c i k e lt = subst (λ o. i < length_by o) (sym e) (subst (λ x. i < x.length) (has_channel d fits c k e) lt)

-- ---- the words

-- a job under way looks at its unit's words, at what is held of its external channels and at their sources
module _ (d : SpiTable) (fits : FitsSpi d) (u : ℕ) (m m1 : Memory) (g : Going) (for : is_for d u g.pending ≡ true)
    (held_same : (n : ℕ) (x : Part) (k : Channel) → slice_get g.parts n ≡ Some x → channel_of d x.channel ≡ Some k → k.internal ≡ false → m1 (held_word (placed_of d x.channel)) ≡ m (held_word (placed_of d x.channel)))
    (sources : (n : ℕ) (x : Part) (k : Channel) (i : ℕ) → slice_get g.parts n ≡ Some x → channel_of d x.channel ≡ Some k → i < length_by (channel_of d x.channel) → m1 (source_word (placed_of d x.channel) i) ≡ m (source_word (placed_of d x.channel) i)) where
  -- a part of it, also once the job has gone on to a place with no more ahead
  pub part_words : (p : Position) (n : ℕ) (x : Part) → ((i : ℕ) → is_ahead p n i ≡ true → is_ahead g.at n i ≡ true) → map (λ y. y.channel) g.parts ≡ channels_of d (next_job d g.pending) → slice_get g.parts n ≡ Some x
      → (q : Bool) → (placed_of d x.channel).channel.internal ≡ q → PartBy q m (placed_of d x.channel) g.at n x → PartBy q m1 (placed_of d x.channel) p n x
  part_words p n x still at e true inside h = h
  part_words p n x still at e false outside h =
      record {
        by = h.by;
        held = held_same n x there.1 e there.2 (ap (λ (z : Channel). z.internal) (sym (has_channel d fits x.channel there.1 there.2)) ∙ outside) ∙ h.held;
        count = h.count;
        few = h.few;
        goes = h.goes;
        ahead = λ i below later. h.ahead i below (still i later) ∙ from h.by.source i (let few = h.few in omega (arith, below, few));
      }
    where
      there : (x.channel < 16) × (k : Channel) × (channel_of d x.channel ≡ Some k)
      there = part_there d fits u g n x for at e

      from : (q : Bool) (i : ℕ) → i < (placed_of d x.channel).channel.length → (if q then m (source_word (placed_of d x.channel) i) else (placed_of d x.channel).channel.default_data) ≡ (if q then m1 (source_word (placed_of d x.channel) i) else (placed_of d x.channel).channel.default_data)
      from true i few = sym (sources n x there.1 i e there.2 (part_place d fits x.channel i there.1 there.2 few))
      from false i few = refl

  pub going_words : m1 (running_word u) ≡ m (running_word u) → m1 (position_word u) ≡ m (position_word u) → GoingAgrees d m u g → GoingAgrees d m1 u g
  going_words running_same position_same h = record {
    channels = h.channels;
    running = running_same ∙ h.running;
    position = position_same ∙ h.position;
    place = h.place;
    inside = h.inside;
    count = h.count;
    parts = λ n x i. ((h.parts n x i).0, part_words g.at n x (λ j later. later) h.channels i (placed_of d x.channel).channel.internal refl (h.parts n x i).1);
  }

pub put_words : (going : ℕ → Option Going) (m m1 : Memory) (x : Placed) (held put : Option Putting) → m1 (held_word x) ≡ m (held_word x) → PutRight going m x held put → PutRight going m1 x held put
put_words going m m1 x None (Some p) same h = (h.0, h.1, h.2, same ∙ h.3)
put_words going m m1 x _ _ same h = h

-- the banks of a channel look at their own words, at what is held of it, and at what it sends and has received
pub banks_as : (d : SpiTable) (held held1 : Reservations) (going going1 : ℕ → Option Going) (m m1 : Memory) (v v1 : View) (c : ℕ) (k : Channel) → ((side : Side) (j : ℕ) → trio.own_of (trio_of (placed_of d c) side) j ≡ true → m1 j ≡ m j)
    → ((o : Option Taking) → TakeRight going c o → TakeRight going1 c o) → ((a o : Option Putting) → PutRight going m (placed_of d c) a o → PutRight going1 m1 (placed_of d c) a o)
    → v1.written c ≡ v.written c → v1.received c ≡ v.received c → ((r : Bool) → put_held d v1.sources c r held1 ≡ put_held d v.sources c r held) → take_held c held1 ≡ take_held c held
    → prepares held1 ≡ prepares held → readied_in held1 ≡ readied_in held → BanksAgree d held going m v c k → BanksAgree d held1 going1 m1 v1 c k
banks_as d held held1 going going1 m m1 v v1 c k same pins kept written received puts takes preparing readied h = record {
  sent = h.sent;
  sends = stands-agree (trio_of (placed_of d c) Sent) m m1 h.sent (λ j is. sym (same Sent j is)) h.sends;
  written = λ none. h.written (sym preparing ∙ none) ∙ ap (λ xs. first_items 0 k.length xs) (sym written);
  readied_sent = λ is. h.readied_sent (subst (λ xs. Contains xs (c, false)) readied is);
  pinned = pins h.sent.take h.pinned;
  writes = h.writes ∙ sym (puts false);
  received = h.received;
  receives = stands-agree (trio_of (placed_of d c) Received) m m1 h.received (λ j is. sym (same Received j is)) h.receives;
  readable = λ none. h.readable (sym preparing ∙ none) ∙ ap (λ xs. first_items 0 k.length xs) (sym received);
  readied_received = λ is. h.readied_received (subst (λ xs. Contains xs (c, true)) readied is);
  reads = h.reads ∙ sym takes;
  keeps = subst (λ o. PutRight going1 m1 (placed_of d c) o h.received.put) (sym (puts true)) (kept (put_held d v.sources c true held) h.received.put h.keeps);
}

pub banks_words : (d : SpiTable) → FitsSpi d → (held : Reservations) (going : ℕ → Option Going) (m m1 : Memory) (v : View) (c : ℕ) (k : Channel) → channel_of d c ≡ Some k → m1 (held_word (placed_of d c)) ≡ m (held_word (placed_of d c))
    → ((side : Side) (j : ℕ) → trio.own_of (trio_of (placed_of d c) side) j ≡ true → m1 j ≡ m j) → BanksAgree d held going m v c k → BanksAgree d held going m1 v c k
banks_words d fits held going m m1 v c k e held_same same h = banks_as d held held going going m m1 v v c k same (λ o t. t) (λ a o t. put_words going m m1 (placed_of d c) a o held_same t) refl refl (λ r. refl) refl refl refl h

-- an order is as it was where its three words are
pub order_stays : (m m1 : Memory) (xs : List Entry) (u : ℕ) → ((j : ℕ) → order_word u ≤ j → j ≤ order_word u + 2 → m1 j ≡ m j) → ranked.Holds (record { at = order_word u }) m xs → ranked.Holds (record { at = order_word u }) m1 xs
order_stays m m1 xs u same = holds-agree (record { at = order_word u }) m m1 xs (λ j own. sym (same j (from_order u j own) (to_order u j own)))

-- a word of sequences and jobs is none of what the units run
abbrev pub Aside : ℕ → Type 0
Aside k = (u : ℕ) → u < 2 → (k ≢ running_word u) × (k ≢ position_word u)

-- sequences and jobs are as they were where their words are
pub sequences_stay : (d : SpiTable) → FitsSpi d → (m m1 : Memory) (v : View) → ((k : ℕ) → STATE < k → k < STATE + 64 → Aside k → m1 k ≡ m k) → SequencesAgree d m v → SequencesAgree d m1 v
sequences_stay d fits m m1 v same h =
    let nexts : m1 NEXTS ≡ m NEXTS = same NEXTS (omega arith) (omega arith) (λ u few. (λ e. omega (arith, e), λ e. omega (arith, e))) in
    let marks : m1 MARKS ≡ m MARKS = same MARKS (omega arith) (omega arith) (λ u few. (λ e. omega (arith, e), λ e. omega (arith, e))) in
    record {
      sequences = λ q lt. same (sequence_word q) (omega arith) (omega (arith, lt)) (λ u few. (λ e. omega (arith, e, few), λ e. omega (arith, e, few))) ∙ h.sequences q lt;
      pending = λ p there. let was = h.pending p there in record { next = ap (λ n. next_in n p.sequence) nexts ∙ was.next; started = ap (λ n. has_mark n (started_bit p.sequence)) marks ∙ was.started; cancelled = ap (λ n. has_mark n (cancelled_bit p.sequence)) marks ∙ was.cancelled };
      begun = λ u p e. ap (λ n. next_in n p.sequence) nexts ∙ h.begun u p e;
      had = λ p i there le lt. job_same (slice_index_or (jobs_of d p.sequence) i 0) (job_small d fits p.sequence i lt) ∙ h.had p i there le lt;
      jobs = λ j lt none. job_same j lt ∙ h.jobs j lt none;
      orders = λ n lt. order_stays m m1 (entries_of d v n) n (λ j low high. same j (omega (arith, low)) (omega (arith, high, lt)) (λ u few. (λ e. omega (arith, e, low, high, lt, few), λ e. omega (arith, e, low, high, lt, few)))) (h.orders n lt);
    }
  where
    job_same : (j : ℕ) → j < 16 → m1 (job_word j) ≡ m (job_word j)
    job_same j lt = same (job_word j) (omega arith) (omega (arith, lt)) (λ u few. (λ e. omega (arith, e, few), λ e. omega (arith, e, few)))

-- the first words are as they were, and those that running jobs hold
module _ (d : SpiTable) (fits : FitsSpi d) (going : ℕ → Option Going) (m m1 : Memory) (v : View)
    (first_same : (k : ℕ) → STATE < k → k < STATE + 64 → m1 k ≡ m k)
    (held_same : (c : ℕ) (k : Channel) → channel_of d c ≡ Some k → m1 (held_word (placed_of d c)) ≡ m (held_word (placed_of d c)))
    (sources : (u : ℕ) (g : Going) (n : ℕ) (x : Part) (k : Channel) (i : ℕ) → u < 2 → going u ≡ Some g → slice_get g.parts n ≡ Some x → channel_of d x.channel ≡ Some k → i < length_by (channel_of d x.channel) → m1 (source_word (placed_of d x.channel) i) ≡ m (source_word (placed_of d x.channel) i))
    (nexts : (u : ℕ) → u < 2 → RunsNext d v u (going u)) where
  pub sequences_alike : SequencesAgree d m v → SequencesAgree d m1 v
  sequences_alike = sequences_stay d fits m m1 v (λ k low high aside. first_same k low high)

  pub run_alike : (u : ℕ) → u < 2 → (q : Option Going) → going u ≡ q → RunsNext d v u q → RunAgrees d m u q → RunAgrees d m1 u q
  run_alike u lt None e next h = first_same _ (omega arith) (omega (arith, lt)) ∙ h
  run_alike u lt (Some g) e next h = going_words d fits u m m1 g next.2 (λ n x k at known outside. held_same x.channel k known) (λ n x k i at there few. sources u g n x k i lt e at there few) (first_same _ (omega arith) (omega (arith, lt))) (first_same _ (omega arith) (omega (arith, lt))) h

  -- and the banks of a channel
  pub banks_alike : (held : Reservations) (c : ℕ) (k : Channel) → channel_of d c ≡ Some k → ((side : Side) (j : ℕ) → trio.own_of (trio_of (placed_of d c) side) j ≡ true → m1 j ≡ m j) → BanksAgree d held going m v c k → BanksAgree d held going m1 v c k
  banks_alike held c k e same h = banks_words d fits held going m m1 v c k e (held_same c k e) same h

-- all of the module's words are as they were
module _ (d : SpiTable) (fits : FitsSpi d) (going : ℕ → Option Going) (m m1 : Memory) (v : View)
    (own : (k : ℕ) → is_own_word d k ≡ true → m1 k ≡ m k)
    (sources : (u : ℕ) (g : Going) (n : ℕ) (x : Part) (k : Channel) (i : ℕ) → u < 2 → going u ≡ Some g → slice_get g.parts n ≡ Some x → channel_of d x.channel ≡ Some k → i < length_by (channel_of d x.channel) → m1 (source_word (placed_of d x.channel) i) ≡ m (source_word (placed_of d x.channel) i))
    (nexts : (u : ℕ) → u < 2 → RunsNext d v u (going u)) where
  first_own : (k : ℕ) → STATE ≤ k → k < STATE + 64 → m1 k ≡ m k
  first_own k low high = own k (own_first d k low high)

  after_state : (k : ℕ) → STATE < k → k < STATE + 64 → m1 k ≡ m k
  after_state k low high = first_own k (omega (arith, low)) high

  held_own : (c : ℕ) (k : Channel) → channel_of d c ≡ Some k → m1 (held_word (placed_of d c)) ≡ m (held_word (placed_of d c))
  held_own c k e = own _ (own_held d fits c k e)

  pub words_alike : (held : Reservations) → WordsAgree d held going m v → WordsAgree d held going m1 v
  words_alike held h = record {
    state = first_own STATE (omega arith) (omega arith) ∙ h.state;
    on = λ on. let was = h.on on in record {
      sequences = sequences_alike d fits going m m1 v after_state held_own sources nexts was.sequences;
      runs = λ u lt. run_alike d fits going m m1 v after_state held_own sources nexts u lt (going u) refl (nexts u lt) (was.runs u lt);
    };
    banks = λ c k e internal. banks_alike d fits going m m1 v after_state held_own sources nexts held c k e (λ side j is. own j (own_banks d fits c k e internal side j is)) (h.banks c k e internal);
    stored = λ k n is. let one = h.stored k n is in (one.0, own k one.0 ∙ one.1);
  }

-- ---- what stays of the agreement where the state changes elsewhere

-- a state in another mode, and with other words in its channels
abbrev pub viewed_as : View → Mode → (written received sources : ℕ → List ℕ) → View
viewed_as v mode written received sources = record v { mode = mode; written = written; received = received; sources = sources }

module _ (d : SpiTable) (v : View) (mode : Mode) (written received sources : ℕ → List ℕ) where
  abbrev other : View
  other = viewed_as v mode written received sources

  -- it is sound as it was
  pub sound_as : (is_off mode ≡ true → (v.pending ≡ []) × ((u : ℕ) → v.idle u ≡ true)) → (is_off mode ≡ true → (u : ℕ) → v.begun u ≡ None) → IsSoundState d v → IsSoundState d other
  sound_as off none h = record {
    entries = λ p there. let x = h.entries p there in record { number = x.number; next = x.next; had = x.had; last = x.last; cancelled = x.cancelled };
    apart = h.apart;
    requests = h.requests;
    results = record { queued = h.results.queued; last = h.results.last; named = h.results.named; sequences = h.results.sequences };
    carries = record { unit = h.carries.unit; asked = h.carries.asked; idle = h.carries.idle; queued = h.carries.queued; off = none };
    few = h.few;
    off = off;
  }

  -- and so do the words of its sequences
  pub sequences_as : (m : Memory) → SequencesAgree d m v → SequencesAgree d m other
  sequences_as m h = record { sequences = h.sequences; pending = h.pending; begun = h.begun; had = h.had; jobs = h.jobs; orders = h.orders }

-- what runs looks at what is under way alone
pub next_view : (d : SpiTable) (v v1 : View) (u : ℕ) (g : Option Going) → v.pending ≡ v1.pending → v.begun ≡ v1.begun → RunsNext d v u g → RunsNext d v1 u g
next_view d v v1 u None e f h = tt
next_view d v v1 u (Some g) e f h = (
  subst (λ b. Contains (v1.pending ++ (entries_begun (b 0) ++ entries_begun (b 1))) g.pending) f (subst (λ ps. Contains (ps ++ (entries_begun (v.begun 0) ++ entries_begun (v.begun 1))) g.pending) e h.0),
  runs (is_sync_unit d u) h.1,
  h.2,
)
  where
    runs : (b : Bool) → RunsBy b v u g.pending → RunsBy b v1 u g.pending
    runs true r = subst (λ b. b u ≡ Some g.pending) f r
    runs false r = (subst (λ ps. Contains ps g.pending) e r.0, r.1)

-- the banks of a channel look at its own words alone
pub banks_view : (d : SpiTable) (held : Reservations) (going : ℕ → Option Going) (m : Memory) (v v1 : View) (c : ℕ) (k : Channel) → v1.written c ≡ v.written c → v1.received c ≡ v.received c → ((r : Bool) → put_held d v1.sources c r held ≡ put_held d v.sources c r held)
    → BanksAgree d held going m v c k → BanksAgree d held going m v1 c k
banks_view d held going m v v1 c k written received puts h = banks_as d held held going going m m v v1 c k (λ side j is. refl) (λ o t. t) (λ a o t. t) written received puts refl refl refl h

-- what is held is right where the users' sources are what they were
pub right_as : (d : SpiTable) (mode : Mode) (cs later : List ChannelState) → ((c : ℕ) → (slice_index_or later c untouched).source ≡ (slice_index_or cs c untouched).source) → (hs : Reservations) → AllRight d mode cs hs → AllRight d mode later hs
right_as d mode cs later like [] r = tt
right_as d mode cs later like (x ∷ xs) r = (one x x.what r.0, right_as d mode cs later like xs r.1)
  where
    one : (x : ReservedBy Call Reservation) (y : Reservation) → HeldRight d mode cs x y → HeldRight d mode later x y
    one x (Writing c p b i y) r = (r.0, subst (λ xs. IsReady (to_write (channel_of d c) p xs) i y) (sym (like c)) r.1, r.2, r.3)
    one x _ r = r

-- ---- What units carry out for calls, and what the frames that wait hold of it, stays where their words and registers do.

-- a word that is done is so later
pub end_later : (now later : ℕ) → now ≤ later → (r : Option Run) (o : Option Bool) → KnowsEnd now r o → KnowsEnd later r o
end_later now later le r None h = tt
end_later now later le r (Some failed) h = (done r h.0, h.1)
  where
    over : (began : ℕ) → nat_le (began + 8) now ≡ true → nat_le (began + 8) later ≡ true
    over began e = grind (arith, nat_tests)

    done : (r : Option Run) → has_done now r ≡ true → has_done later r ≡ true
    done None e = e
    done (Some x) e = over x.transfer.began e

-- the frames that wait look at the runs of their units, at what these have selected, and at the banks that their jobs
-- hold
pub sends_as : (d : SpiTable) (chip chip1 : Chip) (w w1 : World) (going going1 : ℕ → Option Going) (s s1 : SpiState) → ((u : ℕ) (g : Going) → u < 2 → is_sync_unit d u ≡ true → going u ≡ Some g → going1 u ≡ going u) → ((u : ℕ) (g : Going) → u < 2 → is_sync_unit d u ≡ true → going u ≡ Some g → (unit_at chip1.serials u).select ≡ (unit_at chip.serials u).select)
    → ((u : ℕ) (g : Going) (n : ℕ) (x : Part) (k : Channel) → u < 2 → is_sync_unit d u ≡ true → going u ≡ Some g → slice_get g.parts n ≡ Some x → channel_of d x.channel ≡ Some k → word_of chip1 (held_word (placed_of d x.channel)) ≡ word_of chip (held_word (placed_of d x.channel)))
    → ((u : ℕ) (o : Option Bool) → KnowsEnd w.now (run_carried (carried_at s u)) o → KnowsEnd w1.now (run_carried (carried_at s1 u)) o) → (hs : Reservations) → AllSend d chip w going s hs → AllSend d chip1 w1 going1 s1 hs
sends_as d chip chip1 w w1 going going1 s s1 same selects banks ends [] r = tt
sends_as d chip chip1 w w1 going going1 s s1 same selects banks ends (x ∷ xs) r = (one x.what r.0, sends_as d chip chip1 w w1 going going1 s s1 same selects banks ends xs r.1)
  where
    one : (y : Reservation) → SendingRight d chip w going s y → SendingRight d chip1 w1 going1 s1 y
    one (Sending u q n at bs failed device) r = record {
      few = r.few;
      sync = r.sync;
      job = r.job;
      is = same u r.job r.few r.sync r.is ∙ r.is;
      sequence = r.sequence;
      next = r.next;
      place = r.place;
      select = selects u r.job r.few r.sync r.is ∙ r.select;
      kept = λ i x k there known internal some. banks u r.job i x k r.few r.sync r.is there known ∙ r.kept i x k there known internal some;
      end = ends u failed r.end;
    }
    one _ r = tt
