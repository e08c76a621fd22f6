-- A job has begun, whichever frame begins it: its first channel is there, the banks of its channels are pinned, and the words of what
-- the units run.
-- From bookkeeping.RanState, spi_sequences: words.FirstParts, spi_sequences: words.JobPlaces and 11 more.
-- Used by sending.services.SendBegun, services.StartRight, words.UnitWords, services.StartWords and 3 more.
use Rattle.std.proofs.Common.{◌≡◌, ◌≢◌, ◌+◌, ◌*◌, ◌<◌, ◌≤◌, ◌==◌, [], ◌∷◌, ◌∙◌, ◌⊎◌, if◌then◌else◌}
use Rattle.spi_laws.specs.starting.Terms
use Terms.{any_in, any_some, ap, arith, as_read, at_contained, Banks, BanksAgree, best, best_in, Bool, cases, Channel}
use Terms.{channel_at, channel_at_place, channel_number, channel_of, channels_are, channels_by, channels_of, Contains}
use Terms.{contains_map, false, filter, filter_back, filter_keeps, first_items, FitsSpi, get_back, get_contained, Going}
use Terms.{going_words, GoingAgrees, has_channel, HasPart, held_word, inl, inr, is_for, is_number, is_on_unit}
use Terms.{is_to_begin, IsFirst, Job, job_of, job_there, KeepsNone, length, length-map, length-take-le, List, list_by}
use Terms.{list_of, map_get, Memory, nat_tests, next_job, next_on, NEXTS, None, none_in, none_readied, not_order}
use Terms.{not_true, of_banks, of_held, Option, other_number, packed, packed_run, Part, part_at, part_by, part_for}
use Terms.{PartAgrees, PartBy, past_the_first, Pending, pinning, Pins, PinsNone, Placed, placed_by, placed_of}
use Terms.{position_word, prepares, put_held, PutRight, Putting, readied_in, Received, refl, RunAgrees, running_word}
use Terms.{same_number, same_or_other, same_Some, Sent, set_up_or, slice_get, Some, source_word, SpiState, SpiTable}
use Terms.{stands-agree, STATE, subst, sym, taken_of, TakeRight, Taking, ToChannel, trio_of, true, uses_channel, view}
use Terms.{whether, ℕ}
use Rattle.spi_laws.specs.starting.laws.bookkeeping.RanState.{channel_there, first_place, IsQuiet, quiet_away, quiet_first}
use Rattle.spi_laws.specs.starting.laws.{bookkeeping.RanState.{quiet_received, quiet_users, SentAt}, ToBegin.{begun_going}}
use Rattle.spi_laws.specs.starting.laws.ToBegin.{going_begun, ToBegin}
use Rattle.spi_sequences.specs.Refinement.{Keeps}
use Rattle.word_shapes.specs.TripleBuffer as trio

-- the next sequence of a unit is pending, and for it
pub next_there : (d : SpiTable) (u : ℕ) (ps : List Pending) (p : Pending) → next_on d u ps ≡ Some p → Contains ps p × (is_for d u p ≡ true)
next_there d u ps p e = filter_back (is_for d u) ps p (best_in d (filter (is_for d u) ps) p e)

-- where there is none, none is for it
pub none_for : (d : SpiTable) (u : ℕ) (ps : List Pending) (q : Pending) → next_on d u ps ≡ None → Contains ps q → is_for d u q ≡ true → ⊥
none_for d u ps q e there for = by (filter (is_for d u) ps) e (filter_keeps (is_for d u) ps q there for)
  where
    by : (xs : List Pending) → best d xs ≡ None → Contains xs q → ⊥
    by [] f is = let lt = is.1 in omega (arith, lt)
    by (x ∷ xs) f is = cc

-- ---- the channels that a frame reads of the table are the job's

pub count_is : (d : SpiTable) → FitsSpi d → (j : ℕ) (job : Job) → job_of d j ≡ Some job → length (channels_of d j) ≡ job.channels.count
count_is d fits j job known =
    let f = fits.jobs j job known in
    let few = f.few in
    let row = f.row in
    ap (λ o. length (channels_by o)) known ∙ length-take-le job.channels.count job.channels.numbers (omega (arith, few, row))

pub number_at : (d : SpiTable) (j : ℕ) (job : Job) → job_of d j ≡ Some job → (i : ℕ) → channel_number (list_of d j) i ≡ slice_get (channels_of d j) i
number_at d j job known i = ap (λ o. channel_number (list_by o) i) known ∙ sym (ap (λ o. slice_get (channels_by o) i) known)

pub some_channels : (d : SpiTable) → FitsSpi d → (j : ℕ) (job : Job) → job_of d j ≡ Some job → 0 < length (channels_of d j)
some_channels d fits j job known = subst (λ n. 0 < n) (sym (count_is d fits j job known)) (fits.jobs j job known).some

-- the first one
pub first_there : (d : SpiTable) → FitsSpi d → (u : ℕ) (p : Pending) → is_for d u p ≡ true → (b : ℕ) × (k : Channel) × IsFirst d p b k
first_there d fits u p for = first_in_list (channels_of d (next_job d p)) refl (some_channels d fits (next_job d p) job.0 job.1)
  where
    job : (k : Job) × (job_of d (next_job d p) ≡ Some k)
    job = job_there d u p for

    first_in_list : (xs : List ℕ) → channels_of d (next_job d p) ≡ xs → 0 < length xs → (b : ℕ) × (k : Channel) × IsFirst d p b k
    first_in_list [] e lt = absurd (omega (arith, lt))
    first_in_list (x ∷ xs) e lt =
        let at : slice_get (channels_of d (next_job d p)) 0 ≡ Some x = ap (λ ys. slice_get ys 0) e in
        let known = (fits.jobs (next_job d p) job.0 job.1).there x (get_contained (channels_of d (next_job d p)) 0 x at) in
        (x, known.1, record { at = at; known = known.2 })

pub first_placed : (d : SpiTable) (u : ℕ) (p : Pending) → is_for d u p ≡ true → (b : ℕ) → slice_get (channels_of d (next_job d p)) 0 ≡ Some b → channel_at_place d (next_job d p) 0 ≡ placed_of d b
first_placed d u p for b at = let job = job_there d u p for in ap (placed_by d) (number_at d (next_job d p) job.0 job.1 0 ∙ at)

-- ---- the banks

whole_first : (xs : List ℕ) → first_items 0 (length xs) xs ≡ xs
whole_first [] = refl
whole_first (x ∷ xs) = ap (λ ys. x ∷ ys) (whole_first xs)

pub channel_is : (d : SpiTable) (s : SpiState) (b : ℕ) → (part_at d s b).channel ≡ b
channel_is d s b = same_Some (part_at d s b).channel b (ap head (channels_are d s (b ∷ [])))
  where
    head : List ℕ → Option ℕ
    head [] = None
    head (x ∷ xs) = Some x

-- what a part of what a channel sends is, for an internal channel
pub internal_values : (d : SpiTable) (s : SpiState) (b : ℕ) (k : Channel) → channel_of d b ≡ Some k → k.internal ≡ true → part_at d s b ≡ record { channel = b; values = (channel_at s b).written; goes = ToChannel }
internal_values d s b k known internal = ap (λ o. part_by b o (channel_at s b)) known ∙ ap (part_for b k (channel_at s b)) internal

-- ---- which unit runs a channel's job

module _ (t : ToBegin) where
  open t use {d, fits, held, s, right, on, u, few, p, for, going, free, theirs, words, runs, some, inner, outer, banks, written}

  pub the_job : (k : Job) × (job_of d (next_job d p) ≡ Some k)
  the_job = job_there d u p for

  pub not_here : (n : ℕ) (g : Going) → going n ≡ Some g → n ≢ u
  not_here n g e same = let none : None ≡ Some g = sym free ∙ ap going (sym same) ∙ e in cc

  uses_part : (n : ℕ) (g : Going) (b : ℕ) (m : ℕ) (x : Part) → n < 2 → going n ≡ Some g → HasPart (Some g) b m x → uses_channel d b (next_job d g.pending) ≡ true
  uses_part n g b m x lt e (at, same) =
      let represents = subst (λ o. RunAgrees d words n o) e (runs n lt (not_here n g e)) in
      subst (λ c. uses_channel d c (next_job d g.pending) ≡ true) same
      (any_in (λ c. c == x.channel) (channels_of d (next_job d g.pending)) x.channel (subst (λ cs. Contains cs x.channel) represents.channels (contains_map (λ y. y.channel) g.parts m x at)) (same_number x.channel))

  -- while the unit is between jobs none runs a job with a channel of its job
  pub none_runs : (b : ℕ) → uses_channel d b (next_job d p) ≡ true → (n : ℕ) (g : Going) (m : ℕ) (x : Part) → n < 2 → going n ≡ Some g → HasPart (Some g) b m x → ⊥
  none_runs b uses n g m x lt e has =
      let other = job_there d n g.pending (theirs n g lt e) in
      let unit : other.0.unit ≡ the_job.0.unit = fits.shared b (next_job d g.pending) (next_job d p) other.0 the_job.0 (uses_part n g b m x lt e has) uses other.1 the_job.1 in
      let mine : the_job.0.unit ≡ u = is_number the_job.0.unit u (sym (ap (is_on_unit u) the_job.1) ∙ for) in
      let its : other.0.unit ≡ n = is_number other.0.unit n (sym (ap (is_on_unit n) other.1) ∙ theirs n g lt e) in
      not_here n g e (sym its ∙ unit ∙ mine)

  -- its channels have no pin yet
  pub none_pinned : (b : ℕ) (k : Channel) (known : channel_of d b ≡ Some k) (internal : k.internal ≡ true) → uses_channel d b (next_job d p) ≡ true → (banks b k known internal).sent.take ≡ None
  none_pinned b k known internal uses = by (banks b k known internal).sent.take refl (banks b k known internal).pinned
    where
      pins : (n : ℕ) (xs : List ℕ) → n < 2 → (g : Option Going) → going n ≡ g → Pins g b xs → ⊥
      pins n xs lt None e x = x
      pins n xs lt (Some g) e (m, x, has, begins, same) = none_runs b uses n g m x lt e has

      by : (o : Option Taking) → (banks b k known internal).sent.take ≡ o → TakeRight going b o → o ≡ None
      by None e r = refl
      by (Some x) e (n, lt, r) = absurd (pins n x.kept lt (going n) refl r)

  -- no frame initialises the module
  pub none_prepares : prepares held ≡ false
  none_prepares = (none_readied d s.mode s.channels held on right).1

  none_ready : readied_in held ≡ []
  none_ready = (none_readied d s.mode s.channels held on right).0

  -- what is sent of a channel, before any move
  pub sent_before : (m : Memory) (n b : ℕ) (k : Channel) → slice_get (channels_of d (next_job d p)) n ≡ Some b → (known : channel_of d b ≡ Some k) (internal : k.internal ≡ true) → ((i : ℕ) → trio.own_of (trio_of (placed_of d b) Sent) i ≡ true → words i ≡ m i) → SentAt d held s b k m false
  sent_before m n b k at known internal same =
      let was = banks b k known internal in
      (was.sent, record { newest = was.written none_prepares; put = was.writes; free = none_pinned b k known internal (any_in (λ c. c == b) (channels_of d (next_job d p)) b (get_contained (channels_of d (next_job d p)) n b at) (same_number b)) }, stands-agree (trio_of (placed_of d b) Sent) words m was.sent same was.sends)

  -- ---- what the units do

  pub here_now : going_begun t u ≡ Some (begun_going t)
  here_now = ap (λ b. if b then Some (begun_going t) else going u) (same_number u)

  pub else_now : (n : ℕ) → n ≢ u → going_begun t n ≡ going n
  else_now n ne = ap (λ b. if b then Some (begun_going t) else going n) (other_number n u ne)

  -- ---- the banks of a channel

  module _ (m1 : Memory) (quiet : (i : ℕ) → IsQuiet d u (next_job d p) i → i ≢ NEXTS → m1 i ≡ words i)
      (sends : (n b : ℕ) (k : Channel) → slice_get (channels_of d (next_job d p)) n ≡ Some b → channel_of d b ≡ Some k → k.internal ≡ true → SentAt d held s b k m1 (is_to_begin first_place n k.length))
      (b : ℕ) (k : Channel) (known : channel_of d b ≡ Some k) (internal : k.internal ≡ true) where
    abbrev was : BanksAgree d held going words (view s) b k
    was = banks b k known internal

    abbrev now : ℕ → Option Going
    now = going_begun t

    abbrev cs : List ℕ
    cs = channels_of d (next_job d p)

    -- what its job sends of a channel
    part_has : (n : ℕ) (x : Part) → HasPart (Some (begun_going t)) b n x → slice_get cs n ≡ Some b
    part_has n x (at, same) =
        let (a, e, f) = get_back (part_at d s) cs n x at in
        e ∙ ap (λ z. Some z) (sym (channel_is d s a) ∙ sym (ap (λ z. z.channel) f) ∙ same)

    uses_at : (n : ℕ) → slice_get cs n ≡ Some b → uses_channel d b (next_job d p) ≡ true
    uses_at n e = any_in (λ c. c == b) cs b (get_contained cs n b e) (same_number b)

    past : (i : ℕ) → STATE + 64 ≤ i → i ≢ NEXTS
    past i le e = omega (arith, le, e)

    received_stands : trio.Stands (trio_of (placed_of d b) Received) m1 was.received
    received_stands = stands-agree (trio_of (placed_of d b) Received) words m1 was.received (λ i own. sym (quiet i (quiet_received d fits u few (next_job d p) the_job.0 the_job.1 b k known internal i own) (past i (past_the_first d b k i (fits.channels b k known) (of_banks d fits b k known internal Received i own))))) was.receives

    -- what it received is no job's of the unit yet
    nothing_kept : (n : ℕ) (x : Part) → taken_of first_place n (length x.values) ≡ 0
    nothing_kept n x = none n (length x.values)
      where
        none : (n k : ℕ) → taken_of first_place n k ≡ 0
        none n k = grind (arith, nat_tests)

    keeps_none : (n : ℕ) → KeepsNone (going n) b → (n ≡ u) ⊎ (n ≢ u) → KeepsNone (now n) b
    keeps_none n kept (inl e) = subst (λ i. KeepsNone (now i) b) (sym e) (subst (λ g. KeepsNone g b) (sym here_now) (λ m x has. nothing_kept m x))
    keeps_none n kept (inr ne) = subst (λ g. KeepsNone g b) (sym (else_now n ne)) kept

    keeps_some : (n : ℕ) → n < 2 → (xs : List ℕ) (g : Option Going) → going n ≡ g → Keeps g b xs → Keeps (now n) b xs × (uses_channel d b (next_job d p) ≡ true → ⊥)
    keeps_some n lt xs None e x = absurd x
    keeps_some n lt xs (Some g) e (m, x, has, some, same) = (subst (λ o. Keeps o b xs) (sym (else_now n (not_here n g e) ∙ e)) (m, x, has, some, same), λ uses. none_runs b uses n g m x lt e has)

    held_word_same : uses_channel d b (next_job d p) ≡ false → m1 (held_word (placed_of d b)) ≡ words (held_word (placed_of d b))
    held_word_same away = quiet (held_word (placed_of d b)) (quiet_away d fits u few (next_job d p) the_job.0 the_job.1 b k known away (held_word (placed_of d b)) (of_held d fits b k known)) (past (held_word (placed_of d b)) (past_the_first d b k (held_word (placed_of d b)) (fits.channels b k known) (of_held d fits b k known)))

    put_now : (o : Option Putting) (x : Option Putting) → PutRight going words (placed_of d b) o x → PutRight now m1 (placed_of d b) o x
    put_now None None kept = λ n lt. keeps_none n (kept n lt) (same_or_other n u)
    put_now None (Some x) (n, lt, keeps, at) = let some = keeps_some n lt x.filled (going n) refl keeps in (n, lt, some.0, held_word_same (not_true (uses_channel d b (next_job d p)) some.1) ∙ at)
    put_now (Some y) x kept = kept

    -- with these banks of what it sends
    with_sent : (x : Banks) → trio.Stands (trio_of (placed_of d b) Sent) m1 x → x.newest ≡ first_items 0 k.length (channel_at s b).written → x.put ≡ put_held d (view s).sources b false held → TakeRight now b x.take → BanksAgree d held now m1 (view s) b k
    with_sent x stands newest put pinned = record {
      sent = x;
      sends = stands;
      written = λ none. newest;
      readied_sent = λ is. absurd (none_in (b, false) (subst (λ xs. Contains xs (b, false)) none_ready is));
      pinned = pinned;
      writes = put;
      received = was.received;
      receives = received_stands;
      readable = was.readable;
      readied_received = was.readied_received;
      reads = was.reads;
      keeps = put_now (put_held d (view s).sources b true held) was.received.put was.keeps;
    }

    -- ---- a channel that the job doesn't have

    pins_away : uses_channel d b (next_job d p) ≡ false → (o : Option Taking) → TakeRight going b o → TakeRight now b o
    pins_away away None r = λ n lt. none n (r n lt) (same_or_other n u)
      where
        none : (n : ℕ) → PinsNone (going n) b → (n ≡ u) ⊎ (n ≢ u) → PinsNone (now n) b
        none n kept (inl e) = subst (λ i. PinsNone (now i) b) (sym e) (subst (λ g. PinsNone g b) (sym here_now) (λ m x has. absurd (let f = sym away ∙ uses_at m (part_has m x has) in cc)))
        none n kept (inr ne) = subst (λ g. PinsNone g b) (sym (else_now n ne)) kept
    pins_away away (Some x) (n, lt, r) = (n, lt, some (going n) refl r)
      where
        some : (g : Option Going) → going n ≡ g → Pins g b x.kept → Pins (now n) b x.kept
        some None e r = absurd r
        some (Some g) e r = subst (λ o. Pins o b x.kept) (sym (else_now n (not_here n g e) ∙ e)) r

    banks_away : uses_channel d b (next_job d p) ≡ false → BanksAgree d held now m1 (view s) b k
    banks_away away = with_sent was.sent (stands-agree (trio_of (placed_of d b) Sent) words m1 was.sent same was.sends) (was.written none_prepares) was.writes (pins_away away was.sent.take was.pinned)
      where
        same : (i : ℕ) → trio.own_of (trio_of (placed_of d b) Sent) i ≡ true → words i ≡ m1 i
        same i own = let is = of_banks d fits b k known internal Sent i own in sym (quiet i (quiet_away d fits u few (next_job d p) the_job.0 the_job.1 b k known away i is) (past i (past_the_first d b k i (fits.channels b k known) is)))

    -- ---- one of the job's

    values : (n : ℕ) (x : Part) → HasPart (Some (begun_going t)) b n x → x.values ≡ (channel_at s b).written
    values n x (at, same) =
        let (a, e, f) = get_back (part_at d s) cs n x at in
        let at : a ≡ b = sym (channel_is d s a) ∙ sym (ap (λ z. z.channel) f) ∙ same in
        ap (λ z. z.values) f ∙ ap (λ i. (part_at d s i).values) at ∙ ap (λ z. z.values) (internal_values d s b k known internal)

    sent_count : length (channel_at s b).written ≡ k.length
    sent_count = written b k known internal

    newest_is : (x : Banks) → x.newest ≡ first_items 0 k.length (channel_at s b).written → x.newest ≡ (channel_at s b).written
    newest_is x e = e ∙ ap (λ n. first_items 0 n (channel_at s b).written) (sym sent_count) ∙ whole_first (channel_at s b).written

    one_at : (n m : ℕ) → slice_get cs n ≡ Some b → slice_get cs m ≡ Some b → n ≡ m
    one_at n m at too = (fits.jobs (next_job d p) the_job.0 the_job.1).once n m b at too

    banks_here : (n : ℕ) → slice_get cs n ≡ Some b → (q : Bool) → is_to_begin first_place n k.length ≡ q → SentAt d held s b k m1 q → BanksAgree d held now m1 (view s) b k
    banks_here n at true e (x, is, stands) =
        with_sent (pinning x) stands is.newest is.put
        (u, few, subst (λ g. Pins g b x.newest) (sym here_now) (n, part_at d s b, (map_get (part_at d s) cs n b at, channel_is d s b), ap (is_to_begin first_place n) count ∙ e, newest_is x is.newest ∙ sym (ap (λ z. z.values) (internal_values d s b k known internal))))
      where
        count : length (part_at d s b).values ≡ k.length
        count = ap (λ z. length z.values) (internal_values d s b k known internal) ∙ sent_count
    banks_here n at false e (x, is, stands) =
        let none : was.sent.take ≡ None = none_pinned b k known internal (uses_at n at) in
        with_sent x stands is.newest is.put
        (subst (λ o. TakeRight now b o) (sym is.free) (λ m lt. cases (same_or_other m u)
        (λ f. subst (λ i. PinsNone (now i) b) (sym f) (subst (λ g. PinsNone g b) (sym here_now) not_begun))
        (λ ne. subst (λ g. PinsNone g b) (sym (else_now m ne)) (subst (λ o. TakeRight going b o) none was.pinned m lt))))
      where
        not_begun : (m : ℕ) (x : Part) → HasPart (Some (begun_going t)) b m x → is_to_begin first_place m (length x.values) ≡ false
        not_begun m x has = ap (λ i. is_to_begin first_place i (length x.values)) (one_at m n (part_has m x has) at) ∙ ap (is_to_begin first_place n) (ap length (values m x has) ∙ sent_count) ∙ e

    pub banks_now : BanksAgree d held now m1 (view s) b k
    banks_now = whether (uses_channel d b (next_job d p))
        (λ e. let place = at_place (any_some (λ c. c == b) cs e) in banks_here place.0 place.1 (is_to_begin first_place place.0 k.length) refl (sends place.0 b k place.1 known internal))
        (λ e. banks_away e)
      where
        at_place : (x : ℕ) × Contains cs x × ((x == b) ≡ true) → (n : ℕ) × (slice_get cs n ≡ Some b)
        at_place (x, (n, lt, at), is) = (n, at_contained cs n x lt at ∙ ap (λ z. Some z) (is_number x b is))

  -- ---- the words of what the units run

  module _ (m1 : Memory) (quiet : (i : ℕ) → IsQuiet d u (next_job d p) i → i ≢ NEXTS → m1 i ≡ words i) where
    -- those of another unit
    pub unit_words : (n : ℕ) → n < 2 → n ≢ u → (i : ℕ) → STATE + 8 + 8 * n ≤ i → i < STATE + 16 + 8 * n → m1 i ≡ words i
    unit_words n lt ne i low high =
        quiet i
        (quiet_first d fits u few (next_job d p) the_job.0 the_job.1 i (omega (arith, high, lt)) (not_order u i (λ e. ne (omega (arith, low, high, e, lt, few))) (λ e. ne (omega (arith, low, high, e, lt, few))) (λ e. ne (omega (arith, low, high, e, lt, few))))
        (λ e. omega (arith, low, e)) (λ e. ne (omega (arith, low, high, e, lt, few))) (λ e. ne (omega (arith, low, high, e, lt, few))))
        (λ e. omega (arith, low, e))

    pub source_same : (x : Placed) (i : ℕ) → m1 (source_word x i) ≡ words (source_word x i)
    source_same x i = quiet (source_word x i) (quiet_users d fits u few (next_job d p) the_job.0 the_job.1 (source_word x i) (omega arith)) (λ e. omega (arith, e))

    -- what is held of a job that another unit runs stays
    pub held_else : (n : ℕ) (g : Going) (m : ℕ) (x : Part) (k : Channel) → n < 2 → going n ≡ Some g → slice_get g.parts m ≡ Some x → channel_of d x.channel ≡ Some k → m1 (held_word (placed_of d x.channel)) ≡ words (held_word (placed_of d x.channel))
    held_else n g m x k lt e at known =
        quiet (held_word (placed_of d x.channel)) (quiet_away d fits u few (next_job d p) the_job.0 the_job.1 x.channel k known away (held_word (placed_of d x.channel)) (of_held d fits x.channel k known))
        (λ f. let le = past_the_first d x.channel k (held_word (placed_of d x.channel)) (fits.channels x.channel k known) (of_held d fits x.channel k known) in omega (arith, le, f))
      where
        away : uses_channel d x.channel (next_job d p) ≡ false
        away = not_true (uses_channel d x.channel (next_job d p)) (λ uses. none_runs x.channel uses n g m x lt e (at, refl))

    -- a job that another unit runs has no channel of this one
    run_else : (n : ℕ) → n < 2 → n ≢ u → (g : Option Going) → going n ≡ g → RunAgrees d words n g → RunAgrees d m1 n g
    run_else n lt ne None e a = unit_words n lt ne (running_word n) (omega arith) (omega arith) ∙ a
    run_else n lt ne (Some g) e a =
        going_words d fits n words m1 g (theirs n g lt e) (λ m x k at known outside. held_else n g m x k lt e at known) (λ m x k i at known less. source_same (placed_of d x.channel) i)
        (unit_words n lt ne (running_word n) (omega arith) (omega arith)) (unit_words n lt ne (position_word n) (omega arith) (omega arith)) a

    -- ---- the job that begins

    module _ (holds : (n b : ℕ) (k : Channel) → slice_get (channels_of d (next_job d p)) n ≡ Some b → channel_of d b ≡ Some k → k.internal ≡ false → m1 (held_word (placed_of d b)) ≡ packed (as_read (set_up_or k (channel_at s b).set_up)))
        (running : m1 (running_word u) ≡ packed_run (record { job = next_job d p; sequence = p.sequence })) (position : m1 (position_word u) ≡ 0) where
      -- a part of it
      part_now : (n b : ℕ) → slice_get (channels_of d (next_job d p)) n ≡ Some b → (0 < length (part_at d s b).values) × PartAgrees m1 (placed_of d (part_at d s b).channel) first_place n (part_at d s b)
      part_now n b at = of (channel_there d fits u few (next_job d p) the_job.0 the_job.1 b (get_contained (channels_of d (next_job d p)) n b at))
        where
          of : (b < 16) × (k : Channel) × (channel_of d b ≡ Some k) → (0 < length (part_at d s b).values) × PartAgrees m1 (placed_of d (part_at d s b).channel) first_place n (part_at d s b)
          of (lt, k, known) = (some b k known, subst (λ i. PartAgrees m1 (placed_of d i) first_place n (part_at d s b)) (sym (channel_is d s b)) (by k.internal refl))
            where
              same : (placed_of d b).channel.internal ≡ k.internal
              same = ap (λ x. x.internal) (has_channel d fits b k known)

              by : (i : Bool) → k.internal ≡ i → PartAgrees m1 (placed_of d b) first_place n (part_at d s b)
              by true e = subst (λ i. PartBy i m1 (placed_of d b) first_place n (part_at d s b)) (sym (same ∙ e)) (inner b k known e)
              by false e = subst (λ i. PartBy i m1 (placed_of d b) first_place n (part_at d s b)) (sym (same ∙ e)) (outer b k known e m1 n (λ i. source_same (placed_of d b) i) (holds n b k at known e))

      parts_now : (n : ℕ) (x : Part) → slice_get (begun_going t).parts n ≡ Some x → (0 < length x.values) × PartAgrees m1 (placed_of d x.channel) first_place n x
      parts_now n x at =
          let (b, e, f) = get_back (part_at d s) (channels_of d (next_job d p)) n x at in
          subst (λ z. (0 < length z.values) × PartAgrees m1 (placed_of d z.channel) first_place n z) (sym f) (part_now n b e)

      run_now : GoingAgrees d m1 u (begun_going t)
      run_now = record {
        channels = channels_are d s (channels_of d (next_job d p));
        running = running;
        position = position;
        place = subst (λ n. 0 < n) (sym (length-map (channels_of d (next_job d p)) (part_at d s))) (some_channels d fits (next_job d p) the_job.0 the_job.1);
        inside = λ x at. (parts_now 0 x at).0;
        count = refl;
        parts = parts_now;
      }

      pub begun_runs : (n : ℕ) → n < 2 → RunAgrees d m1 n (going_begun t n)
      begun_runs n lt = cases (same_or_other n u)
          (λ e. subst (λ k. RunAgrees d m1 k (going_begun t k)) (sym e) (subst (λ g. RunAgrees d m1 u g) (sym (here_now)) run_now))
          (λ ne. subst (λ g. RunAgrees d m1 n g) (sym (else_now n ne)) (run_else n lt ne (going n) refl (runs n lt ne)))
