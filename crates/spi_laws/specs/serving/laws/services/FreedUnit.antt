-- A job has ended and its unit is free: all of its words had begun, no pin or put of another job changes, and the words and registers
-- stand for the machine's state.
-- From services.FurtherBegun, spi_sequences: words.JobPlaces, spi_sequences: words.SameWords and 9 more.
-- Used by services.ServeRight, services.SequenceOverRight, services.WellEnded and 7 more.
use Rattle.std.proofs.Common.{◌≡◌, ◌≢◌, ◌+◌, ◌<◌, ◌≤◌, ◌&&◌, ◌||◌, ◌==◌, [], ◌∷◌, ◌∙◌, ◌⊎◌, if◌then◌else◌}
use Rattle.spi_laws.specs.serving.Terms
use Terms.{all_carried, all_pending, AllRight, AllSend, Answer, AnswerName, any_changed, any_some, ap, AreCarried}
use Terms.{AreOwed, arith, banks_view, banks_words, BanksAgree, Bool, Call, carried_at, CarriesAgrees, cases, changed}
use Terms.{Channel, channel_at, channel_of, ChannelState, Chip, Contains, Debt, Destination, entries_of, Entry, false}
use Terms.{few_places, filter, filter_back, FitsSpi, get_or_default, goes_to_next, Going, going_free, going_next}
use Terms.{going_run, going_words, GoingAgrees, has_bit, held_word, inl, inr, is_for, is_interrupt, is_number, is_of}
use Terms.{is_off, is_on_unit, is_owed, is_running, is_some, is_sync_unit, is_to_begin, IsSoundState, item-other}
use Terms.{item-same, job_of, job_unit, jobs_of, Keeps, KeepsNone, length, length_by, List, list_any, map, Memory}
use Terms.{mode_word, nat_lt, nat_tests, next_job, None, none_in, none_stored, not, not_true, of_banks, of_held}
use Terms.{of_set_up, one_pending, one_unit, Option, order_stays, order_word, Origin, other_number, Part}
use Terms.{past_the_first, Pending, Pins, PinsNone, place_of, placed_of, position_word, put_held, PutRight, Putting}
use Terms.{refl, Reservation, Reservations, ReservedBy, Run, run_at, run_carried, RunAgrees, running_word}
use Terms.{runs_none_sync, runs_sequence, RunsBy, RunsNext, same_number, same_or_other, sends_as, SequencesAgree}
use Terms.{set_up_code, set_up_word, SetUpFits, slice_get, slice_index, slice_index_or, Some, some_is, Source}
use Terms.{SpiRepresents, SpiState, SpiTable, StandsIn, STATE, subst, suc, sum_by, sym, TakeRight, Taking, there_back}
use Terms.{true, unit_at, unit_of_sequence, UnitAgrees, untouched, view, whether, with_item, with_wait, word_at}
use Terms.{word_of, words_before, words_of, World, ℕ}
use Rattle.spi_laws.specs.serving.laws.{bookkeeping.JobsApart.{one_job}, services.FurtherBegun.{by_unit, carried_with}}
use Rattle.spi_laws.specs.serving.laws.services.FurtherBegun.{going_other, going_with, other_one, right_like, units_with}
use Rattle.spi_laws.specs.serving.laws.{ToServe.{ToServe}, words.Positions.{before-all, before-less, before-next, Stands}}
use Rattle.spi_laws.specs.serving.laws.words.Positions.{words_count}
use Rattle.mcal_base.specs.facts.Numbers.{lt_is, lt_isnt}
use Rattle.std.proofs.lemmas.Bool.{or_right}
use Rattle.word_shapes.specs.Order as order
use Rattle.word_shapes.specs.PriorityQueue as ranked

-- ---- the last word

module _ (d : SpiTable) (fits : FitsSpi d) (u : ℕ) (m : Memory) (g : Going) (for : is_for d u g.pending ≡ true) (h : GoingAgrees d m u g) (at : Stands d fits u m g for h g.at (length g.received)) (last : length g.received + 1 ≡ length (words_of d g.parts)) where
  abbrev size : Part → ℕ
  size x = length x.values

  whole : words_before g.parts g.at.channel + g.at.word + 1 ≡ sum_by size g.parts
  whole = let count = at.count in let all = words_count d fits u m g for h in omega (arith, last, count, all)

  further : words_before g.parts (suc g.at.channel) ≡ words_before g.parts g.at.channel + length at.part.values
  further = before-next size g.parts g.at.channel at.part at.there

  within : (n : ℕ) → words_before g.parts n ≤ sum_by size g.parts
  within n = whether (nat_lt (length g.parts) n)
      (λ e. let all = before-all size g.parts n (let lt : length g.parts < n = lt_is (length g.parts) n e in omega (arith, lt)) in omega (arith, all))
      (λ e. let less = before-less size g.parts n (length g.parts) (lt_isnt (length g.parts) n e) in let all = before-all size g.parts (length g.parts) (omega arith) in omega (arith, less, all))

  -- it is the last one of its part
  pub last_word : g.at.word + 1 ≡ length at.part.values
  last_word = let inside = at.inside in let le = within (suc g.at.channel) in let more = further in let all = whole in omega (arith, inside, le, more, all)

  -- and that of the job's last one
  pub last_part : (n : ℕ) (x : Part) → slice_get g.parts n ≡ Some x → g.at.channel < n → ⊥
  last_part n x e lt =
      let some = (h.parts n x e).0 in
      let next = before-next size g.parts n x e in
      let before = before-less size g.parts (suc g.at.channel) n (omega (arith, lt)) in
      let le = within (suc n) in
      let more = further in
      let all = whole in
      let same = last_word in
      omega (arith, some, next, before, le, more, all, same)

  pub all_begun : (n : ℕ) (x : Part) → slice_get g.parts n ≡ Some x → is_to_begin g.at n (length x.values) ≡ false
  all_begun n x e = not_true (is_to_begin g.at n (length x.values)) (λ f. by (later n g.at.channel g.at.word (length x.values) f))
    where
      later : (n a i k : ℕ) → (nat_lt a n || (n == a && nat_lt (i + 1) k)) ≡ true → (a < n) ⊎ ((n ≡ a) × (i + 1 < k))
      later n a i k f = grind (arith, nat_tests)

      by : (g.at.channel < n) ⊎ ((n ≡ g.at.channel) × (g.at.word + 1 < length x.values)) → ⊥
      by (inl lt) = last_part n x e lt
      by (inr (same, lt)) = let one : length x.values ≡ length at.part.values = ap (λ z. length z.values) (some_is x at.part (sym e ∙ ap (slice_get g.parts) same ∙ at.there)) in let end = last_word in omega (arith, lt, one, end)

-- ---- pins and puts of others

module _ (d : SpiTable) (fits : FitsSpi d) (below : Reservations) (chip : Chip) (w : World) (s : SpiState) (h : SpiRepresents d below chip w s) (u : ℕ) (few : u < 2) (g : Going) (is : h.going u ≡ Some g) where
  -- what the others do once the unit is free
  abbrev pub going_over : ℕ → Option Going
  going_over = going_with h.going u None

  -- the job has no part of the channel that is pinned
  pub take_over : (c : ℕ) (o : Option Taking) → PinsNone (Some g) c → TakeRight h.going c o → TakeRight going_over c o
  take_over c None none r = λ n lt. by_unit (λ k z. PinsNone z c) h.going u None tt n (λ _. r n lt)
  take_over c (Some t) none (n, lt, pins) = cases (same_or_other n u)
      (λ e. absurd (pinned (subst (λ z. Pins z c t.kept) (ap h.going e ∙ is) pins)))
      (λ ne. (n, lt, subst (λ z. Pins z c t.kept) (sym (going_other h.going u None n ne)) pins))
    where
      pinned : Pins (Some g) c t.kept → ⊥
      pinned (k, x, part, begins, kept) = let f = sym begins ∙ none k x part in cc

  -- nor one that is kept
  pub put_over : (c : ℕ) (m1 : Memory) (o : Option Putting) → m1 (held_word (placed_of d c)) ≡ word_of chip (held_word (placed_of d c)) → KeepsNone (Some g) c → PutRight h.going (word_of chip) (placed_of d c) None o → PutRight going_over m1 (placed_of d c) None o
  put_over c m1 None same none r = λ n lt. by_unit (λ k z. KeepsNone z c) h.going u None tt n (λ _. r n lt)
  put_over c m1 (Some t) same none (n, lt, keeps, bank) = cases (same_or_other n u)
      (λ e. absurd (kept (subst (λ z. Keeps z c t.filled) (ap h.going e ∙ is) keeps)))
      (λ ne. (n, lt, subst (λ z. Keeps z c t.filled) (sym (going_other h.going u None n ne)) keeps, same ∙ bank))
    where
      kept : Keeps (Some g) c t.filled → ⊥
      kept (k, x, part, some, filled) = let f = none k x part in omega (arith, some, f)

-- ---- the order of a unit's sequences

module _ (d : SpiTable) (fits : FitsSpi d) (below : Reservations) (chip : Chip) (w : World) (s : SpiState) (h : SpiRepresents d below chip w s) (p : Pending) (there : Contains s.pending p) (more : p.next + 1 < length (jobs_of d p.sequence)) (running : ℕ → Bool) (over : running p.sequence ≡ false) (others : (n : ℕ) → n ≢ p.sequence → running n ≡ (view s).running n) (u : ℕ) where
  abbrev item : Pending → Pending
  item x = if is_of p.sequence x then goes_to_next x else x

  abbrev was : Pending → Entry
  was x = record { number = x.sequence; waits = not ((view s).running x.sequence) }

  abbrev now : Pending → Entry
  now x = record { number = x.sequence; waits = not (running x.sequence) }

  own_for : is_for d u (goes_to_next p) ≡ is_for d u p
  own_for = same_unit (same_or_other u (unit_of_sequence d p.sequence))
    where
      before : is_on_unit (unit_of_sequence d p.sequence) (job_of d (next_job d p)) ≡ true
      before = job_unit d fits p.sequence p.next (omega (arith, more))

      after : is_on_unit (unit_of_sequence d p.sequence) (job_of d (next_job d (goes_to_next p))) ≡ true
      after = job_unit d fits p.sequence (p.next + 1) more

      same_unit : (u ≡ unit_of_sequence d p.sequence) ⊎ (u ≢ unit_of_sequence d p.sequence) → is_for d u (goes_to_next p) ≡ is_for d u p
      same_unit (inl e) = subst (λ n. is_for d n (goes_to_next p) ≡ is_for d n p) (sym e) (after ∙ sym before)
      same_unit (inr ne) =
          not_true (is_for d u (goes_to_next p)) (λ f. ne (one_unit d u (unit_of_sequence d p.sequence) (next_job d (goes_to_next p)) f after))
          ∙ sym (not_true (is_for d u p) (λ f. ne (one_unit d u (unit_of_sequence d p.sequence) (next_job d p) f before)))

  pub for_same : (x : Pending) → Contains s.pending x → is_for d u (item x) ≡ is_for d u x
  for_same x at = cases (same_or_other x.sequence p.sequence)
      (λ e. subst (λ z. is_for d u (item z) ≡ is_for d u z) (sym (one_pending d fits below chip w s h x p (all_pending (view s) x at) (all_pending (view s) p there) e)) (ap (λ q. is_for d u (if q then goes_to_next p else p)) (same_number p.sequence) ∙ own_for))
      (λ ne. ap (λ q. is_for d u (if q then goes_to_next x else x)) (other_number x.sequence p.sequence ne))

  entry_same : (x : Pending) → now (item x) ≡ with_wait p.sequence true (was x)
  entry_same x = entry_waits (same_or_other x.sequence p.sequence)
    where
      entry_waits : (x.sequence ≡ p.sequence) ⊎ (x.sequence ≢ p.sequence) → now (item x) ≡ with_wait p.sequence true (was x)
      entry_waits (inl e) =
          let same : (x.sequence == p.sequence) ≡ true = ap (λ n. n == p.sequence) e ∙ same_number p.sequence in
          ap (λ q. now (if q then goes_to_next x else x)) same ∙ ap (λ b. record { number = x.sequence; waits = not b }) (ap running e ∙ over) ∙ sym (ap (λ q. if q then record { number = x.sequence; waits = true } else was x) same)
      entry_waits (inr ne) =
          let other = other_number x.sequence p.sequence ne in
          ap (λ q. now (if q then goes_to_next x else x)) other ∙ ap (λ b. record { number = x.sequence; waits = not b }) (others x.sequence ne) ∙ sym (ap (λ q. if q then record { number = x.sequence; waits = true } else was x) other)

  waits_in : (ps : List Pending) → ((x : Pending) → Contains ps x → Contains s.pending x) → map now (filter (is_for d u) (map item ps)) ≡ order.waiting p.sequence true (map was (filter (is_for d u) ps))
  waits_in [] all = refl
  waits_in (x ∷ ps) all = waits_with_first (is_for d u x) (for_same x (all x (0, omega arith, refl))) (waits_in ps (λ z at. all z (suc at.0, let lt = at.1 in omega (arith, lt), at.2)))
    where
      waits_with_first : (b : Bool) → is_for d u (item x) ≡ is_for d u x → map now (filter (is_for d u) (map item ps)) ≡ order.waiting p.sequence true (map was (filter (is_for d u) ps)) → map now (filter (is_for d u) (map item (x ∷ ps))) ≡ order.waiting p.sequence true (map was (filter (is_for d u) (x ∷ ps)))
      waits_with_first b e rest = split (is_for d u x) refl
        where
          split : (q : Bool) → is_for d u x ≡ q → map now (if is_for d u (item x) then item x ∷ filter (is_for d u) (map item ps) else filter (is_for d u) (map item ps)) ≡ order.waiting p.sequence true (map was (if is_for d u x then x ∷ filter (is_for d u) ps else filter (is_for d u) ps))
          split true f =
              ap (λ q. map now (if q then item x ∷ filter (is_for d u) (map item ps) else filter (is_for d u) (map item ps))) (e ∙ f)
              ∙ ap (λ z. z ∷ map now (filter (is_for d u) (map item ps))) (entry_same x) ∙ ap (λ zs. with_wait p.sequence true (was x) ∷ zs) rest
              ∙ sym (ap (λ q. order.waiting p.sequence true (map was (if q then x ∷ filter (is_for d u) ps else filter (is_for d u) ps))) f)
          split false f =
              ap (λ q. map now (if q then item x ∷ filter (is_for d u) (map item ps) else filter (is_for d u) (map item ps))) (e ∙ f) ∙ rest
              ∙ sym (ap (λ q. order.waiting p.sequence true (map was (if q then x ∷ filter (is_for d u) ps else filter (is_for d u) ps))) f)

  -- its entry waits again in the order, and the others stay
  pub waits_again : map now (filter (is_for d u) (changed p.sequence goes_to_next s.pending)) ≡ order.waiting p.sequence true (entries_of d (view s) u)
  waits_again = waits_in s.pending (λ x at. at)

-- ---- the unit is free

-- what the frame that serves holds then: it owes the unit a start
abbrev pub start_owed : (number : ℕ) → Origin Call → Option Answer → ReservedBy Call Reservation
start_owed u owner acted = record { by = owner; what = Debt u; acted = acted }

-- channels that differ in what came in alone
pub record IsFilled (cs : List ChannelState) (s : SpiState) : Type 0 where
  pub source : (n : ℕ) → (slice_index_or cs n untouched).source ≡ (channel_at s n).source
  pub set_up : (n : ℕ) → (slice_index_or cs n untouched).set_up ≡ (channel_at s n).set_up
  pub written : (n : ℕ) → (slice_index_or cs n untouched).written ≡ (channel_at s n).written

-- a state with other channels, and with a free unit, other sequences pending, and other results too
abbrev pub with_channels : SpiState → List ChannelState → SpiState
with_channels s cs = record s { channels = cs }

abbrev pub with_free : SpiState → (number : ℕ) → List ChannelState → List Pending → (sequence_results job_results : List AnswerName) → SpiState
with_free s u cs ps qs js = record s { channels = cs; units = with_item None s.units u None; pending = ps; sequence_results = qs; job_results = js }

-- a chip that differs from another one in the words of sequences, jobs and orders
pub record IsTold (w : World) (c f : Chip) : Type 0 where
  pub outside : StandsIn f w
  pub rest : f ≡ record c { words = f.words }
  pub above : (j : ℕ) → STATE + 64 ≤ j → word_of f j ≡ word_of c j
  pub state : word_of f STATE ≡ word_of c STATE
  pub runs : (n : ℕ) → n < 2 → (word_of f (running_word n) ≡ word_of c (running_word n)) × (word_of f (position_word n) ≡ word_of c (position_word n))

-- the unit is acknowledged, and its word says that it runs nothing
pub record IsFree (d : SpiTable) (w : World) (chip : Chip) (u : ℕ) (c : Chip) : Type 0 where
  pub outside : StandsIn c w
  pub wiring : c.wiring ≡ chip.wiring
  pub control : c.control ≡ chip.control
  pub size : length c.serials.units ≡ 2
  pub unit : UnitAgrees d (unit_at c.serials u) None None
  pub others : (n : ℕ) → n ≢ u → unit_at c.serials n ≡ unit_at chip.serials n
  pub running : word_of c (running_word u) ≡ 0
  pub alike : (j : ℕ) → j ≢ running_word u → word_of c j ≡ word_of chip j

module _ (st : ToServe) where
  open st use {d, fits, below, chip, w, s, h, on, u, few, g, is}

  abbrev pub going_left : ℕ → Option Going
  going_left = going_over d fits below chip w s h u few g is

  -- another unit runs another sequence
  pub others_differ : (n : ℕ) (k : Going) → n < 2 → n ≢ u → h.going n ≡ Some k → k.pending.sequence ≢ g.pending.sequence
  others_differ n k lt ne e same =
      let own = going_next d fits below chip w s h u g few is in
      let other = going_next d fits below chip w s h n k lt e in
      let one = one_pending d fits below chip w s h k.pending g.pending other.0 own.0 same in
      ne (one_unit d n u (next_job d g.pending) (subst (λ z. is_for d n z ≡ true) one other.2) own.2)

  -- it is owed a start, and others are where they were
  pub owed_left : (owner : Origin Call) (acted : Option Answer) (n : ℕ) → n < 2 → going_left n ≡ None → (n ≢ u → is_owed n below ≡ true) → is_owed n (start_owed u owner acted ∷ below) ≡ true
  owed_left owner acted n lt free other = cases (same_or_other n u)
      (λ e. ap (λ q. q || is_owed n below) (ap (λ k. u == k) e ∙ same_number u))
      (λ ne. or_right (u == n) (is_owed n below) (other ne))

  pub other_free : (n : ℕ) → n ≢ u → going_left n ≡ None → h.going n ≡ None
  other_free n ne free = sym (going_other h.going u None n ne) ∙ free

  -- the sequence is in the order of its unit alone
  pub in_no_other : (n : ℕ) → n ≢ u → order.is_there g.pending.sequence (entries_of d (view s) n) ≡ false
  in_no_other n ne = not_true (order.is_there g.pending.sequence (entries_of d (view s) n)) (λ e.
      let (x, at, same) = there_back (view s).running g.pending.sequence (filter (is_for d n) s.pending) e in
      let own = going_next d fits below chip w s h u g few is in
      let k = filter_back (is_for d n) s.pending x at in
      let one = one_pending d fits below chip w s h x g.pending (all_pending (view s) x k.0) own.0 same in
      ne (one_unit d n u (next_job d g.pending) (subst (λ z. is_for d n z ≡ true) one k.1) own.2))

  -- ---- the agreement

  module _ (owner : Origin Call) (acted : Option Answer) (cs : List ChannelState) (like : IsFilled cs s) where
    abbrev pub held : Reservations
    held = start_owed u owner acted ∷ below

    -- the words of the job's channels stand as its end leaves them, and of the first words only the unit's has changed
    pub record Left (c : Chip) : Type 0 where
      pub outside : StandsIn c w
      pub wiring : c.wiring ≡ chip.wiring
      pub control : c.control ≡ chip.control
      pub size : length c.serials.units ≡ 2
      pub unit : UnitAgrees d (unit_at c.serials u) None None
      pub others : (n : ℕ) → n ≢ u → unit_at c.serials n ≡ unit_at chip.serials n
      pub running : word_of c (running_word u) ≡ 0
      pub first : (j : ℕ) → STATE ≤ j → j < STATE + 64 → j ≢ running_word u → word_of c j ≡ word_of chip j
      pub still_held : (n : ℕ) (k : Channel) → channel_of d n ≡ Some k → k.internal ≡ false → word_of c (held_word (placed_of d n)) ≡ word_of chip (held_word (placed_of d n))
      pub held_away : (n : ℕ) (k : Channel) → channel_of d n ≡ Some k → ((i : ℕ) (x : Part) → slice_get g.parts i ≡ Some x → x.channel ≢ n) → word_of c (held_word (placed_of d n)) ≡ word_of chip (held_word (placed_of d n))
      pub set_ups : (n : ℕ) (k : Channel) → channel_of d n ≡ Some k → word_of c (set_up_word (placed_of d n)) ≡ word_of chip (set_up_word (placed_of d n))
      pub sources : (n i : ℕ) → n < 16 → i < 64 → word_of c (place_of (Source n) i) ≡ word_of chip (place_of (Source n) i)
      pub destinations : (n i : ℕ) → i < length_by (channel_of d n) → word_of c (place_of (Destination n) i) ≡ word_at (slice_index_or cs n untouched).destination i
      pub banks : (n : ℕ) (k : Channel) → channel_of d n ≡ Some k → k.internal ≡ true → BanksAgree d held going_left (word_of c) (view (with_channels s cs)) n k

    -- the orders are as they were
    pub order_left : (c : Chip) → Left c → (n : ℕ) → n < 2 → ranked.Holds (record { at = order_word n }) (word_of c) (entries_of d (view s) n)
    order_left c l n lt = order_stays (word_of chip) (word_of c) (entries_of d (view s) n) n (λ j low high. l.first j (omega (arith, low)) (omega (arith, high, lt)) (λ f. omega (arith, f, low, high, lt, few))) ((h.words.on on).sequences.orders n lt)

    module _ (c f : Chip) (l : Left c) (t : IsTold w c f) where
      -- what another unit runs looks at words that are as they were
      past_held : (n : ℕ) (k : Channel) → channel_of d n ≡ Some k → k.internal ≡ false → word_of f (held_word (placed_of d n)) ≡ word_of chip (held_word (placed_of d n))
      past_held n k known external = t.above (held_word (placed_of d n)) (past_the_first d n k (held_word (placed_of d n)) (fits.channels n k known) (of_held d fits n k known)) ∙ l.still_held n k known external

      past_source : (n i : ℕ) → n < 16 → i < 64 → word_of f (place_of (Source n) i) ≡ word_of chip (place_of (Source n) i)
      past_source n i lt less = t.above (place_of (Source n) i) (omega arith) ∙ l.sources n i lt less

      pub run_other : (n : ℕ) → n < 2 → n ≢ u → (o : Option Going) → h.going n ≡ o → RunAgrees d (word_of chip) n o → RunAgrees d (word_of f) n o
      run_other n lt ne None e r = (t.runs n lt).0 ∙ l.first (running_word n) (omega arith) (omega (arith, lt)) (λ x. ne (omega (arith, x))) ∙ r
      run_other n lt ne (Some k) e r =
          going_words d fits n (word_of chip) (word_of f) k (going_next d fits below chip w s h n k lt e).2
          (λ i x z there known outside. past_held x.channel z known outside) (λ i x z j there known under. let small = few_places d fits x.channel j under in past_source x.channel j small.0 small.1)
          ((t.runs n lt).0 ∙ l.first (running_word n) (omega arith) (omega (arith, lt)) (λ x. ne (omega (arith, x)))) ((t.runs n lt).1 ∙ l.first (position_word n) (omega arith) (omega (arith, lt)) (λ x. omega (arith, x, lt, few))) r

      runs_left : (n : ℕ) → n < 2 → RunAgrees d (word_of f) n (going_left n)
      runs_left n lt = by_unit (λ k o. RunAgrees d (word_of f) k o) h.going u None ((t.runs u few).0 ∙ l.running) n (λ ne. run_other n lt ne (h.going n) refl ((h.words.on on).runs n lt))

      -- the state after it has these channels
      module _ (after : SpiState) (channels : after.channels ≡ cs) (mode : after.mode ≡ s.mode) where
        banks_told : (n : ℕ) (k : Channel) → channel_of d n ≡ Some k → k.internal ≡ true → BanksAgree d held going_left (word_of f) (view after) n k
        banks_told n k known internal =
            banks_view d held going_left (word_of f) (view (with_channels s cs)) (view after) n k (ap (λ xs. (slice_index_or xs n untouched).written) channels) (ap (λ xs. (slice_index_or xs n untouched).received) channels) (λ r. ap (λ xs. put_held d (λ m. (slice_index_or xs m untouched).source) n r held) channels)
            (banks_words d fits held going_left (word_of c) (word_of f) (view (with_channels s cs)) n k known (t.above (held_word (placed_of d n)) (past_the_first d n k (held_word (placed_of d n)) (fits.channels n k known) (of_held d fits n k known)))
            (λ side j own. t.above j (past_the_first d n k j (fits.channels n k known) (of_banks d fits n k known internal side j own))) (l.banks n k known internal))

        as_now : (n : ℕ) → channel_at after n ≡ slice_index_or cs n untouched
        as_now n = ap (λ xs. slice_index_or xs n untouched) channels

        -- held so, with these units
        pub freed_as : (held1 : Reservations) → AllRight d after.mode after.channels held1 → ((n : ℕ) → n < 2 → is_sync_unit d n ≡ false → UnitAgrees d (unit_at f.serials n) (run_at after n) (going_left n))
            → ((n : ℕ) → n < 2 → is_sync_unit d n ≡ true → CarriesAgrees d (unit_at f.serials n) (run_carried (carried_at after n)) (going_left n)) → AllSend d f w going_left after held1 → AreCarried (view after) held1
            → ((n : ℕ) (k : Channel) → BanksAgree d held going_left (word_of f) (view after) n k → BanksAgree d held1 going_left (word_of f) (view after) n k)
            → IsSoundState d (view after) → ((n : ℕ) → n < 2 → RunsNext d (view after) n (going_left n)) → SequencesAgree d (word_of f) (view after) → AreOwed d held1 going_left after → SpiRepresents d held1 f w after
        freed_as held1 right units sends sending carriers banks sound nexts sequences owed = record {
          right = right;
          outside = t.outside;
          wired = λ n lt. ap (λ x. slice_index x.wiring.sources n) t.rest ∙ ap (λ x. slice_index x.sources n) l.wiring ∙ h.wired n lt;
          size = ap (λ x. length x.serials.units) t.rest ∙ l.size;
          sound = sound;
          going = going_left;
          nexts = nexts;
          units = units;
          sends = sends;
          sending = sending;
          carriers = carriers;
          words = record {
            state = t.state ∙ l.first STATE (omega arith) (omega arith) (λ e. omega (arith, e)) ∙ h.words.state ∙ ap mode_word (sym mode);
            on = λ still. record { sequences = sequences; runs = runs_left };
            banks = λ n k known internal. banks n k (banks_told n k known internal);
            stored = λ j n there. absurd (none_in (j, n) (subst (λ xs. Contains xs (j, n)) (none_stored d after.mode after.channels held1 (ap is_off mode ∙ on) right) there));
          };
          set_ups = λ still n k known external. t.above (set_up_word (placed_of d n)) (past_the_first d n k (set_up_word (placed_of d n)) (fits.channels n k known) (of_set_up d fits n k known)) ∙ l.set_ups n k known ∙ h.set_ups on n k known external ∙ ap (λ o. set_up_code o) (sym (ap (λ z. z.set_up) (as_now n) ∙ like.set_up n));
          sizes = λ still n k known. record { written = λ i. ap length (ap (λ z. z.written) (as_now n) ∙ like.written n) ∙ (h.sizes on n k known).written i; set_up = λ i. subst (λ o. SetUpFits k o) (sym (ap (λ z. z.set_up) (as_now n) ∙ like.set_up n)) ((h.sizes on n k known).set_up i) };
          arrays = λ n. record {
            source = λ i lt. past_source n i (few_places d fits n i lt).0 (few_places d fits n i lt).1 ∙ (h.arrays n).source i lt ∙ ap (λ xs. word_at xs i) (sym (ap (λ z. z.source) (as_now n) ∙ like.source n));
            destination = λ i lt. t.above (place_of (Destination n) i) (omega arith) ∙ l.destinations n i lt ∙ ap (λ z. word_at z.destination i) (sym (as_now n));
          };
          lines = λ n lt. ap (λ x. has_bit x.control.enabled (26 + n)) t.rest ∙ ap (λ x. has_bit x.enabled (26 + n)) l.control ∙ h.lines n lt ∙ ap (λ m. is_interrupt m && not (is_sync_unit d n)) (sym mode);
          owed = owed;
        }

-- ---- a unit that starts jobs of pending sequences: what runs then, and the agreement with the start that the frame owes it

module _ (st : ToServe) (async : is_sync_unit st.d st.u ≡ false) where
  open st use {d, fits, below, chip, w, s, h, on, u, few, g, is}

  abbrev units_left : List (Option Run)
  units_left = with_item None s.units u None

  run_left : (n : ℕ) → n ≢ u → slice_index_or units_left n None ≡ run_at s n
  run_left n ne = item-other None s.units u n None ne

  pub others_run : (n : ℕ) → n ≢ g.pending.sequence → list_any (runs_sequence n) units_left ≡ is_running s n
  others_run n ne = any_changed (runs_sequence n) None s.units u None refl (sym (ap (runs_sequence n) (going_run d fits below chip w s h u g few async is).1 ∙ other_number g.pending.sequence n (λ e. ne (sym e))))

  pub none_runs : list_any (runs_sequence g.pending.sequence) units_left ≡ false
  none_runs = not_true (list_any (runs_sequence g.pending.sequence) units_left) (λ e. runs_nowhere (any_some (runs_sequence g.pending.sequence) units_left e))
    where
      q : ℕ
      q = g.pending.sequence

      -- two jobs of one sequence are one
      elsewhere : (n : ℕ) → n ≢ u → runs_sequence q (run_at s n) ≡ true → ⊥
      elsewhere n ne e = split (same_or_other n 0) (same_or_other n 1)
        where
          on_unit : n < 2 → (o : Option Going) → h.going n ≡ o → ⊥
          on_unit lt None f = let x = sym e ∙ ap (runs_sequence q) (going_free d fits below chip w s h n lt f) in cc
          on_unit lt (Some k) f = whether (is_sync_unit d n)
              (λ sync. let x = sym e ∙ ap (runs_sequence q) (runs_none_sync d fits below chip w s h n sync) in cc)
              (λ asks. others_differ st n k lt ne f (is_number k.pending.sequence q (sym (ap (runs_sequence q) (going_run d fits below chip w s h n k lt asks f).1) ∙ e)))

          split : (n ≡ 0) ⊎ (n ≢ 0) → (n ≡ 1) ⊎ (n ≢ 1) → ⊥
          split (inl a) b = on_unit (omega (arith, a)) (h.going n) refl
          split (inr a) (inl b) = on_unit (omega (arith, b)) (h.going n) refl
          split (inr a) (inr b) = idle (run_at s n) (h.sound.few n (omega (arith, a, b))) e
            where
              idle : (r : Option Run) → not (is_some r) ≡ true → runs_sequence q r ≡ true → ⊥
              idle None x y = cc
              idle (Some r) x y = cc

      runs_nowhere : (x : Option Run) × Contains units_left x × (runs_sequence q x ≡ true) → ⊥
      runs_nowhere (x, (n, lt, at), runs) = cases (same_or_other n u)
          (λ e. let f : None ≡ x = sym (item-same None s.units u None) ∙ ap (λ k. slice_index_or units_left k None) (sym e) ∙ same in let z = ap (runs_sequence q) f ∙ runs in cc)
          (λ ne. elsewhere n ne (ap (runs_sequence q) (sym (run_left n ne) ∙ same) ∙ runs))
        where
          same : slice_index_or units_left n None ≡ x
          same = get_or_default units_left n None x lt ∙ at

  pub few_run : (n : ℕ) → 2 ≤ n → not (is_some (slice_index_or units_left n None)) ≡ true
  few_run n le = ap (λ r. not (is_some r)) (run_left n (λ e. omega (arith, e, le, few))) ∙ h.sound.few n le

  pub calm_run : (n : ℕ) → is_sync_unit d n ≡ true → not (is_some (slice_index_or units_left n None)) ≡ true
  calm_run n sync = ap (λ r. not (is_some r)) (run_left n (other_one st async n sync)) ∙ h.sound.carries.idle n sync

  module _ (owner : Origin Call) (acted : Option Answer) (cs : List ChannelState) (like : IsFilled cs s) (c f : Chip) (l : Left st owner acted cs like c) (t : IsTold w c f) (ps : List Pending) (qs js : List AnswerName) where
    abbrev after : SpiState
    after = with_free s u cs ps qs js

    sending_left : AllSend d f w (going_left st) after below
    sending_left = sends_as d chip f w w h.going (going_left st) s after (λ n k lt sync e. going_other h.going u None n (other_one st async n sync)) (λ n k lt sync e. ap (λ x. (unit_at x.serials n).select) t.rest ∙ ap (λ x. x.select) (l.others n (other_one st async n sync)))
        (λ n k i x z lt sync e there known. t.above (held_word (placed_of d x.channel)) (past_the_first d x.channel z (held_word (placed_of d x.channel)) (fits.channels x.channel z known) (of_held d fits x.channel z known))
        ∙ l.held_away x.channel z known (λ j y at same. other_one st async n sync (one_job d fits below chip w s h on u n g k few lt is e j i y x at there (sym same)))) (λ n o knows. knows) below h.sending

    -- the other unit's sequence is still pending, so it goes on
    nexts_left : ((x : Pending) → Contains s.pending x → x.sequence ≢ g.pending.sequence → Contains ps x) → (n : ℕ) → n < 2 → RunsNext d (view after) n (going_left st n)
    nexts_left still n lt = by_unit (λ k o. RunsNext d (view after) k o) h.going u None tt n (λ ne. other ne (h.going n) refl (h.nexts n lt))
      where
        other : n ≢ u → (o : Option Going) → h.going n ≡ o → RunsNext d (view s) n o → RunsNext d (view after) n o
        other ne None e r = tt
        other ne (Some k) e r = split (is_sync_unit d n) refl
          where
            split : (b : Bool) → is_sync_unit d n ≡ b → RunsNext d (view after) n (Some k)
            split true i = let begun = subst (λ q. RunsBy q (view s) n k.pending) i r.1 in (all_carried (view after) n k.pending lt begun, subst (λ q. RunsBy q (view after) n k.pending) (sym i) begun, r.2)
            split false i =
                let asked = subst (λ q. RunsBy q (view s) n k.pending) i r.1 in
                let at = still k.pending asked.0 (others_differ st n k lt ne e) in
                (all_pending (view after) k.pending at, subst (λ q. RunsBy q (view after) n k.pending) (sym i) (at, asked.1), r.2)

    abbrev held_then : Reservations
    held_then = start_owed u owner acted ∷ below

    pub freed_agrees : IsSoundState d (view after) → ((x : Pending) → Contains s.pending x → x.sequence ≢ g.pending.sequence → Contains ps x) → SequencesAgree d (word_of f) (view after) → AreOwed d held_then (going_left st) after → SpiRepresents d held_then f w after
    freed_agrees sound still sequences owed =
        freed_as st owner acted cs like c f l t after refl refl held_then ((few, on, async), right_like d s cs like.source below h.right)
        (λ n lt asks. subst (λ x. UnitAgrees d (unit_at x.serials n) (run_at after n) (going_left st n)) (sym t.rest) (units_with st async c None None l.others l.unit n lt asks))
        (λ n lt sync. subst (λ x. CarriesAgrees d (unit_at x.serials n) (run_carried (carried_at s n)) (going_left st n)) (sym t.rest) (carried_with st async c None None l.others n lt sync))
        (tt, sending_left) h.carriers (λ n k agrees. agrees) sound (nexts_left still) sequences owed
