-- A job moves on to its next word: which of its words are still to be begun, which were taken, the pins and the puts of its channels;
-- and with what came in kept, and stored in the machine, the words and registers stand for its state.
-- From words.Positions, spi_sequences: words.SameWords, bookkeeping.JobsApart and 5 more.
-- Used by sending.services.SendFurther, words.KeepingWords, services.FurtherRight, services.FreedUnit and 8 more.
use Rattle.std.proofs.Common.{◌≡◌, ◌≢◌, ◌+◌, ◌-◌, ◌<◌, ◌≤◌, ◌&&◌, ◌||◌, ◌==◌, [], ◌∷◌, ◌++◌, ◌∙◌, ◌⊎◌, if◌then◌else◌}
use Rattle.spi_laws.specs.serving.Terms
use Terms.{AllRight, AllSend, any_changed, ap, AreCarried, arith, BanksAgree, Bool, Call, carried_at, CarriesAgrees}
use Terms.{cases, Channel, channel-seen, channel_at, channel_of, ChannelState, Chip, Contains, Destination, drop, false}
use Terms.{few_places, FitsSpi, Goes, Going, going_words, GoingAgrees, has_bit, HasPart, held_word, HeldRight, inl, inr}
use Terms.{is_ahead, is_below, is_for, is_interrupt, is_off, is_owed, is_some, is_sync_unit, is_to_begin, IsReady}
use Terms.{IsSoundState, item-other, item-same, JobWord, Keeps, KeepsNone, length, length-append, length_by, List}
use Terms.{Memory, Mode, nat_lt, nat_tests, None, none_in, none_stored, not, Option, or_rest, other_number}
use Terms.{packed_position, Part, part_words, Pins, PinsNone, place_of, placed_of, pointwise, Position, position_word}
use Terms.{Preparing, put_by, put_held, PutRight, Putting, received_of, refl, Reservation, Reservations, ReservedBy}
use Terms.{Run, run_at, run_carried, RunAgrees, running_word, runs_sequence, RunsNext, same_number, same_or_other}
use Terms.{sends_as, sequences_stay, SequencesAgree, set_up_code, set_up_word, SetUpFits, slice_get, slice_index}
use Terms.{slice_index_or, Some, some_is, Source, source_word, SpiRepresents, SpiState, SpiTable, StandsIn, STATE}
use Terms.{stored, subst, suc, sym, take, taken_of, TakeRight, Taking, to_write, ToDestination, true, unit_at}
use Terms.{UnitAgrees, untouched, view, with_item, word_at, word_of, words_before, WordsAgree, Writing, ℕ}
use Rattle.spi_laws.specs.serving.laws.{bookkeeping.JobsApart.{agrees_at, for_at, is_same, one_job}, ToServe.{ToServe}}
use Rattle.spi_laws.specs.serving.laws.words.Positions.{before-less, before-next, begins_next, dropped-count, dropped-more}
use Rattle.spi_laws.specs.serving.laws.words.Positions.{Follows, get_within, Next, Same, Stands, taken-all, taken-same}

-- the job with its next word in transfer, after this one came in
abbrev pub moved_on : Going → Position → (came : ℕ) → Going
moved_on g p v = record g { at = p; received = g.received ++ v ∷ [] }

-- what units do, but for one of them
abbrev pub going_with : (ℕ → Option Going) → (number : ℕ) → Option Going → ℕ → Option Going
going_with f u o n = if n == u then o else f n

pub going_here : (f : ℕ → Option Going) (u : ℕ) (o : Option Going) → going_with f u o u ≡ o
going_here f u o = ap (λ q. if q then o else f u) (same_number u)

pub going_other : (f : ℕ → Option Going) (u : ℕ) (o : Option Going) (n : ℕ) → n ≢ u → going_with f u o n ≡ f n
going_other f u o n ne = ap (λ q. if q then o else f n) (other_number n u ne)

-- what is so of that unit and of the others is so of each
pub by_unit : (P : ℕ → Option Going → Type 0) (f : ℕ → Option Going) (u : ℕ) (o : Option Going) → P u o → (n : ℕ) → (n ≢ u → P n (f n)) → P n (going_with f u o n)
by_unit P f u o here n other = cases (same_or_other n u)
    (λ e. subst (λ k. P k (going_with f u o k)) (sym e) (subst (P u) (sym (going_here f u o)) here))
    (λ ne. subst (P n) (sym (going_other f u o n ne)) (other ne))

-- ---- places

module _ (a i b j n k : ℕ) where
  -- a is the place of the part and i of the word before, and b and j those after it
  same_begins : b ≡ a → j ≡ i + 1 → n ≢ b → (nat_lt a n || (n == a && nat_lt (i + 1) k)) ≡ (nat_lt b n || (n == b && nat_lt (j + 1) k))
  same_begins e f ne = grind (arith, nat_tests)

  next_begins : b ≡ a + 1 → (n ≡ a → k ≡ i + 1) → n ≢ b → (nat_lt a n || (n == a && nat_lt (i + 1) k)) ≡ (nat_lt b n || (n == b && nat_lt (j + 1) k))
  next_begins e f ne = grind (arith, nat_tests)

  here_begins : n ≡ b → (nat_lt b n || (n == b && nat_lt (j + 1) k)) ≡ nat_lt (j + 1) k
  here_begins e = grind (arith, nat_tests)

  same_taken : b ≡ a → n ≢ a → (if nat_lt n a then k else if n == a then i else 0) ≡ (if nat_lt n b then k else if n == b then j else 0)
  same_taken e ne = grind (arith, nat_tests)

  next_taken : b ≡ a + 1 → j ≡ 0 → n ≢ a → (if nat_lt n a then k else if n == a then i else 0) ≡ (if nat_lt n b then k else if n == b then j else 0)
  next_taken e f ne = grind (arith, nat_tests)

  same_taken_here : b ≡ a → j ≡ i + 1 → n ≡ a → (if nat_lt n b then k else if n == b then j else 0) ≡ i + 1
  same_taken_here e f g = grind (arith, nat_tests)

  next_taken_here : b ≡ a + 1 → n ≡ a → k ≡ i + 1 → (if nat_lt n b then k else if n == b then j else 0) ≡ i + 1
  next_taken_here e g f = grind (arith, nat_tests)

  ahead_before : (b ≡ a) ⊎ (b ≡ a + 1) → (b ≡ a → i < j) → (l : ℕ) → (nat_lt b n || (n == b && nat_lt j l)) ≡ true → (nat_lt a n || (n == a && nat_lt i l)) ≡ true
  ahead_before (inl e) f l g = let lt = f e in grind (arith, nat_tests)
  ahead_before (inr e) f l g = grind (arith, nat_tests)

-- ---- the job

module _ (d : SpiTable) (fits : FitsSpi d) (u : ℕ) (m : Memory) (g : Going) (for : is_for d u g.pending ≡ true) (h : GoingAgrees d m u g) (at : Stands d fits u m g for h g.at (length g.received)) where
  abbrev size : ℕ
  size = length at.part.values

  -- so many were taken of its part
  pub taken_at : taken_of g.at g.at.channel size ≡ g.at.word
  taken_at = before g.at.channel g.at.word size
    where
      before : (a i k : ℕ) → (if nat_lt a a then k else if a == a then i else 0) ≡ i
      before a i k = grind (arith, nat_tests)

  -- and came in before it
  pub came_before : length (drop (words_before g.parts g.at.channel) g.received) ≡ g.at.word
  came_before = let rest = dropped-count (words_before g.parts g.at.channel) g.received in let count = at.count in omega (arith, rest, count)

  pub received_before : received_of g g.at.channel at.part ≡ drop (words_before g.parts g.at.channel) g.received
  received_before =
      ap (λ t. take t (drop (words_before g.parts g.at.channel) g.received)) taken_at
      ∙ taken-all g.at.word (drop (words_before g.parts g.at.channel) g.received) (let count = came_before in omega (arith, count))

  pub received_length : length (received_of g g.at.channel at.part) ≡ g.at.word
  received_length = ap length received_before ∙ came_before

  module _ (p : Position) (next : Stands d fits u m g for h p (length g.received + 1)) (follows : Follows d fits u m g for h g.at p (length at.part.values)) (v : ℕ) where
    -- the part at the place of the word before is that one
    pub part_before : (n : ℕ) (x : Part) → slice_get g.parts n ≡ Some x → n ≡ g.at.channel → length x.values ≡ size
    part_before n x e same = ap (λ z. length z.values) (some_is x at.part (sym e ∙ ap (slice_get g.parts) same ∙ at.there))

    -- words of another part than the next word's are still to be begun where they were
    pub begins_same : (n : ℕ) (x : Part) → slice_get g.parts n ≡ Some x → n ≢ p.channel → is_to_begin g.at n (length x.values) ≡ is_to_begin p n (length x.values)
    begins_same n x e ne = by follows
      where
        by : Follows d fits u m g for h g.at p size → is_to_begin g.at n (length x.values) ≡ is_to_begin p n (length x.values)
        by (Same a b) = same_begins g.at.channel g.at.word p.channel p.word n (length x.values) a b ne
        by (Next a b c) = next_begins g.at.channel g.at.word p.channel p.word n (length x.values) a (λ same. part_before n x e same ∙ sym c) ne

    pub begins_here : (n : ℕ) (k : ℕ) → n ≡ p.channel → is_to_begin p n k ≡ nat_lt (p.word + 1) k
    begins_here n k e = here_begins g.at.channel g.at.word p.channel p.word n k e

    -- as many words of another part than the last word's were taken as were
    pub taken_same : (n : ℕ) (x : Part) → slice_get g.parts n ≡ Some x → n ≢ g.at.channel → taken_of g.at n (length x.values) ≡ taken_of p n (length x.values)
    taken_same n x e ne = by follows
      where
        by : Follows d fits u m g for h g.at p size → taken_of g.at n (length x.values) ≡ taken_of p n (length x.values)
        by (Same a b) = same_taken g.at.channel g.at.word p.channel p.word n (length x.values) a ne
        by (Next a b c) = next_taken g.at.channel g.at.word p.channel p.word n (length x.values) a b ne

    pub taken_here : taken_of p g.at.channel size ≡ g.at.word + 1
    taken_here = by follows
      where
        by : Follows d fits u m g for h g.at p size → taken_of p g.at.channel size ≡ g.at.word + 1
        by (Same a b) = same_taken_here g.at.channel g.at.word p.channel p.word g.at.channel size a b refl
        by (Next a b c) = next_taken_here g.at.channel g.at.word p.channel p.word g.at.channel size a refl (sym c)

    pub taken_before : taken_of g.at g.at.channel size ≡ g.at.word
    taken_before = taken_at

    pub ahead_still : (n i : ℕ) → is_ahead p n i ≡ true → is_ahead g.at n i ≡ true
    ahead_still n i e = by follows
      where
        by : Follows d fits u m g for h g.at p size → is_ahead g.at n i ≡ true
        by (Same a b) = ahead_before g.at.channel g.at.word p.channel p.word n 0 (inl a) (λ same. omega (arith, b)) i e
        by (Next a b c) = ahead_before g.at.channel g.at.word p.channel p.word n 0 (inr a) (λ same. absurd (omega (arith, a, same))) i e

    -- ---- what came in

    -- what was taken of a part before it came in
    taken_within : (n : ℕ) (x : Part) → slice_get g.parts n ≡ Some x → n ≢ g.at.channel → (taken_of g.at n (length x.values) ≡ 0) ⊎ (words_before g.parts n + taken_of g.at n (length x.values) ≤ length g.received)
    taken_within n x e ne = none_or_within (nat_lt n g.at.channel) refl
      where
        none_or_within : (q : Bool) → nat_lt n g.at.channel ≡ q → (taken_of g.at n (length x.values) ≡ 0) ⊎ (words_before g.parts n + taken_of g.at n (length x.values) ≤ length g.received)
        none_or_within true f =
            let lt = is_below n g.at.channel f in
            let more = before-next (λ z. length z.values) g.parts n x e in
            let le = before-less (λ z. length z.values) g.parts (suc n) g.at.channel (omega (arith, lt)) in
            let count = at.count in
            inr (subst (λ q. words_before g.parts n + (if q then length x.values else if n == g.at.channel then g.at.word else 0) ≤ length g.received) (sym f) (omega (arith, more, le, count)))
        none_or_within false f = inl (ap (λ q. if q then length x.values else if n == g.at.channel then g.at.word else 0) f ∙ ap (λ q. if q then g.at.word else 0) (other_number n g.at.channel ne))

    pub received_same : (n : ℕ) (x : Part) → slice_get g.parts n ≡ Some x → n ≢ g.at.channel → received_of (moved_on g p v) n x ≡ received_of g n x
    received_same n x e ne = ap (λ t. take t (drop (words_before g.parts n) (g.received ++ v ∷ []))) (sym (taken_same n x e ne)) ∙ words_same (taken_of g.at n (length x.values)) (taken_within n x e ne)
      where
        words_same : (t : ℕ) → (t ≡ 0) ⊎ (words_before g.parts n + t ≤ length g.received) → take t (drop (words_before g.parts n) (g.received ++ v ∷ [])) ≡ take t (drop (words_before g.parts n) g.received)
        words_same t (inl none) = subst (λ k. take k (drop (words_before g.parts n) (g.received ++ v ∷ [])) ≡ take k (drop (words_before g.parts n) g.received)) (sym none) refl
        words_same t (inr le) =
            ap (take t) (dropped-more (words_before g.parts n) g.received (v ∷ []) (omega (arith, le)))
            ∙ taken-same t (drop (words_before g.parts n) g.received) (v ∷ []) (let count = dropped-count (words_before g.parts n) g.received in omega (arith, count, le))

    pub received_here : received_of (moved_on g p v) g.at.channel at.part ≡ received_of g g.at.channel at.part ++ v ∷ []
    received_here =
        ap (λ t. take t (drop (words_before g.parts g.at.channel) (g.received ++ v ∷ []))) taken_here
        ∙ ap (take (g.at.word + 1)) (dropped-more (words_before g.parts g.at.channel) g.received (v ∷ []) (omega (arith, count)))
        ∙ taken-all (g.at.word + 1) (drop (words_before g.parts g.at.channel) g.received ++ v ∷ []) (omega (arith, whole, rest, count))
        ∙ ap (λ xs. xs ++ v ∷ []) (sym received_before)
      where
        count : length g.received ≡ words_before g.parts g.at.channel + g.at.word
        count = at.count

        rest : length (drop (words_before g.parts g.at.channel) g.received) ≡ length g.received - words_before g.parts g.at.channel
        rest = dropped-count (words_before g.parts g.at.channel) g.received

        whole : length (drop (words_before g.parts g.at.channel) g.received ++ v ∷ []) ≡ length (drop (words_before g.parts g.at.channel) g.received) + 1
        whole = length-append (drop (words_before g.parts g.at.channel) g.received) (v ∷ [])

-- ---- the pins and the puts of its channels

-- no frame of an initialised module puts what a channel received
pub none_received : (d : SpiTable) (mode : Mode) (cs : List ChannelState) (sources : ℕ → List ℕ) (c : ℕ) (hs : Reservations) → is_off mode ≡ false → AllRight d mode cs hs → put_held d sources c true hs ≡ None
none_received d mode cs sources c [] on r = refl
none_received d mode cs sources c (x ∷ xs) on r = ap (λ o. or_rest o (put_held d sources c true xs)) (one x x.what r.0) ∙ none_received d mode cs sources c xs on r.1
  where
    one : (x : ReservedBy Call Reservation) (y : Reservation) → HeldRight d mode cs x y → put_by d sources c true y ≡ None
    one x (Preparing ws rs y) r = absurd (let f = sym on ∙ r.1 in cc)
    one x _ r = refl

module _ (st : ToServe) where
  open st use {d, fits, below, chip, w, s, h, on, u, few, g, is}

  abbrev pub At : Position → ℕ → Type 0
  At q k = Stands d fits u (word_of chip) g (for_at d fits below chip w s h on u g few is) (agrees_at d fits below chip w s h on u g few is) q k

  abbrev pub After : Position → Position → ℕ → Type 0
  After q r k = Follows d fits u (word_of chip) g (for_at d fits below chip w s h on u g few is) (agrees_at d fits below chip w s h on u g few is) q r k

  module _ (at : At g.at (length g.received)) (p : Position) (next : At p (length g.received + 1)) (follows : After g.at p (length at.part.values)) (v : ℕ) where
    abbrev pub later : Going
    later = moved_on g p v

    abbrev pub going1 : ℕ → Option Going
    going1 = going_with h.going u (Some later)

    -- a channel's pin lasts while a further word of it is to be begun
    pub take_stays : (c : ℕ) (o : Option Taking) → (next.part.channel ≡ c → nat_lt (p.word + 1) (length next.part.values) ≡ true) → TakeRight h.going c o → TakeRight going1 c o
    take_stays c None more r = λ n lt. by_unit (λ k z. PinsNone z c) h.going u (Some later) (none (subst (λ z. PinsNone z c) is (r u few))) n (λ _. r n lt)
      where
        none : PinsNone (Some g) c → PinsNone (Some later) c
        none was = λ n x part. none_begins n x part (same_or_other n p.channel)
          where
            none_begins : (n : ℕ) (x : Part) → HasPart (Some g) c n x → (n ≡ p.channel) ⊎ (n ≢ p.channel) → is_to_begin p n (length x.values) ≡ false
            none_begins n x part (inl e) =
                let begins = begins_next d fits u (word_of chip) g (for_at d fits below chip w s h on u g few is) (agrees_at d fits below chip w s h on u g few is) g.at p (length at.part.values) (length next.part.values) follows next.inside in
                let same : next.part ≡ x = some_is next.part x (sym next.there ∙ ap (slice_get g.parts) (sym e) ∙ part.0) in
                absurd (let f = sym begins ∙ ap (λ k. is_to_begin g.at k (length next.part.values)) (sym e) ∙ ap (λ z. is_to_begin g.at n (length z.values)) same ∙ was n x part in cc)
            none_begins n x part (inr ne) = sym (begins_same d fits u (word_of chip) g (for_at d fits below chip w s h on u g few is) (agrees_at d fits below chip w s h on u g few is) at p next follows v n x part.0 ne) ∙ was n x part
    take_stays c (Some t) more (n, lt, pins) = take_right (same_or_other n u)
      where
        here : (k : ℕ) (x : Part) → HasPart (Some g) c k x → is_to_begin g.at k (length x.values) ≡ true → (k ≡ p.channel) ⊎ (k ≢ p.channel) → is_to_begin p k (length x.values) ≡ true
        here k x part begins (inl e) =
            let same : next.part ≡ x = some_is next.part x (sym next.there ∙ ap (slice_get g.parts) (sym e) ∙ part.0) in
            begins_here d fits u (word_of chip) g (for_at d fits below chip w s h on u g few is) (agrees_at d fits below chip w s h on u g few is) at p next follows v k (length x.values) e ∙ ap (λ z. nat_lt (p.word + 1) (length z.values)) (sym same) ∙ more (ap (λ z. z.channel) same ∙ part.1)
        here k x part begins (inr ne) = sym (begins_same d fits u (word_of chip) g (for_at d fits below chip w s h on u g few is) (agrees_at d fits below chip w s h on u g few is) at p next follows v k x part.0 ne) ∙ begins

        take_right : (n ≡ u) ⊎ (n ≢ u) → TakeRight going1 c (Some t)
        take_right (inl e) = (u, few, subst (λ z. Pins z c t.kept) (sym (going_here h.going u (Some later))) (pinned (subst (λ z. Pins z c t.kept) (ap h.going e ∙ is) pins)))
          where
            pinned : Pins (Some g) c t.kept → Pins (Some later) c t.kept
            pinned (k, x, part, begins, kept) = (k, x, part, here k x part begins (same_or_other k p.channel), kept)
        take_right (inr ne) = (n, lt, subst (λ z. Pins z c t.kept) (sym (going_other h.going u (Some later) n ne)) pins)

    -- and ends as its last word begins
    pub take_ends : nat_lt (p.word + 1) (length next.part.values) ≡ false → TakeRight going1 next.part.channel None
    take_ends last = λ n lt. by n lt (same_or_other n u)
      where
        none : PinsNone (Some later) next.part.channel
        none n x part =
            let one = is_same d fits below chip w s h on u g few is p.channel next.part next.there u g n x few is part.0 part.1 in
            begins_here d fits u (word_of chip) g (for_at d fits below chip w s h on u g few is) (agrees_at d fits below chip w s h on u g few is) at p next follows v n (length x.values) one.place ∙ ap (λ z. nat_lt (p.word + 1) (length z.values)) one.part ∙ last

        other : (n : ℕ) → n < 2 → n ≢ u → (o : Option Going) → h.going n ≡ o → PinsNone o next.part.channel
        other n lt ne None e = tt
        other n lt ne (Some k) e = λ j x part. absurd (ne (is_same d fits below chip w s h on u g few is p.channel next.part next.there n k j x lt e part.0 part.1).unit)

        by : (n : ℕ) → n < 2 → (n ≡ u) ⊎ (n ≢ u) → PinsNone (going1 n) next.part.channel
        by n lt (inl e) = subst (λ z. PinsNone z next.part.channel) (sym (ap going1 e ∙ going_here h.going u (Some later))) none
        by n lt (inr ne) = subst (λ z. PinsNone z next.part.channel) (sym (going_other h.going u (Some later) n ne)) (other n lt ne (h.going n) refl)

    -- what came in of another channel is kept as it was
    module _ (c : ℕ) (ne : at.part.channel ≢ c) (m1 : Memory) (same : m1 (held_word (placed_of d c)) ≡ word_of chip (held_word (placed_of d c))) where
      elsewhere : (n : ℕ) (x : Part) → HasPart (Some g) c n x → n ≢ g.at.channel
      elsewhere n x part e = ne (ap (λ z. z.channel) (some_is at.part x (sym at.there ∙ ap (slice_get g.parts) (sym e) ∙ part.0)) ∙ part.1)

      pub put_stays : (o : Option Putting) → PutRight h.going (word_of chip) (placed_of d c) None o → PutRight going1 m1 (placed_of d c) None o
      put_stays None r = λ n lt. by_unit (λ k z. KeepsNone z c) h.going u (Some later) (none (subst (λ z. KeepsNone z c) is (r u few))) n (λ _. r n lt)
        where
          none : KeepsNone (Some g) c → KeepsNone (Some later) c
          none was n x part = sym (taken_same d fits u (word_of chip) g (for_at d fits below chip w s h on u g few is) (agrees_at d fits below chip w s h on u g few is) at p next follows v n x part.0 (elsewhere n x part)) ∙ was n x part
      put_stays (Some t) (n, lt, keeps, bank) = put_right (same_or_other n u)
        where
          put_right : (n ≡ u) ⊎ (n ≢ u) → PutRight going1 m1 (placed_of d c) None (Some t)
          put_right (inl e) = (u, few, subst (λ z. Keeps z c t.filled) (sym (going_here h.going u (Some later))) (kept (subst (λ z. Keeps z c t.filled) (ap h.going e ∙ is) keeps)), same ∙ bank)
            where
              kept : Keeps (Some g) c t.filled → Keeps (Some later) c t.filled
              kept (k, x, part, some, filled) =
                  let taken = taken_same d fits u (word_of chip) g (for_at d fits below chip w s h on u g few is) (agrees_at d fits below chip w s h on u g few is) at p next follows v k x part.0 (elsewhere k x part) in
                  (k, x, part, subst (λ j. 0 < j) taken some, filled ∙ sym (received_same d fits u (word_of chip) g (for_at d fits below chip w s h on u g few is) (agrees_at d fits below chip w s h on u g few is) at p next follows v k x part.0 (elsewhere k x part)))
          put_right (inr other) = (n, lt, subst (λ z. Keeps z c t.filled) (sym (going_other h.going u (Some later) n other)) keeps, same ∙ bank)

    -- and the word that came in is kept after those of its channel
    pub put_more : (b : ℕ) (m1 : Memory) → m1 (held_word (placed_of d at.part.channel)) ≡ b → PutRight going1 m1 (placed_of d at.part.channel) None (Some (record { bank = b; filled = received_of g g.at.channel at.part ++ v ∷ [] }))
    put_more b m1 bank = (u, few, subst (λ z. Keeps z at.part.channel (received_of g g.at.channel at.part ++ v ∷ [])) (sym (going_here h.going u (Some later))) kept, bank)
      where
        kept : Keeps (Some later) at.part.channel (received_of g g.at.channel at.part ++ v ∷ [])
        kept = (
          g.at.channel,
          at.part,
          (at.there, refl),
          subst (λ n. 0 < n) (sym (taken_here d fits u (word_of chip) g (for_at d fits below chip w s h on u g few is) (agrees_at d fits below chip w s h on u g few is) at p next follows v)) (omega arith),
          sym (received_here d fits u (word_of chip) g (for_at d fits below chip w s h on u g few is) (agrees_at d fits below chip w s h on u g few is) at p next follows v),
        )

-- ---- what came in, as the machine stores it

-- ---- channels that differ in the users' destinations alone

pub record IsLike (cs : List ChannelState) (s : SpiState) : Type 0 where
  pub source : (n : ℕ) → (slice_index_or cs n untouched).source ≡ (channel_at s n).source
  pub set_up : (n : ℕ) → (slice_index_or cs n untouched).set_up ≡ (channel_at s n).set_up
  pub written : (n : ℕ) → (slice_index_or cs n untouched).written ≡ (channel_at s n).written
  pub received : (n : ℕ) → (slice_index_or cs n untouched).received ≡ (channel_at s n).received

-- channels alone
pub stored_is : (s : SpiState) (x : JobWord) (g : Goes) (v : ℕ) → stored s x g v ≡ record s { channels = (stored s x g v).channels }
stored_is s x ToDestination v = refl
stored_is s x _ v = refl

-- and of them the users' destinations alone
pub stored_like : (s : SpiState) (x : JobWord) (g : Goes) (v : ℕ) → IsLike (stored s x g v).channels s
stored_like s x ToDestination v = record {
  source = λ n. channel-seen (λ y. y.source) s x.channel n _ refl;
  set_up = λ n. channel-seen (λ y. y.set_up) s x.channel n _ refl;
  written = λ n. channel-seen (λ y. y.written) s x.channel n _ refl;
  received = λ n. channel-seen (λ y. y.received) s x.channel n _ refl;
}
stored_like s x _ v = record { source = λ n. refl; set_up = λ n. refl; written = λ n. refl; received = λ n. refl }

-- a word of a destination: the one that is stored, and the others
pub stored_there : (s : SpiState) (x : JobWord) (v : ℕ) → word_at (slice_index_or (stored s x ToDestination v).channels x.channel untouched).destination x.place ≡ v
stored_there s x v =
    ap (λ (y : ChannelState). word_at y.destination x.place) (item-same untouched s.channels x.channel (record (channel_at s x.channel) { destination = with_item 0 (channel_at s x.channel).destination x.place v }))
    ∙ item-same 0 (channel_at s x.channel).destination x.place v

pub stored_elsewhere : (s : SpiState) (x : JobWord) (v n i : ℕ) → (n ≢ x.channel) ⊎ (i ≢ x.place) → word_at (slice_index_or (stored s x ToDestination v).channels n untouched).destination i ≡ word_at (channel_at s n).destination i
stored_elsewhere s x v n i ne = word_unchanged (same_or_other n x.channel) ne
  where
    word_unchanged : (n ≡ x.channel) ⊎ (n ≢ x.channel) → (n ≢ x.channel) ⊎ (i ≢ x.place) → word_at (slice_index_or (with_item untouched s.channels x.channel (record (channel_at s x.channel) { destination = with_item 0 (channel_at s x.channel).destination x.place v })) n untouched).destination i ≡ word_at (channel_at s n).destination i
    word_unchanged (inr other) q = ap (λ (y : ChannelState). word_at y.destination i) (item-other untouched s.channels x.channel n (record (channel_at s x.channel) { destination = with_item 0 (channel_at s x.channel).destination x.place v }) other)
    word_unchanged (inl e) (inl other) = absurd (other e)
    word_unchanged (inl e) (inr other) =
        subst (λ k. word_at (slice_index_or (with_item untouched s.channels x.channel (record (channel_at s x.channel) { destination = with_item 0 (channel_at s x.channel).destination x.place v })) k untouched).destination i ≡ word_at (channel_at s k).destination i) (sym e)
        (ap (λ (y : ChannelState). word_at y.destination i) (item-same untouched s.channels x.channel (record (channel_at s x.channel) { destination = with_item 0 (channel_at s x.channel).destination x.place v })) ∙ item-other 0 (channel_at s x.channel).destination x.place i v other)

-- what is held is right as it was
pub right_like : (d : SpiTable) (s : SpiState) (cs : List ChannelState) → ((n : ℕ) → (slice_index_or cs n untouched).source ≡ (channel_at s n).source) → (hs : Reservations) → AllRight d s.mode s.channels hs → AllRight d s.mode cs hs
right_like d s cs like [] r = tt
right_like d s cs like (x ∷ xs) r = (one x x.what r.0, right_like d s cs like xs r.1)
  where
    one : (x : ReservedBy Call Reservation) (y : Reservation) → HeldRight d s.mode s.channels x y → HeldRight d s.mode cs x y
    one x (Writing n p b i y) r = (r.0, subst (λ xs. IsReady (to_write (channel_of d n) p xs) i y) (sym (like n)) r.1, r.2, r.3)
    one x _ r = r

-- ---- a state with another run on a unit

abbrev pub with_run_and : SpiState → (number : ℕ) → Run → List ChannelState → List (List (ℕ × ℕ)) → SpiState
with_run_and s u r cs ws = record s { channels = cs; units = with_item None s.units u (Some r); wires = ws }

module _ (s : SpiState) (u : ℕ) (q r : Run) (runs : run_at s u ≡ Some q) (same : r.sequence ≡ q.sequence) (cs : List ChannelState) (ws : List (List (ℕ × ℕ))) where
  abbrev after : SpiState
  after = with_run_and s u r cs ws

  running_as : (view after).running ≡ (view s).running
  running_as = pointwise (view after).running (view s).running (λ n. any_changed (runs_sequence n) None s.units u (Some r) refl (ap (runs_sequence n) (ap (λ z. Some (record q { sequence = z })) same) ∙ sym (ap (runs_sequence n) runs)))

  idle_as : (view after).idle ≡ (view s).idle
  idle_as = pointwise (view after).idle (view s).idle (λ n. ap not (cases (same_or_other n u)
      (λ e. subst (λ k. is_some (run_at after k) ≡ is_some (run_at s k)) (sym e) (ap is_some (item-same None s.units u (Some r)) ∙ sym (ap is_some runs)))
      (λ ne. ap is_some (item-other None s.units u n (Some r) ne))))

  pub view_as : IsLike cs s → view after ≡ view s
  view_as like =
      ap (λ f. record (view after) { running = f }) running_as ∙ ap (λ f. record (view after) { running = (view s).running; idle = f }) idle_as
      ∙ ap (λ f. record (view s) { written = f; received = (view after).received; sources = (view after).sources }) (pointwise (view after).written (view s).written like.written)
      ∙ ap (λ f. record (view s) { received = f; sources = (view after).sources }) (pointwise (view after).received (view s).received like.received)
      ∙ ap (λ f. record (view s) { sources = f }) (pointwise (view after).sources (view s).sources like.source)

-- ---- the units, where one of those that start jobs of pending sequences has another run

module _ (st : ToServe) (async : is_sync_unit st.d st.u ≡ false) where
  open st use {d, chip, s, h, u}

  -- a unit that carries out a sequence for a call is another one
  pub other_one : (n : ℕ) → is_sync_unit d n ≡ true → n ≢ u
  other_one n sync e = let f = sym sync ∙ ap (is_sync_unit d) e ∙ async in cc

  module _ (c : Chip) (r : Option Run) (o : Option Going) (others : (n : ℕ) → n ≢ u → unit_at c.serials n ≡ unit_at chip.serials n) where
    abbrev units : List (Option Run)
    units = with_item None s.units u r

    abbrev now : ℕ → Option Going
    now = going_with h.going u o

    pub units_with : UnitAgrees d (unit_at c.serials u) r o → (n : ℕ) → n < 2 → is_sync_unit d n ≡ false → UnitAgrees d (unit_at c.serials n) (slice_index_or units n None) (now n)
    units_with unit n lt asks = cases (same_or_other n u)
        (λ e. subst (λ k. UnitAgrees d (unit_at c.serials k) (slice_index_or units k None) (now k)) (sym e)
        (subst (λ z. UnitAgrees d (unit_at c.serials u) z (now u)) (sym (item-same None s.units u r))
        (subst (λ z. UnitAgrees d (unit_at c.serials u) r z) (sym (going_here h.going u o)) unit)))
        (λ ne. subst (λ x. UnitAgrees d x (slice_index_or units n None) (now n)) (sym (others n ne))
        (subst (λ z. UnitAgrees d (unit_at chip.serials n) z (now n)) (sym (item-other None s.units u n r ne))
        (subst (λ z. UnitAgrees d (unit_at chip.serials n) (run_at s n) z) (sym (going_other h.going u o n ne)) (h.units n lt asks))))

    pub carried_with : (n : ℕ) → n < 2 → is_sync_unit d n ≡ true → CarriesAgrees d (unit_at c.serials n) (run_carried (carried_at s n)) (now n)
    carried_with n lt sync =
        let ne = other_one n sync in
        subst (λ x. CarriesAgrees d x (run_carried (carried_at s n)) (now n)) (sym (others n ne))
        (subst (λ z. CarriesAgrees d (unit_at chip.serials n) (run_carried (carried_at s n)) z) (sym (going_other h.going u o n ne)) (h.sends n lt sync))

-- ---- the words and registers after them

module _ (st : ToServe) (at : At st st.g.at (length st.g.received)) (p : Position)
    (next : At st p (length st.g.received + 1)) (follows : After st st.g.at p (length at.part.values)) (v : ℕ) where
  open st use {d, fits, below, chip, w, s, h, on, u, few, g, is}

  abbrev pub going_on : Going
  going_on = later st at p next follows v

  abbrev pub going_after : ℕ → Option Going
  going_after = going1 st at p next follows v

  -- the words that are left of the agreement: the place of the word, what is held of its channels, and their banks
  pub record WordsAfter (c : Chip) : Type 0 where
    pub position : word_of c (position_word u) ≡ packed_position p
    pub first : (j : ℕ) → STATE ≤ j → j < STATE + 64 → j ≢ position_word u → word_of c j ≡ word_of chip j
    pub held : (n : ℕ) (k : Channel) → channel_of d n ≡ Some k → k.internal ≡ false → word_of c (held_word (placed_of d n)) ≡ word_of chip (held_word (placed_of d n))
    pub held_away : (n : ℕ) (k : Channel) → channel_of d n ≡ Some k → n ≢ at.part.channel → word_of c (held_word (placed_of d n)) ≡ word_of chip (held_word (placed_of d n))
    pub set_ups : (n : ℕ) (k : Channel) → channel_of d n ≡ Some k → word_of c (set_up_word (placed_of d n)) ≡ word_of chip (set_up_word (placed_of d n))
    pub sources : (n i : ℕ) → n < 16 → i < 64 → word_of c (place_of (Source n) i) ≡ word_of chip (place_of (Source n) i)
    pub banks : (n : ℕ) (k : Channel) → channel_of d n ≡ Some k → k.internal ≡ true → BanksAgree d below going_after (word_of c) (view s) n k

  module _ (c : Chip) (words : WordsAfter c) where
    abbrev represents : GoingAgrees d (word_of chip) u g
    represents = agrees_at d fits below chip w s h on u g few is

    abbrev for : is_for d u g.pending ≡ true
    for = for_at d fits below chip w s h on u g few is

    -- a part of a job looks at what is held of it, where it is external, and at its source
    held_stays : (k : Going) (i : ℕ) (x : Part) (z : Channel) → slice_get k.parts i ≡ Some x → channel_of d x.channel ≡ Some z → z.internal ≡ false → word_of c (held_word (placed_of d x.channel)) ≡ word_of chip (held_word (placed_of d x.channel))
    held_stays k i x z there known outside = words.held x.channel z known outside

    source_stays : (k : Going) (i : ℕ) (x : Part) (z : Channel) (j : ℕ) → slice_get k.parts i ≡ Some x → channel_of d x.channel ≡ Some z → j < length_by (channel_of d x.channel) → word_of c (source_word (placed_of d x.channel) j) ≡ word_of chip (source_word (placed_of d x.channel) j)
    source_stays k i x z j there known less = let small = few_places d fits x.channel j less in words.sources x.channel j small.0 small.1

    run_going : RunAgrees d (word_of c) u (Some going_on)
    run_going = record {
      channels = represents.channels;
      running = words.first (running_word u) (omega arith) (omega (arith, few)) (λ e. omega (arith, e)) ∙ represents.running;
      position = words.position;
      place = get_within g.parts p.channel next.part next.there;
      inside = λ x e. subst (λ z. p.word < length z.values) (some_is next.part x (sym next.there ∙ e)) next.inside;
      count = length-append g.received (v ∷ []) ∙ next.count;
      parts = λ n x e. (
        (represents.parts n x e).0,
        part_words d fits u (word_of chip) (word_of c) g for (held_stays g) (source_stays g) p n x (ahead_still d fits u (word_of chip) g for represents at p next follows v n)
            represents.channels e (placed_of d x.channel).channel.internal refl (represents.parts n x e).1,
      );
    }

    -- another unit's job looks at words that are as they were
    run_other : (n : ℕ) → n < 2 → n ≢ u → (o : Option Going) → h.going n ≡ o → RunAgrees d (word_of chip) n o → RunAgrees d (word_of c) n o
    run_other n lt ne None e r = words.first (running_word n) (omega arith) (omega (arith, lt)) (λ f. omega (arith, f, lt, few)) ∙ r
    run_other n lt ne (Some k) e r =
        going_words d fits n (word_of chip) (word_of c) k (for_at d fits below chip w s h on n k lt e) (held_stays k) (source_stays k)
        (words.first (running_word n) (omega arith) (omega (arith, lt)) (λ f. omega (arith, f, lt, few))) (words.first (position_word n) (omega arith) (omega (arith, lt)) (λ f. ne (omega (arith, f)))) r

    pub runs_after : (n : ℕ) → n < 2 → RunAgrees d (word_of c) n (going_after n)
    runs_after n lt = by_unit (λ k o. RunAgrees d (word_of c) k o) h.going u (Some going_on) run_going n (λ ne. run_other n lt ne (h.going n) refl ((h.words.on on).runs n lt))

    -- the words of sequences and jobs are as they were
    sequences_after : SequencesAgree d (word_of c) (view s)
    sequences_after = sequences_stay d fits (word_of chip) (word_of c) (view s) (λ k low high aside. words.first k (omega (arith, low)) high (aside u few).1) (h.words.on on).sequences

    -- the state after it is as it was but for the unit's run, the wire, and the users' destinations
    module _ (s1 : SpiState) (seen : view s1 ≡ view s) (like : IsLike s1.channels s) where
      -- held so
      pub begun_agrees : (held1 : Reservations) → AllRight d s1.mode s1.channels held1 → AllSend d c w going_after s1 held1 → AreCarried (view s) held1
          → ((n : ℕ) (k : Channel) → BanksAgree d below going_after (word_of c) (view s) n k → BanksAgree d held1 going_after (word_of c) (view s) n k) → ((n : ℕ) → is_owed n below ≡ true → is_owed n held1 ≡ true)
          → StandsIn c w → c.wiring ≡ chip.wiring → c.control ≡ chip.control → length c.serials.units ≡ 2
          → ((n : ℕ) → n < 2 → is_sync_unit d n ≡ false → UnitAgrees d (unit_at c.serials n) (run_at s1 n) (going_after n)) → ((n : ℕ) → n < 2 → is_sync_unit d n ≡ true → CarriesAgrees d (unit_at c.serials n) (run_carried (carried_at s1 n)) (going_after n))
          → ((n i : ℕ) → i < length_by (channel_of d n) → word_of c (place_of (Destination n) i) ≡ word_at (channel_at s1 n).destination i) → SpiRepresents d held1 c w s1
      begun_agrees held1 right sending carriers banks owed outside wiring control size asked sent destinations = record {
        right = right;
        outside = outside;
        wired = λ n lt. ap (λ x. slice_index x.sources n) wiring ∙ h.wired n lt;
        size = size;
        sound = subst (λ v. IsSoundState d v) (sym seen) h.sound;
        going = going_after;
        nexts = λ n lt. subst (λ v. RunsNext d v n (going_after n)) (sym seen) (by_unit (λ k o. RunsNext d (view s) k o) h.going u (Some going_on) (subst (λ o. RunsNext d (view s) u o) is (h.nexts u few)) n (λ _. h.nexts n lt));
        units = asked;
        sends = sent;
        sending = sending;
        carriers = subst (λ v. AreCarried v held1) (sym seen) carriers;
        words = subst (λ v. WordsAgree d held1 going_after (word_of c) v) (sym seen) (record {
          state = words.first STATE (omega arith) (omega arith) (λ e. omega (arith, e)) ∙ h.words.state;
          on = λ still. record { sequences = sequences_after; runs = runs_after };
          banks = λ n k known internal. banks n k (words.banks n k known internal);
          stored = λ j n is. absurd (none_in (j, n) (subst (λ xs. Contains xs (j, n)) (none_stored d s1.mode s1.channels held1 (ap is_off mode ∙ on) right) is));
        });
        set_ups = λ still n k known external. words.set_ups n k known ∙ h.set_ups on n k known external ∙ ap (λ o. set_up_code o) (sym (like.set_up n));
        sizes = λ still n k known. record { written = λ i. ap length (like.written n) ∙ (h.sizes on n k known).written i; set_up = λ i. subst (λ o. SetUpFits k o) (sym (like.set_up n)) ((h.sizes on n k known).set_up i) };
        arrays = λ n. record { source = λ i lt. words.sources n i (few_places d fits n i lt).0 (few_places d fits n i lt).1 ∙ (h.arrays n).source i lt ∙ ap (λ xs. word_at xs i) (sym (like.source n)); destination = λ i lt. destinations n i lt };
        lines = λ n lt. ap (λ x. has_bit x.enabled (26 + n)) control ∙ h.lines n lt ∙ ap (λ m. is_interrupt m && not (is_sync_unit d n)) (sym mode);
        owed = λ n z lt free there for. owed n (h.owed n z lt (still_free n free) (subst (λ ps. Contains ps z) (ap (λ v. v.pending) seen) there) for);
      }
        where
          mode : s1.mode ≡ s.mode
          mode = ap (λ v. v.mode) seen

          still_free : (n : ℕ) → going_after n ≡ None → h.going n ≡ None
          still_free n free = cases (same_or_other n u)
              (λ e. absurd (let f = sym (ap going_after e ∙ going_here h.going u (Some going_on)) ∙ free in cc))
              (λ ne. sym (going_other h.going u (Some going_on) n ne) ∙ free)

    -- of a unit that starts jobs of pending sequences
    module _ (async : is_sync_unit d u ≡ false) (r1 : Run) (cs : List ChannelState) (ws : List (List (ℕ × ℕ))) (q : Run) (runs : run_at s u ≡ Some q) (same : r1.sequence ≡ q.sequence) (like : IsLike cs s) where
      abbrev pub begun_state : SpiState
      begun_state = with_run_and s u r1 cs ws

      pub run_agrees : StandsIn c w → c.wiring ≡ chip.wiring → c.control ≡ chip.control → length c.serials.units ≡ 2 → UnitAgrees d (unit_at c.serials u) (Some r1) (Some going_on) → ((n : ℕ) → n ≢ u → unit_at c.serials n ≡ unit_at chip.serials n)
          → ((n i : ℕ) → i < length_by (channel_of d n) → word_of c (place_of (Destination n) i) ≡ word_at (slice_index_or cs n untouched).destination i) → SpiRepresents d below c w begun_state
      run_agrees outside wiring control size unit others destinations =
          begun_agrees begun_state (view_as s u q r1 runs same cs ws like) like below (right_like d s cs like.source below h.right)
          (sends_as d chip c w w h.going going_after s begun_state (λ n k lt sync e. going_other h.going u (Some going_on) n (other_one st async n sync)) (λ n k lt sync e. ap (λ x. x.select) (others n (other_one st async n sync)))
          (λ n k i x z lt sync e there known. words.held_away x.channel z known (λ f. other_one st async n sync (one_job d fits below chip w s h on u n g k few lt is e g.at.channel i at.part x at.there there f))) (λ n o knows. knows) below h.sending)
          h.carriers (λ n k agrees. agrees) (λ n owes. owes) outside wiring control size (units_with st async c (Some r1) (Some going_on) others unit) (carried_with st async c (Some r1) (Some going_on) others)
          destinations
