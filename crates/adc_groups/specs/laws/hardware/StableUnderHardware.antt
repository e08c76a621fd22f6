-- While nothing of the module's is made, words and registers go on agreeing: the hardware moves, or another module's frame does.
-- From words.WordsOfModule, services.InitSteps, words.OrderWords.
-- Used by bookkeeping.PendingWritesRight, hardware.HardwareMoves, adc_laws: turns.words.ListedInputs and 14 more.
use Rattle.std.proofs.Common.{◌≡◌, ◌≢◌, ◌+◌, ◌-◌, ◌*◌, ◌/◌, ◌%◌, ◌<◌, ◌≤◌, ◌&&◌, ◌||◌, ◌==◌, [], ◌∷◌, ◌++◌, ◌∙◌}
use Rattle.std.proofs.Common.{if◌then◌else◌}
use Rattle.adc_groups.specs.Terms
use Terms.{aborts_by, AdcState, AdcTable, Agrees, AllRight, ap, arith, Bank, bank_word, BanksAgree, Bool, Call, Chip}
use Terms.{claim_right, clear_at, Clears, Column, cond, Copies, CopiesRight, ends_at, false, Fills, FillsRight}
use Terms.{finish_of, FitsAdc, Full, FullRight, Group, group_at, group_of, group_word, GroupAgrees, has_bit}
use Terms.{has_ended-open, HeldRight, holds-agree, inputs_left, inputs_of, is_finished, is_on, is_outranked, is_some}
use Terms.{is_trigger_line, is_unit_line, is_word, IsBlock, IsOver, IsSound, IsSoundGroup, IsZero, Keeps, KeepsRight}
use Terms.{kept_by, kept_in, kept_of_round, kept_word, length, length-drop, levels_from, List, listener, lt_from}
use Terms.{mark_at, min, Move, nat_le, nat_tests, None, not, Option, order_of, own-control, PlacesAgree, Promised}
use Terms.{Reads, ReadsRight, refl, Request, Reservation, Reservations, ReservedBy, result_of, result_word, Round}
use Terms.{round_at, RoundAgrees, rounds_of, sample_at, Settled, slice_get, slice_get_within, Some, stands-agree}
use Terms.{StandsIn, STATE, subst, suc, sym, TriggersAgree, trio_of, true, unit_of, UnitAgrees, unwrap_or, values_of}
use Terms.{Whole, whole_values, WholeRight, Word, word_number, word_of, World, zero, ℕ}
use Rattle.word_shapes.specs.TripleBuffer.{listed}
use Rattle.adc_groups.specs.laws.words.{OrderWords.{order_kept}, WordsOfModule.{bank_words, claim_words, clear_words}}
use Rattle.adc_groups.specs.laws.words.WordsOfModule.{few_inputs, first_words, IsOwnStore, kept_words, left_small}
use Rattle.adc_groups.specs.laws.words.WordsOfModule.{low_words, on_there, order_words, place_words, running_words}
use Rattle.adc_groups.specs.laws.words.WordsOfModule.{trio_words, unit_small, unit_within}
use Rattle.chip_blocks.specs.converter.Converters as chips
use Rattle.chip_blocks.specs.converter.Rounds as rounds

-- a round goes on: what has ended keeps its result, and what ends meanwhile has its level
pub record GoesOn (a b : Chip) (w x : World) (u : ℕ) : Type 0 where
  pub round : (chips.unit_at b.converters u).round ≡ (chips.unit_at a.converters u).round
  pub ended : (i : ℕ) → i < 32 → rounds.has_ended (chips.unit_at a.converters u).round i a.converters.time ≡ true → result_of b u i ≡ result_of a u i
  pub fresh : (i input : ℕ) → i < (chips.unit_at a.converters u).round.count → (chips.unit_at a.converters u).round.closed ≡ None → input < 32 → rounds.input_of (chips.unit_at a.converters u).round i ≡ input
      → let end = (chips.unit_at a.converters u).round.start + 4 * (i + 1) in w.now < end → end ≤ x.now → result_of b u i ≡ sample_at x.samples input end

-- or it is over, and no frame keeps what it has
pub data UnitGoes (d : AdcTable) (a b : Chip) (w x : World) (s : AdcState) (u : ℕ) : Type 0 where
  Goes_on : GoesOn a b w x u → UnitGoes d a b w x s u
  Is_left : round_at s u ≡ None → IsOver (chips.unit_at b.converters u).round b.converters.time → ((g : ℕ) → word_of a (word_number d (Word.Claim u)) ≢ 2 + g) → UnitGoes d a b w x s u

-- what may happen so: the words stay, the rounds go on, and of the state the marks alone may change
pub record Onward (d : AdcTable) (a b : Chip) (w x : World) (s : AdcState) (ms : List Bool) : Type 0 where
  pub outside : StandsIn b x
  pub block : IsBlock b.converters x
  pub words : (k : ℕ) → is_word d k ≡ true → word_of b k ≡ word_of a k
  pub lines : (l : ℕ) → is_unit_line l || is_trigger_line l ≡ true → has_bit b.control.enabled l ≡ has_bit a.control.enabled l
  pub now : w.now ≤ x.now
  pub time : a.converters.time ≤ b.converters.time
  pub units : (u : ℕ) → u < 2 → UnitGoes d a b w x s u
  pub samples : (i at : ℕ) → at ≤ w.now → sample_at x.samples i at ≡ sample_at w.samples i at
  pub marks : (i : ℕ) → mark_at (record s { marks = ms }) i ≡ true → is_some (listener d s i) ≡ true
  pub off : s.initialised ≡ false → (i : ℕ) → mark_at (record s { marks = ms }) i ≡ false
  pub triggers : TriggersAgree d b.converters (record s { marks = ms })

-- ---- the machine's state

module _ (d : AdcTable) (w x : World) (s : AdcState) (ms : List Bool) where
  abbrev t : AdcState
  t = record s { marks = ms }

  sound_group : (g : ℕ) → IsSoundGroup d s g → IsSoundGroup d t g
  sound_group g h = record { configured = h.configured; chosen = h.chosen; turn = h.turn; trigger = h.trigger; input = h.input; going = h.going; rounds = h.rounds; stream = h.stream; linear = h.linear; lasts = h.lasts; whole = h.whole }

  sound_later : w.now ≤ x.now → ((i : ℕ) → mark_at t i ≡ true → is_some (listener d t i) ≡ true) → (s.initialised ≡ false → (i : ℕ) → mark_at t i ≡ false) → IsSound d w s → IsSound d x t
  sound_later le marks off h = record {
    groups = λ g. sound_group g (h.groups g);
    waits = h.waits;
    runs = λ u r e. let i = h.runs u r e in (i.0, i.1, i.2, (let past = i.3 in omega (arith, past, le)), i.4);
    marks = marks;
    hears = h.hears;
    rest = h.rest;
    off = off;
  }

-- ---- rounds by their times

later_number : (m n k : ℕ) → n ≤ k → nat_le m n ≡ true → nat_le m k ≡ true
later_number m n k le e = grind (arith, nat_tests)

module _ (w x : World) (le : w.now ≤ x.now) (same : (i at : ℕ) → at ≤ w.now → sample_at x.samples i at ≡ sample_at w.samples i at) where
  pub finished_later : (k : Option Group) (r : Round) → is_finished w k r ≡ true → is_finished x k r ≡ true
  finished_later k r e = later_number (finish_of k r) w.now x.now le e

  levels_same : (is : List ℕ) (at : ℕ) → at + 4 * length is ≤ w.now → levels_from x.samples at is ≡ levels_from w.samples at is
  levels_same [] at h = refl
  levels_same (i ∷ is) at h =
      let here : at + 4 ≤ w.now = omega (arith, h) in
      let rest : at + 4 + 4 * length is ≤ w.now = omega (arith, h) in
      ap (λ v. v ∷ levels_from x.samples (at + 4) is) (same i (at + 4) here) ∙ ap (λ vs. sample_at w.samples i (at + 4) ∷ vs) (levels_same is (at + 4) rest)

  pub values_same : (k : Option Group) (r : Round) → is_finished w k r ≡ true → values_of x k r ≡ values_of w k r
  values_same k r e =
      let done : r.start + 4 * length (inputs_left k r) ≤ w.now = grind (arith, nat_tests) in
      ap (λ vs. r.request.kept ++ vs) (levels_same (inputs_left k r) r.start done)

-- words in a row, where each is the same
pub listed_agree : (m k : ℕ → ℕ) (j n : ℕ) → ((i : ℕ) → i < n → m (j + i) ≡ k (j + i)) → listed m j n ≡ listed k j n
listed_agree m k j zero same = refl
listed_agree m k j (suc n) same =
    let here : m j ≡ k j = (let at : j + 0 ≡ j = omega arith in ap m (sym at) ∙ same 0 (omega arith) ∙ ap k at) in
    rw (here, listed_agree m k (j + 1) n (λ i lt. (let at : j + 1 + i ≡ j + suc i = omega arith in ap m at ∙ same (suc i) (omega arith) ∙ ap k (sym at)))) refl

-- the block's time
pub now_here : (chip : Chip) (w : World) → StandsIn chip w → chip.converters.time ≡ w.now
now_here chip w h = h.together.converters ∙ h.now

-- a value of a round is one of an input of its group
pub value_within : (w : World) (k : Option Group) (r : Round) (j v : ℕ) → length r.request.kept < length (inputs_of k) → slice_get (values_of w k r) j ≡ Some v → j < length (inputs_of k)
value_within w k r j v few at =
    let lt = slice_get_within (values_of w k r) j v at in
    let count = (whole_values w k r).count in
    let left = length-drop (length r.request.kept) (inputs_of k) in
    omega (arith, lt, count, left, few)

pub few_values : (d : AdcTable) (w : World) (s : AdcState) → IsSound d w s → (u : ℕ) (r : Round) (g : ℕ) → round_at s u ≡ Some r → r.group ≡ g → (j v : ℕ)
    → slice_get (values_of w (group_of d g) r) j ≡ Some v → j < length (inputs_of (group_of d g))
few_values d w s sound u r g e same j v at = value_within w (group_of d g) r j v (subst (λ k. length r.request.kept < length (inputs_of (group_of d k))) same (sound.runs u r e).4.2) at

module _ (d : AdcTable) (w : World) (s : AdcState) (sound : IsSound d w s) where
  -- what the turn of a group keeps is less than all values
  kept_by_round : (g : ℕ) (q : Option Round) → round_at s (unit_of (group_of d g)) ≡ q → (j v : ℕ) → slice_get (kept_of_round g q) j ≡ Some v → j < length (inputs_of (group_of d g))
  kept_by_round g None e j v at = absurd (cc)
  kept_by_round g (Some r) e j v at = kept_below_inputs (r.group == g) refl at
    where
      kept_below_inputs : (o : Bool) → (r.group == g) ≡ o → slice_get (if o then r.request.kept else []) j ≡ Some v → j < length (inputs_of (group_of d g))
      kept_below_inputs true i f =
          let same : r.group ≡ g = grind (arith, nat_tests) in
          let few : length r.request.kept < length (inputs_of (group_of d g)) = subst (λ y. length r.request.kept < length (inputs_of (group_of d y))) same (sound.runs (unit_of (group_of d g)) r e).4.2 in
          let lt = slice_get_within r.request.kept j v f in
          omega (arith, few, lt)
      kept_below_inputs false i f = absurd (cc)

  pub kept_within : (g j v : ℕ) → slice_get (kept_in d s g) j ≡ Some v → j < length (inputs_of (group_of d g))
  kept_within g j v at = by (group_at s g).waiting refl at
    where
      by : (q : Option Request) → (group_at s g).waiting ≡ q → slice_get (kept_by q (kept_of_round g (round_at s (unit_of (group_of d g))))) j ≡ Some v → j < length (inputs_of (group_of d g))
      by None f i = kept_by_round g (round_at s (unit_of (group_of d g))) refl j v i
      by (Some q) f i = let few = (sound.waits g q f).2 in let lt = slice_get_within q.kept j v i in omega (arith, few, lt)

-- ---- all parts of the agreement

module _ (d : AdcTable) (fits : FitsAdc d) (a b : Chip) (w x : World) (s : AdcState) (ms : List Bool) (on : Onward d a b w x s ms) where
  abbrev u_later : AdcState
  u_later = record s { marks = ms }

  word : (k : ℕ) → is_word d k ≡ true → word_of b k ≡ word_of a k
  word = on.words

  -- ---- what is held

  module _ (sound : IsSound d w s) (held : Reservations) (agree : (u : ℕ) → u < 2 → RoundAgrees d a.converters w (chips.unit_at a.converters u) (round_at s u)) where
    unit_below : (u g : ℕ) → is_on u (group_of d g) ≡ true → u < 2
    unit_below u g e = unit_within d fits u g e

    fills_later : (u g e : ℕ) (k : Bank) (i : ℕ) (v : Option ℕ) → is_on u (group_of d g) ≡ true → FillsRight d a w s u g e k i v → FillsRight d b x u_later u g e k i v
    fills_later u g e k i v at h = record {
      same = λ r f. let n = h.same r f in (n.0, n.1, finished_later w x on.now on.samples (group_of d g) r n.2);
      filled = λ r j n f lt is.
          let was = before r f j n is in
          word (bank_word (rounds_of d g) k j) (bank_words d fits g k j (on_there u (group_of d g) at) (few_values d w s sound u r g f (h.same r f).0 j n was)) ∙ h.filled r j n f lt was;
      next = λ r n f is. h.next r n f (before r f i n is);
    }
      where
        before : (r : Round) → round_at s u ≡ Some r → (j n : ℕ) → slice_get (values_of x (group_of d g) r) j ≡ Some n → slice_get (values_of w (group_of d g) r) j ≡ Some n
        before r f j n is = ap (λ vs. slice_get vs j) (sym (values_same w x on.now on.samples (group_of d g) r (h.same r f).2)) ∙ is

    full_later : (u g : ℕ) (k : Bank) → is_on u (group_of d g) ≡ true → FullRight d a w s u g k → FullRight d b x u_later u g k
    full_later u g k at h = record {
      same = λ r f. let n = h.same r f in (n.0, finished_later w x on.now on.samples (group_of d g) r n.1);
      filled = λ r j n f is.
          let was : slice_get (values_of w (group_of d g) r) j ≡ Some n = ap (λ vs. slice_get vs j) (sym (values_same w x on.now on.samples (group_of d g) r (h.same r f).1)) ∙ is in
          let lt = value_within w (group_of d g) r j n (subst (λ y. length r.request.kept < length (inputs_of (group_of d y))) (h.same r f).0 (sound.runs u r f).4.2) was in
          word (bank_word (rounds_of d g) k j) (bank_words d fits g k j (on_there u (group_of d g) at) lt) ∙ h.filled r j n f was;
    }

    whole_later : (u g n : ℕ) → is_on u (group_of d g) ≡ true → WholeRight d a s u g n → WholeRight d b u_later u g n
    whole_later u g n at h = record {
      waits = h.waits;
      count = h.count;
      kept = λ j v is. word (kept_word (rounds_of d g) j) (kept_words d fits g j (on_there u (group_of d g) at) (kept_within d w s sound g j v is)) ∙ h.kept j v is;
    }

    -- a round that is over stays as it is
    over_same : (r : rounds.Round) (m n : ℕ) → IsOver r m → m ≤ n → rounds.ended r n ≡ rounds.ended r m
    over_same r m n h le =
        let over : (q : Option ℕ) → q ≡ Some h.0 → min m (unwrap_or q m) ≡ h.0 = λ q e. (let at : unwrap_or q m ≡ h.0 = ap (λ y. unwrap_or y m) e in let past = h.2 in omega (arith, at, past)) in
        let overs : (q : Option ℕ) → q ≡ Some h.0 → min n (unwrap_or q n) ≡ h.0 = λ q e. (let at : unwrap_or q n ≡ h.0 = ap (λ y. unwrap_or y n) e in let past = h.2 in omega (arith, at, past, le)) in
        ap (λ t. min r.count ((t - r.start) / 4)) (overs r.closed h.1 ∙ sym (over r.closed h.1))

    over_at : (u : ℕ) → u < 2 → round_at s u ≡ None → IsOver (chips.unit_at a.converters u).round a.converters.time
    over_at u lt e = subst (RoundAgrees d a.converters w (chips.unit_at a.converters u)) e (agree u lt)

    ended_same : (u : ℕ) → u < 2 → GoesOn a b w x u → round_at s u ≡ None → rounds.ended (chips.unit_at b.converters u).round b.converters.time ≡ rounds.ended (chips.unit_at a.converters u).round a.converters.time
    ended_same u lt goes e = ap (λ r. rounds.ended r b.converters.time) goes.round ∙ over_same (chips.unit_at a.converters u).round a.converters.time b.converters.time (over_at u lt e) on.time

    keeps_later : (u g e : ℕ) (n : Option ℕ) (i : ℕ) (v : Option ℕ) → is_on u (group_of d g) ≡ true → round_at s u ≡ None → GoesOn a b w x u → KeepsRight d a s u g e n i v → KeepsRight d b u_later u g e n i v
    keeps_later u g e n i v at free goes h = record {
      waits = h.waits;
      count = h.count ∙ ap (λ y. e + y) (sym ended);
      told = λ k f. h.told k f ∙ sym ended;
      word = word (word_number d (Word.Kept g)) (low_words d fits g 6 there (omega arith)) ∙ h.word;
      kept = λ j y lt is. word (kept_word (rounds_of d g) j) (kept_words d fits g j there (kept_within d w s sound g j y is)) ∙ h.kept j y lt is;
      results = λ j y is. goes.ended j (few j y is) (has j y is) ∙ h.results j y is;
      next = h.next;
    }
      where
        there : is_some (group_of d g) ≡ true
        there = on_there u (group_of d g) at

        ended : rounds.ended (chips.unit_at b.converters u).round b.converters.time ≡ rounds.ended (chips.unit_at a.converters u).round a.converters.time
        ended = ended_same u (unit_below u g at) goes free

        many : (j y : ℕ) → slice_get (kept_in d s g) (e + j) ≡ Some y → j < rounds.ended (chips.unit_at a.converters u).round a.converters.time
        many j y is = let lt = slice_get_within (kept_in d s g) (e + j) y is in let count = h.count in omega (arith, lt, count)

        few : (j y : ℕ) → slice_get (kept_in d s g) (e + j) ≡ Some y → j < 32
        few j y is = let lt = kept_within d w s sound g (e + j) y is in let most = few_inputs d fits g there in omega (arith, lt, most)

        has : (j y : ℕ) → slice_get (kept_in d s g) (e + j) ≡ Some y → rounds.has_ended (chips.unit_at a.converters u).round j a.converters.time ≡ true
        has j y is = lt_from j (rounds.ended (chips.unit_at a.converters u).round a.converters.time) (many j y is)

    copies_later : (k : Bank) (c : Column) (i : ℕ) (v : Option ℕ) → is_some (group_of d c.group) ≡ true → CopiesRight d a s k c i v → CopiesRight d b u_later k c i v
    copies_later k c i v there h = record {
      newest = ap (λ y. y % 4) (word (trio_of (rounds_of d c.group)).control (trio_words d fits c.group (trio_of (rounds_of d c.group)).control there (own-control (trio_of (rounds_of d c.group))))) ∙ h.newest;
      values = λ j lt le. word (bank_word (rounds_of d c.group) k j) (bank_words d fits c.group k j there lt) ∙ h.values j lt le;
      next = h.next;
    }

    reads_later : (h : ReservedBy Call Reservation) (g : ℕ) (k : Bank) (vs : List ℕ) → is_some (group_of d g) ≡ true → ReadsRight d a h g k vs → ReadsRight d b h g k vs
    reads_later h g k vs there r = record {
      whole = r.whole;
      answered = r.answered;
      pinned = ap (λ y. y / 4) (word (trio_of (rounds_of d g)).control (trio_words d fits g (trio_of (rounds_of d g)).control there (own-control (trio_of (rounds_of d g))))) ∙ r.pinned;
      bank = (r.bank.0, listed_agree (word_of b) (word_of a) (bank_word (rounds_of d g) k 0) (length r.whole) (λ j lt. at j (let e = r.bank.0 in omega (arith, lt, e))) ∙ r.bank.1);
      front = r.front;
    }
      where
        at : (j : ℕ) → j < length (inputs_of (group_of d g)) → word_of b (bank_word (rounds_of d g) k 0 + j) ≡ word_of a (bank_word (rounds_of d g) k 0 + j)
        at j lt = let same : bank_word (rounds_of d g) k j ≡ bank_word (rounds_of d g) k 0 + j = omega arith in subst (λ y. word_of b y ≡ word_of a y) same (word (bank_word (rounds_of d g) k j) (bank_words d fits g k j there lt))

    zero_later : (made : Move) → IsOwnStore d made → IsZero a made → IsZero b made
    zero_later (Move.Store k v) own h = word k own ∙ h
    zero_later _ own h = tt

    kept_on : (u g e : ℕ) (n : Option ℕ) (i : ℕ) (v : Option ℕ) → is_on u (group_of d g) ≡ true → round_at s u ≡ None → word_of a (word_number d (Word.Claim u)) ≡ 2 + g → UnitGoes d a b w x s u → KeepsRight d a s u g e n i v → KeepsRight d b u_later u g e n i v
    kept_on u g e n i v at free claim (Goes_on goes) h = keeps_later u g e n i v at free goes h
    kept_on u g e n i v at free claim (Is_left none over unkept) h = absurd (unkept g claim)

    held_later : (h : ReservedBy Call Reservation) (y : Reservation) → HeldRight d a w s h y → HeldRight d b x u_later h y
    held_later h (Clears n) r = (r.0, r.1, λ i lt. zero_later (clear_at d i) (clear_words d fits i) (r.2 i lt))
    held_later h (Fills u g e k i v) r = (r.0, r.1, r.2, fills_later u g e k i v r.2 r.3)
    held_later h (Full u g k) r = (r.0, r.1, r.2, full_later u g k r.2 r.3)
    held_later h (Whole u g n) r = (r.0, r.1, r.2, λ e. whole_later u g n r.1 (r.3 (sym (word (word_number d (Word.Claim u)) (claim_words d u (unit_below u g r.1))) ∙ e)))
    held_later h (Keeps u g e n i v) r =
        let claim = λ (f : word_of b (word_number d (Word.Claim u)) ≡ 2 + g). sym (word (word_number d (Word.Claim u)) (claim_words d u (unit_below u g r.1))) ∙ f in
        (r.0, r.1, r.2, λ f. kept_on u g e n i v r.1 r.2 (claim f) (on.units u (unit_below u g r.1)) (r.3 (claim f)), λ f. r.4 (λ q. f (word (word_number d (Word.Claim u)) (claim_words d u (unit_below u g r.1)) ∙ q)))
    held_later h (Copies k c i v) r = (r.0, r.1, r.2, copies_later k c i v r.2 r.3)
    held_later h (Reads g k vs) r = (r.0, r.1, r.2, reads_later h g k vs r.2 r.3)
    held_later h _ r = r

    all_later : (hs : Reservations) → AllRight d a w s hs → AllRight d b x u_later hs
    all_later [] r = tt
    all_later (h ∷ hs) r = (held_later h h.what r.0, all_later hs r.1)

  -- ---- banks, rounds and places

  banks_later : (held : Reservations) (g : ℕ) → is_some (group_of d g) ≡ true → BanksAgree d held (word_of a) s g → BanksAgree d held (word_of b) u_later g
  banks_later held g there h = record {
    banks = h.banks;
    stands = stands-agree (trio_of (rounds_of d g)) (word_of a) (word_of b) h.banks (λ k own. sym (word k (trio_words d fits g k there own))) h.stands;
    newest = h.newest;
    put = h.put;
    take = h.take;
  }

  -- a round on the chip goes on
  round_by : a.converters.time ≡ w.now → (u : ℕ) → u < 2 → (q : Option Round) → round_at s u ≡ q → ((r : Round) → q ≡ Some r → is_on u (group_of d r.group) ≡ true) → UnitGoes d a b w x s u → RoundAgrees d a.converters w (chips.unit_at a.converters u) q → RoundAgrees d b.converters x (chips.unit_at b.converters u) q
  round_by same_time u lt None e at (Goes_on goes) h = let t = on.time in (h.0, ap (λ r. r.closed) goes.round ∙ h.1, (let past = h.2 in omega (arith, past, t)))
  round_by same_time u lt None e at (Is_left free over unkept) h = over
  round_by same_time u lt (Some r) e at (Is_left free over unkept) h = absurd (let f : Some r ≡ None = sym e ∙ free in cc)
  round_by same_time u lt (Some r) e at (Goes_on goes) h = record {
    on = ap (λ y. y.closed) goes.round ∙ h.on;
    start = ap (λ y. y.start) goes.round ∙ h.start;
    count = ap (λ y. y.count) goes.round ∙ h.count;
    inputs = λ i input is. ap (λ y. rounds.input_of y i) goes.round ∙ h.inputs i input is;
    values = λ i input is le. result_is_sample i input is le (nat_le (ends_at r i) w.now) refl;
  }
    where
      k : Option Group
      k = group_of d r.group

      there : is_some k ≡ true
      there = on_there u k (at r refl)

      listed : (i input : ℕ) → slice_get (inputs_left k r) i ≡ Some input → i < length (inputs_left k r)
      listed i input is = slice_get_within (inputs_left k r) i input is

      counted : (i input : ℕ) → slice_get (inputs_left k r) i ≡ Some input → i < (chips.unit_at a.converters u).round.count
      counted i input is = let l = listed i input is in let c = h.count in omega (arith, l, c)

      few : (i input : ℕ) → slice_get (inputs_left k r) i ≡ Some input → i < 32
      few i input is =
          let l = listed i input is in
          let left = length-drop (length r.request.kept) (inputs_of k) in
          let most = few_inputs d fits r.group there in
          omega (arith, l, left, most)

      has : (i input : ℕ) → slice_get (inputs_left k r) i ≡ Some input → ends_at r i ≤ w.now → rounds.has_ended (chips.unit_at a.converters u).round i a.converters.time ≡ true
      has i input is le =
          let began = h.start in
          let at = same_time in
          has_ended-open (chips.unit_at a.converters u).round i a.converters.time (ap (λ q. is_some q) h.on) (counted i input is) (omega (arith, le, began, at))

      result_is_sample : (i input : ℕ) → slice_get (inputs_left k r) i ≡ Some input → ends_at r i ≤ x.now → (q : Bool) → nat_le (ends_at r i) w.now ≡ q → chips.result b.converters.levels b.converters.time (chips.unit_at b.converters u) i ≡ sample_at x.samples input (ends_at r i)
      result_is_sample i input is le true e =
          let early : ends_at r i ≤ w.now = grind (arith, nat_tests) in
          goes.ended i (few i input is) (has i input is early) ∙ (h.values i input is early ∙ sym (on.samples input (ends_at r i) early))
      result_is_sample i input is le false e =
          let late : w.now < ends_at r i = grind (arith, nat_tests) in
          let began : ends_at r i ≡ (chips.unit_at a.converters u).round.start + 4 * (i + 1) = ap (λ y. y + 4 * (i + 1)) (sym h.start) in
          goes.fresh i input (counted i input is) h.on (left_small d fits r.group (length r.request.kept) i input there is) (h.inputs i input is) (subst (λ y. w.now < y) began late) (subst (λ y. y ≤ x.now) began le)
          ∙ ap (λ y. sample_at x.samples input y) (sym began)

  -- ---- the words of units and groups

  module _ (sound : IsSound d w s) (agree : (u : ℕ) → u < 2 → RoundAgrees d a.converters w (chips.unit_at a.converters u) (round_at s u)) where
    group_later : (g : ℕ) → is_some (group_of d g) ≡ true → GroupAgrees d (word_of a) s g → GroupAgrees d (word_of b) u_later g
    group_later g there h = record {
      phase = at 0 (omega arith) ∙ h.phase;
      chosen = at 1 (omega arith) ∙ h.chosen;
      notified = at 2 (omega arith) ∙ h.notified;
      turn = at 3 (omega arith) ∙ h.turn;
      count = λ e. at 4 (omega arith) ∙ h.count e;
      place = λ e. at 5 (omega arith) ∙ h.place e;
      kept = λ e f. at 6 (omega arith) ∙ h.kept e (λ i. f (claim ∙ i));
      values = λ e f i v is. word (kept_word (rounds_of d g) i) (kept_words d fits g i there (kept_within d w s sound g i v is)) ∙ h.values e (λ i. f (claim ∙ i)) i v is;
    }
      where
        at : (i : ℕ) → i < 32 → word_of b (group_word d g i) ≡ word_of a (group_word d g i)
        at i lt = word (group_word d g i) (low_words d fits g i there lt)

        claim : word_of b (word_number d (Word.Claim (unit_of (group_of d g)))) ≡ word_of a (word_number d (Word.Claim (unit_of (group_of d g))))
        claim = word (word_number d (Word.Claim (unit_of (group_of d g)))) (claim_words d (unit_of (group_of d g)) (unit_small d fits g there))

    unit_later : (u : ℕ) → u < 2 → UnitAgrees d (word_of a) s u → UnitAgrees d (word_of b) u_later u
    unit_later u lt h = record {
      running = word (word_number d (Word.Running u)) (running_words d u lt) ∙ h.running;
      order = (h.order.0, holds-agree (order_of u) (word_of a) (word_of b) h.order.0 (λ k own. sym (word k (order_words d u k lt own))) h.order.1, order_kept d s u_later u (λ k. refl) (λ k. refl) (λ k at. refl) h.order.0 h.order.2);
    }

    -- ---- no unit waits

    aborts_before : (fw fx o : Bool) (r : Round) → (fw ≡ true → fx ≡ true) → is_some (cond (not fx && o) (Some r) None) ≡ true → is_some (cond (not fw && o) (Some r) None) ≡ true
    aborts_before true false o r le e = absurd (let f = le refl in cc)
    aborts_before false false o r le e = e
    aborts_before _ _ o r le e = absurd (cc)

    aborts_by_before : (u : ℕ) (q : Option Round) → is_some (aborts_by d x u_later u q) ≡ true → is_some (aborts_by d w s u q) ≡ true
    aborts_by_before u None e = e
    aborts_by_before u (Some r) e = aborts_before (is_finished w (group_of d r.group) r) (is_finished x (group_of d r.group) r) (is_outranked d s u r.group) r (λ f. finished_later w x on.now on.samples (group_of d r.group) r f) e

    promised_later : (held : Reservations) (u : ℕ) → Promised d held w s u → Promised d held x u_later u
    promised_later held u h = record { starts = h.starts; yields = λ e. h.yields (aborts_by_before u (round_at s u) e) }

    settled_later : (held : Reservations) → Settled d held a w s → Settled d held b x u_later
    settled_later held h = record {
      groups = λ g there. group_later g there (h.groups g there);
      units = λ u lt. unit_later u lt (h.units u lt);
      claims = λ u lt. ap (λ y. claim_right held u y) (word (word_number d (Word.Claim u)) (claim_words d u lt)) ∙ h.claims u lt;
      lines = λ l e. on.lines l e ∙ h.lines l e;
      promised = λ u. promised_later held u (h.promised u);
    }

  places_later : (held : Reservations) → PlacesAgree d held (word_of a) s → PlacesAgree d held (word_of b) u_later
  places_later held h g k p lt free = word (result_word g k p) (place_words d g k p lt) ∙ h g k p lt free

pub onward_agrees : (d : AdcTable) → FitsAdc d → (a b : Chip) (w x : World) (s : AdcState) (ms : List Bool) → Onward d a b w x s ms → (held : Reservations) → Agrees d held a w s → Agrees d held b x (record s { marks = ms })
onward_agrees d fits a b w x s ms on held h = record {
  sound = sound_later d w x s ms on.now on.marks on.off h.sound;
  outside = on.outside;
  state = on.words STATE (first_words d 0 (omega arith)) ∙ h.state;
  right = all_later d fits a b w x s ms on h.sound held h.rounds held h.right;
  banks = λ g there. banks_later d fits a b w x s ms on held g there (h.banks g there);
  block = on.block;
  rounds = λ u lt. round_by d fits a b w x s ms on (now_here a w h.outside) u lt (round_at s u) refl (λ r e. (h.sound.runs u r e).1) (on.units u lt) (h.rounds u lt);
  triggers = on.triggers;
  places = places_later d fits a b w x s ms on held h.places;
  backed = h.backed;
  settled = λ e. settled_later d fits a b w x s ms on h.sound h.rounds held (h.settled e);
  left = λ off free g there. on.words (group_word d g 1) (low_words d fits g 1 there (omega arith)) ∙ h.left off free g there;
}
