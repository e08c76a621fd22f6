-- A unit starts the round of the group that waits first, after its words and list registers took what the round has: all agrees again.
-- From adc_groups: bookkeeping.FrameRule, adc_groups: bookkeeping.RefinementRight and 14 more.
-- Used by adc_driver: bookkeeping.NoneWaitsPlaces, services.StartRight.
use Rattle.std.proofs.Common.{◌≡◌, ◌≢◌, ◌+◌, ◌-◌, ◌*◌, ◌/◌, ◌%◌, ◌<◌, ◌≤◌, ◌&&◌, ◌||◌, ◌==◌, [], ◌∙◌, ◌⊎◌}
use Rattle.std.proofs.Common.{if◌then◌else◌}
use Rattle.adc_laws.specs.turns.Terms
use Terms.{aborts, aborts_by, AdcState, AdcTable, Agrees, all_changed, AllRight, any_off, ap, arith, Backed}
use Terms.{BanksAgree, begun, bit_of, Bool, Call, cases, changed, Chip, chip_after, chosen_of, claim_past}
use Terms.{claim_right, claim_stays, claimed_parts, claims_on, cond, Converter, ConverterGo, Entry, eq_is, eq_other}
use Terms.{eq_self, false, few_inputs, first_held, FitsAdc, four_from, FrameHistory, Fresh, group_at, group_of}
use Terms.{group_same, group_word, GroupAgrees, GroupState, has_turn, HasUnit, HasWords, hold_in, HoldsOrder, inl}
use Terms.{inputs_of, inr, is_ahead, is_finished, is_handler, is_on, is_outranked, is_owed, is_round_of, is_some}
use Terms.{IsBefore, IsBlock, IsOrder, IsOver, IsRound, IsSound, IsSoundGroup, IsSoundRequest, kept_by, kept_in}
use Terms.{kept_of_round, kept_request, kept_word, length, length-drop, List, listener, listener_as, min, nat_lt}
use Terms.{nat_tests, newest, next_group, next_is, None, none_past, not, now_here, number_at, number_by, off_unit}
use Terms.{on_there, Option, order_of, order_waiting, Origin, other_at, phase_of, place_stays, Promised}
use Terms.{promised_same, put_of, rank_of, refl, Request, Reservations, ResultBuffer, Round, round_at, round_other}
use Terms.{round_same, round_turn, RoundAgrees, rounds_of, running_of, same_or_other, samples_of, slice_get}
use Terms.{slice_index, Some, some_hold, sound_past, SoundGroup, stands-agree, stands-move, stands_words, start_from}
use Terms.{started, starts, starts_by, starts_on, STATE, Stays, subst, sym, take_of, trio_group, trio_of, true}
use Terms.{turn_round, turn_same, unclaimed, unit_at-begun, unit_block, unit_is, unit_of, unit_other, unit_set}
use Terms.{waiting, waiting_sound, waits_for, waits_other, waits_turn, will_yield, Window, with_holds, with_waiting}
use Terms.{within, Word, word_number, word_of, World, Write, yields_below, ℕ}
use Rattle.adc_laws.specs.turns.laws.{words.ListedInputs.{listed_inputs}, services.ClaimEndRight.{claims_left}}
use Rattle.adc_laws.specs.turns.laws.services.ClaimEndRight.{unclaimed_spare}
use Rattle.chip_blocks.specs.converter.Converters as chips
use Rattle.chip_blocks.specs.converter.Rounds as rounds
use Rattle.adc_machine.specs.declared.table.Group as configured
use Rattle.mcal_base.specs.facts.Numbers.{lt_since}
use Rattle.std.proofs.lemmas.Bool.{not-false}

-- a word behind a unit's five isn't one that is stored ahead
not_ahead : (u k : ℕ) → ((i : ℕ) → i < 5 → k ≢ STATE + 8 + 8 * u + i) → is_ahead u k ≡ false
not_ahead u k h = is_off (is_ahead u k) refl
  where
    low_high : (n k : ℕ) → k == STATE + 8 + n || (k == STATE + 9 + n || (k == STATE + 10 + n || (k == STATE + 10 + n + 1 || k == STATE + 10 + n + 2))) ≡ true → (STATE + 8 + n ≤ k) × (k ≤ STATE + 12 + n)
    low_high n k e = (grind (arith, nat_tests), grind (arith, nat_tests))

    is_off : (q : Bool) → is_ahead u k ≡ q → q ≡ false
    is_off true e =
        let both = low_high (8 * u) k e in
        let low = both.0 in
        let high = both.1 in
        absurd (h (k - (STATE + 8 + 8 * u)) (omega (arith, low, high)) (omega (arith, low)))
    is_off false e = refl

-- a unit that starts what waits first on it has nothing more to start, and nothing to abort
module _ (d : AdcTable) (w : World) (s : AdcState) (u g : ℕ) (few : u < 2) (sound : IsSound d w s) (free : round_at s u ≡ None) (at : is_on u (group_of d g) ≡ true) (q : Request) (asks : (group_at s g).waiting ≡ Some q) (next : starts d s u ≡ Some g) where
  abbrev begins : Round
  begins = record { group = g; request = q; start = w.now }

  abbrev goes : AdcState
  goes = started w s u g

  goes_other : (k : ℕ) → k ≢ g → group_at goes k ≡ group_at s k
  goes_other k ne = other_at s g (record (group_at s g) { waiting = None }) (sound_past d s sound.groups) k ne

  pub goes_round : round_at (started w s u g) u ≡ Some (record { group = g; request = q; start = w.now })
  goes_round = round_same (with_waiting s g None) u (begun w g (group_at s g).waiting) few ∙ ap (λ r. begun w g r) asks

  none_higher : is_outranked d goes u g ≡ false
  none_higher = any_off (λ k. waits_for d goes u k && nat_lt (rank_of d g) (rank_of d k)) (λ k less. off (waits_for d goes u k) (nat_lt (rank_of d g) (rank_of d k)) (λ f. lt_since (rank_of d g) (rank_of d k) ((first k (before_it k f)).0)))
    where
      off : (i j : Bool) → (i ≡ true → j ≡ false) → i && j ≡ false
      off true j f = f refl
      off false j f = refl

      first : (k : ℕ) → waits_for d s u k ≡ true → IsBefore d s g k
      first = (next_is d s u g (sym (ap (λ r. starts_by r (next_group d s u)) free) ∙ next)).first

      before_it : (k : ℕ) → waits_for d goes u k ≡ true → waits_for d s u k ≡ true
      before_it k f = cases (same_or_other k g)
          (λ i. subst (λ n. waits_for d s u n ≡ true) (sym i) (ap (λ r. r && is_some (group_at s g).waiting) at ∙ ap (λ r. is_some r) asks))
          (λ ne. sym (ap (λ (v : GroupState). is_on u (group_of d k) && is_some v.waiting) (goes_other k ne)) ∙ f)

  pub none_starts : is_some (starts d (started w s u g) u) ≡ false
  none_starts = ap (λ r. is_some (starts_by r (next_group d goes u))) goes_round

  pub none_aborts : is_some (aborts d w (started w s u g) u) ≡ false
  none_aborts = ap (λ r. is_some (aborts_by d w goes u r)) goes_round ∙ (ap (λ r. is_some (cond (not (is_finished w (group_of d g) begins) && r) (Some begins) None)) none_higher ∙ and_off (not (is_finished w (group_of d g) begins)))
    where
      and_off : (r : Bool) → is_some (cond (r && false) (Some begins) None) ≡ false
      and_off true = refl
      and_off false = refl

-- the round of a free unit starts
module _ (d : AdcTable) (fits : FitsAdc d) (below : Reservations) (z : Chip) (ws : List ℕ) (w : World) (s : AdcState) (u g left y : ℕ) (c : Bool) (o : Origin Call) (p : FrameHistory) (few : u < 2) (on : s.initialised ≡ true) (free : round_at s u ≡ None) (at : is_on u (group_of d g) ≡ true) (q : Request) (asks : (group_at s g).waiting ≡ Some q) (next : starts d s u ≡ Some g)
    (claims_below : c ≡ false → some_hold (claims_on u) below ≡ false) (h : Agrees d (with_holds o p.acted (hold_in (Window.Convert u g c)) below) (record z { words = ws }) w s) (same_words : (k : ℕ) → is_ahead u k ≡ false → slice_index ws k ≡ word_of z k) (whole : HasWords z)
    (all_left : length q.kept + left ≡ length (inputs_of (group_of d g))) (lists : (i : ℕ) → i < (left + 3) / 4 → slice_index (chips.unit_at z.converters u).list i ≡ four_from (inputs_of (group_of d g)) (length q.kept + 4 * i))
    (runs : word_of z (word_number d (Word.Running u)) ≡ 1 + g) (unclaims : word_of z (word_number d (Word.Claim u)) ≡ 0) (xs : List Entry) (order_was : IsOrder d s u xs) (holds : HoldsOrder (order_of u) (word_of z) (waiting g false xs)) where
  abbrev before : Reservations
  before = with_holds o p.acted (hold_in (Window.Convert u g c)) below

  abbrev a : Chip
  a = record z { words = ws }

  abbrev pub b : Chip
  b = chip_after z (Write (ConverterGo u) left) y

  there : is_some (group_of d g) ≡ true
  there = on_there u (group_of d g) at

  here : unit_of (group_of d g) ≡ u
  here = unit_is d fits u (group_of d g) at

  sound_request : IsSoundRequest d s g q
  sound_request = h.sound.waits g q asks

  some_left : 1 ≤ left
  some_left = let k = sound_request.2 in omega (arith, k, all_left)

  few_left : left ≤ 32
  few_left = let most = few_inputs d fits g there in omega (arith, most, all_left)

  -- ---- the machine's state after it

  abbrev x : Round
  x = record { group = g; request = q; start = w.now }

  abbrev runs_now : GroupState
  runs_now = record (group_at s g) { waiting = None }

  abbrev pub t : AdcState
  t = started w s u g

  is_group : group_at t g ≡ runs_now
  is_group = group_same s g runs_now (within d g there)

  is_other : (k : ℕ) → k ≢ g → group_at t k ≡ group_at s k
  is_other k ne = other_at s g runs_now (sound_past d s h.sound.groups) k ne

  round_now : round_at t u ≡ Some x
  round_now = goes_round d w s u g few h.sound free at q asks next

  rounds_as : (v : ℕ) → v ≢ u → round_at t v ≡ round_at s v
  rounds_as v ne = round_other (with_waiting s g None) u (begun w g (group_at s g).waiting) (none_past d w s h.sound) v ne

  turn_was : has_turn s g ≡ true
  turn_was = waits_turn s g (ap (λ r. is_some r) asks)

  turn : has_turn t g ≡ true
  turn = round_turn t g u few (ap (λ r. is_round_of g r) round_now ∙ eq_self g)

  none_waits : (group_at t g).waiting ≡ None
  none_waits = ap (λ (v : GroupState). v.waiting) is_group

  kept_was : kept_in d s g ≡ q.kept
  kept_was = kept_request d fits w s h.sound g q asks

  kept_now : kept_in d t g ≡ q.kept
  kept_now =
      ap (λ (v : GroupState). kept_by v.waiting (kept_of_round g (round_at t (unit_of (group_of d g))))) is_group
      ∙ (ap (λ v. kept_of_round g (round_at t v)) here ∙ (ap (λ r. kept_of_round g r) round_now ∙ ap (λ e. if e then q.kept else []) (eq_self g)))

  numbers : (k : ℕ) → has_turn s k ≡ true → is_on u (group_of d k) ≡ true → number_at d t k ≡ number_at d s k
  numbers k turned unit = cases (same_or_other k g)
      (λ i. subst (λ n. number_at d t n ≡ number_at d s n) (sym i) own)
      (λ ne. ap (λ (v : GroupState). number_by v.waiting (round_at t (unit_of (group_of d k)))) (is_other k ne) ∙ not_waiting ne (group_at s k).waiting refl)
    where
      own : number_at d t g ≡ number_at d s g
      own =
          ap (λ (v : GroupState). number_by v.waiting (round_at t (unit_of (group_of d g)))) is_group
          ∙ (ap (λ v. number_by None (round_at t v)) here ∙ (ap (λ r. number_by None r) round_now ∙ sym (ap (λ r. number_by r (round_at s (unit_of (group_of d g)))) asks)))

      not_waiting : k ≢ g → (r : Option Request) → (group_at s k).waiting ≡ r → number_by r (round_at t (unit_of (group_of d k))) ≡ number_by r (round_at s (unit_of (group_of d k)))
      not_waiting ne (Some r) f = refl
      not_waiting ne None f = absurd (let on_unit = turn_round d fits w s h.sound u k turned f unit in let off : is_round_of k (round_at s u) ≡ false = ap (λ r. is_round_of k r) free in cc)

  sound : IsSoundGroup d t g
  sound = subst (λ v. SoundGroup (group_of d g) (has_turn t g) v) (sym is_group) (subst (λ r. SoundGroup (group_of d g) r runs_now) (turn_was ∙ sym turn) (waiting_sound (group_of d g) (has_turn s g) (group_at s g) None there (h.sound.groups g)))

  listens_as : (i : ℕ) → listener d t i ≡ listener d s i
  listens_as = listener_as d s t (λ k. cases (same_or_other k g)
      (λ i. subst (λ n. (group_at t n).trigger ≡ (group_at s n).trigger) (sym i) (ap (λ (v : GroupState). v.trigger) is_group))
      (λ ne. ap (λ (v : GroupState). v.trigger) (is_other k ne)))

  -- ---- claims before

  claim_before : (word_of a (word_number d (Word.Claim u)) ≡ (if c then 1 else 0)) × (some_hold (claims_on u) below ≡ false)
  claim_before = claim_was c claims_below h
    where
      claim_was : (v : Bool) → (v ≡ false → some_hold (claims_on u) below ≡ false) → Agrees d (with_holds o p.acted (hold_in (Window.Convert u g v)) below) a w s → (word_of a (word_number d (Word.Claim u)) ≡ (if v then 1 else 0)) × (some_hold (claims_on u) below ≡ false)
      claim_was true none k = claimed_parts u (word_of a (word_number d (Word.Claim u))) below (claim_right below u (word_of a (word_number d (Word.Claim u)))) ((k.settled on).claims u few)
      claim_was false none k = (eq_is (word_of a (word_number d (Word.Claim u))) 0 (not-false (word_of a (word_number d (Word.Claim u)) == 0) (sym (unclaimed u (word_of a (word_number d (Word.Claim u))) below ((k.settled on).claims u few)) ∙ none refl)), none refl)

  claim_small : (k : ℕ) → word_of a (word_number d (Word.Claim u)) ≢ 2 + k
  claim_small k i = by c (sym claim_before.0 ∙ i)
    where
      by : (v : Bool) → (if v then 1 else 0) ≡ 2 + k → ⊥
      by true f = omega (arith, f)
      by false f = omega (arith, f)

  claim_gone : (k : ℕ) → word_of b (word_number d (Word.Claim u)) ≢ 2 + k
  claim_gone k i = let none : 0 ≡ 2 + k = sym unclaims ∙ i in omega (arith, none)

  was : GroupAgrees d (word_of a) s g
  was = (h.settled on).groups g there

  -- ---- words

  elsewhere : (k : ℕ) → ((i : ℕ) → i < 5 → k ≢ STATE + 8 + 8 * u + i) → word_of b k ≡ word_of a k
  elsewhere k f = sym (same_words k (not_ahead u k f))

  low : (j : ℕ) → word_of b (group_word d g j) ≡ word_of a (group_word d g j)
  low j = elsewhere (group_word d g j) (λ i less f. let start = (start_from d fits g there).0 in omega (arith, f, less, start, few))

  kept_stays : (j : ℕ) → word_of b (kept_word (rounds_of d g) j) ≡ word_of a (kept_word (rounds_of d g) j)
  kept_stays j = let is : group_word d g (32 + 3 * length (inputs_of (group_of d g)) + j) ≡ kept_word (rounds_of d g) j = omega arith in subst (λ k. word_of b k ≡ word_of a k) is (low (32 + 3 * length (inputs_of (group_of d g)) + j))

  -- ---- the unit

  abbrev unit_a : Converter
  unit_a = chips.unit_at z.converters u

  has_unit : HasUnit z.converters u
  has_unit = record { all = h.block.all; within = few; past = h.block.past }

  over_before : IsOver unit_a.round z.converters.time
  over_before = subst (λ r. RoundAgrees d z.converters w unit_a r) free (h.rounds u few)

  is_unit : chips.unit_at b.converters u ≡ chips.begun left z.converters.time (chips.settled z.converters.levels z.converters.time unit_a)
  is_unit = unit_at-begun z.converters u left has_unit (ap (λ r. is_some r) over_before.1) some_left few_left

  other_units : (v : ℕ) → v ≢ u → chips.unit_at b.converters v ≡ chips.unit_at z.converters v
  other_units v ne = unit_other z.converters.units u v (chips.gone z.converters.levels left z.converters.time unit_a) ne

  time : z.converters.time ≡ w.now
  time = now_here a w h.outside

  is_round : IsRound (group_of d g) b.converters w (chips.unit_at b.converters u) x
  is_round = record {
    on = ap (λ (v : Converter). v.round.closed) is_unit;
    start = ap (λ (v : Converter). v.round.start) is_unit ∙ time;
    count = ap (λ (v : Converter). v.round.count) is_unit ∙ (let n = length-drop (length q.kept) (inputs_of (group_of d g)) in omega (arith, n, all_left));
    inputs = λ i input f.
        ap (λ (v : Converter). rounds.input_of v.round i) is_unit
        ∙ listed_inputs (inputs_of (group_of d g)) (length q.kept) left (chips.begun left z.converters.time (chips.settled z.converters.levels z.converters.time unit_a)).round (small_inputs (group_of d g) refl) all_left lists i input f;
    values = λ i input f le. absurd (omega (arith, le));
  }
    where
      small_inputs : (k : Option configured.Group) → group_of d g ≡ k → (i v : ℕ) → slice_get (inputs_of (group_of d g)) i ≡ Some v → v < 32
      small_inputs None f i v e = absurd (let off : is_some (group_of d g) ≡ false = ap (λ k. is_some k) f in let k = there in cc)
      small_inputs (Some k) f i v e = (fits.groups g k f).inputs i v (ap (λ k. slice_get (inputs_of k) i) (sym f) ∙ e)

  block_all : IsBlock b.converters w
  block_all =
      let there : u < length z.converters.units = (let all = h.block.all in omega (arith, all, few)) in
      let same = sym (unit_set z.converters.units u (chips.gone z.converters.levels left z.converters.time unit_a) there) ∙ is_unit in
      unit_block z.converters w u (chips.gone z.converters.levels left z.converters.time unit_a) h.block (λ less. ap (λ (v : Converter). length v.list) same ∙ h.block.lists u less)

  -- ---- all of it

  -- what the window holds besides is no bank and no place
  held_as : (v : Bool) → ((k : ℕ) → first_held (put_of d k) below ≡ first_held (put_of d k) (with_holds o p.acted (hold_in (Window.Convert u g v)) below)) × ((k : ℕ) → first_held (take_of k) below ≡ first_held (take_of k) (with_holds o p.acted (hold_in (Window.Convert u g v)) below))
      × ((k : ℕ) (n : ResultBuffer) (j : ℕ) → some_hold (is_owed k n j) (with_holds o p.acted (hold_in (Window.Convert u g v)) below) ≡ some_hold (is_owed k n j) below)
  held_as true = (λ k. refl, λ k. refl, λ k n j. refl)
  held_as false = (λ k. refl, λ k. refl, λ k n j. refl)

  stays : Stays d before below a b s t g u
  stays = record {
    on = on;
    still = on;
    requests = omega arith;
    others = is_other;
    rounds = rounds_as;
    from = λ r i ne. absurd (ne (let same : Some x ≡ Some r = sym round_now ∙ i in let k : x ≡ r = cc in ap (λ (v : Round). v.group) (sym k)));
    to = λ r i ne. absurd (let none : None ≡ Some r = sym free ∙ i in cc);
    results = λ k ne i j. refl;
    elsewhere = λ k f i. elsewhere k i;
    claim_from = λ k ne i. absurd (claim_gone k i);
    claim_to = λ k ne i. absurd (claim_small k i);
    unit = λ k ne i. absurd (claim_gone k i);
    units = λ v less ne. other_units v ne;
    levels = refl;
    time = refl;
    enabled = λ l i. refl;
    puts = λ k ne. (held_as c).0 k;
    takes = λ k ne. (held_as c).1 k;
  }

  right_below : AllRight d a w s below
  right_below = by c h.right
    where
      by : (v : Bool) → AllRight d a w s (with_holds o p.acted (hold_in (Window.Convert u g v)) below) → AllRight d a w s below
      by true k = k.1.1
      by false k = k.1

  right : AllRight d b w t below
  right = all_changed d fits before below a b w s t h g u at stays below (unclaimed_spare d a b s t g u (low 7) (λ m p. refl) below claim_before.1) right_below

  promised : (v : ℕ) → (v ≡ u) ⊎ (v ≢ u) → Promised d below w t v
  promised v (inl i) = subst (λ n. Promised d below w t n) (sym i) (record {
    starts = λ f. absurd (let none = none_starts d w s u g few h.sound free at q asks next in cc);
    yields = λ f. absurd (let none = none_aborts d w s u g few h.sound free at q asks next in cc);
  })
  promised v (inr ne) = promised_same d w s t v (rounds_as v ne) (waits_other d s t g v (off_unit d fits g u v at ne) (λ k nk. ap (λ (r : GroupState). is_some r.waiting) (is_other k nk))) before below (starts_less c) (yields_less c) ((h.settled on).promised v)
    where
      starts_less : (r : Bool) → some_hold (starts_on v) (with_holds o p.acted (hold_in (Window.Convert u g r)) below) ≡ true → some_hold (starts_on v) below ≡ true
      starts_less true f = sym (ap (λ k. k || some_hold (starts_on v) below) (eq_other v u ne)) ∙ f
      starts_less false f = sym (ap (λ k. k || some_hold (starts_on v) below) (eq_other v u ne)) ∙ f

      yields_less : (r : Bool) → will_yield v (with_holds o p.acted (hold_in (Window.Convert u g r)) below) ≡ true → will_yield v below ≡ true
      yields_less true f = yields_below ((v == u) && is_handler v o) (will_yield v below) f
      yields_less false f = yields_below ((v == u) && is_handler v o) (will_yield v below) f

  claims : (v : ℕ) → v < 2 → claim_right below v (word_of b (word_number d (Word.Claim v))) ≡ true
  claims = claims_left d u below a b claim_before.1 unclaims (claim_stays d fits before below a b w s t h g u at stays) (λ v less ne. by v ne c ((h.settled on).claims v less))
    where
      by : (v : ℕ) → v ≢ u → (r : Bool) → claim_right (with_holds o p.acted (hold_in (Window.Convert u g r)) below) v (word_of a (word_number d (Word.Claim v))) ≡ true → claim_right below v (word_of a (word_number d (Word.Claim v))) ≡ true
      by v ne true f = sym (claim_past v u _ _ ne) ∙ f
      by v ne false f = f

  unkept : word_of a (word_number d (Word.Claim (unit_of (group_of d g)))) ≢ 2 + g
  unkept i = claim_small g (ap (λ v. word_of a (word_number d (Word.Claim v))) (sym here) ∙ i)

  group : GroupAgrees d (word_of b) t g
  group = record {
    phase = low 0 ∙ (was.phase ∙ (ap (λ r. phase_of (group_at s g).status (r || (group_at s g).trigger)) (turn_was ∙ sym turn) ∙ sym (ap (λ (v : GroupState). phase_of v.status (has_turn t g || v.trigger)) is_group)));
    chosen = low 1 ∙ (was.chosen ∙ sym (ap (λ (v : GroupState). chosen_of v.chosen) is_group));
    notified = low 2 ∙ (was.notified ∙ sym (ap (λ (v : GroupState). bit_of v.notification) is_group));
    turn = low 3 ∙ (was.turn ∙ ap (λ r. bit_of r) (turn_was ∙ sym turn));
    count = λ ne. low 4 ∙ (was.count (λ i. ne (ap (λ (v : GroupState). v.status) is_group ∙ i)) ∙ sym (ap (λ (v : GroupState). min (length v.rounds) (samples_of (group_of d g))) is_group));
    place = λ ne. low 5 ∙ (was.place (λ i. ne (ap (λ (v : GroupState). v.status) is_group ∙ i)) ∙ sym (ap (λ (v : GroupState). length v.rounds % samples_of (group_of d g)) is_group));
    kept = λ turned ne. low 6 ∙ (was.kept turn_was unkept ∙ ap length (kept_was ∙ sym kept_now));
    values = λ turned ne i v f. kept_stays i ∙ was.values turn_was unkept i v (ap (λ vs. slice_get vs i) (kept_was ∙ sym kept_now) ∙ f);
  }

  banks : BanksAgree d below (word_of b) t g
  banks = let k = h.banks g there in record {
    banks = k.banks;
    stands = stands-agree (trio_of (rounds_of d g)) (word_of a) (word_of b) k.banks (trio_group d fits before below a b w s t h g u at stays (low 7)) k.stands;
    newest = λ ne more. k.newest (λ i. ne (ap (λ (v : GroupState). v.status) is_group ∙ i)) (subst (λ (v : GroupState). 0 < length v.rounds) is_group more) ∙ ap (λ (v : GroupState). newest v.rounds) (sym is_group);
    put = k.put ∙ sym ((held_as c).0 g);
    take = k.take ∙ sym ((held_as c).1 g);
  }

  order : IsOrder d t u (waiting g false xs)
  order = order_waiting d s t g u at (λ k ne. turn_same d fits before below a b w s t h g u at stays k ne) (λ k ne. ap (λ (v : GroupState). is_some v.waiting) (is_other k ne)) xs order_was numbers (turn ∙ sym turn_was) false (ap (λ r. is_some r) none_waits)

  fresh : Fresh d below b w t g u
  fresh = record {
    sound = sound;
    waits = λ r i. absurd (let none : None ≡ Some r = sym none_waits ∙ i in cc);
    runs = λ r i same. (none_waits, subst (λ (v : Round). v.start ≤ w.now) (is_x r i) (omega arith), subst (λ (v : Round). IsSoundRequest d t g v.request) (is_x r i) sound_request);
    marks = λ i f. ap (λ r. is_some r) (listens_as i) ∙ h.sound.marks i f;
    hears = λ turned i. ap (λ (v : GroupState). v.trigger) is_group ∙ h.sound.hears g turn_was i;
    outside = stands-move z w (Write (ConverterGo u) left) y (stands_words a z w refl whole h.outside);
    block = block_all;
    round = subst (λ r. RoundAgrees d b.converters w (chips.unit_at b.converters u) r) (sym round_now) is_round;
    triggers = record { gates = λ i less. h.triggers.gates i less ∙ ap (λ r. is_some r) (sym (listens_as i)); flags = h.triggers.flags; others = h.triggers.others };
    right = right;
    banks = banks;
    places = λ k n j less free_of. place_stays d fits before below a b w s t h g u at stays k n j ∙ h.places k n j less ((held_as c).2 k n j ∙ free_of);
    backed = backed c h.backed;
    group = group;
    unit = record { running = runs ∙ sym (ap (λ r. running_of r) round_now); order = (waiting g false xs, holds, order) };
    claims = claims;
    promised = λ v. promised v (same_or_other v u);
  }
    where
      is_x : (r : Round) → round_at t u ≡ Some r → x ≡ r
      is_x r i = let same : Some x ≡ Some r = sym round_now ∙ i in let k : x ≡ r = cc in k

      backed : (v : Bool) → Backed (with_holds o p.acted (hold_in (Window.Convert u g v)) below) → Backed below
      backed true k = k.1.1
      backed false k = k.1

  pub started_agrees : Agrees d below b w t
  started_agrees = changed d fits before below a b w s t h g u at stays fresh
