-- A call begins a stream and makes a request: the step at which it acts, and all that its window makes after that;
-- then what a turn that is gone leaves.
-- From words.StructureParts, bookkeeping.FrameRule, words.WordsOfModule, bookkeeping.PendingWritesRight and 10 more.
-- Used by services.StopRight, services.EnableTriggerRight, adc_driver: services.BeginSteps and 6 more.
use Rattle.std.proofs.Common.{◌≡◌, ◌≢◌, ◌+◌, ◌*◌, ◌/◌, ◌%◌, ◌<◌, ◌≤◌, ◌&&◌, ◌||◌, ◌==◌, [], ◌∷◌, ◌∙◌, if◌then◌else◌}
use Rattle.adc_groups.specs.Terms
use Terms.{aborts, acts_by, adc_bodies, adc_machine, AdcBody, AdcGround, AdcState, AdcTable, add-ends, add_start, added}
use Terms.{adding, after_list, after_request, Agrees, all_groups, AllMay, AllRight, Answer, ap, arith, asks_no, Backed}
use Terms.{BanksAgree, begun_stream, bit_of, body_ends, body_work, Bool, Busy, Call, Called, cases, Chip, chip_after}
use Terms.{chosen_of, circumstances, claim_right, CommitsTo, Completed, cond, Converters, deed_move, DiffersIn}
use Terms.{ended_at, Entry, entry, eq_self, error_by, Event, false, first_error, first_held, FitsAdc, fresh_history}
use Terms.{Group, group_at, group_of, group_same, group_word, GroupAgrees, GroupState, Has_acted, has_bit, has_input}
use Terms.{has_turn, HasWords, held_in, hold_in, HoldsOrder, Idle, is_handler, is_on, is_owed, is_round_of, is_some}
use Terms.{is_start_busy, is_there, Is_this_frame, is_triggered, is_word, IsBlock, IsOrder, IsSound, IsSoundRequest}
use Terms.{kept_by, kept_in, kept_of_round, length, length_after, List, listener, listener_among, listens, Makes}
use Terms.{making_owed, mark_at, MayCall, MayClose, MayStart, min, mod-eq_of_lt, newest, no_answer, None, not}
use Terms.{number_at, number_by, Option, or_parts, or_right, order_of, order_own, Origin, outcome, owed_of, owed_own}
use Terms.{phase_of, Promised, put_of, refl, Request, requested, Reservation, Reservations, ResultBuffer, RightOr}
use Terms.{Round, round_at, RoundAgrees, rounds_of, running_of, same_or_other, samples_of, Service, Set, settles_list}
use Terms.{settles_part, slice_get, Some, some_hold, some_same, SoundGroup, stands-agree, start, StartGroupConversion}
use Terms.{Starts, starts_on, STATE, Status, Store, StreamCompleted, StructureOp, subst, sym, take_of, tells_nothing}
use Terms.{trigger_input, TriggersAgree, trio_of, true, under_way_by, unit_at, unit_of, UnitAgrees, untouched, value_of}
use Terms.{whether_as, will_yield, Window, WindowWrite, with_holds, Word, word_number, word_of, World, Yields, zero-mod}
use Terms.{ℕ}
use Rattle.adc_groups.specs.laws.bookkeeping.FrameRule.{all_changed, all_spare, changed, claims_stay, Fresh}
use Rattle.adc_groups.specs.laws.bookkeeping.FrameRule.{no_keeper, place_stays, round_kept, Spares, Stays, trio_group}
use Rattle.adc_groups.specs.laws.{bookkeeping.FrameRule.{turn_same}, bookkeeping.PendingWritesRight.{none_yields}}
use Rattle.adc_groups.specs.laws.bookkeeping.PendingWritesRight.{promised_same, waits_other, yields_past}
use Rattle.adc_groups.specs.laws.bookkeeping.RefinementRight.{none_runs, none_waits}
use Rattle.adc_groups.specs.laws.{services.SingleWordCalls.{group_errors, not_reset}, words.OrderWords.{order_added}}
use Rattle.adc_groups.specs.laws.words.StoreOneWord.{other_at, past_untouched, sound_past}
use Rattle.adc_groups.specs.laws.words.StructureParts.{add_part, AllOf, deeds_listed, differs_none, low_last, low_set}
use Rattle.adc_groups.specs.laws.words.StructureParts.{lows_set, order_first, order_last, other_last, own_named}
use Rattle.adc_groups.specs.laws.words.StructureParts.{SetsOf, stands_last, unit_last, unit_set, units_set}
use Rattle.adc_groups.specs.laws.{words.StructureParts.{whole_first, word_there}, words.WordsOfModule.{low_words}}
use Rattle.adc_groups.specs.laws.words.WordsOfModule.{none_full, order_words, some_inputs, unit_is, unit_small}
use Rattle.adc_groups.specs.laws.words.WordsOfModule.{within}

-- a group that isn't under way has neither a turn nor an enabled trigger
pub none_under_way : (k : Option Group) (q : Bool) (x : GroupState) → SoundGroup k q x → under_way_by x.status q x.trigger ≡ false → (q ≡ false) × (x.trigger ≡ false)
none_under_way k q x h e = idle_only x.status refl
  where
    idle_only : (z : Status) → x.status ≡ z → (q ≡ false) × (x.trigger ≡ false)
    idle_only Idle f = (h.turn f, h.trigger f)
    idle_only Busy f = absurd (let i : under_way_by Busy q x.trigger ≡ false = ap (λ z. under_way_by z q x.trigger) (sym f) ∙ e in cc)
    idle_only Completed f = absurd (let i : under_way_by Completed q x.trigger ≡ false = ap (λ z. under_way_by z q x.trigger) (sym f) ∙ e in cc)
    idle_only StreamCompleted f = or_parts q x.trigger (ap (λ z. under_way_by z q x.trigger) (sym f) ∙ e)

-- so a round is another group's
pub runs_other : (s : AdcState) (g : ℕ) → has_turn s g ≡ false → (v : ℕ) (x : Round) → v < 2 → round_at s v ≡ Some x → x.group ≢ g
runs_other s g none v x less e same =
    let off : is_round_of g (round_at s v) ≡ false = none_runs s g none v less in
    let on : is_round_of g (Some x) ≡ true = ap (λ n. n == g) same ∙ eq_self g in
    let is : is_round_of g (round_at s v) ≡ is_round_of g (Some x) = ap (λ q. is_round_of g q) e in
    cc

pub on_own : (k : Option Group) → is_some k ≡ true → is_on (unit_of k) k ≡ true
on_own None e = absurd (cc)
on_own (Some k) e = eq_self k.unit

-- the same triggers are enabled
pub listener_as : (d : AdcTable) (s t : AdcState) → ((k : ℕ) → (group_at t k).trigger ≡ (group_at s k).trigger) → (i : ℕ) → listener d t i ≡ listener d s i
listener_as d s t same i = among all_groups
  where
    one : (k : ℕ) → listens d t i k ≡ listens d s i k
    one k = ap (λ q. has_input i (group_of d k) && q) (same k)

    among : (ks : List ℕ) → listener_among d t i ks ≡ listener_among d s i ks
    among [] = refl
    among (k ∷ ks) = ap (λ q. cond q (Some k) (listener_among d t i ks)) (one k) ∙ ap (λ o. cond (listens d s i k) (Some k) o) (among ks)

-- a group that software starts has no trigger input
no_input : (k : Option Group) → is_triggered k ≡ false → is_some (trigger_input k) ≡ true → ⊥
no_input None e i = absurd (cc)
no_input (Some x) e i = absurd (cc)

-- a number of a turn isn't above the last one
pub number_few : (d : AdcTable) (w : World) (s : AdcState) → IsSound d w s → (k : ℕ) → number_at d s k ≤ s.requests
number_few d w s sound k = by (group_at s k).waiting refl (round_at s (unit_of (group_of d k))) refl
  where
    by : (q : Option Request) → (group_at s k).waiting ≡ q → (r : Option Round) → round_at s (unit_of (group_of d k)) ≡ r → number_by q r ≤ s.requests
    by (Some q) e r f = (sound.waits k q e).1
    by None e (Some r) f = (sound.runs (unit_of (group_of d k)) r f).4.1
    by None e None f = omega arith

-- ---- what a frame holds that has made a request

abbrev pub asked_in : Bool → ℕ → List Reservation
asked_in q u = hold_in (if q then Window.Yield u else Window.Begin u)

module _ (o : Origin Call) (a : Option Answer) (u : ℕ) (below : Reservations) where
  abbrev pub asking : Bool → Reservations
  asking q = with_holds o a (asked_in q u) below

  pub asking_right : (d : AdcTable) (b : Chip) (w : World) (t : AdcState) (q : Bool) → t.initialised ≡ true → AllRight d b w t below → AllRight d b w t (asking q)
  asking_right d b w t true on r = (on, (on, r))
  asking_right d b w t false on r = (on, r)

  -- it is of no bank, no place and no claim
  pub asking_puts : (d : AdcTable) (k : ℕ) (q : Bool) → first_held (put_of d k) (asking q) ≡ first_held (put_of d k) below
  asking_puts d k true = refl
  asking_puts d k false = refl

  pub asking_takes : (k : ℕ) (q : Bool) → first_held (take_of k) (asking q) ≡ first_held (take_of k) below
  asking_takes k true = refl
  asking_takes k false = refl

  pub asking_owed : (k : ℕ) (n : ResultBuffer) (p : ℕ) (q : Bool) → some_hold (is_owed k n p) (asking q) ≡ some_hold (is_owed k n p) below
  asking_owed k n p true = refl
  asking_owed k n p false = refl

  pub asking_claims : (v x : ℕ) (q : Bool) → claim_right (asking q) v x ≡ claim_right below v x
  asking_claims v x true = refl
  asking_claims v x false = refl

  pub asking_backed : (q : Bool) → Backed below → Backed (asking q)
  asking_backed true h = (λ v e. absurd (cc), (λ v e. absurd (cc), h))
  asking_backed false h = (λ v e. absurd (cc), h)

  pub asking_starts : (q : Bool) → some_hold (starts_on u) (asking q) ≡ true
  asking_starts true = ap (λ b. b || some_hold (starts_on u) below) (eq_self u)
  asking_starts false = ap (λ b. b || some_hold (starts_on u) below) (eq_self u)

  pub asking_yields : will_yield u (asking true) ≡ true
  asking_yields = ap (λ b. b || (not ((u == u) && is_handler u o) && will_yield u below)) (eq_self u)

  pub asking_more : (p : Reservation → Bool) (q : Bool) → some_hold p below ≡ true → some_hold p (asking q) ≡ true
  asking_more p true e = or_right (p (Yields u)) (p (Starts u) || some_hold p below) (or_right (p (Starts u)) (some_hold p below) e)
  asking_more p false e = or_right (p (Starts u)) (some_hold p below) e

  -- a frame that isn't the handler of a unit's line leaves what is yielded there
  pub still_yields : (v : ℕ) (q : Bool) → is_handler v o ≡ false → will_yield v below ≡ true → will_yield v (asking q) ≡ true
  still_yields v true apart e = or_right (v == u) (not ((v == u) && is_handler v o) && will_yield v below) (yields_past (v == u) v o (will_yield v below) apart ∙ e)
  still_yields v false apart e = yields_past (v == u) v o (will_yield v below) apart ∙ e

-- what is promised once a group has made a request on its unit
pub asking_promised : (d : AdcTable) (o : Origin Call) (a : Option Answer) (below : Reservations) (w : World) (s t : AdcState) (g u : ℕ) → FitsAdc d → is_on u (group_of d g) ≡ true → ((v : ℕ) → is_handler v o ≡ false) → ((v : ℕ) → v ≢ u → round_at t v ≡ round_at s v) → ((k : ℕ) → k ≢ g → group_at t k ≡ group_at s k) → ((v : ℕ) → Promised d below w s v) → (v : ℕ) → Promised d (asking o a u below d.priorities) w t v
asking_promised d o a below w s t g u fits at apart rounds others was v = cases (same_or_other v u)
    (λ e. subst (λ n. Promised d (asking o a u below d.priorities) w t n) (sym e) here)
    (λ ne. promised_same d w s t v (rounds v ne) (waits_other d s t g v (off ne) (λ k nk. ap (λ (x : GroupState). is_some x.waiting) (others k nk))) below (asking o a u below d.priorities) (asking_more o a u below (starts_on v) d.priorities) (still_yields o a u below v d.priorities (apart v)) (was v))
  where
    yields : (q : Bool) → d.priorities ≡ q → is_some (aborts d w t u) ≡ true → will_yield u (asking o a u below q) ≡ true
    yields true e f = asking_yields o a u below
    yields false e f = absurd (let none = none_yields d w t u e in cc)

    here : Promised d (asking o a u below d.priorities) w t u
    here = record { starts = λ e. asking_starts o a u below d.priorities; yields = λ e. yields d.priorities refl e }

    off : v ≢ u → is_on v (group_of d g) ≡ false
    off ne = whether_as (is_on v (group_of d g)) (λ q. q ≡ false)
        (λ e. absurd (ne (sym (unit_is d fits v (group_of d g) e) ∙ unit_is d fits u (group_of d g) at))) (λ e. refl)

-- ---- a group that has no turn makes a request

-- the group with its request
abbrev pub asks : AdcState → GroupState → GroupState
asks y x = record x { waiting = Some (record { number = y.requests + 1; kept = [] }) }

-- a store of one of a group's first words may be owed
pub may_set : (d : AdcTable) → FitsAdc d → (g : ℕ) → is_some (group_of d g) ≡ true → (i v : ℕ) → i < 32
    → owed_own d (Store (group_word d g i) v) ≡ true
may_set d fits g there i v less = own_named d fits (λ k. is_word d k) (λ k e. e) (Store (group_word d g i) v) (low_words d fits g i there less)

module _ (y : AdcState) (g : ℕ) (lt : g < 16) (x : GroupState) (is : group_at y g ≡ x) where
  pub asked_group : group_at (requested y g) g ≡ asks y x
  asked_group = group_same y g (asks y (group_at y g)) lt ∙ ap (λ z. asks y z) is

  pub asked_turn : has_turn (requested y g) g ≡ true
  asked_turn = ap (λ (z : GroupState). is_some z.waiting || is_round_of g (round_at y 0) || is_round_of g (round_at y 1)) asked_group

  pub asked_kept : (d : AdcTable) → kept_in d (requested y g) g ≡ []
  asked_kept d = ap (λ (z : GroupState). kept_by z.waiting (kept_of_round g (round_at y (unit_of (group_of d g))))) asked_group

-- The state and the group before the request is made, the window's writes, and the converters after them.
pub record Requests (d : AdcTable) (chip : Chip) (w : World) (s : AdcState) (g : ℕ) (y : AdcState) (x : GroupState) (z : Converters) (deed : WindowWrite) (deeds : List WindowWrite) : Type 0 where
  pub on : s.initialised ≡ true
  pub still : y.initialised ≡ true
  pub there : is_some (group_of d g) ≡ true
  pub none : has_turn s g ≡ false
  pub group : group_at y g ≡ x
  pub others : (k : ℕ) → k ≢ g → group_at y k ≡ group_at s k
  pub past : (k : ℕ) → 16 ≤ k → group_at y k ≡ untouched
  pub requests : y.requests ≡ s.requests
  pub rounds : (v : ℕ) → round_at y v ≡ round_at s v
  pub results : y.results ≡ s.results
  pub marks : (i : ℕ) → mark_at y i ≡ true → mark_at s i ≡ true
  pub trigger : x.trigger ≡ (group_at s g).trigger
  pub hears : is_some (trigger_input (group_of d g)) ≡ true → x.trigger ≡ true
  pub newest : x.status ≢ Idle → 0 < length x.rounds → ((group_at s g).status ≢ Idle) × (x.rounds ≡ (group_at s g).rounds)
  pub sound : SoundGroup (group_of d g) true (asks y x)
  -- neither the group's control word nor a word of its unit is written
  pub first : SetsOf g (unit_of (group_of d g)) deed
  pub rest : AllOf g (unit_of (group_of d g)) deeds
  pub control : (v : ℕ) → lows_set deeds 7 (low_set deed 7 v) ≡ v
  pub unit : (j v : ℕ) → units_set deeds j (unit_set deed j v) ≡ v
  pub owed : (c : Chip)
      → AllMay (making_owed d) (deed_move d) (λ ds. owed_of d None None ds (after_request d (unit_of (group_of d g)))) c deeds
  pub words : (b : Chip) → ((j : ℕ) → word_of b (group_word d g j) ≡ lows_set deeds j (low_set deed j (word_of chip (group_word d g j))))
      → GroupAgrees d (word_of b) (requested y g) g
  pub registers : (c : Chip) → c ≡ record (chip_after chip (deed_move d deed) 0) { words = c.words }
      → ((after_list (deed_move d) c deeds).converters ≡ z) × ((after_list (deed_move d) c deeds).control ≡ chip.control)
  pub units : (v : ℕ) → unit_at z v ≡ unit_at chip.converters v
  pub levels : z.levels ≡ chip.converters.levels
  pub time : z.time ≡ chip.converters.time
  pub gates : z.gates ≡ chip.converters.gates
  pub flags : (i : ℕ) → i < 4 → has_bit z.pulses i ≡ mark_at y i
  pub few : z.pulses < 16
  pub block : IsBlock z w

module _ (d : AdcTable) (fits : FitsAdc d) (below : Reservations) (chip : Chip) (w : World) (s : AdcState) (h : Agrees d below chip w s) (o : Origin Call) (a : Option Answer) (apart : (v : ℕ) → is_handler v o ≡ false)
    (g : ℕ) (y : AdcState) (x : GroupState) (z : Converters) (deed : WindowWrite) (deeds : List WindowWrite) (q : Requests d chip w s g y x z deed deeds) where
  abbrev u : ℕ
  u = unit_of (group_of d g)

  abbrev t : AdcState
  t = requested y g

  abbrev after : Reservations
  after = asking o a u below d.priorities

  abbrev acted : Chip
  acted = chip_after chip (deed_move d deed) 0

  at : is_on u (group_of d g) ≡ true
  at = on_own (group_of d g) q.there

  few : u < 2
  few = unit_small d fits g q.there

  lt : g < 16
  lt = within d g q.there

  is_group : group_at t g ≡ asks y x
  is_group = asked_group y g lt x q.group

  is_other : (k : ℕ) → k ≢ g → group_at t k ≡ group_at s k
  is_other k ne = other_at y g (asks y (group_at y g)) q.past k ne ∙ q.others k ne

  trigger_as : (k : ℕ) → (group_at t k).trigger ≡ (group_at s k).trigger
  trigger_as k = cases (same_or_other k g)
      (λ e. subst (λ n. (group_at t n).trigger ≡ (group_at s n).trigger) (sym e) (ap (λ (v : GroupState). v.trigger) is_group ∙ q.trigger))
      (λ ne. ap (λ (v : GroupState). v.trigger) (is_other k ne))

  listens_as : (i : ℕ) → listener d t i ≡ listener d s i
  listens_as = listener_as d s t trigger_as

  waits_now : (r : Request) → (group_at t g).waiting ≡ Some r → r ≡ record { number = y.requests + 1; kept = [] }
  waits_now r e = some_same (sym e ∙ ap (λ (v : GroupState). v.waiting) is_group)

  unit_was : UnitAgrees d (word_of chip) s u
  unit_was = (h.settled q.on).units u few

  abbrev xs : List Entry
  xs = unit_was.order.0

  whole : HasWords chip
  whole = h.outside.all.words

  module _ (c : Chip) (differs : DiffersIn (order_own (order_of u)) acted c) (holds : HoldsOrder (order_of u) (word_of c) (added g xs)) where
    abbrev b : Chip
    b = after_list (deed_move d) c deeds

    low : (j : ℕ) → word_of b (group_word d g j) ≡ lows_set deeds j (low_set deed j (word_of chip (group_word d g j)))
    low = low_last d fits g u q.there few chip whole deed q.first c differs deeds q.rest

    control : word_of b (group_word d g 7) ≡ word_of chip (group_word d g 7)
    control = low 7 ∙ q.control (word_of chip (group_word d g 7))

    claim : word_of b (word_number d (Word.Claim u)) ≡ word_of chip (word_number d (Word.Claim u))
    claim = let is : STATE + 8 + 8 * u + 1 ≡ word_number d (Word.Claim u) = omega arith in subst (λ k. word_of b k ≡ word_of chip k) is (unit_last d fits g u q.there few chip whole deed q.first c differs deeds q.rest 1 (omega arith) ∙ q.unit 1 (word_of chip (STATE + 8 + 8 * u + 1)))

    running : word_of b (word_number d (Word.Running u)) ≡ word_of chip (word_number d (Word.Running u))
    running = let is : STATE + 8 + 8 * u + 0 ≡ word_number d (Word.Running u) = omega arith in subst (λ k. word_of b k ≡ word_of chip k) is (unit_last d fits g u q.there few chip whole deed q.first c differs deeds q.rest 0 (omega arith) ∙ q.unit 0 (word_of chip (STATE + 8 + 8 * u + 0)))

    block : b.converters ≡ z
    block = (q.registers c differs.rest).0

    stays : Stays d below after chip b s t g u
    stays = record {
      on = q.on;
      still = q.still;
      requests = let same = q.requests in omega (arith, same);
      others = is_other;
      rounds = λ v ne. q.rounds v;
      from = λ r e ne. sym (q.rounds u) ∙ e;
      to = λ r e ne. q.rounds u ∙ e;
      results = λ k ne n p. ap (λ rs. held_in rs k n p) q.results;
      elsewhere = other_last d fits g u q.there few chip whole deed q.first c differs deeds q.rest;
      claim_from = λ k ne e. sym claim ∙ e;
      claim_to = λ k ne e. claim ∙ e;
      unit = λ k ne e. ap (λ v. unit_at v u) block ∙ q.units u;
      units = λ v less ne. ap (λ c. unit_at c v) block ∙ q.units v;
      levels = ap (λ (v : Converters). v.levels) block ∙ q.levels;
      time = ap (λ (v : Converters). v.time) block ∙ q.time;
      enabled = λ l e. ap (λ v. has_bit v.enabled l) (q.registers c differs.rest).1;
      puts = λ k ne. asking_puts o a u below d k d.priorities;
      takes = λ k ne. asking_takes o a u below k d.priorities;
    }

    unkept : word_of chip (word_number d (Word.Claim u)) ≢ 2 + g
    unkept = no_keeper d chip w s g u (none_waits s g q.none) below h.right ((h.settled q.on).claims u few)

    spares : (v : Reservation) → Spares d chip b s t g u v
    spares v = record {
      rounds = λ on r e. sym (q.rounds u) ∙ e;
      unkept = λ on e. unkept (sym claim ∙ e);
      lost = λ on. asked_kept y g lt x q.group d;
      copies = λ n k i r e same. (ap (λ j. j % 4) control, λ n p. ap (λ rs. held_in rs g n p) q.results);
      reads = λ k n vs e same. ap (λ j. j / 4) control;
    }

    order : IsOrder d t u (added g xs)
    order = order_added d s t g u at (λ k ne. turn_same d fits below after chip b w s t h g u at stays k ne) (λ k ne. ap (λ (v : GroupState). is_some v.waiting) (is_other k ne)) xs unit_was.order.2
        (λ k ne on. ap (λ (v : GroupState). number_by v.waiting (round_at y (unit_of (group_of d k)))) (is_other k ne) ∙ ap (λ r. number_by (group_at s k).waiting r) (q.rounds (unit_of (group_of d k))))
        q.none (asked_turn y g lt x q.group) (ap (λ (v : GroupState). is_some v.waiting) is_group)
        (λ k on. let le = number_few d w s h.sound k in let same = q.requests in let is : number_at d t g ≡ y.requests + 1 = ap (λ (v : GroupState). number_by v.waiting (round_at y u)) is_group in subst (λ n. number_at d s k < n) (sym is) (omega (arith, le, same)))

    banks : BanksAgree d after (word_of b) t g
    banks =
        let k = h.banks g q.there in record {
          banks = k.banks;
          stands = stands-agree (trio_of (rounds_of d g)) (word_of chip) (word_of b) k.banks (trio_group d fits below after chip b w s t h g u at stays control) k.stands;
          newest = λ e more.
              let n = q.newest (λ i. e (ap (λ (v : GroupState). v.status) is_group ∙ i)) (subst (λ (v : GroupState). 0 < length v.rounds) is_group more) in
              k.newest n.0 (subst (λ rs. 0 < length rs) (ap (λ (v : GroupState). v.rounds) is_group ∙ n.1) more) ∙ ap (λ rs. newest rs) (sym (ap (λ (v : GroupState). v.rounds) is_group ∙ n.1));
          put = k.put ∙ sym (asking_puts o a u below d g d.priorities);
          take = k.take ∙ sym (asking_takes o a u below g d.priorities);
        }

    fresh : Fresh d after b w t g u
    fresh = record {
      sound = subst (λ v. SoundGroup (group_of d g) (has_turn t g) v) (sym is_group) (subst (λ on. SoundGroup (group_of d g) on (asks y x)) (sym (asked_turn y g lt x q.group)) q.sound);
      waits = λ r e. subst (λ (v : Request). IsSoundRequest d t g v) (sym (waits_now r e)) (omega arith, omega arith, some_inputs d fits g q.there, λ e. refl);
      runs = λ r e same. absurd (runs_other s g q.none u r few (sym (q.rounds u) ∙ e) same);
      marks = λ i e. ap (λ k. is_some k) (listens_as i) ∙ h.sound.marks i (q.marks i e);
      hears = λ e i. ap (λ (v : GroupState). v.trigger) is_group ∙ q.hears i;
      outside = stands_last d fits g u q.there few chip whole deed q.first c differs deeds q.rest w h.outside;
      block = subst (λ v. IsBlock v w) (sym block) q.block;
      round = subst (λ v. RoundAgrees d v w (unit_at v u) (round_at t u)) (sym block) (subst (λ r. RoundAgrees d z w (unit_at z u) r) (sym (q.rounds u)) (round_kept d chip.converters z w (unit_at chip.converters u) (unit_at z u) (round_at s u) (q.units u) q.levels q.time (h.rounds u few)));
      triggers = subst (λ v. TriggersAgree d v t) (sym block) (record {
        gates = λ i less. ap (λ n. has_bit n i) q.gates ∙ (h.triggers.gates i less ∙ ap (λ k. is_some k) (sym (listens_as i)));
        flags = q.flags;
        others = q.few;
      });
      right = asking_right o a u below d b w t d.priorities q.still (all_changed d fits below after chip b w s t h g u at stays below (all_spare d chip b s t g u spares below) h.right);
      banks = banks;
      places = λ k n p less free. place_stays d fits below after chip b w s t h g u at stays k n p ∙ (h.places k n p less (sym (asking_owed o a u below k n p d.priorities) ∙ free) ∙ ap (λ rs. held_in rs k n p) (sym q.results));
      backed = asking_backed o a u below d.priorities h.backed;
      group = q.words b low;
      unit = record { running = running ∙ (unit_was.running ∙ ap (λ r. running_of r) (sym (q.rounds u))); order = (added g xs, order_last d fits g u q.there few chip whole deed q.first c differs deeds q.rest (added g xs) holds, order) };
      claims = λ v less. asking_claims o a u below v (word_of b (word_number d (Word.Claim v))) d.priorities ∙ (ap (λ n. claim_right below v n) (claims_stay d fits below after chip b w s t h g u at stays claim v less) ∙ (h.settled q.on).claims v less);
      promised = asking_promised d o a below w s t g u fits at apart (λ v ne. q.rounds v) is_other (h.settled q.on).promised;
    }

  -- what it owes after its first write ends so
  pub request_settles : (n : ℕ) × CommitsTo (making_owed d) n (record { table = d; order = Some (StructureOp.Add (add_start (order_of u) (entry g))); banks = None; deeds = deeds; after = after_request d u }) acted (λ c. Agrees d after c w t)
  request_settles =
      settles_part adding (order_own (order_of u)) (making_owed d) (λ r. record { table = d; order = Some (StructureOp.Add r); banks = None; deeds = deeds; after = after_request d u }) (λ ws. owed_of d None None deeds (after_request d u))
      (add_part d fits (order_own (order_of u)) own_there None deeds (after_request d u)) (λ k e. word_there d fits k (own_there k e)) (λ k ws. HoldsOrder (order_of u) k (added (entry g) xs) × (ws ≡ [])) (λ c. Agrees d after c w t)
      4 (add_start (order_of u) (entry g)) acted (whole_first d fits g u q.there few chip whole deed q.first acted none [] tt)
      (add-ends (order_of u) (entry g) (word_of acted) xs (subst (λ n. n < 16) (sym entry_is) lt) (order_first d fits g u q.there few chip whole deed q.first acted none [] tt xs unit_was.order.1) absent)
      (λ c ws differs dd. settles_list (making_owed d) (deed_move d) (λ ds. owed_of d None None ds (after_request d u)) (deeds_listed d fits (after_request d u)) (λ c. Agrees d after c w t) deeds c (q.owed c)
      (changed d fits below after chip (after_list (deed_move d) c deeds) w s t h g u at (stays c differs (now c dd.0)) (fresh c differs (now c dd.0))))
    where
      entry_is : entry g ≡ g
      entry_is = mod-eq_of_lt lt

      own_there : (k : ℕ) → order_own (order_of u) k ≡ true → is_word d k ≡ true
      own_there k e = order_words d u k few e

      none : DiffersIn (order_own (order_of u)) acted acted
      none = differs_none (order_own (order_of u)) acted (length_after chip (deed_move d deed) 0 ∙ whole)

      now : (c : Chip) → HoldsOrder (order_of u) (word_of c) (added (entry g) xs) → HoldsOrder (order_of u) (word_of c) (added g xs)
      now c e = subst (λ n. HoldsOrder (order_of u) (word_of c) (added n xs)) entry_is e

      absent : is_there (entry g) xs ≡ false
      absent = ap (λ n. is_there n xs) entry_is ∙ (unit_was.order.2.there g ∙ ap (λ on. on && is_on u (group_of d g)) q.none)

-- ---- Adc_StartGroupConversion

module _ (d : AdcTable) (fits : FitsAdc d) (f r : AdcBody → ℕ) (below : Reservations) (chip : Chip) (w : World) (s : AdcState) (h : Agrees d below chip w s) (m : ℕ → Bool) (y : ℕ) (g : ℕ) (may : MayCall d s g StartGroupConversion) (go : MayStart d s g) where
  abbrev call : Call
  call = Call.Group g StartGroupConversion

  small : g < 16
  small = within d g may.there

  quiet : (has_turn s g ≡ false) × ((group_at s g).trigger ≡ false)
  quiet = none_under_way (group_of d g) (has_turn s g) (group_at s g) (h.sound.groups g) go.quiet

  abbrev begun : GroupState
  begun = record (group_at s g) { status = Busy; rounds = []; trigger = false }

  abbrev before : AdcState
  before = begun_stream s g false

  is_begun : group_at before g ≡ begun
  is_begun = group_same s g begun small

  abbrev started : AdcState
  started = requested before g

  sound : SoundGroup (group_of d g) true (asks before begun)
  sound = record {
    configured = λ e. absurd (let i : is_some (group_of d g) ≡ false = ap (λ k. is_some k) e in let j = may.there in cc);
    chosen = λ e. go.chosen;
    turn = λ e. absurd (cc);
    trigger = λ e. refl;
    input = λ e. absurd (cc);
    going = λ e. absurd (cc);
    rounds = λ e. absurd (cc);
    stream = λ e. absurd (cc);
    linear = λ e. omega arith;
    lasts = λ e. none_full d fits g may.there;
    whole = λ x i e. absurd (cc);
  }

  abbrev deed : WindowWrite
  deed = Set (Word.Phase g) 1

  abbrev deeds : List WindowWrite
  deeds = Set (Word.Count g) 0 ∷ Set (Word.Place g) 0 ∷ Set (Word.Kept g) 0 ∷ Set (Word.Turn g) 1 ∷ []

  sets : (i v : ℕ) → i < 32 → owed_own d (Store (group_word d g i) v) ≡ true
  sets = may_set d fits g may.there

  words : (b : Chip) → ((j : ℕ) → word_of b (group_word d g j) ≡ lows_set deeds j (low_set deed j (word_of chip (group_word d g j))))
      → GroupAgrees d (word_of b) started g
  words b low =
      let was = (h.settled may.on).groups g may.there in
      let none : 0 ≡ min 0 (samples_of (group_of d g)) = omega arith in
      let is = asked_group before g small begun is_begun in record {
        phase = low 0 ∙ sym (ap (λ (x : GroupState). phase_of x.status (has_turn started g || x.trigger)) is);
        chosen = low 1 ∙ (was.chosen ∙ sym (ap (λ (x : GroupState). chosen_of x.chosen) is));
        notified = low 2 ∙ (was.notified ∙ sym (ap (λ (x : GroupState). bit_of x.notification) is));
        turn = low 3 ∙ sym (ap (λ q. bit_of q) (asked_turn before g small begun is_begun));
        count = λ e. low 4 ∙ (none ∙ sym (ap (λ (x : GroupState). min (length x.rounds) (samples_of (group_of d g))) is));
        place = λ e. low 5 ∙ (sym (zero-mod (samples_of (group_of d g))) ∙ sym (ap (λ (x : GroupState). length x.rounds % samples_of (group_of d g)) is));
        kept = λ e k. low 6 ∙ sym (ap length (asked_kept before g small begun is_begun d));
        values = λ e k i v at. absurd (let none : slice_get [] i ≡ Some v = sym (ap (λ vs. slice_get vs i) (asked_kept before g small begun is_begun d)) ∙ at in cc);
      }

  requests : Requests d chip w s g before begun chip.converters deed deeds
  requests = record {
    on = may.on;
    still = may.on;
    there = may.there;
    none = quiet.0;
    group = is_begun;
    others = λ k ne. other_at s g begun (sound_past d s h.sound.groups) k ne;
    past = past_untouched s g begun;
    requests = refl;
    rounds = λ v. refl;
    results = refl;
    marks = λ i e. e;
    trigger = sym quiet.1;
    hears = λ i. absurd (no_input (group_of d g) may.right i);
    newest = λ e more. absurd (let none : 0 < 0 = more in omega (arith, none));
    sound = sound;
    first = refl;
    rest = (refl, (refl, (refl, (refl, tt))));
    control = λ v. refl;
    unit = λ j v. refl;
    owed = λ c. ((sets 4 0 (omega arith), tt), ((sets 5 0 (omega arith), tt), ((sets 6 0 (omega arith), tt), ((sets 3 1 (omega arith), tt), tt))));
    words = words;
    registers = λ c e. (ap (λ (z : Chip). (after_list (deed_move d) z deeds).converters) e, ap (λ (z : Chip). (after_list (deed_move d) z deeds).control) e);
    units = λ v. refl;
    levels = refl;
    time = refl;
    gates = refl;
    flags = h.triggers.flags;
    few = h.triggers.others;
    block = h.block;
  }

  -- ---- the step

  none_error : error_by d call (circumstances d s call) ≡ None
  none_error =
      group_errors d s g StartGroupConversion may
      ∙ (ap (λ q. first_error Service.AdcStartGroupConversion (false ∷ false ∷ q ∷ not (is_some (group_at s g).chosen) ∷ is_start_busy d s g ∷ false ∷ [])) may.right
      ∙ (ap (λ q. first_error Service.AdcStartGroupConversion (false ∷ false ∷ false ∷ not q ∷ is_start_busy d s g ∷ false ∷ [])) go.chosen
      ∙ ap (λ q. first_error Service.AdcStartGroupConversion (false ∷ false ∷ false ∷ false ∷ q ∷ false ∷ [])) go.free))

  closes : (q : Bool) → MayClose d (if q then Window.Yield (unit_of (group_of d g)) else Window.Begin (unit_of (group_of d g))) below (Called call) (record fresh_history { acted = Some no_answer })
  closes true = (Has_acted call Is_this_frame, unit_small d fits g may.there)
  closes false = (Has_acted call Is_this_frame, unit_small d fits g may.there)

  pub start_right : RightOr (AdcGround d) (adc_bodies d f r) below chip w s (record { table = d; place = Makes (start d g) }) (Called call) y fresh_history m (ended_at (adc_bodies d f r) body_ends (record { table = d; place = Makes (start d g) }) (value_of chip (body_work (record { table = d; place = Makes (start d g) }))))
  start_right = record {
    may = refl;
    stands = tt;
    state = started;
    told = tells_nothing;
    begins = None;
    is = ap (λ x. Some (acts_by d s call x)) none_error;
    sends = tt;
    acts = tt;
    reset = sym (asks_no (adc_machine d) call (Some Event.Act) (Some (outcome started tells_nothing)) (not_reset call));
    next = (request_settles d fits below chip w s h (Called call) (Some no_answer) (λ v. refl) g before begun chip.converters deed deeds requests, (refl, closes d.priorities));
  }

-- ---- A turn that is gone, and what a frame holds after it.

-- ---- a turn that is gone

pub gone_round : (g : ℕ) (q : Option Round) (b : Bool) → is_round_of g q ≡ b → is_round_of g (cond b None q) ≡ false
gone_round g q true e = refl
gone_round g q false e = e

pub unless_some : (q : Option Round) (b : Bool) (r : Round) → cond b None q ≡ Some r → q ≡ Some r
unless_some q true r e = absurd (cc)
unless_some q false r e = e

pub none_of_three : (a b c : Bool) → a ≡ false → b ≡ false → c ≡ false → (a || b || c) ≡ false
none_of_three false false false e f h = refl
none_of_three _ _ _ e f h = absurd (cc)

-- ---- what a frame holds after it

module _ (o : Origin Call) (a : Option Answer) (u : ℕ) (below : Reservations) where
  abbrev pub left_in : Bool → Reservations
  left_in true = asking o a u below false
  left_in false = below

  pub left_right : (d : AdcTable) (b : Chip) (w : World) (t : AdcState) (q : Bool) → t.initialised ≡ true → AllRight d b w t below → AllRight d b w t (left_in q)
  left_right d b w t true on r = asking_right o a u below d b w t false on r
  left_right d b w t false on r = r

  pub left_puts : (d : AdcTable) (k : ℕ) (q : Bool) → first_held (put_of d k) (left_in q) ≡ first_held (put_of d k) below
  left_puts d k true = asking_puts o a u below d k false
  left_puts d k false = refl

  pub left_takes : (k : ℕ) (q : Bool) → first_held (take_of k) (left_in q) ≡ first_held (take_of k) below
  left_takes k true = asking_takes o a u below k false
  left_takes k false = refl

  pub left_owed : (k : ℕ) (n : ResultBuffer) (p : ℕ) (q : Bool) → some_hold (is_owed k n p) (left_in q) ≡ some_hold (is_owed k n p) below
  left_owed k n p true = asking_owed o a u below k n p false
  left_owed k n p false = refl

  pub left_claims : (v x : ℕ) (q : Bool) → claim_right (left_in q) v x ≡ claim_right below v x
  left_claims v x true = asking_claims o a u below v x false
  left_claims v x false = refl

  pub left_backed : (q : Bool) → Backed below → Backed (left_in q)
  left_backed true h = asking_backed o a u below false h
  left_backed false h = h
