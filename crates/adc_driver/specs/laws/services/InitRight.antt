-- Adc_Init: it clears words with the mask open, and in its last window it enables the lines and acts.
-- From adc_groups: services.InitSteps, services.InitWords, services.InitActRight, words.EitherOne and 7 more.
-- Used by bookkeeping.NoneWaitsPlaces, bookkeeping.Joined, services.BeginSteps.
use Rattle.std.proofs.Common.{◌≡◌, ◌+◌, ◌-◌, ◌*◌, ◌<◌, ◌≤◌, ◌&&◌, ◌||◌, [], ◌∷◌, ◌∙◌, if◌then◌else◌}
use Rattle.adc_driver.specs.Terms
use Terms.{acts_by, adc_basis_right, AdcGround, AdcState, AdcTable, Agrees, ap, AreLong, arith, AssertedAt}
use Terms.{begins_word, bit_or, Bool, by_line, Call, Called, Chip, chip_after, circumstances, clear_at, clear_count}
use Terms.{Clears, cond, EnableSet, error_by, false, few, first_error, first_from, first_words, FitsAdc, fold}
use Terms.{FrameHistory, fresh, fresh_history, from_found, Group, group_of, happened, has_bit, has_bit-or, init_takes}
use Terms.{init_work, InitBody, is_shared, is_some, Is_this_frame, IsSweeping, IsThisFrame, Level, level_leaves}
use Terms.{LINES, List, LongBodies, many_from, may, moved, nat_lt, nat_tests, never_clean, next_of, None, not}
use Terms.{object_count, Option, Order, Origin, past_wrote, place_at, PointAssertion, refl, Reservations, resets_chip}
use Terms.{Right, Service, Setup, setup_after, setup_count, setup_move, Shortens, slice_index_or, Some, stands-move}
use Terms.{STATE, steps_of, Store, subst, suc, Sweep, sweep, sweep_right, Sweeping, sym, tells_nothing, true, TurnsTo}
use Terms.{Under, value_of, whether_as, with_holds, Within, World, world_after, Write, zero, ℕ}
use Rattle.adc_driver.specs.laws.services.InitWords.{clearing, clears_calm, clears_may, clears_past, clears_step}
use Rattle.adc_driver.specs.laws.{services.InitWords.{off_agrees}, services.InitActRight.{AreOn, renewed}}
use Rattle.adc_driver.specs.laws.words.EitherOne.{either}
use Rattle.service_outline.specs.declared.sweep.SweepStage.TheVariants.{Opens}
use Rattle.std.proofs.lemmas.Bool.{or_right}

-- ---- the frame

-- no frame of the module is below, since the call is alone in it
abbrev pub IsInit : Reservations → Origin Call → FrameHistory → Type 0
IsInit below o p = IsThisFrame (Called Call.Init) fresh_history o p × (below ≡ [])

-- ---- its last window

abbrev pub init_fuel : InitBody → ℕ
init_fuel InitBody.Enable = 2
init_fuel InitBody.Store = 1

abbrev pub init_spot : (d : AdcTable) → InitBody → PointAssertion (AdcGround d)
init_spot d InitBody.Enable = Within (Under None) (Clears (clear_count d) ∷ []) (λ below f w s o p. IsInit below o p)
init_spot d InitBody.Store = Within (Under None) (Clears (clear_count d) ∷ []) (λ below f w s o p. IsInit below o p × AreOn f.enabled)

abbrev pub last_bodies : (d : AdcTable) → LongBodies (AdcGround d) InitBody
last_bodies d = record { work_of = init_work; takes = init_takes; fuel = init_fuel; room = init_fuel; clean = λ k. false; assertion = init_spot d }

-- ---- the words that it clears first

abbrev pub setting_up : (d : AdcTable) → Sweeping (AdcGround d) Setup InitBody
setting_up d = record {
  count = setup_count;
  move = setup_move;
  after = setup_after;
  hold = λ a i. Clears i ∷ [];
  place = λ a below o p. IsInit below o p × (a.table ≡ d);
}

abbrev pub init_bodies : (d : AdcTable) → LongBodies (AdcGround d) (Sweep Setup InitBody)
init_bodies d = sweep (setting_up d) (last_bodies d)

-- ---- the moves of the last window

-- all lines are set
lines_set : (v : ℕ) → AreOn (bit_or v LINES)
lines_set v l at = has_bit-or v LINES l ∙ or_right (has_bit v l) (has_bit LINES l) (by_line (λ n. has_bit LINES n ≡ true) refl refl refl refl refl refl l at)

-- the hardware enables no line, and disables none
control_later : (chip : Chip) (order : Order) → (happened chip order).control ≡ chip.control
control_later chip (Level p v) = level_leaves (λ c. c.control) chip p v refl
control_later chip _ = refl

module _ (d : AdcTable) (fits : FitsAdc d) where
  enables_agrees : (chip : Chip) (w : World) (s : AdcState) → Agrees d (clearing (clear_count d)) chip w s → Agrees d (clearing (clear_count d)) (chip_after chip (Write EnableSet LINES) 0) w s
  enables_agrees chip w s h =
      off_agrees d (clearing (clear_count d)) (clear_count d) chip (chip_after chip (Write EnableSet LINES) 0) w s h.right.0.1 (λ g. refl, λ g. refl, λ g n p. refl) (stands-move chip w (Write EnableSet LINES) 0 h.outside) refl refl
      (λ g j there of. refl) (λ g n p. refl) h.right h

  none_error : (s : AdcState) → s.initialised ≡ false → error_by d Call.Init (circumstances d s Call.Init) ≡ None
  none_error s off = ap (λ q. first_error Service.AdcInit (not (not q) ∷ false ∷ false ∷ false ∷ false ∷ false ∷ [])) off

  abbrev clears : Reservations → Reservations
  clears hs = record { by = Called Call.Init; what = Clears (clear_count d); acted = None } ∷ hs

  last_steps : (below : Reservations) (chip : Chip) (w : World) (s : AdcState) (k : InitBody) (o : Origin Call) (y : ℕ) (p : FrameHistory) (m : ℕ → Bool) → AssertedAt (AdcGround d) (last_bodies d) below chip w s k o p → Right (AdcGround d) (last_bodies d) below chip w s k o y p m
  last_steps below chip w s InitBody.Enable o y p m (h, (Is_this_frame, e)) =
      (subst (λ hs. Agrees d (clears hs) chip w s → Agrees d (clears hs) (chip_after chip (Write EnableSet LINES) 0) w s) (sym e) (enables_agrees chip w s) h, ((Is_this_frame, e), lines_set chip.control.enabled))
  last_steps below chip w s InitBody.Store o y p m (h, ((Is_this_frame, e), on)) = record {
    may = refl;
    stands = tt;
    state = fresh s;
    told = tells_nothing;
    begins = None;
    is = ap (λ x. Some (acts_by d s Call.Init x)) (none_error s h.right.0.1);
    sends = tt;
    acts = tt;
    reset = refl;
    next = (subst (λ hs. Agrees d (clears hs) chip w s → Agrees d hs (chip_after chip (Store STATE 1) 0) w (fresh s)) (sym e) (λ a. renewed d fits chip w s a on) h, record { may = (refl, refl); served = false; owed = refl; shown = λ i. absurd (cc); report = refl });
  }

  may_act : may d (Store STATE 1) ≡ true
  may_act = ap (λ q. q && true) (first_words d 0 (omega arith))

  last_own : (k : InitBody) → is_shared (init_work k) || may d (init_work k) ≡ true
  last_own InitBody.Enable = refl
  last_own InitBody.Store = may_act

  last_turns : (k : InitBody) (v : ℕ) → TurnsTo (last_bodies d) 32 k (init_takes k v)
  last_turns InitBody.Enable v = (refl, omega arith)
  last_turns InitBody.Store v = omega arith

  last_later : (below : Reservations) (chip : Chip) (w : World) (s : AdcState) (order : Order) (k : InitBody) (o : Origin Call) (p : FrameHistory) → place_at (init_spot d k) below ((AdcGround d).foot chip) w s o p → place_at (init_spot d k) below ((AdcGround d).foot (happened chip order)) (world_after w chip.clock.rate order) (moved d s order) o p
  last_later below chip w s order InitBody.Enable o p h = h
  last_later below chip w s order InitBody.Store o p h = (h.0, λ l at. ap (λ c. has_bit c.enabled l) (control_later chip order) ∙ h.1 l at)

  last_calm : (k : InitBody) (v : ℕ) → (init_takes k v).1.event ≡ None → (resets_chip (init_work k) ≡ false) × (begins_word (init_work k) ≡ false)
  last_calm InitBody.Enable v e = (refl, refl)
  last_calm InitBody.Store v e = (refl, refl)

  last_shortens : (k : InitBody) (v : ℕ) → Shortens init_fuel k (init_takes k v)
  last_shortens InitBody.Enable v = omega arith
  last_shortens InitBody.Store v = omega arith

  last_right : AreLong (AdcGround d) (last_bodies d)
  last_right = record {
    own = λ below chip w s k o p h. last_own k;
    turns = λ below chip w s k o p h. last_turns k (value_of chip (init_work k));
    steps = λ below chip w s k o y p m come few h. last_steps below chip w s k o y p m h;
    later = λ below chip w s order k o p come shut h. last_later below chip w s order k o p h.1;
    calm = λ below chip w s k o p h e. last_calm k (value_of chip (init_work k)) e;
    shortens = last_shortens;
    cleans = λ k x. never_clean (init_work k) k (init_takes k x);
  }

  -- ---- the sweep

  -- at most so many groups are configured
  many_most : (n from : ℕ) → many_from d n from ≤ n
  many_most zero from = omega arith
  many_most (suc n) from = let le = many_most n (from + 1) in either (λ z. z ≤ suc n) (is_some (group_of d from)) _ _ (omega (arith, le)) (omega (arith, le))

  -- its places are those of the words that it clears
  few_same : (i : ℕ) → i < clear_count d → few i ≡ i
  few_same i lt = let on : nat_lt i 70 ≡ true = let most = many_most 16 0 in grind (arith, nat_tests) in ap (λ q. if q then i else 70) on

  one_more : (a : Setup) (i : ℕ) (below : Reservations) (chip : Chip) (w : World) (s : AdcState) → a.table ≡ d → below ≡ [] → i < setup_count a → Agrees d (record { by = Called Call.Init; what = Clears i; acted = None } ∷ below) chip w s
      → Agrees d (record { by = Called Call.Init; what = Clears (i + 1); acted = None } ∷ below) (chip_after chip (setup_move a i) 0) w s
  one_more a i [] chip w s same e lt h = subst (λ x. Agrees d (clearing (i + 1)) (chip_after chip (clear_at x (few i)) 0) w s) (sym same) (subst (λ n. Agrees d (clearing (i + 1)) (chip_after chip (clear_at d n) 0) w s) (sym (few_same i (subst (λ x. i < clear_count x) same lt))) (clears_step d fits chip w s i h))
  one_more a i (x ∷ xs) chip w s same e lt h = absurd (cc)

  sweeping : IsSweeping (AdcGround d) (setting_up d) (last_bodies d)
  sweeping = record {
    own = λ a i below o p lt at. subst (λ x. may d (clear_at x (few i)) ≡ true) (sym at.1) (clears_may d fits (few i));
    still = λ a i. clears_calm a.table (few i);
    step = step;
    stays = stays;
    follows = follows;
    closed = λ a. refl;
    room = λ a below o p at. omega arith;
    unclean = λ k. refl;
  }
    where
      step : (a : Setup) (i : ℕ) (below : Reservations) (chip : Chip) (w : World) (s : AdcState) (o : Origin Call) (p : FrameHistory) → i < setup_count a → IsInit below o p × (a.table ≡ d) → Agrees d (with_holds o p.acted (Clears i ∷ []) below) chip w s → Agrees d (with_holds o p.acted (Clears (i + 1) ∷ []) below) (chip_after chip (setup_move a i) 0) w s
      step a i below chip w s _ _ lt ((Is_this_frame, e), same) h = one_more a i below chip w s same e lt h

      stays : (a : Setup) (i : ℕ) (below : Reservations) (w : World) (o : Origin Call) (p : FrameHistory) → IsInit below o p × (a.table ≡ d) → IsInit below o (past_wrote w (setup_move a i) p) × (a.table ≡ d)
      stays a i below w _ _ ((Is_this_frame, e), same) = (subst (λ p. IsInit below (Called Call.Init) p) (sym (clears_past a.table w (few i))) (Is_this_frame, e), same)

      follows : (a : Setup) (below : Reservations) (chip : Chip) (w : World) (s : AdcState) (o : Origin Call) (p : FrameHistory) → IsInit below o p × (a.table ≡ d) → Agrees d (with_holds o p.acted (Clears (setup_count a) ∷ []) below) chip w s → AssertedAt (AdcGround d) (last_bodies d) below chip w s InitBody.Enable o p
      follows a below chip w s o p (at, same) h = (subst (λ x. Agrees d (with_holds o p.acted (Clears (clear_count x) ∷ []) below) chip w s) same h, at)

  pub init_right : AreLong (AdcGround d) (init_bodies d)
  init_right = sweep_right (AdcGround d) (setting_up d) (last_bodies d) (adc_basis_right d fits) last_right sweeping

  -- ---- its steps

  -- where it begins
  abbrev pub init_first : Sweep Setup InitBody
  init_first = record { objects = record { table = d }; place = Opens }

  abbrev one_if : Bool → ℕ
  one_if q = cond q 1 0

  -- the count of so many that are there goes on from what was counted
  abbrev counted : {A : Type 0} → ℕ → List (Option A) → ℕ
  counted a xs = fold (λ n x. n + one_if (is_some x)) a xs

  grows : {A : Type 0} (xs : List (Option A)) (a : ℕ) → a ≤ counted a xs
  grows [] a = omega arith
  grows (x ∷ xs) a = let more = grows xs (a + one_if (is_some x)) in omega (arith, more)

  some_count : {A : Type 0} (xs : List (Option A)) (n a : ℕ) → is_some (slice_index_or xs n None) ≡ true → 1 + a ≤ counted a xs
  some_count [] n a e = absurd (cc)
  some_count (x ∷ xs) zero a e = one_more_of a (one_if (is_some x)) (counted a (x ∷ xs)) (ap one_if e) (grows xs (a + one_if (is_some x)))
    where
      one_more_of : (a c n : ℕ) → c ≡ 1 → a + c ≤ n → 1 + a ≤ n
      one_more_of a c n e le = omega (arith, e, le)
  some_count (x ∷ xs) (suc n) a e = let more = some_count xs n (a + one_if (is_some x)) e in omega (arith, more)

  listed : {A : Type 0} (q : Bool) (o : Option A) → is_some (if q then o else None) ≡ true → is_some o ≡ true
  listed true o e = e
  listed false o e = absurd (cc)

  -- a configured group has a unit
  two_objects : (g : ℕ) → is_some (group_of d g) ≡ true → 2 ≤ object_count d
  two_objects g there = unit_and_group (group_of d g) refl there
    where
      unit_and_group : (q : Option Group) → group_of d g ≡ q → is_some q ≡ true → 2 ≤ object_count d
      unit_and_group None e i = absurd (cc)
      unit_and_group (Some k) e i =
          let unit = some_count d.units k.unit 0 (listed (nat_lt k.unit 2) (slice_index_or d.units k.unit None) (fits.groups g k e).unit) in
          let group = some_count d.groups g 0 (listed (nat_lt g 16) (slice_index_or d.groups g None) there) in
          two_of (counted 0 d.units) (counted 0 d.groups) unit group
        where
          two_of : (m n : ℕ) → 1 + 0 ≤ m → 1 + 0 ≤ n → 2 ≤ m + n
          two_of m n p q = omega (arith, p, q)

  pub init_within : (init_bodies d).fuel init_first ≤ steps_of d (Called Call.Init) - 7
  init_within = by (next_of d None 0) refl
    where
      -- none is found where none is configured
      none_many : (n from : ℕ) → first_from d None n from ≡ None → many_from d n from ≡ 0
      none_many zero from e = refl
      none_many (suc n) from e =
          whether_as (is_some (group_of d from)) (λ q. (if q then Some from else first_from d None n (from + 1)) ≡ None → (if q then 1 + many_from d n (from + 1) else many_from d n (from + 1)) ≡ 0)
          (λ _ e. absurd (cc)) (λ _ e. none_many n (from + 1) e) e

      by : (o : Option ℕ) → next_of d None 0 ≡ o → 3 + (clear_count d + 2) ≤ 64 + 48 * object_count d - 7
      by None e = let none = none_many 16 0 e in omega (arith, none)
      by (Some k) e = let some = two_objects k (from_found d None (λ z. Unit {0}) 16 0 k (λ h lt of. tt) e).0 in let most = many_most 16 0 in omega (arith, some, most)
