-- The values of an aborted round are kept, unless its group was stopped meanwhile, and the claim of the frame that kept them ends.
-- From adc_groups: bookkeeping.FrameRule, adc_groups: words.StructureParts, adc_groups: services.Decisions and 8 more.
-- Used by adc_driver: services.AllSteps.
use Rattle.std.proofs.Common.{◌≡◌, ◌≢◌, ◌+◌, ◌-◌, ◌*◌, ◌<◌, ◌≤◌, ◌||◌, ◌==◌, [], ◌∷◌, ◌++◌, ◌∙◌, if◌then◌else◌}
use Rattle.adc_laws.specs.turns.Terms
use Terms.{adc_bodies, adc_machine, AdcBody, AdcGround, AdcState, AdcTable, after_list, Agrees, all_changed, AllOf}
use Terms.{and_parts, ap, arith, AssertedAt, banks_stay, body_ends, body_work, Bool, Call, changed, Chip, choice}
use Terms.{choice_next, choice_none, claim_past, claim_right, claim_stays, claim_tells, claim_words, claims_on}
use Terms.{Closes, CommitsAfter, Continuation, Converters, Decided, DecidedRight, deed_move, deeds_listed, deeds_low}
use Terms.{deeds_other, deeds_unit, ended_at, Entry, eq_is, eq_isnt, false, FitsAdc, foot_of, FrameHistory, Fresh}
use Terms.{Front, Goes, group_at, group_of, group_word, GroupAgrees, has_bit, has_turn, HasDone, HasWords, hold_in}
use Terms.{holds-agree, holds-below, HoldsOrder, inputs_of, InWindow, is_on, is_some, is_word, IsBlock, IsSeeking}
use Terms.{keep, kept_in, kept_where, kept_word, length, List, Load, looking, Looks, looks_right, low_words, makes}
use Terms.{making, making_owed, MaySeek, missed_after, nat_lt, nat_tests, next_group, next_is, None, on_there, Option}
use Terms.{order_of, order_within, Origin, owed_of, owed_own, own_named, own_of, Place, place_stays, Quits, ranks_of}
use Terms.{refl, Reservations, RightOr, round_at, RoundAgrees, rounds_of, seek_step, Seeks, Set, set_at, settles_list}
use Terms.{slice_get, Some, some_hold, sought, stands_list, start_from, starts_by, STATE, Stays, Store, subst, sym}
use Terms.{TriggersAgree, trio_group, true, unit_is, UnitAgrees, value_of, whether_as, Window, WindowWrite}
use Terms.{with_holds, Word, word_number, word_of, World, ℕ}
use Rattle.adc_laws.specs.turns.laws.services.ClaimEndRight.{claims_left, unclaimed_spare}
use Rattle.chip_blocks.specs.converter.Converters as chips

-- a word that keeps values is of that group, or the claim was lost
of_group : (v k g : ℕ) → v ≡ 2 + k → (v == 2 + g) || (v == 1) ≡ true → k ≡ g
of_group v k g e f = grind (arith, nat_tests)

module _ (d : AdcTable) (fits : FitsAdc d) (f r : AdcBody → ℕ) (below : Reservations) (chip : Chip) (w : World) (s : AdcState) (m : ℕ → Bool) (y u g n : ℕ) (few : u < 2) (on : s.initialised ≡ true) (o : Origin Call) (p : FrameHistory) (has : HasDone u below o p) (h : Agrees d (with_holds o p.acted (hold_in (Window.Keep (record { unit = u; group = g; kept = n }))) below) chip w s) where
  abbrev before : Reservations
  before = with_holds o p.acted (hold_in (Window.Keep (record { unit = u; group = g; kept = n }))) below

  abbrev after : Reservations
  after = with_holds o p.acted (hold_in (Window.Begin u)) below

  abbrev claimed : ℕ
  claimed = word_of chip (word_number d (Word.Claim u))

  at : is_on u (group_of d g) ≡ true
  at = h.right.0.1

  there : is_some (group_of d g) ≡ true
  there = on_there u (group_of d g) at

  tells : ((claimed == 2 + g) || (claimed == 1) ≡ true) × (some_hold (claims_on u) below ≡ false)
  tells = claim_tells u ((claimed == 2 + g) || (claimed == 1)) (claim_right below u claimed) below ((h.settled on).claims u few)

  -- by whether its values are kept
  module _ (q : Bool) (is : (claimed == 2 + g) ≡ q) where
    abbrev deeds : List WindowWrite
    deeds = kept_where q (record { unit = u; group = g; kept = n }) ++ Set (Word.Claim u) 0 ∷ []

    of_all : AllOf g u deeds
    of_all =
        elim q as (λ z. AllOf g u (kept_where z (record { unit = u; group = g; kept = n }) ++ Set (Word.Claim u) 0 ∷ []))
        [ true ↦ (refl, (refl, tt)) | false ↦ (refl, tt) ]

    abbrev b : Chip
    b = after_list (deed_move d) chip deeds

    whole : HasWords chip
    whole = h.outside.all.words

    block : b.converters ≡ chip.converters
    block = whether_as q (λ z. (after_list (deed_move d) chip (kept_where z (record { unit = u; group = g; kept = n }) ++ Set (Word.Claim u) 0 ∷ [])).converters ≡ chip.converters)
        (λ _. refl)
        (λ _. refl)

    control : b.control ≡ chip.control
    control = whether_as q (λ z. (after_list (deed_move d) chip (kept_where z (record { unit = u; group = g; kept = n }) ++ Set (Word.Claim u) 0 ∷ [])).control ≡ chip.control)
        (λ _. refl)
        (λ _. refl)

    abbrev kept_set : Bool → (j x : ℕ) → ℕ
    kept_set true j x = set_at 6 n j x
    kept_set false j x = x

    low : (j : ℕ) → word_of b (group_word d g j) ≡ kept_set q j (word_of chip (group_word d g j))
    low j = by q of_all
      where
        by : (z : Bool) → AllOf g u (kept_where z (record { unit = u; group = g; kept = n }) ++ Set (Word.Claim u) 0 ∷ []) → word_of (after_list (deed_move d) chip (kept_where z (record { unit = u; group = g; kept = n }) ++ Set (Word.Claim u) 0 ∷ [])) (group_word d g j) ≡ kept_set z j (word_of chip (group_word d g j))
        by true all = deeds_low d fits g u there few (Set (Word.Kept g) n ∷ Set (Word.Claim u) 0 ∷ []) all chip whole j
        by false all = deeds_low d fits g u there few (Set (Word.Claim u) 0 ∷ []) all chip whole j

    low_one : (j : ℕ) → (6 == j) ≡ false → word_of b (group_word d g j) ≡ word_of chip (group_word d g j)
    low_one j e = low j ∙ whether_as q (λ z. kept_set z j (word_of chip (group_word d g j)) ≡ word_of chip (group_word d g j)) (λ _. ap (λ c. if c then n else word_of chip (group_word d g j)) e) (λ _. refl)

    unit_word : (j : ℕ) → j < 5 → word_of b (STATE + 8 + 8 * u + j) ≡ set_at 1 0 j (word_of chip (STATE + 8 + 8 * u + j))
    unit_word j less = by q of_all
      where
        by : (z : Bool) → AllOf g u (kept_where z (record { unit = u; group = g; kept = n }) ++ Set (Word.Claim u) 0 ∷ []) → word_of (after_list (deed_move d) chip (kept_where z (record { unit = u; group = g; kept = n }) ++ Set (Word.Claim u) 0 ∷ [])) (STATE + 8 + 8 * u + j) ≡ set_at 1 0 j (word_of chip (STATE + 8 + 8 * u + j))
        by true all = deeds_unit d fits g u there few (Set (Word.Kept g) n ∷ Set (Word.Claim u) 0 ∷ []) all chip whole j less
        by false all = deeds_unit d fits g u there few (Set (Word.Claim u) 0 ∷ []) all chip whole j less

    claim_now : word_of b (word_number d (Word.Claim u)) ≡ 0
    claim_now = let at : STATE + 8 + 8 * u + 1 ≡ word_number d (Word.Claim u) = omega arith in subst (λ k. word_of b k ≡ 0) at (unit_word 1 (omega arith))

    running_same : word_of b (word_number d (Word.Running u)) ≡ word_of chip (word_number d (Word.Running u))
    running_same = let at : STATE + 8 + 8 * u + 0 ≡ word_number d (Word.Running u) = omega arith in subst (λ k. word_of b k ≡ word_of chip k) at (unit_word 0 (omega arith))

    order_same : (k : ℕ) → own_of (order_of u) k ≡ true → word_of chip k ≡ word_of b k
    order_same k own = sym (word_in_order_stays (order_within k (STATE + 10 + 8 * u) own))
      where
        kept_high : (j x : ℕ) → 2 ≤ j → set_at 1 0 j x ≡ x
        kept_high j x le = let off : (1 == j) ≡ false = grind (arith, nat_tests) in ap (λ c. if c then 0 else x) off

        word_in_order_stays : (STATE + 10 + 8 * u ≤ k) × (k ≤ STATE + 10 + 8 * u + 2) → word_of b k ≡ word_of chip k
        word_in_order_stays x =
            let low = x.0 in
            let high = x.1 in
            let is : STATE + 8 + 8 * u + (k - (STATE + 8 + 8 * u)) ≡ k = omega (arith, low) in
            subst (λ z. word_of b z ≡ word_of chip z) is (unit_word (k - (STATE + 8 + 8 * u)) (omega (arith, low, high)) ∙ kept_high (k - (STATE + 8 + 8 * u)) _ (omega (arith, low)))

    elsewhere : (k : ℕ) → ((i : ℕ) → i < 8 → k ≢ group_word d g i) → ((i : ℕ) → i < 5 → k ≢ STATE + 8 + 8 * u + i) → word_of b k ≡ word_of chip k
    elsewhere k no_group no_unit = deeds_other d fits g u there few deeds of_all chip k no_group no_unit

    kept_stays : (j : ℕ) → word_of b (kept_word (rounds_of d g) j) ≡ word_of chip (kept_word (rounds_of d g) j)
    kept_stays j =
        let is : group_word d g (32 + 3 * length (inputs_of (group_of d g)) + j) ≡ kept_word (rounds_of d g) j = omega arith in
        elsewhere (kept_word (rounds_of d g) j) (λ i lt e. omega (arith, is, e, lt)) (λ i lt e. let start = (start_from d fits g there).0 in omega (arith, is, e, lt, start, few))

    stays : Stays d before after chip b s s g u
    stays = record {
      on = on;
      still = on;
      requests = omega arith;
      others = λ k ne. refl;
      rounds = λ v ne. refl;
      from = λ x e ne. e;
      to = λ x e ne. e;
      results = λ k ne i j. refl;
      elsewhere = elsewhere;
      claim_from = λ k ne e. absurd (let zero_is : 0 ≡ 2 + k = sym claim_now ∙ e in omega (arith, zero_is));
      claim_to = λ k ne e. absurd (ne (of_group claimed k g e tells.0));
      unit = λ k ne e. ap (λ c. chips.unit_at c u) block;
      units = λ v less ne. ap (λ c. chips.unit_at c v) block;
      levels = ap (λ (c : Converters). c.levels) block;
      time = ap (λ (c : Converters). c.time) block;
      enabled = λ l e. ap (λ c. has_bit c.enabled l) control;
      puts = λ k ne. refl;
      takes = λ k ne. refl;
    }

    was : GroupAgrees d (word_of chip) s g
    was = (h.settled on).groups g there

    -- its values are kept now, or were so before
    kept_now : has_turn s g ≡ true → word_of b (group_word d g 6) ≡ length (kept_in d s g)
    kept_now turn = low 6 ∙ by q is
      where
        by : (z : Bool) → (claimed == 2 + g) ≡ z → kept_set z 6 (word_of chip (group_word d g 6)) ≡ length (kept_in d s g)
        by true e = sym (h.right.0.3 (eq_is claimed (2 + g) e)).count
        by false e = was.kept turn (λ i. eq_isnt claimed (2 + g) e (ap (λ v. word_of chip (word_number d (Word.Claim v))) (sym (unit_is d fits u (group_of d g) at)) ∙ i))

    values_now : has_turn s g ≡ true → (i v : ℕ) → slice_get (kept_in d s g) i ≡ Some v → word_of chip (kept_word (rounds_of d g) i) ≡ v
    values_now turn i v there = by q is
      where
        by : (z : Bool) → (claimed == 2 + g) ≡ z → word_of chip (kept_word (rounds_of d g) i) ≡ v
        by true e = (h.right.0.3 (eq_is claimed (2 + g) e)).kept i v there
        by false e = was.values turn (λ j. eq_isnt claimed (2 + g) e (ap (λ v. word_of chip (word_number d (Word.Claim v))) (sym (unit_is d fits u (group_of d g) at)) ∙ j)) i v there

    fresh : Fresh d after b w s g u
    fresh = record {
      sound = h.sound.groups g;
      waits = h.sound.waits g;
      runs = λ x e same. absurd (let none : None ≡ Some x = sym h.right.0.2 ∙ e in cc);
      marks = h.sound.marks;
      hears = h.sound.hears g;
      outside = stands_list d w deeds chip h.outside;
      block = subst (λ c. IsBlock c w) (sym block) h.block;
      round = subst (λ c. RoundAgrees d c w (chips.unit_at c u) (round_at s u)) (sym block) (h.rounds u few);
      triggers = subst (λ c. TriggersAgree d c s) (sym block) h.triggers;
      right = (on, all_changed d fits before after chip b w s s h g u at stays below (unclaimed_spare d chip b s s g u (low_one 7 refl) (λ m p. refl) below tells.1) h.right.1.1);
      banks = banks_stay chip b (h.banks g there) (λ j own. sym (trio_group d fits before after chip b w s s h g u at stays (low_one 7 refl) j own)) refl refl;
      places = λ k i j less left. place_stays d fits before after chip b w s s h g u at stays k i j ∙ h.places k i j less left;
      backed = h.backed.1;
      group = record {
        phase = low_one 0 refl ∙ was.phase;
        chosen = low_one 1 refl ∙ was.chosen;
        notified = low_one 2 refl ∙ was.notified;
        turn = low_one 3 refl ∙ was.turn;
        count = λ e. low_one 4 refl ∙ was.count e;
        place = λ e. low_one 5 refl ∙ was.place e;
        kept = λ e ne. kept_now e;
        values = λ e ne i v is. kept_stays i ∙ values_now e i v is;
      };
      unit = (let x = (h.settled on).units u few in record { running = running_same ∙ x.running; order = (x.order.0, holds-agree (order_of u) (word_of chip) (word_of b) x.order.0 order_same x.order.1, x.order.2) });
      claims = claims_left d u below chip b tells.1 claim_now (λ v less ne. claim_stays d fits before after chip b w s s h g u at stays v less ne) (λ v less ne. sym (claim_past v u _ _ ne) ∙ (h.settled on).claims v less);
      promised = λ v. (let x = (h.settled on).promised v in record { starts = x.starts; yields = x.yields });
    }

    represents : Agrees d after b w s
    represents = changed d fits before after chip b w s s h g u at stays fresh

  -- ---- what is decided

  abbrev begins : Continuation
  begins = Continuation.Goes (Closes (Window.Begin u))

  may_set : (k v : ℕ) → is_word d k ≡ true → owed_own d (Store k v) ≡ true
  may_set k v own = own_named d fits (λ j. is_word d j) (λ j e. e) (Store k v) own

  comes : (q : Bool) → (claimed == 2 + g) ≡ q → CommitsAfter (making_owed d) (owed_of d None None (kept_where q (record { unit = u; group = g; kept = n }) ++ Set (Word.Claim u) 0 ∷ []) begins) chip (λ c. Agrees d after c w s)
  comes true e = settles_list (making_owed d) (deed_move d) (λ ds. owed_of d None None ds begins) (deeds_listed d fits begins) (λ c. Agrees d after c w s) (Set (Word.Kept g) n ∷ Set (Word.Claim u) 0 ∷ []) chip ((may_set (group_word d g 6) n (low_words d fits g 6 there (omega arith)), tt), ((may_set (word_number d (Word.Claim u)) 0 (claim_words d u few), tt), tt)) (represents true e)
  comes false e = settles_list (making_owed d) (deed_move d) (λ ds. owed_of d None None ds begins) (deeds_listed d fits begins) (λ c. Agrees d after c w s) (Set (Word.Claim u) 0 ∷ []) chip ((may_set (word_number d (Word.Claim u)) 0 (claim_words d u few), tt), tt) (represents false e)

  module _ (K : Place) (k v : ℕ) where
    abbrev Decides : Decided → Type 0
    Decides x = DecidedRight d f r below chip w s o (Load k) false v y p m K x

    pub keep_right : Decides (keep (record { unit = u; group = g; kept = n }) claimed)
    keep_right = whether_as (claimed == 2 + g) (λ q. Decides (makes (making None (kept_where q (record { unit = u; group = g; kept = n }) ++ Set (Word.Claim u) 0 ∷ []) begins)))
        (λ e. ((comes true e, (refl, (has, few))), refl))
        (λ e. ((comes false e, (refl, (has, few))), refl))

-- ---- The windows in which a claim ends: the search of what waits first, and the look at the claim.

module _ (d : AdcTable) (fits : FitsAdc d) (f r : AdcBody → ℕ) (below : Reservations) (chip : Chip) (w : World) (s : AdcState) (m : ℕ → Bool) (y : ℕ) where
  abbrev missed : ℕ → Bool
  missed = missed_after (adc_machine d) w s m

  abbrev look_body : Window → List ℕ → AdcBody
  look_body win seen = record { table = d; place = Looks win seen }

  abbrev LooksRight : Window → Origin Call → FrameHistory → List ℕ → Type 0
  LooksRight win o p seen = RightOr (AdcGround d) (adc_bodies d f r) below chip w s (look_body win seen) o y p m (ended_at (adc_bodies d f r) body_ends (look_body win seen) (value_of chip (body_work (look_body win seen))))

  abbrev Looked : Window → Origin Call → FrameHistory → List ℕ → Type 0
  Looked win o p seen = AssertedAt (AdcGround d) (adc_bodies d f r) below chip w s (look_body win seen) o p

  -- ---- looks

  pub keep_looks : (u g n : ℕ) (o : Origin Call) (p : FrameHistory) (seen : List ℕ) → InWindow d (Window.Keep (record { unit = u; group = g; kept = n })) below w s o p → Looked (Window.Keep (record { unit = u; group = g; kept = n })) o p seen → LooksRight (Window.Keep (record { unit = u; group = g; kept = n })) o p seen
  keep_looks u g n o p seen is stand = looks_right d f r below chip w s (Window.Keep (record { unit = u; group = g; kept = n })) o y p m (omega arith) seen stand (λ k v. keep_right d fits f r below chip w s missed y u g n is.1 is.2 o p is.0 stand.0 (Looks (Window.Keep (record { unit = u; group = g; kept = n })) (word_of chip (word_number d (Word.Claim u)) ∷ [])) k v)

  -- ---- searches

  abbrev seek_body : Window → Front → AdcBody
  seek_body win q = record { table = d; place = Seeks win q }

  abbrev SeeksRight : Window → Front → Origin Call → FrameHistory → Type 0
  SeeksRight win q o p = RightOr (AdcGround d) (adc_bodies d f r) below chip w s (seek_body win q) o y p m (ended_at (adc_bodies d f r) body_ends (seek_body win q) (value_of chip (body_work (seek_body win q))))

  -- the claim of a frame ends with what waits first, or alone
  leave_sought : (u : ℕ) (o : Origin Call) (p : FrameHistory) → MaySeek d (Window.Leave u) below w s o p → Agrees d (with_holds o p.acted (hold_in (Window.Leave u)) below) chip w s → (xs : List Entry) → HoldsOrder (order_of u) (word_of chip) xs → (K : Place) (k v : ℕ) → DecidedRight d f r below chip w s o (Load k) false v y p missed K (sought d (Window.Leave u) (choice (ranks_of d) xs))
  leave_sought u o p is h xs holds K k v = starts_or_leaves (next_group d s u) refl
    where
      unit : UnitAgrees d (word_of chip) s u
      unit = (h.settled is.2).units u is.1

      same : xs ≡ unit.order.0
      same = sym holds.is ∙ unit.order.1.is

      starts_or_leaves : (q : Option ℕ) → next_group d s u ≡ q → DecidedRight d f r below chip w s o (Load k) false v y p missed K (sought d (Window.Leave u) (choice (ranks_of d) xs))
      starts_or_leaves None e =
          let none : choice (ranks_of d) xs ≡ 16 = ap (λ z. choice (ranks_of d) z) same ∙ choice_none d s u unit.order.0 unit.order.2 (holds-below (order_of u) (word_of chip) unit.order.0 unit.order.1) e in
          subst (λ n. DecidedRight d f r below chip w s o (Load k) false v y p missed K (sought d (Window.Leave u) n)) (sym none) ((h, (refl, (is, e))), refl)
      starts_or_leaves (Some g) e =
          let first = choice_next d s u unit.order.0 unit.order.2 (holds-below (order_of u) (word_of chip) unit.order.0 unit.order.1) g e in
          let waits = and_parts (is_on u (group_of d g)) (is_some (group_at s g).waiting) (next_is d s u g e).waits in
          let small : nat_lt g 16 ≡ true = (let lt = first.1 in grind (arith, nat_tests)) in
          subst (λ n. DecidedRight d f r below chip w s o (Load k) false v y p missed K (sought d (Window.Leave u) n)) (sym (ap (λ z. choice (ranks_of d) z) same ∙ first.0))
          (subst (λ q. DecidedRight d f r below chip w s o (Load k) false v y p missed K (if q then Goes (looking (Window.Convert u g true)) else Goes (Quits u))) (sym small)
          ((h, (refl, ((is.0, is.1, is.2, is.3, (is.4, waits.0, waits.1, ap (λ z. starts_by z (next_group d s u)) is.4 ∙ e)), (refl, omega arith, tt)))), refl))

  pub leave_seeks : (u : ℕ) (q : Front) (o : Origin Call) (p : FrameHistory) → MaySeek d (Window.Leave u) below w s o p → IsSeeking d (foot_of chip) (Window.Leave u) q → Agrees d (with_holds o p.acted (hold_in (Window.Leave u)) below) chip w s → SeeksRight (Window.Leave u) q o p
  leave_seeks u q o p is seek h = seek_step d fits f r below chip w s m y o p (Window.Leave u) is h seek.1 seek.3 (λ K k v ends. leave_sought u o p is h seek.1 seek.3 K k v) q.search q.ranks seek.0 seek.2 seek.4
