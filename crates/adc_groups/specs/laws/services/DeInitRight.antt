-- Adc_DeInit: its window looks at each group, and where none is under way it closes the module.
-- From services.Decisions, services.CallSteps, hardware.AfterReset, words.Cases, services.BodySteps and 9 more.
-- Used by adc_driver: services.AllSteps, adc_driver: services.BeginSteps, services.SingleWordSteps.
use Rattle.std.proofs.Common.{◌≡◌, ◌≢◌, ◌+◌, ◌-◌, ◌<◌, ◌≤◌, ◌||◌, [], ◌∷◌, ◌∙◌, if◌then◌else◌}
use Rattle.adc_groups.specs.Terms
use Terms.{acts_by, adc_bodies, adc_machine, AdcBody, AdcGround, AdcState, AdcTable, Agrees, all_groups, ap, arith}
use Terms.{asks_no, begin, body_ends, body_work, Bool, Call, Called, cases, Chip, chip_after, chosen_of, circumstances}
use Terms.{close, closed, Closes_module, CommitsTo, Decided, deed_move, EnableClear, ended_at, eq_self, error_by}
use Terms.{ErrorName, Event, false, first_error, FitsAdc, fresh_history, Goes, Group, group_at, group_of, GroupState}
use Terms.{has_turn, HasSurveyed, is_busy, is_of, is_round_of, is_some, Is_this_frame, is_under_way, IsSound}
use Terms.{IsSoundGroup, Leaves_acted, LINES, list_any, Load, Makes, making_owed, nat_lt, nat_tests, next_of, None, not}
use Terms.{nothing_more, of_group, Option, option_as, outcome, owed_of, own_of, phase_in, phase_under_way, Place}
use Terms.{place_ends, refl, refused, Reservations, result_word, RightOr, round_at, rounds_of, same_or_below, Service}
use Terms.{settles_list, Some, SoundGroup, stands-move, STATE, Store, stored_other, stored_same, subst, suc, survey}
use Terms.{survey_by, surveyed, Surveys, sym, tells_nothing, trio_of, true, under_way_by, untouched, value_of, whether}
use Terms.{Window, WindowWrite, Word, word_number, word_of, World, Write, ℕ}
use Rattle.adc_groups.specs.laws.{bookkeeping.RefinementRight.{none_runs}, hardware.AfterReset.{idle_group, IsQuiet}}
use Rattle.adc_groups.specs.laws.hardware.AfterReset.{rests_agree, result_past, trio_past}
use Rattle.adc_groups.specs.laws.services.CallSteps.{any_off, any_on, decides_so, from_found, none_found, phase_way}
use Rattle.adc_groups.specs.laws.{services.RequestRight.{none_under_way}, services.SingleWordCalls.{DecidedRight}}
use Rattle.adc_groups.specs.laws.{services.SingleWordCalls.{not_reset, refused_right}, words.StoreOneWord.{sound_past}}
use Rattle.adc_groups.specs.laws.{words.StoreOneWord.{start_from}, words.StructureParts.{deeds_listed}}
use Rattle.adc_groups.specs.laws.words.WordsOfModule.{within}

-- ---- groups none of which is under way

-- what is so of none of all groups is so of none of them
pub each_off : (p : ℕ → Bool) → list_any p all_groups ≡ false → (g : ℕ) → g < 16 → p g ≡ false
each_off p none g lt = whether (p g) (λ e. absurd (let on = any_on p g lt e in cc)) (λ e. e)

module _ (d : AdcTable) (w : World) (s : AdcState) (sound : IsSound d w s) (free : is_busy d s Call.DeInit ≡ false) where
  quiet : (g : ℕ) → is_under_way s g ≡ false
  quiet g = whether (nat_lt g 16)
      (λ e. each_off (is_under_way s) free g (grind (arith, nat_tests)))
      (λ e. let le : 16 ≤ g = grind (arith, nat_tests) in ap (λ (x : GroupState). under_way_by x.status (has_turn s g) x.trigger) (sound_past d s sound.groups g le))

  pub none_on : (g : ℕ) → (has_turn s g ≡ false) × ((group_at s g).trigger ≡ false)
  none_on g = none_under_way (group_of d g) (has_turn s g) (group_at s g) (sound.groups g) (quiet g)

  no_round : (u : ℕ) → u < 2 → round_at s u ≡ None
  no_round u lt = option_as (round_at s u) (λ q. q ≡ None)
      (λ x e. absurd (let off : is_round_of x.group (round_at s u) ≡ false = none_runs s x.group (none_on x.group).0 u lt in let on : is_round_of x.group (Some x) ≡ true = eq_self x.group in let is : is_round_of x.group (round_at s u) ≡ is_round_of x.group (Some x) = ap (λ o. is_round_of x.group o) e in cc))
      (λ _. refl)

  pub is_quiet : IsQuiet s
  is_quiet = record { rounds = no_round; triggers = λ g. (none_on g).1 }

-- ---- the machine's state after it

-- what is left of a group
abbrev left : GroupState → GroupState
left x = record untouched { chosen = x.chosen }

module _ (d : AdcTable) (w : World) (s : AdcState) (sound : IsSound d w s) where
  group_left : (g : ℕ) → group_at (closed s) g ≡ left (group_at s g)
  group_left g = whether (nat_lt g 16)
      (λ e. of_group (λ h. left (group_at s h)) g (grind (arith, nat_tests)))
      (λ e. let le : 16 ≤ g = grind (arith, nat_tests) in past g le ∙ sym (ap left (sound_past d s sound.groups g le)))
    where
      past : (g : ℕ) → 16 ≤ g → group_at (closed s) g ≡ untouched
      past g le = let at : g ≡ suc (suc (suc (suc (suc (suc (suc (suc (suc (suc (suc (suc (suc (suc (suc (suc (g - 16)))))))))))))))) = omega (arith, le) in ap (λ n. group_at (closed s) n) at

  turn_left : (g : ℕ) → has_turn (closed s) g ≡ false
  turn_left g = ap (λ (x : GroupState). is_some x.waiting || false || false) (group_left g)

  left_sound : (k : Option Group) (x : GroupState) → (k ≡ None → x ≡ untouched) → SoundGroup k false (left x)
  left_sound k x none = idle_group k (left x) refl refl (λ e. ap left (none e)) (λ e. omega arith) (λ r i e. absurd (cc))

  group_sound : (g : ℕ) → IsSoundGroup d (closed s) g
  group_sound g = subst (λ q. SoundGroup (group_of d g) q (group_at (closed s) g)) (sym (turn_left g)) (subst (λ x. SoundGroup (group_of d g) false x) (sym (group_left g)) (left_sound (group_of d g) (group_at s g) (sound.groups g).configured))

  closed_sound : IsSound d w (closed s)
  closed_sound = record {
    groups = group_sound;
    waits = λ g q e. absurd (let none = ap (λ (x : GroupState). x.waiting) (group_left g) in cc);
    runs = λ u r e. absurd (cc);
    marks = λ i e. absurd (cc);
    hears = λ g e i. absurd (let none = turn_left g in cc);
    rest = λ e g. (ap (λ (x : GroupState). x.status) (group_left g), λ u. refl);
    off = λ e i. refl;
  }

-- ---- the window's moves

module _ (d : AdcTable) (fits : FitsAdc d) (f r : AdcBody → ℕ) (chip : Chip) (w : World) (s : AdcState) (h : Agrees d [] chip w s) (m : ℕ → Bool) (y : ℕ) where
  abbrev acted : Chip
  acted = chip_after chip (Store STATE 0) 0

  abbrev last : Chip
  last = chip_after acted (Write EnableClear LINES) 0

  word : (k : ℕ) → k ≢ STATE → word_of last k ≡ word_of chip k
  word k ne = stored_other chip STATE 0 0 k ne

  bank_word : (g j : ℕ) → is_some (group_of d g) ≡ true → own_of (trio_of (rounds_of d g)) j ≡ true → word_of last j ≡ word_of chip j
  bank_word g j there own = let past = trio_past (rounds_of d g) j own in word j (λ e. omega (arith, past, e))

  -- the choices of buffers stay
  chosen_stays : s.initialised ≡ true → (g : ℕ) → is_some (group_of d g) ≡ true → word_of last (word_number d (Word.Chosen g)) ≡ chosen_of (group_at (closed s) g).chosen
  chosen_stays on g there =
      let low = (start_from d fits g there).0 in
      word (word_number d (Word.Chosen g)) (λ e. omega (arith, low, e)) ∙ (((h.settled on).groups g there).chosen ∙ sym (ap (λ (x : GroupState). chosen_of x.chosen) (group_left d w s h.sound g)))

  represents : s.initialised ≡ true → is_busy d s Call.DeInit ≡ false → Agrees d [] last w (closed s)
  represents on free = rests_agree d [] [] chip last w s (closed s) h (record {
    was = is_quiet d w s h.sound free;
    idle = λ g. ap (λ (x : GroupState). x.status) (group_left d w s h.sound g);
    free = λ u lt. refl;
    sound = closed_sound d w s h.sound;
    results = λ g n p. refl;
    outside = stands-move acted w (Write EnableClear LINES) 0 (stands-move chip w (Store STATE 0) 0 h.outside);
    block = refl;
    state = stored_same chip STATE 0 0 (omega arith) h.outside.all.words;
    banks = bank_word;
    places = λ g n p. word (result_word g n p) (λ e. let past = result_past g n p in omega (arith, past, e));
    puts = λ g. refl;
    takes = λ g. refl;
    owed = λ g n p. refl;
    right = tt;
    backed = tt;
    settled = λ e. absurd (cc);
    left = λ off none. chosen_stays on;
  })

  settles : s.initialised ≡ true → is_busy d s Call.DeInit ≡ false → (n : ℕ) × CommitsTo (making_owed d) n (record { table = d; order = None; banks = None; deeds = WindowWrite.Disable ∷ []; after = nothing_more }) acted (λ c. Agrees d [] c w (closed s))
  settles on free = settles_list (making_owed d) (deed_move d) (λ ds. owed_of d None None ds nothing_more) (deeds_listed d fits nothing_more) (λ c. Agrees d [] c w (closed s)) (WindowWrite.Disable ∷ []) acted ((refl, tt), tt) (represents on free)

  none_error : s.initialised ≡ true → is_busy d s Call.DeInit ≡ false → error_by d Call.DeInit (circumstances d s Call.DeInit) ≡ None
  none_error on free =
      ap (λ q. first_error Service.AdcDeInit (not q ∷ is_busy d s Call.DeInit ∷ false ∷ false ∷ false ∷ false ∷ [])) on
      ∙ ap (λ q. first_error Service.AdcDeInit (false ∷ q ∷ false ∷ false ∷ false ∷ false ∷ [])) free

  -- the step at which it acts
  pub close_right : s.initialised ≡ true → is_busy d s Call.DeInit ≡ false → RightOr (AdcGround d) (adc_bodies d f r) [] chip w s (record { table = d; place = Makes close }) (Called Call.DeInit) y fresh_history m (ended_at (adc_bodies d f r) body_ends (record { table = d; place = Makes close }) (value_of chip (body_work (record { table = d; place = Makes close }))))
  close_right on free = record {
    may = refl;
    stands = tt;
    state = closed s;
    told = tells_nothing;
    begins = None;
    is = ap (λ x. Some (acts_by d s Call.DeInit x)) (none_error on free);
    sends = tt;
    acts = tt;
    reset = sym (asks_no (adc_machine d) Call.DeInit (Some Event.Act) (Some (outcome (closed s) tells_nothing)) (not_reset Call.DeInit));
    next = (settles on free, (refl, Leaves_acted Call.DeInit Is_this_frame refl));
  }

  -- ---- what its window looks at

  module _ (K : Place) (k v : ℕ) (ends : place_ends K ≡ None) (on : s.initialised ≡ true) where
    abbrev Decides : Decided → Type 0
    Decides x = DecidedRight d f r [] chip w s (Called Call.DeInit) (Load k) true v y fresh_history m K x

    busied : is_busy d s Call.DeInit ≡ true → Decides (refused d Window.Close ErrorName.AdcBusy)
    busied busy = refused_right d f r [] chip w s h m y Call.DeInit ErrorName.AdcBusy K k v ends
        (ap (λ q. first_error Service.AdcDeInit (not q ∷ is_busy d s Call.DeInit ∷ false ∷ false ∷ false ∷ false ∷ [])) on
        ∙ ap (λ q. first_error Service.AdcDeInit (false ∷ q ∷ false ∷ false ∷ false ∷ false ∷ [])) busy)

    begun : is_busy d s Call.DeInit ≡ false → Decides (Goes (begin d Window.Close))
    begun free = ((h, (refl, Closes_module Is_this_frame on free refl)), refl)

    surveys : (j : ℕ) → HasSurveyed d Window.Close s j → Decides (Goes (Surveys Window.Close j))
    surveys j seen = ((h, (refl, ((Is_this_frame, on, refl), tt, seen))), refl)

    -- a group that isn't configured isn't under way
    unconfigured : (g : ℕ) → is_some (group_of d g) ≡ false → is_under_way s g ≡ false
    unconfigured g none = ap (λ (x : GroupState). under_way_by x.status (has_turn s g) x.trigger) ((h.sound.groups g).configured (by (group_of d g) none))
      where
        by : (q : Option Group) → is_some q ≡ false → q ≡ None
        by None e = refl
        by (Some x) e = absurd (cc)

    all_free : ((g : ℕ) → g < 16 → is_some (group_of d g) ≡ true → is_under_way s g ≡ false) → is_busy d s Call.DeInit ≡ false
    all_free none = any_off (is_under_way s) (λ g lt. whether (is_some (group_of d g))
        (λ e. none g lt e) (λ e. unconfigured g e))

    -- a survey from this group on
    pub close_survey : (from : ℕ) → from ≤ 16 → ((j : ℕ) → j < from → is_of d None j ≡ true → is_under_way s j ≡ false) → Decides (Goes (survey d Window.Close from))
    close_survey from le below_it = option_as (next_of d None from) (λ o. Decides (Goes (survey_by d Window.Close o)))
        (λ j e. surveys j (from_found d None (λ z. is_under_way s z ≡ false) (16 - from) from j below_it e))
        (λ e. begun (all_free (λ g lt there. none_found d None (λ z. is_under_way s z ≡ false) (16 - from) from below_it e g (omega (arith, lt, le)) there)))

    -- a group was looked at
    close_surveyed : (j : ℕ) → j < 16 → HasSurveyed d Window.Close s j → Decides (surveyed d Window.Close j (word_of chip (word_number d (Word.Phase j))))
    close_surveyed j lt seen = subst (λ q. Decides (if q then refused d Window.Close ErrorName.AdcBusy else Goes (survey d Window.Close (j + 1)))) (sym known) (busy_or_further (is_under_way s j) refl)
      where
        known : phase_under_way (phase_in (word_of chip (word_number d (Word.Phase j)))) ≡ is_under_way s j
        known = ap (λ p. phase_under_way (phase_in p)) ((h.settled on).groups j seen.0).phase ∙ phase_way (group_at s j).status (has_turn s j) (group_at s j).trigger

        busy_or_further : (q : Bool) → is_under_way s j ≡ q → Decides (if q then refused d Window.Close ErrorName.AdcBusy else Goes (survey d Window.Close (j + 1)))
        busy_or_further true e = busied (any_on (is_under_way s) j lt e)
        busy_or_further false e = close_survey (j + 1) (omega (arith, lt)) (λ i z of. cases (same_or_below i j z)
            (λ same. ap (λ n. is_under_way s n) same ∙ e) (λ z. seen.1 i z of))

-- the step of its window
pub closing_surveys : (d : AdcTable) (fits : FitsAdc d) (f r : AdcBody → ℕ) (below : Reservations) (chip : Chip) (w : World) (s : AdcState) (m : ℕ → Bool) (y : ℕ) (j : ℕ) → s.initialised ≡ true → below ≡ [] → HasSurveyed d Window.Close s j → Agrees d below chip w s
    → RightOr (AdcGround d) (adc_bodies d f r) below chip w s (record { table = d; place = Surveys Window.Close j }) (Called Call.DeInit) y fresh_history m (ended_at (adc_bodies d f r) body_ends (record { table = d; place = Surveys Window.Close j }) (value_of chip (body_work (record { table = d; place = Surveys Window.Close j }))))
closing_surveys d fits f r below chip w s m y j on e seen h = subst (λ hs. Agrees d hs chip w s → RightOr (AdcGround d) (adc_bodies d f r) hs chip w s (record { table = d; place = Surveys Window.Close j }) (Called Call.DeInit) y fresh_history m (ended_at (adc_bodies d f r) body_ends (record { table = d; place = Surveys Window.Close j }) (value_of chip (body_work (record { table = d; place = Surveys Window.Close j }))))) (sym e) alone h
  where
    alone : Agrees d [] chip w s → RightOr (AdcGround d) (adc_bodies d f r) [] chip w s (record { table = d; place = Surveys Window.Close j }) (Called Call.DeInit) y fresh_history m (ended_at (adc_bodies d f r) body_ends (record { table = d; place = Surveys Window.Close j }) (value_of chip (body_work (record { table = d; place = Surveys Window.Close j }))))
    alone h = decides_so d fits f r [] chip w s m y (Surveys Window.Close j) (surveyed d Window.Close j (word_of chip (word_number d (Word.Phase j)))) (Called Call.DeInit) fresh_history refl
        (close_surveyed d fits f r chip w s h _ y (Surveys Window.Close j) _ _ refl on j (within d j seen.0) seen)

-- and that of its making
pub closes_right : (d : AdcTable) (fits : FitsAdc d) (f r : AdcBody → ℕ) (below : Reservations) (chip : Chip) (w : World) (s : AdcState) → Agrees d below chip w s → (m : ℕ → Bool) (y : ℕ) → s.initialised ≡ true → is_busy d s Call.DeInit ≡ false → below ≡ []
    → RightOr (AdcGround d) (adc_bodies d f r) below chip w s (record { table = d; place = Makes close }) (Called Call.DeInit) y fresh_history m (ended_at (adc_bodies d f r) body_ends (record { table = d; place = Makes close }) (value_of chip (body_work (record { table = d; place = Makes close }))))
closes_right d fits f r below chip w s h m y on free e = subst (λ hs. Agrees d hs chip w s → RightOr (AdcGround d) (adc_bodies d f r) hs chip w s (record { table = d; place = Makes close }) (Called Call.DeInit) y fresh_history m (ended_at (adc_bodies d f r) body_ends (record { table = d; place = Makes close }) (value_of chip (body_work (record { table = d; place = Makes close }))))) (sym e) (λ a. close_right d fits f r chip w s a m y on free) h
