-- A call's look: what it decides for a request, an enabling and a stop, and the step of each call's window, with the mask.
-- From services.Decisions, services.SingleWordCalls, services.BodySteps, words.Cases, words.WordsOfModule and 5 more.
-- Used by adc_driver: services.AllSteps, services.DeInitRight, services.SeekRight and 5 more.
use Rattle.std.proofs.Common.{◌≡◌, ◌+◌, ◌-◌, ◌<◌, ◌≤◌, ◌&&◌, ◌||◌, ◌==◌, [], ◌∷◌, ◌∙◌, ◌⊎◌, if◌then◌else◌}
use Rattle.adc_groups.specs.Terms
use Terms.{same_or_below, acts_and_ends, adc_bodies, adc_machine, AdcBody, AdcGround, AdcState, AdcTable, Agrees, all_groups}
use Terms.{and_false, ap, arith, AssertedAt, begin, Begins_stream, bit_of, body_ends, body_takes, body_work, Bool, Busy}
use Terms.{Call, Called, cases, Chip, chip_after, chosen_of, circumstances, Completed, Decided, DisableHardwareTrigger}
use Terms.{EnableHardwareTrigger, Enables_trigger, ended_at, ends_with_stream, ENotOk, Entered, eq_is, error_by}
use Terms.{ErrorName, Event, false, first_error, first_from, FitsAdc, Flag, flagged, follows, FrameHistory}
use Terms.{fresh_history, GetGroupStatus, GetStreamLastPointer, Goes, Group, group_at, group_of, GroupAgrees, GroupCall}
use Terms.{has_bit, has_input, has_turn, HasLooked, HasSurveyed, hold_in, hold_out, Idle, InFlag, inl, inr, InWindow}
use Terms.{is_idle, is_input, is_of, is_on, is_round_of, is_some, is_start_busy, Is_this_frame, is_triggered}
use Terms.{is_under_way, is_unit_taken, IsOnlyReader, IsStop, IsThisFrame, List, list_any, listed, listener, Load}
use Terms.{looked, looking, Looks, makes, making, map, mark_at, Mask, MayCall, MayClose, MayPulse, MayStart}
use Terms.{missed_after, named, nat_tests, next_of, no_answer, None, not, nothing_more, Opens, Option, option_as}
use Terms.{or_right, Origin, Out, over, owed, Phase, phase_in, phase_number, phase_of, phase_read, phase_under_way}
use Terms.{Pins, Place, place_ends, place_out, pulse, pulse_by, Pulses, quieted, Read, read, read_by, ReadGroup, reads}
use Terms.{ready, refl, refused, Reservations, ResultBuffer, RightOr, round_at, running_of, Service, set_up, Sets_up}
use Terms.{SetupResultBuffer, slice_get, Some, StartGroupConversion, Status, status_read, stop, stop_by, stop_service}
use Terms.{StopGroupConversion, stopping, Stops, Stops_turn, StopSeen, StreamCompleted, subst, suc, survey, survey_by}
use Terms.{surveyed, Surveys, sym, takes_one, trigger_input, TriggerFlags, true, under_way_by, unit_in, unit_of, Unmask}
use Terms.{value_of, whether_as, Window, with_holds, Word, word_number, word_of, words_of, World, zero, ℕ}
use Rattle.adc_groups.specs.{declared.outside.Outside.{Outside}, laws.bookkeeping.RefinementRight.{bare_right}}
use Rattle.adc_groups.specs.laws.services.EnableTriggerRight.{heard_by}
use Rattle.adc_groups.specs.laws.services.SingleWordCalls.{answered_right, completed_phase, DecidedRight}
use Rattle.adc_groups.specs.laws.services.SingleWordCalls.{group_errors, looks_right, none_ends, point_right}
use Rattle.adc_groups.specs.laws.services.SingleWordCalls.{refused_right, status_right, streamed_phase}
use Rattle.adc_groups.specs.{laws.services.StopRight.{steps_so}, laws.words.WordsOfModule.{some_inputs, unit_is}}
use Rattle.adc_groups.specs.laws.words.WordsOfModule.{unit_small, within}
use Rattle.std.proofs.lemmas.Bool.{and_right}

pub off_or : (a b : Bool) → (a ≡ true → b ≡ false) → a && b ≡ false
off_or true b e = e refl
off_or false b e = refl

-- ---- groups in their order

-- where none of the unit's groups comes before, the next one that is found is the first
pub from_found : (d : AdcTable) (u : Option ℕ) (P : ℕ → Type 0) (n g k : ℕ) → ((h : ℕ) → h < g → is_of d u h ≡ true → P h) → first_from d u n g ≡ Some k → (is_of d u k ≡ true) × ((h : ℕ) → h < k → is_of d u h ≡ true → P h)
from_found d u P zero g k below e = absurd (cc)
from_found d u P (suc n) g k below e = here_or_later (is_of d u g) refl e (λ more f. from_found d u P n (g + 1) k more f)
  where
    here_or_later : (q : Bool) → is_of d u g ≡ q → (if q then Some g else first_from d u n (g + 1)) ≡ Some k → (((h : ℕ) → h < g + 1 → is_of d u h ≡ true → P h) → first_from d u n (g + 1) ≡ Some k → (is_of d u k ≡ true) × ((h : ℕ) → h < k → is_of d u h ≡ true → P h)) → (is_of d u k ≡ true) × ((h : ℕ) → h < k → is_of d u h ≡ true → P h)
    here_or_later true i f rest = let same : g ≡ k = cc in subst (λ z. (is_of d u z ≡ true) × ((h : ℕ) → h < z → is_of d u h ≡ true → P h)) same (i, below)
    here_or_later false i f rest = rest (λ h lt on. other h lt on (same_or_below h g lt)) f
      where
        other : (h : ℕ) → h < g + 1 → is_of d u h ≡ true → (h ≡ g) ⊎ (h < g) → P h
        other h lt on (inl same) = absurd (let off : is_of d u h ≡ false = ap (λ z. is_of d u z) same ∙ i in cc)
        other h lt on (inr lower) = below h lower on

-- and where none is found there is none
pub none_found : (d : AdcTable) (u : Option ℕ) (P : ℕ → Type 0) (n g : ℕ) → ((h : ℕ) → h < g → is_of d u h ≡ true → P h) → first_from d u n g ≡ None → (h : ℕ) → h < g + n → is_of d u h ≡ true → P h
none_found d u P zero g below e h lt on = below h (omega (arith, lt)) on
none_found d u P (suc n) g below e h lt on = later_too (is_of d u g) refl e (λ more f. none_found d u P n (g + 1) more f h (omega (arith, lt)) on)
  where
    later_too : (q : Bool) → is_of d u g ≡ q → (if q then Some g else first_from d u n (g + 1)) ≡ None → (((h : ℕ) → h < g + 1 → is_of d u h ≡ true → P h) → first_from d u n (g + 1) ≡ None → P h) → P h
    later_too true i f rest = absurd (cc)
    later_too false i f rest = rest (λ z less here. other z here (same_or_below z g less)) f
      where
        other : (z : ℕ) → is_of d u z ≡ true → (z ≡ g) ⊎ (z < g) → P z
        other z here (inl same) = absurd (let off : is_of d u z ≡ false = ap (λ m. is_of d u m) same ∙ i in cc)
        other z here (inr less) = below z less here

-- of all groups
pub any_off : (p : ℕ → Bool) → ((j : ℕ) → j < 16 → p j ≡ false) → list_any p all_groups ≡ false
any_off p off = among all_groups all_small
  where
    Small : List ℕ → Type 0
    Small [] = Unit {0}
    Small (j ∷ js) = (j < 16) × Small js

    all_small : Small all_groups
    all_small = (omega arith, (omega arith, (omega arith, (omega arith, (omega arith, (omega arith, (omega arith, (omega arith, (omega arith, (omega arith, (omega arith, (omega arith, (omega arith, (omega arith, (omega arith, (omega arith, tt))))))))))))))))

    among : (js : List ℕ) → Small js → list_any p js ≡ false
    among [] lt = refl
    among (j ∷ js) lt = ap (λ q. q || list_any p js) (off j lt.0) ∙ among js lt.1

pub any_on : (p : ℕ → Bool) (j : ℕ) → j < 16 → p j ≡ true → list_any p all_groups ≡ true
any_on p j lt on = among all_groups j (listed j lt)
  where
    among : (js : List ℕ) (n : ℕ) → slice_get js n ≡ Some j → list_any p js ≡ true
    among [] n e = absurd (cc)
    among (i ∷ js) zero e = let same : i ≡ j = cc in ap (λ q. q || list_any p js) (ap p same ∙ on)
    among (i ∷ js) (suc n) e = or_right (p i) (list_any p js) (among js n e)

-- ---- words

pub phase_idle : (x : Status) (on : Bool) → (phase_of x on == 0) ≡ is_idle x
phase_idle StreamCompleted true = refl
phase_idle _ _ = refl

pub phase_way : (x : Status) (turn trigger : Bool) → phase_under_way (phase_in (phase_of x (turn || trigger))) ≡ under_way_by x turn trigger
phase_way StreamCompleted false true = refl
phase_way _ _ _ = refl

none_chosen : (o : Option ResultBuffer) → (chosen_of o == 0) ≡ not (is_some o)
none_chosen None = refl
none_chosen (Some b) = grind (arith, nat_tests)

pub bit_one : (q : Bool) → (bit_of q == 1) ≡ q
bit_one true = refl
bit_one false = refl

pub bit_none : (q : Bool) → (bit_of q == 0) ≡ not q
bit_none true = refl
bit_none false = refl

pub running_round : (g : ℕ) (s : AdcState) (v : ℕ) → (running_of (round_at s v) == 1 + g) ≡ is_round_of g (round_at s v)
running_round g s v = option_as (round_at s v) (λ q. (running_of q == 1 + g) ≡ is_round_of g q)
    (λ r _. same r.group g) (λ _. grind (arith, nat_tests))
  where
    same : (m n : ℕ) → (1 + m == 1 + n) ≡ (m == n)
    same m n = whether_as (m == n) (λ q. (1 + m == 1 + n) ≡ q)
        (λ e. grind (arith, nat_tests)) (λ e. grind (arith, nat_tests))

-- ---- the calls

-- the calls that begin something, with their windows
pub data Begins (g : ℕ) : GroupCall → Window → Type 0 where
  Begins_start : Begins g StartGroupConversion (Window.Start g)
  Begins_enable : Begins g EnableHardwareTrigger (Window.Enable g)

module _ (d : AdcTable) (fits : FitsAdc d) (f r : AdcBody → ℕ) (below : Reservations) (chip : Chip) (w : World) (s : AdcState) (h : Agrees d below chip w s) (m : ℕ → Bool) (y : ℕ) (g : ℕ) (K : Place) (k v : ℕ) (ends : place_ends K ≡ None) where
  abbrev BeginDecides : GroupCall → Decided → Type 0
  BeginDecides call x = DecidedRight d f r below chip w s (Called (Call.Group g call)) (Load k) true v y fresh_history m K x

  -- ---- Adc_SetupResultBuffer

  pub set_up_right : (b : ResultBuffer) → MayCall d s g (SetupResultBuffer (Some b)) → BeginDecides (SetupResultBuffer (Some b)) (set_up d g b (word_of chip (word_number d (Word.Phase g))))
  set_up_right b may = subst (λ p. BeginDecides (SetupResultBuffer (Some b)) (set_up d g b p)) (sym ((h.settled may.on).groups g may.there).phase) (decides_by_status (group_at s g).status refl (has_turn s g || (group_at s g).trigger))
    where
      facts : (x : Status) → (group_at s g).status ≡ x → error_by d (Call.Group g (SetupResultBuffer (Some b))) (circumstances d s (Call.Group g (SetupResultBuffer (Some b)))) ≡ first_error Service.AdcSetupResultBuffer (false ∷ false ∷ false ∷ not (is_idle x) ∷ false ∷ false ∷ [])
      facts x e = group_errors d s g (SetupResultBuffer (Some b)) may ∙ ap (λ z. first_error Service.AdcSetupResultBuffer (false ∷ false ∷ false ∷ not (is_idle z) ∷ false ∷ false ∷ [])) e

      decides_by_status : (x : Status) → (group_at s g).status ≡ x → (on : Bool) → BeginDecides (SetupResultBuffer (Some b)) (set_up d g b (phase_of x on))
      decides_by_status Idle e on = ((h, (refl, Sets_up g b (Is_this_frame, may) e)), refl)
      decides_by_status Busy e on = refused_right d f r below chip w s h m y (Call.Group g (SetupResultBuffer (Some b))) ErrorName.AdcBusy K k v ends (facts Busy e)
      decides_by_status Completed e on = refused_right d f r below chip w s h m y (Call.Group g (SetupResultBuffer (Some b))) ErrorName.AdcBusy K k v ends (facts Completed e)
      decides_by_status StreamCompleted e true = refused_right d f r below chip w s h m y (Call.Group g (SetupResultBuffer (Some b))) ErrorName.AdcBusy K k v ends (facts StreamCompleted e)
      decides_by_status StreamCompleted e false = refused_right d f r below chip w s h m y (Call.Group g (SetupResultBuffer (Some b))) ErrorName.AdcBusy K k v ends (facts StreamCompleted e)

  -- ---- Adc_StartGroupConversion and Adc_EnableHardwareTrigger

  start_errors : MayCall d s g StartGroupConversion → (a b : Bool) → is_some (group_at s g).chosen ≡ a → is_start_busy d s g ≡ b → error_by d (Call.Group g StartGroupConversion) (circumstances d s (Call.Group g StartGroupConversion)) ≡ first_error Service.AdcStartGroupConversion (false ∷ false ∷ false ∷ not a ∷ b ∷ false ∷ [])
  start_errors may a b i j =
      group_errors d s g StartGroupConversion may
      ∙ (ap (λ q. first_error Service.AdcStartGroupConversion (false ∷ false ∷ q ∷ not (is_some (group_at s g).chosen) ∷ is_start_busy d s g ∷ false ∷ [])) may.right
      ∙ (ap (λ q. first_error Service.AdcStartGroupConversion (false ∷ false ∷ false ∷ not q ∷ is_start_busy d s g ∷ false ∷ [])) i
      ∙ ap (λ q. first_error Service.AdcStartGroupConversion (false ∷ false ∷ false ∷ not a ∷ q ∷ false ∷ [])) j))

  enable_errors : MayCall d s g EnableHardwareTrigger → (a b : Bool) → is_some (group_at s g).chosen ≡ a → is_start_busy d s g ≡ b → error_by d (Call.Group g EnableHardwareTrigger) (circumstances d s (Call.Group g EnableHardwareTrigger)) ≡ first_error Service.AdcEnableHardwareTrigger (false ∷ false ∷ false ∷ not a ∷ b ∷ false ∷ [])
  enable_errors may a b i j =
      group_errors d s g EnableHardwareTrigger may
      ∙ (ap (λ q. first_error Service.AdcEnableHardwareTrigger (false ∷ false ∷ q ∷ not (is_some (group_at s g).chosen) ∷ is_start_busy d s g ∷ false ∷ [])) may.right
      ∙ (ap (λ q. first_error Service.AdcEnableHardwareTrigger (false ∷ false ∷ false ∷ not q ∷ is_start_busy d s g ∷ false ∷ [])) i
      ∙ ap (λ q. first_error Service.AdcEnableHardwareTrigger (false ∷ false ∷ false ∷ not a ∷ q ∷ false ∷ [])) j))

  unbuffered : (call : GroupCall) (win : Window) → Begins g call win → MayCall d s g call → is_some (group_at s g).chosen ≡ false → BeginDecides call (refused d win ErrorName.AdcBufferUninit)
  unbuffered _ _ Begins_start may i = refused_right d f r below chip w s h m y (Call.Group g StartGroupConversion) ErrorName.AdcBufferUninit K k v ends (start_errors may false (is_start_busy d s g) i refl)
  unbuffered _ _ Begins_enable may i = refused_right d f r below chip w s h m y (Call.Group g EnableHardwareTrigger) ErrorName.AdcBufferUninit K k v ends (enable_errors may false (is_start_busy d s g) i refl)

  busied : (call : GroupCall) (win : Window) → Begins g call win → MayCall d s g call → is_some (group_at s g).chosen ≡ true → is_start_busy d s g ≡ true → BeginDecides call (refused d win ErrorName.AdcBusy)
  busied _ _ Begins_start may i j = refused_right d f r below chip w s h m y (Call.Group g StartGroupConversion) ErrorName.AdcBusy K k v ends (start_errors may true true i j)
  busied _ _ Begins_enable may i j = refused_right d f r below chip w s h m y (Call.Group g EnableHardwareTrigger) ErrorName.AdcBusy K k v ends (enable_errors may true true i j)

  begun : (call : GroupCall) (win : Window) → Begins g call win → MayCall d s g call → MayStart d s g → BeginDecides call (Goes (begin d win))
  begun _ _ Begins_start may go = ((h, (refl, Begins_stream g (Is_this_frame, may) go)), refl)
  begun _ _ Begins_enable may go = ((h, (refl, Enables_trigger g (Is_this_frame, may) go)), refl)

  -- what it has looked at before it surveys
  pub record Before : Type 0 where
    pub chosen : is_some (group_at s g).chosen ≡ true
    pub quiet : is_under_way s g ≡ false
    pub one : takes_one d ≡ true

  surveys : (call : GroupCall) (win : Window) → Begins g call win → MayCall d s g call → Before → (j : ℕ) → HasSurveyed d win s j → BeginDecides call (Goes (Surveys win j))
  surveys _ _ Begins_start may l j seen = ((h, (refl, ((Is_this_frame, may), (l.chosen, l.quiet, l.one), seen))), refl)
  surveys _ _ Begins_enable may l j seen = ((h, (refl, ((Is_this_frame, may), (l.chosen, l.quiet, l.one), seen))), refl)

  unit_is_in : (call : GroupCall) (win : Window) → Begins g call win → unit_in d win ≡ Some (unit_of (group_of d g))
  unit_is_in _ _ Begins_start = refl
  unit_is_in _ _ Begins_enable = refl

  -- a unit none of whose groups is under way isn't taken
  free_unit : ((j : ℕ) → j < 16 → is_of d (Some (unit_of (group_of d g))) j ≡ true → is_under_way s j ≡ false) → is_unit_taken d s (group_of d g) ≡ false
  free_unit none = option_as (group_of d g) (λ q. is_unit_taken d s q ≡ false)
      (λ x e. among x.unit (λ j lt on. none j lt (subst (λ z. is_on (unit_of z) (group_of d j) ≡ true) (sym e) on)))
      (λ _. refl)
    where
      among : (u : ℕ) → ((j : ℕ) → j < 16 → is_on u (group_of d j) ≡ true → is_under_way s j ≡ false) → list_any (λ j. is_on u (group_of d j) && is_under_way s j) all_groups ≡ false
      among u all = any_off (λ j. is_on u (group_of d j) && is_under_way s j) (λ j lt. off_or (is_on u (group_of d j)) (is_under_way s j) (all j lt))

  -- a survey from this group on
  pub survey_right : (call : GroupCall) (win : Window) → Begins g call win → MayCall d s g call → Before → (from : ℕ) → from ≤ 16 → ((j : ℕ) → j < from → is_of d (unit_in d win) j ≡ true → is_under_way s j ≡ false) → BeginDecides call (Goes (survey d win from))
  survey_right call win b may l from le below_it = by (next_of d (unit_in d win) from) refl
    where
      free : next_of d (unit_in d win) from ≡ None → is_start_busy d s g ≡ false
      free e =
          let taken = free_unit (λ j lt on. none_found d (unit_in d win) (λ z. is_under_way s z ≡ false) (16 - from) from below_it e j (omega (arith, lt, le)) (subst (λ z. is_of d z j ≡ true) (sym (unit_is_in call win b)) on)) in
          ap (λ q. q || (takes_one d && is_unit_taken d s (group_of d g))) l.quiet ∙ (ap (λ q. takes_one d && q) taken ∙ and_false (takes_one d))

      by : (o : Option ℕ) → next_of d (unit_in d win) from ≡ o → BeginDecides call (Goes (survey_by d win o))
      by None e = begun call win b may (record { chosen = l.chosen; quiet = l.quiet; free = free e })
      by (Some j) e = surveys call win b may l j (from_found d (unit_in d win) (λ z. is_under_way s z ≡ false) (16 - from) from j below_it e)

  -- a group of the unit was looked at
  pub surveyed_right : (call : GroupCall) (win : Window) → Begins g call win → MayCall d s g call → Before → (j : ℕ) → j < 16 → HasSurveyed d win s j → BeginDecides call (surveyed d win j (word_of chip (word_number d (Word.Phase j))))
  surveyed_right call win b may l j lt seen = subst (λ q. BeginDecides call (if q then refused d win ErrorName.AdcBusy else Goes (survey d win (j + 1)))) (sym known) (busy_or_further (is_under_way s j) refl)
    where
      there : is_some (group_of d j) ≡ true
      there = option_as (group_of d j) (λ q. is_on (unit_of (group_of d g)) q ≡ true → is_some q ≡ true)
          (λ _ _ _. refl) (λ _ e. absurd (cc)) (subst (λ z. is_of d z j ≡ true) (unit_is_in call win b) seen.0)

      known : phase_under_way (phase_in (word_of chip (word_number d (Word.Phase j)))) ≡ is_under_way s j
      known = ap (λ p. phase_under_way (phase_in p)) ((h.settled may.on).groups j there).phase ∙ phase_way (group_at s j).status (has_turn s j) (group_at s j).trigger

      busy_or_further : (q : Bool) → is_under_way s j ≡ q → BeginDecides call (if q then refused d win ErrorName.AdcBusy else Goes (survey d win (j + 1)))
      busy_or_further true e = busied call win b may l.chosen (taken_by call win b)
        where
          taken_by : (call : GroupCall) (win : Window) → Begins g call win → is_start_busy d s g ≡ true
          taken_by c x i = ap (λ q. is_under_way s g || (q && is_unit_taken d s (group_of d g))) l.one ∙ or_right (is_under_way s g) (is_unit_taken d s (group_of d g)) (found (group_of d g) refl)
            where
              found : (q : Option Group) → group_of d g ≡ q → is_unit_taken d s q ≡ true
              found None z = absurd (let i : is_some (group_of d g) ≡ false = ap (λ o. is_some o) z in let j = may.there in cc)
              found (Some o) z = any_on (λ n. is_on o.unit (group_of d n) && is_under_way s n) j lt
                  (subst (λ n. is_on n (group_of d j) && is_under_way s j ≡ true) (ap (λ z. unit_of z) z) (ap (λ q. q && is_under_way s j) (subst (λ z. is_of d z j ≡ true) (unit_is_in call win b) seen.0) ∙ e))
      busy_or_further false e = survey_right call win b may l (j + 1) (omega (arith, lt)) (λ i z on. cases (same_or_below i j z)
          (λ same. ap (λ n. is_under_way s n) same ∙ e) (λ z. seen.1 i z on))

  -- the words of the group were looked at
  pub looked_right : (call : GroupCall) (win : Window) → Begins g call win → MayCall d s g call → BeginDecides call (looked d win (word_of chip (word_number d (Word.Chosen g))) (word_of chip (word_number d (Word.Phase g))))
  looked_right call win b may =
      subst (λ q. BeginDecides call (if q then refused d win ErrorName.AdcBufferUninit else (if phase_under_way (phase_in (word_of chip (word_number d (Word.Phase g)))) then refused d win ErrorName.AdcBusy else Goes (if takes_one d then survey d win 0 else begin d win)))) (sym chosen)
      (subst (λ q. BeginDecides call (if not (is_some (group_at s g).chosen) then refused d win ErrorName.AdcBufferUninit else (if q then refused d win ErrorName.AdcBusy else Goes (if takes_one d then survey d win 0 else begin d win)))) (sym known) (refused_or_goes (is_some (group_at s g).chosen) refl (is_under_way s g) refl (takes_one d) refl))
    where
      was : GroupAgrees d (word_of chip) s g
      was = (h.settled may.on).groups g may.there

      chosen : (word_of chip (word_number d (Word.Chosen g)) == 0) ≡ not (is_some (group_at s g).chosen)
      chosen = ap (λ n. n == 0) was.chosen ∙ none_chosen (group_at s g).chosen

      known : phase_under_way (phase_in (word_of chip (word_number d (Word.Phase g)))) ≡ is_under_way s g
      known = ap (λ p. phase_under_way (phase_in p)) was.phase ∙ phase_way (group_at s g).status (has_turn s g) (group_at s g).trigger

      refused_or_goes : (a : Bool) → is_some (group_at s g).chosen ≡ a → (q : Bool) → is_under_way s g ≡ q → (o : Bool) → takes_one d ≡ o → BeginDecides call (if not a then refused d win ErrorName.AdcBufferUninit else (if q then refused d win ErrorName.AdcBusy else Goes (if o then survey d win 0 else begin d win)))
      refused_or_goes false e q i o j = unbuffered call win b may e
      refused_or_goes true e true i o j = busied call win b may e (ap (λ z. z || (takes_one d && is_unit_taken d s (group_of d g))) i)
      refused_or_goes true e false i true j = survey_right call win b may (record { chosen = e; quiet = i; one = j }) 0 (omega arith) (λ n z on. absurd (omega (arith, z)))
      refused_or_goes true e false i false j = begun call win b may (record { chosen = e; quiet = i; free = ap (λ z. z || (takes_one d && is_unit_taken d s (group_of d g))) i ∙ ap (λ z. z && is_unit_taken d s (group_of d g)) j })

-- ---- What windows decide, by the words that they have seen: stops, pulses and reads.

module _ (d : AdcTable) (fits : FitsAdc d) (f r : AdcBody → ℕ) (below : Reservations) (chip : Chip) (w : World) (s : AdcState) (h : Agrees d below chip w s) (m : ℕ → Bool) (y : ℕ) (g : ℕ) (K : Place) (k v : ℕ) (ends : place_ends K ≡ None) where
  -- ---- stops

  abbrev u : ℕ
  u = unit_of (group_of d g)

  -- the words that it has seen
  abbrev seen : StopSeen
  seen = record { phase = word_of chip (word_number d (Word.Phase g)); turn = word_of chip (word_number d (Word.Turn g)); running = word_of chip (word_number d (Word.Running u)); claim = word_of chip (word_number d (Word.Claim u)) }

  module _ (call : GroupCall) (is_stop : IsStop call) (may : MayCall d s g call) where
    abbrev StopDecides : Decided → Type 0
    StopDecides x = DecidedRight d f r below chip w s (Called (Call.Group g call)) (Load k) true v y fresh_history m K x

    was : GroupAgrees d (word_of chip) s g
    was = (h.settled may.on).groups g may.there

    -- the group is idle
    idle : (group_at s g).status ≡ Idle → StopDecides (acts_and_ends no_answer (owed d (stop_service (is_some (trigger_input (group_of d g)))) ErrorName.AdcIdle))
    idle e = answers_idle call is_stop may
      where
        wired : (q : Option Group) → is_triggered q ≡ is_some (trigger_input q)
        wired None = refl
        wired (Some x) = refl

        sees : (a b : Bool) → not a ≡ b → a ≡ not b
        sees true false i = refl
        sees false true i = refl
        sees _ _ i = absurd (cc)

        answers_idle : (c : GroupCall) → IsStop c → MayCall d s g c → DecidedRight d f r below chip w s (Called (Call.Group g c)) (Load k) true v y fresh_history m K (acts_and_ends no_answer (owed d (stop_service (is_some (trigger_input (group_of d g)))) ErrorName.AdcIdle))
        answers_idle StopGroupConversion i j =
            subst (λ q. DecidedRight d f r below chip w s (Called (Call.Group g StopGroupConversion)) (Load k) true v y fresh_history m K (acts_and_ends no_answer (owed d (stop_service q) ErrorName.AdcIdle))) (sym (sym (wired (group_of d g)) ∙ j.right))
            (refused_right d f r below chip w s h m y (Call.Group g StopGroupConversion) ErrorName.AdcIdle K k v ends
            (group_errors d s g StopGroupConversion j
            ∙ (ap (λ z. first_error Service.AdcStopGroupConversion (false ∷ false ∷ z ∷ is_idle (group_at s g).status ∷ false ∷ false ∷ [])) j.right
            ∙ ap (λ z. first_error Service.AdcStopGroupConversion (false ∷ false ∷ false ∷ is_idle z ∷ false ∷ false ∷ [])) e)))
        answers_idle DisableHardwareTrigger i j =
            subst (λ q. DecidedRight d f r below chip w s (Called (Call.Group g DisableHardwareTrigger)) (Load k) true v y fresh_history m K (acts_and_ends no_answer (owed d (stop_service q) ErrorName.AdcIdle))) (sym (sym (wired (group_of d g)) ∙ sees (is_triggered (group_of d g)) false j.right))
            (refused_right d f r below chip w s h m y (Call.Group g DisableHardwareTrigger) ErrorName.AdcIdle K k v ends
            (group_errors d s g DisableHardwareTrigger j
            ∙ (ap (λ z. first_error Service.AdcDisableHardwareTrigger (false ∷ false ∷ z ∷ is_idle (group_at s g).status ∷ false ∷ false ∷ [])) j.right
            ∙ ap (λ z. first_error Service.AdcDisableHardwareTrigger (false ∷ false ∷ false ∷ is_idle z ∷ false ∷ false ∷ [])) e)))
        answers_idle _ i j = absurd i

    -- it isn't
    awake : ((group_at s g).status ≡ Idle → ⊥) → StopDecides (makes (stopping d u g seen))
    awake busy =
        let turned : (seen.turn == 0) ≡ not (has_turn s g) = ap (λ n. n == 0) was.turn ∙ bit_none (has_turn s g) in
        let runs = ap (λ n. n == 1 + g) ((h.settled may.on).units u (unit_small d fits g may.there)).running ∙ running_round g s u in
        subst (λ q. StopDecides (makes (if q then (making (Some Event.Act) (quieted d g) nothing_more) else stop_by d u g (seen.running == 1 + g) (seen.claim == 2 + g)))) (sym turned)
        (subst (λ q. StopDecides (makes (if not (has_turn s g) then (making (Some Event.Act) (quieted d g) nothing_more) else stop_by d u g q (seen.claim == 2 + g)))) (sym runs) (by (has_turn s g) refl))
      where
        by : (q : Bool) → has_turn s g ≡ q → StopDecides (makes (if not q then (making (Some Event.Act) (quieted d g) nothing_more) else stop_by d u g (is_round_of g (round_at s u)) (seen.claim == 2 + g)))
        by true e = ((h, (refl, Stops_turn g call (is_round_of g (round_at s u)) (seen.claim == 2 + g) is_stop (Is_this_frame, may) busy e refl refl)), refl)
        by false e = ((h, (refl, Stops g call is_stop (Is_this_frame, may) busy e)), refl)

    pub stop_right : StopDecides (stop d u g seen)
    stop_right = subst (λ q. StopDecides (if q then acts_and_ends no_answer (owed d (stop_service (is_some (trigger_input (group_of d g)))) ErrorName.AdcIdle) else makes (stopping d u g seen))) (sym known) (by (group_at s g).status refl)
      where
        known : (seen.phase == 0) ≡ is_idle (group_at s g).status
        known = ap (λ n. n == 0) was.phase ∙ phase_idle (group_at s g).status (has_turn s g || (group_at s g).trigger)

        by : (x : Status) → (group_at s g).status ≡ x → StopDecides (if is_idle x then acts_and_ends no_answer (owed d (stop_service (is_some (trigger_input (group_of d g)))) ErrorName.AdcIdle) else makes (stopping d u g seen))
        by Idle e = idle e
        by _ e = awake (λ i. absurd (cc))

  -- ---- pulses

  -- the group that has the input of a mark listens to it
  listens_to : (i : ℕ) → has_input i (group_of d g) ≡ true → mark_at s i ≡ true → listener d s i ≡ Some g
  listens_to i has marked = option_as (listener d s i) (λ o. is_some o ≡ true → o ≡ Some g)
      (λ j e _. ap (λ n. Some n) (fits.alone j g i (input_of (group_of d j) (heard_by d s i j e).0) (input_of (group_of d g) has)))
      (λ e there. absurd (cc)) (h.sound.marks i marked)
    where
      input_of : (q : Option Group) → has_input i q ≡ true → trigger_input q ≡ Some i
      input_of q e = option_as (trigger_input q) (λ o. is_input i o ≡ true → o ≡ Some i)
          (λ j _ e. ap (λ n. Some n) (eq_is j i e)) (λ _ e. absurd (cc)) e

  pub pulse_right : (i : ℕ) → i < 4 → has_input i (group_of d g) ≡ true → mark_at s i ≡ true
      → DecidedRight d f r below chip w s (Entered (28 + i)) (Load k) false v y fresh_history m K (pulse d i g (word_of chip (word_number d (Word.Turn g))))
  pulse_right i few has marked = subst (λ q. DecidedRight d f r below chip w s (Entered (28 + i)) (Load k) false v y fresh_history m K (makes (pulse_by d i g q))) (sym turned) (by (has_turn s g) refl)
    where
      on : s.initialised ≡ true
      on = whether_as s.initialised (λ q. q ≡ true) (λ e. refl) (λ e. absurd (let off = h.sound.off e i in cc))

      there : (q : Option Group) → has_input i q ≡ true → is_some q ≡ true
      there None e = absurd (cc)
      there (Some x) e = refl

      pulsed : MayPulse d s i g
      pulsed = record { on = on; few = few; there = there (group_of d g) has; marked = marked; listens = listens_to i has marked }

      by : (q : Bool) → has_turn s g ≡ q → DecidedRight d f r below chip w s (Entered (28 + i)) (Load k) false v y fresh_history m K (makes (pulse_by d i g q))
      by true e = ((h, (refl, Pulses i g true Is_this_frame pulsed e)), refl)
      by false e = ((h, (refl, Pulses i g false Is_this_frame pulsed e)), refl)

      turned : (word_of chip (word_number d (Word.Turn g)) == 1) ≡ has_turn s g
      turned = ap (λ n. n == 1) ((h.settled on).groups g (there (group_of d g) has)).turn ∙ bit_one (has_turn s g)

  -- ---- Adc_ReadGroup

  read_errors : (x : Status) → MayCall d s g ReadGroup → (group_at s g).status ≡ x → error_by d (Call.Group g ReadGroup) (circumstances d s (Call.Group g ReadGroup)) ≡ first_error Service.AdcReadGroup (false ∷ false ∷ is_idle x ∷ false ∷ false ∷ false ∷ [])
  read_errors x may is = group_errors d s g ReadGroup may ∙ ap (λ z. first_error Service.AdcReadGroup (false ∷ false ∷ is_idle z ∷ false ∷ false ∷ false ∷ [])) is

  pub read_right : MayCall d s g ReadGroup → IsOnlyReader g below → DecidedRight d f r below chip w s (Called (Call.Group g ReadGroup)) (Load k) true v y fresh_history m K (read d g (word_of chip (word_number d (Word.Phase g))))
  read_right may alone = subst (λ p. DecidedRight d f r below chip w s (Called (Call.Group g ReadGroup)) (Load k) true v y fresh_history m K (read_by d g (phase_in p))) (sym ((h.settled may.on).groups g may.there).phase) (read_by_status (group_at s g).status refl (has_turn s g || (group_at s g).trigger) refl)
    where
      pins : (x : Status) → (group_at s g).status ≡ x → (x ≡ Completed) ⊎ (x ≡ StreamCompleted) → (z : Phase) → phase_number z ≡ phase_of (status_read (ends_with_stream (group_of d g)) x) true
          → DecidedRight d f r below chip w s (Called (Call.Group g ReadGroup)) (Load k) true v y fresh_history m K (Goes (Pins g z))
      pins x is some z e = ((h, (refl, ((Is_this_frame, may), alone, record { status = x; is = is; some = some; phase = e }))), refl)

      read_by_status : (x : Status) → (group_at s g).status ≡ x → (on : Bool) → has_turn s g || (group_at s g).trigger ≡ on → DecidedRight d f r below chip w s (Called (Call.Group g ReadGroup)) (Load k) true v y fresh_history m K (read_by d g (phase_in (phase_of x on)))
      read_by_status Idle is on so = refused_right d f r below chip w s h m y (Call.Group g ReadGroup) ErrorName.AdcIdle K k v ends (read_errors Idle may is)
      read_by_status Busy is on so = answered_right d f r below chip w s h m y (Call.Group g ReadGroup) (named ENotOk) K k v ends (read_errors Busy may is) (ap (λ z. reads d s g z) is)
      read_by_status Completed is on so = pins Completed is (inl refl) (phase_read (phase_in 2)) (sym (completed_phase d f r below chip w s h m y (ends_with_stream (group_of d g))))
      read_by_status StreamCompleted is true so = pins StreamCompleted is (inr refl) (phase_read (phase_in 3)) (sym (streamed_phase d f r below chip w s h m y g true is so))
      read_by_status StreamCompleted is false so = pins StreamCompleted is (inr refl) (phase_read (phase_in 4)) (sym (streamed_phase d f r below chip w s h m y g false is so))

-- ---- The steps of windows that look: those of calls and of pulses; and those that read the register of their line.

module _ (d : AdcTable) (fits : FitsAdc d) (f r : AdcBody → ℕ) (below : Reservations) (chip : Chip) (w : World) (s : AdcState) (m : ℕ → Bool) (y : ℕ) where
  abbrev missed : ℕ → Bool
  missed = missed_after (adc_machine d) w s m

  abbrev pub held : Window → List ℕ
  held win = map (λ x. word_of chip (word_number d x)) (words_of win)

  abbrev look_body : Window → List ℕ → AdcBody
  look_body win seen = record { table = d; place = Looks win seen }

  abbrev LooksRight : Window → Origin Call → FrameHistory → List ℕ → Type 0
  LooksRight win o p seen = RightOr (AdcGround d) (adc_bodies d f r) below chip w s (look_body win seen) o y p m (ended_at (adc_bodies d f r) body_ends (look_body win seen) (value_of chip (body_work (look_body win seen))))

  abbrev Looked : Window → Origin Call → FrameHistory → List ℕ → Type 0
  Looked win o p seen = AssertedAt (AdcGround d) (adc_bodies d f r) below chip w s (look_body win seen) o p

  -- ---- calls

  pub setup_looks : (g : ℕ) (b : ResultBuffer) (o : Origin Call) (p : FrameHistory) (seen : List ℕ) → InWindow d (Window.Setup g b) below w s o p → Looked (Window.Setup g b) o p seen → LooksRight (Window.Setup g b) o p seen
  setup_looks g b _ _ seen (Is_this_frame, may) stand = looks_right d f r below chip w s (Window.Setup g b) (Called (Call.Group g (SetupResultBuffer (Some b)))) y fresh_history m (omega arith) seen stand (λ k v. set_up_right d fits f r below chip w s stand.0 missed y g (Looks (Window.Setup g b) (held (Window.Setup g b))) k v refl b may)

  pub status_looks : (g : ℕ) (o : Origin Call) (p : FrameHistory) (seen : List ℕ) → InWindow d (Window.Status g) below w s o p → Looked (Window.Status g) o p seen → LooksRight (Window.Status g) o p seen
  status_looks g _ _ seen (Is_this_frame, may) stand = looks_right d f r below chip w s (Window.Status g) (Called (Call.Group g GetGroupStatus)) y fresh_history m (omega arith) seen stand (λ k v. status_right d f r below chip w s stand.0 missed y g (Looks (Window.Status g) (held (Window.Status g))) k v refl may)

  pub point_looks : (g : ℕ) (o : Origin Call) (p : FrameHistory) (seen : List ℕ) → InWindow d (Window.Point g) below w s o p → Looked (Window.Point g) o p seen → LooksRight (Window.Point g) o p seen
  point_looks g _ _ seen (Is_this_frame, may) stand = looks_right d f r below chip w s (Window.Point g) (Called (Call.Group g GetStreamLastPointer)) y fresh_history m (omega arith) seen stand (λ k v. point_right d f r below chip w s stand.0 missed y fits g (Looks (Window.Point g) (held (Window.Point g))) k v refl may)

  pub read_looks : (g : ℕ) (o : Origin Call) (p : FrameHistory) (seen : List ℕ) → InWindow d (Window.Read g) below w s o p → Looked (Window.Read g) o p seen → LooksRight (Window.Read g) o p seen
  read_looks g _ _ seen ((Is_this_frame, may), alone) stand = looks_right d f r below chip w s (Window.Read g) (Called (Call.Group g ReadGroup)) y fresh_history m (omega arith) seen stand (λ k v. read_right d fits f r below chip w s stand.0 missed y g (Looks (Window.Read g) (held (Window.Read g))) k v refl may alone)

  pub start_looks : (g : ℕ) (o : Origin Call) (p : FrameHistory) (seen : List ℕ) → InWindow d (Window.Start g) below w s o p → Looked (Window.Start g) o p seen → LooksRight (Window.Start g) o p seen
  start_looks g _ _ seen (Is_this_frame, may) stand = looks_right d f r below chip w s (Window.Start g) (Called (Call.Group g StartGroupConversion)) y fresh_history m (omega arith) seen stand (λ k v. looked_right d fits f r below chip w s stand.0 missed y g (Looks (Window.Start g) (held (Window.Start g))) k v refl StartGroupConversion (Window.Start g) Begins_start may)

  pub enable_looks : (g : ℕ) (o : Origin Call) (p : FrameHistory) (seen : List ℕ) → InWindow d (Window.Enable g) below w s o p → Looked (Window.Enable g) o p seen → LooksRight (Window.Enable g) o p seen
  enable_looks g _ _ seen (Is_this_frame, may) stand = looks_right d f r below chip w s (Window.Enable g) (Called (Call.Group g EnableHardwareTrigger)) y fresh_history m (omega arith) seen stand (λ k v. looked_right d fits f r below chip w s stand.0 missed y g (Looks (Window.Enable g) (held (Window.Enable g))) k v refl EnableHardwareTrigger (Window.Enable g) Begins_enable may)

  pub stop_looks : (u g : ℕ) (o : Origin Call) (p : FrameHistory) (seen : List ℕ) → InWindow d (Window.Stop u g) below w s o p → Looked (Window.Stop u g) o p seen → LooksRight (Window.Stop u g) o p seen
  stop_looks u g o p seen is stand = subst (λ z. Looked (Window.Stop z g) o p seen → LooksRight (Window.Stop z g) o p seen) (unit_is d fits u (group_of d g) is.0) (by o p is.1.0 is.1.1 is.1.2) stand
    where
      by : (o : Origin Call) (p : FrameHistory) (call : GroupCall) → IsStop call → IsThisFrame (Called (Call.Group g call)) fresh_history o p × MayCall d s g call → Looked (Window.Stop (unit_of (group_of d g)) g) o p seen → LooksRight (Window.Stop (unit_of (group_of d g)) g) o p seen
      by _ _ call stop (Is_this_frame, may) stand = looks_right d f r below chip w s (Window.Stop (unit_of (group_of d g)) g) (Called (Call.Group g call)) y fresh_history m (omega arith) seen stand (λ k v. stop_right d fits f r below chip w s stand.0 missed y g (Looks (Window.Stop (unit_of (group_of d g)) g) (held (Window.Stop (unit_of (group_of d g)) g))) k v refl call stop may)

  -- ---- pulses

  pub trigger_looks : (i g : ℕ) (o : Origin Call) (p : FrameHistory) (seen : List ℕ) → InWindow d (Window.Trigger i g) below w s o p → Looked (Window.Trigger i g) o p seen → LooksRight (Window.Trigger i g) o p seen
  trigger_looks i g _ _ seen (Is_this_frame, few, has, marked) stand = looks_right d f r below chip w s (Window.Trigger i g) (Entered (28 + i)) y fresh_history m (omega arith) seen stand (λ k v. pulse_right d fits f r below chip w s stand.0 missed y g (Looks (Window.Trigger i g) (held (Window.Trigger i g))) k v refl i few has marked)

  -- ---- a step by what it decides

  pub decides_so : (k : Place) (x : Decided) (o : Origin Call) (p : FrameHistory) → body_takes (record { table = d; place = k }) (value_of chip (body_work (record { table = d; place = k }))) ≡ (record { table = d; place = (follows k x).0 }, (follows k x).1)
      → DecidedRight d f r below chip w s o (body_work (record { table = d; place = k })) ((adc_bodies d f r).clean (record { table = d; place = k })) (value_of chip (body_work (record { table = d; place = k }))) y p missed k x
      → RightOr (AdcGround d) (adc_bodies d f r) below chip w s (record { table = d; place = k }) o y p m (ended_at (adc_bodies d f r) body_ends (record { table = d; place = k }) (value_of chip (body_work (record { table = d; place = k }))))
  decides_so k x o p is right = steps_so d f r below chip w s m y o p (record { table = d; place = k }) (record { table = d; place = (follows k x).0 }) (follows k x).1 is (none_ends (place_ends (follows k x).0) (follows k x).1.done right.1) right.0

  -- ---- surveys

  on_there : (q : Option Group) (u : ℕ) → is_on u q ≡ true → is_some q ≡ true
  on_there None u e = absurd (cc)
  on_there (Some x) u e = refl

  pub survey_step : (call : GroupCall) (win : Window) (g j : ℕ) → Begins g call win → MayCall d s g call → HasLooked d win s → HasSurveyed d win s j → Agrees d below chip w s
      → RightOr (AdcGround d) (adc_bodies d f r) below chip w s (record { table = d; place = Surveys win j }) (Called (Call.Group g call)) y fresh_history m (ended_at (adc_bodies d f r) body_ends (record { table = d; place = Surveys win j }) (value_of chip (body_work (record { table = d; place = Surveys win j }))))
  survey_step _ _ g j Begins_start may looked seen h =
      decides_so (Surveys (Window.Start g) j) (surveyed d (Window.Start g) j (word_of chip (word_number d (Word.Phase j)))) (Called (Call.Group g StartGroupConversion)) fresh_history refl
      (surveyed_right d fits f r below chip w s h missed y g (Surveys (Window.Start g) j) _ _ refl StartGroupConversion (Window.Start g) Begins_start may (record { chosen = looked.0; quiet = looked.1; one = looked.2 }) j (within d j (on_there (group_of d j) (unit_of (group_of d g)) seen.0)) seen)
  survey_step _ _ g j Begins_enable may looked seen h =
      decides_so (Surveys (Window.Enable g) j) (surveyed d (Window.Enable g) j (word_of chip (word_number d (Word.Phase j)))) (Called (Call.Group g EnableHardwareTrigger)) fresh_history refl
      (surveyed_right d fits f r below chip w s h missed y g (Surveys (Window.Enable g) j) _ _ refl EnableHardwareTrigger (Window.Enable g) Begins_enable may (record { chosen = looked.0; quiet = looked.1; one = looked.2 }) j (within d j (on_there (group_of d j) (unit_of (group_of d g)) seen.0)) seen)

  -- ---- registers

  off_line : (i : ℕ) → i < 4 → mark_at s i ≡ false → missed (28 + i) ≡ true
  off_line i lt none = or_right (m (28 + i)) (not (ready d w s (28 + i))) (ap (λ q. not q) (not_ready i lt none))
    where
      not_ready : (i : ℕ) → i < 4 → mark_at s i ≡ false → ready d w s (28 + i) ≡ false
      not_ready zero lt e = and_right s.initialised (mark_at s 0) e
      not_ready (suc zero) lt e = and_right s.initialised (mark_at s 1) e
      not_ready (suc (suc zero)) lt e = and_right s.initialised (mark_at s 2) e
      not_ready (suc (suc (suc zero))) lt e = and_right s.initialised (mark_at s 3) e
      not_ready (suc (suc (suc (suc i)))) lt e = absurd (omega (arith, lt))

  pub trigger_flag : (i g : ℕ) (o : Origin Call) (p : FrameHistory) → InFlag d (Window.Trigger i g) below o p → Agrees d below chip w s
      → RightOr (AdcGround d) (adc_bodies d f r) below chip w s (record { table = d; place = Flag (Window.Trigger i g) }) o y p m (ended_at (adc_bodies d f r) body_ends (record { table = d; place = Flag (Window.Trigger i g) }) (value_of chip (body_work (record { table = d; place = Flag (Window.Trigger i g) }))))
  trigger_flag i g _ _ (Is_this_frame, few, has) h = decides_so (Flag (Window.Trigger i g)) (flagged (Window.Trigger i g) chip.converters.pulses) (Entered (28 + i)) fresh_history refl (by (has_bit chip.converters.pulses i) (h.triggers.flags i few))
    where
      by : (q : Bool) → q ≡ mark_at s i → DecidedRight d f r below chip w s (Entered (28 + i)) (Read TriggerFlags) false chip.converters.pulses y fresh_history missed (Flag (Window.Trigger i g)) (if q then Goes (looking (Window.Trigger i g)) else over)
      by true e = ((h, (refl, ((Is_this_frame, few, has, sym e), (refl, omega arith, tt)))), refl)
      by false e = ((h, record { may = (ap (λ q. q) (off_line i few (sym e)), refl); served = false; owed = refl; shown = λ z. absurd (cc); report = refl }), refl)

-- ---- The mask is opened at the end of a window, and closed at the begin of one.

module _ (d : AdcTable) (fits : FitsAdc d) (f r : AdcBody → ℕ) (below : Reservations) (chip : Chip) (w : World) (s : AdcState) (m : ℕ → Bool) (y : ℕ) (o : Origin Call) (p : FrameHistory) where
  abbrev opening : Outside → AdcBody
  opening x = record { table = d; place = Opens x }

  abbrev OpensRight : Outside → Type 0
  OpensRight x = RightOr (AdcGround d) (adc_bodies d f r) below chip w s (opening x) o y p m (ended_at (adc_bodies d f r) body_ends (opening x) (value_of chip (body_work (opening x))))

  unmasked : (held : Reservations) → Agrees d held chip w s → Agrees d held (chip_after chip Unmask y) w s
  unmasked held h = (bare_right d fits).agrees_apart held chip w s Unmask y (λ origin. refl) h

  masked : (held : Reservations) → Agrees d held chip w s → Agrees d held (chip_after chip Mask y) w s
  masked held h = (bare_right d fits).agrees_apart held chip w s Mask y (λ origin. refl) h

  pub opens_step : (x : Outside) → place_out d x below o p → Agrees d (with_holds o p.acted (hold_out x) below) chip w s → OpensRight x
  opens_step (Outside.Reads g b) at h = (unmasked _ h, (refl, (refl, some_inputs d fits g h.right.0.2, at.0, at.1)))
  opens_step _ at h = (unmasked _ h, (refl, at))

  abbrev closing : Window → AdcBody
  closing win = record { table = d; place = Out (Outside.Closes win) }

  abbrev ClosesRight : Window → Type 0
  ClosesRight win = RightOr (AdcGround d) (adc_bodies d f r) below chip w s (closing win) o y p m (ended_at (adc_bodies d f r) body_ends (closing win) (value_of chip (body_work (closing win))))

  pub closes_step : (win : Window) → MayClose d win below o p → Agrees d (with_holds o p.acted (hold_in win) below) chip w s → ClosesRight win
  closes_step (Window.Yield u) at h = (masked _ h, (refl, ((at.0, at.1, h.right.0), (refl, omega arith, tt))))
  closes_step (Window.Begin u) at h = (masked _ h, (refl, ((at.0, at.1, h.right.0), (refl, omega arith, tt))))
  closes_step (Window.Keep q) at h = (masked _ h, (refl, ((at.0, at.1, h.right.0.0), (refl, omega arith, tt))))
  closes_step (Window.Serve t) at h = (masked _ h, (refl, ((at.0, at.2, at.1), (refl, omega arith, tt))))
  closes_step win at h = absurd at
