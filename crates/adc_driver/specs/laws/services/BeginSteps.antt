-- What lies below a frame that begins: no frame of the module where the call is about the whole module, and no handler of the same line.
-- From adc_groups: services.LookSteps, bookkeeping.Lawful, services.InitRight and 12 more.
-- Used by bookkeeping.Joined, bookkeeping.CallBounds.
use Rattle.std.proofs.Common.{◌≡◌, ◌+◌, ◌-◌, ◌<◌, ◌≤◌, ◌&&◌, ◌||◌, ◌==◌, [], ◌∷◌, ◌∙◌, if◌then◌else◌}
use Rattle.adc_driver.specs.Terms
use Terms.{Act, acts_by, adc_bodies, adc_looked, adc_machine, adc_setting, AdcBody, AdcGround, AdcState, AdcTable}
use Terms.{Agrees, AllLet, AllLower, answer_refused, AnyBody, ap, arith, asks_no, AssertedAt, begun_by, Beside}
use Terms.{bit_none, blocks, Bool, by_line, Call, Called, CanBegin, Chip, Circumstances, circumstances, class_of}
use Terms.{close_survey, cond, Decides, DisableHardwareTrigger, EnableHardwareTrigger, Entered, error_by, error_told}
use Terms.{ErrorName, false, first_on, first_on_input, FitsAdc, fresh_history, GetGroupStatus, GetStreamLastPointer}
use Terms.{Group, group_of, group_of_input, group_on, GroupCall, handled_body, handled_by, has_input}
use Terms.{has_notification, is_closed, is_some, Is_this_frame, is_trigger_line, is_triggered, is_unit_line, is_used}
use Terms.{is_wrong, IsAlone, IsLower, length, level_of, List, Looked, looked_by, mark_of, MayCall, nat_lt, nat_tests}
use Terms.{next_of, None, not, not-false, not_reset, Notification, Notifies, on_own, only_reader, Option, Origin}
use Terms.{outcome, Place, place_for, ReadGroup, refl, Reservations, Second, SetupResultBuffer, slice_index_or, small}
use Terms.{Some, StartGroupConversion, STATE, steps_of, StopGroupConversion, subst, suc, survey, survey_by, Surveys}
use Terms.{sym, tells_error, true, unit_level, whether_as, Window, within, word_of, World, zero, ℕ}
use Rattle.adc_driver.specs.laws.{services.InitWords.{clearing_begins}, services.InitRight.{init_bodies, init_within}}
use Rattle.adc_driver.specs.laws.bookkeeping.Lawful.{adc, any_bodies}
use Rattle.service_outline.specs.declared.body.Looked.TheVariants.{Goes}

-- above frames of the module nothing begins that is about the whole module
whole_blocks : (d : AdcTable) (o : Origin Call) → blocks (class_of Call.Init) (mark_of (adc_setting d) o) ≡ true
whole_blocks d (Called (Call.Group g GetGroupStatus)) = refl
whole_blocks d _ = refl

pub whole_begins : (d : AdcTable) (below : Reservations) → AllLet (adc_setting d) (class_of Call.Init) below → below ≡ []
whole_begins d [] lets = refl
whole_begins d (h ∷ hs) lets = absurd (let on = whole_blocks d h.by in let off = lets.0 in cc)

-- no frame below is the handler of this line, since each is of a lower level
not_lower : (n : ℕ) → nat_lt n n ≡ true → ⊥
not_lower n e = grind (arith, nat_tests)

pub alone_on : (d : AdcTable) (l : ℕ) (below : Reservations) → AllLower (adc_setting d) (level_of d l) below → IsAlone l below
alone_on d l [] lower = tt
alone_on d l (h ∷ hs) lower = (λ e. not_lower (level_of d l) (subst (λ o. IsLower (adc_setting d) (level_of d l) o) e lower.0), alone_on d l hs lower.1)

-- ---- Which errors of a call the state word and its arguments show: they are the machine's, and where there is none the call may go on.

-- what is known before a group's words are looked at
abbrev pub known_by : (uninitialised : Bool) → Circumstances
known_by u = record { uninitialised = u; unbuffered = false; idle = false; busy = false }

abbrev pub early : AdcTable → AdcState → Call → Option ErrorName
early d s call = error_by d call (known_by (not s.initialised))

-- an error that is found stays the first where others may follow
go_on : (a : Bool) (x n : ErrorName) {p q : Option ErrorName} → (p ≡ Some n → q ≡ Some n) → (if a then Some x else p) ≡ Some n → (if a then Some x else q) ≡ Some n
go_on true x n others h = h
go_on false x n others h = others h

no_more : (n : ErrorName) {q : Option ErrorName} → ◌≡◌ {A = Option ErrorName} None (Some n) → q ≡ Some n
no_more n e = absurd (cc)

-- an error that the state word and the arguments show is the machine's
pub refused_so : (d : AdcTable) (s : AdcState) (call : Call) (x : ErrorName) → early d s call ≡ Some x → error_by d call (circumstances d s call) ≡ Some x
refused_so d s Call.DeInit x e = go_on (not s.initialised) ErrorName.AdcUninit x (no_more x) e
refused_so d s (Call.Group g (SetupResultBuffer b)) x e = go_on (not s.initialised) ErrorName.AdcUninit x (go_on (not (is_some (group_of d g))) ErrorName.AdcParamGroup x (go_on (not (is_some b)) ErrorName.AdcParamPointer x (no_more x))) e
refused_so d s (Call.Group g StartGroupConversion) x e = go_on (not s.initialised) ErrorName.AdcUninit x (go_on (not (is_some (group_of d g))) ErrorName.AdcParamGroup x (go_on (is_triggered (group_of d g)) ErrorName.AdcWrongTriggSrc x (no_more x))) e
refused_so d s (Call.Group g StopGroupConversion) x e = go_on (not s.initialised) ErrorName.AdcUninit x (go_on (not (is_some (group_of d g))) ErrorName.AdcParamGroup x (go_on (is_triggered (group_of d g)) ErrorName.AdcWrongTriggSrc x (no_more x))) e
refused_so d s (Call.Group g ReadGroup) x e = go_on (not s.initialised) ErrorName.AdcUninit x (go_on (not (is_some (group_of d g))) ErrorName.AdcParamGroup x (no_more x)) e
refused_so d s (Call.Group g EnableHardwareTrigger) x e = go_on (not s.initialised) ErrorName.AdcUninit x (go_on (not (is_some (group_of d g))) ErrorName.AdcParamGroup x (go_on (not (is_triggered (group_of d g))) ErrorName.AdcWrongTriggSrc x (no_more x))) e
refused_so d s (Call.Group g DisableHardwareTrigger) x e = go_on (not s.initialised) ErrorName.AdcUninit x (go_on (not (is_some (group_of d g))) ErrorName.AdcParamGroup x (go_on (not (is_triggered (group_of d g))) ErrorName.AdcWrongTriggSrc x (no_more x))) e
refused_so d s (Call.Group g (Notification true)) x e = e
refused_so d s (Call.Group g GetStreamLastPointer) x e = go_on (not s.initialised) ErrorName.AdcUninit x (go_on (not (is_some (group_of d g))) ErrorName.AdcParamGroup x (no_more x)) e
refused_so d s _ x e = e

-- what stands of calls that find none
clear_two : (u t : Bool) (x y : ErrorName) → (if u then Some x else if t then Some y else None) ≡ None → (u ≡ false) × (t ≡ false)
clear_two false false x y e = (refl, refl)
clear_two _ _ x y e = absurd (cc)

clear_three : (u t w : Bool) (x y z : ErrorName) → (if u then Some x else if t then Some y else if w then Some z else None) ≡ None → (u ≡ false) × (t ≡ false) × (w ≡ false)
clear_three false false false x y z e = (refl, refl, refl)
clear_three _ _ _ x y z e = absurd (cc)

module _ (d : AdcTable) (s : AdcState) (g : ℕ) where
  abbrev there : Bool
  there = is_some (group_of d g)

  by_two : (call : GroupCall) → is_wrong call (group_of d g) ≡ false → (not s.initialised ≡ false) × (not (is_some (group_of d g)) ≡ false) → MayCall d s g call
  by_two call right facts = record { on = not-false s.initialised facts.0; there = not-false (is_some (group_of d g)) facts.1; right = right }

  by_three : (call : GroupCall) → (not s.initialised ≡ false) × (not (is_some (group_of d g)) ≡ false) × (is_wrong call (group_of d g) ≡ false) → MayCall d s g call
  by_three call facts = record { on = not-false s.initialised facts.0; there = not-false (is_some (group_of d g)) facts.1; right = facts.2 }

  pub may_call : (call : GroupCall) → early d s (Call.Group g call) ≡ None → MayCall d s g call
  may_call (SetupResultBuffer b) e = by_three (SetupResultBuffer b) (clear_three (not s.initialised) (not there) (not (is_some b)) ErrorName.AdcUninit ErrorName.AdcParamGroup ErrorName.AdcParamPointer e)
  may_call StartGroupConversion e = by_three StartGroupConversion (clear_three (not s.initialised) (not there) (is_triggered (group_of d g)) ErrorName.AdcUninit ErrorName.AdcParamGroup ErrorName.AdcWrongTriggSrc e)
  may_call StopGroupConversion e = by_three StopGroupConversion (clear_three (not s.initialised) (not there) (is_triggered (group_of d g)) ErrorName.AdcUninit ErrorName.AdcParamGroup ErrorName.AdcWrongTriggSrc e)
  may_call ReadGroup e = by_two ReadGroup refl (clear_two (not s.initialised) (not there) ErrorName.AdcUninit ErrorName.AdcParamGroup e)
  may_call EnableHardwareTrigger e = by_three EnableHardwareTrigger (clear_three (not s.initialised) (not there) (not (is_triggered (group_of d g))) ErrorName.AdcUninit ErrorName.AdcParamGroup ErrorName.AdcWrongTriggSrc e)
  may_call DisableHardwareTrigger e = by_three DisableHardwareTrigger (clear_three (not s.initialised) (not there) (not (is_triggered (group_of d g))) ErrorName.AdcUninit ErrorName.AdcParamGroup ErrorName.AdcWrongTriggSrc e)
  may_call (Notification true) e = by_three (Notification true) (clear_three (not s.initialised) (not there) (not (has_notification (group_of d g))) ErrorName.AdcUninit ErrorName.AdcParamGroup ErrorName.AdcNotifCapability e)
  may_call (Notification false) e = by_three (Notification false) (clear_three (not s.initialised) (not there) (not (has_notification (group_of d g))) ErrorName.AdcUninit ErrorName.AdcParamGroup ErrorName.AdcNotifCapability e)
  may_call GetGroupStatus e = by_two GetGroupStatus refl (clear_two (not s.initialised) (not there) ErrorName.AdcUninit ErrorName.AdcParamGroup e)
  may_call GetStreamLastPointer e = by_two GetStreamLastPointer refl (clear_two (not s.initialised) (not there) ErrorName.AdcUninit ErrorName.AdcParamGroup e)

-- ---- Where the body of a call begins, how its frame stands there.

abbrev pub body_at : AdcTable → Place → AdcBody
body_at d k = record { table = d; place = k }

-- a call about a group begins in a window
pub group_closed : (d : AdcTable) (f r : AdcBody → ℕ) (g : ℕ) (call : GroupCall) → is_closed ((adc_bodies d f r).assertion (body_at d (place_for d g call))) ≡ true
group_closed d f r g (SetupResultBuffer None) = refl
group_closed d f r g _ = refl

pub close_closed : (d : AdcTable) (f r : AdcBody → ℕ) → is_closed ((adc_bodies d f r).assertion (body_at d (survey d Window.Close 0))) ≡ true
close_closed d f r =
    elim (next_of d None 0) as (λ o. is_closed ((adc_bodies d f r).assertion (body_at d (survey_by d Window.Close o))) ≡ true)
    [ None ↦ refl | Some j ↦ refl ]

-- and its steps are those of its place
pub group_fuel : (d : AdcTable) (f r : AdcBody → ℕ) (g : ℕ) (call : GroupCall) → ((adc_bodies d f r).fuel (body_at d (place_for d g call)) ≡ f (body_at d (place_for d g call))) × ((adc_bodies d f r).room (body_at d (place_for d g call)) ≡ r (body_at d (place_for d g call)))
group_fuel d f r g (SetupResultBuffer None) = (refl, refl)
group_fuel d f r g _ = (refl, refl)

pub close_fuel : (d : AdcTable) (f r : AdcBody → ℕ) → ((adc_bodies d f r).fuel (body_at d (survey d Window.Close 0)) ≡ f (body_at d (survey d Window.Close 0))) × ((adc_bodies d f r).room (body_at d (survey d Window.Close 0)) ≡ r (body_at d (survey d Window.Close 0)))
close_fuel d f r =
    elim (next_of d None 0) as (λ o. let k = body_at d (survey_by d Window.Close o) in ((adc_bodies d f r).fuel k ≡ f k) × ((adc_bodies d f r).room k ≡ r k))
    [ None ↦ (refl, refl) | Some j ↦ (refl, refl) ]

module _ (d : AdcTable) (fits : FitsAdc d) (f r : AdcBody → ℕ) (chip : Chip) (w : World) (s : AdcState) where
  -- a call about a group that may begin
  pub group_begins : (below : Reservations) (g : ℕ) (call : GroupCall) → Agrees d below chip w s → Beside (adc_setting d) (Called (Call.Group g call)) below → MayCall d s g call
      → AssertedAt (AdcGround d) (adc_bodies d f r) below chip w s (body_at d (place_for d g call)) (Called (Call.Group g call)) fresh_history
  group_begins below g (SetupResultBuffer None) h beside may = absurd (let no = may.right in cc)
  group_begins below g StopGroupConversion h beside may = (h, (refl, ((on_own (group_of d g) may.there, (StopGroupConversion, tt, (Is_this_frame, may))), (refl, omega arith, tt))))
  group_begins below g ReadGroup h beside may = (h, (refl, (((Is_this_frame, may), only_reader d chip w s g below h.right beside), (refl, omega arith, tt))))
  group_begins below g DisableHardwareTrigger h beside may = (h, (refl, ((on_own (group_of d g) may.there, (DisableHardwareTrigger, tt, (Is_this_frame, may))), (refl, omega arith, tt))))
  group_begins below g (Notification on) h beside may = (h, (refl, Notifies g on (Is_this_frame, may)))
  group_begins below g _ h beside may = (h, (refl, ((Is_this_frame, may), (refl, omega arith, tt))))

  -- and the one that closes the module
  pub close_begins : Agrees d [] chip w s → s.initialised ≡ true → AssertedAt (AdcGround d) (adc_bodies d f r) [] chip w s (body_at d (survey d Window.Close 0)) (Called Call.DeInit) fresh_history
  close_begins h on = (close_survey d fits f r chip w s h (λ n. false) 0 (Surveys Window.Close 0) 0 0 refl on 0 (omega arith) (λ j lt of. absurd (omega (arith, lt)))).0

-- ---- The handler of a line that an object uses begins at the register that tells whether the line is ready.

-- ---- the group of a trigger input

-- a group among these that the input triggers has a place
found_at : (i : ℕ) (ks : List (Option Group)) → is_some (first_on_input ks i) ≡ true → (n : ℕ) × (n < length ks) × (has_input i (slice_index_or ks n None) ≡ true)
found_at i [] e = absurd (cc)
found_at i (k ∷ ks) e = by (has_input i k) refl e (λ z. found_at i ks z)
  where
    by : (q : Bool) → has_input i k ≡ q → is_some (cond q k (first_on_input ks i)) ≡ true → (is_some (first_on_input ks i) ≡ true → (n : ℕ) × (n < length ks) × (has_input i (slice_index_or ks n None) ≡ true)) → (n : ℕ) × (n < length (k ∷ ks)) × (has_input i (slice_index_or (k ∷ ks) n None) ≡ true)
    by true f z rest = (0, omega arith, f)
    by false f z rest = let x = rest z in (suc x.0, (let lt = x.1 in omega (arith, lt)), x.2)

-- where one of so many groups is triggered by the input, so is the first that is found
found_first : (d : AdcTable) (i many from n : ℕ) → from ≤ n → n < from + many → has_input i (group_of d n) ≡ true → has_input i (group_of d (first_on d i many from)) ≡ true
found_first d i zero from n le lt on = absurd (omega (arith, le, lt))
found_first d i (suc many) from n le lt on = whether_as (has_input i (group_of d from)) (λ q. has_input i (group_of d (if q then from else first_on d i many (from + 1))) ≡ true)
    (λ e. e)
    (λ e. found_first d i many (from + 1) n (past from n e on le) (omega (arith, lt)) on)
  where
    past : (from n : ℕ) → has_input i (group_of d from) ≡ false → has_input i (group_of d n) ≡ true → from ≤ n → from + 1 ≤ n
    past from n off on le = grind (arith, le, ne from n off on)
      where
        ne : (from n : ℕ) → has_input i (group_of d from) ≡ false → has_input i (group_of d n) ≡ true → from ≡ n → ⊥
        ne from n off on e = let same : has_input i (group_of d from) ≡ has_input i (group_of d n) = ap (λ m. has_input i (group_of d m)) e in absurd (cc)

module _ (d : AdcTable) (fits : FitsAdc d) where
  -- a used input has a group below the last number
  pub input_group : (i : ℕ) → is_some (group_of_input d i) ≡ true → has_input i (group_of d (group_on d i 0)) ≡ true
  input_group i e =
      let x = found_at i d.groups e in
      let lt = x.1 in
      let small : x.0 < 16 = (let rows = fits.rows in omega (arith, lt, rows)) in
      found_first d i 16 0 x.0 (omega arith) small (subst (λ q. has_input i (if q then slice_index_or d.groups x.0 None else None) ≡ true) (sym (below x.0 small)) x.2)
    where
      below : (n : ℕ) → n < 16 → nat_lt n 16 ≡ true
      below n lt = grind (arith, nat_tests)

  -- a used line is one of a unit or of a trigger input
  pub used_line : (l : ℕ) → is_used d l ≡ true → is_unit_line l || is_trigger_line l ≡ true
  used_line l = by (is_unit_line l) (is_trigger_line l)
    where
      by : (u t : Bool) → cond u (is_some (unit_level d (l - 24))) (t && is_some (group_of_input d (l - 28))) ≡ true → u || t ≡ true
      by false false e = absurd (cc)
      by _ _ e = refl

  module _ (f r : AdcBody → ℕ) (below : Reservations) (chip : Chip) (w : World) (s : AdcState) (h : Agrees d below chip w s) where
    abbrev Enters : ℕ → Type 0
    Enters l = is_used d l ≡ true → AllLower (adc_setting d) (level_of d l) below → AssertedAt (AdcGround d) (adc_bodies d f r) below chip w s (handled_body d l) (Entered l) fresh_history

    -- a handler stands where it begins
    pub handler_begins : (l : ℕ) → Enters l
    handler_begins l used = by_line Enters
        (λ e lower. (h, (refl, (Is_this_frame, omega arith, alone_on d 24 below lower))))
        (λ e lower. (h, (refl, (Is_this_frame, omega arith, alone_on d 25 below lower))))
        (λ e lower. (h, (refl, (Is_this_frame, omega arith, input_group 0 e))))
        (λ e lower. (h, (refl, (Is_this_frame, omega arith, input_group 1 e))))
        (λ e lower. (h, (refl, (Is_this_frame, omega arith, input_group 2 e))))
        (λ e lower. (h, (refl, (Is_this_frame, omega arith, input_group 3 e))))
        l (used_line l used) used

-- ---- What the load of the state word decides for a call, and where handlers begin: what the driver owes of these.

-- the steps of bodies that begin, and the moves of their windows
pub record AreBounded (d : AdcTable) (f r : AdcBody → ℕ) : Type 0 where
  pub calling : (g : ℕ) (call : GroupCall) → is_some (group_of d g) ≡ true → (f (body_at d (place_for d g call)) ≤ steps_of d (Called (Call.Group g call)) - 7) × (r (body_at d (place_for d g call)) ≤ 29)
  pub closing : (f (body_at d (survey d Window.Close 0)) ≤ steps_of d (Called Call.DeInit) - 7) × (r (body_at d (survey d Window.Close 0)) ≤ 29)
  pub handling : (l : ℕ) → is_used d l ≡ true → (6 + f (handled_body d l) ≤ steps_of d (Entered l)) × (2 + r (handled_body d l) ≤ 32)

module _ (d : AdcTable) (fits : FitsAdc d) (f r : AdcBody → ℕ) (bounded : AreBounded d f r) where
  -- ---- calls

  module _ (below : Reservations) (chip : Chip) (w : World) (s : AdcState) (h : Agrees d below chip w s) where
    abbrev Looks : Call → Looked AnyBody → Type 0
    Looks call l = Decides (adc d f r (init_bodies d)) below chip w s call l

    declines : (call : Call) (e : ErrorName) → early d s call ≡ Some e → Looks call (looked_by (record { call = call; table = d }) (Some e))
    declines call e is = record {
      told = tells_error (answer_refused call) e;
      is = λ times. ap (λ y. Some (acts_by d s call y)) (refused_so d s call e is);
      tells = error_told (adc_machine d) call (answer_refused call) e;
      reset = asks_no (adc_machine d) call (Some Act) (Some (outcome s (tells_error (answer_refused call) e))) (not_reset call);
      polls = refl;
    }

    group_looks : (g : ℕ) (call : GroupCall) → Beside (adc_setting d) (Called (Call.Group g call)) below → early d s (Call.Group g call) ≡ None → Looks (Call.Group g call) (begun_by d (Call.Group g call))
    group_looks g call beside clear =
        let may = may_call d s g call clear in
        subst (λ n. Looks (Call.Group g call) (begun_at n)) (sym (few g (within d g may.there))) (record {
          at = group_begins d fits f r chip w s below g call h beside may;
          closed = group_closed d f r g call;
          fuel = subst (λ n. n ≤ steps_of d (Called (Call.Group g call)) - 7) (sym (group_fuel d f r g call).0) (bounded.calling g call may.there).0;
          room = subst (λ n. n ≤ 29) (sym (group_fuel d f r g call).1) (bounded.calling g call may.there).1;
        })
      where
        begun_at : ℕ → Looked AnyBody
        begun_at n = Goes (Second (body_at d (place_for d n call)))

        few : (n : ℕ) → n < 16 → small n ≡ n
        few n lt = let on : nat_lt n 16 ≡ true = grind (arith, nat_tests) in ap (λ q. if q then n else 16) on

    close_looks : below ≡ [] → early d s Call.DeInit ≡ None → Looks Call.DeInit (begun_by d Call.DeInit)
    close_looks none clear =
        subst (λ hs. Agrees d hs chip w s → Decides (adc d f r (init_bodies d)) hs chip w s Call.DeInit (begun_by d Call.DeInit)) (sym none) (λ a. record {
          at = close_begins d fits f r chip w s a (not-false s.initialised (whether_as (not s.initialised) (λ u. (if u then Some ErrorName.AdcUninit else None) ≡ None → u ≡ false) (λ _ e. absurd (cc)) (λ _ e. refl) clear));
          closed = close_closed d f r;
          fuel = subst (λ n. n ≤ steps_of d (Called Call.DeInit) - 7) (sym (close_fuel d f r).0) bounded.closing.0;
          room = subst (λ n. n ≤ 29) (sym (close_fuel d f r).1) bounded.closing.1;
        }) h

    init_looks : below ≡ [] → early d s Call.Init ≡ None → Looks Call.Init (begun_by d Call.Init)
    init_looks none clear =
        subst (λ hs. Agrees d hs chip w s → Decides (adc d f r (init_bodies d)) hs chip w s Call.Init (begun_by d Call.Init)) (sym none)
        (λ a. record { at = (clearing_begins d chip w s (whether_as s.initialised (λ q. (if not (not q) then Some ErrorName.AdcAlreadyInitialized else None) ≡ None → q ≡ false) (λ _ e. absurd (cc)) (λ _ e. refl) clear) a, ((Is_this_frame, refl), refl)); closed = refl; fuel = init_within d fits; room = omega arith }) h

    goes_on : (call : Call) → Beside (adc_setting d) (Called call) below → early d s call ≡ None → Looks call (begun_by d call)
    goes_on Call.Init beside clear = init_looks (whole_begins d below beside) clear
    goes_on Call.DeInit beside clear = close_looks (whole_begins d below beside) clear
    goes_on (Call.Group g call) beside clear = group_looks g call beside clear

    look_by : (call : Call) → Beside (adc_setting d) (Called call) below → (e : Option ErrorName) → early d s call ≡ e → Looks call (looked_by (record { call = call; table = d }) e)
    look_by call beside None e = goes_on call beside e
    look_by call beside (Some x) e = declines call x e

    -- by the state word, which says whether the module is initialised
    pub looks : (call : Call) → Beside (adc_setting d) (Called call) below → Looks call (adc_looked (record { call = call; table = d }) (word_of chip STATE))
    looks call beside = subst (λ u. Looks call (looked_by (record { call = call; table = d }) (error_by d call (known_by u)))) (sym (ap (λ v. v == 0) h.state ∙ bit_none s.initialised)) (look_by call beside (early d s call) refl)

  -- ---- handlers

  -- a line is used whose handler has a body
  handled_so : (line : ℕ) (k : AnyBody) → handled_by d line (is_used d line) ≡ Some k → (is_used d line ≡ true) × (◌≡◌ {A = AnyBody} (Second (handled_body d line)) k)
  handled_so line k = whether_as (is_used d line) (λ q. handled_by d line q ≡ Some k → (q ≡ true) × (◌≡◌ {A = AnyBody} (Second (handled_body d line)) k)) (λ _ e. (refl, cc)) (λ _ e. absurd (cc))

  pub enters : (line : ℕ) (k : AnyBody) → handled_by d line (is_used d line) ≡ Some k → CanBegin (adc d f r (init_bodies d)) k (Entered line)
  enters line k e = let so = handled_so line k e in subst (λ x. CanBegin (adc d f r (init_bodies d)) x (Entered line)) so.1 (record {
    at = λ below chip w s beside h. handler_begins d fits f r below chip w s h line so.0 beside;
    closed = refl;
    unseen = tt;
    room = (bounded.handling line so.0).1;
  })

  pub line_steps : (line : ℕ) (k : AnyBody) → handled_by d line (is_used d line) ≡ Some k → 6 + (any_bodies d f r (init_bodies d)).fuel k ≤ steps_of d (Entered line)
  line_steps line k e = let so = handled_so line k e in subst (λ x. 6 + (any_bodies d f r (init_bodies d)).fuel x ≤ steps_of d (Entered line)) so.1 (bounded.handling line so.0).0
